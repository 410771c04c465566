-- The separator of a record that is too large: what its code requires, and what it leaves.
use Rattle.std.specs.Prelude.{◌≡◌, refl, Bool, List, ℕ, ◌-◌, ◌<◌, ◌≤◌, length}
use Rattle.std.proofs.Common.{sym, ap, subst, ◌∙◌, arith}
use Rattle.theory_row_bytes.specs.RowAt.{RecordIs, record_long, row_starts}
use Rattle.model.specs.Limits.{capacity}
use Rattle.model.specs.Row.{Row, nil, size, base, record_size, Config}
use Rattle.model.specs.Reading.{page_of}
use Rattle.model.specs.Growth.{Work, Cut, start_of, start_of_d, separate, cut_from, cut_of, split_point, separator}
use Rattle.theory_rows.specs.Bound.{base_le}
use Rattle.theory_rows.specs.Fits.{Fits}
use Rattle.base_layout.specs.declared.Growing.{Growing}
use Rattle.base_layout.specs.Setup.{setup_of}
use Rattle.base_layout.specs.Growing.{separator_size}
use Rattle.theory_page_memory.specs.Memory.{WorkMem, OutMem, group_m, separator_m}
use Rattle.theory_page_memory.specs.Steps.{split_same}
use Rattle.grow_pages.specs.Links.{Below}
use Rattle.grow_groups.specs.Used.{Tables, InUse}
use Rattle.grow_groups.specs.Step.{Step}
use Rattle.grow_split.specs.declared.Split.{Split}
use Rattle.grow_split.specs.Separate.{Sep, Separated}

-- The bytes l are a record that is too large, and its separator has room; `work` is what the model carries along.
pub record Oversize (g : Growing) (l : List ℕ) (st : Config) (row : Row) (work : Work) : Type 0 where
  pub setup : setup_of st ≡ g.setup
  pub is : RecordIs l row
  pub big : capacity < record_size row
  pub small : record_size row < 65536
  pub below : Below g.setup.pages row
  pub good : Fits (separator st g.near row work).0
  pub most : size (separator st g.near row work).0 ≤ separator_size

-- The same, with its split point and the tables.
pub record Large (g : Growing) (p : ℕ) (l : List ℕ) (u : Tables) : Type 0 where
  pub st : Config
  pub row : Row
  pub work : Work
  pub over : Oversize g l st row work
  pub point : p ≡ split_point st (record_size row)
  pub marked : InUse u work

-- What the split leaves of the tables, of the image and of out: what the model's separator and its memory say.
abbrev pub Severed : (st : Config) → (g : Growing) → (row : Row) → (work : Work) → (end : ℕ) → (full : Bool) → (before after : Tables) → (was image old new : List ℕ) → Type 0
Severed st g row work end full u u' img img' out out' =
    let s : WorkMem = (work, page_of img) in
    Step g row s (separator_m st g.near row s) 0 end full u img out u' img' out'

module _ {g : Growing} {p : ℕ} {l : List ℕ} {u : Tables} (w : Large g p l u) where
  pub large_long : (1 ≤ length l) × (length l < 65536)
  large_long = omega (arith, record_long w.row w.over.is, w.over.big, w.over.small)

  -- Its row starts at pos.
  module _ {pos : ℕ} (start : pos ≡ base w.row) (img : List ℕ) where
    abbrev s : WorkMem
    s = (w.work, page_of img)

    cut_is : cut_from w.st p pos nil w.row ≡ cut_of w.st w.row
    cut_is = λ i. cut_from w.st (w.point i) (start i) nil w.row

    pub model_is : separate (group_m w.st g.near) (cut_from w.st p pos nil w.row) s ≡ separator_m w.st g.near w.row s
    model_is = ap (λ (c : Cut). separate (group_m w.st g.near) c s) cut_is ∙ split_same w.st g.near w.row s

    -- It is ready for the split, in an out of n bytes.
    abbrev pub large_sep : {n : ℕ} → n ≡ separator_size → Sep g (record { pos = pos; end = length l; p = p }) l u img (n - 0)
    large_sep long = record {
      st = w.st;
      setup = w.over.setup;
      kids = record {
        row = w.row;
        stands = rw start (row_starts w.over.is);
        some = omega (arith, w.over.big, base_le w.row);
        ends = omega (arith, record_long w.row w.over.is, start);
        small = large_long.1;
      };
      below = w.over.below;
      state = s;
      same = record { used = w.marked; pages = λ _. refl };
      fits = subst (λ (o : OutMem). Fits o.0) (sym model_is) w.over.good;
      within = omega (arith, ap (λ (o : OutMem). size o.0) model_is, w.over.most);
    }

    -- What the code leaves of it, and where d starts.
    pub severed : {n : ℕ} (long : n ≡ separator_size) {r : Split} {u' : Tables} {i' o₀ o₁ : List ℕ} → Separated (large_sep long) 0 r o₀ u' i' o₁
        → Severed w.st g w.row w.work r.end r.full u u' img i' o₀ o₁ × (r.d ≡ start_of_d w.st w.row)
    severed long {r} {u'} {i'} {o₀} {o₁} k = (
      subst (λ (o : OutMem). Step g w.row s o 0 r.end r.full u img o₀ u' i' o₁) model_is k.0,
      k.1 ∙ (λ i. start_of (start i) (cut_is i)),
    )
