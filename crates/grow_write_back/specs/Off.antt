-- A record that is too large leaves its page, unless it is settled, and is split: what the code requires, and what it leaves.
use Rattle.std.specs.Prelude.{◌≡◌, refl, Bool, true, false, cond, ◌||◌, List, ℕ, ◌+◌, ◌*◌, ◌<◌, ◌≤◌, eqb, ℤ, length}
use Rattle.std.proofs.Common.{ap, ◌∙◌, arith}
use Rattle.std.proofs.Math.Bool.{or-true, or-false}
use Rattle.std.proofs.Math.IntN.{sub_ℕ}
use Rattle.std.proofs.lemmas.List.{length-replicate}
use Rattle.model.specs.Limits.{most_pages, page_size}
use Rattle.model.specs.Row.{Row, record_size, Config}
use Rattle.model.specs.Growth.{Work, counted, freed, split_point, start_of_d, lean_of}
use Rattle.model.specs.Claims.{InLean}
use Rattle.grow_split_point.specs.Lean.{lean_bounds}
use Rattle.theory_rows.specs.Laws.{cond_case}
use Rattle.theory_row_bytes.specs.RowAt.{record_long}
use Rattle.theory_page_memory.specs.Memory.{blank}
use Rattle.theory_check.specs.Tests.{unmarked}
use Rattle.theory_check.specs.Marks.{length_unmark}
use Rattle.grow_map.specs.Map as map
use Rattle.grow_map.specs.Map.{used_unmarked}
use Rattle.grow_pages.specs.Write.{set_page}
use Rattle.grow_pages.specs.Paged.{length_set_page}
use Rattle.base_layout.specs.declared.Growing.{Growing}
use Rattle.base_layout.specs.Growing.{buffer_size}
use Rattle.grow_groups.specs.Used.{Tables, tables, InUse, Past, AsLong, Env, env_with, past_unmarked}
use Rattle.grow_split.specs.Severed.{Oversize, Large, Severed}

-- What growth carries along when the record on page q is split: one split more, and page q free unless the record stays there.
abbrev pub leaves : (st : Config) → (stays : Bool) → (q : ℕ) → Row → Work → Work
leaves st stays q r w = cond stays (counted st r w) (freed st q (counted st r w))

-- The image, with the page free.
abbrev pub left_image : (g : Growing) → (stays : Bool) → (image : List ℕ) → List ℕ
left_image g stays img = cond (g.dry || stays) img (set_page g.near blank img)

-- The map, with the page free.
abbrev pub left_map : (g : Growing) → (stays : Bool) → (map : List ℕ) → List ℕ
left_map g stays m = cond stays m (unmarked m g.near)

-- The tables with it.
abbrev pub left_tables : (g : Growing) → (stays : Bool) → Tables → Tables
left_tables g stays u = tables u.widths (left_map g stays u.map)

-- The bytes l are a record that is too large, and its separator has room once the page is left.
pub record Off (g : Growing) (settled : ℕ) (l : List ℕ) (u : Tables) : Type 0 where
  pub st : Config
  pub row : Row
  pub stays : Bool
  pub bit : settled ≡ cond stays 1 0
  pub work : Work
  pub marked : InUse u work
  pub over : Oversize g l st row (leaves st stays g.near row work)
  pub range : g.setup.target ≤ 192
  pub small : record_size row ≤ buffer_size
  pub leans : InLean (lean_of st row)
  pub low : split_point st (record_size row) ≤ 8192

-- What the split leaves of a record, which stays on its page or not.
abbrev pub SplitOff : (st : Config) → (g : Growing) → (row : Row) → (work : Work) → (stays : Bool) → (end : ℕ) → (full : Bool)
    → (before u : Tables) → (img img₁ out₀ out₁ : List ℕ) → Type 0
SplitOff st g row work stays end full before u img img₁ out₀ out₁ =
    Severed st g row (leaves st stays g.near row work) end full (left_tables g stays before) u (left_image g stays img) img₁ out₀ out₁

-- ── the page that is left ──

pub left_settled : (settled : ℕ) (g : Growing) (m img : List ℕ) → (settled ≡ 0 → ⊥) → (stays : Bool) → settled ≡ cond stays 1 0
    → (m ≡ left_map g stays m) × (img ≡ left_image g stays img)
left_settled settled g m img h true e = (refl, rw or-true refl)
left_settled settled g m img h false e = absurd (h e)

pub left_marked : (settled : ℕ) (g : Growing) (m k img b : List ℕ) → settled ≡ 0 → k ≡ unmarked m g.near → b ≡ cond g.dry img (set_page g.near blank img)
    → (stays : Bool) → settled ≡ cond stays 1 0 → (k ≡ left_map g stays m) × (b ≡ left_image g stays img)
left_marked settled g m k img b h pk pb true e = absurd (omega arith)
left_marked settled g m k img b h pk pb false e = (pk, rw or-false pb)

pub length_left : (g : Growing) (stays : Bool) (img : List ℕ) → page_size * g.near + page_size ≤ length img → length (left_image g stays img) ≡ length img
length_left g stays img h =
    cond_case (λ (i : List ℕ). length i ≡ length img) (g.dry || stays) (λ _. refl)
    (λ _. length_set_page g.near blank img (length-replicate {A = ℕ} page_size 0) h)

pub left_as_long : (g : Growing) (stays : Bool) (u : Tables) → AsLong u (left_tables g stays u)
left_as_long g stays u = record {
  widths = refl;
  map = cond_case (λ k. length k ≡ length u.map) stays (λ _. refl) (λ _. length_unmark u.map g.near);
}

marked_left : (st : Config) (g : Growing) (stays : Bool) (u : Tables) (r : Row) (w : Work) → g.near < 8 * length u.map → InUse u w
    → InUse (left_tables g stays u) (leaves st stays g.near r w)
marked_left st g true u r w h m = record { same = m.same }
marked_left st g false u r w h m = record {
  same = λ x k. used_unmarked u.map g.near h x ∙ ap (λ (b : Bool). cond (eqb x g.near) false b) (m.same x (omega (arith, length_unmark u.map g.near)));
}

-- ── the split ──

module _ {g : Growing} {settled : ℕ} {l : List ℕ} {u : Tables} {img : List ℕ} (w : Off g settled l u) (env : Env g u img) where
  abbrev W : Work
  W = leaves w.st w.stays g.near w.row w.work

  pub off_sizes : (g.setup.target ≤ 192) × (length l ≤ buffer_size)
  off_sizes = (w.range, omega (arith, record_long w.row w.over.is))

  pub off_page : (g.near < most_pages) × (page_size * g.near + page_size ≤ length img)
  off_page = omega arith

  module _ {m i' : List ℕ} (left : (m ≡ left_map g w.stays u.map) × (i' ≡ left_image g w.stays img)) where
    abbrev u' : Tables
    u' = tables u.widths m

    near_low : g.near < 8 * length u.map
    near_low = omega (arith, env.start, env.holds.map)

    pub marks : InUse u' W
    marks = rw left.0 (marked_left w.st g w.stays u w.row w.work near_low w.marked)

    past : Past g.setup.pages u'
    past =
        rw left.0 (cond_case (map.Past g.setup.pages) w.stays (λ _. env.past)
        (λ _. past_unmarked g.setup.pages g.near u.map env.start near_low env.past))

    as_long : AsLong u u'
    as_long = let l = left_as_long g w.stays u in record { widths = refl; map = ap length left.0 ∙ l.map }

    pub off_env : Env g u' i'
    off_env = env_with env (ap length left.1 ∙ length_left g w.stays img off_page.1) as_long past

    module _ {p : ℕ} (pe : p ≡ split_point w.st (length l)) where
      pub point_is : p ≡ split_point w.st (record_size w.row)
      point_is = pe ∙ ap (split_point w.st) (record_long w.row w.over.is)

      abbrev pub off_large : Large g p l u'
      off_large = record { st = w.st; row = w.row; work = W; over = w.over; point = point_is; marked = marks }

      module _ {d : ℕ} (de : d ≡ start_of_d w.st w.row) where
        pub off_lean : (p ≤ d + 525) × ((d ≤ p + 132) × (p ≤ 8192))
        off_lean =
            let b = lean_bounds (start_of_d w.st w.row) (split_point w.st (record_size w.row)) w.leans in
            (omega (arith, point_is), (omega (arith, point_is), omega (arith, point_is)))

        pub off_done : {e : ℕ} {f : Bool} {z : ℤ} {u'' : Tables} {i'' o₀ o₁ : List ℕ} → Severed w.st g w.row W e f u' u'' i' i'' o₀ o₁ → z ≡ sub_ℕ d p
            → SplitOff w.st g w.row w.work w.stays e f u u'' img i'' o₀ o₁ × (z ≡ lean_of w.st w.row)
        off_done s z = (rw (← left.0, ← left.1) s, z ∙ (λ i. sub_ℕ (de i) (point_is i)))
