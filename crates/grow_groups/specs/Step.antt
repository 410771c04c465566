-- A step of a split in its bytes, beside the model's: what the code leaves for a row is what the model puts in the row's place.
use Rattle.std.specs.Prelude.{◌≡◌, refl, Bool, true, false, ◌||◌, List, ◌++◌, ℕ, ◌+◌, ◌≤◌, length, take}
use Rattle.std.proofs.Common.{sym, ap, ◌∙◌, append-nil, arith}
use Rattle.std.proofs.Math.Bool.{or_assoc}
use Rattle.model.specs.Row.{Head, Row, nil, agg, ◌⊹◌, size, two, header, bytes}
use Rattle.model.specs.Reading.{page_of}
use Rattle.theory_rows.specs.Laws.{length_bytes, size-⊹, bytes-⊹}
use Rattle.theory_rows.specs.Pages.{or_left, or_right}
use Rattle.theory_page_memory.specs.Memory.{WorkMem, OutMem}
use Rattle.base_numbers.specs.Over.{over, over_then, over_inside, take_over, length_over}
use Rattle.base_layout.specs.declared.Growing.{Growing}
use Rattle.grow_pages.specs.Links.{Below, below_parted}
use Rattle.grow_pages.specs.Relinked.{After, after_then}
use Rattle.grow_groups.specs.Used.{Tables, InUse, Past, AsLong}
use Rattle.grow_groups.specs.Tells.{Tabled, Keeps, tabled_parts, tabled_same, keeps_both}

-- The map and the image say what the model carries along; in a dry run the image does not.
pub record InStep (g : Growing) (u : Tables) (img : List ℕ) (s : WorkMem) : Type 0 where
  pub used : InUse u s.0
  pub pages : g.dry ≡ false → page_of img ≡ s.1

-- From s the model makes o of a row. The code takes the tables u, the image and `out` to u', img' and out': what comes of the row stands in out' from `at` to
-- `end`, `filled` says whether a page was taken where none was free, and tables that were right are right again. A dry run leaves the table of widths.
pub record Step (g : Growing) (row : Row) (s : WorkMem) (o : OutMem) (at end : ℕ) (filled : Bool) (u : Tables) (img out : List ℕ) (u' : Tables) (img' out' : List ℕ)
    : Type 0 where
  pub used : InUse u' o.1.0
  pub full : (s.0.full || filled) ≡ o.1.0.full
  pub past : Past g.setup.pages u'
  pub as_long : AsLong u u'
  pub after : After g.dry img' img o.1.1
  pub below : Below g.setup.pages o.0
  pub written : out' ≡ over at (bytes o.0) out
  pub next : end ≡ at + size o.0
  pub tells : g.dry ≡ false → Tabled u row → filled ≡ false → Keeps u u' o.0
  pub rests : g.dry ≡ true → u'.widths ≡ u.widths

module _ {g : Growing} {s : WorkMem} {at end : ℕ} {filled : Bool} {u u' : Tables} {img out img' out' : List ℕ} where
  -- The code and the model are in step again.
  pub in_step : {row : Row} {o : OutMem} → Step g row s o at end filled u img out u' img' out' → InStep g u' img' o.1
  in_step k = record { used = k.used; pages = k.after.pages }

  -- A step, and another after it.
  pub both_steps : (a b : Row) {x y : OutMem} {end₂ : ℕ} {filled₂ : Bool} {u'' : Tables} {img'' out'' : List ℕ}
      → Step g a s x at end filled u img out u' img' out' → Step g b x.1 y end end₂ filled₂ u' img' out' u'' img'' out'' → at + size (x.0 ⊹ y.0) ≤ length out
      → Step g (a ⊹ b) s (x.0 ⊹ y.0, y.1) at end₂ (filled || filled₂) u img out u'' img'' out''
  both_steps a b {x} {y} {filled₂ = filled₂} {out'' = out''} i j room =
      let n = length_bytes x.0 in
      let z = size-⊹ x.0 y.0 in
      record {
        used = j.used;
        full = sym (or_assoc s.0.full filled filled₂) ∙ ap (λ (z : Bool). z || filled₂) i.full ∙ j.full;
        past = j.past;
        as_long = record { widths = j.as_long.widths ∙ i.as_long.widths; map = j.as_long.map ∙ i.as_long.map };
        after = after_then (λ _. y.1.1) i.after j.after;
        below = (below_parted g.setup.pages).join x.0 y.0 i.below j.below;
        written =
            over_then at end (bytes x.0) (bytes y.0) out out' out'' i.written j.written (omega (arith, i.next))
            (omega (arith, z, length_bytes y.0)) ∙ ap (λ (v : List ℕ). over at v out) (sym (bytes-⊹ x.0 y.0));
        next = omega (arith, j.next, i.next, z);
        tells = λ d t f.
            let k = tabled_parts u a b t in
            let l = i.tells d k.0 (or_left filled filled₂ f) in
            keeps_both x.0 y.0 l (j.tells d (tabled_same b l.frame k.1) (or_right filled filled₂ f));
        rests = λ d. j.rests d ∙ i.rests d;
      }

-- What stands at the front of out after a step there.
module _ {g : Growing} {row : Row} {s : WorkMem} {o : OutMem} {end : ℕ} {filled : Bool} {u u' : Tables} {img out img' out' : List ℕ}
    (k : Step g row s o 0 end filled u img out u' img' out') where
  pub front_is : take end out' ≡ bytes o.0
  front_is = (λ i. take (k.next i) (k.written i)) ∙ take_over (0 + size o.0) (bytes o.0) out (omega (arith, length_bytes o.0))

  pub front_end : size o.0 ≤ length out → end ≤ length out'
  front_end h =
      let n = length_bytes o.0 in
      omega (arith, k.next, ap length k.written, length_over 0 (bytes o.0) out (omega arith))

-- A header's size put right.
resized : (h : Head) (k v : ℕ) (b : List ℕ) → over 4 (two v) (header 1 h k ++ b) ≡ header 1 h v ++ b
unfolding over
resized h k v b = refl

-- A step on the children of a node: its header is written before it, and its size after it.
pub under_step : {g : Growing} {s : WorkMem} {at end : ℕ} {filled : Bool} {u u' : Tables} {img out img' out₁ out₂ out₃ : List ℕ} (h : Head) (row : Row)
    {o : OutMem} (n v : ℕ) → out₁ ≡ over at (header 1 h n) out → Step g row s o (at + 6) end filled u img out₁ u' img' out₂ → end ≡ at + v
    → out₃ ≡ over (at + 4) (two v) out₂ → at + (6 + size o.0) ≤ length out
    → Step g (agg h row nil) s (agg h o.0 nil, o.1) at end filled u img out u' img' out₃
under_step {at = at} {out = out} {out₁ = out₁} {out₂ = out₂} {out₃ = out₃} h row {o} n v p1 k e p3 room =
    let C = o.0 in
    let z : v ≡ 6 + size C = omega (arith, k.next) in
    let w2 : out₂ ≡ over at (header 1 h n ++ bytes C) out =
    over_then at (at + 6) (header 1 h n) (bytes C) out out₁ out₂ p1 k.written refl (omega (arith, length_bytes C)) in
    let w3 : out₃ ≡ over at (header 1 h (6 + size C) ++ bytes C) out =
    p3 ∙ (λ i. over (at + 4) (two (z i)) (w2 i))
    ∙ over_inside at 4 (header 1 h n ++ bytes C) (two (6 + size C)) out (omega arith) (omega (arith, length_bytes C))
    ∙ ap (λ (y : List ℕ). over at y out) (resized h n (6 + size C) (bytes C)) in
    record {
      used = k.used;
      full = k.full;
      past = k.past;
      as_long = k.as_long;
      after = k.after;
      below = (k.below, tt);
      written = w3 ∙ ap (λ (y : List ℕ). over at (header 1 h (6 + size C) ++ y) out) (sym (append-nil (bytes C)));
      next = omega (arith, k.next);
      tells = λ d t f.
          let l = k.tells d (record { told = t.told.0; named = λ q c. t.named q (omega arith); few = omega (arith, t.few) }) f in
          record { told = (l.told, tt); named = λ q c. l.named q (omega arith); frame = l.frame };
      rests = k.rests;
    }
