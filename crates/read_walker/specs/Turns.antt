-- Where the check's walk over a logical list is, and its turns.
use Rattle.std.specs.Prelude.{◌≡◌, Bool, ◌&&◌, List, ℕ, ◌+◌, ◌*◌, ◌-◌, ◌/◌, ◌<◌, length, get_or}
use Rattle.std.proofs.Math.Path.{refl, sym, ap}
use Rattle.std.proofs.Common.{◌∙◌, arith, eq-eqb, ne_eqb, eqb-true}
use Rattle.std.proofs.Math.Bool.{true, false, cond, and-false}
use Rattle.std.proofs.Math.Dec.{eqb}
use Rattle.model.specs.Limits.{page_size}
use Rattle.model.specs.Reading.{name_at, back_at}
use Rattle.theory_check.specs.Tests.{marked}
use Rattle.theory_check.specs.Walk.{state, enters_of}
use Rattle.theory_check.specs.Steps.{entered}
use Rattle.theory_check.specs.Levels.{record_end}
use Rattle.base_node_kinds.specs.declared.Kinds.{Kinds}
use Rattle.base_node_kinds.specs.Holders.{kinds_in}
use Rattle.read_walker.specs.declared.Walker.{Walker}

abbrev pub walker : Kinds → (left count depth at end level : ℕ) → Walker
walker k n c d a e l = record { kinds = k; left = n; count = c; depth = d; at = a; end = e; level = l }

-- Where the list goes on behind the proxy of page p: on the page whose record holds the proxy, which the trailer names, at the offset that the table has.
abbrev pub way_back : (img back : List ℕ) → (page : ℕ) → ℕ
way_back img b p = page_size * back_at img (page_size * p) + get_or b p 0

-- Its numbers are small.
pub record Fits (w : Walker) : Type 0 where
  pub count : w.count < 16777216
  pub depth : w.depth < 16777216
  pub at : w.at < 16777216

-- The page that a proxy names, if the walk may enter it, else 0.
unfoldable pub reach_of : (img proxy : List ℕ) → (page left : ℕ) → (marks : List ℕ) → ℕ
reach_of img s page left marks =
    cond (eqb (length s) 8 && enters_of img (name_at s 0) page (state left marks)) (name_at s 0) 0

-- It is marked.
abbrev pub marked_of : (page : ℕ) → (marks : List ℕ) → List ℕ
marked_of p marks = cond (eqb p 0) marks (marked marks p)

-- Out of a helper's record, at the byte `to`: in the list's own row again, which ends at `last`, or in another helper's record.
abbrev pub out_of : (img : List ℕ) → Walker → (last to : ℕ) → Walker
out_of img w last to =
    let k = w.depth - 1 in
    cond (eqb k 0) (walker (kinds_in 1) w.left w.count k to last w.level)
    (walker w.kinds w.left w.count k to (record_end img (to / page_size)) w.level)

module _ (img : List ℕ) (w : Walker) (last to : ℕ) where
  pub out_own : (k : Kinds) → k ≡ kinds_in 1 → w.depth - 1 ≡ 0 → walker k w.left w.count (w.depth - 1) to last w.level ≡ out_of img w last to
  out_own k e z = ap (λ (x : Kinds). walker x w.left w.count (w.depth - 1) to last w.level) e ∙ sym (simp (eq-eqb _ _ z))

  pub out_outer : (end : ℕ) → end ≡ record_end img (to / page_size) → (w.depth - 1 ≡ 0 → ⊥)
      → walker w.kinds w.left w.count (w.depth - 1) to end w.level ≡ out_of img w last to
  out_outer end e z = ap (λ (x : ℕ). walker w.kinds w.left w.count (w.depth - 1) to x w.level) e ∙ sym (simp (ne_eqb _ _ z))

-- ── the page of a proxy ──

pub marked_is : (p : ℕ) (marks : List ℕ) → (p ≡ 0 → ⊥) → marked_of p marks ≡ marked marks p
marked_is p marks z = simp (ne_eqb p 0 z)

module _ (img s : List ℕ) (page left : ℕ) (marks : List ℕ) where
  pub reach_short : (length s ≡ 8 → ⊥) → 0 ≡ reach_of img s page left marks
  unfolding reach_of
  reach_short f = simp (ne_eqb _ _ f)

  module _ (p : ℕ) (name : p ≡ name_at s 0) where
    pub reach_none : enters_of img p page (state left marks) ≡ false → 0 ≡ reach_of img s page left marks
    unfolding reach_of
    reach_none f = simp (ap (λ (q : ℕ). enters_of img q page (state left marks)) (sym name) ∙ f, and-false)

    pub reach_some : length s ≡ 8 → enters_of img p page (state left marks) ≡ true → p ≡ reach_of img s page left marks
    unfolding reach_of
    reach_some e t = name ∙ sym (simp (eq-eqb _ _ e, ap (λ (q : ℕ). enters_of img q page (state left marks)) (sym name) ∙ t))

  module _ (p : ℕ) (is : p ≡ reach_of img s page left marks) where
    -- where there is none, the page that a proxy names may not be entered
    pub reach_zero : p ≡ 0 → length s ≡ 8 → enters_of img (name_at s 0) page (state left marks) ≡ false
    reach_zero z e = go (enters_of img (name_at s 0) page (state left marks)) refl
      where
        go : (b : Bool) → enters_of img (name_at s 0) page (state left marks) ≡ b → b ≡ false
        go true t = absurd (omega (arith, (entered img (name_at s 0) page (state left marks) t).names.past, reach_some (name_at s 0) refl e t, is, z))
        go false t = refl

    pub reach_is : (p ≡ 0 → ⊥) → (length s ≡ 8) × (p ≡ name_at s 0) × (enters_of img p page (state left marks) ≡ true)
    unfolding reach_of
    reach_is z = go (eqb (length s) 8) (enters_of img (name_at s 0) page (state left marks)) refl refl is
      where
        go : (a b : Bool) → eqb (length s) 8 ≡ a → enters_of img (name_at s 0) page (state left marks) ≡ b → p ≡ cond (a && b) (name_at s 0) 0
            → (length s ≡ 8) × (p ≡ name_at s 0) × (enters_of img p page (state left marks) ≡ true)
        go true true e t q = (eqb-true _ _ e, q, ap (λ (k : ℕ). enters_of img k page (state left marks)) q ∙ t)
        go true false e t q = absurd (z q)
        go false b e t q = absurd (z q)
