-- The walk from page 1.
use Rattle.std.specs.Prelude.{◌≡◌, Bool, List, ℕ, ◌+◌, ◌-◌, ◌/◌, ◌≤◌, length, drop, replicate}
use Rattle.std.proofs.Math.Path.{refl, sym, ap}
use Rattle.std.proofs.Common.{◌∙◌, arith, length-take, length-drop, length-take-le, get_or-take, get_or-drop}
use Rattle.std.proofs.Math.Bool.{true, false, and-false}
use Rattle.std.proofs.Math.Dec.{eqb}
use borrow.Author.Tests.{eq-eqb, eqb-true, eqb-false}
use Rattle.model.specs.Limits.{page_size, capacity, mark_bytes}
use Rattle.model.specs.Reading.{used_at, kind_at}
use Rattle.model.specs.BeforeWalk.{page_count, before_walk}
use Rattle.model.specs.WalkTests.{passing_kind, tail_zero, record_of}
use Rattle.theory_check.specs.Before.{first_used, used_fits_lem}
use Rattle.theory_check.specs.Walk.{State, state, Decoded, node_of}
use Rattle.theory_check.specs.Check.{walk_of, walk_ok}
use Rattle.theory_check.specs.Widths.{widths_after}
use Rattle.theory_check.specs.Steps.{passing}
use Rattle.theory_check.specs.Levels.{outcome, outcome_of, bytes}
use Rattle.theory_check.specs.ByKind.{node_none}
use Rattle.read_turns.specs.Going.{PartAt, Ended, reaches, left_none}
use Rattle.read_turns.specs.Turns.{record_is}

-- page 1's record ends before its trailer
pub first_fits : (img : List ℕ) → 2 ≤ page_count img → before_walk img ≡ true → used_at img page_size ≤ capacity
first_fits img few e = used_fits_lem img 1 e (omega arith) (omega arith) (first_used img few e)

pub first_part : (img : List ℕ) (e : ℕ) → e ≡ page_size + used_at img page_size → used_at img page_size ≤ capacity → page_size + page_size ≤ length img
    → PartAt img (bytes img page_size e) page_size
first_part img e q u i =
    let l : length (bytes img page_size e) ≡ e - page_size = length-take-le (e - page_size) (drop page_size img) (omega (arith, length-drop page_size img)) in
    let z : e ≡ page_size + length (bytes img page_size e) = omega arith in
    record { is = ap (bytes img page_size) z; inside = omega (arith, l); page = omega (arith, l); low = omega arith }

-- the pages that an outcome leaves
left_is : (d : Decoded) (r : ℕ) (marks old new : List ℕ) → outcome (state r marks) new ≡ outcome_of d old → d.walk.left ≡ r
left_is d r marks old new e = go (eqb r 0) refl
  where
    go : (b : Bool) → eqb r 0 ≡ b → d.walk.left ≡ r
    go true q = let z = eqb-true r 0 q in left_none d r marks old new e z ∙ sym z
    go false q = ap (λ (v : State). v.left) (reaches d r marks old new e (eqb-false r 0 q)).walk

module _ (img : List ℕ) (n e : ℕ) (ends : e ≡ page_size + used_at img page_size) (root : ℕ) (is_root : root ≡ passing_kind (bytes img page_size e) 0) where
  abbrev s : List ℕ
  s = record_of img 1

  root' : root ≡ passing_kind s 0
  root' = is_root ∙ ap (λ (x : List ℕ). passing_kind x 0) (record_is img 1 e ends)

  -- the first byte of a record that has one
  first_byte : 6 ≤ length s → kind_at s 0 ≡ kind_at img page_size
  first_byte h = get_or-take (used_at img page_size) (drop page_size img) 0 0 (omega (arith, length-take (used_at img page_size) (drop page_size img))) ∙ get_or-drop page_size img 0 0

  -- another root
  pub first_bad : (root ≡ 1 → ⊥) → false ≡ walk_ok img n
  unfolding walk_ok walk_of
  first_bad f = go (eqb (kind_at img page_size) 1) refl
    where
      none : kind_at img page_size ≡ 1 → root ≡ 0
      none k = by (eqb root 0) refl
        where
          by : (b : Bool) → eqb root 0 ≡ b → root ≡ 0
          by true q = eqb-true root 0 q
          by false q =
              let p = passing s 0 root (sym root') (eqb-false root 0 q) in
              absurd (f (sym p.first ∙ first_byte p.long ∙ k))

      go : (b : Bool) → eqb (kind_at img page_size) 1 ≡ b → false ≡ walk_ok img n
      go true q =
          let z = ap (λ (d : Decoded). eqb d.walk.left 1)
          (node_none img s 1 0 1 (state n (replicate mark_bytes 0)) (sym root' ∙ none (eqb-true (kind_at img page_size) 1 q))) in
          simp (z, and-false)
      go false q = simp q

  -- an aggregate
  module _ (one : root ≡ 1) (tail : tail_zero img 1 ≡ true) (start : List ℕ) (none : start ≡ replicate mark_bytes 0) (r : ℕ) (m old new was back : List ℕ)
      (came : (h : ℕ) → 1 ≡ passing_kind (bytes img page_size e) h
      → Ended (node_of img (bytes img page_size e) (page_size / page_size) h 1 (state n start)) r start m old new was back) where
    same : node_of img (bytes img page_size e) (page_size / page_size) 0 1 (state n start) ≡ walk_of img n
    unfolding walk_of
    same = λ i. node_of img (record_is img 1 e ends i) 1 0 1 (state n (none i))

    ended : outcome (state r m) new ≡ outcome_of (walk_of img n) old
    ended = (came 0 (sym one ∙ is_root)).came ∙ ap (λ (d : Decoded). outcome_of d old) same

    pub first_ok : eqb r 1 ≡ walk_ok img n
    unfolding walk_ok
    first_ok =
        let p = passing s 0 root (sym root') (λ z. omega arith) in
        let k : kind_at img page_size ≡ 1 = sym (first_byte p.long) ∙ p.first ∙ one in
        let z : eqb (walk_of img n).walk.left 1 ≡ eqb r 1 = ap (λ (x : ℕ). eqb x 1) (left_is (walk_of img n) r m old new ended) in
        simp (eq-eqb (kind_at img page_size) 1 k, tail, z)

    pub first_table : eqb r 1 ≡ true → new ≡ widths_after (walk_of img n).row old
    first_table t = (reaches (walk_of img n) r m old new ended (λ z. omega (arith, eqb-true r 1 t))).table

    pub first_marks : eqb r 1 ≡ true → m ≡ (walk_of img n).walk.marks
    first_marks t = sym (ap (λ (v : State). v.marks) (reaches (walk_of img n) r m old new ended (λ z. omega (arith, eqb-true r 1 t))).walk)
