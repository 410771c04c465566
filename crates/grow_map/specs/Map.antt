-- The map of the pages in use: a bit a page, and the pages that growth never takes.
use Rattle.std.specs.Prelude.{◌≡◌, refl, Bool, true, false, cond, ◌||◌, List, ℕ, ◌+◌, ◌*◌, ◌/◌, ◌≤◌, ◌<◌, length, leb, eqb}
use Rattle.std.proofs.Common.{◌∙◌, arith, leb-true, leb-false, eqb-true}
use Rattle.std.proofs.lemmas.Bool.{eqb-false}
use Rattle.model.specs.Limits.{mark_bytes}
use Rattle.model.specs.Row.{outside}
use Rattle.model.specs.Growth.{mark}
use Rattle.theory_check.specs.Tests.{is_marked, marked, unmarked}
use Rattle.theory_check.specs.Marks.{after_mark, after_unmark, length_mark}

-- The most bytes that a map may have: as many as the check's marks.
abbrev pub most_map : ℕ
most_map = mark_bytes

abbrev pub used_by : (map : List ℕ) → (page : ℕ) → Bool
used_by = is_marked

-- Pages from n on are marked as used.
abbrev pub Past : (n : ℕ) → List ℕ → Type 0
Past n m = (q : ℕ) → n ≤ q → q < 8 * length m → used_by m q ≡ true

module _ (m : List ℕ) (p : ℕ) (low : p < 8 * length m) where
  pub used_marked : (q : ℕ) → used_by (marked m p) q ≡ mark true p (used_by m) q
  used_marked = after_mark m p (omega arith)

  pub used_unmarked : (q : ℕ) → used_by (unmarked m p) q ≡ mark false p (used_by m) q
  used_unmarked = after_unmark m p (omega arith)

  -- A page that is marked, or was.
  pub marked_on : (q : ℕ) → ((q ≡ p → ⊥) → used_by m q ≡ true) → used_by (marked m p) q ≡ true
  marked_on q f = used_marked q ∙ go (eqb q p) refl
    where
      go : (b : Bool) → eqb q p ≡ b → cond b true (used_by m q) ≡ true
      go true e = refl
      go false e = f (eqb-false q p e)

  -- Another page is as it was.
  pub marked_other : (q : ℕ) → (q ≡ p → ⊥) → used_by (marked m p) q ≡ used_by m q
  marked_other q f = used_marked q ∙ go (eqb q p) refl
    where
      go : (b : Bool) → eqb q p ≡ b → cond b true (used_by m q) ≡ used_by m q
      go true e = absurd (f (eqb-true q p e))
      go false e = refl

  pub unmarked_other : (q : ℕ) → (q ≡ p → ⊥) → used_by (unmarked m p) q ≡ used_by m q
  unmarked_other q f = used_unmarked q ∙ go (eqb q p) refl
    where
      go : (b : Bool) → eqb q p ≡ b → cond b false (used_by m q) ≡ used_by m q
      go true e = absurd (f (eqb-true q p e))
      go false e = refl

-- ── the pages that growth never takes ──

-- Pages 0, 1 and those from n on are marked, the others as they were.
pub record Shut (n : ℕ) (old new : List ℕ) : Type 0 where
  pub long : length new ≡ length old
  pub same : (q : ℕ) → q < 8 * length old → used_by new q ≡ (outside n q || used_by old q)

-- The same for pages up to p.
pub record ShutTo (n : ℕ) (old new : List ℕ) (p : ℕ) : Type 0 where
  pub low : n ≤ p
  pub long : length new ≡ length old
  pub first : (q : ℕ) → q < 2 → used_by new q ≡ true
  pub done : (q : ℕ) → n ≤ q → q < p → used_by new q ≡ true
  pub rest : (q : ℕ) → 2 ≤ q → (n ≤ q → p ≤ q) → used_by new q ≡ used_by old q

pub shut_start : (n : ℕ) (m : List ℕ) → 1 ≤ length m → ShutTo n m (marked (marked m 0) 1) n
shut_start n m h =
    let a = marked m 0 in
    let l = length_mark m 0 in
    record {
      low = omega arith;
      long = length_mark a 1 ∙ l;
      first = λ q k. marked_on a 1 (omega arith) q (λ e. marked_on m 0 (omega arith) q (λ f. absurd (omega arith)));
      done = λ q i k. absurd (omega arith);
      rest = λ q i k. marked_other a 1 (omega arith) q (λ e. omega arith) ∙ marked_other m 0 (omega arith) q (λ e. omega arith);
    }

pub shut_turn : (n p : ℕ) (old m : List ℕ) → p / 8 < length m → ShutTo n old m p → ShutTo n old (marked m p) (p + 1)
shut_turn n p old m h s =
    let low : p < 8 * length m = omega arith in
    record {
      low = omega (arith, s.low);
      long = length_mark m p ∙ s.long;
      first = λ q k. marked_on m p low q (λ _. s.first q k);
      done = λ q i k. marked_on m p low q (λ e. s.done q i (omega arith));
      rest = λ q i k. marked_other m p low q (λ e. omega (arith, k (omega (arith, s.low)))) ∙ s.rest q i (λ j. omega (arith, k j));
    }

pub shut_end : (n p : ℕ) (old m : List ℕ) → length m ≤ p / 8 → ShutTo n old m p → Shut n old m
shut_end n p old m h s = record { long = s.long; same = λ q k. go q k (leb q 1) (leb n q) refl refl }
  where
    go : (q : ℕ) → q < 8 * length old → (x y : Bool) → leb q 1 ≡ x → leb n q ≡ y → used_by m q ≡ ((x || y) || used_by old q)
    go q k true y e f = s.first q (omega (arith, leb-true q 1 e))
    go q k false true e f = s.done q (leb-true n q f) (omega (arith, s.long))
    go q k false false e f = s.rest q (omega (arith, leb-false q 1 e)) (λ j. omega (arith, leb-false n q f))
