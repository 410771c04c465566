-- Nodes that the walk passes over or goes straight into: what the test by their first bytes says of their head.
use Rattle.std.specs.Prelude.{◌≡◌, List, Bool, true, false, ◌&&◌, ℕ, ◌+◌, ◌≤◌, ◌<◌, length, take, get_or, eqb}
use Rattle.std.proofs.Math.Path.{refl}
use Rattle.std.proofs.Common.{ap, sym, ◌∙◌, length-take-le}
use native.Mathlib.Omega.{arith}
use Rattle.std.proofs.Math.Seq.{get_or-take}
use borrow.Author.Tests.{eq-eqb, le-leb, eqb-true, eqb-false, leb-true, ne_eqb}
use Rattle.model.specs.Limits.{most_node, most_levels, most_origin}
use Rattle.model.specs.Row.{may_stand}
use Rattle.model.specs.Reading.{two_at, head_at, size_at}
use Rattle.theory_decoding.specs.Valid.{both as and_both}
use Rattle.theory_check.specs.Steps.{size_long}
use Rattle.model.specs.WalkTests.{whole_size, passing_kind, shape_of}
use Rattle.read_nodes.specs.Leaf.{stands_of, aggregate_of, literal_of}

-- two numbers are zero where their sum is
pub both_zero : (a b : ℕ) → eqb (a + b) 0 ≡ (eqb a 0 && eqb b 0)
both_zero a b = go (eqb a 0) refl
  where
    go : (x : Bool) → eqb a 0 ≡ x → eqb (a + b) 0 ≡ (x && eqb b 0)
    go true e = let s : a + b ≡ b = omega (arith, eqb-true a 0 e) in ap (λ (n : ℕ). eqb n 0) s
    go false e = ne_eqb (a + b) 0 (λ s. eqb-false a 0 e (omega arith))

-- what the test shows of the bytes
record Stands (s : List ℕ) (kind holder level : ℕ) : Type 0 where
  first : get_or s 0 0 ≡ kind
  origin : (head_at s 0).origin ≤ most_origin
  low : level ≤ most_levels
  may : may_stand holder kind ≡ true

stands_says : (s : List ℕ) (kind holder level : ℕ) → stands_of s kind (may_stand holder kind) level ≡ true → Stands s kind holder level
unfolding stands_of
stands_says s kind holder level e =
    let may = and_both _ _ e in
    let low = and_both _ _ may.0 in
    let origin = and_both _ _ low.0 in
    record { first = eqb-true _ _ origin.0; origin = leb-true _ _ origin.1; low = leb-true _ _ low.1; may = may.1 }

module _ (s : List ℕ) (holder level : ℕ) where
  -- the same of the tests for one kind
  agg_says : (n : ℕ) → aggregate_of s n (may_stand holder 1) level ≡ true → (6 ≤ length s) × (size_at s 0 ≡ n) × Stands s 1 holder level
  unfolding aggregate_of
  agg_says n e =
      let a = and_both _ _ e in
      let b = and_both _ _ a.0 in
      (leb-true _ _ b.0, eqb-true _ _ b.1, stands_says s 1 holder level a.1)

  lit_says : (n : ℕ) → literal_of s n (may_stand holder 2) level ≡ true → (n ≤ most_node) × Stands s 2 holder level
  unfolding literal_of
  lit_says n e = let a = and_both _ _ e in (leb-true _ _ a.0, stands_says s 2 holder level a.1)

  -- the head of the bytes that a node is
  head_of_lem : (kind : ℕ) → 6 ≤ length s → size_at s 0 ≡ length s → kind ≤ 4 → shape_of s kind ≡ true → Stands s kind holder level → kind ≡ passing_kind s holder
  unfolding passing_kind
  head_of_lem kind long size small shape h =
      simp (h.first, le-leb _ _ long, le-leb _ _ small, h.may, le-leb _ _ h.origin, eq-eqb _ _ size, shape)

  shape_1 : shape_of s 1 ≡ true
  unfolding shape_of
  shape_1 = refl

  shape_2 : length s ≤ most_node → shape_of s 2 ≡ true
  unfolding shape_of
  shape_2 h = le-leb _ _ h

-- the first n bytes, where the node has n
module _ (s : List ℕ) (n : ℕ) (long : 6 ≤ n) where
  two_in : size_at (take n s) 0 ≡ size_at s 0
  unfolding two_at
  two_in =
      let a : 4 < n = omega arith in
      let b : 5 < n = omega arith in
      rw (get_or-take n s 4 0 a, get_or-take n s 5 0 b)

  head_in : (kind holder level : ℕ) → n ≤ length s → size_at s 0 ≡ n → kind ≤ 4 → shape_of (take n s) kind ≡ true → Stands s kind holder level
      → kind ≡ passing_kind (take n s) holder
  head_in kind holder level inside size small shape h =
      let l = length-take-le n s inside in
      let first = get_or-take n s 0 0 (omega arith) in
      let same : (head_at (take n s) 0).origin ≡ (head_at s 0).origin = get_or-take n s 1 0 (omega arith) in
      head_of_lem (take n s) holder level kind (omega arith) (two_in ∙ size ∙ sym l) small shape
      (record { first = first ∙ h.first; origin = omega (arith, same, h.origin); low = h.low; may = h.may })

-- the bytes are an aggregate that stands
pub aggregate_head : (s : List ℕ) (holder level : ℕ) → aggregate_of s (length s) (may_stand holder 1) level ≡ true
    → (6 ≤ length s) × (1 ≡ passing_kind s holder) × (level ≤ most_levels)
aggregate_head s holder level e =
    let f = agg_says s holder level (length s) e in
    (f.0, head_of_lem s holder level 1 f.0 f.1 (omega arith) (shape_1 s holder level) f.2, f.2.low)

-- a whole node's size is the one in its header
size_is : (s : List ℕ) (n : ℕ) → 6 ≤ n → n ≤ length s → size_at s 0 ≡ n → n ≡ whole_size s
unfolding whole_size
size_is s n long inside e =
    let h : 6 ≤ length s = omega arith in
    simp (e, le-leb _ _ h, le-leb _ _ long, le-leb _ _ inside)

pub aggregate_size : (s : List ℕ) (holder level : ℕ) → aggregate_of s (length s) (may_stand holder 1) level ≡ true → length s ≡ whole_size s
aggregate_size s holder level e = let f = agg_says s holder level (length s) e in size_is s (length s) f.0 (omega arith) f.1

-- and a node that has a size has as many bytes
pub sized : (s : List ℕ) (n : ℕ) → n ≡ whole_size s → (n ≡ 0 → ⊥) → (6 ≤ n) × (n ≤ length s) × (size_at s 0 ≡ n)
sized s n e z = rw e (size_long s (ne_eqb _ _ (λ q. z (e ∙ q))))

-- the bytes start with an aggregate that has no child
pub childless_head : (s : List ℕ) (holder level : ℕ) → aggregate_of s 6 (may_stand holder 1) level ≡ true
    → (6 ≡ whole_size s) × (1 ≡ passing_kind (take 6 s) holder) × (level ≤ most_levels)
childless_head s holder level e =
    let f = agg_says s holder level 6 e in
    let six : 6 ≤ 6 = omega arith in
    (size_is s 6 six f.0 f.1, head_in s 6 six 1 holder level f.0 f.1 (omega arith) (shape_1 (take 6 s) holder level) f.2, f.2.low)

-- the bytes start with a whole literal
pub literal_head : (s : List ℕ) (n holder level : ℕ) → n ≡ whole_size s → (n ≡ 0 → ⊥) → literal_of s n (may_stand holder 2) level ≡ true
    → (2 ≡ passing_kind (take n s) holder) × (level ≤ most_levels)
literal_head s n holder level e z h =
    let f = lit_says s holder level n h in
    let t = sized s n e z in
    let l = length-take-le n s t.1 in
    (head_in s n t.0 2 holder level t.1 t.2 (omega arith) (shape_2 (take n s) holder level (omega (arith, f.0))) f.1, f.1.low)
