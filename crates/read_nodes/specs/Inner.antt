-- Aggregates that are each the only node that the last holds.
use Rattle.std.specs.Prelude.{◌≡◌, refl, List, Bool, true, false, ℕ, zero, suc, ◌+◌, ◌-◌, ◌*◌, ◌≤◌, ◌<◌, take, drop, eqb}
use Rattle.std.proofs.Common.{sym, ap, ◌∙◌, arith}
use Rattle.std.proofs.Math.Bool.{and-false}
use Rattle.std.proofs.Math.ListN.{length, length-drop}
use Rattle.std.proofs.Math.Seq.{get_or-drop}
use borrow.Author.Tests.{lt-leb, ne_eqb, eqb-true, eqb-false}
use Rattle.model.specs.Limits.{most_levels}
use Rattle.model.specs.Row.{may_stand}
use Rattle.model.specs.Reading.{size_at, two_at}
use Rattle.theory_check.specs.Facts.{rest_is}
use Rattle.read_nodes.specs.Leaf.{aggregate_of, inner_of}
use Rattle.read_nodes.specs.Leaves.{aggregate_head}

module _ (s : List ℕ) (level : ℕ) where
  abbrev pub Each : ℕ → Type 0
  Each d = (i : ℕ) → i < d → inner_of s level i ≡ true

  -- the test as the loop makes it
  pub inner_is : (d at : ℕ) → at ≡ 6 * d + 6 → aggregate_of (take (length s - at) (drop at s)) (length s - at) (may_stand 1 1) (level + d) ≡ inner_of s level d
  inner_is d at e =
      ap (λ (x : List ℕ). aggregate_of x (length s - at) (may_stand 1 1) (level + d)) (rest_is at s)
      ∙ ap (λ (a : ℕ). aggregate_of (drop a s) (length s - a) (may_stand 1 1) (level + d)) e

  -- the aggregate after d + 1 headers, alone
  pub alone : (d : ℕ) → inner_of s level d ≡ true → aggregate_of (drop (6 * d + 6) s) (length (drop (6 * d + 6) s)) (may_stand 1 1) (level + d) ≡ true
  alone d e = ap (λ (n : ℕ). aggregate_of (drop (6 * d + 6) s) n (may_stand 1 1) (level + d)) (length-drop (6 * d + 6) s) ∙ e

  pub inner_fits : (d : ℕ) → inner_of s level d ≡ true → (6 * d + 12 ≤ length s) × (level + d ≤ most_levels)
  inner_fits d e = let f = aggregate_head _ _ _ (alone d e) in (omega (arith, f.0, length-drop (6 * d + 6) s), f.2)

  -- no header is left
  pub inner_end : (d : ℕ) → length s < 6 * d + 12 → inner_of s level d ≡ false
  unfolding aggregate_of
  inner_end d h = let k : length (drop (6 * d + 6) s) < 6 = omega (arith, length-drop (6 * d + 6) s) in simp (lt-leb _ _ k)

  -- the first node does not end the bytes
  pub inner_none : (n : ℕ) → n ≡ size_at s 6 → (n ≡ length s - 6 → ⊥) → inner_of s level 0 ≡ false
  unfolding aggregate_of two_at
  inner_none n e f =
      let z : size_at (drop 6 s) 0 ≡ n = rw (get_or-drop 6 s 4 0, get_or-drop 6 s 5 0) (sym e) in
      simp (z, ne_eqb _ _ f, and-false)

  pub each_more : (d : ℕ) → Each d → inner_of s level d ≡ true → Each (d + 1)
  each_more d h e i b = go (eqb i d) refl
    where
      go : (x : Bool) → eqb i d ≡ x → inner_of s level i ≡ true
      go true q = ap (inner_of s level) (eqb-true i d q) ∙ e
      go false q = h i (omega (arith, eqb-false i d q))

  pub each_fits : (d : ℕ) → 6 ≤ length s → level ≤ most_levels + 1 → Each d → (6 * d + 6 ≤ length s) × (level + d ≤ most_levels + 1)
  each_fits zero long low h = (omega arith, omega arith)
  each_fits (suc d) long low h = let f = inner_fits d (h d (omega arith)) in (omega (arith, f.0), omega (arith, f.1))
