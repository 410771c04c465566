-- What a row holds, its parts hold no more of: a position's filling, and the last record of a chain.
use Rattle.std.specs.Prelude.{Bool, List, ℕ, ◌≤◌}
use Rattle.std.proofs.Common.{arith}
use Rattle.model.specs.Row.{Head, Row, nil, agg, lit, rec, ◌⊹◌, count}
use Rattle.model.specs.Spot.{Position, here, inside, fill, Chain, top, below, whole}

-- A measure of rows that is no larger on a row's parts.
pub record Part (f : Row → ℕ) : Type 0 where
  pub children : (h : Head) (cs rest : Row) → f cs ≤ f (agg h cs rest)
  pub after_agg : (h : Head) (cs rest : Row) → f rest ≤ f (agg h cs rest)
  pub after_lit : (h : Head) (c : List ℕ) (rest : Row) → f rest ≤ f (lit h c rest)
  pub under : (q : ℕ) (b : Bool) (r rest : Row) → f r ≤ f (rec q b r rest)
  pub after_rec : (q : ℕ) (b : Bool) (r rest : Row) → f rest ≤ f (rec q b r rest)

module _ (f : Row → ℕ) (p : Part f) where
  pub part-⊹ : (a b : Row) → f b ≤ f (a ⊹ b)
  part-⊹ nil b = omega arith
  part-⊹ (agg h cs rest) b = omega (arith, part-⊹ rest b, p.after_agg h cs (rest ⊹ b))
  part-⊹ (lit h c rest) b = omega (arith, part-⊹ rest b, p.after_lit h c (rest ⊹ b))
  part-⊹ (rec q s r rest) b = omega (arith, part-⊹ rest b, p.after_rec q s r (rest ⊹ b))

  pub part_fill : (s : Position) (x : Row) → f x ≤ f (fill s x)
  part_fill (here left) x = part-⊹ left x
  part_fill (inside left h rest s) x = omega (arith, part_fill s x, p.children h (fill s x) rest, part-⊹ left (agg h (fill s x) rest))

  pub part_whole : (c : Chain) (row : Row) → f row ≤ f (whole c row)
  part_whole top row = omega arith
  part_whole (below c s q b rest) row =
      omega (arith, p.under q b row rest, part_fill s (rec q b row rest), part_whole c (fill s (rec q b row rest)))

-- How often a page is named is one.
pub count_part : (q : ℕ) → Part (count q)
count_part q = record {
  children = λ h cs rest. omega arith;
  after_agg = λ h cs rest. omega arith;
  after_lit = λ h c rest. omega arith;
  under = λ p b r rest. omega arith;
  after_rec = λ p b r rest. omega arith;
}
