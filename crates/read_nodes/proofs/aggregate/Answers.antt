use borrow.Author.Tests.{le-leb, lt-leb, eq-eqb, ne_eqb}
use mathlib.Core.Bool.{and-false}
use Rattle.read_nodes.specs.Leaf.{aggregate_of}
use Rattle.read_nodes.proofs.aggregate.Goals as goal

pub returns-then-part-lt6 : goal.returns-then-part-lt6
unfolding aggregate_of
returns-then-part-lt6 c = simp (lt-leb _ _ c.if-part-lt6.true)

pub returns-then-size_at-n : goal.returns-then-size_at-n
unfolding aggregate_of
returns-then-size_at-n c = simp (← c.size_at.ensures.0, ne_eqb _ _ c.if-size_at-n.true, and-false)

pub returns : goal.returns
unfolding aggregate_of
returns c = rw (le-leb _ _ c.if-part-lt6.false, ← c.size_at.ensures.0, eq-eqb _ _ c.if-size_at-n.false) c.stands.ensures
