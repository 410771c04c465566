use mathlib.Core.Bool.{and-false}
use borrow.Author.Tests.{le-leb, lt-leb}
use Rattle.model.specs.WalkTests.{whole_size}
use Rattle.read_nodes.proofs.size_of.Goals as goal

pub returns-then-part-lt6 : goal.returns-then-part-lt6
unfolding whole_size
returns-then-part-lt6 c = simp (lt-leb _ _ c.if-part-lt6.true)

pub returns-then-n-lt6 : goal.returns-then-n-lt6
unfolding whole_size
returns-then-n-lt6 c = simp (← c.size_at-n.ensures.0, lt-leb _ _ c.if-n-lt6.true, and-false)

pub returns-then-part-n : goal.returns-then-part-n
unfolding whole_size
returns-then-part-n c = simp (← c.size_at-n.ensures.0, lt-leb _ _ c.if-part-n.true, and-false)

pub returns : goal.returns
unfolding whole_size
returns c =
    simp (le-leb _ _ c.if-part-lt6.false, ← c.size_at-n.ensures.0, le-leb _ _ c.if-n-lt6.false, le-leb _ _ c.if-part-n.false)
