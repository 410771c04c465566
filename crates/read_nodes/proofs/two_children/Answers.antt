use borrow.Author.Tests.{eq-eqb, ne_eqb}
use Rattle.model.specs.WalkTests.{two_children}
use Rattle.read_nodes.proofs.two_children.Goals as goal

pub returns-then-n-eq0 : goal.returns-then-n-eq0
unfolding two_children
returns-then-n-eq0 c = simp (← c.size_of-n.ensures, eq-eqb _ _ c.if-n-eq0.true)

pub returns : goal.returns
unfolding two_children
returns c = simp (← c.size_of-n.ensures, ne_eqb _ _ c.if-n-eq0.false)
