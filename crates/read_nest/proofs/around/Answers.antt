-- `read_nest::around`: by the case.
use borrow.Author.Tests.{eq-eqb, ne_eqb}
use Rattle.read_nest.proofs.around.Goals as goal

pub returns-then-w : goal.returns-then-w
returns-then-w c = rw (eq-eqb _ _ c.if-w.true)

pub returns : goal.returns
returns c = rw (ne_eqb _ _ c.if-w.false)
