-- `read_nest::row_stop`: by the case.
use borrow.Author.Tests.{eq-eqb, ne_eqb}
use Rattle.read_nest.proofs.row_stop.Goals as goal

pub returns-then-w : goal.returns-then-w
returns-then-w c = rw (eq-eqb _ _ c.if-w.true)

pub record_end-requires : goal.record_end-requires
record_end-requires c = let g = c.requires.1 c.if-w.false in (g.high, g.inside)

pub returns : goal.returns
returns c = rw (ne_eqb _ _ c.if-w.false) c.record_end.ensures
