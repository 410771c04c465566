use native.Mathlib.Omega.{arith}
use borrow.Author.Tests.{eq-eqb, ne_eqb}
use Rattle.read_find.proofs.row_start.Goals as goal

pub returns-then-image-a-eq4 : goal.returns-then-image-a-eq4
returns-then-image-a-eq4 c = rw (eq-eqb _ _ c.if-image-a-eq4.true)

pub returns-else-image-a-eq4 : goal.returns-else-image-a-eq4
returns-else-image-a-eq4 c = rw (ne_eqb _ _ c.if-image-a-eq4.false) (omega arith)
