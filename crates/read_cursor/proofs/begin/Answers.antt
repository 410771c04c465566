use borrow.Author.Tests.{eq-eqb, ne_eqb}
use Rattle.read_cursor.proofs.begin.Goals as goal

pub returns-then-at-ne0 : goal.returns-then-at-ne0
returns-then-at-ne0 c = rw (ne_eqb _ 0 c.if-at-ne0.true)

pub returns-then-i-target : goal.returns-then-i-target
returns-then-i-target c = rw (eq-eqb _ 0 c.if-at-ne0.false, eq-eqb _ _ c.if-i-target.true)

pub returns-else-i-target : goal.returns-else-i-target
returns-else-i-target c = rw (eq-eqb _ 0 c.if-at-ne0.false, ne_eqb _ _ c.if-i-target.false)
