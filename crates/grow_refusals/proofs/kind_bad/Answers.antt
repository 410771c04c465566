use mathlib.Core.Path.{sym}
use mathlib.Core.Bool.{not, or-false}
use borrow.Author.Tests.{eq-eqb, ne_eqb}
use lib.Dec.{eqb}
use Rattle.grow_refusals.proofs.kind_bad.Goals as goal

pub returns-then-kind-eq1 : goal.returns-then-kind-eq1
returns-then-kind-eq1 c = rw (eq-eqb _ _ c.if-kind-eq1.true)

pub returns : goal.returns
returns c = rw (ne_eqb _ 1 c.if-kind-eq1.false) (sym (or-false (not (eqb c.args.kind 2))))
