use mathlib.Core.Path.{sym, ◌∙◌}
use mathlib.Core.Bool.{and-false}
use borrow.Author.Tests.{lt-leb}
use Rattle.model.specs.WalkTests.{passing_kind}
use Rattle.read_nodes.specs.Stand.{formed_is}
use Rattle.read_nodes.proofs.head.Goals as goal

pub returns-then-part-lt6 : goal.returns-then-part-lt6
unfolding passing_kind
returns-then-part-lt6 c = simp (lt-leb _ _ c.if-part-lt6.true)

pub returns-then-kind-gt4 : goal.returns-then-kind-gt4
unfolding passing_kind
returns-then-kind-gt4 c = simp (← c.wide-kind.ensures.0, lt-leb _ _ c.if-kind-gt4.true, and-false)

pub returns-then-not-may_stand : goal.returns-then-not-may_stand
unfolding passing_kind
returns-then-not-may_stand c = simp (← c.wide-kind.ensures.0, sym c.may_stand.ensures ∙ c.if-not-may_stand.true, and-false)

pub returns : goal.returns
returns c =
    formed_is _ _ _ _ c.wide-kind.ensures.0 c.if-part-lt6.false c.if-kind-gt4.false
    (sym c.may_stand.ensures ∙ c.if-not-may_stand.false) c.well_formed-2.ensures
