use mathlib.Core.Path.{ap, ◌∙◌, sym}
use borrow.Author.Tests.{eq-eqb, ne_eqb}
use Rattle.theory_check.specs.Facts.{rest_is}
use Rattle.model.specs.WalkTests.{shape_of, two_children}
use Rattle.read_nodes.proofs.shaped.Goals as goal

pub returns-then-kind-eq3 : goal.returns-then-kind-eq3
unfolding shape_of
returns-then-kind-eq3 c = rw (eq-eqb _ _ c.if-kind-eq3.true) c.bare.ensures

pub returns-then-not-bare : goal.returns-then-not-bare
unfolding shape_of
returns-then-not-bare c =
    simp (ne_eqb _ _ c.if-kind-eq3.false, eq-eqb _ _ c.if-kind-eq4.true, sym c.bare-then-kind-eq4.ensures ∙ c.if-not-bare.true)

pub returns-then-kind-eq4 : goal.returns-then-kind-eq4
unfolding shape_of
returns-then-kind-eq4 c =
    let rest = rest_is 6 c.args.part.now in
    rw (ne_eqb _ _ c.if-kind-eq3.false, eq-eqb _ _ c.if-kind-eq4.true, sym c.bare-then-kind-eq4.ensures ∙ c.if-not-bare.false)
    (c.two_children.ensures ∙ ap two_children rest)

pub returns-then-kind-eq2 : goal.returns-then-kind-eq2
unfolding shape_of
returns-then-kind-eq2 c = rw (ne_eqb _ _ c.if-kind-eq3.false, ne_eqb _ _ c.if-kind-eq4.false, eq-eqb _ _ c.if-kind-eq2.true)

pub returns : goal.returns
unfolding shape_of
returns c = simp (ne_eqb _ _ c.if-kind-eq3.false, ne_eqb _ _ c.if-kind-eq4.false, ne_eqb _ _ c.if-kind-eq2.false)
