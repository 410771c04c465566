use mathlib.Core.Path.{sym, ◌∙◌}
use borrow.Author.Tests.{eq-eqb, ne_eqb}
use mathlib.Core.Bool.{and-false}
use Rattle.read_nodes.specs.Stand.{formed_of}
use Rattle.read_nodes.proofs.well_formed.Goals as goal

pub returns-then-not-origin_fits : goal.returns-then-not-origin_fits
unfolding formed_of
returns-then-not-origin_fits c = simp (sym c.origin_fits.ensures ∙ c.if-not-origin_fits.true)

pub returns-then-size_at-part : goal.returns-then-size_at-part
unfolding formed_of
returns-then-size_at-part c = simp (← c.size_at.ensures.0, ne_eqb _ _ c.if-size_at-part.true, and-false)

pub returns-then-not-shaped : goal.returns-then-not-shaped
unfolding formed_of
returns-then-not-shaped c = simp (sym c.shaped.ensures ∙ c.if-not-shaped.true, and-false)

pub returns : goal.returns
unfolding formed_of
returns c = simp (
  sym c.origin_fits.ensures ∙ c.if-not-origin_fits.false,
  ← c.size_at.ensures.0,
  eq-eqb _ _ c.if-size_at-part.false,
  sym c.shaped.ensures ∙ c.if-not-shaped.false,
)
