use mathlib.Core.Path.{sym, ◌∙◌}
use borrow.Author.Tests.{le-leb, lt-leb, eq-eqb, ne_eqb}
use mathlib.Core.Bool.{and-false}
use Rattle.read_nodes.specs.Leaf.{stands_of}
use Rattle.read_nodes.proofs.stands.Goals as goal

pub returns-then-wide-kind : goal.returns-then-wide-kind
unfolding stands_of
returns-then-wide-kind c = simp (← c.wide.ensures.0, ne_eqb _ _ c.if-wide-kind.true)

pub returns-then-not-origin_fits : goal.returns-then-not-origin_fits
unfolding stands_of
returns-then-not-origin_fits c = simp (sym c.origin_fits.ensures ∙ c.if-not-origin_fits.true, and-false)

pub returns-then-level-gt-LEVELS : goal.returns-then-level-gt-LEVELS
unfolding stands_of
returns-then-level-gt-LEVELS c = simp (lt-leb _ _ c.if-level-gt-LEVELS.true, and-false)

pub returns : goal.returns
unfolding stands_of
returns c = simp (
  ← c.wide.ensures.0,
  eq-eqb _ _ c.if-wide-kind.false,
  sym c.origin_fits.ensures ∙ c.if-not-origin_fits.false,
  le-leb _ _ c.if-level-gt-LEVELS.false,
)
