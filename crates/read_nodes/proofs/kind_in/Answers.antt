use mathlib.Core.Path.{sym, ◌∙◌}
use Rattle.read_nodes.specs.Stand.{kind_by}
use Rattle.read_nodes.proofs.kind_in.Goals as goal

pub returns-then-not-stands_in : goal.returns-then-not-stands_in
unfolding kind_by
returns-then-not-stands_in c = simp (← c.wide-kind.ensures.0, sym c.stands_in.ensures ∙ c.if-not-stands_in.true)

pub returns : goal.returns
unfolding kind_by
returns c = simp (← c.wide-kind.ensures.0, sym c.stands_in.ensures ∙ c.if-not-stands_in.false) c.well_formed-2.ensures
