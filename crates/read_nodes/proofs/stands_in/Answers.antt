use Rattle.read_nodes.specs.Stand.{in_agg, in_lit, in_proxy, in_none}
use Rattle.read_nodes.proofs.stands_in.Goals as goal

pub returns-then-kind-eq1 : goal.returns-then-kind-eq1
returns-then-kind-eq1 c = in_agg _ _ c.if-kind-eq1.true

pub returns-then-kind-eq2 : goal.returns-then-kind-eq2
returns-then-kind-eq2 c = in_lit _ _ c.if-kind-eq2.true

pub returns-then-kind-eq3 : goal.returns-then-kind-eq3
returns-then-kind-eq3 c = in_proxy _ _ c.if-kind-eq3.true

pub returns : goal.returns
returns c = in_none _ _ c.if-kind-eq1.false c.if-kind-eq2.false c.if-kind-eq3.false
