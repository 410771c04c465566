use Rattle.model.specs.WalkTests.{bare_head}
use Rattle.read_nodes.specs.Leaves.{both_zero}
use Rattle.read_nodes.proofs.bare.Goals as goal

pub returns : goal.returns
unfolding bare_head
returns c = rw (← c.origin_at-origin.ensures.0, ← c.label_at-label.ensures.0) (both_zero c.origin_at-origin.result c.label_at-label.result)
