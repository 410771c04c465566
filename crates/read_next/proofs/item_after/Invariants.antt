use Rattle.read_next.specs.Follow.{ItemUpward}
use Rattle.read_next.proofs.item_after.Given as goal

abbrev pub invariant-loop-at : goal.invariant-loop-at
invariant-loop-at l = ItemUpward l.image l.pos l.page l.at l.left

abbrev pub decreases-loop-at : goal.decreases-loop-at
decreases-loop-at l = l.left
