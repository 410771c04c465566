use Prim.Native.Nat.{◌+◌, ◌*◌}
use lib.ListN.{length}
use Rattle.read_turns.specs.Turns.{goal_of}
use Rattle.read_turns.specs.Steps.{Standing, to_go}
use Rattle.read_walk.proofs.+walk.Given as goal

-- Each one's measure is the pages to be reached, then the bytes of its part; never the level.
abbrev pub decreases-list_check : goal.decreases-list_check
decreases-list_check l = 16384 * l.left + 4 * length l.part.now + 3

abbrev pub decreases-node_check : goal.decreases-node_check
decreases-node_check l = 16384 * l.left + 4 * length l.part.now

abbrev pub decreases-part_check : goal.decreases-part_check
decreases-part_check l = 16384 * l.w.left + 4 * length l.node.now + 2

abbrev pub decreases-proxy_check : goal.decreases-proxy_check
decreases-proxy_check l = 16384 * l.w.left + 4 * length l.node.now + 1

-- At each turn the list, from where the walk is, comes to what it is to come to.
abbrev pub invariant-list_check-loop-w : goal.invariant-list_check-loop-w
invariant-list_check-loop-w l = Standing l.image (goal_of l.image l.part l.start l.level l.left l.initial.marks l.initial.widths l.initial.back) l.marks l.widths l.back l.w

abbrev pub decreases-list_check-loop-w : goal.decreases-list_check-loop-w
decreases-list_check-loop-w l = to_go l.w
