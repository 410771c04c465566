-- `read_fault_walk::row_walk`: what is left, done from the byte at hand, comes to the call's walk. Pages to reach fall, then bytes.
use Rattle.std.proofs.Common.{◌+◌, ◌-◌, ◌*◌}
use Rattle.read_fault_nodes.specs.Rows.{holder_number}
use Rattle.read_fault_walk.specs.Steps.{Going, call_of}
use Rattle.read_fault_walk.proofs.+row_walk.Given as goal

abbrev pub decreases-row_walk : goal.decreases-row_walk
decreases-row_walk l = 8192 * l.left + (l.stop - l.start)

abbrev pub invariant-loop-at : goal.invariant-loop-at
invariant-loop-at l = Going l.image (call_of l.start l.stop (holder_number l.initial.holder) l.initial.level l.left l.initial.marks l.initial.back) l.marks l.back (holder_number l.holder) l.level l.at l.end (holder_number l.kind) l.rest l.depth

-- Falls also where the walk comes out of a record: a row is shorter than a page.
abbrev pub decreases-loop-at : goal.decreases-loop-at
decreases-loop-at l = 8192 * l.rest + 4096 * l.depth + (l.end - l.at)
