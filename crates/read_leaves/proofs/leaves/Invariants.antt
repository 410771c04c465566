use Prim.Native.Nat.{◌-◌}
use lib.ListN.{length}
use Rattle.read_leaves.specs.Leafy.{Passed}
use Rattle.read_leaves.proofs.leaves.Given as goal

abbrev pub invariant-loop-at : goal.invariant-loop-at
invariant-loop-at l = Passed l.part l.level l.at

abbrev pub decreases-loop-at : goal.decreases-loop-at
decreases-loop-at l = length l.part - l.at
