use mathlib.Core.Path.{◌≡◌}
use Prim.Native.Nat.{◌≤◌, ◌+◌, ◌*◌, ◌-◌}
use lib.ListN.{length}
use Rattle.read_nodes.specs.Inner.{Each}
use Rattle.read_nodes.proofs.only.Given as goal

-- The invariant: the d aggregates before `at` are each the only node that the last holds.
abbrev pub invariant-loop-at : goal.invariant-loop-at
invariant-loop-at l = (l.at ≡ 6 * l.d + 6) × (l.at ≤ length l.part) × Each l.part l.level l.d

abbrev pub decreases-loop-at : goal.decreases-loop-at
decreases-loop-at l = length l.part - l.at
