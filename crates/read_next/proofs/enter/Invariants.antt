use Rattle.read_next.specs.Follow.{Ahead, Enter}
use Prim.Native.Nat.{ℕ}
use Rattle.read_next.proofs.enter.Given as goal

abbrev pub invariant-loop-at : goal.invariant-loop-at
invariant-loop-at l = (pos : ℕ) → Ahead l.image pos l.item → Enter l.image pos l.at l.left

abbrev pub decreases-loop-at : goal.decreases-loop-at
decreases-loop-at l = l.left
