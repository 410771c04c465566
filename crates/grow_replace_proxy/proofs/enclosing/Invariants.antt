-- `grow_replace_proxy::enclosing`: from pos on, the walk leads to the same node.
use Prim.Native.Nat.{ℕ, ◌-◌}
use Rattle.grow_replace_proxy.specs.Inner.{Inner}
use Rattle.grow_replace_proxy.proofs.enclosing.Given as goal

abbrev pub invariant-loop-pos : goal.invariant-loop-pos
invariant-loop-pos l = (goal : ℕ) → Inner l.rec l.target 6 0 goal → Inner l.rec l.target l.pos l.par goal

abbrev pub decreases-loop-pos : goal.decreases-loop-pos
decreases-loop-pos l = l.target - l.pos
