-- `grow_replace_proxy::proxy_in`: from pos on, the search leads to the same proxy.
use Prim.Native.Nat.{ℕ, ◌-◌}
use lib.ListN.{length}
use Rattle.grow_replace_proxy.specs.Seek.{Seek}
use Rattle.grow_replace_proxy.proofs.proxy_in.Given as goal

abbrev pub invariant-loop-pos : goal.invariant-loop-pos
invariant-loop-pos l = (goal : ℕ) → Seek l.rec l.page 6 goal → Seek l.rec l.page l.pos goal

abbrev pub decreases-loop-pos : goal.decreases-loop-pos
decreases-loop-pos l = length l.rec - l.pos
