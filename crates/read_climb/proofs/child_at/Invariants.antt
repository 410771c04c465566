-- `read_climb::child_at`: what is left of the search leads to the same node. The measure is what is left of the way to the target.
use Prim.Native.Nat.{◌-◌}
use Rattle.read_climb.specs.Route.{spot, before}
use Rattle.read_climb.specs.Search.{Search, Searching}
use Rattle.read_climb.proofs.child_at.Given as goal

abbrev pub invariant-loop-i : goal.invariant-loop-i
invariant-loop-i l = (w : Search l.image l.pos l.target) → Searching l.image l.target l.i l.n (spot w.has) (before w.has)

abbrev pub decreases-loop-i : goal.decreases-loop-i
decreases-loop-i l = l.target - l.i
