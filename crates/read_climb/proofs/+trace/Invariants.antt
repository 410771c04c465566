-- `read_climb::trace`: a level of the way. The measure is the distance to the target.
use Prim.Native.Nat.{◌-◌}
use Rattle.read_climb.proofs.+trace.Given as goal

abbrev pub decreases-trace : goal.decreases-trace
decreases-trace l = l.target - l.pos
