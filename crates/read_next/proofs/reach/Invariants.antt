use Prim.Native.Nat.{◌-◌}
use Rattle.read_next.specs.Scan.{OnRecord, Scan}
use Rattle.read_next.proofs.reach.Given as goal

abbrev pub invariant-loop-pos : goal.invariant-loop-pos
invariant-loop-pos l = (w : OnRecord l.image l.page) → Scan l.image l.page w l.target l.pos

abbrev pub decreases-loop-pos : goal.decreases-loop-pos
decreases-loop-pos l = l.target - l.pos
