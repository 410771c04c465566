-- `grow_split_point::child`: the search has come to pos.
use Prim.Native.Nat.{◌-◌}
use Rattle.grow_split_point.specs.Kids.{Kids}
use Rattle.grow_split_point.specs.Search.{Seeks}
use Rattle.grow_split_point.proofs.child.Given as goal

abbrev pub invariant-loop-pos : goal.invariant-loop-pos
invariant-loop-pos l = (w : Kids l.buf l.start l.end) → Seeks l.buf l.p l.start w.row l.pos l.end

abbrev pub decreases-loop-pos : goal.decreases-loop-pos
decreases-loop-pos l = l.end - l.pos
