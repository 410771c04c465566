-- `grow_split::separate`: a level of the separator. The measure is the length of the row.
use Prim.Native.Nat.{◌-◌}
use Rattle.grow_split.proofs.+separate.Given as goal

abbrev pub decreases-separate : goal.decreases-separate
decreases-separate l = l.row.end - l.row.pos
