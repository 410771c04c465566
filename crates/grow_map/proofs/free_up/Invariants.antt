-- `grow_map::free_up`: all pages that are passed are used, one by one or with the bytes that hold them.
use Prim.Native.Nat.{◌*◌, ◌-◌}
use lib.ListN.{length}
use Rattle.grow_map.specs.Search.{Upto}
use Rattle.grow_map.proofs.free_up.Given as goal

abbrev pub invariant-loop-q : goal.invariant-loop-q
invariant-loop-q l = Upto l.map l.from l.q

abbrev pub decreases-loop-q : goal.decreases-loop-q
decreases-loop-q l = 8 * length l.map - l.q
