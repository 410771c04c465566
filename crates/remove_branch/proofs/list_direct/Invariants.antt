-- `remove_branch::list_direct`: what is left of the row leads to the same list.
use Rattle.std.proofs.Common.{◌-◌, length}
use Rattle.remove_branch.specs.Listed.{Listing, Along}
use Rattle.remove_branch.proofs.list_direct.Given as goal

abbrev pub invariant-loop-pos : goal.invariant-loop-pos
invariant-loop-pos g l = (w : Listing l.part l.initial.list.items g.row.N) → Along w l.pos l.list.items

abbrev pub decreases-loop-pos : goal.decreases-loop-pos
decreases-loop-pos g l = length l.part - l.pos
