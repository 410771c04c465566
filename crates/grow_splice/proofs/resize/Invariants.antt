-- `grow_splice::resize`: from pos on, the nodes that contain the position have their old sizes.
use mathlib.Core.Path.{◌≡◌}
use mathlib.Core.List.{List}
use Prim.Native.Nat.{ℕ, ◌+◌, ◌-◌}
use lib.ListN.{length}
use Rattle.grow_splice.specs.Resize.{Mid}
use Rattle.grow_splice.proofs.resize.Given as goal

abbrev pub invariant-loop-pos : goal.invariant-loop-pos
invariant-loop-pos l = ((goal : List ℕ) → Mid l.initial.s goal 6 l.par l.less l.more → Mid l.s goal l.pos l.par l.less l.more) × (length l.s ≡ length l.initial.s)

abbrev pub decreases-loop-pos : goal.decreases-loop-pos
decreases-loop-pos l = l.par + 1 - l.pos
