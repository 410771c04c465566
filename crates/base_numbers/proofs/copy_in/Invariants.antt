-- After j turns the first j bytes of src stand from `at`.
use mathlib.Core.Path.{◌≡◌}
use Prim.Native.Nat.{◌≤◌}
use lib.ListN.{length, take}
use Rattle.base_numbers.specs.Over.{over}
use Rattle.base_numbers.proofs.copy_in.Given as goal

abbrev pub invariant-loop-j : goal.invariant-loop-j
invariant-loop-j l = (l.dst ≡ over l.at (take l.j l.src) l.initial.dst) × ((l.j ≤ length l.src) × (length l.dst ≡ length l.initial.dst))
