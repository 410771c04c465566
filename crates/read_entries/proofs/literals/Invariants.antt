-- `read_entries::literals`: the walk stays the same walk.
use mathlib.Core.Path.{◌≡◌}
use mathlib.Core.List.{List}
use Rattle.read_cursor.specs.declared.Level.{Level}
use Prim.Native.Nat.{ℕ, ◌-◌, ◌≤◌}
use lib.ListN.{length}
use Rattle.read_cursor.specs.Going.{Goal, Going}
use Rattle.read_entries.specs.Literals.{literal_next}
use Rattle.read_entries.proofs.literals.Given as goal

abbrev pub invariant-loop-out : goal.invariant-loop-out
invariant-loop-out l = ((target : ℕ) (g : Goal) (stack : List Level) → Going l.image target g l.initial.c stack l.initial.out → Going l.image target g l.c stack l.out)
    × (1 ≤ l.c.at) × (l.c.next ≡ 0) × (l.initial.c.i ≤ l.c.i) × (l.c.level ≡ l.initial.c.level)
    × (l.c.i ≡ l.initial.c.i → literal_next l.image l.c (length l.out) ≡ literal_next l.image l.initial.c (length l.initial.out))

abbrev pub decreases-loop-out : goal.decreases-loop-out
decreases-loop-out l = length l.image - l.c.i
