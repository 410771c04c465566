-- `read_entries::run`: the walk stays the same walk.
use Rattle.std.proofs.Common.{◌≡◌, ℕ, ◌+◌, ◌*◌, ◌-◌, ◌≤◌, length}
use Rattle.read_cursor.specs.Going.{Goal, Going}
use Rattle.read_entries.proofs.run.Given as goal

abbrev pub invariant-loop-i : goal.invariant-loop-i
invariant-loop-i l = ((target : ℕ) (g : Goal) → Going l.image target g l.initial.c l.initial.stack l.initial.out → g.base ≡ l.level → Going l.image target g l.c l.stack l.out)
    × (l.initial.c.i ≤ l.c.i) × (l.c.level + l.initial.c.i ≤ l.initial.c.level + l.c.i)

abbrev pub decreases-loop-i : goal.decreases-loop-i
decreases-loop-i l = 2 * (length l.image - l.c.i) + l.c.level
