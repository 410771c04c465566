-- `read_find::width`: the loop goes along the row; what is left of it brings the count to the whole.
use Rattle.std.proofs.Common.{ℕ, ◌-◌}
use Rattle.model.specs.Limits.{most_pages}
use Rattle.read_find.specs.Rowed.{Counted}
use Rattle.read_find.proofs.width.Given as goal

abbrev pub invariant-loop-i : goal.invariant-loop-i
invariant-loop-i l = (t : ℕ) → Counted l.image l.pos l.end most_pages 0 t → Counted l.image l.i l.end most_pages l.n t

abbrev pub decreases-loop-i : goal.decreases-loop-i
decreases-loop-i l = l.end - l.i
