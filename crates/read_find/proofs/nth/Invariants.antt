-- `read_find::nth`: the loop goes along the row, past records that the table lets it pass, and into the one that holds the node; in what is left the
-- node sought stays the same. Into a record the depth falls.
use Rattle.std.specs.Prelude.{Result}
use Rattle.std.proofs.Common.{ℕ, ◌+◌, ◌*◌, ◌-◌}
use Rattle.model.specs.Limits.{page_size}
use Rattle.read_find.specs.Rowed.{Sought}
use Rattle.read_find.proofs.nth.Given as goal

abbrev pub invariant-loop-i : goal.invariant-loop-i
invariant-loop-i l = (t : Result ℕ ℕ) → Sought l.image l.pos l.end l.depth l.k t → Sought l.image l.i l.stop l.deep l.left t

abbrev pub decreases-loop-i : goal.decreases-loop-i
decreases-loop-i l = page_size * l.deep + (l.stop - l.i)
