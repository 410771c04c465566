-- `read_entries::walk_records`: what is left of the record at hand and of those around it comes to what the whole walk does.
use Rattle.std.proofs.Common.{◌≡◌, length}
use Rattle.read_entries.specs.Records.{Rooted, turns, start, Walking}
use Rattle.read_entries.proofs.walk_records.Given as goal

abbrev pub invariant-loop-stack : goal.invariant-loop-stack
invariant-loop-stack l = (length l.back ≡ length l.initial.back) × ((r : Rooted l.image) → Walking l.image l.target (start r l.target l.initial.out).result (length l.initial.out) l.back l.held l.w l.c l.stack l.out)

abbrev pub decreases-loop-stack : goal.decreases-loop-stack
decreases-loop-stack l = turns l.back l.w l.c
