-- `grow_widths::sum`: what is left of the row brings the sum to the whole; each byte passed adds at most one largest entry.
use Rattle.std.proofs.Common.{ℕ, ◌-◌, ◌*◌, ◌≤◌, ◌<◌, length}
use Rattle.grow_widths.specs.Tally.{most_entry}
use Rattle.grow_widths.specs.Tallying.{Tallying}
use Rattle.grow_widths.proofs.sum.Given as goal

abbrev pub invariant-loop-pos : goal.invariant-loop-pos
invariant-loop-pos l = record {
  brings : (t : ℕ) → Tallying l.part l.widths 0 0 t → Tallying l.part l.widths l.pos l.n t;
  few : l.n ≤ most_entry * l.pos;
  short : length l.part < 65536;
}

abbrev pub decreases-loop-pos : goal.decreases-loop-pos
decreases-loop-pos l = length l.part - l.pos
