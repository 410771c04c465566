-- `read_climb::climb_path`: the state of the climb at each record. The measure is the number of records that may be above.
use mathlib.Core.Path.{◌≡◌}
use lib.ListN.{length}
use Rattle.read_next.specs.Scan.{NodeAt}
use Rattle.read_climb.specs.Rise.{Climb, place_at_byte}
use Rattle.read_climb.proofs.climb_path.Given as goal

abbrev pub invariant-loop-page : goal.invariant-loop-page
invariant-loop-page l = ((w : NodeAt l.image l.pos) → Climb w.root (place_at_byte l.pos) l.page l.target l.carry l.at l.left l.path) × (length l.path ≡ 92)

abbrev pub decreases-loop-page : goal.decreases-loop-page
decreases-loop-page l = l.left
