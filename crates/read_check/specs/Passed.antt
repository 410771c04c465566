-- What the check answers, and where it passes what it leaves in the table of widths and in the marks.
use Rattle.std.specs.Prelude.{◌≡◌, List, ℕ}
use Rattle.theory_check.specs.Check.{trailers_of, walk_of, check_by}
use Rattle.theory_check.specs.Widths.{widths_after}

pub record Passed (img old new marks : List ℕ) (r : ℕ) : Type 0 where
  pub answer : r ≡ check_by img
  pub table : r ≡ 0 → new ≡ widths_after (walk_of img (trailers_of img)).row old
  pub reached : r ≡ 0 → marks ≡ (walk_of img (trailers_of img)).walk.marks
