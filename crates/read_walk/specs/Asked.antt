-- What the walk asks for and leaves, whatever table keeps the ways back.
use Rattle.std.specs.Prelude.{◌≡◌, Bool, true, List, ℕ, ◌*◌, ◌≤◌, length, replicate}
use Rattle.model.specs.Limits.{most_pages, mark_bytes, page_size}
use Rattle.model.specs.Reading.{length_ok}
use Rattle.model.specs.BeforeWalk.{before_walk}
use Rattle.theory_check.specs.Check.{walk_of, walk_ok}
use Rattle.theory_check.specs.Widths.{widths_after}

-- The part before the walk passed, no page is marked, and the table of widths has an entry for each page.
pub record Ready (img : List ℕ) (left : ℕ) (marks widths : List ℕ) : Type 0 where
  pub long : length_ok (length img) ≡ true
  pub before : before_walk img ≡ true
  pub some : 1 ≤ left
  pub few : left ≤ most_pages
  pub none : marks ≡ replicate mark_bytes 0
  pub wide : length img ≤ page_size * length widths

-- Its answer, and where it passes the table of widths and the marks.
pub record Walked (img : List ℕ) (left : ℕ) (old new marks : List ℕ) (r : Bool) : Type 0 where
  pub answer : r ≡ walk_ok img left
  pub table : r ≡ true → new ≡ widths_after (walk_of img left).row old
  pub reached : r ≡ true → marks ≡ (walk_of img left).walk.marks
