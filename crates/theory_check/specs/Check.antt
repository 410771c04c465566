-- The check in the order of the code: the length, page 0, all trailers and free pages, then the walk.
use Rattle.std.specs.Prelude.{◌≡◌, Bool, true, cond, ◌&&◌, List, ℕ, zero, suc, ◌+◌, ◌-◌, ◌≤◌, length, replicate, eqb}
use Rattle.model.specs.Limits.{most_pages, page_size, mark_bytes}
use Rattle.model.specs.Reading.{length_ok, page_of, kind_at}
use Rattle.model.specs.BeforeWalk.{trailer_of, is_free, page_count, before_walk}
use Rattle.theory_check.specs.Sums.{sum}
use Rattle.model.specs.WalkTests.{tail_zero, record_of}
use Rattle.theory_check.specs.Tests.{state_of}
use Rattle.theory_check.specs.Walk.{state, Decoded, node_of}

-- 1 for a page in use.
abbrev pub in_use : (img : List ℕ) → (q : ℕ) → ℕ
in_use img q = cond (is_free (trailer_of (page_of img q))) 0 1

-- What the part before the walk hands on: the number of record pages, 0 where it does not pass.
unfoldable pub trailers_of : (img : List ℕ) → ℕ
trailers_of img = cond (before_walk img) (sum (in_use img) (page_count img - 1) 1) 0

-- As the loop over the pages finds it: of k pages from p on, with n record pages before them.
unfoldable pub scan_from : (img : List ℕ) → (pages k p n : ℕ) → ℕ
scan_from img pages zero p n = n
scan_from img pages (suc k) p n =
    let on = scan_from img pages k (suc p) (n + 1) in
    let past = scan_from img pages k (suc p) n in
    let found = state_of pages p (page_of img p) in
    cond (eqb found 0) 0 (cond (eqb found 2) on past)

-- What the walk asks for: the part before it passes. So it need not ask again whether a record's length fits its page.
abbrev pub PassedBefore : (img : List ℕ) → Type 0
PassedBefore img = (page_count img ≤ most_pages) × (before_walk img ≡ true)

-- The walk from page 1, whose record's root is an aggregate.
unfoldable pub walk_of : (img : List ℕ) → (left : ℕ) → Decoded
walk_of img n = node_of img (record_of img 1) 1 0 1 (state n (replicate mark_bytes 0))

unfoldable pub walk_ok : (img : List ℕ) → (left : ℕ) → Bool
walk_ok img n = eqb (kind_at img page_size) 1 && tail_zero img 1 && eqb (walk_of img n).walk.left 1

unfoldable pub check_by : (img : List ℕ) → ℕ
check_by img =
    let walked : ℕ = cond (walk_ok img (trailers_of img)) 0 3 in
    let after = cond (before_walk img) walked 3 in
    cond (length_ok (length img)) after 1
