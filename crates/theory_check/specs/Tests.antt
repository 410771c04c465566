-- Marks, a bit for each page: those of the check, and growth's map of the pages in use. What a page is by itself.
use Rattle.std.specs.Prelude.{Bool, cond, List, ℕ, ◌-◌, ◌*◌, ◌/◌, ◌%◌, ◌^◌, get_or, set, eqb}
use Rattle.std.specs.Int.Bits.{bit_and, bit_or}
use Rattle.model.specs.BeforeWalk.{trailer_of, is_free, page_fits}

unfoldable pub is_marked : (marks : List ℕ) → (page : ℕ) → Bool
is_marked m p = eqb (get_or m (p / 8) 0 / 2 ^ (p % 8) % 2) 1

unfoldable pub marked : (marks : List ℕ) → (page : ℕ) → List ℕ
marked m p = set m (p / 8) (bit_or (get_or m (p / 8) 0) (1 * 2 ^ (p % 8) % 256))

unfoldable pub unmarked : (marks : List ℕ) → (page : ℕ) → List ℕ
unmarked m p = set m (p / 8) (bit_and (get_or m (p / 8) 0) (255 - 1 * 2 ^ (p % 8) % 256))

-- What page p is by itself, in an image of so many pages: 0 against the rules, 1 free, 2 a record's.
unfoldable pub state_of : (pages p : ℕ) → (page : List ℕ) → ℕ
state_of pages p s = cond (page_fits pages p s) (cond (is_free (trailer_of s)) 1 2) 0
