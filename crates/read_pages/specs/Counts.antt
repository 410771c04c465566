-- The states of a page by their numbers, and the count of the record pages.
use Rattle.std.specs.Prelude.{◌≡◌, refl, cond, Option, None, Some, List, ℕ, ◌+◌}
use Rattle.std.proofs.Common.{arith}
use Rattle.model.specs.BeforeWalk.{pages_fit}
use Rattle.theory_check.specs.Sums.{sum}
use Rattle.theory_check.specs.Check.{in_use}
use Rattle.read_pages.specs.declared.PageState.{PageState}
use Rattle.read_pages.specs.declared.PageState.TheVariants.{Broken, Free, Record}

-- As `state_of` has them.
abbrev pub state_number : PageState → ℕ
state_number Broken = 0
state_number Free = 1
state_number Record = 2

pub only_broken : (s : PageState) → state_number s ≡ 0 → s ≡ Broken
only_broken Broken e = refl
only_broken Free e = absurd (omega (arith, e))
only_broken Record e = absurd (omega (arith, e))

-- Of the k pages from p on, with n record pages before them; none where one of them is against the rules.
abbrev pub count_from : (img : List ℕ) → (pages k p n : ℕ) → Option ℕ
count_from img pages k p n = cond (pages_fit img pages k p) (Some (n + sum (in_use img) k p)) None
