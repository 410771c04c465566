-- Find in a list of calls.
use Rattle.std.specs.Prelude.{◌≡◌, Bool, length, ltb, List, [], ◌∷◌, ℕ}
use Rattle.std.proofs.Math.Path.{refl}
use Rattle.std.proofs.Common.{sym, ap, ◌∙◌}
use native.Mathlib.Omega.{arith}
use Rattle.model.specs.Row.{Row, Config}
use Rattle.model.specs.Tree.{shown, place_of}
use Rattle.model.specs.Reading.{Reads}
use Rattle.model.specs.Claims.{CallHolds}
use Rattle.theory_calls.specs.Open.{opens}
use Rattle.theory_calls.specs.Asking.{asked}
use Rattle.model.specs.Limits.{longest_path}
use Rattle.model.specs.Common.{named_by, is_none}
use Rattle.model.specs.Calls.Find.{find_in, find_of, find_call}
use Rattle.model.specs.Answers.{FindAnswer}
use Rattle.theory_calls.specs.FirstRefusal.{accept_number, first_given}

module _ (order : (img buffer : List ℕ) → List ℕ) (img : List ℕ) (st : Config) (root : Row) (r : Reads img st root) where
  module _ (path : List ℕ) where
    abbrev tests : List (ℕ × Bool)
    tests = (4, ltb longest_path (length path)) ∷ (7, is_none (named_by (shown root) path)) ∷ []

    found : find_of img path ≡ find_in (shown root) (place_of root) path
    unfolding find_of
    found = rw (opens img st root r)

    -- 12 is none of its numbers.
    never_full : (find_of img path).number ≡ 12 → ⊥
    unfolding find_in
    never_full z =
        first_given 12 tests (omega arith) (omega arith, (omega arith, tt))
        (sym (ap (λ (a : FindAnswer). a.number) found ∙ accept_number (λ (a : FindAnswer). a.number) _ _ _ refl refl) ∙ z)

    pub find_holds : CallHolds order img (shown root) (find_call path)
    unfolding find_of
    find_holds = asked order img st root r FindAnswer (λ a. a.number) (λ i. find_of i path) _ (rw (opens img st root r)) never_full
