-- Next in a list of calls.
use Rattle.std.specs.Prelude.{◌≡◌, ℕ}
use Rattle.std.proofs.Common.{sym, ap, ◌∙◌}
use mathlib.Core.List.{List, [], ◌∷◌}
use native.Mathlib.Omega.{arith}
use Rattle.model.specs.Row.{Row, Config}
use Rattle.model.specs.Tree.{shown, Node, nodes, place_of, from_place}
use Rattle.model.specs.Reading.{Reads}
use Rattle.model.specs.Claims.{CallHolds}
use Rattle.theory_calls.specs.Open.{opens}
use Rattle.theory_calls.specs.Asking.{asked}
use Rattle.model.specs.Calls.Next.{next_from, next_in, next_of, next_call}
use Rattle.model.specs.declared.Place.{Place}
use Rattle.model.specs.Answers.{NextAnswer}

module _ (order : (img buffer : List ℕ) → List ℕ) (img : List ℕ) (st : Config) (root : Row) (r : Reads img st root) where
  module _ (x : Place) where
    followed : next_of img x ≡ next_in (shown root) (place_of root) x
    unfolding next_of
    followed = rw (opens img st root r)

    -- 12 is none of its numbers.
    never_full : (next_of img x).number ≡ 12 → ⊥
    unfolding next_in
    never_full z = go (from_place (place_of root) x (nodes (shown root))) (sym (ap (λ (a : NextAnswer). a.number) followed) ∙ z)
      where
        go : (ns : List Node) → (next_from (place_of root) ns).number ≡ 12 → ⊥
        go [] e = omega arith
        go (n ∷ []) e = omega arith
        go (n ∷ m ∷ ns) e = omega arith

    pub next_holds : CallHolds order img (shown root) (next_call x)
    unfolding next_of
    next_holds = asked order img st root r NextAnswer (λ a. a.number) (λ i. next_of i x) _ (rw (opens img st root r)) never_full
