-- Climb in a list of calls.
use Rattle.std.specs.Prelude.{◌≡◌, ℕ}
use Rattle.std.proofs.Common.{sym, ap, ◌∙◌}
use mathlib.Core.List.{List, [], ◌∷◌}
use native.Mathlib.Omega.{arith}
use Rattle.model.specs.Row.{Row, Config}
use Rattle.model.specs.Tree.{shown, Node, nodes, place_of, from_place}
use Rattle.model.specs.Reading.{Reads}
use Rattle.model.specs.Claims.{CallHolds}
use Rattle.theory_calls.specs.Open.{opens}
use Rattle.theory_calls.specs.Asking.{asked}
use Rattle.model.specs.Common.{path_bytes}
use Rattle.model.specs.Calls.Climb.{climb_from, climb_in, climb_of, climb_call}
use Rattle.model.specs.declared.Place.{Place}
use Rattle.model.specs.Answers.{WriteAnswer}
use Rattle.theory_calls.specs.FirstRefusal.{write_number}

module _ (order : (img buffer : List ℕ) → List ℕ) (img : List ℕ) (st : Config) (root : Row) (r : Reads img st root) where
  module _ (x : Place) (buffer : List ℕ) where
    climbed : climb_of img x buffer ≡ climb_in (shown root) (place_of root) x buffer
    unfolding climb_of
    climbed = rw (opens img st root r)

    -- 12 is none of its numbers.
    never_full : (climb_of img x buffer).0.number ≡ 12 → ⊥
    unfolding climb_in
    never_full z = go (from_place (place_of root) x (nodes (shown root))) (sym (ap (λ (a : WriteAnswer × List ℕ). a.0.number) climbed) ∙ z)
      where
        go : (ns : List Node) → (climb_from ns buffer).0.number ≡ 12 → ⊥
        go [] e = omega arith
        go (n ∷ ns) e = omega (arith, write_number (path_bytes n.path) buffer)

    pub climb_holds : CallHolds order img (shown root) (climb_call x buffer)
    unfolding climb_of
    climb_holds = asked order img st root r (WriteAnswer × List ℕ) (λ a. a.0.number) (λ i. climb_of i x buffer) _ (rw (opens img st root r)) never_full
