-- The rows of the table are those of the list, entry by entry.
use Rattle.std.specs.Prelude.{◌≡◌, refl, Bool, true, false, List, [], ◌∷◌, ℕ, zero, suc, ◌<◌, get_or}
use Rattle.std.proofs.Common.{arith}
use Rattle.model.specs.Row.{may_stand, standing}
use Rattle.base_node_kinds.proofs.may_stand.Goals as goal

-- What holds of each number below 5 holds of this one.
below_five : (P : ℕ → Type 0) → P 0 → P 1 → P 2 → P 3 → P 4 → (n : ℕ) → n < 5 → P n
below_five P a b c d e zero h = a
below_five P a b c d e (suc zero) h = b
below_five P a b c d e (suc (suc zero)) h = c
below_five P a b c d e (suc (suc (suc zero))) h = d
below_five P a b c d e (suc (suc (suc (suc zero)))) h = e
below_five P a b c d e (suc (suc (suc (suc (suc n))))) h = absurd (omega arith)

abbrev table : List (List Bool)
table =
    (false ∷ true ∷ true ∷ false ∷ true ∷ [])
    ∷ (false ∷ true ∷ true ∷ true ∷ false ∷ [])
    ∷ (false ∷ false ∷ false ∷ false ∷ false ∷ [])
    ∷ (false ∷ false ∷ false ∷ false ∷ false ∷ [])
    ∷ (false ∷ true ∷ true ∷ true ∷ false ∷ []) ∷ []

abbrev Same : ℕ → ℕ → Type 0
Same h k = get_or (get_or table h []) k false ≡ may_stand h k

same : (h k : ℕ) → h < 5 → k < 5 → Same h k
unfolding may_stand standing
same h k p q =
    below_five (λ x. Same x k)
    (below_five (Same 0) refl refl refl refl refl k q)
    (below_five (Same 1) refl refl refl refl refl k q)
    (below_five (Same 2) refl refl refl refl refl k q)
    (below_five (Same 3) refl refl refl refl refl k q)
    (below_five (Same 4) refl refl refl refl refl k q) h p

pub returns : goal.returns
returns c = same _ _ c.requires.0 c.requires.1
