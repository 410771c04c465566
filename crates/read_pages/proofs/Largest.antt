-- The largest of some bytes is zero where each of them is.
use Rattle.std.specs.Prelude.{◌≡◌, List, [], ◌∷◌, Bool, ◌&&◌, ℕ, max, eqb}
use Rattle.std.specs.List.{fold}
use Rattle.std.proofs.Common.{arith, sym, ap, ◌∙◌}
use Rattle.std.proofs.Math.Bool.{and-true, and_assoc}
use Rattle.std.proofs.lemmas.Bool.Decides.{nat_tests}
use Rattle.model.specs.Row.{every}

either : (a x : ℕ) → eqb (max a x) 0 ≡ (eqb a 0 && eqb x 0)
either a x = grind (arith, nat_tests)

pub largest_zero : (a : ℕ) (xs : List ℕ) → eqb (fold max a xs) 0 ≡ (eqb a 0 && every (λ x. eqb x 0) xs)
largest_zero a [] = sym (and-true (eqb a 0))
largest_zero a (x ∷ xs) = largest_zero (max a x) xs ∙ ap (λ (b : Bool). b && every (λ x. eqb x 0) xs) (either a x) ∙ and_assoc (eqb a 0) _ _
