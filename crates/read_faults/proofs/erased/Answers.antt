use Rattle.std.specs.Prelude.{◌≡◌, refl, List, [], ◌∷◌, Bool, true, false, ◌&&◌, ℕ, eqb}
use Rattle.std.specs.List.{fold}
use Rattle.std.proofs.Common.{rules, ◌∙◌}
use Rattle.std.proofs.lemmas.Iterator.{YieldsList-from_slice}
use Rattle.std.proofs.lemmas.Iterator.Consumers.{fold_from_yields_List}
use borrow.Author.Tests.{tests}
use Rattle.model.specs.Row.{every}
use Rattle.read_faults.proofs.erased.Goals as goal

folded : (f : ℕ → Bool) (b : Bool) (xs : List ℕ) → fold (λ (a : Bool) (x : ℕ). a && f x) b xs ≡ b && every f xs
folded f true [] = refl
folded f false [] = refl
folded f true (x ∷ xs) = folded f (f x) xs
folded f false (x ∷ xs) = folded f false xs

pub returns : goal.returns
returns c =
    let f : ℕ → Bool = (λ x. eqb x 255) in
    let h : Bool → ℕ → Bool = (λ a x. a && f x) in
    let e : c.fold.result ≡ fold h true c.args.s.now = fold_from_yields_List _ h true _ c.fold.ensures.ran (YieldsList-from_slice c.args.s.now cc) (λ a x b q k. search (rules, tests)) in
    e ∙ folded f true c.args.s.now
