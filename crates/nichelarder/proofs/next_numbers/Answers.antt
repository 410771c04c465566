-- `nichelarder::next_numbers` meets its contract: by the two cases of Next.
use mathlib.Core.Path.{sym, ap, ap₂, subst, ◌∙◌}
use mathlib.Core.List.{[], ◌∷◌}
use Prim.Native.Nat.{ℕ}
use native.Mathlib.Omega.{arith}
use Rattle.model.specs.Answers.{next_numbers}
use Rattle.nichelarder.specs.Small.{SmallNext}
use Rattle.nichelarder.proofs.next_numbers.Goals as goal

pub overflow_cast-result : goal.overflow_cast-result
overflow_cast-result c =
    record { fits = omega (arith, (subst SmallNext c.in-Node.is c.requires).page) }

pub overflow_cast-result-in-Node : goal.overflow_cast-result-in-Node
overflow_cast-result-in-Node c =
    record { fits = omega (arith, (subst SmallNext c.in-Node.is c.requires).offset) }

pub returns-in-Node : goal.returns-in-Node
returns-in-Node c =
    ap₂ (λ (k o : ℕ). 1 ∷ c.in-Node.n.place.page ∷ c.in-Node.n.place.offset ∷ k ∷ o ∷ []) c.from.ensures c.from-in-Node.ensures
    ∙ sym (ap next_numbers c.in-Node.is)
