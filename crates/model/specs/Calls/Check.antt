-- Check.
use Rattle.std.specs.Prelude.{List, ℕ}
use Rattle.model.specs.Common.{opened, on_store}
use Rattle.model.specs.Effect.{Effect, asking}

unfoldable pub check_of : (img : List ℕ) → ℕ
check_of img = on_store (opened img) (λ n. n) (λ st root. 0)

abbrev pub check_call : Effect
check_call = asking ℕ (λ n. n) check_of (λ f h t. 0)
