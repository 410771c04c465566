-- Check in a list of calls.
use Rattle.std.proofs.Common.{arith}
use Rattle.std.specs.Prelude.{List, ℕ}
use Rattle.model.specs.Row.{Row, Config}
use Rattle.model.specs.Tree.{shown}
use Rattle.model.specs.Reading.{Reads}
use Rattle.model.specs.Claims.{CallHolds}
use Rattle.model.specs.Calls.Check.{check_of, check_call}
use Rattle.theory_calls.specs.Open.{passes}
use Rattle.theory_calls.specs.Asking.{asked}

module _ (order : (img buffer : List ℕ) → List ℕ) (img : List ℕ) (st : Config) (root : Row) (r : Reads img st root) where
  pub check_holds : CallHolds order img (shown root) check_call
  check_holds =
      let e = passes img st root r in
      asked order img st root r ℕ (λ n. n) check_of (λ f h t. 0) e (λ z. omega (arith, e))
