-- Diagnose in a list of calls: an image that passes has no fault.
use Rattle.std.specs.Prelude.{◌≡◌, List, ℕ}
use Rattle.std.proofs.Common.{ap, arith}
use Rattle.model.specs.Row.{Row, Config}
use Rattle.model.specs.Tree.{shown}
use Rattle.model.specs.Reading.{Reads}
use Rattle.model.specs.Claims.{CallHolds}
use Rattle.model.specs.Calls.Diagnose.{no_fault, diagnosis, diagnose_of, diagnose_call}
use Rattle.model.specs.Calls.Diagnose.{Diagnosis}
use Rattle.theory_calls.specs.Open.{passes}
use Rattle.theory_calls.specs.Asking.{asked}

module _ (order : (img buffer : List ℕ) → List ℕ) (img : List ℕ) (st : Config) (root : Row) (r : Reads img st root) where
  healthy : diagnose_of img ≡ diagnosis 0 no_fault
  unfolding diagnose_of
  healthy = rw (passes img st root r)

  pub diagnose_holds : CallHolds order img (shown root) diagnose_call
  diagnose_holds =
      asked order img st root r Diagnosis (λ a. a.number) diagnose_of (λ f h t. diagnosis 0 no_fault) healthy
      (λ z. omega (arith, ap (λ (a : Diagnosis). a.number) healthy))
