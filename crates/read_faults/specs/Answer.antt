-- A fault as an answer of diagnose, and the parts of the first two stages.
use Rattle.std.specs.Prelude.{◌≡◌, refl, Result, Ok, Err, IsErrAnd, Bool, cond, not, ◌&&◌, List, ℕ, eqb}
use Rattle.model.specs.BeforeWalk.{all_zero, is_free}
use Rattle.model.specs.Answers.{not_passed}
use Rattle.model.specs.Calls.Diagnose.{Fault, Diagnosis, fault, no_fault, diagnosis}
use Rattle.model.specs.Reasons.{stage_number, as_fault, diagnose_result}
use Rattle.model.specs.declared.Stage.{Stage}
use Rattle.model.specs.declared.Stage.TheVariants.{Settings, Pages, Walk}
use Rattle.model.specs.declared.Fault as found
use Rattle.model.specs.declared.Failure.{Failure}
use Rattle.model.specs.declared.Failure.TheVariants.{Broken}
use Rattle.std.proofs.Common.{ap, ◌∙◌}

-- The check's number goes with the fault: 3, or 0 where there is none.
abbrev pub answer : Fault → Diagnosis
answer f = cond (eqb f.stage 0) (diagnosis 0 no_fault) (diagnosis not_passed f)

-- Each stage has a number that is not 0.
pub broken : (f : found.Fault) → diagnosis not_passed (as_fault f) ≡ answer (as_fault f)
broken f = go f.stage
  where
    go : (s : Stage) → diagnosis not_passed (fault (stage_number s) (as_fault f).page (as_fault f).reason)
        ≡ answer (fault (stage_number s) (as_fault f).page (as_fault f).reason)
    go Settings = refl
    go Pages = refl
    go Walk = refl

pub as_broken : {A : Type 0} (f : found.Fault) (r : Result A Failure) → IsErrAnd r (λ e. e ≡ Broken f) → diagnose_result r ≡ answer (as_fault f)
as_broken f (Ok a) h = absurd h
as_broken f (Err e) h = ap (λ (e : Failure). diagnose_result {A = ℕ} (Err e)) h ∙ broken f

-- The trailer t lets page p be free.
abbrev pub free_trailer : (p : ℕ) → (t : List ℕ) → Bool
free_trailer p t = is_free t && (not (eqb p 1) && all_zero t)
