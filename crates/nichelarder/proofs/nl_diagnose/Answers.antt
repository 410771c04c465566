-- `nichelarder::nl_diagnose` meets its contract: the answer is handed over as it is.
use Rattle.std.proofs.Common.{ap, ap₂, ◌∙◌, arith, [], ◌∷◌, ℕ}
use Rattle.model.specs.Calls.Diagnose.{Diagnosis}
use Rattle.theory_faults.specs.Small.{diagnose_small}
use Rattle.nichelarder.specs.Numbers.{fault_numbers}
use Rattle.nichelarder.proofs.nl_diagnose.Goals as goal

pub overflow_cast-answer : goal.overflow_cast-answer
overflow_cast-answer c =
    let e = rw c.in-Err-Broken.field-0-is at c.in-Err-Broken.ensures in
    record { fits = omega (arith, ap (λ (r : Diagnosis). r.page) e, diagnose_small c.args.image.now) }

pub returns-in-Ok : goal.returns-in-Ok
returns-in-Ok c =
    let e = c.in-Ok.ensures in
    record { number = ap (λ (r : Diagnosis). r.number) e; answer = ap fault_numbers e }

pub returns-in-Err-WrongLength : goal.returns-in-Err-WrongLength
returns-in-Err-WrongLength c =
    let e = rw c.in-Err-WrongLength.field-0-is at c.in-Err-WrongLength.ensures in
    record { number = c.from.ensures ∙ ap (λ (r : Diagnosis). r.number) e; answer = ap fault_numbers e }

pub returns-in-Err-Broken : goal.returns-in-Err-Broken
returns-in-Err-Broken c =
    let e = rw c.in-Err-Broken.field-0-is at c.in-Err-Broken.ensures in
    record {
      number = c.from-in-Err-Broken-3.ensures ∙ ap (λ (r : Diagnosis). r.number) e;
      answer = ap₂ (λ (s r : ℕ). s ∷ c.in-Err-Broken.fault.page ∷ r ∷ []) c.from-in-Err-Broken.ensures c.from-in-Err-Broken-2.ensures ∙ ap fault_numbers e;
    }
