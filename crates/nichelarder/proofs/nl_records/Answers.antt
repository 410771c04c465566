-- `nichelarder::nl_records` meets its contract: the answer is handed over as it is.
use Rattle.std.proofs.Common.{ap, ◌∙◌, arith}
use Rattle.model.specs.Answers.{WriteAnswer}
use Rattle.nichelarder.specs.Small.{records_small}
use Rattle.nichelarder.proofs.nl_records.Goals as goal

pub overflow_cast-written : goal.overflow_cast-written
overflow_cast-written c =
    let a = c.args in
    record { fits = omega (arith, ap (λ (r : WriteAnswer). r.written) c.in-Ok.ensures.answer, records_small a.image.now a.pages.now) }

pub returns-in-Ok : goal.returns-in-Ok
returns-in-Ok c =
    let e = c.in-Ok.ensures in
    record {
      number = ap (λ (r : WriteAnswer). r.number) e.answer;
      written = ap (λ (r : WriteAnswer). r.written) e.answer;
      pages = e.buffer;
    }

pub returns-in-Err : goal.returns-in-Err
returns-in-Err c =
    let e = c.in-Err.ensures in
    record {
      number = c.from.ensures ∙ ap (λ (r : WriteAnswer). r.number) e.answer;
      written = ap (λ (r : WriteAnswer). r.written) e.answer;
      pages = e.buffer;
    }
