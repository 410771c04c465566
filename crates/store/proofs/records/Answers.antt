-- `store::records`: an image that does not pass gives the check's number.
use Rattle.std.proofs.Common.{sym, ap, List, ℕ}
use Rattle.std.proofs.lemmas.Result.{err_from_is_err_and}
use Rattle.model.specs.Answers.{WriteAnswer}
use Rattle.theory_calls.specs.Refusals.{some_number}
use Rattle.read_records.specs.Up.{up_pages}
use Rattle.store.specs.Refused.{records_refused}
use Rattle.store.proofs.records.Goals as goal

pub returns-in_err-check : goal.returns-in_err-check
returns-in_err-check c =
    let p = err_from_is_err_and c.from_residual.result c.from_residual.ensures.1 in
    let e = records_refused c.args.image.now _ c.in_err-check.ensures (some_number _) (up_pages c.args.image.now) c.args.buffer.now in
    rw (p.1, p.2) (record {
      answer = sym (ap (λ (o : WriteAnswer × List ℕ). o.0) e);
      buffer = sym (ap (λ (o : WriteAnswer × List ℕ). o.1) e);
    })

pub records_of-requires : goal.records_of-requires
records_of-requires c = sym c.in_ok-check.ensures
