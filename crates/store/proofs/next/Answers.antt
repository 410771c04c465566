-- `store::next`: an image that does not pass gives the check's number.
use Rattle.std.proofs.Common.{sym}
use Rattle.std.proofs.lemmas.Result.{err_from_is_err_and}
use Rattle.theory_calls.specs.Refusals.{some_number}
use Rattle.store.specs.Refused.{next_refused_lem}
use Rattle.store.proofs.next.Goals as goal

pub returns-in_err-check : goal.returns-in_err-check
returns-in_err-check c =
    let p = err_from_is_err_and c.from_residual.result c.from_residual.ensures.1 in
    rw (p.1, p.2) (next_refused_lem c.args.image.now _ c.in_err-check.ensures (some_number _) c.args.place)

pub next_of-requires : goal.next_of-requires
next_of-requires c = sym c.in_ok-check.ensures
