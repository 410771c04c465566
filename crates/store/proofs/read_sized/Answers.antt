-- `store::read_sized`: an image that does not pass gives the check's number.
use Rattle.std.proofs.Common.{sym, refl}
use Rattle.std.proofs.lemmas.Result.{err_from_is_err_and}
use Rattle.theory_calls.specs.Refusals.{some_number}
use Rattle.store.specs.Refused.{read_refused_lem}
use Rattle.store.proofs.read_sized.Goals as goal

pub returns-in_err-check_widths : goal.returns-in_err-check_widths
returns-in_err-check_widths g c =
    let p = err_from_is_err_and c.from_residual.result c.from_residual.ensures.1 in
    rw (p.1, p.2) (read_refused_lem c.args.image.now _ c.in_err-check_widths.ensures.0 (some_number _) c.args.place)

pub read_of-requires : goal.read_of-requires
read_of-requires g c = let e = c.in_ok-check_widths.ensures in (sym e.0, e.1 refl)
