-- `store::climb_sized`: an image that does not pass gives the check's number.
use Rattle.std.proofs.Common.{sym, refl, ap, List, ℕ}
use Rattle.std.proofs.lemmas.Result.{err_from_is_err_and}
use Rattle.model.specs.Answers.{WriteAnswer}
use Rattle.theory_calls.specs.Refusals.{some_number}
use Rattle.store.specs.Refused.{climb_refused}
use Rattle.store.proofs.climb_sized.Goals as goal

pub returns-in_err-check_widths : goal.returns-in_err-check_widths
returns-in_err-check_widths g c =
    let p = err_from_is_err_and c.from_residual.result c.from_residual.ensures.1 in
    let e = climb_refused c.args.image.now _ c.in_err-check_widths.ensures.0 (some_number _) c.args.place c.args.buffer.now in
    rw (p.1, p.2) (record {
      answer = sym (ap (λ (o : WriteAnswer × List ℕ). o.0) e);
      buffer = sym (ap (λ (o : WriteAnswer × List ℕ). o.1) e);
    })

pub climb_of-requires : goal.climb_of-requires
climb_of-requires g c = let e = c.in_ok-check_widths.ensures in (sym e.0, e.1 refl)
