-- `nichelarder::nl_find` meets its contract: the place's numbers fit, and the answer is handed over as it is.
use Rattle.std.proofs.Common.{ap, ◌∙◌, arith, [], ◌∷◌}
use Rattle.model.specs.Answers.{FindAnswer}
use Rattle.nichelarder.specs.Small.{find_small}
use Rattle.nichelarder.proofs.nl_find.Goals as goal

pub overflow_cast-place : goal.overflow_cast-place
overflow_cast-place c =
    let a = c.args in
    record { fits = omega (arith, ap (λ (r : FindAnswer). r.place.page) c.in-Ok.ensures, (find_small a.image.now a.path.now).page) }

pub overflow_cast-place-in-Ok : goal.overflow_cast-place-in-Ok
overflow_cast-place-in-Ok c =
    let a = c.args in
    record { fits = omega (arith, ap (λ (r : FindAnswer). r.place.offset) c.in-Ok.ensures, (find_small a.image.now a.path.now).offset) }

pub returns-in-Ok : goal.returns-in-Ok
returns-in-Ok c =
    let e = c.in-Ok.ensures in
    record {
      number = ap (λ (r : FindAnswer). r.number) e;
      place = ap (λ (r : FindAnswer). r.place.page ∷ r.place.offset ∷ []) e;
    }

pub returns-in-Err : goal.returns-in-Err
returns-in-Err c =
    let e = c.in-Err.ensures in
    record {
      number = c.from.ensures ∙ ap (λ (r : FindAnswer). r.number) e;
      place = ap (λ (r : FindAnswer). r.place.page ∷ r.place.offset ∷ []) e;
    }
