-- `nichelarder::nl_next` meets its contract: the answer is handed over as it is.
use Rattle.std.proofs.Common.{sym, ap, subst, ◌∙◌}
use Rattle.model.specs.Answers.{next_numbers, NextAnswer}
use Rattle.nichelarder.specs.Small.{SmallNext, next_small}
use Rattle.nichelarder.proofs.nl_next.Goals as goal

pub next_numbers-requires : goal.next_numbers-requires
next_numbers-requires c =
    let a = c.args in
    subst (λ (r : NextAnswer). SmallNext r.next) (sym c.in-Ok.ensures) (next_small a.image.now (record { page = a.page; offset = a.offset }))

pub returns-in-Ok : goal.returns-in-Ok
returns-in-Ok c =
    let e = c.in-Ok.ensures in
    record {
      number = ap (λ (r : NextAnswer). r.number) e;
      answer = c.next_numbers.ensures ∙ ap (λ (r : NextAnswer). next_numbers r.next) e;
    }

pub returns-in-Err : goal.returns-in-Err
returns-in-Err c =
    let e = c.in-Err.ensures in
    record {
      number = c.from.ensures ∙ ap (λ (r : NextAnswer). r.number) e;
      answer = ap (λ (r : NextAnswer). next_numbers r.next) e;
    }
