-- `nichelarder::nl_read` meets its contract: the answer is handed over as it is.
use Rattle.std.proofs.Common.{ap, ap₂, ◌∙◌, arith, [], ◌∷◌, ℕ}
use Rattle.model.specs.Answers.{ReadNode}
use Rattle.nichelarder.specs.Numbers.{read_numbers}
use Rattle.nichelarder.specs.Small.{read_small}
use Rattle.nichelarder.proofs.nl_read.Goals as goal

pub overflow_cast-answer : goal.overflow_cast-answer
overflow_cast-answer c =
    let a = c.args in
    record { fits = omega (arith, ap (λ (r : ReadNode). r.start) c.in-Ok.ensures, read_small a.image.now (record { page = a.page; offset = a.offset })) }

pub overflow_cast-answer-in-Ok : goal.overflow_cast-answer-in-Ok
overflow_cast-answer-in-Ok c =
    let a = c.args in
    record { fits = omega (arith, ap (λ (r : ReadNode). r.len) c.in-Ok.ensures, read_small a.image.now (record { page = a.page; offset = a.offset })) }

pub returns-in-Ok : goal.returns-in-Ok
returns-in-Ok c =
    let e = c.in-Ok.ensures in
    let n = c.in-Ok.node in
    record {
      number = ap (λ (r : ReadNode). r.number) e;
      answer = ap₂ (λ (k o : ℕ). k ∷ n.label ∷ n.children ∷ n.start ∷ n.len ∷ o ∷ []) c.from.ensures c.from-in-Ok.ensures ∙ ap read_numbers e;
    }

pub returns-in-Err : goal.returns-in-Err
returns-in-Err c =
    let e = c.in-Err.ensures in
    record {
      number = c.from-in-Err.ensures ∙ ap (λ (r : ReadNode). r.number) e;
      answer = ap read_numbers e;
    }
