-- `nichelarder::nl_insert` meets its contract: the numbers fit, and the answer is handed over as it is.
use mathlib.Core.Path.{ap, ◌∙◌}
use mathlib.Core.List.{[], ◌∷◌}
use native.Mathlib.Omega.{arith}
use mir.Syntax.{w32}
use mir.Facts.{to_z-of_z}
use Rattle.model.specs.Calls.Insert.{insert_of}
use Rattle.model.specs.Answers.{InsertAnswer}
use Rattle.theory_check.specs.Heads.{is_byte_lem}
use Rattle.grow_split_point.specs.Lean.{lean_signed}
use Rattle.nichelarder.specs.Small.{SmallInsert, insert_small}
use Rattle.nichelarder.proofs.nl_insert.Goals as goal
use Rattle.nichelarder.proofs.nl_insert.Goals.{After-insert-inserted}

-- the answer's numbers are small
answer_small : (c : After-insert-inserted) → let s = c.args in SmallInsert
    (insert_of s.image.now s.parent.now s.child s.kind s.origin s.label s.content.now).0
answer_small c = insert_small c.args.image.now c.args.parent.now c.args.child c.args.kind c.args.origin c.args.label c.args.content.now
    (omega (arith, c.ranges)) (is_byte_lem c.args.content.now (λ i. omega (arith, c.type_inv.content i)))

pub overflow_cast-answer : goal.overflow_cast-answer
overflow_cast-answer c =
    record { fits = omega (arith, ap (λ (r : InsertAnswer). r.place.page) c.in-Ok.ensures.answer, (answer_small (goal.at.overflow_cast-answer c).After-insert-inserted).place.page) }

pub overflow_cast-answer-in-Ok : goal.overflow_cast-answer-in-Ok
overflow_cast-answer-in-Ok c =
    record { fits = omega (arith, ap (λ (r : InsertAnswer). r.place.offset) c.in-Ok.ensures.answer, (answer_small (goal.at.overflow_cast-answer-in-Ok c).After-insert-inserted).place.offset) }

pub returns-in-Ok : goal.returns-in-Ok
returns-in-Ok c =
    let e = c.in-Ok.ensures.answer in
    let l = ap (λ (r : InsertAnswer). r.lean) e in
    record {
      number = ap (λ (r : InsertAnswer). r.number) e;
      answer = ap (λ (r : InsertAnswer). r.place.page ∷ r.place.offset ∷ r.splits ∷ []) e;
      lean = to_z-of_z {w = w32} (lean_signed c.in-Ok.a.lean (rw l (answer_small (goal.at.returns-in-Ok c).After-insert-inserted).lean)) ∙ l;
      image = c.in-Ok.ensures.image;
    }

pub returns-in-Err : goal.returns-in-Err
returns-in-Err c =
    let e = c.in-Err.ensures.answer in
    record {
      number = c.from.ensures ∙ ap (λ (r : InsertAnswer). r.number) e;
      answer = ap (λ (r : InsertAnswer). r.place.page ∷ r.place.offset ∷ r.splits ∷ []) e;
      lean = ap (λ (r : InsertAnswer). r.lean) e;
      image = c.in-Err.ensures.image;
    }
