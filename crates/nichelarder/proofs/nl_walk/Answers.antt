-- `nichelarder::nl_walk` meets its contract: the answer is handed over as it is.
use Rattle.std.specs.Prelude.{◌≡◌, ℕ, Option, None, Some}
use Rattle.std.proofs.Common.{refl, sym, ap, subst, ◌∙◌}
use Rattle.model.specs.Answers.{WalkAnswer, walked_to}
use Rattle.model.specs.declared.Place.{Place}
use Rattle.nichelarder.specs.Numbers.{walk_numbers}
use Rattle.nichelarder.specs.Small.{SmallWalk, walk_small}
use Rattle.nichelarder.proofs.nl_walk.Goals as goal

accepted : (k : ℕ) (o : Option Place) → 0 ≡ (walked_to k o).number
accepted k None = refl
accepted k (Some x) = refl

pub walk_numbers-requires : goal.walk_numbers-requires
walk_numbers-requires c =
    let a = c.args in
    subst SmallWalk (sym c.in-Ok.ensures.answer) (walk_small a.image.now (record { page = a.page; offset = a.offset }) a.entries.now)

pub returns-in-Ok : goal.returns-in-Ok
returns-in-Ok c =
    let e = c.in-Ok.ensures in
    record {
      number = accepted c.in-Ok.walked.written c.in-Ok.walked.next ∙ ap (λ (r : WalkAnswer). r.number) e.answer;
      answer = c.walk_numbers.ensures ∙ ap walk_numbers e.answer;
      entries = e.entries;
    }

pub returns-in-Err : goal.returns-in-Err
returns-in-Err c =
    let e = c.in-Err.ensures in
    record {
      number = c.from.ensures ∙ ap (λ (r : WalkAnswer). r.number) e.answer;
      answer = ap walk_numbers e.answer;
      entries = e.entries;
    }
