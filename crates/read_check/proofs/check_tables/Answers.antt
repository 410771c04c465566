use Rattle.std.specs.Prelude.{◌≡◌, length}
use Rattle.std.proofs.Common.{arith, sym, ◌∙◌, true≢false}
use Rattle.theory_check.specs.Check.{check_by}
use Rattle.theory_check.specs.Before.{trailers_most, trailers_none}
use Rattle.theory_decoding.specs.Length.{length_says}
use Rattle.read_check.proofs.check_tables.Goals as goal

pub returns-then-not-length_ok : goal.returns-then-not-length_ok
unfolding check_by
returns-then-not-length_ok c = record {
  answer = simp (sym c.length_ok.ensures ∙ c.if-not-length_ok.true);
  table = λ e. absurd (omega arith);
  reached = λ e. absurd (omega arith);
}

pub returns-in_default : goal.returns-in_default
unfolding check_by
returns-in_default c = record {
  answer = simp (sym c.length_ok.ensures ∙ c.if-not-length_ok.false, sym c.in_default.ensures.passed);
  table = λ e. absurd (omega arith);
  reached = λ e. absurd (omega arith);
}

pub walk-requires : goal.walk-requires
walk-requires c =
    let img = c.args.image.now in
    let long = sym c.length_ok.ensures ∙ c.if-not-length_ok.false in
    let l = length_says (length img) long in
    let n = c.in-Some.ensures.number in
    let pass = sym c.in-Some.ensures.passed in
    let some : c.in-Some.left ≡ 0 → ⊥ = (λ e. true≢false (sym pass ∙ trailers_none img l.few (sym n ∙ e))) in
    record {
      long = long;
      before = pass;
      some = omega (arith, some);
      few = omega (arith, n, trailers_most img, l);
      none = c.requires.1;
      wide = c.requires.0 long;
    }

pub returns : goal.returns
unfolding check_by
returns c =
    let w = c.walk.ensures in
    let n = c.in-Some.ensures.number in
    record {
      answer = simp (sym c.length_ok.ensures ∙ c.if-not-length_ok.false, sym c.in-Some.ensures.passed, ← n, ← w.answer, c.if-not-walk.false);
      table = λ e. rw (sym n) (w.table c.if-not-walk.false);
      reached = λ e. rw (sym n) (w.reached c.if-not-walk.false);
    }

pub returns-then-not-walk : goal.returns-then-not-walk
unfolding check_by
returns-then-not-walk c =
    let w = c.walk.ensures in
    let n = c.in-Some.ensures.number in
    record {
      answer = simp (sym c.length_ok.ensures ∙ c.if-not-length_ok.false, sym c.in-Some.ensures.passed, ← n, ← w.answer, c.if-not-walk.true);
      table = λ e. absurd (omega arith);
      reached = λ e. absurd (omega arith);
    }
