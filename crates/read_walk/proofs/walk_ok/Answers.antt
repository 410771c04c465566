use mathlib.Core.Path.{sym, subst, ◌∙◌}
use mathlib.Core.Bool.{and-false, false≢true}
use native.Mathlib.Omega.{arith}
use lib.ListN.{length}
use Rattle.theory_check.specs.Check.{walk_ok}
use Rattle.theory_check.specs.Marks.{IsMarks, marks_none}
use Rattle.theory_check.specs.Steps.{passing}
use Rattle.theory_decoding.specs.Length.{length_says}
use Rattle.read_walk.specs.First.{first_fits, first_part, first_bad, first_ok, first_table, first_marks}
use Rattle.read_walk.proofs.walk_ok.Goals as goal

pub tail_zero-requires : goal.tail_zero-requires
tail_zero-requires c = let img = c.args.image.now in
    let l = length_says (length img) c.requires.0.long in
    (omega arith, omega (arith, l.few, l.whole), first_fits img l.few c.requires.0.before)

pub returns-then-not-tail_zero : goal.returns-then-not-tail_zero
unfolding walk_ok
returns-then-not-tail_zero c = record {
  answer = simp (sym c.tail_zero.ensures ∙ c.if-not-tail_zero.true, and-false);
  table = λ e. absurd (false≢true e);
  reached = λ e. absurd (false≢true e);
}

pub record_end-e-requires : goal.record_end-e-requires
record_end-e-requires c = let l = length_says (length c.args.image.now) c.requires.0.long in
    (omega arith, omega (arith, l.few, l.whole))

pub slice_bounds-record-end : goal.slice_bounds-record-end
slice_bounds-record-end c = let img = c.args.image.now in
    let l = length_says (length img) c.requires.0.long in
    omega (arith, l.few, l.whole, first_fits img l.few c.requires.0.before, c.record_end-e.ensures)

pub returns-then-head-ne1 : goal.returns-then-head-ne1
returns-then-head-ne1 c = record {
  answer = first_bad _ _ _ c.record_end-e.ensures _ c.head.ensures c.if-head-ne1.true;
  table = λ e. absurd (false≢true e);
  reached = λ e. absurd (false≢true e);
}

pub node_check-r-requires : goal.node_check-r-requires
node_check-r-requires c = let img = c.args.image.now in
    let l = length_says (length img) c.requires.0.long in
    let k = c.head.ensures in
    let one = c.if-head-ne1.false in
    let r = c.record_end-e.ensures in (
      (passing _ 0 1 (sym k ∙ one) (λ z. omega arith)).long,
      omega arith,
      c.requires.0.some,
      c.requires.0.few,
      first_part img _ r (first_fits img l.few c.requires.0.before) (omega (arith, l.few, l.whole)),
      (l.many, c.requires.0.before),
      subst IsMarks (sym c.requires.0.none) marks_none,
      c.requires.0.wide,
      c.requires.1,
    )

pub returns : goal.returns
returns c = let r = c.record_end-e.ensures in
    let k = c.head.ensures in
    let one = c.if-head-ne1.false in
    let tail = (sym c.tail_zero.ensures ∙ c.if-not-tail_zero.false) in
    let none = c.requires.0.none in
    let came = c.node_check-r.ensures in
    record {
      answer = first_ok _ _ _ r _ k one tail _ none _ _ _ _ _ _ came;
      table = first_table _ _ _ r _ k one tail _ none _ _ _ _ _ _ came;
      reached = first_marks _ _ _ r _ k one tail _ none _ _ _ _ _ _ came;
    }
