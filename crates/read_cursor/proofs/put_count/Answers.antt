use native.Mathlib.Omega.{arith}
use borrow.Author.Tests.{eq-eqb, ne_eqb}
use borrow.Author.Rules.{rules}
use Rattle.read_cursor.proofs.put_count.Goals as goal

pub returns-then-here-eq0 : goal.returns-then-here-eq0
returns-then-here-eq0 c = rw (eq-eqb _ 0 c.if-here-eq0.true)

pub overflow_add-out : goal.overflow_add-out
overflow_add-out c =
    let h = c.requires.0 c.if-here-eq0.false in
    search rules

pub offset_bounds-out-here : goal.offset_bounds-out-here
offset_bounds-out-here c =
    let h = c.requires.0 c.if-here-eq0.false in
    search rules

pub bounds-out-here : goal.bounds-out-here
bounds-out-here c = omega (arith, c.requires.0 c.if-here-eq0.false)

pub returns : goal.returns
returns c = rw (ne_eqb _ 0 c.if-here-eq0.false)
