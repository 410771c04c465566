use Rattle.std.proofs.lemmas.Result.{err_from_is_err_and}
use Rattle.std.proofs.Common.{◌≡◌, ap, arith, get_or, ℕ, ◌-◌, ◌/◌}
use Rattle.model.specs.Limits.{page_size}
use Rattle.read_fault_nodes.specs.Rows.{holder_number}
use Rattle.read_fault_walk.specs.Steps.{Out, call_of, going_start, going_stays, going_end, going_out, going_stops, forth, entered}
use Rattle.read_fault_walk.specs.Steps.{going_nil, going_empty, going_helper, going_record, going_last, deeper_row, deeper_end, deeper_marks, deeper_falls}
use Rattle.read_fault_walk.specs.Steps.{going_halts, going_aggregate}
use Rattle.read_fault_walk.proofs.+row_walk.Goals as goal
use Rattle.read_fault_walk.proofs.+row_walk.Goals.{Else-depth-eq0}

-- Out of a record.
out_at : (t : ℕ) (c : Else-depth-eq0 t) → let l = c.loop-at in
    let a = c.args in
    Out a.image.now (call_of a.start a.stop (holder_number a.holder) a.level a.left a.marks.now a.back.now) l.marks l.back
    (holder_number l.holder) l.level (get_or l.back (l.at / page_size) 0) l.rest (l.depth - 1)
out_at t c = going_out c.loop-at.invariant c.if-at-end.true c.if-depth-eq0.false

pub loop-at-init : goal.loop-at-init
loop-at-init t c =
    let p = c.requires in
    going_start _ _ _ p.1 p.2 p.3 p.4 p.5

pub shape_of-back-then-depth-eq0 : goal.shape_of-back-then-depth-eq0
shape_of-back-then-depth-eq0 t c = c.loop-at.invariant.long

pub returns-then-depth-eq0 : goal.returns-then-depth-eq0
returns-then-depth-eq0 t c =
    let now = c.loop-at.invariant in
    (going_end now c.if-at-end.true c.if-depth-eq0.true, going_stays now)

pub offset_bounds-back-at : goal.offset_bounds-back-at
offset_bounds-back-at t c =
    omega (arith, c.loop-at.invariant.row.on, c.requires.0)

pub bounds-back-at : goal.bounds-back-at
bounds-back-at t c =
    let now = c.loop-at.invariant in
    omega (arith, now.row.on, now.long, now.enough)

pub overflow_cast-at : goal.overflow_cast-at
overflow_cast-at t c = omega (arith, (out_at t (goal.at.overflow_cast-at t c).Else-depth-eq0).fits, c.well_formed)

pub overflow_sub-depth : goal.overflow_sub-depth
overflow_sub-depth t c = omega (arith, c.if-depth-eq0.false)

pub loop-at-smaller-then-depth-eq0-2 : goal.loop-at-smaller-then-depth-eq0-2
loop-at-smaller-then-depth-eq0-2 t c =
    omega (arith, ((out_at t (goal.at.loop-at-smaller-then-depth-eq0-2 t c).Else-depth-eq0).own_row c.if-depth-eq0-2.true).row.fits, c.if-depth-eq0.false)

pub loop-at-preserved-then-depth-eq0-2 : goal.loop-at-preserved-then-depth-eq0-2
loop-at-preserved-then-depth-eq0-2 t c = (out_at t (goal.at.loop-at-preserved-then-depth-eq0-2 t c).Else-depth-eq0).own_row c.if-depth-eq0-2.true

pub record_end-end-requires : goal.record_end-end-requires
record_end-end-requires t c = let h = (out_at t (goal.at.record_end-end-requires t c).Else-depth-eq0).outer c.if-depth-eq0-2.false in (h.few, h.on)

pub loop-at-smaller-else-depth-eq0-2 : goal.loop-at-smaller-else-depth-eq0-2
loop-at-smaller-else-depth-eq0-2 t c =
    omega (arith, ((out_at t (goal.at.loop-at-smaller-else-depth-eq0-2 t c).Else-depth-eq0).outer_row c.if-depth-eq0-2.false _ c.record_end-end.ensures).row.fits, c.if-depth-eq0.false)

pub loop-at-preserved-else-depth-eq0-2 : goal.loop-at-preserved-else-depth-eq0-2
loop-at-preserved-else-depth-eq0-2 t c = (out_at t (goal.at.loop-at-preserved-else-depth-eq0-2 t c).Else-depth-eq0).outer_row c.if-depth-eq0-2.false _ c.record_end-end.ensures

pub first-requires : goal.first-requires
first-requires t c =
    (c.requires.0, c.loop-at.invariant.row, c.loop-at.invariant.within)

pub overflow_add-back : goal.overflow_add-back
overflow_add-back t c =
    let now = c.loop-at.invariant in
    omega (arith, now.row.fits, now.row.on, now.within, c.requires.0)

pub overflow_cast-back : goal.overflow_cast-back
overflow_cast-back t c =
    let now = c.loop-at.invariant in
    omega (arith, now.row.fits, now.row.on, now.within, c.requires.0)

pub offset_bounds-back-x : goal.offset_bounds-back-x
offset_bounds-back-x t c =
    let now = c.loop-at.invariant in
    let here = c.if-at-end.false in
    let f = c.in_ok-x.ensures in
    let zero = ap holder_number c.in-Record.is in
    omega (arith, (going_record now here f zero).row.on, c.requires.0)

pub bounds-back-x : goal.bounds-back-x
bounds-back-x t c =
    let now = c.loop-at.invariant in
    let here = c.if-at-end.false in
    let f = c.in_ok-x.ensures in
    let zero = ap holder_number c.in-Record.is in
    omega (arith, (going_record now here f zero).row.on, now.long, now.enough)

pub overflow_add-depth : goal.overflow_add-depth
overflow_add-depth t c =
    let now = c.loop-at.invariant in
    let here = c.if-at-end.false in
    let f = c.in_ok-x.ensures in
    let zero = ap holder_number c.in-Record.is in
    omega (arith, now.fewer, entered now here f zero, c.well_formed)

pub loop-at-smaller-in-Record : goal.loop-at-smaller-in-Record
loop-at-smaller-in-Record t c =
    let now = c.loop-at.invariant in
    let here = c.if-at-end.false in
    let f = c.in_ok-x.ensures in
    let zero = ap holder_number c.in-Record.is in
    omega (arith, (going_record now here f zero).row.fits, entered now here f zero)

pub loop-at-preserved-in-Record : goal.loop-at-preserved-in-Record
loop-at-preserved-in-Record t c =
    let now = c.loop-at.invariant in
    let here = c.if-at-end.false in
    let f = c.in_ok-x.ensures in
    let zero = ap holder_number c.in-Record.is in
    going_record now here f zero

pub loop-at-smaller-in-Helper : goal.loop-at-smaller-in-Helper
loop-at-smaller-in-Helper t c =
    let now = c.loop-at.invariant in
    let here = c.if-at-end.false in
    let f = c.in_ok-x.ensures in
    let four = ap holder_number c.in-Helper.is in
    omega (arith, (forth now here f (λ z. omega (arith, four))).0, (going_helper now here f four).within)

pub loop-at-preserved-in-Helper : goal.loop-at-preserved-in-Helper
loop-at-preserved-in-Helper t c =
    let now = c.loop-at.invariant in
    let here = c.if-at-end.false in
    let f = c.in_ok-x.ensures in
    let four = ap holder_number c.in-Helper.is in
    going_helper now here f four

pub loop-at-smaller-in-Literal : goal.loop-at-smaller-in-Literal
loop-at-smaller-in-Literal t c =
    let now = c.loop-at.invariant in
    let here = c.if-at-end.false in
    let f = c.in_ok-x.ensures in
    let two = ap holder_number c.in-Literal.is in
    let none : holder_number c.in_ok-x.x.holder ≡ 0 → ⊥ = λ z. omega (arith, two) in
    omega (arith, (forth now here f none).1, (going_empty now here f none (λ z. omega (arith, two)) (going_nil now here f two)).within)

pub loop-at-preserved-in-Literal : goal.loop-at-preserved-in-Literal
loop-at-preserved-in-Literal t c =
    let now = c.loop-at.invariant in
    let here = c.if-at-end.false in
    let f = c.in_ok-x.ensures in
    let two = ap holder_number c.in-Literal.is in
    going_empty now here f (λ z. omega (arith, two)) (λ z. omega (arith, two)) (going_nil now here f two)

pub loop-at-smaller-then-x : goal.loop-at-smaller-then-x
loop-at-smaller-then-x t c =
    let now = c.loop-at.invariant in
    let here = c.if-at-end.false in
    let f = c.in_ok-x.ensures in
    let one = ap holder_number c.in-Aggregate.is in
    let none : holder_number c.in_ok-x.x.holder ≡ 0 → ⊥ = λ z. omega (arith, one) in
    let four : holder_number c.in_ok-x.x.holder ≡ 4 → ⊥ = λ z. omega (arith, one) in
    omega (arith, (forth now here f none).1, (going_empty now here f none four c.if-x.true).within)

pub loop-at-preserved-then-x : goal.loop-at-preserved-then-x
loop-at-preserved-then-x t c =
    let now = c.loop-at.invariant in
    let here = c.if-at-end.false in
    let f = c.in_ok-x.ensures in
    let one = ap holder_number c.in-Aggregate.is in
    let none : holder_number c.in_ok-x.x.holder ≡ 0 → ⊥ = λ z. omega (arith, one) in
    let four : holder_number c.in_ok-x.x.holder ≡ 4 → ⊥ = λ z. omega (arith, one) in
    going_empty now here f none four c.if-x.true

pub loop-at-smaller-then-last_own : goal.loop-at-smaller-then-last_own
loop-at-smaller-then-last_own t c =
    let now = c.loop-at.invariant in
    let here = c.if-at-end.false in
    let f = c.in_ok-x.ensures in
    let one = ap holder_number c.in-Aggregate.is in
    let none : holder_number c.in_ok-x.x.holder ≡ 0 → ⊥ = λ z. omega (arith, one) in
    let four : holder_number c.in_ok-x.x.holder ≡ 4 → ⊥ = λ z. omega (arith, one) in
    omega (arith, (forth now here f none).0, (going_last now here f none four c.if-x.false (c.last_own.ensures c.if-last_own.true)).within)

pub loop-at-preserved-then-last_own : goal.loop-at-preserved-then-last_own
loop-at-preserved-then-last_own t c =
    let now = c.loop-at.invariant in
    let here = c.if-at-end.false in
    let f = c.in_ok-x.ensures in
    let one = ap holder_number c.in-Aggregate.is in
    let none : holder_number c.in_ok-x.x.holder ≡ 0 → ⊥ = λ z. omega (arith, one) in
    let four : holder_number c.in_ok-x.x.holder ≡ 4 → ⊥ = λ z. omega (arith, one) in
    going_last now here f none four c.if-x.false (c.last_own.ensures c.if-last_own.true)

pub row_walk-requires : goal.row_walk-requires
row_walk-requires t c =
    let now = c.loop-at.invariant in
    let here = c.if-at-end.false in
    let f = c.in_ok-x.ensures in
    let one = ap holder_number c.in-Aggregate.is in
    let none : holder_number c.in_ok-x.x.holder ≡ 0 → ⊥ = λ z. omega (arith, one) in
    let four : holder_number c.in_ok-x.x.holder ≡ 4 → ⊥ = λ z. omega (arith, one) in
    let w = deeper_row now here f none four c.if-x.false in (
      omega (arith, deeper_falls now here f none four c.if-x.false, c.decreases),
      (c.requires.0, w.0, w.1, λ z. omega arith, deeper_marks now here f none four c.if-x.false, omega (arith, now.long, now.enough)),
    )

pub loop-at-smaller : goal.loop-at-smaller
loop-at-smaller t c =
    let now = c.loop-at.invariant in
    let here = c.if-at-end.false in
    let f = c.in_ok-x.ensures in
    let one = ap holder_number c.in-Aggregate.is in
    let none : holder_number c.in_ok-x.x.holder ≡ 0 → ⊥ = λ z. omega (arith, one) in
    let four : holder_number c.in_ok-x.x.holder ≡ 4 → ⊥ = λ z. omega (arith, one) in
    let last = deeper_end now here f none four c.if-x.false in
    omega (arith, (forth now here f none).1, last, c.in_ok-rest-in-Aggregate.ensures.1.less)

pub loop-at-preserved : goal.loop-at-preserved
loop-at-preserved t c =
    let now = c.loop-at.invariant in
    let here = c.if-at-end.false in
    let f = c.in_ok-x.ensures in
    let one = ap holder_number c.in-Aggregate.is in
    let none : holder_number c.in_ok-x.x.holder ≡ 0 → ⊥ = λ z. omega (arith, one) in
    let four : holder_number c.in_ok-x.x.holder ≡ 4 → ⊥ = λ z. omega (arith, one) in
    going_aggregate now here f none four c.if-x.false c.in_ok-rest-in-Aggregate.ensures.0 c.in_ok-rest-in-Aggregate.ensures.1

pub returns-in_err-x : goal.returns-in_err-x
returns-in_err-x t c =
    let p = err_from_is_err_and c.from_residual.result c.from_residual.ensures.1 in
    rw (p.1, p.2) (going_stops c.loop-at.invariant c.if-at-end.false c.in_err-x.ensures, tt)

pub returns-in_err-rest-in-Aggregate : goal.returns-in_err-rest-in-Aggregate
returns-in_err-rest-in-Aggregate t c =
    let now = c.loop-at.invariant in
    let here = c.if-at-end.false in
    let f = c.in_ok-x.ensures in
    let one = ap holder_number c.in-Aggregate.is in
    let none : holder_number c.in_ok-x.x.holder ≡ 0 → ⊥ = λ z. omega (arith, one) in
    let four : holder_number c.in_ok-x.x.holder ≡ 4 → ⊥ = λ z. omega (arith, one) in
    let p = err_from_is_err_and c.from_residual-in_err-rest-in-Aggregate.result c.from_residual-in_err-rest-in-Aggregate.ensures.1 in
    rw (p.1, p.2) (going_halts now here f none four c.if-x.false c.in_err-rest-in-Aggregate.ensures.0, tt)
