use mathlib.Core.Path.{refl, ap}
use native.Mathlib.Omega.{arith}
use Rattle.model.specs.Reading.{kind_at}
use Rattle.read_cursor.specs.Going.{going_as, node_here, node_few, node_passed, node_entered, written_dealt, enters_none, enters_some}
use Rattle.read_cursor.specs.declared.Cursor.{Cursor}
use Rattle.read_cursor.proofs.write_aggregate.Goals as goal

pub put_aggregate-requires : goal.put_aggregate-requires
put_aggregate-requires c =
    let p = c.requires in
    ((_, node_here p.0.2 _ c.size_at-size.ensures.0), p.1.begun, p.1.fits, p.2)

pub into-requires : goal.into-requires
into-requires c =
    let a = c.requires.0.2 in
    let h = node_here a _ c.size_at-size.ensures.0 in
    (h.low, h.small, node_few a, h.high)

pub returns-then-size-gt6 : goal.returns-then-size-gt6
returns-then-size-gt6 c =
    let p = c.requires in
    let e = c.into.ensures in
    let m = c.size_at-size.ensures.0 in
    let q = c.put_aggregate.ensures in record { goes = λ target g a. going_as e.cursor e.stack (node_entered a _ _ _ _ _ (written_dealt _ _ _ p.1 m q.number (q.out _)) (enters_some _ c.size_at-size.result p.2 (omega (arith, c.if-size-gt6.true)))); moves = (omega (arith, ap (λ (x : Cursor). x.i) e.cursor), omega (arith, ap (λ (x : Cursor). x.level) e.cursor)) }

pub past-requires : goal.past-requires
past-requires c =
    let a = c.requires.0.2 in
    let h = node_here a _ c.size_at-size.ensures.0 in
    (h.low, h.small, node_few a)

pub returns : goal.returns
returns c =
    let p = c.requires in
    let e = c.past.ensures in
    let m = c.size_at-size.ensures.0 in
    let q = c.put_aggregate.ensures in record { goes = λ target g a. going_as e refl (node_passed a _ _ _ _ _ (written_dealt _ _ _ p.1 m q.number (q.out _)) (enters_none (kind_at c.args.image.now c.args.c.i) c.size_at-size.result 0 (omega (arith, c.if-size-gt6.false)))); moves = (omega (arith, ap (λ (x : Cursor). x.i) e, (node_here p.0.2 _ m).more), omega (arith, ap (λ (x : Cursor). x.level) e)) }
