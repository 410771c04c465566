-- `read_faults::walk_fault`: the walk from page 1, to its end.
use Rattle.std.proofs.Common.{sym, arith, length}
use Rattle.theory_decoding.specs.Length.{length_says}
use Rattle.theory_check.specs.Marks.{marks_none}
use Rattle.read_faults.specs.Whole.{first_holds, first_some, walk_stops, walk_all, walk_some}
use Rattle.read_faults.proofs.walk_fault.Goals as goal

pub record_walk-requires : goal.record_walk-requires
record_walk-requires c =
    let img = c.args.image.now in
    let p = c.requires.before in
    (((length_says (length img) p.0).many, p.1), first_holds img p.0 p.1, first_some img p.0 p.1, marks_none, p.0)

pub unreached-requires : goal.unreached-requires
unreached-requires c =
    let l = length_says (length c.args.image.now) c.requires.before.0 in
    (omega (arith, l.whole), l.many)

pub returns-in-Err : goal.returns-in-Err
returns-in-Err c =
    let p = c.requires in
    sym (walk_stops c.args.image.now p.before.0 p.before.1 c.args.left p.count c.in-Err.ensures)

pub returns-in-Ok-eq1 : goal.returns-in-Ok-eq1
returns-in-Ok-eq1 c =
    let p = c.requires in
    sym (walk_all c.args.image.now p.before.0 p.before.1 c.args.left p.count c.in-Ok-eq1.ensures c.in-Ok-eq1.field-0-test)

pub returns-in-Ok : goal.returns-in-Ok
returns-in-Ok c =
    let p = c.requires in
    sym (walk_some c.args.image.now p.before.0 p.before.1 c.args.left p.count c.in-Ok.ensures c.in-Ok.field-0-test.1 _ c.unreached.ensures)
