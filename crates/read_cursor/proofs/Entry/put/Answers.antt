-- `read_cursor::Entry::put`: nine numbers, one after another.
use Rattle.std.proofs.Common.{◌/◌, ◌%◌, arith, length-set}
use Rattle.model.specs.Answers.{kind_number}
use Rattle.read_cursor.specs.Way.{nine_sets}
use Rattle.read_cursor.proofs.Entry.put.Goals as goal

pub bounds-out-a-2 : goal.bounds-out-a-2
bounds-out-a-2 c = simp length-set (omega arith)

pub bounds-out-a-3 : goal.bounds-out-a-3
bounds-out-a-3 c = simp length-set (omega arith)

pub bounds-out-a-4 : goal.bounds-out-a-4
bounds-out-a-4 c = simp length-set (omega arith)

pub bounds-out-a-5 : goal.bounds-out-a-5
bounds-out-a-5 c = simp length-set (omega arith)

pub bounds-out-a-6 : goal.bounds-out-a-6
bounds-out-a-6 c = simp length-set (omega arith)

pub bounds-out-a-7 : goal.bounds-out-a-7
bounds-out-a-7 c = simp length-set (omega arith)

pub bounds-out-a-8 : goal.bounds-out-a-8
bounds-out-a-8 c = simp length-set (omega arith)

pub bounds-out-a-9 : goal.bounds-out-a-9
bounds-out-a-9 c = simp length-set (omega arith)

pub shape_of-out : goal.shape_of-out
shape_of-out c = simp length-set

pub returns : goal.returns
returns c =
    let a = c.args in
    let e = a.self in
    rw c.from.ensures
    (nine_sets a.a e.level (e.i / 4096) (e.i % 4096) (kind_number e.kind) e.origin e.label 0 e.start e.len a.out.now)
