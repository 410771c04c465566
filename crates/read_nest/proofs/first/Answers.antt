use Rattle.read_cursor.specs.Going.{cursor}
use Rattle.read_nest.proofs.first.Goals as goal

pub returns : goal.returns
returns c =
    let a = c.args.c in
    λ j. cursor (c.row_start.ensures j) (c.record_end.ensures j) a.level a.n a.at a.next
