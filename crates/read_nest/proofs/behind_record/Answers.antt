use Prim.Native.Nat.{◌/◌}
use lib.ListN.{get_or}
use Rattle.model.specs.Limits.{page_size}
use Rattle.read_cursor.specs.Going.{cursor}
use Rattle.read_nest.proofs.behind_record.Goals as goal

pub returns : goal.returns
returns c = λ j. cursor (get_or c.args.back.now (c.args.c.i / page_size) 0) (c.row_stop.ensures j) c.args.c.level c.args.c.n c.args.c.at c.args.c.next
