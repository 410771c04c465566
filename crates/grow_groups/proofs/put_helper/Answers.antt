-- `grow_groups::put_helper`: three two-byte numbers, the nodes, and the record's end in a row.
use Rattle.grow_groups.specs.Group.{helper_written}
use Rattle.grow_groups.proofs.put_helper.Goals as goal

pub returns : goal.returns
returns c =
    helper_written _ _ _ _ _ _ _ _ c.requires.1.0 c.requires.1.1
    c.put16.ensures c.put16-2.ensures c.put16-3.ensures c.copy_in.ensures c.close_record.ensures
