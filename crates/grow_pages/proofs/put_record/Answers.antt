use Rattle.grow_pages.specs.Write.{record_written}
use Rattle.grow_pages.proofs.put_record.Goals as goal

pub returns : goal.returns
returns c =
    record_written _ _ _ _ _ _ _ c.requires.1.0 c.requires.1.1.0 c.copy_in.ensures c.close_record.ensures
