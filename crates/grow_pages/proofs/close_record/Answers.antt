use Rattle.grow_pages.specs.Write.{end_written}
use Rattle.grow_pages.proofs.close_record.Goals as goal

pub returns : goal.returns
returns c =
    end_written _ _ _ _ _ _ _ _ _ _ c.requires.1.0 c.requires.1.1.0 c.requires.1.1.1.0
    c.clear.ensures c.put16.ensures c.put16-2.ensures c.put16-3.ensures c.clear-2.ensures
