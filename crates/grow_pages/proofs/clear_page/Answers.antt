use Rattle.grow_pages.specs.Write.{page_written}
use Rattle.grow_pages.proofs.clear_page.Goals as goal

pub returns : goal.returns
returns c = page_written _ _ _ _ c.clear.ensures
