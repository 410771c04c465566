use Rattle.listing_lines.specs.Wrote.{one_byte}
use Rattle.listing_lines.proofs.put.Goals as goal

pub returns : goal.returns
returns c = one_byte c.requires
