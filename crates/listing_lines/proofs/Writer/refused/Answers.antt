-- `Writer::refused`: its pieces one after another.
use Rattle.listing_lines.specs.Text.{refused_line}
use Rattle.listing_lines.specs.Writes.{writes_then}
use Rattle.listing_lines.proofs.Writer.refused.Goals as goal

pub returns : goal.returns
unfolding refused_line
returns c = writes_then (writes_then c.words.ensures c.decimal.ensures) c.put.ensures
