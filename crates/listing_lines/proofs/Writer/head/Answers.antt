-- `Writer::head`: its pieces one after another.
use Rattle.listing_lines.specs.Text.{head_line}
use Rattle.listing_lines.specs.Writes.{writes_then}
use Rattle.listing_lines.proofs.Writer.head.Goals as goal

pub returns : goal.returns
unfolding head_line
returns c =
    writes_then (writes_then (writes_then (writes_then (writes_then (writes_then c.words.ensures c.decimal.ensures) c.words-2.ensures) c.decimal-2.ensures)
    c.words-3.ensures) c.decimal-3.ensures) c.put.ensures
