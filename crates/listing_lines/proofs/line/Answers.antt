-- `listing_lines::line`: its pieces one after another.
use Rattle.listing_lines.specs.Wrote.{then}
use Rattle.listing_lines.specs.Text.{line_of}
use Rattle.listing_lines.specs.Digits.{fields_of}
use Rattle.listing_lines.proofs.line.Goals as goal

pub returns : goal.returns
unfolding line_of fields_of
returns c =
    then (then (then c.fields-at.ensures c.put-at.ensures) c.decimal-at.ensures) c.put.ensures
