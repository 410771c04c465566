-- `listing_lines::fields`: its pieces one after another.
use Rattle.listing_lines.specs.Wrote.{then}
use Rattle.listing_lines.specs.Digits.{fields_of}
use Rattle.listing_lines.proofs.fields.Goals as goal

pub returns : goal.returns
unfolding fields_of
returns c =
    then (then (then (then (then (then c.decimal-at.ensures c.put-at.ensures) c.put-at-2.ensures) c.put-at-3.ensures) c.decimal-at-2.ensures)
    c.put-at-4.ensures) c.content.ensures
