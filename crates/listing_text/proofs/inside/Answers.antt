-- `listing_text::inside`: a proxy names a page.
use Rattle.listing_text.specs.Lined.{named_page}
use Rattle.listing_text.proofs.inside.Goals as goal

pub row_start-requires : goal.row_start-requires
row_start-requires c = named_page _ c.requires.node c.in-3.is c.name_at-p.ensures.0

pub record_end-requires : goal.record_end-requires
record_end-requires c =
    let g = named_page _ c.requires.node c.in-3.is c.name_at-p.ensures.0 in (g.high, g.inside)
