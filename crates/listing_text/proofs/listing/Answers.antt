-- `listing_text::listing`: the head line, then the walk from the root record.
use Rattle.std.proofs.Common.{arith, ◌∙◌}
use Rattle.listing_text.specs.Whole.{plan, whole_fitting, whole_wrote}
use Rattle.listing_text.proofs.listing.Goals as goal

pub overflow_sub-pages : goal.overflow_sub-pages
overflow_sub-pages c = omega (arith, (plan _ _ c.requires.0 c.requires.1 c.count_pages-n.ensures).few)

pub overflow_sub-pages-2 : goal.overflow_sub-pages-2
overflow_sub-pages-2 c = omega (arith, (plan _ _ c.requires.0 c.requires.1 c.count_pages-n.ensures).few)

pub head-requires : goal.head-requires
head-requires c =
    record { fits = omega (arith, (plan _ _ c.requires.0 c.requires.1 c.count_pages-n.ensures).most, c.requires.2) }

pub row_start-requires : goal.row_start-requires
row_start-requires c = (plan _ _ c.requires.0 c.requires.1 c.count_pages-n.ensures).on

pub record_end-requires : goal.record_end-requires
record_end-requires c =
    let g = (plan _ _ c.requires.0 c.requires.1 c.count_pages-n.ensures).on in (g.high, g.inside)

pub walk-requires : goal.walk-requires
walk-requires c =
    whole_fitting (plan _ _ c.requires.0 c.requires.1 c.count_pages-n.ensures) c.row_start.ensures c.record_end.ensures
    c.head.ensures.text c.requires.2

pub returns : goal.returns
returns c =
    let p = plan _ _ c.requires.0 c.requires.1 c.count_pages-n.ensures in
    let f = whole_fitting p c.row_start.ensures c.record_end.ensures c.head.ensures.text c.requires.2 in
    record {
      text = whole_wrote p c.row_start.ensures c.record_end.ensures c.head.ensures.text c.requires.2 (c.walk.ensures.text f);
      same_buffer = c.walk.ensures.same_buffer ∙ c.head.ensures.same_buffer;
    }
