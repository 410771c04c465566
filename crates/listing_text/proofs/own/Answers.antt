-- `listing_text::own`: by the kind of the node.
use Rattle.std.proofs.Common.{rules, arith, sym}
use Rattle.listing_lines.specs.Writes.{writes_none, writes_as}
use Rattle.listing_text.specs.Lined.{node_fits, own_none}
use Rattle.listing_text.proofs.own.Goals as goal

pub slice_bounds-line-count : goal.slice_bounds-line-count
slice_bounds-line-count c = omega (arith, node_fits c.requires.listed_node.node)

pub slice_bounds-line-start : goal.slice_bounds-line-start
slice_bounds-line-start c = omega (arith, node_fits c.requires.listed_node.node)

pub slice_bounds-line-end-in-2 : goal.slice_bounds-line-end-in-2
slice_bounds-line-end-in-2 c = omega (arith, node_fits c.requires.listed_node.node)

pub returns-in_default : goal.returns-in_default
returns-in_default c =
    writes_as (sym (own_none c.args.image.now c.args.i c.args.next c.args.level (search rules) (search rules)))
    (writes_none _ (omega (arith, c.requires.fits.fits)))
