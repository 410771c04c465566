-- `grow_split::separator`: the record's row is split as a level is.
-- In each answer w is the record, f where its row starts.
use native.Mathlib.Omega.{arith}
use Rattle.grow_split.specs.Severed.{large_long, large_sep, severed}
use Rattle.grow_split.proofs.separator.Goals as goal

pub first_node-requires : goal.first_node-requires
first_node-requires c = (large_long c.requires.1.1).0

pub separate-requires : goal.separate-requires
separate-requires c =
    let w = c.requires.1.1 in
    let f = c.first_node.ensures w.row w.over.is in
    (c.requires.0, (omega arith, (omega (arith, c.requires.1.0), large_sep w f _ c.requires.1.0)))

pub returns : goal.returns
returns c w =
    let f = c.first_node.ensures w.row w.over.is in
    severed w f _ c.requires.1.0 (c.separate.ensures (large_sep w f _ c.requires.1.0))
