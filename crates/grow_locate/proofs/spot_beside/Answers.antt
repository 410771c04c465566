use Rattle.std.proofs.Common.{arith, sym, ◌∙◌}
use Rattle.grow_locate.specs.Choose.{both_on}
use Rattle.grow_locate.proofs.spot_beside.Goals as goal

pub seek-requires : goal.seek-requires
seek-requires c =
    let p = c.requires in
    let f = c.seek-node.ensures p.0 in
    (f.1.rowed, p.1, omega (arith, f.2, p.2))

-- The first node of what follows the left sibling is the right one.
pub right_wins-requires : goal.right_wins-requires
right_wins-requires c =
    let w = c.requires.0 in
    let f = c.seek-node.ensures w in
    both_on c.args.span w c.args.i _ _ (sym c.in_ok-left.was ∙ f.0) (sym c.in-Some.is ∙ (c.seek.ensures f.1.rowed).0 ∙ f.1.first)
