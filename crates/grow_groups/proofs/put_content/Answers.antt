-- `grow_groups::put_content`: the content is the nodes, or a helper with the nodes.
use native.Mathlib.Omega.{arith}
use Rattle.grow_groups.specs.Group.{part_fits, part_room, one_node, more_nodes, page_with}
use Rattle.grow_groups.proofs.put_content.Goals as goal

pub size_at-requires : goal.size_at-requires
size_at-requires c = omega (arith, part_fits _ _ c.requires.1.1)

pub put_record-requires : goal.put_record-requires
put_record-requires c = omega (arith, part_fits _ _ c.requires.1.1)

pub put_helper-requires : goal.put_helper-requires
put_helper-requires c =
    omega (arith, c.requires, part_room _ _ c.requires.1.1 _ c.size_at.ensures.0 c.if-size_at-part.false)

pub returns-then-size_at-part : goal.returns-then-size_at-part
returns-then-size_at-part c =
    λ w. page_with _ _ _ _ _ c.put_record.ensures (one_node _ _ w _ c.size_at.ensures.0 c.if-size_at-part.true)

pub returns-else-size_at-part : goal.returns-else-size_at-part
returns-else-size_at-part c =
    λ w. page_with _ _ _ _ _ c.put_helper.ensures (more_nodes _ _ w _ c.size_at.ensures.0 c.if-size_at-part.false)
