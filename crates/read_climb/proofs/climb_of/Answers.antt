-- `read_climb::climb_of`: the bytes from where the path starts are those of the node's path.
use Rattle.std.proofs.Common.{refl, arith}
use Rattle.read_climb.specs.Climbed.{climb_none, room, climb_short, climb_done}
use Rattle.read_climb.proofs.climb_of.Goals as goal

pub returns-in_default : goal.returns-in_default
returns-in_default c = climb_none _ _ _ c.requires.0 c.in_default.ensures

pub climb_path-at-requires : goal.climb_path-at-requires
climb_path-at-requires c = (c.in-Some.ensures.node, c.requires.1, refl)

pub overflow_sub-n : goal.overflow_sub-n
overflow_sub-n c = omega (arith, room _ _ _ _ c.in-Some.ensures.node c.climb_path-at.ensures)

pub returns-then-buffer-n : goal.returns-then-buffer-n
returns-then-buffer-n c = climb_short _ _ _ _ c.in-Some.ensures _ _ c.climb_path-at.ensures c.if-buffer-n.true

pub slice_bounds-copy_in-count : goal.slice_bounds-copy_in-count
slice_bounds-copy_in-count c = omega (arith, room _ _ _ _ c.in-Some.ensures.node c.climb_path-at.ensures)

pub slice_bounds-copy_in-start : goal.slice_bounds-copy_in-start
slice_bounds-copy_in-start c = omega (arith, room _ _ _ _ c.in-Some.ensures.node c.climb_path-at.ensures)

pub returns : goal.returns
returns c =
    climb_done _ _ _ _ c.in-Some.ensures _ _ c.climb_path-at.ensures _ c.if-buffer-n.false c.copy_in.ensures
