use Rattle.std.proofs.Common.{arith, refl}
use Rattle.model.specs.Limits.{most_pages}
use Rattle.model.specs.Tree as tree
use Rattle.read_find.specs.Rowed.{Counted, width_steps, counts, more, counting, counted, count_first}
use Rattle.read_find.proofs.width.Goals as goal
use Rattle.read_find.proofs.width.Goals.{In-loop-i}

-- What is left of the row in the loop.
left : (c : In-loop-i) → Counted c.args.image.now c.loop-i.i c.args.end most_pages c.loop-i.n (tree.width c.requires.0.row)
left c = c.loop-i.invariant _ (counting _ _ _ _ c.requires.0)

pub nodes_shown-n-requires : goal.nodes_shown-n-requires
nodes_shown-n-requires c = counts _ _ _ _ c.loop-i-test.true (left (goal.at.nodes_shown-n-requires c).In-loop-i).rest _ c.requires.1

pub overflow_add-n : goal.overflow_add-n
overflow_add-n c =
    let w = c.requires.0 in
    omega (arith, c.nodes_shown-n.ensures.0, (count_first _ _ _ _ _ _ _ c.loop-i-test.true refl (left (goal.at.overflow_add-n c).In-loop-i) _ c.requires.1).sum, width_steps w.row, w.few)

pub loop-i-smaller : goal.loop-i-smaller
loop-i-smaller c =
    omega (arith, more _ _ _ _ c.loop-i-test.true (left (goal.at.loop-i-smaller c).In-loop-i).rest _ c.requires.1, c.size_at-i.ensures.0, c.loop-i-test.true)

pub loop-i-preserved : goal.loop-i-preserved
loop-i-preserved c =
    λ t s. rw c.nodes_shown-n.ensures.0 (count_first _ _ _ _ _ _ _ c.loop-i-test.true c.size_at-i.ensures.0 (c.loop-i.invariant t s) _ c.requires.1)

pub returns : goal.returns
returns c = λ w. counted _ _ _ _ _ _ (c.loop-i.invariant _ (counting _ _ _ _ w)) c.loop-i-test.false
