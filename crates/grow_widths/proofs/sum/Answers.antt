use Rattle.std.proofs.Common.{arith}
use Rattle.grow_widths.specs.Tally.{tallied}
use Rattle.grow_widths.specs.Tallying.{Tallying, TallyStep, tally_step, tally_counts, tally_on, tally_end, tally_start}
use Rattle.grow_widths.proofs.sum.Goals as goal
use Rattle.grow_widths.proofs.sum.Goals.{In-loop-pos}

-- What is left of the row in the loop, and its first node.
left : (c : In-loop-pos) → Tallying c.args.part.now c.args.widths.now c.loop-pos.pos c.loop-pos.n (tallied c.args.widths.now c.requires.linked.row)
left c = c.loop-pos.invariant.brings _ (tally_start _ _ c.requires)

step : (c : In-loop-pos) → TallyStep c.args.part.now c.args.widths.now c.loop-pos.pos c.loop-pos.n (tallied c.args.widths.now c.requires.linked.row)
step c = tally_step _ _ _ _ _ (left c) c.loop-pos-test.true

pub loop-pos-init : goal.loop-pos-init
loop-pos-init c =
    let t = tally_start _ c.args.widths.now c.requires in
    record { brings = λ t s. s; few = omega arith; short = omega (arith, t.ends, t.small) }

pub nodes_shown-n-requires : goal.nodes_shown-n-requires
nodes_shown-n-requires c = tally_counts _ _ _ _ _ (left (goal.at.nodes_shown-n-requires c).In-loop-pos) c.loop-pos-test.true

pub overflow_add-n : goal.overflow_add-n
overflow_add-n c = omega (arith, c.nodes_shown-n.ensures.1, c.loop-pos.invariant.few, c.loop-pos.invariant.short, c.loop-pos-test.true)

pub size_at-pos-requires : goal.size_at-pos-requires
size_at-pos-requires c = let v = step (goal.at.size_at-pos-requires c).In-loop-pos in omega (arith, v.more, v.within)

pub overflow_add-pos : goal.overflow_add-pos
overflow_add-pos c = omega (arith, (step (goal.at.overflow_add-pos c).In-loop-pos).within, c.size_at-pos.ensures.0, c.loop-pos.invariant.short)

pub loop-pos-smaller : goal.loop-pos-smaller
loop-pos-smaller c = omega (arith, (step (goal.at.loop-pos-smaller c).In-loop-pos).more, c.size_at-pos.ensures.0, c.loop-pos-test.true)

pub loop-pos-preserved : goal.loop-pos-preserved
loop-pos-preserved c = record {
  brings = λ t s. rw (c.size_at-pos.ensures.0, c.nodes_shown-n.ensures.0) (tally_on _ _ _ _ _ (c.loop-pos.invariant.brings t s) c.loop-pos-test.true);
  few = omega (arith, (step (goal.at.loop-pos-preserved c).In-loop-pos).more, c.size_at-pos.ensures.0, c.nodes_shown-n.ensures.1, c.loop-pos.invariant.few);
  short = c.loop-pos.invariant.short;
}

pub returns : goal.returns
returns c = λ w. tally_end _ _ _ _ _ (c.loop-pos.invariant.brings _ (tally_start _ _ w)) c.loop-pos-test.false
