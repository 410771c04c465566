use native.Mathlib.Omega.{arith}
use Rattle.grow_replace_proxy.specs.Inner.{InnerStep, inner_step, filled_in, inner_start, inner_end}
use Rattle.grow_replace_proxy.proofs.enclosing.Goals as goal

pub loop-pos-init : goal.loop-pos-init
loop-pos-init c = λ g s. s

pub size_at-size-requires : goal.size_at-size-requires
size_at-size-requires c = let v : InnerStep c.args.rec.now c.args.target c.loop-pos.pos c.loop-pos.par (filled_in _ _ c.requires) = inner_step _ _ _ _ _ (c.loop-pos.invariant _ (inner_start _ _ c.requires)) c.loop-pos-test.true in omega (arith, v.within, v.more)

pub overflow_add-pos : goal.overflow_add-pos
overflow_add-pos c = let v : InnerStep c.args.rec.now c.args.target c.loop-pos.pos c.loop-pos.par (filled_in _ _ c.requires) = inner_step _ _ _ _ _ (c.loop-pos.invariant _ (inner_start _ _ c.requires)) c.loop-pos-test.true in omega (arith, v.within, c.size_at-size.ensures.0)

pub overflow_add-pos-then-target-pos : goal.overflow_add-pos-then-target-pos
overflow_add-pos-then-target-pos c = let v : InnerStep c.args.rec.now c.args.target c.loop-pos.pos c.loop-pos.par (filled_in _ _ c.requires) = inner_step _ _ _ _ _ (c.loop-pos.invariant _ (inner_start _ _ c.requires)) c.loop-pos-test.true in omega (arith, v.within, v.more)

pub loop-pos-smaller-then-target-pos : goal.loop-pos-smaller-then-target-pos
loop-pos-smaller-then-target-pos c = omega (arith, c.loop-pos-test.true)

pub loop-pos-preserved-then-target-pos : goal.loop-pos-preserved-then-target-pos
loop-pos-preserved-then-target-pos c =
    λ g s. let v =
    inner_step _ _ _ _ _ (c.loop-pos.invariant g s) c.loop-pos-test.true in v.enter (omega (arith, c.if-target-pos.true, c.size_at-size.ensures.0))

pub overflow_add-pos-else-target-pos : goal.overflow_add-pos-else-target-pos
overflow_add-pos-else-target-pos c = let v : InnerStep c.args.rec.now c.args.target c.loop-pos.pos c.loop-pos.par (filled_in _ _ c.requires) = inner_step _ _ _ _ _ (c.loop-pos.invariant _ (inner_start _ _ c.requires)) c.loop-pos-test.true in omega (arith, v.within, c.size_at-size.ensures.0)

pub loop-pos-smaller : goal.loop-pos-smaller
loop-pos-smaller c = let v : InnerStep c.args.rec.now c.args.target c.loop-pos.pos c.loop-pos.par (filled_in _ _ c.requires) = inner_step _ _ _ _ _ (c.loop-pos.invariant _ (inner_start _ _ c.requires)) c.loop-pos-test.true in omega (arith, v.more, c.size_at-size.ensures.0, c.loop-pos-test.true)

pub loop-pos-preserved : goal.loop-pos-preserved
loop-pos-preserved c =
    λ g s.
    let v = inner_step _ _ _ _ _ (c.loop-pos.invariant g s) c.loop-pos-test.true in
    rw c.size_at-size.ensures.0 (v.skip (omega (arith, c.if-target-pos.false, c.size_at-size.ensures.0)))

pub returns : goal.returns
returns c = λ w. inner_end _ _ _ _ _ (c.loop-pos.invariant _ (inner_start _ _ w)) c.loop-pos-test.false
