use native.Mathlib.Omega.{arith}
use mathlib.Core.Path.{sym, ◌∙◌}
use Rattle.grow_replace_proxy.specs.Seek.{SeekStep, seek_step, proxy_position, seek_start}
use Rattle.grow_replace_proxy.proofs.proxy_in.Goals as goal

pub loop-pos-init : goal.loop-pos-init
loop-pos-init c = λ g s. s

pub bounds-rec-pos : goal.bounds-rec-pos
bounds-rec-pos c = omega (arith, ((seek_step _ _ _ _ (c.loop-pos.invariant _ (seek_start _ _ c.requires)))).within)

pub overflow_add-pos : goal.overflow_add-pos
overflow_add-pos c = omega (arith, ((seek_step _ _ _ _ (c.loop-pos.invariant _ (seek_start _ _ c.requires)))).within)

pub loop-pos-smaller-then-kind-eq1 : goal.loop-pos-smaller-then-kind-eq1
loop-pos-smaller-then-kind-eq1 c = omega (arith, ((seek_step _ _ _ _ (c.loop-pos.invariant _ (seek_start _ _ c.requires)))).within)

pub loop-pos-preserved-then-kind-eq1 : goal.loop-pos-preserved-then-kind-eq1
loop-pos-preserved-then-kind-eq1 c = λ g s. (seek_step _ _ _ _ (c.loop-pos.invariant g s)).into c.if-kind-eq1.true

pub name_at-requires : goal.name_at-requires
name_at-requires c = omega (arith, ((seek_step _ _ _ _ (c.loop-pos.invariant _ (seek_start _ _ c.requires)))).within)

pub returns-then-name_at-page : goal.returns-then-name_at-page
returns-then-name_at-page c =
    λ w. (seek_step _ _ _ _ (c.loop-pos.invariant _ (seek_start _ _ w))).proxy c.if-kind-eq3.true
    (sym c.name_at.ensures.0 ∙ c.if-name_at-page.true)

pub overflow_add-pos-then-kind-eq3 : goal.overflow_add-pos-then-kind-eq3
overflow_add-pos-then-kind-eq3 c = omega (arith, ((seek_step _ _ _ _ (c.loop-pos.invariant _ (seek_start _ _ c.requires)))).within)

pub loop-pos-smaller-then-kind-eq3 : goal.loop-pos-smaller-then-kind-eq3
loop-pos-smaller-then-kind-eq3 c = omega (arith, ((seek_step _ _ _ _ (c.loop-pos.invariant _ (seek_start _ _ c.requires)))).within)

pub loop-pos-preserved-then-kind-eq3 : goal.loop-pos-preserved-then-kind-eq3
loop-pos-preserved-then-kind-eq3 c =
    λ g s. (seek_step _ _ _ _ (c.loop-pos.invariant g s)).other c.if-kind-eq3.true (λ e. c.if-name_at-page.false (c.name_at.ensures.0 ∙ e))

pub size_at-pos-requires : goal.size_at-pos-requires
size_at-pos-requires c = omega (arith, ((seek_step _ _ _ _ (c.loop-pos.invariant _ (seek_start _ _ c.requires)))).within)

pub overflow_add-pos-else-kind-eq3 : goal.overflow_add-pos-else-kind-eq3
overflow_add-pos-else-kind-eq3 c = omega (arith, ((seek_step _ _ _ _ (c.loop-pos.invariant _ (seek_start _ _ c.requires)))).within, c.size_at-pos.ensures.1)

pub loop-pos-smaller : goal.loop-pos-smaller
loop-pos-smaller c =
    let v : SeekStep c.args.rec.now c.args.page c.loop-pos.pos (proxy_position _ _ c.requires) = seek_step _ _ _ _ (c.loop-pos.invariant _ (seek_start _ _ c.requires)) in
    omega (arith, v.within, (v.past c.if-kind-eq1.false c.if-kind-eq3.false).0, c.size_at-pos.ensures.0)

pub loop-pos-preserved : goal.loop-pos-preserved
loop-pos-preserved c =
    λ g s. rw c.size_at-pos.ensures.0 ((seek_step _ _ _ _ (c.loop-pos.invariant g s)).past c.if-kind-eq1.false c.if-kind-eq3.false).1
