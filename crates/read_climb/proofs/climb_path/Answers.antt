use mathlib.Core.Path.{refl}
use native.Mathlib.Omega.{arith}
use Rattle.read_climb.specs.Rise.{on_page, parent_at, above, held, started, rise_start, rise_end, rise_on}
use Rattle.read_climb.proofs.climb_path.Goals as goal

pub loop-page-init : goal.loop-page-init
loop-page-init c = (λ w. rise_start _ _ _ _ w refl c.requires.2, c.requires.2)

pub row_start-requires : goal.row_start-requires
row_start-requires c =
    let w = c.requires.0 in
    (on_page _ _ _ w.reads _ _ _ _ _ _ _ (c.loop-page.invariant.0 w)).here.on

pub trace-t-requires : goal.trace-t-requires
trace-t-requires c =
    let p = c.requires in
    let l = c.loop-page.invariant in
    ((started _ _ _ p.0.reads _ _ _ _ _ _ _ (l.0 p.0) _ c.row_start.ensures).trace, p.1, l.1)

pub returns-then-page-eq1 : goal.returns-then-page-eq1
returns-then-page-eq1 c = (
  λ w.
      let l = c.loop-page.invariant.0 w in
      let e = c.row_start.ensures in
      rise_end _ _ _ w.reads _ _ _ _ _ _ _ l _ e _ _ _ (c.trace-t.ensures (started _ _ _ w.reads _ _ _ _ _ _ _ l _ e).trace) c.if-page-eq1.true,
  let w = c.requires.0 in
      let l = c.loop-page.invariant.0 w in
      let e = c.row_start.ensures in
      (c.trace-t.ensures (started _ _ _ w.reads _ _ _ _ _ _ _ l _ e).trace).long,
)

pub overflow_mul-page : goal.overflow_mul-page
overflow_mul-page c =
    let w = c.requires.0 in
    omega (arith, (on_page _ _ _ w.reads _ _ _ _ _ _ _ (c.loop-page.invariant.0 w)).here.on)

pub back_at-holder-requires : goal.back_at-holder-requires
back_at-holder-requires c =
    let w = c.requires.0 in
    omega (arith, (on_page _ _ _ w.reads _ _ _ _ _ _ _ (c.loop-page.invariant.0 w)).here.on)

pub find_proxy-target-requires : goal.find_proxy-target-requires
find_proxy-target-requires c =
    let w = c.requires.0 in
    let l = c.loop-page.invariant.0 w in
    held _ _ _ w.reads _ _ _ _ (parent_at _ _ _ w.reads _ _ _ _ _ _ _ l _ c.back_at-holder.ensures.0 c.if-page-eq1.false)

pub overflow_sub-left : goal.overflow_sub-left
overflow_sub-left c =
    let w = c.requires.0 in
    let l = c.loop-page.invariant.0 w in
    above _ _ _ w.reads _ _ _ _ _ _ _ l _ (parent_at _ _ _ w.reads _ _ _ _ _ _ _ l _ c.back_at-holder.ensures.0 c.if-page-eq1.false)

pub loop-page-smaller : goal.loop-page-smaller
loop-page-smaller c =
    let w = c.requires.0 in
    let l = c.loop-page.invariant.0 w in
    let p = parent_at _ _ _ w.reads _ _ _ _ _ _ _ l _ c.back_at-holder.ensures.0 c.if-page-eq1.false in
    omega (arith, above _ _ _ w.reads _ _ _ _ _ _ _ l _ p)

pub loop-page-preserved : goal.loop-page-preserved
loop-page-preserved c = (
  λ w.
      let l = c.loop-page.invariant.0 w in
      let e = c.row_start.ensures in
      let p = parent_at _ _ _ w.reads _ _ _ _ _ _ _ l _ c.back_at-holder.ensures.0 c.if-page-eq1.false in
      rise_on _ _ _ w.reads _ _ _ _ _ _ _ l _ e _ _ _ (c.trace-t.ensures (started _ _ _ w.reads _ _ _ _ _ _ _ l _ e).trace) _ _
      p
      (c.find_proxy-target.ensures (held _ _ _ w.reads _ _ _ _ p)),
  let w = c.requires.0 in
      let l = c.loop-page.invariant.0 w in
      let e = c.row_start.ensures in
      (c.trace-t.ensures (started _ _ _ w.reads _ _ _ _ _ _ _ l _ e).trace).long,
)
