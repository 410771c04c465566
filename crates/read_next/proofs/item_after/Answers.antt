use Rattle.read_next.specs.Follow.{node_head, upward_start, upward_last, upward_ahead, upward_held, upward_small, upward_some}
use Rattle.read_next.specs.Follow.{upward_on}
use Rattle.read_next.specs.Scan.{known}
use native.Mathlib.Omega.{arith}
use mathlib.Core.Path.{refl, sym, ◌∙◌}
use Rattle.read_next.proofs.item_after.Goals as goal

pub flat-at-requires : goal.flat-at-requires
flat-at-requires c = let h = node_head c.requires in (omega (arith, h.inside), h.small)

pub loop-at-init : goal.loop-at-init
loop-at-init c = upward_start c.requires _ _ refl c.flat-at.ensures

pub record_end-requires : goal.record_end-requires
record_end-requires c = let g = (known c.loop-at.invariant.from.on).on in (g.high, g.inside)

pub returns-then-page-eq1 : goal.returns-then-page-eq1
returns-then-page-eq1 c =
    upward_last c.loop-at.invariant (c.loop-at-test.true ∙ c.record_end.ensures) (omega arith)

pub overflow_mul-page : goal.overflow_mul-page
overflow_mul-page c = let k = (known c.loop-at.invariant.from.on).on in omega (arith, k.high)

pub back_at-holder-requires : goal.back_at-holder-requires
back_at-holder-requires c = let k = (known c.loop-at.invariant.from.on).on in omega (arith, k.inside)

pub find_proxy-at-requires : goal.find_proxy-at-requires
find_proxy-at-requires c =
    upward_held c.loop-at.invariant (c.loop-at-test.true ∙ c.record_end.ensures) (omega arith) _
    c.back_at-holder.ensures.0

pub overflow_add-at : goal.overflow_add-at
overflow_add-at c =
    let s =
    upward_small c.loop-at.invariant
    (c.loop-at-test.true ∙ c.record_end.ensures) (omega arith) _ c.back_at-holder.ensures.0 _
    c.find_proxy-at.ensures in
    omega arith

pub overflow_sub-left : goal.overflow_sub-left
overflow_sub-left c =
    upward_some c.loop-at.invariant
    (c.loop-at-test.true ∙ c.record_end.ensures) (omega arith) _ c.back_at-holder.ensures.0

pub loop-at-smaller : goal.loop-at-smaller
loop-at-smaller c =
    let s =
    upward_some c.loop-at.invariant
    (c.loop-at-test.true ∙ c.record_end.ensures) (omega arith) _ c.back_at-holder.ensures.0 in
    omega arith

pub loop-at-preserved : goal.loop-at-preserved
loop-at-preserved c =
    upward_on c.loop-at.invariant
    (c.loop-at-test.true ∙ c.record_end.ensures) (omega arith) _ c.back_at-holder.ensures.0 _
    c.find_proxy-at.ensures _ _ refl refl

pub returns : goal.returns
returns c =
    upward_ahead c.loop-at.invariant (λ e. c.loop-at-test.false (e ∙ sym c.record_end.ensures))
