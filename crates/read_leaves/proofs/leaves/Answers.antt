use mathlib.Core.Path.{sym, ◌∙◌}
use mathlib.Core.Bool.{false≢true}
use Prim.Native.Nat.{◌+◌, ◌≤◌}
use lib.ListN.{length}
use native.Mathlib.Omega.{arith}
use Rattle.read_nodes.specs.Stand.{aggregate_by, literal_by}
use Rattle.read_nodes.specs.Leaves.{sized}
use Rattle.read_leaves.specs.Leafy.{Passed, passed_none, passed_all, passed_empty, passed_literal}
use Rattle.read_leaves.proofs.leaves.Goals as goal
use Rattle.read_leaves.proofs.leaves.Goals.{Else-not-literal, Then-aggregate}

-- After the turn that passes an empty aggregate.
empty_passed : (c : Then-aggregate) → let a = c.args in
    Passed a.part.now a.level (c.loop-at.at + 6) × (6 ≤ 6) × (c.loop-at.at + 6 ≤ length a.part.now)
empty_passed c = let a = c.args in
    passed_empty a.part.now a.level c.loop-at.at c.loop-at.invariant
    (sym (aggregate_by _ 6 1 a.level _ c.kinds_in-may.ensures _ c.aggregate.ensures) ∙ c.if-aggregate.true)

-- After the turn that passes a literal.
literal_passed : (c : Else-not-literal) → let a = c.args in
    let n = c.size_of-size.result in
    Passed a.part.now a.level (c.loop-at.at + n) × (6 ≤ n) × (c.loop-at.at + n ≤ length a.part.now)
literal_passed c = let a = c.args in
    let n = c.size_of-size in
    passed_literal a.part.now a.level c.loop-at.at c.loop-at.invariant n.result n.ensures c.if-size-eq0.false
    (sym (literal_by _ n.result 1 a.level _ c.kinds_in-may.ensures _ c.literal.ensures) ∙ c.if-not-literal.false)

pub loop-at-init : goal.loop-at-init
loop-at-init c = passed_none _ _

pub overflow_add-at : goal.overflow_add-at
overflow_add-at c = omega (arith, (empty_passed (goal.at.overflow_add-at c).Then-aggregate).2, c.well_formed)

pub loop-at-smaller-then-aggregate : goal.loop-at-smaller-then-aggregate
loop-at-smaller-then-aggregate c = omega (arith, (empty_passed (goal.at.loop-at-smaller-then-aggregate c).Then-aggregate).2)

pub loop-at-preserved-then-aggregate : goal.loop-at-preserved-then-aggregate
loop-at-preserved-then-aggregate c = (empty_passed (goal.at.loop-at-preserved-then-aggregate c).Then-aggregate).0

pub returns-then-size-eq0 : goal.returns-then-size-eq0
returns-then-size-eq0 c = λ e. absurd (false≢true e)

pub literal-requires : goal.literal-requires
literal-requires c = omega (arith, sized _ _ c.size_of-size.ensures c.if-size-eq0.false)

pub returns-then-not-literal : goal.returns-then-not-literal
returns-then-not-literal c = λ e. absurd (false≢true e)

pub overflow_add-at-else-aggregate : goal.overflow_add-at-else-aggregate
overflow_add-at-else-aggregate c = omega (arith, (literal_passed (goal.at.overflow_add-at-else-aggregate c).Else-not-literal).2, c.well_formed)

pub loop-at-smaller : goal.loop-at-smaller
loop-at-smaller c = omega (arith, (literal_passed (goal.at.loop-at-smaller c).Else-not-literal).1, (literal_passed (goal.at.loop-at-smaller c).Else-not-literal).2)

pub loop-at-preserved : goal.loop-at-preserved
loop-at-preserved c = (literal_passed (goal.at.loop-at-preserved c).Else-not-literal).0

pub returns : goal.returns
returns c = λ e. passed_all _ _ _ c.loop-at.invariant c.loop-at-test.false
