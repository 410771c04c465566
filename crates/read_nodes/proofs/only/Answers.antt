use mathlib.Core.Path.{◌≡◌, ap, sym, ◌∙◌}
use mathlib.Core.Bool.{Bool, true}
use Prim.Native.Nat.{◌≤◌, ◌+◌, ◌*◌, ◌-◌}
use native.Mathlib.Omega.{arith}
use lib.ListN.{length, take, drop}
use Rattle.read_nodes.specs.Leaf.{aggregate_of, inner_of}
use Rattle.read_nodes.specs.Inner.{inner_is, inner_fits, inner_end, inner_none, each_more}
use Rattle.read_nodes.proofs.only.Goals as goal
use Rattle.read_nodes.proofs.only.Goals.{After-aggregate}

pub returns-then-part-lt12 : goal.returns-then-part-lt12
returns-then-part-lt12 c =
    let a = c.args in
    record { each = λ i h. absurd (omega arith); last = inner_end a.part.now a.level 0 c.if-part-lt12.true }

pub returns-then-size_at-part : goal.returns-then-size_at-part
returns-then-size_at-part c =
    let a = c.args in
    record { each = λ i h. absurd (omega arith); last = inner_none a.part.now a.level _ c.size_at.ensures.0 c.if-size_at-part.true }

pub loop-at-init : goal.loop-at-init
loop-at-init c = (omega arith, omega (arith, c.if-part-lt12.false), λ i h. absurd (omega arith))

pub overflow_add-level : goal.overflow_add-level
overflow_add-level c =
    omega (arith, c.loop-at.invariant, c.requires)

-- what the test says
tested : (c : After-aggregate) → let a = c.args in
    c.aggregate.result ≡ inner_of a.part.now a.level c.loop-at.d
tested c =
    let a = c.args in
    let s = a.part.now in
    let n = length s - c.loop-at.at in
    c.aggregate.ensures
    ∙ ap (λ (m : Bool). aggregate_of (take n (drop c.loop-at.at s)) n m (a.level + c.loop-at.d)) c.may_stand-may.ensures
    ∙ inner_is s a.level c.loop-at.d c.loop-at.at c.loop-at.invariant.0

pub returns-then-not-aggregate : goal.returns-then-not-aggregate
returns-then-not-aggregate c =
    record { each = c.loop-at.invariant.2; last = sym (tested (goal.at.returns-then-not-aggregate c).After-aggregate) ∙ c.if-not-aggregate.true }

-- it passes
inner : (c : After-aggregate) → c.aggregate.result ≡ true → let a = c.args in
    (6 * c.loop-at.d + 12 ≤ length a.part.now) × (inner_of a.part.now a.level c.loop-at.d ≡ true)
inner c q = let e = sym (tested c) ∙ q in ((inner_fits _ _ _ e).0, e)

pub overflow_add-at : goal.overflow_add-at
overflow_add-at c = omega (arith, (inner (goal.at.overflow_add-at c).After-aggregate c.if-not-aggregate.false).0, c.loop-at.invariant.0)

pub overflow_add-d : goal.overflow_add-d
overflow_add-d c = omega (arith, (inner (goal.at.overflow_add-d c).After-aggregate c.if-not-aggregate.false).0)

pub loop-at-smaller : goal.loop-at-smaller
loop-at-smaller c = omega (arith, c.loop-at-test.true)

pub loop-at-preserved : goal.loop-at-preserved
loop-at-preserved c =
    let i = c.loop-at.invariant in
    let k = inner (goal.at.loop-at-preserved c).After-aggregate c.if-not-aggregate.false in
    (omega (arith, i.0), omega (arith, k.0, i.0), each_more _ _ _ i.2 k.1)

pub returns : goal.returns
returns c =
    let a = c.args in
    record { each = c.loop-at.invariant.2; last = inner_end a.part.now a.level c.loop-at.d (omega (arith, c.loop-at-test.false, c.loop-at.invariant.0)) }
