use Rattle.read_next.specs.Follow.{ahead_head, ahead_node, enter_page, enter_some, enter_down}
use native.Mathlib.Omega.{arith}
use mathlib.Core.Path.{refl}
use Rattle.read_next.proofs.enter.Goals as goal

pub loop-at-init : goal.loop-at-init
loop-at-init c = λ pos a. record { ahead = a; deep = omega arith }

pub bounds-image-at : goal.bounds-image-at
bounds-image-at c = let p = c.requires in let h = ahead_head (c.loop-at.invariant p.0 p.1).ahead in omega (arith, h.inside)

pub name_at-requires : goal.name_at-requires
name_at-requires c =
    let p = c.requires in let h = ahead_head (c.loop-at.invariant p.0 p.1).ahead in omega (arith, h.inside)

pub row_start-at-requires : goal.row_start-at-requires
row_start-at-requires c =
    let p = c.requires in
    enter_page (c.loop-at.invariant p.0 p.1) c.loop-at-test.true _ c.name_at.ensures.0

pub overflow_sub-left : goal.overflow_sub-left
overflow_sub-left c =
    let p = c.requires in
    enter_some (c.loop-at.invariant p.0 p.1) c.loop-at-test.true _ c.name_at.ensures.0

pub loop-at-smaller : goal.loop-at-smaller
loop-at-smaller c =
    let p = c.requires in
    let s = enter_some (c.loop-at.invariant p.0 p.1) c.loop-at-test.true _ c.name_at.ensures.0 in
    omega arith

pub loop-at-preserved : goal.loop-at-preserved
loop-at-preserved c =
    λ pos a. enter_down (c.loop-at.invariant pos a) c.loop-at-test.true _ c.name_at.ensures.0 _ _
    c.row_start-at.ensures refl

pub returns : goal.returns
returns c = λ pos a. let b = (c.loop-at.invariant pos a).ahead in ahead_node b c.loop-at-test.false
