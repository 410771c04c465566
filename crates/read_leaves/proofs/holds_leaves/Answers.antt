use mathlib.Core.Path.{ap, subst}
use mathlib.Core.Bool.{false≢true}
use mathlib.Core.List.{List}
use Prim.Native.Nat.{ℕ}
use native.Mathlib.Omega.{arith}
use lib.ListN.{length, length-drop}
use Rattle.theory_check.specs.Facts.{rest_is}
use Rattle.read_leaves.specs.Leafy.{Leafy}
use Rattle.read_leaves.proofs.holds_leaves.Goals as goal

pub returns-then-part-lt12 : goal.returns-then-part-lt12
returns-then-part-lt12 c e = absurd (false≢true e)

pub returns-then-size_at-ne6 : goal.returns-then-size_at-ne6
returns-then-size_at-ne6 c e = absurd (false≢true e)

pub slice_bounds-leaves-count : goal.slice_bounds-leaves-count
slice_bounds-leaves-count c = omega (arith, c.if-part-lt12.false)

pub slice_bounds-leaves-start : goal.slice_bounds-leaves-start
slice_bounds-leaves-start c = omega (arith, c.if-part-lt12.false)

pub returns : goal.returns
returns c e =
    let a = c.args in
    let s = a.part.now in
    let z = rest_is 6 s in
    let f = c.leaves.ensures e in
    (subst (λ (x : List ℕ). Leafy x a.level) z f.0, f.1 (λ q. omega (arith, ap length z, length-drop 6 s, c.if-part-lt12.false)))
