-- `remove_lift::lift_child`: the name in the proxy, the child's back link, and zeros.
use native.Mathlib.Omega.{arith}
use Rattle.remove_lift.specs.Lifting.{holder_renames, lifted_is}
use Rattle.remove_lift.proofs.lift_child.Goals as goal

pub rename-requires : goal.rename-requires
rename-requires c =
    (holder_renames c.requires _ c.back_at-holder.ensures.0, c.requires.kid.high)

pub put16-requires : goal.put16-requires
put16-requires c =
    (omega (arith, c.rename.auto.image, c.requires.kid.inside), omega (arith, c.back_at-holder.ensures.1))

pub clear_page-requires : goal.clear_page-requires
clear_page-requires c =
    (omega (arith, c.requires.on.high, c.requires.kid.high), omega (arith, c.put16.auto.s, c.rename.auto.image, c.requires.on.inside, c.requires.kid.inside))

pub returns : goal.returns
returns c =
    λ w. lifted_is w _ c.back_at-holder.ensures.0 _ _ _ c.rename.ensures c.put16.ensures c.clear_page.ensures
