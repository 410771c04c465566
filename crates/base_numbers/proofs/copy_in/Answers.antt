use mathlib.Core.Path.{refl, sym}
use native.Mathlib.Omega.{arith}
use lib.ListN.{length-set}
use Rattle.base_numbers.specs.Over.{over_nil, copy_turn, copy_end}
use Rattle.base_numbers.proofs.copy_in.Goals as goal

pub loop-j-init : goal.loop-j-init
loop-j-init c = (sym (over_nil _ _), (omega arith, refl))

pub loop-j-preserved : goal.loop-j-preserved
loop-j-preserved c = (
  copy_turn _ _ _ _ _ c.loop-j.invariant.0 c.requires
      c.loop-j-test.true,
  (omega arith, simp length-set (omega arith)),
)

pub shape_of-dst : goal.shape_of-dst
shape_of-dst c = c.loop-j.invariant.1.1

pub returns : goal.returns
returns c = copy_end _ _ _ _ _ c.loop-j.invariant.0 c.loop-j-test.false
