-- `grow_run::take_in`: the record's bytes, and the new node's place in them.
use native.Mathlib.Omega.{arith}
use Rattle.grow_run.specs.Taken.{taken_used, taken_part, taken_place, taken_fits}
use Rattle.grow_run.proofs.take_in.Goals as goal

pub slice_bounds-splice-end : goal.slice_bounds-splice-end
slice_bounds-splice-end c = let w = c.requires.0 in omega (arith, taken_used w, c.used_at.ensures.0, w.small, w.on.inside)

pub splice-requires : goal.splice-requires
splice-requires c =
    let w = c.requires.0 in
    let e = taken_part w _ c.used_at.ensures.0 in
    let n = taken_fits w _ e in
    (taken_place w _ e, (omega (arith, n, c.requires.1), omega (arith, n)))

pub returns : goal.returns
returns c = λ w. c.splice.ensures (taken_place w _ (taken_part w _ c.used_at.ensures.0))
