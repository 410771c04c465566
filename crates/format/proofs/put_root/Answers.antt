-- `format::put_root`: the five writes make page 1.
use native.Mathlib.Omega.{arith}
use Rattle.format.specs.First.{root_written}
use Rattle.format.specs.Store.{whole}
use Rattle.format.proofs.put_root.Goals as goal

pub put16-requires : goal.put16-requires
put16-requires c = omega (arith, whole c.requires)

pub put16-requires-2 : goal.put16-requires-2
put16-requires-2 c = omega (arith, whole c.requires)

pub put16-requires-3 : goal.put16-requires-3
put16-requires-3 c = omega (arith, whole c.requires)

pub put16-requires-4 : goal.put16-requires-4
put16-requires-4 c =
    let p = c.requires in
    omega (arith, whole p)

pub put16-requires-5 : goal.put16-requires-5
put16-requires-5 c =
    let p = c.requires in
    omega (arith, whole p)

pub returns : goal.returns
returns c =
    root_written _ _ _ _ _ _ _ c.ranges.label.fits c.requires c.put16.ensures c.put16-2.ensures c.put16-3.ensures
    c.put16-4.ensures c.put16-5.ensures
