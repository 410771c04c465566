-- `format::put_settings`: the seven writes make page 0.
use native.Mathlib.Omega.{arith}
use Rattle.format.specs.First.{settings_written}
use Rattle.format.specs.Store.{whole}
use Rattle.format.proofs.put_settings.Goals as goal

pub put16-requires : goal.put16-requires
put16-requires c =
    let p = c.requires in
    omega (arith, whole p.0, p.1)

pub put16-requires-2 : goal.put16-requires-2
put16-requires-2 c =
    let p = c.requires in
    omega (arith, whole p.0, p.1)

pub put16-requires-3 : goal.put16-requires-3
put16-requires-3 c =
    let p = c.requires in
    omega (arith, whole p.0, p.1)

pub put16-requires-4 : goal.put16-requires-4
put16-requires-4 c =
    let p = c.requires in
    omega (arith, whole p.0, p.1)

pub copy_in-requires : goal.copy_in-requires
copy_in-requires c =
    let p = c.requires in
    omega (arith, whole p.0, p.1)

pub put16-requires-5 : goal.put16-requires-5
put16-requires-5 c =
    let p = c.requires in
    omega (arith, whole p.0, p.1)

pub put16-requires-6 : goal.put16-requires-6
put16-requires-6 c =
    let p = c.requires in
    omega (arith, whole p.0, p.1)

pub returns : goal.returns
returns c =
    settings_written _ c.requires.1 _ _ _ _ _ _ _ _ c.requires.0 c.put16.ensures c.put16-2.ensures c.put16-3.ensures
    c.put16-4.ensures c.copy_in.ensures c.put16-5.ensures c.put16-6.ensures
