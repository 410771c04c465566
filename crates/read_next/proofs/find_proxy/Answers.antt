use mathlib.Core.Path.{sym, ◌∙◌}
use native.Mathlib.Omega.{arith}
use Rattle.read_next.specs.Scan.{known, sought_start, sought_head, sought_next, sought_hit}
use Rattle.read_next.proofs.find_proxy.Goals as goal

pub row_start-pos-requires : goal.row_start-pos-requires
row_start-pos-requires c = (known c.requires.above).on

pub loop-pos-init : goal.loop-pos-init
loop-pos-init c = λ w. sought_start w _ c.row_start-pos.ensures

pub names-requires : goal.names-requires
names-requires c = let h = sought_head (c.loop-pos.invariant c.requires) in (omega (arith, h.inside), h.small)

pub flat-pos-requires : goal.flat-pos-requires
flat-pos-requires c =
    let h = sought_head (c.loop-pos.invariant c.requires) in (omega (arith, h.inside), h.small)

pub loop-pos-smaller : goal.loop-pos-smaller
loop-pos-smaller c =
    let h = sought_head (c.loop-pos.invariant c.requires) in
    omega (arith, c.flat-pos.ensures, h.further, h.within)

pub loop-pos-preserved : goal.loop-pos-preserved
loop-pos-preserved c =
    λ w. sought_next (c.loop-pos.invariant w) _ c.flat-pos.ensures
    (sym c.names.ensures ∙ c.loop-pos-test.true)

pub returns : goal.returns
returns c = λ w. sought_hit (c.loop-pos.invariant w) (sym c.names.ensures ∙ c.loop-pos-test.false)
