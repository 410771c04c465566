use native.Mathlib.Omega.{arith}
use Rattle.read_next.specs.Scan.{known, scan_start, scan_head, scan_next}
use Rattle.read_next.proofs.reach.Goals as goal

pub row_start-pos-requires : goal.row_start-pos-requires
row_start-pos-requires c = (known c.requires.0).on

pub loop-pos-init : goal.loop-pos-init
loop-pos-init c = λ w. scan_start w _ _ c.row_start-pos.ensures

pub flat-pos-requires : goal.flat-pos-requires
flat-pos-requires c =
    let w = c.requires.0 in
    let h = scan_head w _ _ (c.loop-pos.invariant w) (omega (arith, (known w).end)) in (omega (arith, h.inside), h.small)

pub loop-pos-smaller : goal.loop-pos-smaller
loop-pos-smaller c =
    let w = c.requires.0 in
    let h = scan_head w _ _ (c.loop-pos.invariant w) (omega (arith, (known w).end)) in omega (arith, c.flat-pos.ensures, h.further)

pub loop-pos-preserved : goal.loop-pos-preserved
loop-pos-preserved c = λ w. scan_next w _ _ _ c.flat-pos.ensures (c.loop-pos.invariant w) c.loop-pos-test.true (omega (arith, (known w).end))

pub returns : goal.returns
returns c = record { past = c.loop-pos-test.false; scan = c.loop-pos.invariant }
