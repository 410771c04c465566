-- `remove_record::only_sibling`: a node at the top of a record's row is the first or the second of a helper's two children, or it leaves two or more.
use Prim.Native.Nat.{◌+◌}
use native.Mathlib.Omega.{arith}
use Rattle.remove_record.specs.Sibling.{some, top_helper, top_holder, at_top, first_fits, second_fits, keeps_two}
use Rattle.remove_record.specs.Sibling.{leaves_first, leaves_second}
use Rattle.remove_record.proofs.only_sibling.Goals as goal

pub returns-then-par-ne0 : goal.returns-then-par-ne0
returns-then-par-ne0 c = λ w. λ e. absurd (c.if-par-ne0.true (top_holder w e))

pub bounds-rec-0 : goal.bounds-rec-0
bounds-rec-0 c = omega (arith, some c.requires)

pub returns-then-rec-ne4 : goal.returns-then-rec-ne4
returns-then-rec-ne4 c = λ w. λ e. absurd (c.if-rec-ne4.true (top_helper w e))

pub size_at-second-requires : goal.size_at-second-requires
size_at-second-requires c = let w = c.requires in omega (arith, first_fits w ((at_top w c.if-par-ne0.false c.if-rec-ne4.false)))

pub size_at-requires : goal.size_at-requires
size_at-requires c =
    let w = c.requires in
    second_fits w ((at_top w c.if-par-ne0.false c.if-rec-ne4.false)) _ (omega (arith, c.size_at-second.ensures.0))

pub returns-then-end-rec : goal.returns-then-end-rec
returns-then-end-rec c = λ w.
    λ _. keeps_two w ((at_top w c.if-par-ne0.false c.if-rec-ne4.false)) ((6 + c.size_at-second.result)) (omega (arith, c.size_at-second.ensures.0)) (((6 + c.size_at-second.result) + c.size_at.result))
    (omega (arith, c.size_at.ensures.0)) (λ e. omega (arith, c.if-end-rec.true))

pub returns-then-at-eq6 : goal.returns-then-at-eq6
returns-then-at-eq6 c = λ w.
    leaves_second w ((at_top w c.if-par-ne0.false c.if-rec-ne4.false)) ((6 + c.size_at-second.result)) (omega (arith, c.size_at-second.ensures.0)) (((6 + c.size_at-second.result) + c.size_at.result))
    (omega (arith, c.size_at.ensures.0)) (omega (arith, c.if-end-rec.false)) (omega (arith, c.if-at-eq6.true))

pub returns : goal.returns
returns c = λ w.
    leaves_first w ((at_top w c.if-par-ne0.false c.if-rec-ne4.false)) ((6 + c.size_at-second.result)) (omega (arith, c.size_at-second.ensures.0)) (((6 + c.size_at-second.result) + c.size_at.result))
    (omega (arith, c.size_at.ensures.0)) (omega (arith, c.if-end-rec.false)) (λ e. omega (arith, c.if-at-eq6.false))
