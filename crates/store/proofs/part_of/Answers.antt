-- `store::part_of` meets its contract: a part within the image, or none.
use Rattle.std.proofs.Common.{◌≡◌, ◌+◌, ◌≤◌, length, arith, refl}
use native.Mathlib.Nat.{add-sub_cancel_left}
use Rattle.store.specs.Part.{inside_slice, inside_start, outside}
use Rattle.store.proofs.part_of.Goals as goal
use Rattle.store.proofs.part_of.Goals.{in_default-via-in-Some+else-end-image, in_default-via-in_default}

pub returns-in-Some : goal.returns-in-Some
returns-in-Some c =
    let img = c.args.image.now in
    let a = c.args.start in
    let n = c.args.len in
    let end = c.in-Some.ensures.1 in
    let h : a + n ≤ length img = omega (arith, end, c.if-end-image.true) in
    rw (end, add-sub_cancel_left a n, inside_slice img a n h, inside_start img a n h) (refl, refl)

pub returns-in_default : goal.returns-in_default
returns-in_default c =
    let img = c.args.image.now in
    let a = c.args.start in
    let n = c.args.len in
    let none : a + n ≤ length img → ⊥ = elim c.in_default.branch [
      | in_default-via-in-Some+else-end-image w ↦ λ h. omega (arith, h, w.in-Some.ensures.1, w.if-end-image.false)
      | in_default-via-in_default w ↦ λ h. w.in_default.ensures (omega (arith, h, c.well_formed))
    ] in
    let o = outside img a n none in
    let front : 0 + c.args.image.ref_ptr.1 ≡ c.args.image.ref_ptr.1 = omega arith in
    rw (o.0, o.1, front) (refl, refl)
