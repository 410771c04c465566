-- `grow_split_point::lean`: the machine's difference is the difference, and it is in the range.
use mathlib.Core.Path.{◌≡◌, refl}
use Prim.Native.Nat.{ℕ, ◌≤◌}
use native.Mathlib.Omega.{arith}
use lib.IntN.{sub_ℕ, ◌-ℤ◌}
use mir.Syntax.{w32}
use mir.Val.{to_z}
use mir.Facts.{to_z_pos, to_z-of_z}
use Rattle.theory_rows.specs.Bound.{in_lean}
use Rattle.grow_split_point.specs.Lean.{minus_is, lean_signed}
use Rattle.grow_split_point.proofs.lean.Goals as goal

exact : (d p : ℕ) → d ≤ 8324 → p ≤ 8192 → to_z w32 d -ℤ to_z w32 p ≡ sub_ℕ d p
exact d p h k = rw (to_z_pos w32 {n = d} (omega arith), to_z_pos w32 {n = p} (omega arith)) (minus_is d p)

pub overflow_sub-result : goal.overflow_sub-result
overflow_sub-result c =
    let a = c.args in
    rw (exact a.d a.p (omega arith) (omega arith)) (lean_signed (sub_ℕ a.d a.p) (in_lean a.d a.p c.requires.1.0 c.requires.0))

pub returns : goal.returns
returns c =
    let a = c.args in
    let w = in_lean a.d a.p c.requires.1.0 c.requires.0 in
    let e = exact a.d a.p (omega arith) (omega arith) in
    rw (e, to_z-of_z {z = sub_ℕ a.d a.p} (lean_signed (sub_ℕ a.d a.p) w)) (refl, w)
