-- The lean as the difference of two offsets.
use Rattle.std.specs.Prelude.{◌≡◌, refl, Bool, true, false, cond, ℕ, zero, suc, ◌+◌, ◌-◌, ◌≤◌, ltb, eqb, ℤ, pos, negsuc, ◌-ℤ◌}
use Rattle.std.proofs.Common.{ap, arith, ltb-true, ltb-false, le-ltb, SFits}
use Rattle.std.proofs.Math.IntN.{sub_ℕ}
use Rattle.std.specs.Int.{w32}
use Rattle.model.specs.Claims.{InLean}
use Rattle.theory_rows.specs.Laws.{cond_case}

pub minus_is : (d p : ℕ) → pos d -ℤ pos p ≡ sub_ℕ d p
minus_is d zero =
    let z : d + 0 ≡ d - 0 = omega arith in
    rw (le-ltb d 0 (omega arith)) (ap pos z)
minus_is d (suc p) = refl

-- What the range of a lean says of the offsets.
pub lean_bounds : (d p : ℕ) → InLean (sub_ℕ d p) → (p ≤ d + 525) × (d ≤ p + 132)
lean_bounds d p h = go (ltb d p) refl h
  where
    go : (b : Bool) → ltb d p ≡ b → InLean (cond b (negsuc (p - suc d)) (pos (d - p))) → (p ≤ d + 525) × (d ≤ p + 132)
    go true e h = omega (arith, ltb-true d p e)
    go false e h = omega (arith, ltb-false d p e)

-- The lean after k splits and one more, whose own is `last`.
abbrev pub lean_now : (k : ℕ) → (first last : ℤ) → ℤ
lean_now k first last = cond (eqb k 0) last first

pub lean_in : (k : ℕ) (first last : ℤ) → InLean first → InLean last → InLean (lean_now k first last)
lean_in k first last a b = cond_case InLean (eqb k 0) (λ _. b) (λ _. a)

-- An i32 holds it.
pub lean_signed : (z : ℤ) → InLean z → SFits w32 z
lean_signed (pos n) h = record { sfits = omega arith }
lean_signed (negsuc n) h = record { sfits = omega arith }
