-- `grow_split_point::split_point`: what it gives is the nearest whole number, and that is the split point.
use mathlib.Core.Path.{◌≡◌, sym, subst}
use Prim.Native.Nat.{ℕ, ◌*◌}
use native.Mathlib.Omega.{arith}
use native.Mathlib.Nat.{mul-le-mul_right}
use Rattle.model.specs.Row.{Config}
use Rattle.model.specs.Growth.{split_point}
use Rattle.model.specs.Claims.{Nearest}
use Rattle.theory_rows.specs.Point.{split_point_lem}
use Rattle.grow_split_point.proofs.split_point.Goals as goal

-- what is nearest to the product is the split point
point : (t s p : ℕ) → Nearest (t * s) p → (st : Config) → st.target ≡ t → p ≡ split_point st s
point t s p a st e = (split_point_lem st s p).1 (subst (λ (t : ℕ). Nearest (t * s) p) (sym e) a)

pub overflow_mul-n : goal.overflow_mul-n
overflow_mul-n c = omega (arith, (mul-le-mul_right c.args.size c.requires.0))

pub returns-then-past-lt128 : goal.returns-then-past-lt128
returns-then-past-lt128 c = point _ _ _ (record { at_most = omega arith; even = λ e. omega arith })

pub overflow_add-result : goal.overflow_add-result
overflow_add-result c = omega (arith, (mul-le-mul_right c.args.size c.requires.0))

pub returns-then-past-eq128 : goal.returns-then-past-eq128
returns-then-past-eq128 c = point _ _ _ (record { at_most = omega arith; even = λ e. omega arith })

pub overflow_add-result-2 : goal.overflow_add-result-2
overflow_add-result-2 c = omega (arith, (mul-le-mul_right c.args.size c.requires.0))

pub returns : goal.returns
returns c = point _ _ _ (record { at_most = omega arith; even = λ e. omega arith })
