-- The split point is the nearest whole number to target × S / 256, at an exact half the even one.
use Rattle.std.specs.Prelude.{◌≡◌, refl, Bool, true, false, cond, ℕ, ◌+◌, ◌*◌, ◌/◌, ◌%◌, ◌≤◌, ltb, eqb}
use Rattle.std.proofs.Common.{sym, subst, arith, ltb-true, ltb-false, eqb-true}
use Rattle.std.proofs.lemmas.Bool.{eqb-false}
use Rattle.model.specs.Row.{Config}
use Rattle.model.specs.Growth.{split_point}
use Rattle.model.specs.Claims.{Nearest, SplitPoint}
use Rattle.theory_rows.specs.Laws.{cond_case}

-- a rest below a half goes down, one above it up, a half to the even neighbour
pub point_nearest : (st : Config) (S : ℕ) → Nearest (st.target * S) (split_point st S)
unfolding split_point
point_nearest st S = go (st.target * S)
  where
    go : (n : ℕ) → Nearest n (cond (ltb (n % 256) 128) (n / 256) (cond (eqb (n % 256) 128) (n / 256 + n / 256 % 2) (n / 256 + 1)))
    go n =
        cond_case (Nearest n) (ltb (n % 256) 128)
        (λ a. let h = ltb-true (n % 256) 128 a in record { at_most = omega arith; even = λ e. omega arith })
        (λ a.
        let h = ltb-false (n % 256) 128 a in
        cond_case (Nearest n) (eqb (n % 256) 128)
        (λ b. let k = eqb-true (n % 256) 128 b in record { at_most = omega arith; even = λ e. omega arith })
        (λ b. let k = eqb-false (n % 256) 128 b in record { at_most = omega arith; even = λ e. omega arith }))

-- of two such numbers none is less: they would be neighbours, each a half away, and not both are even
not_less : (n p q : ℕ) → Nearest n p → Nearest n q → q ≤ p
not_less n p q a b = go (ltb p q) refl
  where
    go : (t : Bool) → ltb p q ≡ t → q ≤ p
    go true e =
        let h = ltb-true p q e in
        let next : q ≡ p + 1 = omega arith in
        let pe = a.even (omega arith) in
        let qe = b.even (omega arith) in
        absurd (omega (arith, pe, qe, next))
    go false e = ltb-false p q e

pub split_point_lem : SplitPoint
split_point_lem st S p = (
  λ e. subst (Nearest (st.target * S)) (sym e) (point_nearest st S),
  λ a.
      let b = point_nearest st S in
      omega (arith, not_less (st.target * S) (split_point st S) p b a, not_less (st.target * S) p (split_point st S) a b),
)
