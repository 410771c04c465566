-- Sums over k pages from p on.
use Rattle.std.specs.Prelude.{◌≡◌, refl, Bool, true, false, cond, ℕ, zero, suc, ◌+◌, ◌≤◌, ◌<◌, eqb}
use Rattle.std.proofs.Common.{ap₂, arith, eqb-true, ne_eqb}
use Rattle.std.proofs.lemmas.Bool.{eqb-false}

abbrev pub sum : (ℕ → ℕ) → (k p : ℕ) → ℕ
sum f zero p = 0
sum f (suc k) p = f p + sum f k (suc p)

pub sum_add : (f g : ℕ → ℕ) (k p : ℕ) → sum (λ q. f q + g q) k p ≡ sum f k p + sum g k p
sum_add f g zero p = refl
sum_add f g (suc k) p = omega (arith, sum_add f g k (suc p))

pub sum_same : (f g : ℕ → ℕ) (k p : ℕ) → ((q : ℕ) → p ≤ q → q < p + k → f q ≡ g q) → sum f k p ≡ sum g k p
sum_same f g zero p h = refl
sum_same f g (suc k) p h = ap₂ ◌+◌ (h p (omega arith) (omega arith)) (sum_same f g k (suc p) (λ q l u. h q (omega arith) (omega arith)))

pub sum_most : (f : ℕ → ℕ) → ((q : ℕ) → f q ≤ 1) → (k p : ℕ) → sum f k p ≤ k
sum_most f h zero p = omega arith
sum_most f h (suc k) p = omega (arith, h p, sum_most f h k (suc p))

pub sum_none : (k p : ℕ) → sum (λ q. 0) k p ≡ 0
sum_none zero p = refl
sum_none (suc k) p = omega (arith, sum_none k (suc p))

-- 1 for one page
abbrev pub only : ℕ → ℕ → ℕ
only x q = cond (eqb q x) 1 0

sum_past : (x k p : ℕ) → x < p → sum (only x) k p ≡ 0
sum_past x zero p h = refl
sum_past x (suc k) p h = rw (ne_eqb p x (λ e. omega arith)) (omega (arith, sum_past x k (suc p) (omega arith)))

pub sum_only : (x k p : ℕ) → p ≤ x → x < p + k → sum (only x) k p ≡ 1
sum_only x zero p a b = absurd (omega arith)
sum_only x (suc k) p a b = go (eqb p x) refl
    (λ e. sum_past x k (suc p) (omega arith)) (λ e. sum_only x k (suc p) (omega arith) (omega arith))
  where
    go : (c : Bool) → eqb p x ≡ c → (p ≡ x → sum (only x) k (suc p) ≡ 0) → (p < x → sum (only x) k (suc p) ≡ 1) → cond c 1 0 + sum (only x) k (suc p) ≡ 1
    go true e f g = omega (arith, f (eqb-true p x e))
    go false e f g = omega (arith, g (omega (arith, eqb-false p x e)))

sum_le : (f g : ℕ → ℕ) → ((q : ℕ) → f q ≤ g q) → (k p : ℕ) → sum f k p ≤ sum g k p
sum_le f g h zero p = omega arith
sum_le f g h (suc k) p = omega (arith, h p, sum_le f g h k (suc p))

-- A sum that is no more than one of smaller parts has the same parts.
pub sum_tight : (f g : ℕ → ℕ) → ((q : ℕ) → f q ≤ g q) → (k p : ℕ) → sum g k p ≤ sum f k p → (q : ℕ) → p ≤ q → q < p + k → g q ≤ f q
sum_tight f g h zero p e q l u = absurd (omega arith)
sum_tight f g h (suc k) p e q l u = go (eqb p q) refl (sum_tight f g h k (suc p) (omega (arith, h p)) q)
  where
    go : (b : Bool) → eqb p q ≡ b → (suc p ≤ q → q < suc p + k → g q ≤ f q) → g q ≤ f q
    go true d ih = rw (← eqb-true p q d) (omega (arith, sum_le f g h k (suc p)))
    go false d ih = let n = eqb-false p q d in ih (omega arith) (omega arith)
