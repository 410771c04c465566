-- The first test that applies, for any tests.
use Rattle.std.specs.Prelude.{◌≡◌, refl, ◌↔◌, Bool, true, false, cond, List, [], ◌∷◌, ◌++◌, ℕ, ◌≤◌, length, ltb, eqb}
use Rattle.std.proofs.Common.{sym, ◌∙◌, arith, eqb-true}
use Rattle.std.proofs.lemmas.Bool.{false≢true}
use Rattle.model.specs.Answers.{first_refusal}
use Rattle.model.specs.Common.{accept, write}
use Rattle.model.specs.Answers.{WriteAnswer}
use Rattle.theory_rows.specs.Laws.{cond_case}

-- The number of an answer that is accepted or refused.
pub accept_number : {A : Type 0} (number : A → ℕ) (n : ℕ) (a r : A) → number a ≡ 0 → number r ≡ n → number (accept n a r) ≡ n
accept_number number n a r p q = go (eqb n 0) refl
  where
    go : (b : Bool) → eqb n 0 ≡ b → number (cond b a r) ≡ n
    go true e = p ∙ sym (eqb-true n 0 e)
    go false e = q

-- A lent buffer is too short, or is written.
pub write_number : (b buffer : List ℕ) → (write b buffer).0.number ≤ 11
write_number b buffer = cond_case (λ (a : WriteAnswer × List ℕ). a.0.number ≤ 11) (ltb (length buffer) (length b)) (λ _. omega arith) (λ _. omega arith)

-- No test applies; no test has the number n.
abbrev pub Clear : List (ℕ × Bool) → Type 0
Clear [] = Unit {0}
Clear (t ∷ ts) = (t.1 ≡ false) × Clear ts

abbrev pub Without : (n : ℕ) → List (ℕ × Bool) → Type 0
Without n [] = Unit {0}
Without n (t ∷ ts) = (t.0 ≡ n → ⊥) × Without n ts

-- Of an accepted call no test applies.
pub first_clear : (ts : List (ℕ × Bool)) → Without 0 ts → first_refusal ts ≡ 0 → Clear ts
first_clear [] o e = tt
first_clear ((k, true) ∷ ts) o e = absurd (o.0 e)
first_clear ((k, false) ∷ ts) o e = (refl, first_clear ts o.1 e)

-- A number other than 0 that is given is a test's.
pub first_given : (n : ℕ) (ts : List (ℕ × Bool)) → (n ≡ 0 → ⊥) → Without n ts → first_refusal ts ≡ n → ⊥
first_given n [] z o e = z (sym e)
first_given n ((k, true) ∷ ts) z o e = o.0 e
first_given n ((k, false) ∷ ts) z o e = first_given n ts z o.1 e

-- A last test changes nothing where another applies, or where it does not.
pub last_unasked : (ts : List (ℕ × Bool)) (n : ℕ) (b : Bool) → (first_refusal ts ≡ 0 → ⊥) → first_refusal (ts ++ (n, b) ∷ []) ≡ first_refusal ts
last_unasked [] n b z = absurd (z refl)
last_unasked ((k, true) ∷ ts) n b z = refl
last_unasked ((k, false) ∷ ts) n b z = last_unasked ts n b z

pub last_false : (ts : List (ℕ × Bool)) (n : ℕ) → first_refusal (ts ++ (n, false) ∷ []) ≡ first_refusal ts
last_false [] n = refl
last_false ((k, true) ∷ ts) n = refl
last_false ((k, false) ∷ ts) n = last_false ts n

-- So its number comes exactly where no other test applies and it does.
pub last_exactly : (ts : List (ℕ × Bool)) (n : ℕ) (b : Bool) → Without 0 ts → Without n ts → (n ≡ 0 → ⊥)
    → (first_refusal (ts ++ (n, b) ∷ []) ≡ n) ↔ ((first_refusal (ts ++ (n, false) ∷ []) ≡ 0) × (b ≡ true))
last_exactly [] n true o p z = (λ e. (refl, refl), λ e. refl)
last_exactly [] n false o p z = (λ e. absurd (z (sym e)), λ e. absurd (false≢true e.1))
last_exactly ((k, true) ∷ ts) n b o p z = (λ e. absurd (p.0 e), λ e. absurd (o.0 e.0))
last_exactly ((k, false) ∷ ts) n b o p z = last_exactly ts n b o.1 p.1 z
