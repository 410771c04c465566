-- The check by tests on the bytes is the check of the rules: 0 exactly where there is a reading, 1 and 3 as the table says.
use Rattle.std.specs.Prelude.{◌≡◌, refl, Bool, true, false, cond, List, ℕ, ◌<◌, length, get_or, eqb}
use Rattle.std.proofs.Common.{sym, ◌∙◌, eqb-true}
use Rattle.std.proofs.lemmas.Bool.{eqb-false}
use Rattle.model.specs.Reading.{length_ok}
use Rattle.model.specs.BeforeWalk.{before_walk}
use Rattle.model.specs.Calls.Check.{check_of}
use Rattle.model.specs.Claims.{BeforeWalkExact}
use Rattle.theory_calls.specs.Open.{passing, passes, not_passing}
use Rattle.theory_check.specs.Check.{trailers_of, walk_ok, check_by}
use Rattle.theory_check.specs.Before.{before_exact, before_alone}
use Rattle.theory_check.specs.Complete.{complete, before_reads}
use Rattle.theory_check.specs.Sound.{sound}

-- 0, 1 or 3, and 1 exactly for a wrong length.
numbers : (a b c : Bool) (n : ℕ) → cond {A = ℕ} a (cond {A = ℕ} b (cond {A = ℕ} c 0 3) 3) 1 ≡ n → (n ≡ 0 → ⊥) → n ≡ cond {A = ℕ} a 3 1
numbers true false c n e z = sym e
numbers true true true n e z = absurd (z (sym e))
numbers true true false n e z = sym e
numbers false b c n e z = sym e

wrong_by : (img : List ℕ) → (check_by img ≡ 0 → ⊥) → check_by img ≡ cond {A = ℕ} (length_ok (length img)) 3 1
unfolding check_by
wrong_by img z = numbers (length_ok (length img)) (before_walk img) (walk_ok img (trailers_of img)) (check_by img) refl z

pub exact : (img : List ℕ) → ((i : ℕ) → get_or img i 0 < 256) → check_by img ≡ check_of img
exact img all = go (eqb (check_by img) 0) refl
  where
    broken : (check_by img ≡ 0 → ⊥) → check_of img ≡ 0 → ⊥
    broken z e = let p = passing img e in z (complete img p.0.0 p.0.1 p.1)

    go : (b : Bool) → eqb (check_by img) 0 ≡ b → check_by img ≡ check_of img
    go true e =
        let z = eqb-true (check_by img) 0 e in
        let s = sound img all z in
        z ∙ sym (passes img s.0.0 s.0.1 s.1)
    go false e =
        let z = eqb-false (check_by img) 0 e in
        wrong_by img z ∙ sym (not_passing img (broken z))

-- What is claimed of the part before the walk.
pub before_walk_lem : (img : List ℕ) → BeforeWalkExact img
before_walk_lem img = record {
  exactly = before_exact img;
  alone = before_alone img;
  needed = λ e. let p = passing img e in before_reads img p.0.0 p.0.1 p.1;
}
