-- A fault is found exactly where the check does not pass.
use Rattle.std.specs.Prelude.{◌≡◌, refl, ◌↔◌, Bool, false, cond, ◌&&◌, List, ℕ, ◌<◌, get_or, eqb}
use Rattle.std.proofs.Math.Path.{sym, ap}
use Rattle.std.proofs.Common.{subst, ◌∙◌, true≢false, eqb-true, ne_eqb}
use Rattle.std.proofs.Math.Bool.{true}
use Rattle.std.proofs.lemmas.Bool.{false≢true, eqb-false}
use native.Mathlib.Omega.{arith}
use Rattle.std.proofs.Math.ListN.{length}
use Rattle.model.specs.Reading.{length_ok}
use Rattle.model.specs.BeforeWalk.{before_walk}
use Rattle.model.specs.Answers.{not_passed}
use Rattle.model.specs.Calls.Check.{check_of}
use Rattle.model.specs.Calls.Diagnose.{no_fault, fault_of, diagnosis, diagnose_of}
use Rattle.model.specs.Calls.Diagnose.{Diagnosis}
use Rattle.model.specs.Claims.{FirstAgainst, DiagnoseExact}
use Rattle.theory_calls.specs.Open.{check_exact}
use Rattle.theory_check.specs.Check.{trailers_of, walk_ok, check_by}
use Rattle.theory_check.specs.Exact.{exact}
use Rattle.theory_faults.specs.Stages.{settings_pass, pages_pass, stage_by, fault_stage, fault_first}

-- ── numbers ──

-- The check's number by the three tests, for an image of the right length.
abbrev number_by : (settings pages walk : Bool) → ℕ
number_by a b c = cond {A = ℕ} (a && b) (cond {A = ℕ} c 0 3) 3

-- What the stage and the number say of each other.
record Told (settings before : Bool) (stage number : ℕ) : Type 0 where
  passes : stage ≡ 0 → number ≡ 0
  fails : (stage ≡ 0 → ⊥) → number ≡ 3
  first : number ≡ 3 → (stage ≡ 1) ↔ (settings ≡ false)
  walk : number ≡ 3 → (stage ≡ 3) ↔ (before ≡ true)

neither : {P Q : Type 0} → (P → ⊥) → (Q → ⊥) → P ↔ Q
neither f g = (λ p. absurd (f p), λ q. absurd (g q))

told : (a b c : Bool) → Told a (a && b) (stage_by a b c) (number_by a b c)
told true true true = record { passes = λ _. refl; fails = λ z. absurd (z refl); first = λ e. absurd (omega arith); walk = λ e. absurd (omega arith) }
told true true false = record { passes = λ e. absurd (omega arith); fails = λ _. refl; first = λ _. neither (λ e. omega arith) true≢false; walk = λ _. (λ _. refl, λ _. refl) }
told true false c = record { passes = λ e. absurd (omega arith); fails = λ _. refl; first = λ _. neither (λ e. omega arith) true≢false; walk = λ _. neither (λ e. omega arith) false≢true }
told false b c = record { passes = λ e. absurd (omega arith); fails = λ _. refl; first = λ _. (λ _. refl, λ _. refl); walk = λ _. neither (λ e. omega arith) false≢true }

-- ── faults ──

module _ (img : List ℕ) (all : (i : ℕ) → get_or img i 0 < 256) (ok : length_ok (length img) ≡ true) where
  number_is : check_of img ≡ number_by (settings_pass img) (pages_pass img) (walk_ok img (trailers_of img))
  unfolding check_by before_walk
  number_is = sym (exact img all) ∙ rw ok

  tells : Told (settings_pass img) (before_walk img) (fault_of img).stage (check_of img)
  unfolding before_walk
  tells = rw (fault_stage img ok, number_is) (told (settings_pass img) (pages_pass img) (walk_ok img (trailers_of img)))

  pub no_fault_lem : (fault_of img).stage ≡ 0 → check_of img ≡ 0
  no_fault_lem = tells.passes

  pub some_fault : ((fault_of img).stage ≡ 0 → ⊥) → check_of img ≡ 3
  some_fault = tells.fails

-- ── the claim ──

module _ (img : List ℕ) where
  -- a fault is told of an image that does not pass, and of no other
  told_fault : check_of img ≡ not_passed → (diagnose_of img).stage ≡ (fault_of img).stage
  unfolding diagnose_of
  told_fault e = rw e

  told_none : (check_of img ≡ not_passed → ⊥) → diagnose_of img ≡ diagnosis (check_of img) no_fault
  unfolding diagnose_of
  told_none z = rw (ne_eqb (check_of img) not_passed z)

  told_page : check_of img ≡ not_passed → (diagnose_of img).page ≡ (fault_of img).page
  unfolding diagnose_of
  told_page e = rw e

  -- a stage is told where the number is 3 alone
  stage_told : ((diagnose_of img).stage ≡ 0 → ⊥) → check_of img ≡ not_passed
  stage_told z = go (eqb (check_of img) not_passed) refl
    where
      go : (b : Bool) → eqb (check_of img) not_passed ≡ b → check_of img ≡ not_passed
      go true e = eqb-true _ not_passed e
      go false e = absurd (z (ap (λ (d : Diagnosis). d.stage) (told_none (eqb-false _ not_passed e))))

  first_told : (diagnose_of img).stage ≡ 2 → FirstAgainst img (diagnose_of img).page
  first_told e =
      let n = stage_told (λ z. omega arith) in
      subst (FirstAgainst img) (sym (told_page n)) (fault_first img (sym (told_fault n) ∙ e))

  pub diagnose_exact : ((i : ℕ) → get_or img i 0 < 256) → DiagnoseExact img
  unfolding diagnose_of
  diagnose_exact all = record {
    found = λ ok. (no_fault_lem img all ok, λ e. passed ok e (eqb (fault_of img).stage 0) refl);
    number = refl;
    stage = (
      λ e n. let z = no_fault_lem img all (right n) (sym (told_fault n) ∙ e) in omega arith,
      λ z. ap (λ (d : Diagnosis). d.stage) (told_none z),
    );
    zeros = told_none;
    settings = λ e. rw (told_fault e) ((tells img all (right e)).first e);
    pages = first_told;
    walk = λ e. rw (told_fault e) ((tells img all (right e)).walk e);
  }
    where
      -- what is refused by 3 has the right length
      right : check_of img ≡ not_passed → length_ok (length img) ≡ true
      right e = ((check_exact img).broken.0 e).0

      passed : length_ok (length img) ≡ true → check_of img ≡ 0 → (c : Bool) → eqb (fault_of img).stage 0 ≡ c → (fault_of img).stage ≡ 0
      passed ok e true f = eqb-true _ 0 f
      passed ok e false f = absurd (omega (arith, some_fault img all ok (eqb-false _ 0 f)))
