-- The walk from page 1 to its end, and the stages together.
use Rattle.std.specs.Prelude.{◌≡◌, Bool, List, [], ℕ, ◌+◌, ◌-◌, ◌*◌, ◌≤◌, ◌<◌, length, get_or, replicate, Result, Ok, Err}
use Rattle.std.proofs.Math.Path.{refl, sym}
use Rattle.std.proofs.Common.{ap, ◌∙◌, arith, eq-eqb, ne_eqb, eqb-true}
use Rattle.std.proofs.Math.Bool.{true, false, cond}
use Rattle.std.proofs.Math.Dec.{eqb}
use Rattle.std.proofs.lemmas.Bool.{eqb-false}
use Rattle.model.specs.Limits.{page_size, mark_bytes}
use Rattle.model.specs.Reading.{length_ok, used_at, kind_at, page_of}
use Rattle.model.specs.BeforeWalk.{settings_ok, pages_fit, page_count, before_walk}
use Rattle.model.specs.Calls.Diagnose.{fault, no_fault, been, settings_reason, pages_fault, not_reached, unreached, walk_end, record_count, walk_fault}
use Rattle.model.specs.Calls.Diagnose.{fault_of, diagnosis, diagnose_of}
use Rattle.model.specs.Reasons.{reason_number}
use Rattle.model.specs.Calls.Check.{check_of}
use Rattle.model.specs.Answers.{not_passed}
use Rattle.theory_decoding.specs.Valid.{both as and_both}
use Rattle.theory_check.specs.Check.{trailers_of, check_by}
use Rattle.theory_check.specs.Before.{first_used, used_fits_lem, trailers_are, trailers_most}
use Rattle.theory_check.specs.Exact.{exact}
use Rattle.theory_faults.specs.Fuel.{record_fuel}
use Rattle.theory_faults.specs.Reached.{Matches, matches_none}
use Rattle.theory_faults.specs.Stages.{count_is, pages_stage}
use Rattle.theory_faults.specs.Tests.{record_some, record_long}
use Rattle.theory_faults.specs.Exact.{no_fault_lem, some_fault}
use Rattle.theory_decoding.specs.Length.{length_says}
use Rattle.read_fault_nodes.specs.declared.Stop.{Stop}
use Rattle.read_fault_nodes.specs.Rows.{Holds, record_on, Ended, record_walk, Ends}
use Rattle.read_faults.specs.Answer.{answer}

-- ── before the walk ──

pub first_holds : (img : List ℕ) → length_ok (length img) ≡ true → before_walk img ≡ true → Holds img 1
first_holds img l e =
    let k = length_says (length img) l in
    record {
      few = omega arith;
      on = omega (arith, k.few, k.whole);
      used = used_fits_lem img 1 e (omega arith) (omega (arith, k.few)) (first_used img k.few e);
    }

pub count_trailers : (img : List ℕ) → before_walk img ≡ true → trailers_of img ≡ record_count img (page_count img - 1) 1
count_trailers img e = trailers_are img e ∙ sym (count_is img (page_count img - 1) 1)

-- ── the walk ──

module _ (img : List ℕ) (l : length_ok (length img) ≡ true) (passed : before_walk img ≡ true) where
  few : 2 ≤ page_count img
  few = (length_says (length img) l).few

  -- the record of page 1 has some bytes
  pub first_some : 1 ≤ used_at img page_size
  first_some = omega (arith, record_some img 1 passed (omega arith) few (first_used img few passed))

  module _ (n : ℕ) (is : n ≡ record_count img (page_count img - 1) 1) {r : Result ℕ Stop} {m : List ℕ}
      (e : Ends (record_walk img n) (replicate mark_bytes 0) m r) where
    ended : Ended (record_walk img n []) r m
    ended = e [] matches_none

    -- the definition's fuel is enough
    walked : walk_fault img ≡ walk_end img (record_walk img n [])
    unfolding walk_fault record_on
    walked =
        let h = first_holds img l passed in
        rw (← is)
        (ap (walk_end img) (record_fuel (16384 * (1 + page_count img)) img (eqb (kind_at img page_size) 1) 1 1 (been n [])
        (omega (arith, record_long img 1 h.on h.used, h.used, is, count_trailers img passed, trailers_most img))))

  module _ (n : ℕ) (is : n ≡ record_count img (page_count img - 1) 1) {m : List ℕ} where
    pub walk_stops : {s : Stop} → Ends (record_walk img n) (replicate mark_bytes 0) m (Err s) → walk_fault img ≡ fault 3 s.page (reason_number s.reason)
    walk_stops e = walked n is e ∙ rw (ended n is e).same

    pub walk_all : {left : ℕ} → Ends (record_walk img n) (replicate mark_bytes 0) m (Ok left) → left ≡ 1 → walk_fault img ≡ no_fault
    walk_all {left} e a = walked n is e ∙ rw ((ended n is e).same, eq-eqb left 1 a)

    pub walk_some : {left : ℕ} → Ends (record_walk img n) (replicate mark_bytes 0) m (Ok left) → (left ≡ 1 → ⊥) → (p : ℕ)
        → ((reached : List ℕ) → Matches m reached → p ≡ unreached img reached (page_count img - 2) 2) → walk_fault img ≡ fault 3 p not_reached
    walk_some {left} e a p f = let d = ended n is e in walked n is e ∙ rw (d.same, ne_eqb left 1 a, ← f d.reached d.matches)

-- ── the stages ──

module _ (img : List ℕ) where
  pub fault_settings : settings_ok (page_of img 0) (page_count img) ≡ false → fault_of img ≡ fault 1 0 (settings_reason (page_of img 0))
  unfolding fault_of
  fault_settings e = rw e

  pub fault_pages : settings_ok (page_of img 0) (page_count img) ≡ true → before_walk img ≡ false
      → fault_of img ≡ pages_fault img (page_count img) (page_count img - 1) 1
  unfolding fault_of before_walk
  fault_pages e b =
      let f : pages_fit img (page_count img) (page_count img - 1) 1 ≡ false = rw e at b in
      rw (e, pages_stage img (page_count img) (page_count img - 1) 1, f)

  pub fault_walk : before_walk img ≡ true → fault_of img ≡ walk_fault img
  unfolding fault_of before_walk
  fault_walk b =
      let t = and_both (settings_ok (page_of img 0) (page_count img)) _ b in
      rw (t.0, pages_stage img (page_count img) (page_count img - 1) 1, t.1)

-- ── the number ──

module _ (img : List ℕ) (all : (i : ℕ) → get_or img i 0 < 256) where
  pub diagnosed : length_ok (length img) ≡ true → answer (fault_of img) ≡ diagnose_of img
  unfolding diagnose_of
  diagnosed ok = go (eqb (fault_of img).stage 0) refl
    where
      go : (b : Bool) → eqb (fault_of img).stage 0 ≡ b
          → cond b (diagnosis 0 no_fault) (diagnosis not_passed (fault_of img))
          ≡ diagnosis (check_of img) (cond (eqb (check_of img) not_passed) (fault_of img) no_fault)
      go true e = rw (no_fault_lem img all ok (eqb-true (fault_of img).stage 0 e))
      go false e = rw (some_fault img all ok (eqb-false (fault_of img).stage 0 e))

  pub misfit : length_ok (length img) ≡ false → diagnosis 1 no_fault ≡ diagnose_of img
  unfolding diagnose_of check_by
  misfit e =
      let one : check_of img ≡ 1 = sym (exact img all) ∙ rw e in
      rw one
