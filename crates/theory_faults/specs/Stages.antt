-- Which stage finds a fault: each stage finds one exactly where its part of the check does not pass.
use Rattle.std.specs.Prelude.{◌≡◌, Bool, not, ◌&&◌, List, [], ℕ, zero, suc, ◌+◌, ◌-◌, ◌*◌, ◌≤◌, ◌<◌, length, replicate}
use Rattle.std.proofs.Math.Path.{refl}
use Rattle.std.proofs.Common.{sym, ap, ◌∙◌, true≢false, arith, eqb-true}
use Rattle.std.proofs.Math.Bool.{true, false, cond}
use Rattle.std.proofs.Math.Dec.{eqb}
use Rattle.std.proofs.lemmas.Bool.{eqb-false}
use Rattle.model.specs.Limits.{page_size, mark_bytes}
use Rattle.model.specs.Reading.{length_ok, page_of, kind_at, used_at}
use Rattle.model.specs.BeforeWalk.{settings_ok, trailer_of, trailer_fits, page_fits, pages_fit, page_count, before_walk}
use Rattle.model.specs.WalkTests.{tail_zero, record_of}
use Rattle.model.specs.Calls.Diagnose.{Fault, fault, no_fault, free_not_zero, bad_trailer, not_reached, settings_reason, pages_fault, been, Walk, on, stopped}
use Rattle.model.specs.Calls.Diagnose.{record_row, into, row_walk, unreached, walk_end, record_count, walk_fault, fault_of}
use Rattle.model.specs.Claims.{FirstAgainst}
use Rattle.theory_decoding.specs.Length.{length_says}
use Rattle.theory_check.specs.Sums.{sum}
use Rattle.theory_check.specs.Parts.{in_use_lem}
use Rattle.theory_check.specs.Steps.{named}
use Rattle.theory_check.specs.Walk.{State, state, Decoded, stop}
use Rattle.theory_check.specs.Check.{in_use, trailers_of, walk_of, walk_ok}
use Rattle.theory_check.specs.Before.{first_used, used_fits_lem, trailers_are, trailers_none, trailers_most}
use Rattle.theory_faults.specs.Tests.{record_long, record_some}
use Rattle.theory_faults.specs.Reached.{matches_none}
use Rattle.theory_faults.specs.Walk.{Alike, Agree, SomeBytes, record_agrees}

-- ── stage 2 ──

pub pages_stage : (img : List ℕ) (pages k p : ℕ) → (pages_fault img pages k p).stage ≡ cond {A = ℕ} (pages_fit img pages k p) 0 2
unfolding pages_fault pages_fit
pages_stage img pages zero p = refl
pages_stage img pages (suc k) p = go (page_fits pages p (page_of img p)) _ _ _ (pages_stage img pages k (suc p)) refl
  where
    go : (c d : Bool) (x y : Fault) → x.stage ≡ cond {A = ℕ} d 0 2 → y.stage ≡ 2 → (cond c x y).stage ≡ cond {A = ℕ} (c && d) 0 2
    go true d x y e f = e
    go false d x y e f = f

-- It is found on the first of these pages that is against the rules.
pub pages_first : (img : List ℕ) (pages k p : ℕ) → (pages_fault img pages k p).stage ≡ 2
    → (p ≤ (pages_fault img pages k p).page) × ((pages_fault img pages k p).page < p + k)
    × (page_fits pages (pages_fault img pages k p).page (page_of img (pages_fault img pages k p).page) ≡ false)
    × ((q : ℕ) → p ≤ q → q < (pages_fault img pages k p).page → page_fits pages q (page_of img q) ≡ true)
unfolding pages_fault
pages_first img pages zero p e = absurd (omega arith)
pages_first img pages (suc k) p e = go (page_fits pages p (page_of img p)) refl (pages_first img pages k (suc p)) e
  where
    later : Fault
    later = pages_fault img pages k (suc p)

    own : Fault
    own = fault 2 p (cond (trailer_fits pages p (trailer_of (page_of img p))) free_not_zero bad_trailer)

    go : (b : Bool) → page_fits pages p (page_of img p) ≡ b
        → (later.stage ≡ 2 → (suc p ≤ later.page) × (later.page < suc p + k) × (page_fits pages later.page (page_of img later.page) ≡ false)
        × ((q : ℕ) → suc p ≤ q → q < later.page → page_fits pages q (page_of img q) ≡ true))
        → (cond b later own).stage ≡ 2
        → (p ≤ (cond b later own).page) × ((cond b later own).page < p + suc k)
        × (page_fits pages (cond b later own).page (page_of img (cond b later own).page) ≡ false)
        × ((q : ℕ) → p ≤ q → q < (cond b later own).page → page_fits pages q (page_of img q) ≡ true)
    go false f ih s = (omega arith, omega arith, f, λ q a b. absurd (omega arith))
    go true f ih s =
        let r = ih s in
        (omega (arith, r.0), omega (arith, r.1), r.2, λ q a b. by q a b (eqb q p) refl r.3)
      where
        by : (q : ℕ) → p ≤ q → q < later.page → (c : Bool) → eqb q p ≡ c
            → ((q : ℕ) → suc p ≤ q → q < later.page → page_fits pages q (page_of img q) ≡ true) → page_fits pages q (page_of img q) ≡ true
        by q a b true z g = ap (λ (n : ℕ). page_fits pages n (page_of img n)) (eqb-true q p z) ∙ f
        by q a b false z g = let y = eqb-false q p z in g q (omega arith) b

-- The walk's faults are stage 3's.
end_stages : (img : List ℕ) (w : Walk) → (walk_end img w).stage ≡ 2 → ⊥
end_stages img (stopped p r) e = omega arith
end_stages img (on b) e = go (eqb b.left 1) e
  where
    go : (c : Bool) → (cond c no_fault (fault 3 (unreached img b.reached (page_count img - 2) 2) not_reached)).stage ≡ 2 → ⊥
    go true e = omega arith
    go false e = omega arith

-- ── stage 3 ──

pub count_is : (img : List ℕ) (k p : ℕ) → record_count img k p ≡ sum (in_use img) k p
unfolding record_count
count_is img zero p = refl
count_is img (suc k) p = ap (λ (n : ℕ). in_use img p + n) (count_is img k (suc p))

end_stage : (img : List ℕ) (x : Walk) (v : State) → Agree x v → (walk_end img x).stage ≡ cond {A = ℕ} (eqb v.left 1) 0 3
end_stage img (stopped p r) v a = rw a
end_stage img (on b) v a = rw a.left (go (eqb v.left 1))
  where
    go : (c : Bool) → (cond c no_fault (fault 3 (unreached img b.reached (page_count img - 2) 2) not_reached)).stage ≡ cond {A = ℕ} c 0 3
    go true = refl
    go false = refl

-- Where the part before the walk passes, in an image of two pages at least.
module _ (img : List ℕ) (few : 2 ≤ page_count img) (passed : before_walk img ≡ true) where
  abbrev n : ℕ
  n = trailers_of img

  some : 1 ≤ n
  some = go (eqb n 0) refl
    where
      go : (c : Bool) → eqb n 0 ≡ c → 1 ≤ n
      go true e = absurd (true≢false (sym passed ∙ trailers_none img few (eqb-true n 0 e)))
      go false e = omega (arith, eqb-false n 0 e)

  abbrev start : State
  start = state n (replicate mark_bytes 0)

  begin : Alike start (been n [])
  begin = record { some = some; left = refl; reached = matches_none }

  used : SomeBytes img
  used p page e =
      let k = named img p page e in
      omega (arith, record_some img p passed (omega (arith, k.past)) (omega (arith, k.inside)) (in_use_lem img p k.kind))

  long : length (record_of img 1) ≡ used_at img page_size
  long = record_long img 1 (omega arith) (used_fits_lem img 1 passed (omega arith) few (first_used img few passed))

  -- the two walks, if the root of page 1 may be one
  abbrev walked : Bool → Walk
  walked rootOk = into (record_row img rootOk 1 1 (been n [])) (row_walk (16384 * (1 + page_count img)) img)

  abbrev checked : Bool → Decoded
  checked rootOk = cond (rootOk && tail_zero img 1) (walk_of img n) (stop start)

  same : (rootOk : Bool) → Agree (walked rootOk) (checked rootOk).walk
  unfolding walk_of
  same rootOk =
      let f = first_used img few passed in
      let u = record_some img 1 passed (omega arith) few f in
      let c = used_fits_lem img 1 passed (omega arith) few f in
      record_agrees img used (16384 * (1 + page_count img)) rootOk 1 1 start (been n []) begin (omega (arith, long)) (omega (arith, long, trailers_most img))

  pub walk_stage : (walk_fault img).stage ≡ cond {A = ℕ} (walk_ok img n) 0 3
  unfolding walk_fault walk_ok
  walk_stage =
      let root = eqb (kind_at img page_size) 1 in
      rw (count_is img (page_count img - 1) 1, ← trailers_are img passed)
      (end_stage img (walked root) (checked root).walk (same root) ∙ go (root && tail_zero img 1))
    where
      go : (c : Bool) → cond {A = ℕ} (eqb (cond c (walk_of img n) (stop start)).walk.left 1) 0 3 ≡ cond {A = ℕ} (c && eqb (walk_of img n).walk.left 1) 0 3
      go true = refl
      go false = refl

-- ── the whole ──

walk_stages : (img : List ℕ) → (walk_fault img).stage ≡ 2 → ⊥
unfolding walk_fault
walk_stages img e = end_stages img (into (record_row img (eqb (kind_at img page_size) 1) 1 1 (been (record_count img (page_count img - 1) 1) [])) (row_walk (16384 * (1 + page_count img)) img)) e

-- Stage 2 names the first page against the rules.
pub fault_first : (img : List ℕ) → (fault_of img).stage ≡ 2 → FirstAgainst img (fault_of img).page
unfolding fault_of
fault_first img e = go (settings_ok (page_of img 0) (page_count img)) (eqb pages.stage 0) refl e
  where
    pages : Fault
    pages = pages_fault img (page_count img) (page_count img - 1) 1

    go : (a b : Bool) → eqb pages.stage 0 ≡ b
        → (cond (not a) (fault 1 0 (settings_reason (page_of img 0))) (cond b (walk_fault img) pages)).stage ≡ 2
        → FirstAgainst img (cond (not a) (fault 1 0 (settings_reason (page_of img 0))) (cond b (walk_fault img) pages)).page
    go false b z e = absurd (omega arith)
    go true true z e = absurd (walk_stages img e)
    go true false z e =
        let r = pages_first img (page_count img) (page_count img - 1) 1 e in
        record { past = r.0; inside = omega (arith, r.0, r.1); against = r.2; before = r.3 }

-- the two tests before the walk: page 0, and the other pages
abbrev pub settings_pass : (img : List ℕ) → Bool
settings_pass img = settings_ok (page_of img 0) (page_count img)

abbrev pub pages_pass : (img : List ℕ) → Bool
pages_pass img = pages_fit img (page_count img) (page_count img - 1) 1

-- the stage by the three tests
abbrev pub stage_by : (settings pages walk : Bool) → ℕ
stage_by a b c = cond {A = ℕ} a (cond {A = ℕ} b (cond {A = ℕ} c 0 3) 2) 1

pub fault_stage : (img : List ℕ) → length_ok (length img) ≡ true → (fault_of img).stage ≡ stage_by (settings_pass img) (pages_pass img) (walk_ok img (trailers_of img))
unfolding fault_of before_walk
fault_stage img ok = go (settings_pass img) (pages_pass img) refl refl _ (pages_stage img (page_count img) (page_count img - 1) 1)
  where
    go : (a b : Bool) → settings_pass img ≡ a → pages_pass img ≡ b → (x : Fault) → x.stage ≡ cond {A = ℕ} b 0 2
        → (cond (not a) (fault 1 0 (settings_reason (page_of img 0))) (cond (eqb x.stage 0) (walk_fault img) x)).stage
        ≡ stage_by a b (walk_ok img (trailers_of img))
    go false b d e x s = refl
    go true false d e x s = rw s
    go true true d e x s = rw s (walk_stage img (length_says (length img) ok).few (rw (d, e)))
