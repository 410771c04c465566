-- Laws of the part before the walk: what it says of each page, what it looks at, and that the loop over the pages finds it.
use Rattle.std.specs.Prelude.{◌≡◌, ◌↔◌, Bool}
use Rattle.std.proofs.Math.Path.{refl, ap, ap₂}
use Rattle.std.proofs.Common.{sym, ◌∙◌, arith}
use mathlib.Core.List.{List}
use Rattle.std.proofs.Math.Bool.{true, false, cond, ◌&&◌}
use Rattle.std.proofs.lemmas.Bool.{false≢true}
use Prim.Native.Nat.{ℕ, zero, suc, ◌+◌, ◌-◌, ◌*◌, ◌≤◌, ◌<◌}
use Rattle.std.proofs.Math.Dec.{eqb}
use borrow.Author.Tests.{eqb-true, eqb-false}
use Rattle.model.specs.Limits.{page_size, capacity}
use Rattle.model.specs.Reading.{page_of, used_at}
use Rattle.model.specs.BeforeWalk.{all_zero, settings_ok, trailer_of, is_free, trailer_fits, record_trailer, free_fits, page_fits, pages_fit, page_count, before_walk}
use Rattle.model.specs.Claims.{PagesKeep, AlikeBefore}
use Rattle.theory_decoding.specs.Valid.{both as and_both}
use Rattle.theory_check.specs.Facts.{both, arms, not_else}
use Rattle.theory_check.specs.Trailers.{trailer_says}
use Rattle.theory_check.specs.Parts.{page_two}
use Rattle.theory_check.specs.Sums.{sum, sum_same, sum_most}
use Rattle.theory_check.specs.Tests.{state_of}
use Rattle.theory_check.specs.Check.{in_use, trailers_of, scan_from}

-- ── page by page ──

module _ (img : List ℕ) (pages : ℕ) where
  abbrev Fit : ℕ → Type 0
  Fit q = page_fits pages q (page_of img q) ≡ true

  each_fits : (k p : ℕ) → pages_fit img pages k p ≡ true → (q : ℕ) → p ≤ q → q < p + k → Fit q
  unfolding pages_fit
  each_fits zero p e q l u = absurd (omega arith)
  each_fits (suc k) p e q l u =
      let t = and_both (page_fits pages p (page_of img p)) _ e in
      go (eqb p q) refl t.0 (each_fits k (suc p) t.1 q)
    where
      go : (b : Bool) → eqb p q ≡ b → Fit p → (suc p ≤ q → q < suc p + k → Fit q) → Fit q
      go true d f ih = rw (← eqb-true p q d) f
      go false d f ih = let n = eqb-false p q d in ih (omega arith) (omega arith)

  all_fit : (k p : ℕ) → ((q : ℕ) → p ≤ q → q < p + k → Fit q) → pages_fit img pages k p ≡ true
  unfolding pages_fit
  all_fit zero p h = refl
  all_fit (suc k) p h = rw (h p (omega arith) (omega arith)) (all_fit k (suc p) (λ q l u. h q (omega arith) (omega arith)))

-- a free page is all zero
free_zero : (s : List ℕ) → free_fits s ≡ true → is_free (trailer_of s) ≡ true → all_zero s ≡ true
unfolding free_fits
free_zero s e f = let z : cond true (all_zero s) true ≡ true = rw f at e in z

zero_free : (s : List ℕ) → (is_free (trailer_of s) ≡ true → all_zero s ≡ true) → free_fits s ≡ true
unfolding free_fits
zero_free s h = arms (is_free (trailer_of s)) {y' = true} h (λ _. refl) ∙ both (λ (b : Bool). b ≡ true) (is_free (trailer_of s)) refl refl

-- ── it passes exactly when page 0, each trailer and each free page keep the rules ──

pub before_says : (img : List ℕ) → before_walk img ≡ true → PagesKeep img
unfolding before_walk
before_says img e =
    let n = page_count img in
    let t = and_both (settings_ok (page_of img 0) n) _ e in
    let fit : (p : ℕ) → 1 ≤ p → p < n → (trailer_fits n p (trailer_of (page_of img p)) ≡ true) × (free_fits (page_of img p) ≡ true) =
    λ p l u. and_both _ _ (each_fits img n (n - 1) 1 t.1 p l (omega arith)) in
    record {
      settings = t.0;
      trailers = λ p l u. (fit p l u).0;
      free = λ p l u. free_zero (page_of img p) (fit p l u).1;
    }

pub before_each : (img : List ℕ) → settings_ok (page_of img 0) (page_count img) ≡ true
    → ((p : ℕ) → 1 ≤ p → p < page_count img → page_fits (page_count img) p (page_of img p) ≡ true) → before_walk img ≡ true
unfolding before_walk
before_each img s h = rw s (all_fit img (page_count img) (page_count img - 1) 1 (λ q l u. h q l (omega arith)))

before_holds : (img : List ℕ) → PagesKeep img → before_walk img ≡ true
before_holds img k = before_each img k.settings (λ p l u. rw (k.trailers p l u) (zero_free (page_of img p) (k.free p l u)))

pub before_exact : (img : List ℕ) → (before_walk img ≡ true) ↔ PagesKeep img
before_exact img = (before_says img, before_holds img)

-- page 1 is not free
not_free : (pages : ℕ) (t : List ℕ) → trailer_fits pages 1 t ≡ true → is_free t ≡ false
unfolding trailer_fits
not_free pages t e = go (is_free t) e
  where
    go : (b : Bool) → cond b false (record_trailer pages 1 t) ≡ true → b ≡ false
    go true e = absurd (false≢true e)
    go false e = refl

pub first_used : (img : List ℕ) → 2 ≤ page_count img → before_walk img ≡ true → is_free (trailer_of (page_of img 1)) ≡ false
first_used img few e = not_free (page_count img) (trailer_of (page_of img 1)) ((before_says img e).trailers 1 (omega arith) (omega arith))

-- ── it looks at page 0, at trailers and at free pages alone ──

fit_same : (a b : List ℕ) (pages k p : ℕ) → ((q : ℕ) → p ≤ q → q < p + k → page_fits pages q (page_of a q) ≡ page_fits pages q (page_of b q))
    → pages_fit a pages k p ≡ pages_fit b pages k p
unfolding pages_fit
fit_same a b pages zero p h = refl
fit_same a b pages (suc k) p h = ap₂ ◌&&◌ (h p (omega arith) (omega arith)) (fit_same a b pages k (suc p) (λ q l u. h q (omega arith) (omega arith)))

-- pages with the same trailer, and the same bytes if they are free
page_same : (pages p : ℕ) (s t : List ℕ) → trailer_of s ≡ trailer_of t → (is_free (trailer_of s) ≡ true → s ≡ t) → page_fits pages p s ≡ page_fits pages p t
unfolding free_fits
page_same pages p s t e f =
    ap₂ ◌&&◌ (ap (trailer_fits pages p) e) (arms (is_free (trailer_of s)) (λ z. ap all_zero (f z)) (λ _. refl) ∙ ap (λ x. cond (is_free x) (all_zero t) true) e)

module _ (a b : List ℕ) (s : AlikeBefore a b) where
  pub before_alone : before_walk a ≡ before_walk b
  unfolding before_walk
  before_alone =
      let n = page_count a in
      ap₂ ◌&&◌ (ap₂ settings_ok s.settings s.pages)
      (fit_same a b n (n - 1) 1 (λ q l u. page_same n q (page_of a q) (page_of b q) (s.trailers q l (omega arith)) (s.free q l (omega arith)))
      ∙ ap (λ (n : ℕ). pages_fit b n (n - 1) 1) s.pages)

  -- What it hands on to the walk is the same, too.
  pub trailers_alone : trailers_of a ≡ trailers_of b
  unfolding trailers_of
  trailers_alone =
      let n = page_count a in
      let used : sum (in_use a) (n - 1) 1 ≡ sum (in_use b) (n - 1) 1 =
      sum_same (in_use a) (in_use b) (n - 1) 1 (λ q l u. ap (λ (t : List ℕ). cond {A = ℕ} (is_free t) 0 1) (s.trailers q l (omega arith))) in
      rw (before_alone, used, s.pages)

-- ── what is handed on ──

pub trailers_are : (img : List ℕ) → before_walk img ≡ true → trailers_of img ≡ sum (in_use img) (page_count img - 1) 1
unfolding trailers_of
trailers_are img e = rw e

-- Page 1 is in use where it passes, so 0 is handed on only where it does not.
trailers_some : (img : List ℕ) → 2 ≤ page_count img → before_walk img ≡ true → 1 ≤ trailers_of img
unfolding trailers_of
trailers_some img few e = rw e (go (page_count img) few (in_use img) one)
  where
    one : in_use img 1 ≡ 1
    one = rw (first_used img few e)

    go : (n : ℕ) → 2 ≤ n → (f : ℕ → ℕ) → f 1 ≡ 1 → 1 ≤ sum f (n - 1) 1
    go zero h f o = absurd (omega arith)
    go (suc zero) h f o = absurd (omega arith)
    go (suc (suc n)) h f o = let one : suc (suc n) - 1 ≡ suc n = omega arith in rw one (omega (arith, o))

pub trailers_none : (img : List ℕ) → 2 ≤ page_count img → trailers_of img ≡ 0 → before_walk img ≡ false
trailers_none img few z = go (before_walk img) refl
  where
    go : (b : Bool) → before_walk img ≡ b → b ≡ false
    go true e = absurd (omega (arith, trailers_some img few e))
    go false e = refl

pub trailers_pass : (img : List ℕ) → (trailers_of img ≡ 0 → ⊥) → before_walk img ≡ true
unfolding trailers_of
trailers_pass img z = (not_else (before_walk img) {n = trailers_of img} (λ q. z (sym q)) refl).0

pub trailers_most : (img : List ℕ) → trailers_of img ≤ page_count img
unfolding trailers_of
trailers_most img =
    let n = page_count img in
    both (λ (x : ℕ). x ≤ n) (before_walk img)
    (omega (arith, sum_most (in_use img) (λ q. both (λ (x : ℕ). x ≤ 1) (is_free (trailer_of (page_of img q))) (omega arith) (omega arith)) (n - 1) 1)) (omega arith)

-- A page in use has its record before the trailer.
pub used_fits_lem : (img : List ℕ) (p : ℕ) → before_walk img ≡ true → 1 ≤ p → p < page_count img → is_free (trailer_of (page_of img p)) ≡ false
    → used_at img (page_size * p) ≤ capacity
used_fits_lem img p e low high used =
    let says = trailer_says (page_count img) p (page_of img p) ((before_says img e).trailers p low high) used in
    omega (arith, says.used, page_two img p (capacity + 2) (omega arith))

-- The loop over the pages finds it.
pub scan_is : (img : List ℕ) (pages k p n : ℕ) → scan_from img pages k p n ≡ cond (pages_fit img pages k p) (n + sum (in_use img) k p) 0
unfolding scan_from pages_fit state_of
scan_is img pages zero p n = omega arith
scan_is img pages (suc k) p n = go (page_fits pages p (page_of img p)) (is_free (trailer_of (page_of img p))) refl refl (scan_is img pages k (suc p))
  where
    go : (b f : Bool) → page_fits pages p (page_of img p) ≡ b → is_free (trailer_of (page_of img p)) ≡ f
        → ((m : ℕ) → scan_from img pages k (suc p) m ≡ cond (pages_fit img pages k (suc p)) (m + sum (in_use img) k (suc p)) 0)
        → scan_from img pages (suc k) p n ≡ cond (b && pages_fit img pages k (suc p)) (n + (cond f 0 1 + sum (in_use img) k (suc p))) 0
    go false f d e ih = rw d
    go true true d e ih = rw (d, e) (ih n ∙ ap (λ (m : ℕ). cond (pages_fit img pages k (suc p)) m 0) (omega arith))
    go true false d e ih = rw (d, e) (ih (n + 1) ∙ ap (λ (m : ℕ). cond (pages_fit img pages k (suc p)) m 0) (omega arith))

pub trailers_scan : (img : List ℕ)
    → trailers_of img ≡ cond (settings_ok (page_of img 0) (page_count img)) (scan_from img (page_count img) (page_count img - 1) 1 0) 0
unfolding trailers_of before_walk
trailers_scan img =
    let n = page_count img in
    go (settings_ok (page_of img 0) n) (pages_fit img n (n - 1) 1) _ _ (scan_is img n (n - 1) 1 0)
  where
    go : (a b : Bool) (x y : ℕ) → x ≡ cond b (0 + y) 0 → cond (a && b) y 0 ≡ cond a x 0
    go false b x y e = refl
    go true true x y e = omega (arith, e)
    go true false x y e = sym e
