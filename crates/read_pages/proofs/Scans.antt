-- The pass over the pages: one turn of its loop, and its end.
use Rattle.std.specs.Prelude.{◌≡◌, refl, Bool, true, false, cond, ◌&&◌, Option, None, Some, List, ℕ, suc, ◌+◌, ◌-◌, ◌*◌, ◌≤◌, ◌<◌, length, take, drop, unwrap_or, is_some}
use Rattle.std.proofs.Common.{arith, sym, ap, ◌∙◌, add-one}
use Rattle.std.proofs.Math.Seq.{length-take-le}
use Rattle.model.specs.Limits.{page_size}
use Rattle.model.specs.Reading.{length_ok, page_of}
use Rattle.theory_decoding.specs.Length.{length_says}
use Rattle.model.specs.BeforeWalk.{settings_ok, page_fits, pages_fit, page_count, before_walk, is_free, trailer_of}
use Rattle.theory_check.specs.Tests.{state_of}
use Rattle.theory_check.specs.Sums.{sum}
use Rattle.theory_check.specs.Check.{in_use, trailers_of, scan_from}
use Rattle.theory_check.specs.Before.{scan_is, trailers_scan}
use Rattle.read_pages.specs.declared.PageState.{PageState}
use Rattle.read_pages.specs.declared.PageState.TheVariants.{Broken, Free, Record}
use Rattle.read_pages.specs.Counts.{state_number, count_from}

module _ (img : List ℕ) (pages p n : ℕ) where
  pub count_end : pages ≤ p → Some n ≡ count_from img pages (pages - p) p n
  unfolding pages_fit
  count_end h = let e : pages - p ≡ 0 = omega arith in rw e (ap Some (omega arith))

  -- What the pages from p on come to, by the state of page p.
  abbrev pub after : PageState → Option ℕ
  after Broken = None
  after Free = count_from img pages (pages - (p + 1)) (p + 1) n
  after Record = count_from img pages (pages - (p + 1)) (p + 1) (n + 1)

  -- Of the pages after p, whether they are right, and how many records there are.
  turn : (b f x : Bool) (k m : ℕ) (s : PageState) → state_number s ≡ cond b (cond f 1 2) 0 → k ≡ cond {A = ℕ} f 0 1
      → count_from img pages (pages - (p + 1)) (p + 1) n ≡ cond x (Some (n + m)) None
      → count_from img pages (pages - (p + 1)) (p + 1) (n + 1) ≡ cond x (Some (n + 1 + m)) None
      → cond (b && x) (Some (n + (k + m))) None ≡ after s
  turn false f x k m Broken q e past on = refl
  turn false f x k m Free q e past on = absurd (omega (arith, q))
  turn false f x k m Record q e past on = absurd (omega (arith, q))
  turn true true x k m Broken q e past on = absurd (omega (arith, q))
  turn true true x k m Free q e past on = ap (λ (z : ℕ). cond x (Some z) None) (omega (arith, e)) ∙ sym past
  turn true true x k m Record q e past on = absurd (omega (arith, q))
  turn true false x k m Broken q e past on = absurd (omega (arith, q))
  turn true false x k m Free q e past on = absurd (omega (arith, q))
  turn true false x k m Record q e past on = ap (λ (z : ℕ). cond x (Some z) None) (omega (arith, e)) ∙ sym on

  pub count_turn : (s : PageState) → state_number s ≡ state_of pages p (take (page_size * p + page_size - page_size * p) (drop (page_size * p) img)) → p < pages
      → count_from img pages (pages - p) p n ≡ after s
  unfolding state_of pages_fit
  count_turn s is h =
      let left : pages - p ≡ suc (pages - (p + 1)) = omega arith in
      let whole : page_size * p + page_size - page_size * p ≡ page_size = omega arith in
      let on : (m : ℕ) → count_from img pages (pages - (p + 1)) (p + 1) m ≡ count_from img pages (pages - (p + 1)) (suc p) m =
      (λ m. ap (λ (q : ℕ). count_from img pages (pages - (p + 1)) q m) (add-one p)) in
      rw left (turn (page_fits pages p (page_of img p)) (is_free (trailer_of (page_of img p))) _ _ _ s (rw whole at is) refl (on n) (on (n + 1)))

-- The count as a number, 0 where there is none, is what the loop over the pages finds.
pub scan_counted : (img : List ℕ) (pages k p n : ℕ) (r : Option ℕ) → r ≡ count_from img pages k p n → unwrap_or r 0 ≡ scan_from img pages k p n
scan_counted img pages k p n r is = rw is (go (pages_fit img pages k p) (n + sum (in_use img) k p)) ∙ sym (scan_is img pages k p n)
  where
    go : (b : Bool) (m : ℕ) → unwrap_or (cond b (Some m) None) 0 ≡ cond b m 0
    go true m = refl
    go false m = refl

-- ── the whole, where page 0 passes ──

module _ (img : List ℕ) where
  pub first_long : length_ok (length img) ≡ true → length (take page_size img) ≡ page_size
  first_long ok = let l = length_says (length img) ok in length-take-le page_size img (omega (arith, l.whole, l.few))

  pub none_passed : settings_ok (page_of img 0) (page_count img) ≡ false → (0 ≡ trailers_of img) × (false ≡ before_walk img)
  unfolding trailers_of before_walk
  none_passed e = rw e (refl, refl)

  pub pages_scanned : settings_ok (page_of img 0) (page_count img) ≡ true → scan_from img (page_count img) (page_count img - 1) 1 0 ≡ trailers_of img
  pages_scanned e = sym (trailers_scan img ∙ ap (λ (b : Bool). cond b (scan_from img (page_count img) (page_count img - 1) 1 0) 0) e)

  pub pages_passed : settings_ok (page_of img 0) (page_count img) ≡ true → (r : Option ℕ) → r ≡ count_from img (page_count img) (page_count img - 1) 1 0
      → is_some r ≡ before_walk img
  unfolding before_walk
  pages_passed e r is = rw (is, e) (go (pages_fit img (page_count img) (page_count img - 1) 1) (0 + sum (in_use img) (page_count img - 1) 1))
    where
      go : (b : Bool) (m : ℕ) → is_some (cond {A = Option ℕ} b (Some m) None) ≡ b
      go true m = refl
      go false m = refl

  -- Both, of any such count. Nothing here cites it: other crates may (DECISIONS 179).
  pub pages_counted : settings_ok (page_of img 0) (page_count img) ≡ true → (r : Option ℕ) → r ≡ count_from img (page_count img) (page_count img - 1) 1 0
      → (unwrap_or r 0 ≡ trailers_of img) × (is_some r ≡ before_walk img)
  pages_counted e r is = (scan_counted img (page_count img) (page_count img - 1) 1 0 r is ∙ pages_scanned e, pages_passed e r is)
