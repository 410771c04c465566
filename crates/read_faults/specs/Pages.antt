-- The passes over the pages: the first that is against the rules by itself, and the first that is not reached.
use Rattle.std.proofs.Math.Path.{◌≡◌, refl}
use Rattle.std.proofs.Common.{sym, ap, ◌∙◌, add-one, length-drop, get_or-drop, take_all}
use Rattle.std.specs.Prelude.{Bool, cond, not, ◌&&◌, List, ℕ, suc, ◌+◌, ◌-◌, ◌*◌, ◌≤◌, ◌<◌, length, take, drop, eqb}
use Rattle.std.proofs.Math.Bool.{true, false, and-true}
use native.Mathlib.Omega.{arith}
use Rattle.std.proofs.Math.Nat.{add-sub_cancel_left}
use borrow.Author.Tests.{eq-eqb, ne_eqb}
use Rattle.model.specs.Limits.{page_size, capacity}
use Rattle.model.specs.Reading.{page_of, state_at}
use Rattle.model.specs.BeforeWalk.{all_zero, trailer_of, is_free, record_trailer, trailer_fits, free_fits, page_fits}
use Rattle.model.specs.Calls.Diagnose.{fault, no_fault, free_not_zero, bad_trailer, pages_fault, contains, unreached}
use Rattle.theory_check.specs.Facts.{both, not_else}
use Rattle.theory_check.specs.Parts.{page_free, page_long as length_page}
use Rattle.theory_check.specs.Tests.{state_of}
use Rattle.read_fault_nodes.specs.Rows.{part}
use Rattle.read_faults.specs.Answer.{free_trailer}

-- ── one page ──

module _ (pages p : ℕ) (s : List ℕ) (k : ℕ) (is : k ≡ state_of pages p s) where
  pub state_fits : (k ≡ 0 → ⊥) → page_fits pages p s ≡ true
  unfolding state_of
  state_fits z = (not_else (page_fits pages p s) {n = k} (λ q. z (sym q)) (sym is)).0

  pub state_wrong : k ≡ 0 → page_fits pages p s ≡ false
  unfolding state_of
  state_wrong z = go (page_fits pages p s) (sym is ∙ z)
    where
      go : (b : Bool) → ◌≡◌ {A = ℕ} (cond b (cond (is_free (trailer_of s)) 1 2) 0) 0 → b ≡ false
      go true e = absurd (both (λ (n : ℕ). n ≡ 0 → ⊥) (is_free (trailer_of s)) {x = 1} {y = 2} (λ q. omega (arith, q)) (λ q. omega (arith, q)) e)
      go false e = refl

-- Of the pages that are against the rules only one that says it is free has a trailer that is right.
pub wrong_trailer : (pages p : ℕ) (s : List ℕ) → page_fits pages p s ≡ false → trailer_fits pages p (trailer_of s) ≡ free_trailer p (trailer_of s)
unfolding trailer_fits free_fits
wrong_trailer pages p s e = go (is_free (trailer_of s)) e
  where
    go : (b : Bool) → let fits = cond b (not (eqb p 1) && all_zero (trailer_of s)) (record_trailer pages p (trailer_of s)) in
        (fits && cond b (all_zero s) true) ≡ false → fits ≡ (b && (not (eqb p 1) && all_zero (trailer_of s)))
    go true e = refl
    go false e = sym (and-true (record_trailer pages p (trailer_of s))) ∙ e

-- The trailer, as the code reads it.
pub trailer_byte : (s : List ℕ) → is_free (trailer_of s) ≡ eqb (state_at s 0) 0
trailer_byte s = ap (λ (n : ℕ). eqb n 0) (get_or-drop capacity s 0 0)

pub trailer_part : (s : List ℕ) → length s ≡ page_size → take (page_size - capacity) (drop capacity s) ≡ trailer_of s
trailer_part s e = take_all (page_size - capacity) (drop capacity s) (omega (arith, length-drop capacity s))

-- A page, as the code takes it from the image.
pub page_part : (img : List ℕ) (p : ℕ) → part img (page_size * p) (page_size * p + page_size) ≡ page_of img p
page_part img p = ap (λ (n : ℕ). take n (drop (page_size * p) img)) (add-sub_cancel_left (page_size * p) page_size)

pub page_long : (img : List ℕ) (p : ℕ) → page_size * p + page_size ≤ length img → length (part img (page_size * p) (page_size * p + page_size)) ≡ page_size
page_long img p h = ap length (page_part img p) ∙ length_page img p h

-- ── page by page ──

module _ (img : List ℕ) (pages p : ℕ) where
  pub pages_end : pages ≤ p → pages_fault img pages (pages - p) p ≡ no_fault
  unfolding pages_fault
  pages_end h = let e : pages - p ≡ 0 = omega arith in rw e

  pub reached_end : (reached : List ℕ) → pages ≤ p → unreached img reached (pages - p) p ≡ 0
  unfolding unreached
  reached_end ps h = let e : pages - p ≡ 0 = omega arith in rw e

  module _ (h : p < pages) where
    left : pages - p ≡ suc (pages - (p + 1))
    left = omega arith

    module _ (s : List ℕ) (page : s ≡ page_of img p) where
      pub pages_past : page_fits pages p s ≡ true → pages_fault img pages (pages - p) p ≡ pages_fault img pages (pages - (p + 1)) (p + 1)
      unfolding pages_fault
      pages_past e = rw (left, ← page, e) (ap (pages_fault img pages (pages - (p + 1))) (sym (add-one p)))

      pub pages_here : page_fits pages p s ≡ false
          → pages_fault img pages (pages - p) p ≡ fault 2 p (cond (free_trailer p (trailer_of s)) free_not_zero bad_trailer)
      unfolding pages_fault
      pages_here e = rw (left, ← page, e, wrong_trailer pages p s e)

    module _ (reached : List ℕ) where
      abbrev Later : Type 0
      Later = unreached img reached (pages - p) p ≡ unreached img reached (pages - (p + 1)) (p + 1)

      pub reached_free : state_at img (page_size * p) ≡ 0 → Later
      unfolding unreached
      reached_free e = rw (left, page_free img p, eq-eqb (state_at img (page_size * p)) 0 e) (ap (unreached img reached (pages - (p + 1))) (sym (add-one p)))

      module _ (used : state_at img (page_size * p) ≡ 0 → ⊥) where
        pub reached_past : contains reached p ≡ true → Later
        unfolding unreached
        reached_past e =
            rw (left, page_free img p, ne_eqb (state_at img (page_size * p)) 0 used, e) (ap (unreached img reached (pages - (p + 1))) (sym (add-one p)))

        pub reached_here : contains reached p ≡ false → unreached img reached (pages - p) p ≡ p
        unfolding unreached
        reached_here e = rw (left, page_free img p, ne_eqb (state_at img (page_size * p)) 0 used, e)
