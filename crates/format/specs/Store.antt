-- The image that format leaves: page 0, page 1, and zero bytes.
use Rattle.std.specs.Prelude.{◌≡◌, refl, Bool, true, false, cond, List, [], ◌∷◌, ◌++◌, ℕ, zero, suc, ◌+◌, ◌*◌, ◌-◌, ◌≤◌, length, take, drop, replicate, eqb}
use Rattle.std.proofs.Common.{sym, ap, ap₂, ◌∙◌, true≢false, arith, ne_eqb, length-append, length-drop, take_at, drop_at}
use Rattle.std.proofs.lemmas.List.{length-replicate}
use Rattle.model.specs.Limits.{page_size}
use Rattle.model.specs.Row.{Held, store, records, page_at, pages_from, Config, in_range, image, record_on}
use Rattle.theory_decoding.specs.Valid.{ranges_say}
use Rattle.base_numbers.specs.Over.{over, over_all}
use Rattle.format.specs.First.{first_root, root_page, first_page, zeros, zeros_split, length_zeros, Numbers}

-- ── zero bytes ──

pub whole : {page : List ℕ} {n : ℕ} → page ≡ zeros n → length page ≡ n
whole {page} {n} e = ap length e ∙ length_zeros n

take_zeros : (a b : ℕ) → take a (zeros (a + b)) ≡ zeros a
take_zeros a b = ap (take a) (zeros_split a b) ∙ take_at (zeros a) (zeros b) a (length_zeros a)

drop_zeros : (a b : ℕ) → drop a (zeros (a + b)) ≡ zeros b
drop_zeros a b = ap (drop a) (zeros_split a b) ∙ drop_at (zeros a) (zeros b) a (length_zeros a)

-- All of a list is cleared.
pub cleared : (img l : List ℕ) (n : ℕ) → l ≡ over 0 (replicate (length img) 0) img → length img ≡ n → l ≡ zeros n
unfolding zeros
cleared img l n e k = e ∙ over_all (replicate (length img) 0) img (length-replicate (length img) 0) ∙ ap (λ (z : ℕ). replicate z 0) k

-- ── the pages of a store with a root aggregate alone ──

abbrev first : (label : ℕ) → Held
first label = record_on 1 true 0 (first_root label)

other : (b : Bool) (x y : List ℕ) → b ≡ false → cond b x y ≡ y
other true x y e = absurd (true≢false e)
other false x y e = refl

free_page : (label q : ℕ) → 2 ≤ q → page_at (first label ∷ []) q ≡ zeros page_size
unfolding zeros
free_page label q h = other (eqb q 1) _ _ (ne_eqb q 1 (λ e. omega arith))

free_pages : (label n q : ℕ) → 2 ≤ q → pages_from (first label ∷ []) n q ≡ zeros (page_size * n)
unfolding zeros
free_pages label zero q h = refl
free_pages label (suc n) q h =
    let e : page_size + page_size * n ≡ page_size * suc n = omega arith in
    ap₂ ◌++◌ (free_page label q h) (free_pages label n (suc q) (omega arith)) ∙ sym (zeros_split page_size (page_size * n)) ∙ ap zeros e

-- The pages from 1 on.
root_pages : (label n : ℕ) → pages_from (records 0 (store (first_root label))) (suc n) 1 ≡ root_page label ++ zeros (page_size * n)
unfolding root_page
root_pages label n = ap (λ (z : List ℕ). root_page label ++ z) (free_pages label n 2 (omega arith))

first_image : (st : Config) (label : ℕ) → 2 ≤ st.pages → first_page st ++ (root_page label ++ zeros (page_size * (st.pages - 2))) ≡ image st (first_root label)
unfolding image first_page
first_image st label h =
    let e : suc (st.pages - 2) ≡ st.pages - 1 = omega arith in
    ap (λ (z : List ℕ). first_page st ++ z) (sym (root_pages label (st.pages - 2)))
    ∙ ap (λ (n : ℕ). first_page st ++ pages_from (records 0 (store (first_root label))) n 1) e

-- ── the writes ──

-- The settings' numbers fit their bytes.
pub numbers_of : (st : Config) → in_range st ≡ true → Numbers st
numbers_of st e =
    let r = ranges_say st e in
    record {
      pages = omega (arith, r.many);
      target = omega (arith, r.high);
      tolerance = omega (arith, r.tol);
      form = omega (arith, r.form);
      entries = r.entries;
    }

-- The image l is cleared,
module _ (st : Config) (l : List ℕ) (r : in_range st ≡ true) (z : l ≡ zeros (page_size * st.pages)) where
  pages_left : page_size * st.pages ≡ page_size + (page_size + page_size * (st.pages - 2))
  pages_left = omega (arith, (ranges_say st r).few)

  split : l ≡ zeros (page_size + (page_size + page_size * (st.pages - 2)))
  split = z ∙ ap zeros pages_left

  pub room : 2 * page_size ≤ length l
  room = omega (arith, whole z, (ranges_say st r).few)

  pub page_0 : take page_size l ≡ zeros page_size
  page_0 = ap (take page_size) split ∙ take_zeros page_size (page_size + page_size * (st.pages - 2))

  rest : drop page_size l ≡ zeros (page_size + page_size * (st.pages - 2))
  rest = ap (drop page_size) split ∙ drop_zeros page_size (page_size + page_size * (st.pages - 2))

  -- then its first page is p,
  module _ (p : List ℕ) (k : length p ≡ page_size) where
    behind : drop page_size (p ++ drop page_size l) ≡ zeros (page_size + page_size * (st.pages - 2))
    behind = drop_at p (drop page_size l) page_size k ∙ rest

    pub page_1 : take page_size (drop page_size (p ++ drop page_size l)) ≡ zeros page_size
    page_1 = ap (take page_size) behind ∙ take_zeros page_size (page_size * (st.pages - 2))

    pub room_1 : 2 * page_size ≤ length (p ++ drop page_size l)
    room_1 = simp (length-append, length-drop) (omega (arith, room))

    -- and its second page q.
    pub all_written : (label : ℕ) (q : List ℕ) → p ≡ first_page st → q ≡ root_page label
        → take page_size (p ++ drop page_size l) ++ (q ++ drop page_size (drop page_size (p ++ drop page_size l))) ≡ image st (first_root label)
    all_written label q e f =
        ap₂ ◌++◌ (take_at p (drop page_size l) page_size k ∙ e) (ap₂ ◌++◌ f (ap (drop page_size) behind ∙ drop_zeros page_size (page_size * (st.pages - 2))))
        ∙ first_image st label (ranges_say st r).few
