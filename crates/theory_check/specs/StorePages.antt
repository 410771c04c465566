-- The image of a valid store passes the part before the walk, which finds as many pages in use as there are records.
use Rattle.std.specs.Prelude.{◌≡◌, refl, Bool, true, false, cond, ◌||◌, List, [], ◌∷◌, ◌++◌, map, ℕ, suc, ◌+◌, ◌-◌, ◌≤◌, ◌<◌, leb, eqb}
use Rattle.std.proofs.Common.{◌∙◌, arith, eqb-true, eq-eqb, ne_eqb, le-leb, leb-false, lt-ltb}
use Rattle.std.proofs.lemmas.Bool.{eqb-false}
use Rattle.model.specs.Limits.{most_pages}
use Rattle.model.specs.Row.{Row, nil, agg, lit, rec, store, Held, records, record_page, page_at, image, count, Config, record_on}
use Rattle.model.specs.Reading.{page_of}
use Rattle.model.specs.BeforeWalk.{trailer_of, is_free, page_fits}
use Rattle.model.specs.Calls.Records.{times}
use Rattle.theory_rows.specs.Fits.{Fits, Valid}
use Rattle.theory_rows.specs.Image.{AllFit, all_fit, image_page, once}
use Rattle.theory_decoding.specs.Valid.{names_own}
use Rattle.theory_decoding.specs.Steps.{record_count, named_inside}
use Rattle.theory_places.specs.Pages.{pages_count, pages_once}
use Rattle.theory_check.specs.Facts.{bit_low, not_one}
use Rattle.theory_check.specs.Check.{in_use}
use Rattle.theory_check.specs.Pages.{free_fits_lem, record_fits_lem, record_used}
use Rattle.theory_check.specs.Sums.{sum, sum_add, sum_none, sum_same, only, sum_only}
use Rattle.theory_check.specs.Images.{Each, each-++}

-- ── sums ──

-- each record is on one of the pages
sum_count : (k p : ℕ) (r : Row) → ((q : ℕ) → 1 ≤ count q r → (p ≤ q) × (q < p + k)) → sum (λ q. count q r) k p ≡ record_count r
sum_count k p nil h = sum_none k p
sum_count k p (agg l cs rest) h =
    omega (
      arith,
      sum_add (λ q. count q cs) (λ q. count q rest) k p,
      sum_count k p cs (λ q g. h q (omega arith)),
      sum_count k p rest
          (λ q g. h q (omega arith)),
    )
sum_count k p (lit l c rest) h = sum_count k p rest h
sum_count k p (rec x s r rest) h =
    let i = h x (names_own x s r rest) in
    omega (
      arith,
      sum_add (λ q. only x q + count q r) (λ q. count q rest) k p,
      sum_add (only x) (λ q. count q r) k p,
      sum_only x k p i.0 i.1,
      sum_count k p r (λ q g. h q (omega arith)),
      sum_count k p rest (λ q g. h q (omega arith)),
    )

-- ── the pages in use ──

abbrev page_times : ℕ → List Held → ℕ
page_times q hs = times q (map (λ (h : Held). h.page) hs)

used_at_lem : (hs : List Held) → AllFit hs → (q : ℕ) → page_times q hs ≤ 1 → cond (is_free (trailer_of (page_at hs q))) 0 1 ≡ page_times q hs
used_at_lem [] f q l = refl
used_at_lem (h ∷ hs) f q l = go (eqb q h.page) l (used_at_lem hs f.1 q)
  where
    go : (b : Bool) → cond b 1 0 + page_times q hs ≤ 1 → (page_times q hs ≤ 1 → cond (is_free (trailer_of (page_at hs q))) 0 1 ≡ page_times q hs)
        → cond (is_free (trailer_of (cond b (record_page h) (page_at hs q)))) 0 1 ≡ cond b 1 0 + page_times q hs
    go true l i = rw (record_used h f.0) (omega arith)
    go false l i = omega (arith, i (omega arith))

-- ── each page keeps the rules ──

-- The page that a record is on keeps the rules by itself.
abbrev Keeps : (pages : ℕ) → Held → Type 0
Keeps pages h = page_fits pages h.page (record_page h) ≡ true

-- The records of a row, whose own record on page h is not among them: each is on a page of its own, so it does not hold itself.
keeps_records : (pages : ℕ) → pages ≤ most_pages → (h : ℕ) (row : Row) → Fits row → 1 ≤ h → h < pages → count h row ≡ 0 → ((q : ℕ) → count q row ≤ 1)
    → ((q : ℕ) → 1 ≤ count q row → (2 ≤ q) × (q < pages)) → Each (Keeps pages) (records h row)
keeps_records pages m h nil f a b o c r = tt
keeps_records pages m h (agg l cs rest) f a b o c r =
    each-++ (Keeps pages) (records h cs) (records h rest)
    (keeps_records pages m h cs f.1 a b (omega arith) (λ q. omega (arith, c q)) (λ q g. r q (omega arith)))
    (keeps_records pages m h rest f.2 a b (omega arith) (λ q. omega (arith, c q)) (λ q g. r q (omega arith)))
keeps_records pages m h (lit l x rest) f a b o c r = keeps_records pages m h rest f.3 a b o c r
keeps_records pages m h (rec p s x rest) f a b o c r =
    let low = r p (names_own p s x rest) in
    let alone : cond true 1 0 + count p x + count p rest ≤ 1 = rw (eq-eqb p p refl) at (c p) in
    let later : eqb p 1 ≡ false = ne_eqb p 1 (λ e. omega arith) in
    let other : eqb h p ≡ false = not_one (eqb h p) (omega arith) in (
      record_fits_lem (record_on p s h x) f.0.fits (omega arith) pages (rw later (le-leb _ 1 (bit_low s)))
          (rw (later, le-leb 1 h a, lt-ltb h pages b, other)),
      each-++ (Keeps pages) (records p x) (records h rest)
          (keeps_records pages m p x f.1 (omega arith) low.1 (omega arith) (λ q. omega (arith, c q)) (λ q g. r q (omega arith)))
          (keeps_records pages m h rest f.2 a b (omega arith) (λ q. omega (arith, c q)) (λ q g. r q (omega arith))),
    )

keeps_at : (pages : ℕ) (hs : List Held) → Each (Keeps pages) hs → (q : ℕ) → (q ≡ 1 → ⊥) → page_fits pages q (page_at hs q) ≡ true
keeps_at pages [] k q n = free_fits_lem pages q n
keeps_at pages (h ∷ hs) k q n = go (eqb q h.page) refl (keeps_at pages hs k.1 q n)
  where
    go : (b : Bool) → eqb q h.page ≡ b → page_fits pages q (page_at hs q) ≡ true → page_fits pages q (cond b (record_page h) (page_at hs q)) ≡ true
    go true e ih = rw (eqb-true q h.page e) k.0
    go false e ih = ih

module _ (st : Config) (root : Row) (v : Valid st root) where
  -- A page that a proxy names is a page of the image past page 1.
  pub named_range : (q : ℕ) → 1 ≤ count q root → (2 ≤ q) × (q < st.pages)
  named_range q h = go (leb q 1) (leb st.pages q) refl refl (v.placed q)
    where
      go : (a b : Bool) → leb q 1 ≡ a → leb st.pages q ≡ b → count q root ≤ cond (a || b) 0 1 → (2 ≤ q) × (q < st.pages)
      go true b d e l = absurd (omega arith)
      go false true d e l = absurd (omega arith)
      go false false d e l = omega (arith, leb-false q 1 d, leb-false st.pages q e)

  others : Each (Keeps st.pages) (records 1 root ++ [])
  others =
      each-++ (Keeps st.pages) (records 1 root) []
      (keeps_records st.pages v.ranges.many 1 root v.rows.1 (omega arith) (omega (arith, v.ranges.few))
      (omega (arith, pages_once st root v 1, pages_count root 1)) (λ q. omega (arith, once st root v q)) named_range)
      tt

  -- Each page from 1 on keeps the rules by itself.
  pub image_fits : (q : ℕ) → 1 ≤ q → q < st.pages → page_fits st.pages q (page_of (image st root) q) ≡ true
  image_fits q a b = rw (image_page st root v q a b) (go (eqb q 1) refl)
    where
      go : (t : Bool) → eqb q 1 ≡ t → page_fits st.pages q (cond t (record_page (record_on 1 true 0 root)) (page_at (records 1 root ++ []) q)) ≡ true
      go true e = rw (eqb-true q 1 e) (record_fits_lem (record_on 1 true 0 root) v.rows.0.fits (omega arith) st.pages refl refl)
      go false e = keeps_at st.pages (records 1 root ++ []) others q (eqb-false q 1 e)

  -- The pages in use are those of the records.
  pub image_used : sum (in_use (image st root)) (st.pages - 1) 1 ≡ suc (record_count root)
  image_used =
      let k = st.pages - 1 in
      let n = v.ranges.few in
      let used : (q : ℕ) → 1 ≤ q → q < 1 + k → in_use (image st root) q ≡ count q (store root) =
      λ q a b. rw (image_page st root v q a (omega arith))
      (used_at_lem (records 0 (store root)) (all_fit st root v) q (pages_once st root v q) ∙ pages_count root q) in
      sum_same (in_use (image st root)) (λ q. count q (store root)) k 1 used
      ∙ omega (arith, sum_count k 1 (store root) (λ q h. omega (arith, named_inside st root v q h)))
