-- The image of a valid store: each record stands on its page.
use Rattle.std.specs.Prelude.{◌≡◌, refl, Bool, true, false, cond, List, [], ◌∷◌, ◌++◌, eqb}
use Rattle.std.proofs.Common.{sym, subst, ◌∙◌, append_assoc, append-nil, eqb-true, eq-eqb, length-append, take_at}
use Rattle.std.proofs.Math.Path.{ap}
use Prim.Native.Nat.{ℕ, zero, suc, ◌+◌, ◌*◌, ◌-◌, ◌≤◌, ◌<◌}
use native.Mathlib.Omega.{arith}
use Rattle.std.proofs.Math.ListN.{length}
use Rattle.std.proofs.lemmas.List.{length-replicate}
use Rattle.std.proofs.Math.Seq.{drop-append-add}
use Rattle.model.specs.Limits.{page_size, capacity}
use Rattle.model.specs.Row.{Row, nil, agg, lit, rec, size, lone, record_size, bytes, record_bytes, header, Held, records, record_page, settings_page, page_at}
use Rattle.model.specs.Row.{pages_from, image, Config, store, count, outside, no_head, record_on}
use Rattle.theory_rows.specs.Fits.{Fits, Placed, Valid}
use Rattle.model.specs.Reading.{page_of}
use Rattle.theory_rows.specs.Laws.{length_bytes, cond_case}

-- Each record of a row stands on its page of a memory; h is the page of the record that the row is in.
abbrev pub Stored : (ℕ → List ℕ) → ℕ → Row → Type 0
Stored mem h nil = Unit {0}
Stored mem h (agg l cs rest) = Stored mem h cs × Stored mem h rest
Stored mem h (lit l c rest) = Stored mem h rest
Stored mem h (rec p s r rest) = (mem p ≡ record_page (record_on p s h r)) × Stored mem p r × Stored mem h rest

-- How often a list of records has a page.
abbrev tally : ℕ → List Held → ℕ
tally q [] = 0
tally q (h ∷ hs) = cond (eqb q h.page) 1 0 + tally q hs

tally-++ : (q : ℕ) (a b : List Held) → tally q (a ++ b) ≡ tally q a + tally q b
tally-++ q [] b = omega arith
tally-++ q (h ∷ a) b = rw (tally-++ q a b) (omega arith)

tally_records : (q h : ℕ) (r : Row) → tally q (records h r) ≡ count q r
tally_records q h nil = refl
tally_records q h (agg l cs rest) = rw (tally-++, tally_records q h cs, tally_records q h rest)
tally_records q h (lit l c rest) = tally_records q h rest
tally_records q h (rec p s r rest) = rw (tally-++ q (records p r) (records h rest), tally_records q p r, tally_records q h rest) (omega arith)

-- a page that the first list does not have
skip : (pre post : List Held) (q : ℕ) → tally q pre ≡ 0 → page_at (pre ++ post) q ≡ page_at post q
skip [] post q e = refl
skip (h ∷ pre) post q e = go (eqb q h.page) e (skip pre post q)
  where
    go : (b : Bool) → cond b 1 0 + tally q pre ≡ 0 → (tally q pre ≡ 0 → page_at (pre ++ post) q ≡ page_at post q)
        → cond b (record_page h) (page_at (pre ++ post) q) ≡ page_at post q
    go true e f = absurd (omega arith)
    go false e f = f (omega arith)

stored_in : (all : List Held) (h : ℕ) (row : Row) (pre post : List Held) → all ≡ pre ++ (records h row ++ post) → ((q : ℕ) → tally q pre + count q row ≤ 1)
    → Stored (page_at all) h row
stored_in all h nil pre post e d = tt
stored_in all h (agg l cs rest) pre post e d = (
  stored_in all h cs pre (records h rest ++ post) (e ∙ simp append_assoc) (λ q. omega (arith, d q)),
  stored_in all h rest (pre ++ records h cs) post (e ∙ simp append_assoc) (λ q. omega (arith, d q, tally-++ q pre (records h cs), tally_records q h cs)),
)
stored_in all h (lit l c rest) pre post e d = stored_in all h rest pre post e d
stored_in all h (rec p s r rest) pre post e d =
    let held : Held = record_on p s h r in
    let same : eqb p p ≡ true = eq-eqb p p refl in
    let first : tally p pre ≡ 0 = omega (arith, rw same at (d p)) in (
      ap (λ (a : List Held). page_at a p) e ∙ skip pre (held ∷ (records p r ++ records h rest ++ post)) p first ∙ rw same,
      stored_in all p r (pre ++ held ∷ []) (records h rest ++ post) (e ∙ simp append_assoc) (λ q. omega (arith, d q, tally-++ q pre (held ∷ []))),
      stored_in all h rest (pre ++ held ∷ records p r) post (e ∙ simp append_assoc)
          (λ q. omega (arith, d q, tally-++ q pre (held ∷ records p r), tally_records q p r)),
    )

-- ── pages are 4,096 bytes ──

pub length_record : (r : Row) → length (record_bytes r) ≡ record_size r
length_record r = go (lone r)
  where
    go : (b : Bool) → length (cond b (bytes r) (header 4 no_head (6 + size r) ++ bytes r)) ≡ cond b 0 6 + size r
    go true = omega (arith, length_bytes r)
    go false = omega (arith, length_bytes r)

pub length_record_page : (h : Held) → record_size h.row ≤ capacity → length (record_page h) ≡ page_size
length_record_page h f = simp (length-append, length-replicate, length_record) (omega arith)

abbrev pub AllFit : List Held → Type 0
AllFit [] = Unit {0}
AllFit (h ∷ hs) = (record_size h.row ≤ capacity) × AllFit hs

all_fit-++ : (a b : List Held) → AllFit a → AllFit b → AllFit (a ++ b)
all_fit-++ [] b f g = g
all_fit-++ (h ∷ a) b f g = (f.0, all_fit-++ a b f.1 g)

pub fits_records : (h : ℕ) (r : Row) → Fits r → AllFit (records h r)
fits_records h nil f = tt
fits_records h (agg l cs rest) f = all_fit-++ (records h cs) (records h rest) (fits_records h cs f.1) (fits_records h rest f.2)
fits_records h (lit l c rest) f = fits_records h rest f.3
fits_records h (rec p s r rest) f = (f.0.fits, all_fit-++ (records p r) (records h rest) (fits_records p r f.1) (fits_records h rest f.2))

pub length_page_at : (hs : List Held) → AllFit hs → (q : ℕ) → length (page_at hs q) ≡ page_size
length_page_at [] f q = length-replicate {A = ℕ} page_size 0
length_page_at (h ∷ hs) f q =
    cond_case (λ (l : List ℕ). length l ≡ page_size) (eqb q h.page) (λ _. length_record_page h f.0) (λ _. length_page_at hs f.1 q)

page_slice : (hs : List Held) → AllFit hs → (n k q : ℕ) → k < n → page_of (pages_from hs n q) k ≡ page_at hs (q + k)
page_slice hs f zero k q h = absurd (omega arith)
page_slice hs f (suc n) zero q h =
    let e : q + 0 ≡ q = omega arith in
    rw e (take_at (page_at hs q) (pages_from hs n (suc q)) page_size (length_page_at hs f q))
page_slice hs f (suc n) (suc k) q h =
    let a : page_size * suc k ≡ length (page_at hs q) + page_size * k = omega (arith, length_page_at hs f q) in
    let b : q + suc k ≡ suc q + k = omega arith in
    rw (a, b, drop-append-add (page_at hs q) (pages_from hs n (suc q)) (page_size * k)) (page_slice hs f n k (suc q) (omega arith))

pub length_settings : (st : Config) → length st.matrix ≡ 256 → length (settings_page st) ≡ page_size
length_settings st m = simp (length-append, length-replicate, m)

-- A root that names no page twice, and neither page 1 nor one outside: with page 1 as its own no page is named twice.
pub placed_once : (pages : ℕ) (root : Row) → Placed pages root → (q : ℕ) → count q (store root) ≤ 1
placed_once pages root placed q = go (eqb q 1) refl
  where
    go : (b : Bool) → eqb q 1 ≡ b → cond b 1 0 + count q root + 0 ≤ 1
    go true e = omega (arith, subst (λ (n : ℕ). count n root ≤ 0) (sym (eqb-true q 1 e)) (placed 1))
    go false e = omega (arith, placed q, cond_case (λ n. n ≤ 1) (outside pages q) {x = 0} {y = 1} (λ _. omega arith) (λ _. omega arith))

module _ (st : Config) (root : Row) (v : Valid st root) where
  pub all_fit : AllFit (records 0 (store root))
  all_fit = fits_records 0 (store root) v.rows

  pub image_page : (q : ℕ) → 1 ≤ q → q < st.pages → page_of (image st root) q ≡ page_at (records 0 (store root)) q
  unfolding image
  image_page zero h k = absurd (omega arith)
  image_page (suc k) h g =
      let b : 1 + k ≡ suc k = omega arith in
      let a : page_size * suc k ≡ length (settings_page st) + page_size * k = omega (arith, length_settings st v.ranges.entries) in
      rw (a, drop-append-add (settings_page st) (pages_from (records 0 (store root)) (st.pages - 1) 1) (page_size * k))
      (page_slice (records 0 (store root)) all_fit (st.pages - 1) k 1 (omega arith) ∙ ap (page_at (records 0 (store root))) b)

  pub once : (q : ℕ) → count q (store root) ≤ 1
  once = placed_once st.pages root v.placed

  -- In the image of a valid store each record stands on its page.
  pub image_stored : Stored (page_at (records 0 (store root))) 0 (store root)
  image_stored = stored_in (records 0 (store root)) 0 (store root) [] [] (sym (append-nil (records 0 (store root)))) (λ q. omega (arith, once q))
