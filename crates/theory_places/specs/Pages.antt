-- The pages of the records: each one time, and fewer than the image has; and the search for a free one.
use Rattle.std.specs.Prelude.{◌≡◌, Bool, List, [], ◌∷◌, ◌++◌, map, length, ltb, eqb}
use Rattle.std.proofs.Math.Path.{refl}
use Rattle.std.proofs.Common.{ap, ◌∙◌, arith, ltb-true, ltb-false, eqb-true, eq-eqb, lt-ltb}
use Rattle.std.proofs.Math.Bool.{true, false, cond}
use Rattle.std.proofs.lemmas.List.{map-append}
use Prim.Native.Nat.{ℕ, zero, suc, ◌+◌, ◌-◌, ◌≤◌, ◌<◌}
use Rattle.std.proofs.lemmas.Bool.{eqb-false}
use Rattle.model.specs.Row.{Row, nil, agg, lit, rec, Held, records, store, count, Config}
use Rattle.model.specs.Common.{record_pages}
use Rattle.model.specs.Calls.Records.{times}
use Rattle.model.specs.Growth.{free_from}
use Rattle.theory_rows.specs.Fits.{Valid}
use Rattle.theory_rows.specs.Image.{once}
use Rattle.theory_places.specs.Inside.{named_page}

-- ── the pages of the records ──

abbrev pages_of : List Held → List ℕ
pages_of hs = map (λ (h : Held). h.page) hs

times-++ : (q : ℕ) (a b : List ℕ) → times q (a ++ b) ≡ times q a + times q b
times-++ q [] b = omega arith
times-++ q (p ∷ a) b = rw (times-++ q a b) (omega arith)

times_records : (q holder : ℕ) (r : Row) → times q (pages_of (records holder r)) ≡ count q r
times_records q holder nil = refl
times_records q holder (agg h cs rest) =
    rw (map-append, times-++, times_records q holder cs, times_records q holder rest)
times_records q holder (lit h c rest) = times_records q holder rest
times_records q holder (rec p s r rest) =
    rw (
      map-append (λ (h : Held). h.page) (records p r) (records holder rest),
      times-++ q (pages_of (records p r)) (pages_of (records holder rest)),
      times_records q p r,
      times_records q holder rest,
    ) (omega arith)

-- ── a list of distinct numbers from 1 to n has at most n of them ──

-- How often the numbers from 1 to n are in a list.
abbrev total : ℕ → List ℕ → ℕ
total zero ps = 0
total (suc n) ps = times (suc n) ps + total n ps

total_once : (n : ℕ) (ps : List ℕ) → ((q : ℕ) → times q ps ≤ 1) → total n ps ≤ n
total_once zero ps h = omega arith
total_once (suc n) ps h = omega (arith, h (suc n), total_once n ps h)

total_more : (n p : ℕ) (ps : List ℕ) → total n ps ≤ total n (p ∷ ps)
total_more zero p ps = omega arith
total_more (suc n) p ps = omega (arith, total_more n p ps)

total_next : (n p : ℕ) (ps : List ℕ) → 1 ≤ p → p ≤ n → suc (total n ps) ≤ total n (p ∷ ps)
total_next zero p ps low high = absurd (omega arith)
total_next (suc n) p ps low high = go (eqb (suc n) p) refl (total_next n p ps low)
  where
    go : (b : Bool) → eqb (suc n) p ≡ b → (p ≤ n → suc (total n ps) ≤ total n (p ∷ ps))
        → suc (times (suc n) ps + total n ps) ≤ cond b 1 0 + times (suc n) ps + total n (p ∷ ps)
    go true e ih = omega (arith, total_more n p ps)
    go false e ih = omega (arith, ih (omega (arith, eqb-false (suc n) p e)))

few : (n : ℕ) (ps : List ℕ) → ((q : ℕ) → 1 ≤ times q ps → (1 ≤ q) × (q ≤ n)) → length ps ≤ total n ps
few n [] range = omega arith
few n (p ∷ ps) range =
    let r = range p (rw (eq-eqb p p refl) (omega arith)) in
    omega (arith, few n ps (λ q h. range q (omega arith)), total_next n p ps r.0 r.1)

-- A page is listed as often as proxies name it.
pub pages_count : (root : Row) (q : ℕ) → times q (record_pages root) ≡ count q (store root)
pages_count root q = times_records q 0 (store root)

module _ (st : Config) (root : Row) (v : Valid st root) where
  -- So at most one time.
  pub pages_once : (q : ℕ) → times q (record_pages root) ≤ 1
  pages_once q = rw (pages_count root q) (once st root v q)

  pages_range : (q : ℕ) → 1 ≤ times q (record_pages root) → (1 ≤ q) × (q ≤ st.pages - 1)
  pages_range q h = go (eqb q 1) refl (rw (pages_count root q) at h)
    where
      go : (b : Bool) → eqb q 1 ≡ b → 1 ≤ cond b 1 0 + count q root + 0 → (1 ≤ q) × (q ≤ st.pages - 1)
      go true e h = omega (arith, eqb-true q 1 e, v.ranges.few)
      go false e h =
          let r = named_page st.pages q (count q root - 1) (omega (arith, v.placed q)) in
          omega arith

  -- There are fewer of them than pages, as page 0 has no record.
  pub pages_few : length (record_pages root) < st.pages
  pages_few =
      let n = st.pages - 1 in
      omega (arith, few n (record_pages root) pages_range, total_once n (record_pages root) pages_once, v.ranges.few)

-- ── the search for a free page ──

module _ (st : Config) (used : ℕ → Bool) where
  -- The page tried after q.
  abbrev next : ℕ → ℕ
  next q = cond (ltb (suc q) st.pages) (suc q) 2

  -- A page that is found is free.
  pub free_first : (tries q : ℕ) → 1 ≤ free_from st tries used q → used (free_from st tries used q) ≡ false
  unfolding free_from
  free_first zero q h = absurd (omega arith)
  free_first (suc k) q h = go (used q) refl h (free_first k (next q))
    where
      r : ℕ
      r = free_from st k used (next q)

      go : (b : Bool) → used q ≡ b → 1 ≤ cond b r q → (1 ≤ r → used r ≡ false) → used (cond b r q) ≡ false
      go true e h ih = ih h
      go false e h ih = e

  -- If none is found, the page tried is used, and the page after it leads to none.
  none_found : (k q : ℕ) → 1 ≤ q → free_from st (suc k) used q ≡ 0 → (used q ≡ true) × (free_from st k used (next q) ≡ 0)
  unfolding free_from
  none_found k q low h = go (used q) refl h
    where
      go : (b : Bool) → used q ≡ b → cond b (free_from st k used (next q)) q ≡ 0 → (used q ≡ true) × (free_from st k used (next q) ≡ 0)
      go true e h = (e, h)
      go false e h = absurd (omega arith)

  -- Then the pages from q on are used,
  used_up : (k q : ℕ) → 1 ≤ q → free_from st k used q ≡ 0 → (p : ℕ) → q ≤ p → p < st.pages → p < q + k → used p ≡ true
  used_up zero q low h p a b c = absurd (omega arith)
  used_up (suc k) q low h p a b c = go (ltb q p) refl
      (λ d. used_up k (suc q) (omega arith) (rw (lt-ltb (suc q) st.pages (omega arith)) at (none_found k q low h).1) p d b (omega arith))
    where
      go : (t : Bool) → ltb q p ≡ t → (suc q ≤ p → used p ≡ true) → used p ≡ true
      go true e ih = ih (ltb-true q p e)
      go false e ih =
          let same : p ≡ q = omega (arith, ltb-false q p e) in
          ap used same ∙ (none_found k q low h).0

  -- and, after the last, those from 2 on.
  used_around_lem : (k q : ℕ) → 1 ≤ q → q < st.pages → free_from st k used q ≡ 0 → (p : ℕ) → 2 ≤ p → p < q → st.pages + p < q + k + 2 → used p ≡ true
  used_around_lem zero q low high h p a b c = absurd (omega arith)
  used_around_lem (suc k) q low high h p a b c = go (ltb (suc q) st.pages) refl (none_found k q low h).1
      (λ d e. used_around_lem k (suc q) (omega arith) d e p a (omega arith) (omega arith))
    where
      go : (t : Bool) → ltb (suc q) st.pages ≡ t → free_from st k used (cond t (suc q) 2) ≡ 0
          → (suc q < st.pages → free_from st k used (suc q) ≡ 0 → used p ≡ true) → used p ≡ true
      go true e n ih = ih (ltb-true (suc q) st.pages e) n
      go false e n ih = used_up k 2 (omega arith) n p a (omega arith) (omega (arith, ltb-false (suc q) st.pages e))

-- If as many tries as the image has pages find none, every page from 2 on is used.
pub free_none : (st : Config) (used : ℕ → Bool) (near : ℕ) → 1 ≤ near → near < st.pages → free_from st st.pages used near ≡ 0
    → (q : ℕ) → 2 ≤ q → q < st.pages → used q ≡ true
free_none st used near low high h q a b = go (ltb q near) refl
  where
    go : (t : Bool) → ltb q near ≡ t → used q ≡ true
    go true e = used_around_lem st used st.pages near low high h q a (ltb-true q near e) (omega (arith, ltb-true q near e))
    go false e = used_up st used st.pages near low h q (ltb-false q near e) b (omega arith)
