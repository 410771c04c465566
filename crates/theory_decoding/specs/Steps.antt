-- Decoding the image of a valid store takes fewer steps than the image has bytes: its records are no more than its pages.
use Rattle.std.specs.Prelude.{◌≡◌, refl, Bool, true, false, cond, ◌||◌, ℕ, zero, suc, ◌+◌, ◌*◌, ◌≤◌, ◌<◌, leb, eqb}
use Rattle.std.proofs.Common.{true≢false, arith, eqb-true, leb-false}
use Rattle.std.proofs.lemmas.Bool.{eqb-false}
use Rattle.model.specs.Limits.{page_size, capacity}
use Rattle.model.specs.Row.{Row, nil, agg, lit, rec, store, size, count, outside, Config}
use Rattle.theory_rows.specs.Fits.{Fits, Valid}
use Rattle.theory_rows.specs.Image.{once}
use Rattle.theory_rows.specs.Population.{population}
use Rattle.theory_decoding.specs.Valid.{names_own}

-- The nodes of a row and of the records below it: as many steps as decoding takes.
abbrev pub steps : Row → ℕ
steps nil = 0
steps (agg l cs rest) = 1 + steps cs + steps rest
steps (lit l c rest) = 1 + steps rest
steps (rec p s r rest) = 1 + steps r + steps rest

-- Each node that a row shows takes one.
pub population_steps : (r : Row) → population r ≤ steps r
population_steps nil = omega arith
population_steps (agg l cs rest) = omega (arith, population_steps cs, population_steps rest)
population_steps (lit l c rest) = omega (arith, population_steps rest)
population_steps (rec p s r rest) = omega (arith, population_steps r, population_steps rest)

-- The records below a row.
abbrev pub record_count : Row → ℕ
record_count nil = 0
record_count (agg l cs rest) = record_count cs + record_count rest
record_count (lit l c rest) = record_count rest
record_count (rec p s r rest) = 1 + record_count r + record_count rest

steps_bound : (r : Row) → Fits r → steps r ≤ size r + capacity * record_count r
steps_bound nil f = omega arith
steps_bound (agg l cs rest) f = omega (arith, steps_bound cs f.1, steps_bound rest f.2)
steps_bound (lit l c rest) f = omega (arith, steps_bound rest f.3)
steps_bound (rec p s r rest) f = omega (arith, steps_bound r f.1, f.0.fits, steps_bound rest f.2)

-- ── no more records than pages ──

abbrev sum : ℕ → (ℕ → ℕ) → ℕ
sum zero f = 0
sum (suc n) f = f n + sum n f

sum_add : (n : ℕ) (f g : ℕ → ℕ) → sum n (λ q. f q + g q) ≡ sum n f + sum n g
sum_add zero f g = refl
sum_add (suc n) f g = omega (arith, sum_add n f g)

sum_at_most : (n : ℕ) (f : ℕ → ℕ) → ((q : ℕ) → f q ≤ 1) → sum n f ≤ n
sum_at_most zero f h = omega arith
sum_at_most (suc n) f h = omega (arith, h n, sum_at_most n f h)

sum_one : (n p : ℕ) → p < n → 1 ≤ sum n (λ q. cond (eqb q p) 1 0)
sum_one zero p h = absurd (omega arith)
sum_one (suc n) p h = go (eqb n p) refl (sum_one n p)
  where
    go : (b : Bool) → eqb n p ≡ b → (p < n → 1 ≤ sum n (λ q. cond (eqb q p) 1 0)) → 1 ≤ cond b 1 0 + sum n (λ q. cond (eqb q p) 1 0)
    go true e ih = omega arith
    go false e ih = omega (arith, ih (omega (arith, eqb-false n p e)))

count_sum : (n : ℕ) (r : Row) → ((q : ℕ) → 1 ≤ count q r → q < n) → record_count r ≤ sum n (λ q. count q r)
count_sum n nil h = omega arith
count_sum n (agg l cs rest) h =
    omega (arith, sum_add n (λ q. count q cs) (λ q. count q rest), count_sum n cs (λ q g. h q (omega arith)), count_sum n rest (λ q g. h q (omega arith)))
count_sum n (lit l c rest) h = count_sum n rest h
count_sum n (rec p s r rest) h =
    omega (
      arith,
      sum_add n (λ q. cond (eqb q p) 1 0 + count q r) (λ q. count q rest),
      sum_add n (λ q. cond (eqb q p) 1 0) (λ q. count q r),
      sum_one n p (h p (names_own p s r rest)),
      count_sum n r (λ q g. h q (omega arith)),
      count_sum n rest (λ q g. h q (omega arith)),
    )

neither : (a b : Bool) → a || b ≡ false → (a ≡ false) × (b ≡ false)
neither true b e = absurd (true≢false e)
neither false b e = (refl, e)

module _ (st : Config) (root : Row) (v : Valid st root) where
  -- Each page named, and page 1, is a page of the image behind the settings.
  pub named_inside : (q : ℕ) → 1 ≤ count q (store root) → (1 ≤ q) × (q < st.pages)
  named_inside q h = go (eqb q 1) (outside st.pages q) refl refl h (v.placed q)
    where
      go : (b o : Bool) → eqb q 1 ≡ b → outside st.pages q ≡ o → 1 ≤ cond b 1 0 + count q root + 0 → count q root ≤ cond o 0 1
          → (1 ≤ q) × (q < st.pages)
      go true o e f h k = omega (arith, eqb-true q 1 e, v.ranges.few)
      go false true e f h k = absurd (omega arith)
      go false false e f h k =
          let t = neither (leb q 1) (leb st.pages q) f in
          omega (arith, leb-false q 1 t.0, leb-false st.pages q t.1)

  pub few_records : record_count (store root) ≤ st.pages
  few_records =
      omega (arith, count_sum st.pages (store root) (λ q h. (named_inside q h).1), sum_at_most st.pages (λ q. count q (store root)) (once st root v))

  pub few_steps : steps root ≤ page_size * st.pages
  few_steps =
      omega (arith, steps_bound (store root) v.rows, few_records, v.ranges.few)

  pub few_nodes : population root ≤ page_size * st.pages
  few_nodes = omega (arith, population_steps root, few_steps)
