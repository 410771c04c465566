-- The search for a free page in the map: what is passed on the way, and that it ends where the rule's count does.
use Rattle.std.specs.Prelude.{◌≡◌, Bool, List, length, get_or}
use Rattle.std.proofs.Math.Path.{refl}
use Rattle.std.proofs.Common.{sym, ap, ◌∙◌, true≢false}
use Rattle.std.proofs.Math.Bool.{true, false, cond}
use Prim.Native.Nat.{ℕ, zero, suc, ◌+◌, ◌-◌, ◌*◌, ◌/◌, ◌≤◌, ◌<◌}
use native.Mathlib.Omega.{arith}
use borrow.Author.Tests.{lt-ltb, le-ltb, ltb-true, ltb-false, eqb-true, eqb-false}
use Rattle.std.proofs.Math.Dec.{ltb, eqb}
use Rattle.model.specs.Row.{Config}
use Rattle.model.specs.Growth.{free_from}
use Rattle.theory_rows.specs.Laws.{cond_case}
use Rattle.theory_rows.specs.Pages.{free_found}
use Rattle.theory_check.specs.Marks.{full_byte}
use Rattle.grow_map.specs.Map.{used_by, most_map, Past}

-- All pages from `from` to q are used.
pub record Upto (m : List ℕ) (from q : ℕ) : Type 0 where
  pub low : from ≤ q
  pub passed : (x : ℕ) → from ≤ x → x < q → used_by m x ≡ true
  pub most : q ≤ 8 * most_map

-- The same, and q is free, or past the map's end.
pub record Up (m : List ℕ) (from q : ℕ) : Type 0 where
  pub upto : Upto m from q
  pub free : q / 8 < length m → used_by m q ≡ false

pub upto_start : (m : List ℕ) (from : ℕ) → from ≤ 8 * most_map → Upto m from from
upto_start m from h = record { low = omega arith; passed = λ x a b. absurd (omega arith); most = h }

-- One page further, and past full bytes.
pub upto_page : (m : List ℕ) (from q : ℕ) → Upto m from q → q / 8 < length m → length m ≤ most_map → used_by m q ≡ true → Upto m from (q + 1)
upto_page m from q u h few e = record { low = omega (arith, u.low); passed = λ x a b. go x a b (eqb x q) refl; most = omega arith }
  where
    go : (x : ℕ) → from ≤ x → x < q + 1 → (b : Bool) → eqb x q ≡ b → used_by m x ≡ true
    go x a b true z = ap (used_by m) (eqb-true x q z) ∙ e
    go x a b false z = let n = eqb-false x q z in u.passed x a (omega arith)

pub upto_bytes : (m : List ℕ) (from q n : ℕ) → Upto m from q → q / 8 + n ≤ length m → length m ≤ most_map → (n ≡ 0 → ⊥)
    → ((k : ℕ) → k < n → get_or m (q / 8 + k) 0 ≡ 255) → Upto m from (8 * (q / 8 + n))
upto_bytes m from q n u h few some full = record { low = omega (arith, u.low); passed = λ x a b. go x a b (ltb x q) refl; most = omega arith }
  where
    go : (x : ℕ) → from ≤ x → x < 8 * (q / 8 + n) → (b : Bool) → ltb x q ≡ b → used_by m x ≡ true
    go x a b true z = u.passed x a (ltb-true x q z)
    go x a b false z =
        let i = x / 8 - q / 8 in
        let y : q ≤ x = ltb-false x q z in
        let e : q / 8 + i ≡ x / 8 = omega arith in
        full_byte m x (ap (λ (k : ℕ). get_or m k 0) (sym e) ∙ full i (omega arith))

-- ── the rule's count ──

module _ (st : Config) (used : ℕ → Bool) where
  -- The count of `suc k` pages from q: q, or what the count of the others from the next page gives.
  abbrev next : (k q : ℕ) → ℕ
  next k q = free_from st k used (cond (ltb (suc q) st.pages) (suc q) 2)

  abbrev Passed : (from q : ℕ) → Type 0
  Passed from q = (x : ℕ) → from ≤ x → x < q → used x ≡ true

  -- It goes up to the first free page,
  free_up : (k from q : ℕ) → from ≤ q → q < st.pages → q < from + k → Passed from q → used q ≡ false → free_from st k used from ≡ q
  unfolding free_from
  free_up zero from q a b c all e = absurd (omega arith)
  free_up (suc k) from q a b c all e = go (eqb from q) refl (λ h. free_up k (suc from) q (omega arith) b (omega arith) (λ x i j. all x (omega arith) j) e)
    where
      go : (z : Bool) → eqb from q ≡ z → (from < q → free_from st k used (suc from) ≡ q) → cond (used from) (next k from) from ≡ q
      go true z ih = let y = eqb-true from q z in rw (ap used y ∙ e) y
      go false z ih =
          let y = eqb-false from q z in
          let h : from < q = omega arith in
          rw (all from (omega arith) h, lt-ltb (suc from) st.pages (omega arith)) (ih h)

  -- from the last page on to page 2,
  free_wrap : (t n k from : ℕ) → t ≡ n + k → from + n ≡ st.pages → 1 ≤ n → Passed from st.pages → free_from st t used from ≡ free_from st k used 2
  unfolding free_from
  free_wrap zero n k from s e h all = absurd (omega arith)
  free_wrap (suc t) n k from s e h all =
      rw (all from (omega arith) (omega arith))
      (go (eqb n 1) refl (λ some. free_wrap t (n - 1) k (suc from) (omega arith) (omega arith) (omega arith) (λ x i j. all x (omega arith) j)))
    where
      go : (z : Bool) → eqb n 1 ≡ z → (1 < n → free_from st t used (suc from) ≡ free_from st k used 2) → next t from ≡ free_from st k used 2
      go true z ih =
          let y = eqb-true n 1 z in
          let same : t ≡ k = omega arith in
          rw (le-ltb (suc from) st.pages (omega arith)) (ap (λ (i : ℕ). free_from st i used 2) same)
      go false z ih =
          let y = eqb-false n 1 z in
          rw (lt-ltb (suc from) st.pages (omega arith)) (ih (omega arith))

  -- and finds none where all are used.
  free_none : (k from : ℕ) → 1 ≤ from → used from ≡ true → used 2 ≡ true → Passed 2 st.pages → free_from st k used from ≡ 0
  unfolding free_from
  free_none zero from h e two all = refl
  free_none (suc k) from h e two all =
      rw e (go (ltb (suc from) st.pages) refl (λ q low on. free_none k q low on two all))
    where
      go : (b : Bool) → ltb (suc from) st.pages ≡ b → ((q : ℕ) → 1 ≤ q → used q ≡ true → free_from st k used q ≡ 0)
          → free_from st k used (cond b (suc from) 2) ≡ 0
      go true z ih = ih (suc from) (omega arith) (all (suc from) (omega arith) (ltb-true (suc from) st.pages z))
      go false z ih = ih 2 (omega arith) two

-- It looks only at pages below n, where n is at least 3 and the image has no more pages.
module _ (st : Config) (n : ℕ) (many : st.pages ≤ n) (some : 3 ≤ n) where
  next_below : (q : ℕ) → cond (ltb (suc q) st.pages) (suc q) 2 < n
  next_below q =
      cond_case (λ (i : ℕ). i < n) (ltb (suc q) st.pages) (λ f. omega (arith, ltb-true (suc q) st.pages f)) (λ f. omega arith)

  pub free_same : (a b : ℕ → Bool) → ((x : ℕ) → x < n → a x ≡ b x) → (k q : ℕ) → q < n → free_from st k a q ≡ free_from st k b q
  unfolding free_from
  free_same a b e zero q g = refl
  free_same a b e (suc k) q g = rw (e q g) (ap (λ (i : ℕ). cond (b q) i q) (free_same a b e k (cond (ltb (suc q) st.pages) (suc q) 2) (next_below q)))

  free_below : (used : ℕ → Bool) (k q : ℕ) → q < n → free_from st k used q < n
  unfolding free_from
  free_below used zero q g = omega arith
  free_below used (suc k) q g =
      cond_case (λ (i : ℕ). i < n) (used q) (λ _. free_below used k (cond (ltb (suc q) st.pages) (suc q) 2) (next_below q)) (λ _. g)

  -- A page is found inside the image, or it is 0.
  pub free_within : (used : ℕ → Bool) (k q : ℕ) → q < st.pages → ((x : ℕ) → st.pages ≤ x → x < n → used x ≡ true) → free_from st k used q < st.pages
  free_within used k q start past = go (eqb r 0) (ltb r st.pages) refl refl
    where
      r : ℕ
      r = free_from st k used q

      go : (b d : Bool) → eqb r 0 ≡ b → ltb r st.pages ≡ d → r < st.pages
      go true d z i = omega (arith, eqb-true r 0 z)
      go false true z i = ltb-true r st.pages i
      go false false z i =
          absurd (true≢false (sym (past r (ltb-false r st.pages i) (free_below used k q (omega arith))) ∙ free_found st k used q z))

-- ── the search ──

module _ (st : Config) (m : List ℕ) (from : ℕ) (inside : from < st.pages) (most : st.pages ≤ 8 * length m) (past : Past st.pages m) where
  -- A free page of the map is one of the image's.
  within : (q : ℕ) → q / 8 < length m → used_by m q ≡ false → q < st.pages
  within q h e = go (ltb q st.pages) refl
    where
      go : (b : Bool) → ltb q st.pages ≡ b → q < st.pages
      go true z = ltb-true q st.pages z
      go false z = absurd (true≢false (sym (past q (ltb-false q st.pages z) (omega arith)) ∙ e))

  pub found_up : (q : ℕ) → Up m from q → q / 8 < length m → q ≡ free_from st st.pages (used_by m) from
  found_up q u h =
      let e = u.free h in
      let low = within q h e in
      sym (free_up st (used_by m) st.pages from q u.upto.low low (omega arith) u.upto.passed e)

  module _ (low : 1 ≤ from) (q : ℕ) (u : Up m from q) (end : length m ≤ q / 8) (r : ℕ) (v : Up m 2 r) where
    above : (x : ℕ) → from ≤ x → x < 8 * length m → used_by m x ≡ true
    above x a b = u.upto.passed x a (omega arith)

    pub found_again : r < from → r ≡ free_from st st.pages (used_by m) from
    found_again h =
        let n = st.pages - from in
        sym (free_wrap st (used_by m) st.pages n from from (omega arith) (omega arith) (omega arith) (λ x a b. above x a (omega arith))
        ∙ free_up st (used_by m) from 2 r v.upto.low (omega arith) (omega arith) v.upto.passed (v.free (omega arith)))

    pub found_none : from ≤ r → 0 ≡ free_from st st.pages (used_by m) from
    found_none h =
        let all : (x : ℕ) → 2 ≤ x → x < 8 * length m → used_by m x ≡ true = λ x a b. go x a b (ltb x from) refl in
        sym (free_none st (used_by m) st.pages from low (above from (omega arith) (omega arith)) (all 2 (omega arith) (omega arith))
        (λ x a b. all x a (omega arith)))
      where
        go : (x : ℕ) → 2 ≤ x → x < 8 * length m → (b : Bool) → ltb x from ≡ b → used_by m x ≡ true
        go x a b true z = let y = ltb-true x from z in v.upto.passed x a (omega arith)
        go x a b false z = above x (ltb-false x from z) b
