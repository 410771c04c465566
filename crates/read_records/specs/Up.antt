-- The record pages of an image, ascending, by their trailers; and the loops over them.
use Rattle.std.specs.Prelude.{◌≡◌, Bool, true, false, cond, List, [], ◌∷◌, length, eqb}
use Prim.Native.Nat.{ℕ, zero, suc, ◌+◌, ◌-◌, ◌/◌, ◌≤◌, ◌<◌}
use native.Mathlib.Omega.{arith}
use Rattle.std.proofs.Common.{eq-eqb, ne_eqb}
use Rattle.model.specs.Limits.{page_size}
use Rattle.theory_places.specs.Marks.{mark}

-- The record pages of the k pages from q on.
unfoldable pub up_from : (img : List ℕ) → (k q : ℕ) → List ℕ
up_from img zero q = []
up_from img (suc k) q = let r = up_from img k (suc q) in cond (eqb (mark img q) 1) (q ∷ r) r

-- The record pages of an image: page 0 has the settings.
unfoldable pub up_pages : (img : List ℕ) → List ℕ
up_pages img = up_from img (length img / page_size - 1) 1

pub few_up : (img : List ℕ) (k q : ℕ) → length (up_from img k q) ≤ k
unfolding up_from
few_up img zero q = omega arith
few_up img (suc k) q = go (eqb (mark img q) 1) (few_up img k (suc q))
  where
    go : (b : Bool) → length (up_from img k (suc q)) ≤ k → length (cond b (q ∷ up_from img k (suc q)) (up_from img k (suc q))) ≤ suc k
    go true h = omega arith
    go false h = omega arith

-- ── a turn of a loop over the pages from q to n ──

module _ (img : List ℕ) (n q : ℕ) where
  -- The record pages from q on.
  abbrev pub left : List ℕ
  left = up_from img (n - q) q

module _ (img : List ℕ) (n q : ℕ) (h : q < n) where
  turn : left img n q ≡ cond (eqb (mark img q) 1) (q ∷ left img n (q + 1)) (left img n (q + 1))
  unfolding up_from
  turn =
      let a : n - q ≡ suc (n - (q + 1)) = omega arith in
      let b : suc q ≡ q + 1 = omega arith in
      rw (a, b)

  pub is_up : mark img q ≡ 1 → left img n q ≡ q ∷ left img n (q + 1)
  is_up e = rw (turn, eq-eqb (mark img q) 1 e)

  pub not_up : (mark img q ≡ 1 → ⊥) → left img n q ≡ left img n (q + 1)
  not_up e = rw (turn, ne_eqb (mark img q) 1 e)

pub none_left : (img : List ℕ) (n q : ℕ) → n ≤ q → left img n q ≡ []
unfolding up_from
none_left img n q h =
    let a : n - q ≡ 0 = omega arith in
    rw a
