-- Node k of those that a row shows: where it starts.
use Rattle.std.specs.Prelude.{◌≡◌, refl, Bool, true, false, List, ℕ, zero, suc, ◌+◌, ◌*◌, ◌-◌, ◌≤◌, ◌<◌, length, ltb, Result, Ok, Err}
use Rattle.std.proofs.Common.{arith, le-ltb, ltb-true, ltb-false}
use Rattle.std.proofs.Math.Option.{none}
use Rattle.std.proofs.Math.Nat.{sub-zero, suc-sub-suc}
use Rattle.theory_row_bytes.specs.RowAt.{kind_of, size_of, rest_of}
use Rattle.model.specs.Limits.{page_size}
use Rattle.model.specs.Row.{Row, nil, agg, lit, rec, size, base}
use Rattle.model.specs.Tree.{width, place_at}

-- What is found stands; with nodes left to pass, the search goes on.
abbrev pub or_beyond : Result ℕ ℕ → (beyond : ℕ → Result ℕ ℕ) → Result ℕ ℕ
or_beyond (Ok at) beyond = Ok at
or_beyond (Err left) beyond = beyond left

-- Of the nodes that the row at pos shows, number k: the byte of the image at which it starts; else how many are left after passing all.
unfoldable pub nth_of : (pos : ℕ) → Row → (k : ℕ) → Result ℕ ℕ
nth_of pos nil k = Err k
nth_of pos (agg h cs rest) zero = Ok pos
nth_of pos (agg h cs rest) (suc k) = nth_of (pos + (6 + size cs)) rest k
nth_of pos (lit h c rest) zero = Ok pos
nth_of pos (lit h c rest) (suc k) = nth_of (pos + (6 + length c)) rest k
nth_of pos (rec p s r rest) k = or_beyond (nth_of (page_size * p + base r) r k) (λ left. nth_of (pos + 8) rest left)

pub nth_left : (pos : ℕ) (row : Row) (k : ℕ) → width row ≤ k → nth_of pos row k ≡ Err (k - width row)
unfolding nth_of
nth_left pos nil k h = rw sub-zero
nth_left pos (agg l cs rest) zero h = absurd (omega arith)
nth_left pos (agg l cs rest) (suc k) h = rw suc-sub-suc (nth_left (pos + (6 + size cs)) rest k (omega arith))
nth_left pos (lit l c rest) zero h = absurd (omega arith)
nth_left pos (lit l c rest) (suc k) h = rw suc-sub-suc (nth_left (pos + (6 + length c)) rest k (omega arith))
nth_left pos (rec p s r rest) k h =
    let e : k - width r - width rest ≡ k - (width r + width rest) = omega arith in
    rw (nth_left (page_size * p + base r) r k (omega arith), nth_left (pos + 8) rest (k - width r) (omega arith), e)

-- It is found exactly if the row shows more than k.
pub nth_found : (pos : ℕ) (row : Row) (k : ℕ) → k < width row → (at : ℕ) × (nth_of pos row k ≡ Ok at)
unfolding nth_of
nth_found pos nil k h = absurd (omega arith)
nth_found pos (agg l cs rest) zero h = (pos, refl)
nth_found pos (agg l cs rest) (suc k) h = nth_found (pos + (6 + size cs)) rest k (omega arith)
nth_found pos (lit l c rest) zero h = (pos, refl)
nth_found pos (lit l c rest) (suc k) h = nth_found (pos + (6 + length c)) rest k (omega arith)
nth_found pos (rec p s r rest) k h =
    go (ltb k (width r)) refl (nth_found (page_size * p + base r) r k) (nth_found (pos + 8) rest (k - width r))
  where
    go : (b : Bool) → ltb k (width r) ≡ b → (k < width r → (at : ℕ) × (nth_of (page_size * p + base r) r k ≡ Ok at))
        → (k - width r < width rest → (at : ℕ) × (nth_of (pos + 8) rest (k - width r) ≡ Ok at)) → (at : ℕ) × (nth_of pos (rec p s r rest) k ≡ Ok at)
    go true e f g = let (at, a) = f (ltb-true k (width r) e) in (at, rw a)
    go false e f g = let (at, a) = g (omega (arith, ltb-false k (width r) e)) in (at, rw (nth_left (page_size * p + base r) r k (ltb-false k (width r) e), a))

pub nth_none : (pos : ℕ) (row : Row) (k left : ℕ) → nth_of pos row k ≡ Err left → width row ≤ k
nth_none pos row k left e = go (ltb k (width row)) refl
  where
    go : (b : Bool) → ltb k (width row) ≡ b → width row ≤ k
    go true f = let (at, a) = nth_found pos row k (ltb-true k (width row) f) in cc
    go false f = ltb-false k (width row) f

-- A node is the first, and behind it they go on.
pub nth_first : (pos : ℕ) (row : Row) → 0 < size row → (kind_of row ≡ 3 → ⊥)
    → (Ok pos ≡ nth_of pos row 0) × ((k : ℕ) → nth_of (pos + size_of row) (rest_of row) k ≡ nth_of pos row (suc k))
unfolding nth_of
nth_first pos nil h k = absurd (omega arith)
nth_first pos (agg l cs rest) h k = (refl, λ _. refl)
nth_first pos (lit l c rest) h k = (refl, λ _. refl)
nth_first pos (rec p s r rest) h k = absurd (k refl)

-- In a record, or behind its proxy.
module _ (pos p : ℕ) (s : Bool) (r rest : Row) (k : ℕ) where
  pub nth_inside : k < width r → nth_of pos (rec p s r rest) k ≡ nth_of (page_size * p + base r) r k
  unfolding nth_of
  nth_inside h = let (at, a) = nth_found (page_size * p + base r) r k h in rw a

  pub nth_after : width r ≤ k → nth_of pos (rec p s r rest) k ≡ nth_of (pos + 8) rest (k - width r)
  unfolding nth_of
  nth_after h = rw (nth_left (page_size * p + base r) r k h)

-- ── the places that paths find ──

-- A path that starts past the row's last node finds none.
pub place_past : (page at k : ℕ) (path : List ℕ) (row : Row) → width row ≤ k → place_at page at k path row ≡ none
unfolding place_at
place_past page at k path nil h = refl
place_past page at zero path (agg l cs rest) h = absurd (omega arith)
place_past page at (suc k) path (agg l cs rest) h = place_past page (at + 6 + size cs) k path rest (omega arith)
place_past page at zero path (lit l c rest) h = absurd (omega arith)
place_past page at (suc k) path (lit l c rest) h = place_past page (at + 6 + length c) k path rest (omega arith)
place_past page at k path (rec p s r rest) h = rw (le-ltb k (width r) (omega arith)) (place_past page (at + 8) (k - width r) path rest (omega arith))
