-- The tests of one page, on the page's bytes.
use mathlib.Core.Path.{◌≡◌, refl}
use mathlib.Core.Bool.{Bool, true, false, cond, not, ◌&&◌, and-true, and-false}
use mathlib.Core.List.{List, [], ◌∷◌}
use Prim.Native.Nat.{ℕ, zero, suc, ◌+◌}
use native.Mathlib.Omega.{arith}
use lib.ListN.{length, take, drop, length-drop}
use lib.Seq.{take_all, drop-drop, get_or-drop}
use lib.Dec.{eqb}
use borrow.Author.Tests.{eq-eqb, ne_eqb}
use Rattle.model.specs.Limits.{page_size, capacity}
use Rattle.model.specs.Reading.{state_at, settled_at, used_at, back_at}
use Rattle.model.specs.BeforeWalk.{all_zero, trailer_of, settled_fits, used_fits, back_fits, record_trailer, trailer_fits, free_fits}
use Rattle.theory_decoding.specs.Valid.{both as and_both}
use Rattle.theory_check.specs.Trailers.{trailer_two}
use Rattle.theory_check.specs.Tests.{state_of}

-- the tests of a record's trailer, as the code reads its fields
pub trailer_on : (pages p : ℕ) (s : List ℕ) → length s ≡ page_size
    → record_trailer pages p (trailer_of s)
    ≡ (eqb (state_at s 0) 1 && settled_fits p (settled_at s 0) && used_fits (used_at s 0) && back_fits pages p (back_at s 0)
    && all_zero (take 10 (drop (capacity + 6) s)))
unfolding record_trailer
trailer_on pages p s long =
    let last = take_all 10 (drop (capacity + 6) s) (omega (arith, length-drop (capacity + 6) s)) in
    rw (get_or-drop capacity s 0 0, get_or-drop capacity s 1 0, trailer_two s 2, trailer_two s 4, drop-drop 6 capacity s, last)

-- a page in use
pub state_used : (pages p : ℕ) (s : List ℕ) → (state_at s 0 ≡ 0 → ⊥) → state_of pages p s ≡ cond (record_trailer pages p (trailer_of s)) 2 0
unfolding state_of trailer_fits free_fits
state_used pages p s z = rw (get_or-drop capacity s 0 0, ne_eqb (state_at s 0) 0 z) (go (record_trailer pages p (trailer_of s)))
  where
    go : (b : Bool) → cond {A = ℕ} (b && true) 2 0 ≡ cond b 2 0
    go b = rw (and-true b)

zero_drop : (n : ℕ) (s : List ℕ) → all_zero s ≡ true → all_zero (drop n s) ≡ true
unfolding all_zero
zero_drop zero s z = z
zero_drop (suc n) [] z = z
zero_drop (suc n) (x ∷ s) z = zero_drop n s (and_both (eqb x 0) _ z).1

-- a page whose trailer says that it is free
pub state_free : (pages p : ℕ) (s : List ℕ) → state_at s 0 ≡ 0 → state_of pages p s ≡ cond (not (eqb p 1) && all_zero s) 1 0
unfolding state_of trailer_fits free_fits
state_free pages p s z = rw (get_or-drop capacity s 0 0, eq-eqb (state_at s 0) 0 z) (go (not (eqb p 1)) (all_zero s) refl)
  where
    go : (a b : Bool) → all_zero s ≡ b → cond {A = ℕ} (a && all_zero (trailer_of s) && b) 1 0 ≡ cond (a && b) 1 0
    go a true e = rw (zero_drop capacity s e, and-true a, and-true a)
    go a false e = rw (and-false (a && all_zero (trailer_of s)), and-false a)
