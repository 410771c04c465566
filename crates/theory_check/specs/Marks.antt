-- Marks: a bit for each page, and what setting or clearing one does to the others.
use Rattle.std.specs.Prelude.{◌≡◌, ◌≢◌, Bool, cond, List, ℕ, zero, suc, ◌-◌, ◌*◌, ◌/◌, ◌%◌, ◌^◌, ◌<◌, ltb, length, get_or, set, replicate}
use Rattle.std.proofs.Math.Path.{refl, sym}
use Rattle.std.proofs.Common.{ap, ◌∙◌, true≢false, arith, length-set, get_or-set_same, get_or-set_other}
use Rattle.std.proofs.Math.Bool.{true, false}
use Rattle.std.proofs.Math.Nat.{zero-div}
use borrow.Author.Tests.{eqb-true, eqb-false, eq-eqb, ne_eqb, ltb-true, ltb-false}
use Rattle.std.specs.Int.Bits.{bit_and, bit_or, or_zero_r, and_zero_r}
use Rattle.std.proofs.lemmas.Nat.{or_lt, or_shr, and_shr, or_mod, and_mod}
use Rattle.std.proofs.Math.Dec.{eqb}
use Rattle.std.proofs.lemmas.List.{length-replicate}
use Rattle.std.proofs.Math.Seq.{set_out}
use Rattle.model.specs.Limits.{most_pages, mark_bytes}
use Rattle.theory_check.specs.Tests.{is_marked, marked, unmarked}

abbrev pub Bytes : List ℕ → Type 0
Bytes m = (i : ℕ) → get_or m i 0 < 256

-- The check's, a bit for each of 1,024 pages.
pub record IsMarks (m : List ℕ) : Type 0 where
  pub long : length m ≡ mark_bytes
  pub byte : Bytes m

zeros_byte : (n i : ℕ) → get_or {A = ℕ} (replicate n 0) i 0 ≡ 0
zeros_byte zero i = refl
zeros_byte (suc n) zero = refl
zeros_byte (suc n) (suc i) = zeros_byte n i

pub marks_none : IsMarks (replicate mark_bytes 0)
marks_none = record { long = length-replicate {A = ℕ} mark_bytes 0; byte = λ i. rw (zeros_byte mark_bytes i) (omega arith) }

pub none_marked : (q : ℕ) → is_marked (replicate mark_bytes 0) q ≡ false
unfolding is_marked
none_marked q = rw (zeros_byte mark_bytes (q / 8), zero-div (2 ^ (q % 8)))

-- ── a test at each number below n, computed once ──

abbrev all_below : ℕ → (ℕ → Bool) → Bool
all_below zero P = true
all_below (suc n) P = cond (P n) (all_below n P) false

at_below : (n : ℕ) (P : ℕ → Bool) → all_below n P ≡ true → (k : ℕ) → k < n → P k ≡ true
at_below zero P e k h = absurd (omega arith)
at_below (suc n) P e k h = go (P n) refl e (eqb k n) refl (λ e h. at_below n P e k h)
  where
    go : (b : Bool) → P n ≡ b → cond b (all_below n P) false ≡ true → (c : Bool) → eqb k n ≡ c → (all_below n P ≡ true → k < n → P k ≡ true) → P k ≡ true
    go true q e true f ih = ap P (eqb-true k n f) ∙ q
    go true q e false f ih = let d : k ≢ n = eqb-false k n f in ih e (omega arith)
    go false q e c f ih = absurd (true≢false (sym e))

-- Bit j of a byte with bit k alone, and of one with all bits but k: a table of 64 entries.
bits_of : (f : ℕ → ℕ) (in-it out : ℕ) → all_below 8 (λ (k : ℕ). all_below 8 (λ (j : ℕ). eqb (f k / 2 ^ j % 2) (cond (eqb j k) in-it out))) ≡ true
    → (k j : ℕ) → k < 8 → j < 8 → f k / 2 ^ j % 2 ≡ cond (eqb j k) in-it out
bits_of f in-it out e k j hk hj =
    eqb-true _ _ (at_below 8 (λ (j : ℕ). eqb (f k / 2 ^ j % 2) (cond (eqb j k) in-it out))
    (at_below 8 (λ (k : ℕ). all_below 8 (λ (j : ℕ). eqb (f k / 2 ^ j % 2) (cond (eqb j k) in-it out))) e k hk) j hj)

-- bit j of two bytes put together
or_bit : (a b j : ℕ) → bit_or a b / 2 ^ j % 2 ≡ bit_or (a / 2 ^ j % 2) (b / 2 ^ j % 2)
or_bit a b j = ap (λ (n : ℕ). n % 2) (or_shr a b j) ∙ or_mod (a / 2 ^ j) (b / 2 ^ j) 1

and_bit : (a b j : ℕ) → bit_and a b / 2 ^ j % 2 ≡ bit_and (a / 2 ^ j % 2) (b / 2 ^ j % 2)
and_bit a b j = ap (λ (n : ℕ). n % 2) (and_shr a b j) ∙ and_mod (a / 2 ^ j) (b / 2 ^ j) 1

or_one : (a : ℕ) → a < 2 → bit_or a 1 ≡ 1
or_one zero h = refl
or_one (suc zero) h = refl
or_one (suc (suc a)) h = absurd (omega arith)

and_one : (a : ℕ) → a < 2 → bit_and a 1 ≡ a
and_one zero h = refl
and_one (suc zero) h = refl
and_one (suc (suc a)) h = absurd (omega arith)

-- bit j of a byte in which bit k was set
set_bit : (a k j : ℕ) → k < 8 → j < 8 → eqb (bit_or a (1 * 2 ^ k % 256) / 2 ^ j % 2) 1 ≡ cond (eqb j k) true (eqb (a / 2 ^ j % 2) 1)
set_bit a k j hk hj = rw (or_bit a (1 * 2 ^ k % 256) j, bits_of (λ (k : ℕ). 1 * 2 ^ k % 256) 1 0 refl k j hk hj) (go (eqb j k))
  where
    x : ℕ
    x = a / 2 ^ j % 2

    go : (b : Bool) → eqb (bit_or x (cond b 1 0)) 1 ≡ cond b true (eqb x 1)
    go true = rw (or_one x (omega arith))
    go false = rw (or_zero_r x)

-- and in which it was cleared
clear_bit : (a k j : ℕ) → k < 8 → j < 8 → eqb (bit_and a (255 - 1 * 2 ^ k % 256) / 2 ^ j % 2) 1 ≡ cond (eqb j k) false (eqb (a / 2 ^ j % 2) 1)
clear_bit a k j hk hj = rw (and_bit a (255 - 1 * 2 ^ k % 256) j, bits_of (λ (k : ℕ). 255 - 1 * 2 ^ k % 256) 0 1 refl k j hk hj) (go (eqb j k))
  where
    x : ℕ
    x = a / 2 ^ j % 2

    go : (b : Bool) → eqb (bit_and x (cond b 0 1)) 1 ≡ cond b false (eqb x 1)
    go true = rw (and_zero_r x)
    go false = rw (and_one x (omega arith))

-- ── pages ──

-- The byte of page p gets the value v, in which bit p % 8 is `new` and the others are as they were.
module _ (m : List ℕ) (p v : ℕ) (new : Bool) (low : p / 8 < length m)
    (bits : (j : ℕ) → j < 8 → eqb (v / 2 ^ j % 2) 1 ≡ cond (eqb j (p % 8)) new (eqb (get_or m (p / 8) 0 / 2 ^ j % 2) 1)) where
  bit_changed : (q : ℕ) → is_marked (set m (p / 8) v) q ≡ cond (eqb q p) new (is_marked m q)
  unfolding is_marked
  bit_changed q = go (eqb (q / 8) (p / 8)) refl
    where
      same_page : q / 8 ≡ p / 8 → eqb (q % 8) (p % 8) ≡ eqb q p
      same_page e = by (eqb (q % 8) (p % 8)) refl
        where
          by : (b : Bool) → eqb (q % 8) (p % 8) ≡ b → b ≡ eqb q p
          by true f = sym (eq-eqb q p (omega (arith, eqb-true (q % 8) (p % 8) f)))
          by false f = sym (ne_eqb q p (λ z. eqb-false (q % 8) (p % 8) f (ap (λ (n : ℕ). n % 8) z)))

      go : (b : Bool) → eqb (q / 8) (p / 8) ≡ b
          → eqb (get_or (set m (p / 8) v) (q / 8) 0 / 2 ^ (q % 8) % 2) 1 ≡ cond (eqb q p) new (eqb (get_or m (q / 8) 0 / 2 ^ (q % 8) % 2) 1)
      go true e =
          let f = eqb-true (q / 8) (p / 8) e in
          rw (f, get_or-set_same m (p / 8) v 0 low, ← same_page f) (bits (q % 8) (omega arith))
      go false e =
          rw (get_or-set_other m (p / 8) (q / 8) v 0 (eqb-false (q / 8) (p / 8) e), ne_eqb q p (λ z. eqb-false (q / 8) (p / 8) e (ap (λ (n : ℕ). n / 8) z)))

module _ (m : List ℕ) (p : ℕ) (low : p / 8 < length m) where
  pub after_mark : (q : ℕ) → is_marked (marked m p) q ≡ cond (eqb q p) true (is_marked m q)
  unfolding marked
  after_mark = bit_changed m p _ true low (λ j h. set_bit (get_or m (p / 8) 0) (p % 8) j (omega arith) h)

  pub after_unmark : (q : ℕ) → is_marked (unmarked m p) q ≡ cond (eqb q p) false (is_marked m q)
  unfolding unmarked
  after_unmark = bit_changed m p _ false low (λ j h. clear_bit (get_or m (p / 8) 0) (p % 8) j (omega arith) h)

-- They stay bytes.
bytes_set : (m : List ℕ) (i v : ℕ) → Bytes m → v < 256 → Bytes (set m i v)
bytes_set m i v b h k = go (ltb i (length m)) (eqb k i) refl refl
  where
    go : (x y : Bool) → ltb i (length m) ≡ x → eqb k i ≡ y → get_or (set m i v) k 0 < 256
    go true true e f = rw (eqb-true k i f, get_or-set_same m i v 0 (ltb-true i (length m) e)) h
    go false true e f = rw (set_out m i v (ltb-false i (length m) e)) (b k)
    go x false e f = rw (get_or-set_other m i k v 0 (eqb-false k i f)) (b k)

module _ (m : List ℕ) (p : ℕ) (b : Bytes m) where
  pub bytes_mark : Bytes (marked m p)
  unfolding marked
  bytes_mark = bytes_set m (p / 8) _ b (or_lt 8 (get_or m (p / 8) 0) (1 * 2 ^ (p % 8) % 256) (b (p / 8)) (omega arith))

pub length_mark : (m : List ℕ) (p : ℕ) → length (marked m p) ≡ length m
unfolding marked
length_mark m p = length-set m (p / 8) _

pub length_unmark : (m : List ℕ) (p : ℕ) → length (unmarked m p) ≡ length m
unfolding unmarked
length_unmark m p = length-set m (p / 8) _

-- All pages of a byte with all bits are marked.
pub full_byte : (m : List ℕ) (q : ℕ) → get_or m (q / 8) 0 ≡ 255 → is_marked m q ≡ true
unfolding is_marked
full_byte m q e =
    ap (λ (n : ℕ). eqb (n / 2 ^ (q % 8) % 2) 1) e ∙ at_below 8 (λ (k : ℕ). eqb (255 / 2 ^ k % 2) 1) refl (q % 8) (omega arith)

-- ── the check's ──

pub marks_kept : (m : List ℕ) (p : ℕ) → IsMarks m → p < most_pages → IsMarks (marked m p)
marks_kept m p k low = record { long = length_mark m p ∙ k.long; byte = bytes_mark m p k.byte }

pub is_marked_lem : (m : List ℕ) (p q : ℕ) → IsMarks m → p < most_pages → q < most_pages → is_marked (marked m p) q ≡ cond (eqb q p) true (is_marked m q)
is_marked_lem m p q k low h = after_mark m p (omega (arith, k.long)) q
