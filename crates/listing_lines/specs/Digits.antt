-- Laws of numbers in decimal and bytes in hexadecimal.
use Rattle.std.specs.Prelude.{◌≡◌, refl, Bool, true, false, cond, List, [], ◌∷◌, ◌++◌, ℕ, zero, suc, ◌+◌, ◌*◌, ◌/◌, ◌%◌, ◌≤◌, ◌<◌, length, take, get_or, ltb}
use Rattle.std.proofs.Math.Path.{sym}
use Rattle.std.proofs.Common.{ap, ◌∙◌, append_assoc, arith, add-one, ltb-true, ltb-false, lt-ltb, le-ltb, length-append, take_all, length-take-le}
use Rattle.std.proofs.Math.Seq.{take-suc}
use Rattle.listing_lines.specs.Text.{digit, decimal_by, decimal_of, hex_of, content_of, line_of, head_line, refused_line}

-- ── decimal ──

-- Any fuel above the number gives the same digits.
fuel : (k j n : ℕ) → n < k → n < j → decimal_by k n ≡ decimal_by j n
unfolding decimal_by
fuel zero j n a b = absurd (omega arith)
fuel (suc k) zero n a b = absurd (omega arith)
fuel (suc k) (suc j) n a b = go (ltb n 10) refl (λ h. fuel k j (n / 10) (omega arith) (omega arith))
  where
    go : (t : Bool) → ltb n 10 ≡ t → (10 ≤ n → decimal_by k (n / 10) ≡ decimal_by j (n / 10))
        → cond t (digit n ∷ []) (decimal_by k (n / 10) ++ (digit (n % 10) ∷ [])) ≡ cond t (digit n ∷ []) (decimal_by j (n / 10) ++ (digit (n % 10) ∷ []))
    go true e ih = refl
    go false e ih = ap (λ (l : List ℕ). l ++ (digit (n % 10) ∷ [])) (ih (ltb-false n 10 e))

pub decimal_last : (n : ℕ) → n < 10 → decimal_of n ≡ digit n ∷ []
unfolding decimal_of decimal_by
decimal_last n h = rw (lt-ltb n 10 h)

pub decimal_more : (n : ℕ) → 10 ≤ n → decimal_of n ≡ decimal_of (n / 10) ++ (digit (n % 10) ∷ [])
unfolding decimal_of decimal_by
decimal_more n h = rw (le-ltb n 10 h) (ap (λ (l : List ℕ). l ++ (digit (n % 10) ∷ [])) (fuel n (suc (n / 10)) (n / 10) (omega arith) (omega arith)))

longer : (k n : ℕ) → length (decimal_of (n / 10)) ≤ k → length (decimal_of n) ≤ suc k
longer k n h = go (ltb n 10) refl
  where
    go : (t : Bool) → ltb n 10 ≡ t → length (decimal_of n) ≤ suc k
    go true e = rw (decimal_last n (ltb-true n 10 e)) (omega arith)
    go false e = rw (decimal_more n (ltb-false n 10 e)) (omega (arith, length-append (decimal_of (n / 10)) (digit (n % 10) ∷ [])))

one_digit : (n : ℕ) → n < 10 → length (decimal_of n) ≤ 1
one_digit n h = rw (decimal_last n h) (omega arith)

pub two_digits : (n : ℕ) → n < 100 → length (decimal_of n) ≤ 2
two_digits n h = longer 1 n (one_digit (n / 10) (omega arith))

pub five_digits : (n : ℕ) → n < 65536 → length (decimal_of n) ≤ 5
five_digits n h =
    longer 4 n (longer 3 (n / 10) (longer 2 (n / 10 / 10) (two_digits (n / 10 / 10 / 10) (omega arith))))

-- ── hexadecimal ──

hex_append : (a b : List ℕ) → hex_of (a ++ b) ≡ hex_of a ++ hex_of b
unfolding hex_of
hex_append [] b = refl
hex_append (x ∷ a) b = ap (λ (l : List ℕ). digit (x / 16) ∷ digit (x % 16) ∷ l) (hex_append a b)

pub length_hex : (a : List ℕ) → length (hex_of a) ≡ 2 * length a
unfolding hex_of
length_hex [] = refl
length_hex (x ∷ a) = omega (arith, length_hex a)

pub hex_none : (a : List ℕ) → hex_of (take 0 a) ≡ []
unfolding hex_of
hex_none a = refl

pub hex_all : (i : ℕ) (a : List ℕ) → length a ≤ i → hex_of (take i a) ≡ hex_of a
hex_all i a h = ap hex_of (take_all i a h)

module _ (bs : List ℕ) (i : ℕ) (h : i < length bs) where
  abbrev high : List ℕ
  high = digit (get_or bs i 0 / 16) ∷ []

  abbrev low : List ℕ
  low = digit (get_or bs i 0 % 16) ∷ []

  -- One byte more.
  pub hex_next : hex_of (take (i + 1) bs) ≡ hex_of (take i bs) ++ high ++ low
  unfolding hex_of
  hex_next = rw (add-one, take-suc bs i 0 h) (hex_append (take i bs) (get_or bs i 0 ∷ []) ∙ sym (append_assoc (hex_of (take i bs)) high low))

-- ── content ──

pub content_empty : (c : List ℕ) → length c ≡ 0 → content_of c ≡ 45 ∷ []
unfolding content_of
content_empty [] h = refl
content_empty (b ∷ c) h = absurd (omega arith)

pub content_hex : (c : List ℕ) → (length c ≡ 0 → ⊥) → content_of c ≡ hex_of c
unfolding content_of
content_hex [] h = absurd (h refl)
content_hex (b ∷ c) h = refl

content_length : (c : List ℕ) → length (content_of c) ≤ 1 + 2 * length c
unfolding content_of
content_length [] = omega arith
content_length (b ∷ c) = omega (arith, length_hex (b ∷ c))

pub line_length : (level letter label : ℕ) (c : List ℕ) (origin : ℕ) → level < 100 → label < 65536 → origin < 10
    → length (line_of level letter label c origin) ≤ 15 + 2 * length c
unfolding line_of
line_length level letter label c origin a b o =
    simp length-append (omega (arith, two_digits level a, five_digits label b, content_length c, one_digit origin o))

-- ── lengths of the pieces of a line ──

pub decimal_long : (n : ℕ) → 10 ≤ n → length (decimal_of n) ≡ length (decimal_of (n / 10)) + 1
decimal_long n h = ap length (decimal_more n h) ∙ length-append (decimal_of (n / 10)) (digit (n % 10) ∷ [])

-- A line but for its last field, the origin, and what ends it.
unfoldable pub fields_of : (level letter label : ℕ) → (content : List ℕ) → List ℕ
fields_of level letter label c =
    decimal_of level ++ (32 ∷ []) ++ (letter ∷ []) ++ (32 ∷ []) ++ decimal_of label ++ (32 ∷ []) ++ content_of c

pub fields_long : (level letter label : ℕ) (c : List ℕ)
    → length (fields_of level letter label c) ≡ length (decimal_of level) + length (decimal_of label) + length (content_of c) + 4
unfolding fields_of
fields_long level letter label c = simp length-append (omega arith)

pub line_long : (level letter label : ℕ) (c : List ℕ) (origin : ℕ)
    → length (line_of level letter label c origin) ≡ length (fields_of level letter label c) + length (decimal_of origin) + 2
unfolding line_of fields_of
line_long level letter label c origin = simp length-append (omega arith)

pub head_long : (p f r : ℕ) → length (head_line p f r) ≡ length (decimal_of p) + length (decimal_of f) + length (decimal_of r) + 22
unfolding head_line
head_long p f r = simp length-append (omega arith)

pub refused_long : (n : ℕ) → length (refused_line n) ≡ length (decimal_of n) + 9
unfolding refused_line
refused_long n = simp length-append (omega arith)

-- ── a turn of the loop over bytes ──

pub hex_long : (i : ℕ) (bs : List ℕ) → i ≤ length bs → length (hex_of (take i bs)) ≡ 2 * i
hex_long i bs h = length_hex (take i bs) ∙ ap (λ (n : ℕ). 2 * n) (length-take-le i bs h)

pub hex_turn : (bs : List ℕ) (i b g k : ℕ) → i < length bs → b ≡ get_or bs i 0 → g ≡ digit (b / 16) → k ≡ digit (b % 16)
    → hex_of (take i bs) ++ (g ∷ []) ++ (k ∷ []) ≡ hex_of (take (i + 1) bs)
hex_turn bs i b g k h e p q = rw (p, q, e) (sym (hex_next bs i h))
