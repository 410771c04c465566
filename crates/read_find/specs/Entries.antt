-- The entries of a path, as they are read one after another.
use Rattle.std.specs.Prelude.{◌≡◌, refl, List, [], ◌∷◌, ℕ, ◌+◌, ◌*◌, ◌%◌, ◌≤◌, ◌<◌, length, get_or, drop}
use Rattle.std.proofs.Common.{sym, ap, ◌∙◌, length-drop, get_or-drop, drop-drop}
use Rattle.std.proofs.Math.Option.{Option, none, some, map}
use native.Mathlib.Omega.{arith}
use Rattle.model.specs.Reading.{two_at}
use Rattle.model.specs.Common.{entries}

-- The four-byte number at i, low byte first.
unfoldable pub four_at : (bytes : List ℕ) → (at : ℕ) → ℕ
four_at s i = two_at s i + 65536 * two_at s (i + 2)

pub never : {A B : Type 0} {x : A} → none ≡ some x → B
never {x = x} e = let z : ◌≡◌ {A = ℕ} 0 1 = cc in absurd (omega arith)

-- Whole entries, or none.
pub whole : (s : List ℕ) → length s % 4 ≡ 0 → (p : List ℕ) × (entries s ≡ some p)
whole [] h = ([], refl)
whole (a ∷ []) h = absurd (omega arith)
whole (a ∷ b ∷ []) h = absurd (omega arith)
whole (a ∷ b ∷ c ∷ []) h = absurd (omega arith)
whole (a ∷ b ∷ c ∷ d ∷ s) h =
    let (p, e) = whole s (omega arith) in
    ((a + 256 * b + 65536 * c + 16777216 * d) ∷ p, rw e)

pub broken : (s : List ℕ) → (length s % 4 ≡ 0 → ⊥) → entries s ≡ none
broken [] h = absurd (h refl)
broken (a ∷ []) h = refl
broken (a ∷ b ∷ []) h = refl
broken (a ∷ b ∷ c ∷ []) h = refl
broken (a ∷ b ∷ c ∷ d ∷ s) h = rw (broken s (λ e. h (omega arith)))

-- The entry at i, and those after it.
pub record NextEntry (s : List ℕ) (i : ℕ) (path : List ℕ) : Type 0 where
  pub fits : i + 4 ≤ length s
  pub rest : List ℕ
  pub is : path ≡ four_at s i ∷ rest
  pub more : entries (drop (i + 4) s) ≡ some rest

module _ (s : List ℕ) (i : ℕ) where
  byte : (t : List ℕ) → drop i s ≡ t → (j : ℕ) → get_or s (i + j) 0 ≡ get_or t j 0
  byte t e j = sym (get_or-drop i s j 0) ∙ ap (λ (z : List ℕ). get_or z j 0) e

  pub read_four : (a b c d : ℕ) (t : List ℕ) → drop i s ≡ a ∷ b ∷ c ∷ d ∷ t → four_at s i ≡ a + 256 * b + 65536 * c + 16777216 * d
  unfolding four_at two_at
  read_four a b c d t e =
      let z : i + 0 ≡ i = omega arith in
      let y : i + 2 + 1 ≡ i + 3 = omega arith in
      let f = byte (a ∷ b ∷ c ∷ d ∷ t) e in
      rw y (omega (arith, rw z at (f 0), f 1, f 2, f 3))

  pub next_entry : (path : List ℕ) → i < length s → entries (drop i s) ≡ some path → NextEntry s i path
  next_entry path h = go (drop i s) refl
    where
      step : (a b c d : ℕ) (t : List ℕ) → drop i s ≡ a ∷ b ∷ c ∷ d ∷ t → (o : Option (List ℕ)) → entries t ≡ o
          → map (λ ns. (a + 256 * b + 65536 * c + 16777216 * d) ∷ ns) o ≡ some path → NextEntry s i path
      step a b c d t e none f g = never g
      step a b c d t e (some ns) f g =
          let n = a + 256 * b + 65536 * c + 16777216 * d in
          let p : path ≡ n ∷ ns = cc in
          let q : drop (i + 4) s ≡ t = sym (drop-drop 4 i s) ∙ ap (drop 4) e in
          record {
            fits = omega (arith, length-drop i s, ap length e);
            rest = ns;
            is = p ∙ ap (λ (m : ℕ). m ∷ ns) (sym (read_four a b c d t e));
            more = ap entries q ∙ f;
          }

      go : (t : List ℕ) → drop i s ≡ t → entries t ≡ some path → NextEntry s i path
      go [] e f = absurd (omega (arith, length-drop i s, ap length e))
      go (a ∷ []) e f = never f
      go (a ∷ b ∷ []) e f = never f
      go (a ∷ b ∷ c ∷ []) e f = never f
      go (a ∷ b ∷ c ∷ d ∷ t) e f = step a b c d t e (entries t) refl f
