-- What the tests of a page say of its bytes.
use Rattle.std.specs.Prelude.{◌≡◌, refl, List, [], ◌∷◌, ◌++◌, Bool, true, false, cond, ℕ, zero, suc, ◌+◌, ◌-◌, ◌≤◌, length, take, drop, get_or, replicate, eqb, leb}
use Rattle.std.proofs.Common.{sym, ap, ap₂, ◌∙◌, append_assoc, arith, length-drop, take-append-drop, drop_of_length-le, length-take-le, take-add, drop-drop, drop-cons, get_or-drop, eqb-true, leb-true}
use Rattle.model.specs.Limits.{page_size, capacity, settings_size, matrix_entries}
use Rattle.model.specs.Row.{Row, two, trailer, record_bytes, record_size, record_page, settings_page, record_on}
use Rattle.model.specs.Reading.{two_at, config_on, used_at, back_at, state_at, settled_at}
use Rattle.model.specs.BeforeWalk.{all_zero, settings_ok, trailer_of, is_free, settled_fits, back_fits, record_trailer, trailer_fits}
use Rattle.theory_rows.specs.Fits.{Ranges}
use Rattle.theory_rows.specs.Image.{length_record}
use Rattle.theory_decoding.specs.Valid.{both as and_both, ranges_say}
use Rattle.theory_check.specs.Facts.{both}
use Rattle.theory_check.specs.Heads.{AllBytes, two_at_lem}

-- ── parts of a page ──

zeros : (s : List ℕ) → all_zero s ≡ true → (n : ℕ) → length s ≡ n → s ≡ replicate n 0
unfolding all_zero
zeros s z n l = go s z ∙ ap (λ (n : ℕ). replicate n 0) l
  where
    go : (s : List ℕ) → all_zero s ≡ true → s ≡ replicate (length s) 0
    go [] z = refl
    go (x ∷ s) z = let t = and_both (eqb x 0) _ z in ap₂ ◌∷◌ (eqb-true x 0 t.0) (go s t.1)

-- two bytes, or some zeros, and what follows them
module _ (s : List ℕ) where
  next_two : (i : ℕ) → AllBytes s → i + 2 ≤ length s → drop i s ≡ two (two_at s i) ++ drop (i + 2) s
  next_two i b h =
      let first = drop-cons s i 0 (omega arith) in
      let second = drop-cons s (suc i) 0 (omega arith) in
      let two = two_at_lem s i b in
      let one : i + 1 ≡ suc i = omega arith in
      let other : i + 2 ≡ suc (suc i) = omega arith in
      cc

  next_zeros : (i n : ℕ) → i + n ≤ length s → all_zero (take n (drop i s)) ≡ true → drop i s ≡ replicate n 0 ++ drop (i + n) s
  next_zeros i n h z =
      sym (take-append-drop n (drop i s))
      ∙ ap₂ ◌++◌ (zeros (take n (drop i s)) z n (length-take-le n (drop i s) (omega (arith, length-drop i s)))) (drop-drop n i s)

  module _ (bytes : AllBytes s) (long : length s ≡ page_size) where
    trailer_is : all_zero (drop (capacity + 6) s) ≡ true → drop capacity s ≡ trailer (state_at s 0) (settled_at s 0) (used_at s 0) (back_at s 0)
    trailer_is z =
        let last = zeros (drop (capacity + 6) s) z 10 (omega (arith, length-drop (capacity + 6) s)) in
        let used = next_two (capacity + 2) bytes (omega arith) in
        let back = next_two (capacity + 4) bytes (omega arith) ∙ ap (λ (x : List ℕ). two (back_at s 0) ++ x) last in
        drop-cons s capacity 0 (omega arith) ∙ ap (λ (x : List ℕ). state_at s 0 ∷ x)
        (drop-cons s (capacity + 1) 0 (omega arith) ∙ ap (λ (x : List ℕ). settled_at s 0 ∷ x) (used ∙ ap (λ (x : List ℕ). two (used_at s 0) ++ x) back))

-- ── trailers ──

-- the trailer's bytes in the page
pub trailer_two : (s : List ℕ) (i : ℕ) → two_at (trailer_of s) i ≡ two_at s (capacity + i)
unfolding two_at
trailer_two s i =
    let next : capacity + (i + 1) ≡ capacity + i + 1 = omega arith in
    rw (get_or-drop capacity s i 0, get_or-drop capacity s (i + 1) 0, next)

-- What the trailer of a page in use says: page p of an image of so many pages.
pub record TrailerIs (pages p : ℕ) (s : List ℕ) : Type 0 where
  pub kind : state_at s 0 ≡ 1
  pub settled : settled_fits p (settled_at s 0) ≡ true
  pub used : used_at s 0 ≤ capacity
  pub back : back_fits pages p (back_at s 0) ≡ true
  pub last : all_zero (drop (capacity + 6) s) ≡ true

pub trailer_says : (pages p : ℕ) (s : List ℕ) → trailer_fits pages p (trailer_of s) ≡ true → is_free (trailer_of s) ≡ false → TrailerIs pages p s
unfolding trailer_fits record_trailer
trailer_says pages p s e f =
    let t : record_trailer pages p (trailer_of s) ≡ true = rw f at e in
    let last = and_both _ _ t in
    let back = and_both _ _ last.0 in
    let used = and_both _ _ back.0 in
    let settled = and_both _ _ used.0 in
    record {
      kind = sym (get_or-drop capacity s 0 0) ∙ eqb-true _ _ settled.0;
      settled = ap (settled_fits p) (sym (get_or-drop capacity s 1 0)) ∙ settled.1;
      used = rw (← trailer_two s 2) (leb-true _ _ (and_both (leb 6 (two_at (trailer_of s) 2)) _ used.1).1);
      back = ap (back_fits pages p) (sym (trailer_two s 4)) ∙ back.1;
      last = ap all_zero (sym (drop-drop 6 capacity s)) ∙ last.1;
    }

-- ── record pages ──

-- A page with a record: the bytes used, zeros, the trailer.
page_is : (pages p : ℕ) (s : List ℕ) → AllBytes s → length s ≡ page_size → TrailerIs pages p s
    → all_zero (take (capacity - used_at s 0) (drop (used_at s 0) s)) ≡ true
    → s ≡ take (used_at s 0) s ++ replicate (capacity - used_at s 0) 0 ++ trailer 1 (settled_at s 0) (used_at s 0) (back_at s 0)
page_is pages p s bytes long r tail =
    let u = used_at s 0 in
    let few = r.used in
    let whole : capacity ≡ u + (capacity - u) = omega arith in
    let front : take capacity s ≡ take u s ++ replicate (capacity - u) 0 =
    ap (λ (n : ℕ). take n s) whole ∙ take-add u (capacity - u) s
    ∙ ap (λ (x : List ℕ). take u s ++ x)
    (zeros (take (capacity - u) (drop u s)) tail (capacity - u) (length-take-le (capacity - u) (drop u s) (omega (arith, length-drop u s)))) in
    sym (take-append-drop capacity s)
    ∙ ap₂ ◌++◌ front (trailer_is s bytes long r.last ∙ ap (λ (k : ℕ). trailer k (settled_at s 0) u (back_at s 0)) r.kind)

one_or_none : (n : ℕ) → n ≤ 1 → n ≡ cond (eqb n 1) 1 0
one_or_none zero h = refl
one_or_none (suc zero) h = refl
one_or_none (suc (suc n)) h = absurd (omega arith)

settled_low : (p n : ℕ) → settled_fits p n ≡ true → n ≤ 1
settled_low p n =
    both (λ (b : Bool). b ≡ true → n ≤ 1) (eqb p 1) (λ e. omega (arith, eqb-true n 1 e)) (leb-true n 1)

-- So it is the page of the record whose bytes stand there.
pub record_page_lem : (pages p : ℕ) (s : List ℕ) → AllBytes s → length s ≡ page_size → TrailerIs pages p s
    → all_zero (take (capacity - used_at s 0) (drop (used_at s 0) s)) ≡ true → (r : Row) → take (used_at s 0) s ≡ record_bytes r
    → s ≡ record_page (record_on p (eqb (settled_at s 0) 1) (back_at s 0) r)
record_page_lem pages p s bytes long k tail r e =
    let n : used_at s 0 ≡ record_size r = sym (length-take-le (used_at s 0) s (omega (arith, k.used))) ∙ ap length e ∙ length_record r in
    let b = one_or_none (settled_at s 0) (settled_low p (settled_at s 0) k.settled) in
    page_is pages p s bytes long k tail ∙ λ i. e i ++ replicate (capacity - n i) 0 ++ trailer 1 (b i) (n i) (back_at s 0)

-- A page that is all zero is blank.
pub blank_page : (s : List ℕ) → length s ≡ page_size → all_zero s ≡ true → s ≡ replicate page_size 0
blank_page s long z = zeros s z page_size long

-- ── the settings page ──

module _ (s : List ℕ) (bytes : AllBytes s) (long : length s ≡ page_size) where
  settings_trailer : two_at s capacity ≡ 2 → used_at s 0 ≡ settings_size → all_zero (take 12 (drop (capacity + 4) s)) ≡ true
      → drop capacity s ≡ trailer 2 0 settings_size 0
  settings_trailer k u z =
      let a = next_two s capacity bytes (omega arith) ∙ ap (λ (n : ℕ). two n ++ drop (capacity + 2) s) k in
      let b = next_two s (capacity + 2) bytes (omega arith) ∙ ap (λ (n : ℕ). two n ++ drop (capacity + 4) s) u in
      let c = next_zeros s (capacity + 4) 12 (omega arith) z in
      let d = drop_of_length-le s {i = page_size} (omega arith) in
      cc

  settings_front : get_or s 3 0 ≡ 0 → all_zero (take 8 (drop 8 s)) ≡ true
      → s ≡ two (two_at s 0) ++ (get_or s 2 0 ∷ 0 ∷ two (two_at s 4)) ++ two (two_at s 6) ++ replicate 8 0 ++ drop 16 s
  settings_front e z =
      let a = next_two s 0 bytes (omega arith) in
      let b = drop-cons s 2 0 (omega arith) in
      let c = drop-cons s 3 0 (omega arith) in
      let d = next_two s 4 bytes (omega arith) in
      let f = next_two s 6 bytes (omega arith) in
      let g = next_zeros s 8 8 (omega arith) z in
      cc

  -- the matrix, then zeros up to the trailer
  settings_rest : all_zero (take (capacity - settings_size) (drop settings_size s)) ≡ true
      → drop 16 s ≡ take matrix_entries (drop 16 s) ++ replicate (capacity - settings_size) 0 ++ drop capacity s
  settings_rest z =
      sym (take-append-drop matrix_entries (drop 16 s))
      ∙ ap (λ (x : List ℕ). take matrix_entries (drop 16 s) ++ x)
      (drop-drop matrix_entries 16 s ∙ next_zeros s settings_size (capacity - settings_size) (omega arith) z)
      ∙ sym (append_assoc (take matrix_entries (drop 16 s)) (replicate (capacity - settings_size) 0) (drop capacity s))

-- Page 0 of an image of n pages.
pub record SettingsIs (s : List ℕ) (n : ℕ) : Type 0 where
  pub pages : two_at s 0 ≡ n
  pub ranges : Ranges (config_on s)
  pub same : s ≡ settings_page (config_on s)

pub settings_say : (s : List ℕ) (n : ℕ) → AllBytes s → length s ≡ page_size → settings_ok s n ≡ true → SettingsIs s n
unfolding settings_ok
settings_say s n bytes long e =
    let trailer = and_both _ _ e in
    let tail = and_both _ _ trailer.0 in
    let gap = and_both _ _ tail.0 in
    let spare = and_both _ _ gap.0 in
    let range = and_both _ _ spare.0 in
    let last = and_both _ _ trailer.1 in
    let used = and_both _ _ last.0 in
    let front : List ℕ → List ℕ = λ x. two (two_at s 0) ++ (get_or s 2 0 ∷ 0 ∷ two (two_at s 4)) ++ two (two_at s 6) ++ replicate 8 0 ++ x in
    record {
      pages = eqb-true _ _ range.0;
      ranges = ranges_say (config_on s) range.1;
      same = settings_front s bytes long (eqb-true (get_or s 3 0) 0 spare.1) gap.1
          ∙ ap front (settings_rest s bytes long tail.1
          ∙ ap (λ (x : List ℕ). take matrix_entries (drop 16 s) ++ replicate (capacity - settings_size) 0 ++ x)
          (settings_trailer s bytes long (eqb-true (two_at s capacity) 2 used.0) (eqb-true (used_at s 0) settings_size used.1) last.1));
    }
