-- The store that format leaves, page by page.
use Rattle.std.specs.Prelude.{◌≡◌, true, ℕ, ◌+◌, ◌-◌, ◌/◌, ◌%◌, ◌≤◌, ◌<◌, replicate}
use Rattle.std.proofs.Math.Path.{refl, sym}
use Rattle.std.proofs.Common.{ap, ◌∙◌}
use mathlib.Core.List.{List, [], ◌∷◌, ◌++◌, append_assoc}
use native.Mathlib.Omega.{arith}
use Rattle.std.proofs.Math.ListN.{length, length-append}
use Rattle.std.proofs.lemmas.List.{length-replicate, replicate-append-replicate}
use Rattle.model.specs.Limits.{page_size, capacity, settings_size, matrix_entries}
use Rattle.model.specs.Row.{Row, nil, agg, two, header, trailer, settings_page, record_page, Config, record_on}
use Rattle.model.specs.Calls.Format.{root_head}
use Rattle.base_numbers.specs.Over.{over, over_right, over_left, over_all}

abbrev pub first_root : (label : ℕ) → Row
first_root label = agg (root_head label) nil nil

-- Page 1, page 0, and so many zero bytes.
unfoldable pub root_page : (label : ℕ) → List ℕ
root_page label = record_page (record_on 1 true 0 (first_root label))

unfoldable pub first_page : Config → List ℕ
first_page st = settings_page st

unfoldable pub zeros : ℕ → List ℕ
zeros n = replicate n 0

-- What the settings' numbers are below, so that each fits its bytes.
pub record Numbers (st : Config) : Type 0 where
  pub pages : st.pages < 65536
  pub target : st.target < 256
  pub tolerance : st.tolerance < 65536
  pub form : st.form < 65536
  pub entries : length st.matrix ≡ matrix_entries

-- ── writes to a page that is zero behind what was written ──

pub length_zeros : (n : ℕ) → length (zeros n) ≡ n
unfolding zeros
length_zeros n = length-replicate n 0

pub zeros_split : (a b : ℕ) → zeros (a + b) ≡ zeros a ++ zeros b
unfolding zeros
zeros_split a b = sym (replicate-append-replicate a b 0)

-- The next write, k bytes behind what was written.
pub put_next : (front xs : List ℕ) (at k m : ℕ) → at ≡ length front + k → k + length xs ≤ m
    → over at xs (front ++ zeros m) ≡ (front ++ (zeros k ++ xs)) ++ zeros (m - (k + length xs))
put_next front xs at k m e h =
    let n = m - (k + length xs) in
    let s : m ≡ k + (length xs + n) = omega arith in
    ap (λ (z : ℕ). over at xs (front ++ zeros z)) s
    ∙ over_right at k xs front (zeros (k + (length xs + n))) e
    ∙ ap (λ (z : List ℕ). front ++ over k xs z) (zeros_split k (length xs + n))
    ∙ ap (λ (z : List ℕ). front ++ z) (over_right k 0 xs (zeros k) (zeros (length xs + n)) (omega (arith, length_zeros k)))
    ∙ ap (λ (z : List ℕ). front ++ (zeros k ++ over 0 xs z)) (zeros_split (length xs) n)
    ∙ ap (λ (z : List ℕ). front ++ (zeros k ++ z)) (over_left 0 xs (zeros (length xs)) (zeros n) (omega (arith, length_zeros (length xs))))
    ∙ ap (λ (z : List ℕ). front ++ (zeros k ++ (z ++ zeros n))) (over_all xs (zeros (length xs)) (sym (length_zeros (length xs))))
    ∙ simp append_assoc

-- A page that is zero behind what was written.
pub record Written (page front : List ℕ) (m : ℕ) : Type 0 where
  pub is : page ≡ front ++ zeros m

pub after : (page next front xs : List ℕ) (at k m n : ℕ) → Written page front m → next ≡ over at xs page → at ≡ length front + k → k + (length xs + n) ≡ m
    → Written next (front ++ (zeros k ++ xs)) n
after page next front xs at k m n w e f g =
    let h : m - (k + length xs) ≡ n = omega arith in
    record { is = e ∙ ap (over at xs) w.is ∙ put_next front xs at k m f (omega arith) ∙ ap (λ (z : ℕ). (front ++ (zeros k ++ xs)) ++ zeros z) h }

-- The same right behind what was written.
pub next : (page q front xs : List ℕ) (at m n : ℕ) → Written page front m → q ≡ over at xs page → at ≡ length front → length xs + n ≡ m
    → Written q (front ++ xs) n
unfolding zeros
next page q front xs at m n w e f g = after page q front xs at 0 m n w e (omega arith) (omega arith)

-- ── page 0 and page 1 ──

-- Pages 1 and 0 with their zero bytes folded.
root_folded : (label : ℕ) → header 1 (root_head label) 6 ++ (zeros 4074 ++ (two 257 ++ (two 6 ++ zeros 12)))
    ≡ record_page (record_on 1 true 0 (first_root label))
unfolding zeros
root_folded label = refl

settings_folded : (st : Config) → settings_page st
    ≡ two st.pages ++ ((st.target ∷ 0 ∷ two st.tolerance) ++ (two st.form
    ++ (zeros 8 ++ (st.matrix ++ (zeros (capacity - settings_size) ++ (two 2 ++ (two settings_size ++ zeros 12)))))))
unfolding zeros
settings_folded st =
    ap (λ (z : List ℕ). two st.pages ++ ((st.target ∷ 0 ∷ two st.tolerance) ++ (two st.form ++ (zeros 8 ++ z))))
    (append_assoc st.matrix (replicate (capacity - settings_size) 0) (trailer 2 0 settings_size 0))

module _ (st : Config) (k : Numbers st) where
  abbrev numbers : List ℕ
  numbers = two st.pages ++ two st.target ++ two st.tolerance ++ two st.form

  pub settings_written : (p₀ p₁ p₂ p₃ p₄ p₅ p₆ p₇ : List ℕ) → p₀ ≡ zeros page_size → p₁ ≡ over 0 (two st.pages) p₀ → p₂ ≡ over 2 (two st.target) p₁
      → p₃ ≡ over 4 (two st.tolerance) p₂ → p₄ ≡ over 6 (two st.form) p₃ → p₅ ≡ over 16 st.matrix p₄ → p₆ ≡ over capacity (two 2) p₅
      → p₇ ≡ over (capacity + 2) (two settings_size) p₆
      → p₇ ≡ first_page st
  unfolding first_page
  settings_written p₀ p₁ p₂ p₃ p₄ p₅ p₆ p₇ z e₁ e₂ e₃ e₄ e₅ e₆ e₇ =
      let m = k.entries in
      let w₀ : Written p₀ [] page_size = record { is = z } in
      let w₁ = next p₀ p₁ [] (two st.pages) 0 page_size 4094 w₀ e₁ refl refl in
      let w₂ = next p₁ p₂ _ (two st.target) 2 4094 4092 w₁ e₂ refl refl in
      let w₃ = next p₂ p₃ _ (two st.tolerance) 4 4092 4090 w₂ e₃ refl refl in
      let w₄ : Written p₄ numbers 4088 = next p₃ p₄ _ (two st.form) 6 4090 4088 w₃ e₄ refl refl in
      let l₅ : length (zeros 8 ++ st.matrix) ≡ 264 = length-append (zeros 8) st.matrix ∙ omega (arith, length_zeros 8) in
      let w₅ : Written p₅ (numbers ++ (zeros 8 ++ st.matrix)) 3824 = after p₄ p₅ numbers st.matrix 16 8 4088 3824 w₄ e₅ refl (omega arith) in
      let w₆ : Written p₆ ((numbers ++ (zeros 8 ++ st.matrix)) ++ (zeros (capacity - settings_size) ++ two 2)) 14 =
      after p₅ p₆ _ (two 2) capacity (capacity - settings_size) 3824 14 w₅ e₆ (omega arith) refl in
      let l₆ : length (zeros (capacity - settings_size) ++ two 2) ≡ 3810 =
      length-append (zeros (capacity - settings_size)) (two 2) ∙ omega (arith, length_zeros (capacity - settings_size)) in
      let l₇ = length-append (zeros 8 ++ st.matrix) (zeros (capacity - settings_size) ++ two 2) in
      let w₇ = next p₆ p₇ _ (two settings_size) (capacity + 2) 14 12 w₆ e₇ (omega arith) refl in
      w₇.is ∙ shape
    where
      shape : (((numbers ++ (zeros 8 ++ st.matrix)) ++ (zeros (capacity - settings_size) ++ two 2)) ++ two settings_size) ++ zeros 12 ≡ settings_page st
      shape =
          let h = k.target in
          let a : st.target % 256 ≡ st.target = omega arith in
          let b : st.target / 256 % 256 ≡ 0 = omega arith in
          rw (a, b) (simp append_assoc) ∙ sym (settings_folded st)

pub root_written : (label : ℕ) (p₀ p₁ p₂ p₃ p₄ p₅ : List ℕ) → label < 65536 → p₀ ≡ zeros page_size → p₁ ≡ over 0 (two 1) p₀ → p₂ ≡ over 2 (two label) p₁
    → p₃ ≡ over 4 (two 6) p₂
    → p₄ ≡ over capacity (two 257) p₃ → p₅ ≡ over (capacity + 2) (two 6) p₄ → p₅ ≡ root_page label
unfolding root_page
root_written label p₀ p₁ p₂ p₃ p₄ p₅ h z e₁ e₂ e₃ e₄ e₅ =
    let w₀ : Written p₀ [] page_size = record { is = z } in
    let w₁ = next p₀ p₁ [] (two 1) 0 page_size 4094 w₀ e₁ refl refl in
    let w₂ = next p₁ p₂ _ (two label) 2 4094 4092 w₁ e₂ refl refl in
    let w₃ : Written p₃ (header 1 (root_head label) 6) 4090 = next p₂ p₃ _ (two 6) 4 4092 4090 w₂ e₃ refl refl in
    let w₄ : Written p₄ (header 1 (root_head label) 6 ++ (zeros 4074 ++ two 257)) 14 =
    after p₃ p₄ (header 1 (root_head label) 6) (two 257) capacity 4074 4090 14 w₃ e₄ refl refl in
    let l₄ : length (zeros 4074 ++ two 257) ≡ 4076 = length-append (zeros 4074) (two 257) ∙ omega (arith, length_zeros 4074) in
    let w₅ = next p₄ p₅ _ (two 6) (capacity + 2) 14 12 w₄ e₅ (omega arith) refl in
    w₅.is ∙ shape label
  where
    shape : (label : ℕ) → ((header 1 (root_head label) 6 ++ (zeros 4074 ++ two 257)) ++ two 6) ++ zeros 12
        ≡ record_page (record_on 1 true 0 (first_root label))
    shape label = simp append_assoc (root_folded label)
