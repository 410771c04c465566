-- What the page writes do to the pages of an image.
use Rattle.std.specs.Prelude.{◌≡◌, refl, Bool, true, false, ℕ, ◌+◌, ◌-◌, ◌*◌, ◌≤◌, eqb, leb, length, take, drop}
use Rattle.std.proofs.Math.Path.{sym, ap}
use Rattle.std.proofs.Common.{◌∙◌, eqb-true, leb-true, leb-false, length-append, length-take, length-drop, take-append-drop, take_at, drop_at, drop-drop, length-take-le}
use Rattle.std.proofs.Math.Bool.{cond}
use mathlib.Core.List.{List, ◌++◌, append_assoc}
use native.Mathlib.Omega.{arith}
use Rattle.std.proofs.lemmas.Bool.{eqb-false}
use Rattle.std.proofs.lemmas.List.{take-append-le, drop-append-le}
use Rattle.model.specs.Limits.{page_size, capacity}
use Rattle.model.specs.Row.{Row, nil, agg, lit, rec, two}
use Rattle.model.specs.Reading.{page_of}
use Rattle.base_numbers.specs.Over.{over, over_is, length_over, over_left, over_right, over_all}
use Rattle.grow_pages.specs.Write.{set_page}
use Rattle.grow_pages.specs.Links.{links, Below}

-- ── a write, and what stands before it and after it ──

slice_left : (m n : ℕ) (a b : List ℕ) → m + n ≤ length a → take n (drop m (a ++ b)) ≡ take n (drop m a)
slice_left m n a b h =
    let e : length (drop m a) ≡ length a - m = length-drop m a in
    ap (take n) (drop-append-le m a b (omega arith)) ∙ take-append-le n (drop m a) b (omega arith)

before_over : (at m n : ℕ) (xs l : List ℕ) → m + n ≤ at → at ≤ length l → take n (drop m (over at xs l)) ≡ take n (drop m l)
before_over at m n xs l h k =
    let t : length (take at l) ≡ at = length-take-le at l k in
    ap (λ (z : List ℕ). take n (drop m z)) (over_is at xs l)
    ∙ slice_left m n (take at l) (xs ++ drop (at + length xs) l) (omega arith)
    ∙ sym (slice_left m n (take at l) (drop at l) (omega arith))
    ∙ ap (λ (z : List ℕ). take n (drop m z)) (take-append-drop at l)

after_over : (at m : ℕ) (xs l : List ℕ) → at + length xs ≤ m → at + length xs ≤ length l → drop m (over at xs l) ≡ drop m l
after_over at m xs l h k =
    let a = at + length xs in
    let e : a + (m - a) ≡ m = omega arith in
    let n : length (take at l ++ xs) ≡ a = simp (length-append, length-take) (omega arith) in
    let w : drop a (over at xs l) ≡ drop a l =
    ap (drop a) (over_is at xs l ∙ sym (append_assoc (take at l) xs (drop a l))) ∙ drop_at (take at l ++ xs) (drop a l) a n in
    ap (λ (i : ℕ). drop i (over at xs l)) (sym e) ∙ sym (drop-drop (m - a) a (over at xs l)) ∙ ap (drop (m - a)) w ∙ drop-drop (m - a) a l
    ∙ ap (λ (i : ℕ). drop i l) e

-- ── a write within a page ──

pub length_page : (p : ℕ) (img : List ℕ) → page_size * p + page_size ≤ length img → length (page_of img p) ≡ page_size
length_page p img h =
    let e : length (drop (page_size * p) img) ≡ length img - page_size * p = length-drop (page_size * p) img in
    length-take-le page_size (drop (page_size * p) img) (omega arith)

module _ (p k : ℕ) (xs img : List ℕ) (h : k + length xs ≤ page_size) (room : page_size * p + page_size ≤ length img) where
  pub page_same : page_of (over (page_size * p + k) xs img) p ≡ over k xs (page_of img p)
  page_same =
      let a = page_size * p in
      let d = drop a img in
      let t : length (take a img) ≡ a = length-take-le a img (omega arith) in
      let n : length (take page_size d) ≡ page_size = length_page p img room in
      let e : over (a + k) xs img ≡ take a img ++ over k xs d =
      ap (over (a + k) xs) (sym (take-append-drop a img)) ∙ over_right (a + k) k xs (take a img) d (omega arith) in
      let f : over k xs d ≡ over k xs (take page_size d) ++ drop page_size d =
      ap (over k xs) (sym (take-append-drop page_size d)) ∙ over_left k xs (take page_size d) (drop page_size d) (omega arith) in
      ap (λ (z : List ℕ). take page_size (drop a z)) e
      ∙ ap (take page_size) (drop_at (take a img) (over k xs d) a t ∙ f)
      ∙ take_at (over k xs (take page_size d)) (drop page_size d) page_size (length_over k xs (take page_size d) (omega arith) ∙ n)

  pub page_other : (q : ℕ) → (q ≡ p → ⊥) → page_of (over (page_size * p + k) xs img) q ≡ page_of img q
  page_other q e = go (leb q p) refl
    where
      go : (b : Bool) → leb q p ≡ b → page_of (over (page_size * p + k) xs img) q ≡ page_of img q
      go true f = before_over (page_size * p + k) (page_size * q) page_size xs img (omega (arith, leb-true q p f, e)) (omega arith)
      go false f = ap (take page_size) (after_over (page_size * p + k) (page_size * q) xs img (omega (arith, leb-false q p f)) (omega arith))

  -- A write within page p changes that page alone.
  pub page_over : (q : ℕ) → page_of (over (page_size * p + k) xs img) q ≡ cond (eqb q p) (over k xs (page_of img p)) (page_of img q)
  page_over q = go (eqb q p) refl
    where
      go : (b : Bool) → eqb q p ≡ b → page_of (over (page_size * p + k) xs img) q ≡ cond b (over k xs (page_of img p)) (page_of img q)
      go true e = ap (page_of (over (page_size * p + k) xs img)) (eqb-true q p e) ∙ page_same
      go false e = page_other q (eqb-false q p e)

-- ── a page set ──

module _ (p : ℕ) (s img : List ℕ) (long : length s ≡ page_size) (room : page_size * p + page_size ≤ length img) where
  pub length_set_page : length (set_page p s img) ≡ length img
  unfolding set_page
  length_set_page = length_over (page_size * p) s img (omega arith)

  pub page_set : (q : ℕ) → page_of (set_page p s img) q ≡ cond (eqb q p) s (page_of img q)
  unfolding set_page
  page_set q =
      let z : page_size * p ≡ page_size * p + 0 = omega arith in
      ap (λ (i : ℕ). page_of (over i s img) q) z
      ∙ page_over p 0 s img (omega arith) room q
      ∙ ap (λ (v : List ℕ). cond (eqb q p) v (page_of img q)) (over_all s (page_of img p) (long ∙ sym (length_page p img room)))

-- ── back links ──

pub length_links : (n q : ℕ) (row : Row) (img : List ℕ) → Below n row → page_size * n ≤ length img → length (links q row img) ≡ length img
length_links n q nil img b h = refl
length_links n q (agg l cs rest) img b h =
    let e : length (links q cs img) ≡ length img = length_links n q cs img b.0 h in
    length_links n q rest (links q cs img) b.1 (omega arith) ∙ e
length_links n q (lit l c rest) img b h = length_links n q rest img b h
length_links n q (rec p s r rest) img b h =
    let e : length (over (page_size * p + (capacity + 4)) (two q) img) ≡ length img =
    length_over (page_size * p + (capacity + 4)) (two q) img (omega (arith, b.0)) in
    length_links n q rest (over (page_size * p + (capacity + 4)) (two q) img) b.1 (omega arith) ∙ e
