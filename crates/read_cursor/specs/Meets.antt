-- The nodes that a row shows, as a walk over it meets them.
use Rattle.std.specs.Prelude.{◌≡◌, Bool, true, false, cond, List, [], ◌∷◌, ◌++◌, ℕ, ◌+◌, ◌*◌, ◌-◌, ◌/◌, ◌%◌, ◌≤◌, ◌<◌, length, eqb}
use Rattle.std.proofs.Math.Path.{refl, sym, ap}
use Rattle.std.proofs.Common.{◌∙◌, arith}
use Rattle.model.specs.Limits.{page_size}
use Rattle.model.specs.Row.{Head, Row, nil, agg, lit, rec, size, base}
use Rattle.model.specs.Tree.{width}
use Rattle.theory_row_bytes.specs.RowAt.{kind_of, head_of, size_of, kids_of, rest_of}
use Rattle.theory_layout.specs.Widths.{none_width}
use Rattle.read_cursor.specs.Way.{Met, met, Way, begin, told, visits, visits-++, visits_stopped, patch, visits_patch}

-- The length of a node's content, and the entry of a node at byte i by its header; `n` is the number of its children.
abbrev pub content_of : (kind size : ℕ) → ℕ
content_of k m = cond (eqb k 1) 0 (m - 6)

abbrev pub entry_at : (level i kind : ℕ) → Head → (size n : ℕ) → List ℕ
entry_at l i k h m n =
    let c = content_of k m in
    l ∷ i / page_size ∷ i % page_size ∷ k ∷ h.origin ∷ h.label ∷ n ∷ cond (eqb c 0) 0 (i + 6) ∷ c ∷ []

-- The same by single numbers, no children counted.
abbrev pub entry_by : (level i kind origin label start len : ℕ) → List ℕ
entry_by l i k o b s c = l ∷ i / page_size ∷ i % page_size ∷ k ∷ o ∷ b ∷ 0 ∷ s ∷ c ∷ []

-- They are the same: of an aggregate, and of a literal.
pub entry_agg : (l i k : ℕ) (h : Head) (m o b : ℕ) → k ≡ 1 → o ≡ h.origin → b ≡ h.label → entry_by l i 1 o b 0 0 ≡ entry_at l i k h m 0
entry_agg l i k h m o b e f g = rw (e, f, g)

pub entry_lit : (l i k : ℕ) (h : Head) (m o b s : ℕ) → k ≡ 2 → o ≡ h.origin → b ≡ h.label → s ≡ cond (eqb (m - 6) 0) 0 (i + 6)
    → entry_by l i 2 o b s (m - 6) ≡ entry_at l i k h m 0
entry_lit l i k h m o b s e f g q = rw (e, f, g, q)

-- A content starts at most six bytes on.
pub start_low : (i n s : ℕ) → s ≡ cond (eqb n 0) 0 (i + 6) → s ≤ i + 6
start_low i n s e = go (eqb n 0) e
  where
    go : (b : Bool) → s ≡ cond b 0 (i + 6) → s ≤ i + 6
    go true q = omega arith
    go false q = omega arith

-- Its nodes have this level, and it starts at byte i of the image.
unfoldable pub meets : (level i : ℕ) → Row → List Met
meets l i nil = []
meets l i (agg h cs rest) = met i (entry_at l i 1 h (6 + size cs) (width cs)) ∷ (meets (l + 1) (i + 6) cs ++ meets l (i + (6 + size cs)) rest)
meets l i (lit h c rest) = met i (entry_at l i 2 h (6 + length c) 0) ∷ meets l (i + (6 + length c)) rest
meets l i (rec p s r rest) = meets l (page_size * p + base r) r ++ meets l (i + 8) rest

pub meets_none : (l i : ℕ) (row : Row) → size row ≡ 0 → meets l i row ≡ []
unfolding meets
meets_none l i nil z = refl
meets_none l i (agg h cs rest) z = absurd (omega arith)
meets_none l i (lit h c rest) z = absurd (omega arith)
meets_none l i (rec p s r rest) z = absurd (omega arith)

-- A node, what it holds, and the nodes behind it.
pub meets_first : (l i : ℕ) (row : Row) → 0 < size row → (kind_of row ≡ 3 → ⊥)
    → meets l i row
    ≡ met i (entry_at l i (kind_of row) (head_of row) (size_of row) (width (kids_of row)))
    ∷ (meets (l + 1) (i + 6) (kids_of row) ++ meets l (i + size_of row) (rest_of row))
unfolding meets
meets_first l i nil h k = absurd (omega arith)
meets_first l i (agg hd cs rest) h k = refl
meets_first l i (lit hd c rest) h k = refl
meets_first l i (rec p s r rest) h k = absurd (k refl)

-- ── a walk over it ──

module _ (t : ℕ) (w : Way) (l i : ℕ) where
  -- The first node, as a walk leaves it behind.
  abbrev pub first : (row : Row) → (n : ℕ) → Way
  first row n = told (begin t w.at i) i (entry_at l i (kind_of row) (head_of row) (size_of row) n) w.next w.out

  -- Passing a node whose inside is empty,
  pub visits_leaf : (row : Row) → 0 < size row → (kind_of row ≡ 3 → ⊥) → size (kids_of row) ≡ 0
      → visits t w (meets l i row) ≡ visits t (first row 0) (meets l (i + size_of row) (rest_of row))
  unfolding visits
  visits_leaf row h k z = ap (visits t w) (meets_first l i row h k) ∙ rw (meets_none (l + 1) (i + 6) (kids_of row) z, sym (none_width (kids_of row) (sym z)))

  -- one at which the walk has stopped, with all in it,
  pub visits_past : (row : Row) → 0 < size row → (kind_of row ≡ 3 → ⊥) → (v : Way) → ((n : ℕ) → first row n ≡ v) → 1 ≤ v.at → (v.next ≡ 0 → ⊥)
      → visits t w (meets l i row) ≡ visits t v (meets l (i + size_of row) (rest_of row))
  unfolding visits
  visits_past row h k v e a b =
      let ms = meets (l + 1) (i + 6) (kids_of row) in
      let rest = meets l (i + size_of row) (rest_of row) in
      ap (visits t w) (meets_first l i row h k)
      ∙ ap (λ (v : Way). visits t v (ms ++ rest)) (e (width (kids_of row)))
      ∙ visits-++ t v ms rest
      ∙ ap (λ (v : Way). visits t v rest) (visits_stopped t v ms a b)

  -- and one that is entered: its number of children is written once they are counted.
  pub visits_open : (row : Row) → 0 < size row → (kind_of row ≡ 3 → ⊥) → begin t w.at i ≤ length w.out + 1 → w.next ≡ 0
      → (1 ≤ begin t w.at i → begin t w.at i + 8 ≤ length w.out)
      → visits t w (meets l i row)
      ≡ visits t (patch (begin t w.at i) (width (kids_of row)) (visits t (first row 0) (meets (l + 1) (i + 6) (kids_of row)))) (meets l (i + size_of row) (rest_of row))
  unfolding visits
  visits_open row h k low calm room =
      let own = entry_at l i (kind_of row) (head_of row) (size_of row) in
      let ms = meets (l + 1) (i + 6) (kids_of row) in
      let rest = meets l (i + size_of row) (rest_of row) in
      ap (visits t w) (meets_first l i row h k)
      ∙ visits-++ t (first row (width (kids_of row))) ms rest
      ∙ ap (λ (v : Way). visits t v rest)
      (visits_patch t (begin t w.at i) i (width (kids_of row)) (own 0) w.next w.out ms refl low calm room)
