-- The way from a row to a node or a proxy in its record: its number in the row, and the child numbers from there on.
use Rattle.std.specs.Prelude.{◌≡◌, refl, Bool, ℕ, zero, suc, ◌+◌, ◌*◌, ◌-◌, ◌≤◌, ◌<◌, max, ltb}
use Rattle.std.proofs.Common.{sym, ap, ⊎_elim, lt-ltb, le-ltb}
use Rattle.std.proofs.Math.Path.{subst}
use mathlib.Core.List.Memᴰ
use mathlib.Core.List.{List, [], ◌∷◌, ◌++◌, Memᴰ}
use Rattle.std.proofs.Math.Option.{Option, some, none-ne-some}
use native.Mathlib.Omega.{arith}
use Rattle.std.proofs.Math.ListN.{length}
use Rattle.theory_layout.specs.Widths.{first_width}
use Rattle.theory_row_bytes.specs.RowAt.{size_of, rest_of}
use Rattle.model.specs.Limits.{page_size}
use Rattle.model.specs.Row.{Head, Row, nil, agg, lit, rec, size, base, height}
use Rattle.model.specs.Tree.{width, place_at}
use Rattle.model.specs.declared.Place.{Place}
use Rattle.theory_rows.specs.Laws.{cond_case}
use Rattle.theory_decoding.specs.Steps.{steps}
use Rattle.theory_layout.specs.Items.{Item, node, proxy, items}
use Rattle.theory_layout.specs.Order as order

-- An item of a row that stands at pos: the first node, one inside it, or one after it.
pub data Has (item : Item) : (pos : ℕ) → Row → Type 0 where
  agg_here : {pos : ℕ} {h : Head} {cs rest : Row} → item ≡ node pos → Has item pos (agg h cs rest)
  agg_in : {pos : ℕ} {h : Head} {cs rest : Row} → Has item (pos + 6) cs → Has item pos (agg h cs rest)
  agg_past : {pos : ℕ} {h : Head} {cs rest : Row} → Has item (pos + (6 + size cs)) rest → Has item pos (agg h cs rest)
  lit_here : {pos : ℕ} {h : Head} {c : List ℕ} {rest : Row} → item ≡ node pos → Has item pos (lit h c rest)
  lit_past : {pos : ℕ} {h : Head} {c : List ℕ} {rest : Row} → Has item (pos + (6 + length c)) rest → Has item pos (lit h c rest)
  rec_here : {pos p : ℕ} {s : Bool} {r rest : Row} → item ≡ proxy pos p r → Has item pos (rec p s r rest)
  rec_past : {pos p : ℕ} {s : Bool} {r rest : Row} → Has item (pos + 8) rest → Has item pos (rec p s r rest)

pub has_item : (item : Item) (pos : ℕ) (row : Row) → Memᴰ item (items pos row) → Has item pos row
has_item item pos nil m = absurd (Memᴰ.not-nil m)
has_item item pos (agg h cs rest) m =
    ⊎_elim agg_here
    (λ n. ⊎_elim (λ a. agg_in (has_item item (pos + 6) cs a)) (λ b. agg_past (has_item item (pos + (6 + size cs)) rest b))
    (Memᴰ.append_cases (items (pos + 6) cs) n))
    (Memᴰ.cases_cons m)
has_item item pos (lit h c rest) m = ⊎_elim lit_here (λ n. lit_past (has_item item (pos + (6 + length c)) rest n)) (Memᴰ.cases_cons m)
has_item item pos (rec p s r rest) m = ⊎_elim rec_here (λ n. rec_past (has_item item (pos + 8) rest n)) (Memᴰ.cases_cons m)

pub has_split : (item : Item) (pos : ℕ) (row : Row) (xs ys : List Item) → items pos row ≡ xs ++ item ∷ ys → Has item pos row
has_split item pos row xs ys e = has_item item pos row (order.split_mem item (items pos row) xs ys e)

-- ── where it is ──

module _ {item : Item} where
  -- The node of the row that holds it starts here,
  abbrev pub spot : {pos : ℕ} {row : Row} → Has item pos row → ℕ
  spot {pos = pos} (agg_here e) = pos
  spot {pos = pos} (agg_in h) = pos
  spot (agg_past h) = spot h
  spot {pos = pos} (lit_here e) = pos
  spot (lit_past h) = spot h
  spot {pos = pos} (rec_here e) = pos
  spot (rec_past h) = spot h

  -- and the row shows so many nodes before it.
  abbrev pub before : {pos : ℕ} {row : Row} → Has item pos row → ℕ
  before (agg_here e) = 0
  before (agg_in h) = 0
  before (agg_past h) = suc (before h)
  before (lit_here e) = 0
  before (lit_past h) = suc (before h)
  before (rec_here e) = 0
  before (rec_past {r = r} h) = width r + before h

  -- The number in the row of node `carry` of what the item shows, or of the node above it,
  abbrev pub number : (carry : ℕ) → {pos : ℕ} {row : Row} → Has item pos row → ℕ
  number carry (agg_here e) = carry
  number carry (agg_in h) = 0
  number carry (agg_past h) = suc (number carry h)
  number carry (lit_here e) = carry
  number carry (lit_past h) = suc (number carry h)
  number carry (rec_here e) = carry
  number carry (rec_past {r = r} h) = width r + number carry h

  -- and the child numbers from there on.
  abbrev pub way : (carry : ℕ) → {pos : ℕ} {row : Row} → Has item pos row → List ℕ
  way carry (agg_here e) = []
  way carry (agg_in h) = number carry h ∷ way carry h
  way carry (agg_past h) = way carry h
  way carry (lit_here e) = []
  way carry (lit_past h) = way carry h
  way carry (rec_here e) = []
  way carry (rec_past h) = way carry h

  -- It starts in the row.
  pub has_low : (pos : ℕ) (row : Row) → Has item pos row → pos ≤ order.at item
  has_low pos nil h = elim h [ ]
  has_low pos (agg h cs rest) (agg_here e) = rw e (omega arith)
  has_low pos (agg h cs rest) (agg_in b) = omega (arith, has_low (pos + 6) cs b)
  has_low pos (agg h cs rest) (agg_past b) = omega (arith, has_low (pos + (6 + size cs)) rest b)
  has_low pos (lit h c rest) (lit_here e) = rw e (omega arith)
  has_low pos (lit h c rest) (lit_past b) = omega (arith, has_low (pos + (6 + length c)) rest b)
  has_low pos (rec p s r rest) (rec_here e) = rw e (omega arith)
  has_low pos (rec p s r rest) (rec_past b) = omega (arith, has_low (pos + 8) rest b)

  pub has_high : (pos : ℕ) (row : Row) → Has item pos row → order.at item < pos + size row
  has_high pos nil h = elim h [ ]
  has_high pos (agg h cs rest) (agg_here e) = rw e (omega arith)
  has_high pos (agg h cs rest) (agg_in b) = omega (arith, has_high (pos + 6) cs b)
  has_high pos (agg h cs rest) (agg_past b) = omega (arith, has_high (pos + (6 + size cs)) rest b)
  has_high pos (lit h c rest) (lit_here e) = rw e (omega arith)
  has_high pos (lit h c rest) (lit_past b) = omega (arith, has_high (pos + (6 + length c)) rest b)
  has_high pos (rec p s r rest) (rec_here e) = rw e (omega arith)
  has_high pos (rec p s r rest) (rec_past b) = omega (arith, has_high (pos + 8) rest b)

  pub spot_low : (pos : ℕ) (row : Row) (h : Has item pos row) → pos ≤ spot h
  spot_low pos nil h = elim h [ ]
  spot_low pos (agg h cs rest) (agg_here e) = omega arith
  spot_low pos (agg h cs rest) (agg_in b) = omega arith
  spot_low pos (agg h cs rest) (agg_past b) = omega (arith, spot_low (pos + (6 + size cs)) rest b)
  spot_low pos (lit h c rest) (lit_here e) = omega arith
  spot_low pos (lit h c rest) (lit_past b) = omega (arith, spot_low (pos + (6 + length c)) rest b)
  spot_low pos (rec p s r rest) (rec_here e) = omega arith
  spot_low pos (rec p s r rest) (rec_past b) = omega (arith, spot_low (pos + 8) rest b)

  -- It is past the row's first node, or there.
  pub has_past : (pos : ℕ) (row : Row) (h : Has item pos row) → pos + size_of row ≤ order.at item
      → (b : Has item (pos + size_of row) (rest_of row)) × (spot b ≡ spot h) × (first_width row + before b ≡ before h)
  has_past pos nil h k = elim h [ ]
  has_past pos (agg h cs rest) (agg_here e) k = absurd (omega (arith, ap order.at e))
  has_past pos (agg h cs rest) (agg_in b) k = absurd (omega (arith, has_high (pos + 6) cs b))
  has_past pos (agg h cs rest) (agg_past b) k = (b, refl, omega arith)
  has_past pos (lit h c rest) (lit_here e) k = absurd (omega (arith, ap order.at e))
  has_past pos (lit h c rest) (lit_past b) k = (b, refl, omega arith)
  has_past pos (rec p s r rest) (rec_here e) k = absurd (omega (arith, ap order.at e))
  has_past pos (rec p s r rest) (rec_past b) k = (b, refl, refl)

  pub has_first : (pos : ℕ) (row : Row) (h : Has item pos row) → order.at item < pos + size_of row → (spot h ≡ pos) × (before h ≡ 0)
  has_first pos nil h k = elim h [ ]
  has_first pos (agg h cs rest) (agg_here e) k = (refl, refl)
  has_first pos (agg h cs rest) (agg_in b) k = (refl, refl)
  has_first pos (agg h cs rest) (agg_past b) k = absurd (omega (arith, has_low (pos + (6 + size cs)) rest b))
  has_first pos (lit h c rest) (lit_here e) k = (refl, refl)
  has_first pos (lit h c rest) (lit_past b) k = absurd (omega (arith, has_low (pos + (6 + length c)) rest b))
  has_first pos (rec p s r rest) (rec_here e) k = (refl, refl)
  has_first pos (rec p s r rest) (rec_past b) k = absurd (omega (arith, has_low (pos + 8) rest b))

-- ── what it finds ──

-- Node `carry` of what an item of the record of `page` shows, with the path `tail` from there on, stands at x.
abbrev pub Under : (page : ℕ) → Item → (carry : ℕ) → (tail : List ℕ) → Place → Type 0
Under page (node pos) carry tail x = (carry ≡ 0) × (tail ≡ []) × (x.page ≡ page) × (page_size * page + x.offset ≡ pos)
Under page (proxy pos p r) carry tail x = (carry < width r) × (place_at p (base r) carry tail r ≡ some x)

-- A number and a path from a row find a place.
pub record FindsFrom (page at : ℕ) (row : Row) (i : ℕ) (path : List ℕ) (x : Place) : Type 0 where
  pub low : i < width row
  pub place : place_at page at i path row ≡ some x

module _ (page carry : ℕ) (tail : List ℕ) (x : Place) where
  here : (at pos : ℕ) → pos ≡ page_size * page + at → Under page (node pos) carry tail x
      → (carry ≡ 0) × (tail ≡ []) × (some (record { page = page; offset = at }) ≡ some x)
  here at pos p u =
      let o : at ≡ x.offset = omega (arith, u.3) in
      (u.0, u.1, λ i. some (record { page = sym u.2 i; offset = o i }))

  -- The number and way of an item lead to what the item leads to.
  pub finds : (item : Item) (pos : ℕ) (row : Row) (h : Has item pos row) (at : ℕ) → pos ≡ page_size * page + at → Under page item carry tail x
      → FindsFrom page at row (number carry h) (way carry h ++ tail) x
  unfolding place_at
  finds item pos nil h at p u = elim h [ ]
  finds item pos (agg l cs rest) (agg_here e) at p u =
      let k = here at pos p (subst (λ (z : Item). Under page z carry tail x) e u) in
      record { low = rw k.0 (omega arith); place = rw (k.0, k.1) k.2 }
  finds item pos (agg l cs rest) (agg_in h) at p u =
      let f = finds item (pos + 6) cs h (at + 6) (omega arith) u in
      record { low = omega arith; place = f.place }
  finds item pos (agg l cs rest) (agg_past h) at p u =
      let f = finds item (pos + (6 + size cs)) rest h (at + 6 + size cs) (omega arith) u in
      record { low = omega (arith, f.low); place = f.place }
  finds item pos (lit l c rest) (lit_here e) at p u =
      let k = here at pos p (subst (λ (z : Item). Under page z carry tail x) e u) in
      record { low = rw k.0 (omega arith); place = rw (k.0, k.1) k.2 }
  finds item pos (lit l c rest) (lit_past h) at p u =
      let f = finds item (pos + (6 + length c)) rest h (at + 6 + length c) (omega arith) u in
      record { low = omega (arith, f.low); place = f.place }
  finds item pos (rec q s r rest) (rec_here e) at p u =
      let k = subst (λ (z : Item). Under page z carry tail x) e u in
      record { low = omega (arith, k.0); place = rw (lt-ltb carry (width r) k.0) k.1 }
  finds item pos (rec q s r rest) (rec_past h) at p u =
      let f = finds item (pos + 8) rest h (at + 8) (omega arith) u in
      let n = number carry h in
      let w = width r in
      let o : w + n - w ≡ n = omega arith in
      record { low = omega (arith, f.low); place = rw (le-ltb (w + n) w (omega arith), o) f.place }

-- A path that finds a place has fewer entries than the row has levels.
pub place_levels : (page at i : ℕ) (path : List ℕ) (row : Row) (x : Place) → place_at page at i path row ≡ some x → suc (length path) ≤ height row
unfolding place_at
place_levels page at i path nil x e = absurd (none-ne-some x e)
place_levels page at zero [] (agg h cs rest) x e = omega arith
place_levels page at zero (j ∷ path) (agg h cs rest) x e = omega (arith, place_levels page (at + 6) j path cs x e)
place_levels page at (suc i) path (agg h cs rest) x e = omega (arith, place_levels page (at + 6 + size cs) i path rest x e)
place_levels page at zero [] (lit h c rest) x e = omega arith
place_levels page at zero (j ∷ path) (lit h c rest) x e = absurd (none-ne-some x e)
place_levels page at (suc i) path (lit h c rest) x e = omega (arith, place_levels page (at + 6 + length c) i path rest x e)
place_levels page at i path (rec p s r rest) x e =
    cond_case (λ (o : Option Place). o ≡ some x → suc (length path) ≤ max (height r) (height rest)) (ltb i (width r))
    (λ _ e. omega (arith, place_levels p (base r) i path r x e))
    (λ _ e. omega (arith, place_levels page (at + 8) (i - width r) path rest x e)) e

-- ── a record is smaller than the one that holds its proxy ──

-- A row has no more levels and no more nodes than another.
pub record Within (r row : Row) : Type 0 where
  pub high : height r ≤ height row
  pub many : steps r ≤ steps row

not_node : {A : Type 0} {pos q t : ℕ} {r : Row} → proxy t q r ≡ node pos → A
not_node e = let z : ◌≡◌ {A = ℕ} 0 1 = cc in absurd (omega arith)

pub lower : (t p : ℕ) (r : Row) (pos : ℕ) (row : Row) → Has (proxy t p r) pos row → Within r row
lower t p r pos nil h = elim h [ ]
lower t p r pos (agg h cs rest) (agg_here e) = not_node e
lower t p r pos (agg h cs rest) (agg_in b) = let l = lower t p r (pos + 6) cs b in record { high = omega arith; many = omega arith }
lower t p r pos (agg h cs rest) (agg_past b) = let l = lower t p r (pos + (6 + size cs)) rest b in record { high = omega arith; many = omega arith }
lower t p r pos (lit h c rest) (lit_here e) = not_node e
lower t p r pos (lit h c rest) (lit_past b) = let l = lower t p r (pos + (6 + length c)) rest b in record { high = omega arith; many = omega arith }
lower t p r pos (rec q s r' rest) (rec_here e) =
    let b : r' ≡ r = cc in
    subst (λ (z : Row). Within z (rec q s r' rest)) b (record { high = omega arith; many = omega arith })
lower t p r pos (rec q s r' rest) (rec_past b) = let l = lower t p r (pos + 8) rest b in record { high = omega arith; many = omega arith }
