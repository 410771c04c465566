-- The items of a record against the image's bytes and the document order.
use Rattle.std.specs.Prelude.{◌≡◌, Bool, true, false, ℕ, suc, ◌+◌, ◌*◌, ◌≤◌, ◌<◌, length, get_or, drop, eqb}
use Rattle.std.proofs.Math.Path.{refl}
use Rattle.std.proofs.Common.{sym, ap, ap₂, subst, ◌∙◌, ⊎_elim, arith, eqb-true, eq-eqb, get_or-drop, get_or-take}
use Rattle.std.proofs.Math.Bool.{cond}
use Rattle.std.proofs.lemmas.Bool.{false≢true}
use mathlib.Core.List.{List, [], ◌∷◌, ◌++◌, map, map-append, append_assoc, append-nil, Memᴰ}
use Rattle.model.specs.Limits.{most_pages, page_size, capacity}
use Rattle.model.specs.Row.{Head, Row, nil, agg, lit, rec, store, size, base, Held, records, record_page, page_at, count, outside, Config, record_on, is_agg}
use Rattle.model.specs.Reading.{Reads, page_of, size_at, name_at, state_at, kind_at}
use Rattle.model.specs.Tree.{places}
use Rattle.model.specs.Calls.Records.{times}
use Rattle.model.specs.declared.Place.{Place}
use Rattle.theory_rows.specs.Fits.{Shape, one, more}
use Rattle.theory_rows.specs.Laws.{cond_case}
use Rattle.theory_rows.specs.Image.{image_page}
use Rattle.theory_decoding.specs.Reading.{reads_valid}
use Rattle.theory_places.specs.Pages.{pages_once}
use Rattle.theory_places.specs.Member.{mem_split}
use Rattle.theory_row_bytes.specs.RowAt.{kind_of, size_of}
use Rattle.theory_layout.specs.Here.{nesting, PageIn, Here, OnPage, view, root_page_lem, root_nesting}
use Rattle.theory_layout.specs.Items.{Item, node, proxy, items, spots, shows, expand, In, top, sub}

-- ── the items show the nodes ──

pub expand-++ : (a b : List Item) → expand (a ++ b) ≡ expand a ++ expand b
expand-++ [] b = refl
expand-++ (i ∷ a) b = rw (expand-++ a b) (sym (append_assoc (shows i) (expand a) (expand b)))

pub expand_items : (pos : ℕ) (row : Row) → expand (items pos row) ≡ spots pos row
expand_items pos nil = refl
expand_items pos (agg h cs rest) =
    ap (◌∷◌ pos)
    (expand-++ (items (pos + 6) cs) (items (pos + (6 + size cs)) rest) ∙ ap₂ ◌++◌ (expand_items (pos + 6) cs) (expand_items (pos + (6 + size cs)) rest))
expand_items pos (lit h c rest) = ap (◌∷◌ pos) (expand_items (pos + (6 + length c)) rest)
expand_items pos (rec p s r rest) = ap (λ (l : List ℕ). spots (page_size * p + base r) r ++ l) (expand_items (pos + 8) rest)

-- Where a place is in the image.
abbrev pub addr : Place → ℕ
addr x = page_size * x.page + x.offset

pub spots_at : (pos page at : ℕ) (row : Row) → pos ≡ page_size * page + at → spots pos row ≡ map addr (places page at row)
spots_at pos page at nil e = refl
spots_at pos page at (agg h cs rest) e =
    ap₂ ◌∷◌ e (ap₂ ◌++◌ (spots_at (pos + 6) page (at + 6) cs (omega arith)) (spots_at (pos + (6 + size cs)) page (at + 6 + size cs) rest (omega arith))
    ∙ sym (map-append addr (places page (at + 6) cs) (places page (at + 6 + size cs) rest)))
spots_at pos page at (lit h c rest) e = ap₂ ◌∷◌ e (spots_at (pos + (6 + length c)) page (at + 6 + length c) rest (omega arith))
spots_at pos page at (rec p s r rest) e =
    ap₂ ◌++◌ (spots_at (page_size * p + base r) p (base r) r refl) (spots_at (pos + 8) page (at + 8) rest (omega arith))
    ∙ sym (map-append addr (places p (base r) r) (places page (at + 8) rest))

pub spots_places : (page at : ℕ) (row : Row) → spots (page_size * page + at) row ≡ map addr (places page at row)
spots_places page at row = spots_at (page_size * page + at) page at row refl

-- The items of a record that are split show its nodes, split alike.
pub spots_split : (pos : ℕ) (row : Row) (xs ys : List Item) → items pos row ≡ xs ++ ys → spots pos row ≡ expand xs ++ expand ys
spots_split pos row xs ys e = sym (expand_items pos row) ∙ ap expand e ∙ expand-++ xs ys

pub in_spots : {root : Row} {page holder : ℕ} {row : Row} {before after : List ℕ} {d : ℕ} → In root page holder row before after d
    → spots (page_size + base root) root ≡ before ++ (spots (page_size * page + base row) row ++ after)
in_spots {root} top = sym (append-nil (spots (page_size + base root) root))
in_spots {root} (sub {page = page} {row = row} {before = before} {after = after} w xs ys pos p r e) =
    in_spots w ∙ rw (spots_split (page_size * page + base row) row xs (proxy pos p r ∷ ys) e) (simp append_assoc)

-- ── where an item is ──

abbrev pub at : Item → ℕ
at (node q) = q
at (proxy q p r) = q

pub split_mem : {A : Type 0} (a : A) (l xs ys : List A) → l ≡ xs ++ a ∷ ys → Memᴰ a l
split_mem a l xs ys e = rw e (mathlib.Core.List.Memᴰ.append_right xs (mathlib.Core.List.Memᴰ.head refl))

-- ── what is read at an item ──

-- The row's first item.
abbrev pub first_item : (pos : ℕ) → Row → Item
first_item pos nil = node pos
first_item pos (agg h cs rest) = node pos
first_item pos (lit h c rest) = node pos
first_item pos (rec p s r rest) = proxy pos p r

-- A row stands at pos, in the record of `page`, whose first item this is.
pub record Stood (img : List ℕ) (page pos : ℕ) (i : Item) : Type 0 where
  pub row : Row
  pub here : Here img page pos row
  pub some : 0 < size row
  pub first : i ≡ first_item pos row

-- Where the header after the one at pos stands: behind an aggregate's header, and past a literal or a proxy.
unfoldable pub step : (img : List ℕ) → (pos : ℕ) → ℕ
step img pos = cond (eqb (kind_at img pos) 1) (pos + 6) (pos + size_at img pos)

-- Header after header, these items stand from pos to end.
abbrev pub Flat : (img : List ℕ) (page pos end : ℕ) → List Item → Type 0
Flat img page pos end [] = pos ≡ end
Flat img page pos end (i ∷ is) = Stood img page pos i × Flat img page (step img pos) end is

module _ (img : List ℕ) (page : ℕ) where
  -- how far on that is
  abbrev onward : Row → ℕ
  onward row = cond (is_agg row) 6 (size_of row)

  step_is : {pos : ℕ} {row : Row} → Here img page pos row → 0 < size row → step img pos ≡ pos + onward row
  unfolding step
  step_is {pos} {row} v h = rw ((view v h).kind_is, (view v h).size_is) (go row)
    where
      go : (row : Row) → cond (eqb (kind_of row) 1) (pos + 6) (pos + size_of row) ≡ pos + onward row
      go nil = refl
      go (agg l cs rest) = refl
      go (lit l c rest) = refl
      go (rec p s r rest) = refl

  onward_fits : (row : Row) → 6 ≤ size_of row → (6 ≤ onward row) × (onward row ≤ size_of row)
  onward_fits row h = cond_case (λ (n : ℕ). (6 ≤ n) × (n ≤ size_of row)) (is_agg row) (λ _. (omega arith, h)) (λ _. (h, omega arith))

  pub flat_here : (pos : ℕ) (row : Row) → Here img page pos row → (end : ℕ) (ys : List Item) → Flat img page (pos + size row) end ys
      → Flat img page pos end (items pos row ++ ys)
  flat_here pos nil v end ys f = let z : pos + 0 ≡ pos = omega arith in rw z at f
  flat_here pos (agg h cs rest) v end ys f =
      let some : 0 < size (agg h cs rest) = omega arith in
      let w = view v some in
      let z : pos + (6 + size cs + size rest) ≡ pos + (6 + size cs) + size rest = omega arith in
      let y : pos + (6 + size cs) ≡ pos + 6 + size cs = omega arith in
      let later = flat_here (pos + (6 + size cs)) rest w.after end ys (subst (λ (n : ℕ). Flat img page n end ys) z f) in
      let inner = flat_here (pos + 6) cs w.children end (items (pos + (6 + size cs)) rest ++ ys)
      (subst (λ (n : ℕ). Flat img page n end (items (pos + (6 + size cs)) rest ++ ys)) y later) in (
        record { row = agg h cs rest; here = v; some = some; first = refl },
        rw (step_is v some, append_assoc (items (pos + 6) cs) (items (pos + (6 + size cs)) rest) ys) inner,
      )
  flat_here pos (lit h c rest) v end ys f =
      let some : 0 < size (lit h c rest) = omega arith in
      let z : pos + (6 + length c + size rest) ≡ pos + (6 + length c) + size rest = omega arith in
      let later = flat_here (pos + (6 + length c)) rest (view v some).after end ys (subst (λ (n : ℕ). Flat img page n end ys) z f) in
      (record { row = lit h c rest; here = v; some = some; first = refl }, rw (step_is v some) later)
  flat_here pos (rec p s r rest) v end ys f =
      let some : 0 < size (rec p s r rest) = omega arith in
      let z : pos + (8 + size rest) ≡ pos + 8 + size rest = omega arith in
      let later = flat_here (pos + 8) rest (view v some).after end ys (subst (λ (n : ℕ). Flat img page n end ys) z f) in
      (record { row = rec p s r rest; here = v; some = some; first = refl }, rw (step_is v some) later)

  pub flat_row : (pos : ℕ) (row : Row) → Here img page pos row → Flat img page pos (pos + size row) (items pos row)
  flat_row pos row v = rw (append-nil (items pos row)) at (flat_here pos row v (pos + size row) [] refl)

  -- What a header says: its position, its room, and the step.
  pub record Header (pos : ℕ) (i : Item) : Type 0 where
    pub is_at : at i ≡ pos
    pub low : page_size * page ≤ pos
    pub room : pos + 6 ≤ page_size * page + capacity
    pub on : PageIn img page
    pub further : pos + 6 ≤ step img pos
    pub within : step img pos ≤ page_size * page + capacity

  pub header_of : (pos : ℕ) (i : Item) → Stood img page pos i → Header pos i
  header_of pos i s =
      let v = s.here in
      let w = view v s.some in
      let e = step_is v s.some in
      let o = onward_fits s.row w.more in
      record {
        is_at = ap at s.first ∙ first_at pos s.row;
        low = v.start;
        room = omega (arith, v.room, w.total);
        on = v.on;
        further = omega arith;
        within = omega (arith, v.room, w.total);
      }
    where
      first_at : (pos : ℕ) (row : Row) → at (first_item pos row) ≡ pos
      first_at pos nil = refl
      first_at pos (agg h cs rest) = refl
      first_at pos (lit h c rest) = refl
      first_at pos (rec p s r rest) = refl

  -- What is read at a proxy; the record that it stands for is not empty.
  pub record Proxy (pos p : ℕ) (r : Row) : Type 0 where
    pub kind : kind_at img pos ≡ 3
    pub name : name_at img pos ≡ p
    pub next : step img pos ≡ pos + 8
    pub under : OnPage img p page r
    pub some : 1 ≤ size r

  filled : {b : Bool} (r : Row) → Shape b r → 1 ≤ size r
  filled nil (one e) = absurd (false≢true e)
  filled nil (more r k) = absurd (omega arith)
  filled (agg h cs rest) k = omega arith
  filled (lit h c rest) k = omega arith
  filled (rec p s r rest) k = omega arith

  pub proxy_of_lem : (pos q p : ℕ) (r : Row) → Stood img page pos (proxy q p r) → Proxy pos p r
  proxy_of_lem pos q p r s = go s.row s.here s.some s.first
    where
      go : (row : Row) → Here img page pos row → 0 < size row → proxy q p r ≡ first_item pos row → Proxy pos p r
      go nil v h f = absurd (omega arith)
      go (agg l cs rest) v h f = let z : ◌≡◌ {A = ℕ} 0 1 = cc in absurd (omega arith)
      go (lit l c rest) v h f = let z : ◌≡◌ {A = ℕ} 0 1 = cc in absurd (omega arith)
      go (rec p₁ b r₁ rest) v h f =
          let w = view v h in
          let same : p₁ ≡ p = cc in
          let also : r₁ ≡ r = cc in
          record {
            kind = w.kind_is;
            name = w.name_is refl ∙ same;
            next = step_is v h;
            under = rw (same, also) at w.under;
            some = rw also at (filled r₁ v.fits.0.shape);
          }

  -- An item whose kind is 3 is a proxy, and one of another kind is a node.
  pub is_proxy : (pos : ℕ) (i : Item) → Stood img page pos i → kind_at img pos ≡ 3 → (p : ℕ) × (r : Row) × (i ≡ proxy pos p r)
  is_proxy pos i s k = go s.row (sym (view s.here s.some).kind_is ∙ k) s.first
    where
      go : (row : Row) → kind_of row ≡ 3 → i ≡ first_item pos row → (p : ℕ) × (r : Row) × (i ≡ proxy pos p r)
      go nil k f = absurd (omega arith)
      go (agg h cs rest) k f = absurd (omega arith)
      go (lit h c rest) k f = absurd (omega arith)
      go (rec p b r rest) k f = (p, r, f)

  pub no_proxy : (pos q : ℕ) → Stood img page pos (node q) → kind_at img pos ≡ 3 → ⊥
  no_proxy pos q s k =
      let (p, r, e) = is_proxy pos (node q) s k in
      let z : ◌≡◌ {A = ℕ} 0 1 = cc in
      omega arith

  pub is_node_lem : (pos : ℕ) (i : Item) → Stood img page pos i → (kind_at img pos ≡ 3 → ⊥) → i ≡ node pos
  is_node_lem pos i s k = go s.row (λ e. k ((view s.here s.some).kind_is ∙ e)) s.first
    where
      go : (row : Row) → (kind_of row ≡ 3 → ⊥) → i ≡ first_item pos row → i ≡ node pos
      go nil k f = f
      go (agg h cs rest) k f = f
      go (lit h c rest) k f = f
      go (rec p b r rest) k f = absurd (k refl)

  -- ── items one after another ──

  pub flat_past : (xs ys : List Item) (pos end : ℕ) → Flat img page pos end (xs ++ ys) → (mid : ℕ) × Flat img page mid end ys
  flat_past [] ys pos end f = (pos, f)
  flat_past (x ∷ xs) ys pos end f = flat_past xs ys (step img pos) end f.1

  pub flat_le : (is : List Item) (pos end : ℕ) → Flat img page pos end is → pos ≤ end
  flat_le [] pos end f = omega arith
  flat_le (i ∷ is) pos end f = omega (arith, (header_of pos i f.0).further, flat_le is (step img pos) end f.1)

  pub flat_end : (is : List Item) (pos end : ℕ) → Flat img page pos end is → end ≤ pos → is ≡ []
  flat_end [] pos end f h = refl
  flat_end (i ∷ is) pos end f h = absurd (omega (arith, (header_of pos i f.0).further, flat_le is (step img pos) end f.1))

  -- none stands before the first
  pub flat_low : (is : List Item) (pos end : ℕ) → Flat img page pos end is → (i : Item) → Memᴰ i is → pos ≤ at i
  flat_low [] pos end f i it = elim it [ ]
  flat_low (x ∷ is) pos end f i (mathlib.Core.List.Memᴰ.head e) = omega (arith, ap at e, (header_of pos x f.0).is_at)
  flat_low (x ∷ is) pos end f i (mathlib.Core.List.Memᴰ.tail m) = omega (arith, (header_of pos x f.0).further, flat_low is (step img pos) end f.1 i m)

  -- What is read at an item of a row that stands, and where the next stands.
  pub item_at : (pos : ℕ) (row : Row) → Here img page pos row → (xs ys : List Item) (i : Item) → items pos row ≡ xs ++ i ∷ ys
      → Stood img page (at i) i × Flat img page (step img (at i)) (pos + size row) ys
  item_at pos row v xs ys i e =
      let f = flat_past xs (i ∷ ys) pos (pos + size row) (subst (Flat img page pos (pos + size row)) e (flat_row pos row v)) in
      let z : f.0 ≡ at i = sym (header_of f.0 i f.1.0).is_at in
      subst (λ (n : ℕ). Stood img page n i × Flat img page (step img n) (pos + size row) ys) z f.1

-- ── proxies, and the records below a row ──

-- A statement about a row that has an item: where the item is the first, and how it goes on to the rows around.
item_ind : (i : Item) (P : Row → Type 0) → ((pos : ℕ) (row : Row) → 0 < size row → i ≡ first_item pos row → P row)
    → ((h : Head) (cs rest : Row) → P cs → P (agg h cs rest))
    → ((h : Head) (cs rest : Row) → P rest → P (agg h cs rest))
    → ((h : Head) (c : List ℕ) (rest : Row) → P rest → P (lit h c rest))
    → ((p : ℕ) (s : Bool) (r rest : Row) → P rest → P (rec p s r rest))
    → (pos : ℕ) (row : Row) → Memᴰ i (items pos row) → P row
item_ind i P f u a l r pos nil m = absurd (mathlib.Core.List.Memᴰ.not-nil m)
item_ind i P f u a l r pos (agg h cs rest) m =
    ⊎_elim (f pos (agg h cs rest) (omega arith))
    (λ j. ⊎_elim (λ k. u h cs rest (item_ind i P f u a l r (pos + 6) cs k)) (λ k. a h cs rest (item_ind i P f u a l r (pos + (6 + size cs)) rest k))
    (mathlib.Core.List.Memᴰ.append_cases (items (pos + 6) cs) j)) (mathlib.Core.List.Memᴰ.cases_cons m)
item_ind i P f u a l r pos (lit h c rest) m =
    ⊎_elim (f pos (lit h c rest) (omega arith)) (λ k. l h c rest (item_ind i P f u a l r (pos + (6 + length c)) rest k)) (mathlib.Core.List.Memᴰ.cases_cons m)
item_ind i P f u a l r pos (rec p s x rest) m =
    ⊎_elim (f pos (rec p s x rest) (omega arith)) (λ k. r p s x rest (item_ind i P f u a l r (pos + 8) rest k)) (mathlib.Core.List.Memᴰ.cases_cons m)

module _ (q p : ℕ) (r : Row) where
  proxy_first : (P : Row → Type 0) → ((s : Bool) (rest : Row) → P (rec p s r rest)) → (pos : ℕ) (row : Row) → 0 < size row
      → proxy q p r ≡ first_item pos row → P row
  proxy_first P f pos nil h e = absurd (omega arith)
  proxy_first P f pos (agg l cs rest) h e = let z : ◌≡◌ {A = ℕ} 0 1 = cc in absurd (omega arith)
  proxy_first P f pos (lit l c rest) h e = let z : ◌≡◌ {A = ℕ} 0 1 = cc in absurd (omega arith)
  proxy_first P f pos (rec p₁ s r₁ rest) h e =
      let same : p₁ ≡ p = cc in
      let also : r₁ ≡ r = cc in
      rw (same, also) (f s rest)

  -- A proxy's record is nested in its row's,
  pub nesting_item : (pos : ℕ) (row : Row) → Memᴰ (proxy q p r) (items pos row) → suc (nesting r) ≤ nesting row
  nesting_item =
      item_ind (proxy q p r) (λ row. suc (nesting r) ≤ nesting row) (proxy_first (λ row. suc (nesting r) ≤ nesting row) (λ s rest. omega arith))
      (λ h cs rest i. omega arith) (λ h cs rest i. omega arith) (λ h c rest i. i) (λ p s r rest i. omega arith)

  -- names its page and all that its record names,
  pub count_item : (n : ℕ) (pos : ℕ) (row : Row) → Memᴰ (proxy q p r) (items pos row) → cond (eqb n p) 1 0 + count n r ≤ count n row
  count_item n =
      item_ind (proxy q p r) (λ row. cond (eqb n p) 1 0 + count n r ≤ count n row)
      (proxy_first (λ row. cond (eqb n p) 1 0 + count n r ≤ count n row) (λ s rest. omega arith))
      (λ h cs rest i. omega arith) (λ h cs rest i. omega arith) (λ h c rest i. i) (λ p s r rest i. omega arith)

  -- and is one of its row's records, as are those below it.
  abbrev Listed : (page : ℕ) → Row → Type 0
  Listed page row = (s : Bool) × Memᴰ (record_on p s page r) (records page row)
      × ((h : Held) → Memᴰ h (records p r) → Memᴰ h (records page row))

  pub records_item : (page pos : ℕ) (row : Row) → Memᴰ (proxy q p r) (items pos row) → Listed page row
  records_item page =
      item_ind (proxy q p r) (Listed page)
      (proxy_first (Listed page) (λ s rest. (s, mathlib.Core.List.Memᴰ.head refl, λ h m. mathlib.Core.List.Memᴰ.tail (mathlib.Core.List.Memᴰ.append_left (records page rest) m))))
      (λ h cs rest i. (i.0, mathlib.Core.List.Memᴰ.append_left (records page rest) i.1, λ k m. mathlib.Core.List.Memᴰ.append_left (records page rest) (i.2 k m)))
      (λ h cs rest i. (i.0, mathlib.Core.List.Memᴰ.append_right (records page cs) i.1, λ k m. mathlib.Core.List.Memᴰ.append_right (records page cs) (i.2 k m)))
      (λ h c rest i. i)
      (λ p₁ s r₁ rest i.
      (i.0, mathlib.Core.List.Memᴰ.tail (mathlib.Core.List.Memᴰ.append_right (records p₁ r₁) i.1), λ k m. mathlib.Core.List.Memᴰ.tail (mathlib.Core.List.Memᴰ.append_right (records p₁ r₁) (i.2 k m))))

-- How often proxies among some items name a page.
abbrev pub named : ℕ → List Item → ℕ
named q [] = 0
named q (node pos ∷ is) = named q is
named q (proxy pos p r ∷ is) = cond (eqb q p) 1 0 + named q is

pub named-++ : (q : ℕ) (a b : List Item) → named q (a ++ b) ≡ named q a + named q b
named-++ q [] b = omega arith
named-++ q (node pos ∷ a) b = named-++ q a b
named-++ q (proxy pos p r ∷ a) b = rw (named-++ q a b) (omega arith)

pub named_items : (q pos : ℕ) (row : Row) → named q (items pos row) ≤ count q row
named_items q pos nil = omega arith
named_items q pos (agg h cs rest) =
    omega (arith, named-++ q (items (pos + 6) cs) (items (pos + (6 + size cs)) rest), named_items q (pos + 6) cs, named_items q (pos + (6 + size cs)) rest)
named_items q pos (lit h c rest) = named_items q (pos + (6 + length c)) rest
named_items q pos (rec p s r rest) = omega (arith, named_items q (pos + 8) rest)

-- ── the records of a store ──

in_depth : {root : Row} {page holder : ℕ} {row : Row} {before after : List ℕ} {d : ℕ} → In root page holder row before after d
    → d + nesting row ≤ nesting root
in_depth top = omega arith
in_depth (sub {page = page} {row = row} w xs ys pos p r e) =
    omega (arith, in_depth w, nesting_item pos p r (page_size * page + base row) row (split_mem _ _ xs ys e))

pub in_count : {root : Row} {page holder : ℕ} {row : Row} {before after : List ℕ} {d : ℕ} → In root page holder row before after d → (n : ℕ)
    → count n row ≤ count n root
in_count top n = omega arith
in_count (sub {page = page} {row = row} w xs ys pos p r e) n =
    omega (arith, in_count w n, count_item pos p r n (page_size * page + base row) row (split_mem _ _ xs ys e))

in_listed : {root : Row} {page holder : ℕ} {row : Row} {before after : List ℕ} {d : ℕ} → In root page holder row before after d
    → (s : Bool) × Memᴰ (record_on page s holder row) (records 0 (store root))
    × ((h : Held) → Memᴰ h (records page row) → Memᴰ h (records 0 (store root)))
in_listed top = (true, mathlib.Core.List.Memᴰ.head refl, λ h m. mathlib.Core.List.Memᴰ.tail (mathlib.Core.List.Memᴰ.append_left [] m))
in_listed (sub {page = page} {row = row} w xs ys pos p r e) =
    let t = in_listed w in
    let u = records_item pos p r page (page_size * page + base row) row (split_mem (proxy pos p r) (items (page_size * page + base row) row) xs ys e) in
    (u.0, t.2 _ u.1, λ h m. t.2 h (u.2 h m))

-- two records of a list on one page
mem_times : (hs : List Held) (h : Held) → Memᴰ h hs → 1 ≤ times h.page (map (λ (h : Held). h.page) hs)
mem_times [] h it = elim it [ ]
mem_times (k ∷ hs) h (mathlib.Core.List.Memᴰ.head e) = rw (eq-eqb h.page k.page (ap (λ (h : Held). h.page) e)) (omega arith)
mem_times (k ∷ hs) h (mathlib.Core.List.Memᴰ.tail m) = omega (arith, mem_times hs h m)

one_held : (hs : List Held) (a b : Held) → Memᴰ a hs → Memᴰ b hs → a.page ≡ b.page
    → times a.page (map (λ (h : Held). h.page) hs) ≤ 1 → a ≡ b
one_held [] a b x4 _ p o = elim x4 [ ]
one_held (k ∷ hs) a b (mathlib.Core.List.Memᴰ.head e) (mathlib.Core.List.Memᴰ.head f) p o = e ∙ sym f
one_held (k ∷ hs) a b (mathlib.Core.List.Memᴰ.head e) (mathlib.Core.List.Memᴰ.tail n) p o =
    absurd (omega (arith, rw (eq-eqb a.page k.page (ap (λ (h : Held). h.page) e)) at o, rw (← p) at (mem_times hs b n)))
one_held (k ∷ hs) a b (mathlib.Core.List.Memᴰ.tail m) (mathlib.Core.List.Memᴰ.head f) p o =
    absurd (omega (arith, rw (eq-eqb a.page k.page (p ∙ ap (λ (h : Held). h.page) f)) at o, mem_times hs a m))
one_held (k ∷ hs) a b (mathlib.Core.List.Memᴰ.tail m) (mathlib.Core.List.Memᴰ.tail n) p o = one_held hs a b m n p (omega arith)

-- A node, or a record, of a row's that is in a record.
record Some (root : Row) (page : ℕ) : Type 0 where
  holder : ℕ
  row : Row
  before : List ℕ
  after : List ℕ
  depth : ℕ
  within : In root page holder row before after depth

-- Every record of a row that is in a record,
row_records : {root : Row} (r : Row) {page holder : ℕ} {row : Row} {before after : List ℕ} {d : ℕ} → In root page holder row before after d
    → (pos : ℕ) (xs ys : List Item) → items (page_size * page + base row) row ≡ xs ++ (items pos r ++ ys)
    → (h : Held) → Memᴰ h (records page r) → Some root h.page
row_records nil w pos xs ys e h m = absurd (mathlib.Core.List.Memᴰ.not-nil m)
row_records (agg l cs rest) {page = page} w pos xs ys e h m =
    ⊎_elim (row_records cs w (pos + 6) (xs ++ node pos ∷ []) (items (pos + (6 + size cs)) rest ++ ys) (e ∙ simp append_assoc) h)
    (row_records rest w (pos + (6 + size cs)) (xs ++ node pos ∷ items (pos + 6) cs) ys (e ∙ simp append_assoc) h)
    (mathlib.Core.List.Memᴰ.append_cases (records page cs) m)
row_records (lit l c rest) w pos xs ys e h m = row_records rest w (pos + (6 + length c)) (xs ++ node pos ∷ []) ys (e ∙ simp append_assoc) h m
row_records {root} (rec p s r rest) {page = page} w pos xs ys e h m =
    let under = sub w xs (items (pos + 8) rest ++ ys) pos p r e in
    let own : Some root p = record { holder = _; row = _; before = _; after = _; depth = _; within = under } in
    let inner = row_records r under (page_size * p + base r) [] [] (sym (append-nil (items (page_size * p + base r) r))) h in
    let later = row_records rest w (pos + 8) (xs ++ proxy pos p r ∷ []) ys (e ∙ simp append_assoc) h in
    ⊎_elim (λ q. subst (Some root) (sym (ap (λ (h : Held). h.page) q)) own) (λ j. ⊎_elim inner later (mathlib.Core.List.Memᴰ.append_cases (records p r) j))
    (mathlib.Core.List.Memᴰ.cases_cons m)

root_records : (root : Row) (h : Held) → Memᴰ h (records 0 (store root)) → Some root h.page
root_records root h m =
    let own : Some root 1 = record { holder = _; row = _; before = _; after = _; depth = _; within = top } in
    let inner = row_records root top (page_size + base root) [] [] (sym (append-nil (items (page_size + base root) root))) h in
    ⊎_elim (λ q. subst (Some root) (sym (ap (λ (h : Held). h.page) q)) own) (λ j. inner (rw (append-nil (records 1 root)) at j)) (mathlib.Core.List.Memᴰ.cases_cons m)

-- A page whose trailer's first byte is 1 has a record.
page_held : (hs : List Held) (q : ℕ) → state_at (page_at hs q) 0 ≡ 1 → (h : Held) × Memᴰ h hs × (h.page ≡ q)
page_held [] q e = absurd (omega (arith, e))
page_held (k ∷ hs) q e = go (eqb q k.page) refl e (page_held hs q)
  where
    go : (b : Bool) → eqb q k.page ≡ b → get_or (cond b (record_page k) (page_at hs q)) capacity 0 ≡ 1
        → (state_at (page_at hs q) 0 ≡ 1 → (h : Held) × Memᴰ h hs × (h.page ≡ q)) → (h : Held) × Memᴰ h (k ∷ hs) × (h.page ≡ q)
    go true t e f = (k, mathlib.Core.List.Memᴰ.head refl, sym (eqb-true q k.page t))
    go false t e f = let i = f e in (i.0, mathlib.Core.List.Memᴰ.tail i.1, i.2)

-- A node of the store: the record that it is in, and the items around it.
pub record NodeIn (root : Row) (pos : ℕ) : Type 0 where
  pub page : ℕ
  pub holder : ℕ
  pub row : Row
  pub before : List ℕ
  pub after : List ℕ
  pub depth : ℕ
  pub within : In root page holder row before after depth
  pub left : List Item
  pub right : List Item
  pub split : items (page_size * page + base row) row ≡ left ++ node pos ∷ right

abbrev pub node_within : {root : Row} {page holder : ℕ} {row : Row} {before after : List ℕ} {d : ℕ} → In root page holder row before after d
    → (pos : ℕ) (left right : List Item) → items (page_size * page + base row) row ≡ left ++ node pos ∷ right → NodeIn root pos
node_within w pos left right e =
    record { page = _; holder = _; row = _; before = _; after = _; depth = _; within = w; left = left; right = right; split = e }

-- Every node of a row that is in a record,
row_nodes : {root : Row} (r : Row) {page holder : ℕ} {row : Row} {before after : List ℕ} {d : ℕ} → In root page holder row before after d
    → (pos : ℕ) (xs ys : List Item) → items (page_size * page + base row) row ≡ xs ++ (items pos r ++ ys)
    → (n : ℕ) → Memᴰ n (spots pos r) → NodeIn root n
row_nodes nil w pos xs ys e n m = absurd (mathlib.Core.List.Memᴰ.not-nil m)
row_nodes {root} (agg l cs rest) w pos xs ys e n m =
    let own = node_within w pos xs (items (pos + 6) cs ++ items (pos + (6 + size cs)) rest ++ ys) e in
    let inner = row_nodes cs w (pos + 6) (xs ++ node pos ∷ []) (items (pos + (6 + size cs)) rest ++ ys) (e ∙ simp append_assoc) n in
    let later = row_nodes rest w (pos + (6 + size cs)) (xs ++ node pos ∷ items (pos + 6) cs) ys (e ∙ simp append_assoc) n in
    ⊎_elim (λ q. subst (NodeIn root) (sym q) own) (λ j. ⊎_elim inner later (mathlib.Core.List.Memᴰ.append_cases (spots (pos + 6) cs) j)) (mathlib.Core.List.Memᴰ.cases_cons m)
row_nodes {root} (lit l c rest) w pos xs ys e n m =
    ⊎_elim (λ q. subst (NodeIn root) (sym q) (node_within w pos xs (items (pos + (6 + length c)) rest ++ ys) e))
    (row_nodes rest w (pos + (6 + length c)) (xs ++ node pos ∷ []) ys (e ∙ simp append_assoc) n) (mathlib.Core.List.Memᴰ.cases_cons m)
row_nodes (rec p s r rest) w pos xs ys e n m =
    let under = sub w xs (items (pos + 8) rest ++ ys) pos p r e in
    ⊎_elim (row_nodes r under (page_size * p + base r) [] [] (sym (append-nil (items (page_size * p + base r) r))) n)
    (row_nodes rest w (pos + 8) (xs ++ proxy pos p r ∷ []) ys (e ∙ simp append_assoc) n) (mathlib.Core.List.Memᴰ.append_cases (spots (page_size * p + base r) r) m)

-- and so each position of the document order is a node item of a record.
pub node_in : (root : Row) (n : ℕ) → Memᴰ n (spots (page_size + base root) root) → NodeIn root n
node_in root n m = row_nodes root top (page_size + base root) [] [] (sym (append-nil (items (page_size + base root) root))) n m

-- Where a node is in the document order.
pub node_split : {root : Row} {pos : ℕ} (w : NodeIn root pos)
    → spots (page_size + base root) root ≡ (w.before ++ expand w.left) ++ pos ∷ (expand w.right ++ w.after)
node_split {root} {pos} w =
    in_spots w.within ∙ rw (spots_split (page_size * w.page + base w.row) w.row w.left (node pos ∷ w.right) w.split) (simp append_assoc)

module _ (img : List ℕ) (st : Config) (root : Row) (r : Reads img st root) where
  pub in_page : {page holder : ℕ} {row : Row} {before after : List ℕ} {d : ℕ} → In root page holder row before after d → OnPage img page holder row
  in_page top = root_page_lem img st root r
  in_page (sub {page = page} {row = row} w xs ys pos p x e) =
      (proxy_of_lem img page pos pos p x (item_at img page (page_size * page + base row) row (in_page w).here xs ys (proxy pos p x) e).0).under

  pub in_deep : {page holder : ℕ} {row : Row} {before after : List ℕ} {d : ℕ} → In root page holder row before after d → d ≤ most_pages
  in_deep w = omega (arith, in_depth w, root_nesting img st root r)

  -- No proxy names page 1, and none names a page twice.
  pub in_once : {page holder : ℕ} {row : Row} {before after : List ℕ} {d : ℕ} → In root page holder row before after d → (n : ℕ) → count n row ≤ 1
  in_once w n =
      let one = cond_case (λ k. k ≤ 1) (outside st.pages n) {x = 0} {y = 1} (λ _. omega arith) (λ _. omega arith) in
      omega (arith, in_count w n, (reads_valid img st root r).placed n)

  pub in_other : {page holder : ℕ} {row : Row} {before after : List ℕ} {d : ℕ} → In root page holder row before after d → count 1 row ≡ 0
  in_other w = omega (arith, in_count w 1, (reads_valid img st root r).placed 1)

  -- Page 1 has the root's record: no node is behind it.
  pub last_page_lem : {page holder : ℕ} {row : Row} {before after : List ℕ} {d : ℕ} → In root page holder row before after d → page ≡ 1 → after ≡ []
  last_page_lem top q = refl
  last_page_lem (sub {page = page} {row = row} w xs ys pos p x e) q =
      let named = rw (eq-eqb 1 p (sym q)) at (count_item pos p x 1 (page_size * page + base row) row (split_mem _ _ xs ys e)) in
      absurd (omega (arith, in_other w))

  -- One record on a page.
  pub same_row : {page holder holder₁ : ℕ} {row row₁ : Row} {before before₁ after after₁ : List ℕ} {d d₁ : ℕ} → In root page holder row before after d
      → In root page holder₁ row₁ before₁ after₁ d₁ → row ≡ row₁
  same_row {page} w w₁ =
      let a = in_listed w in
      let b = in_listed w₁ in
      ap (λ (h : Held). h.row) (one_held (records 0 (store root)) _ _ a.1 b.1 refl (pages_once st root (reads_valid img st root r) page))

  -- A page is a record's exactly if its trailer begins with 1.
  pub page_in_lem : (q : ℕ) → q < st.pages → 1 ≤ q → state_at img (page_size * q) ≡ 1
      → (holder : ℕ) × (row : Row) × (before after : List ℕ) × (d : ℕ) × In root q holder row before after d
  page_in_lem q high low e =
      let v = reads_valid img st root r in
      let hs = records 0 (store root) in
      let page : state_at (page_of img q) 0 ≡ 1 =
      get_or-take page_size (drop (page_size * q) img) capacity 0 (omega arith) ∙ get_or-drop (page_size * q) img capacity 0 ∙ e in
      let same : page_of img q ≡ page_at hs q = ap (λ (l : List ℕ). page_of l q) r.same ∙ image_page st root v q low high in
      let (h, m, p) = page_held hs q (sym (ap (λ (l : List ℕ). state_at l 0) same) ∙ page) in
      let s = root_records root h m in
      subst (λ (q : ℕ). (holder : ℕ) × (row : Row) × (before after : List ℕ) × (d : ℕ) × In root q holder row before after d) p
      (s.holder, s.row, s.before, s.after, s.depth, s.within)

  -- ── the items of a page, and the places ──

  node_stood : (n : ℕ) (w : NodeIn root n) → Stood img w.page n (node n)
  node_stood n w = (item_at img w.page (page_size * w.page + base w.row) w.row (in_page w.within).here w.left w.right (node n) w.split).0

  pub node_header : (n : ℕ) (w : NodeIn root n) → Header img w.page n (node n)
  node_header n w = header_of img w.page n (node n) (node_stood n w)

  module _ {page holder : ℕ} {row : Row} {before after : List ℕ} {d : ℕ} (w : In root page holder row before after d) where
    -- A node item of a page's record is a node of the document order,
    unfoldable pub item_node : (n : ℕ) → Memᴰ (node n) (items (page_size * page + base row) row) → NodeIn root n
    item_node n m =
        let s = mem_split (node n) (items (page_size * page + base row) row) m in
        node_within w n s.0 s.1 s.2

    -- and a node of the document order on this page is a node item of its record.
    pub node_item : (n : ℕ) → page_size * page ≤ n → n < page_size * page + page_size → Memᴰ n (spots (page_size + base root) root)
        → Memᴰ (node n) (items (page_size * page + base row) row)
    node_item n low high m =
        let s = node_in root n m in
        let h = node_header n s in
        let same : s.page ≡ page = omega (arith, h.low, h.room) in
        let one : s.row ≡ row = same_row (subst (λ (q : ℕ). In root q s.holder s.row s.before s.after s.depth) same s.within) w in
        let i : Memᴰ (node n) (items (page_size * s.page + base s.row) s.row) =
        split_mem (node n) (items (page_size * s.page + base s.row) s.row) s.left s.right s.split in
        rw (same, one) at i
