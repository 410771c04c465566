-- Where a node of a row stands, or its proxy, and what is read at the first node of a row.
use Rattle.std.specs.Prelude.{◌≡◌, refl, Bool, true, false, cond, not, List, ℕ, zero, suc, ◌+◌, ◌*◌, ◌-◌, ◌/◌, ◌%◌, ◌≤◌, ◌<◌, length, get_or, ltb, eqb, Option, None, Some, is_some, IfSome}
use Rattle.std.proofs.Common.{sym, ap, ◌∙◌, arith, lt-ltb, le-ltb, ltb-true, ltb-false, eq-eqb, ne_eqb, eqb-true}
use Rattle.std.proofs.lemmas.Bool.{false≢true, not-false, eqb-false}
use Rattle.std.proofs.Math.Nat.{sub-zero, suc-sub-suc}
use Rattle.std.proofs.Math.Dec.{leb-suc-suc, leb-suc-zero}
use Rattle.model.specs.Limits.{page_size}
use Rattle.model.specs.Row.{Row, nil, agg, lit, rec, size, lone, base}
use Rattle.model.specs.Tree.{width}
use Rattle.model.specs.Reading.{size_at, name_at, kind_at}
use Rattle.theory_rows.specs.Laws.{cond_case}
use Rattle.theory_row_bytes.specs.RowAt.{kind_of, size_of, rest_of}
use Rattle.theory_layout.specs.Here.{Here, view}
use Rattle.theory_layout.specs.Widths.{Widths, first_width, plain_width}
use Rattle.read_find.specs.Rowed.{Rowed, Entered, enter, counts, start_on, end_on}
use Rattle.read_find.specs.Shown.{shown_at, Counts, shown_proxy, shown_plain}
use Rattle.grow_locate.specs.declared.Located.{Located}
use Rattle.grow_locate.specs.declared.Span.{Span}

abbrev pub located_at : (at past par n : ℕ) → Located
located_at at past par n = record { at = at; past = past; par = par; deep = n }

-- Node k of those that the row at pos shows, or its proxy if it is a record's root; the node that holds the row is at `par` in its record, and the row is n
-- records down from the parent's.
unfoldable pub seek_of : (pos par n : ℕ) → Row → (k : ℕ) → Option Located
seek_of pos par n nil k = None
seek_of pos par n (agg h cs rest) zero = Some (located_at pos (pos + (6 + size cs)) par n)
seek_of pos par n (agg h cs rest) (suc k) = seek_of (pos + (6 + size cs)) par n rest k
seek_of pos par n (lit h c rest) zero = Some (located_at pos (pos + (6 + length c)) par n)
seek_of pos par n (lit h c rest) (suc k) = seek_of (pos + (6 + length c)) par n rest k
seek_of pos par n (rec p s r rest) k =
    let within = seek_of (page_size * p + base r) 0 (n + 1) r k in
    let beyond = seek_of (pos + 8) par n rest (k - width r) in
    cond (ltb k (width r)) (cond (lone r) (Some (located_at pos (pos + 8) par n)) within) beyond

-- In a span of nodes.
abbrev pub seek_span : Span → Row → (k : ℕ) → Option Located
seek_span r row k = seek_of r.pos r.par r.deep row k

-- Past its first node of n bytes, into the record whose proxy that is, and none.
abbrev pub past_span : Span → (n : ℕ) → Span
past_span r n = record { pos = r.pos + n; end = r.end; par = r.par; deep = r.deep }

abbrev pub inside_span : (img : List ℕ) → Span → Span
inside_span img r = let p = name_at img r.pos in record { pos = start_on img p; end = end_on img p; par = 0; deep = r.deep + 1 }

abbrev pub empty_span : Span → Span
empty_span r = record { pos = r.end; end = r.end; par = r.par; deep = r.deep }

-- What follows a node in its row, or, if nothing does, what follows further up.
abbrev pub closer_of : (next after : Span) → Span
closer_of next after = cond (ltb next.pos next.end) next after

pub closer_deep : (next after : Span) (n : ℕ) → next.deep ≤ n → after.deep ≤ n → (closer_of next after).deep ≤ n
closer_deep next after n h k = cond_case (λ (r : Span). r.deep ≤ n) (ltb next.pos next.end) (λ _. h) (λ _. k)

-- The children of the aggregate at a byte of the image.
abbrev pub children_span : (img : List ℕ) → (parent : ℕ) → Span
children_span img parent = record { pos = parent + 6; end = parent + size_at img parent; par = parent % page_size; deep = 0 }

-- ── it is found exactly if the row shows the node ──

pub moved : (k a b : ℕ) → a ≤ k → ltb (k - a) b ≡ ltb k (a + b)
moved k a b h = go (ltb k (a + b)) refl
  where
    go : (u : Bool) → ltb k (a + b) ≡ u → ltb (k - a) b ≡ u
    go true e = lt-ltb (k - a) b (omega (arith, ltb-true k (a + b) e))
    go false e = le-ltb (k - a) b (omega (arith, ltb-false k (a + b) e))

pub seek_found : (pos par n : ℕ) (row : Row) (k : ℕ) → is_some (seek_of pos par n row k) ≡ ltb k (width row)
unfolding seek_of
seek_found pos par n nil k = sym (leb-suc-zero k)
seek_found pos par n (agg h cs rest) zero = sym (lt-ltb 0 (suc (width rest)) (omega arith))
seek_found pos par n (agg h cs rest) (suc k) = seek_found _ par n rest k ∙ sym (leb-suc-suc (suc k) (width rest))
seek_found pos par n (lit h c rest) zero = sym (lt-ltb 0 (suc (width rest)) (omega arith))
seek_found pos par n (lit h c rest) (suc k) = seek_found _ par n rest k ∙ sym (leb-suc-suc (suc k) (width rest))
seek_found pos par n (rec p s r rest) k =
    let P : Option Located → Type 0 = λ l. is_some l ≡ ltb k (width r + width rest) in
    cond_case P (ltb k (width r))
    (λ e.
    let f : true ≡ ltb k (width r + width rest) = sym (lt-ltb k (width r + width rest) (omega (arith, ltb-true k (width r) e))) in
    cond_case P (lone r) (λ _. f) (λ _. seek_found _ 0 (n + 1) r k ∙ e ∙ f))
    (λ e. seek_found (pos + 8) par n rest (k - width r) ∙ moved k (width r) (width rest) (ltb-false k (width r) e))

pub seek_beyond : (pos par n : ℕ) (row : Row) (k : ℕ) → width row ≤ k → seek_of pos par n row k ≡ None
unfolding seek_of
seek_beyond pos par n nil k h = refl
seek_beyond pos par n (agg l cs rest) zero h = absurd (omega arith)
seek_beyond pos par n (agg l cs rest) (suc k) h = seek_beyond _ par n rest k (omega arith)
seek_beyond pos par n (lit l c rest) zero h = absurd (omega arith)
seek_beyond pos par n (lit l c rest) (suc k) h = seek_beyond _ par n rest k (omega arith)
seek_beyond pos par n (rec p s r rest) k h =
    rw (le-ltb k (width r) (omega arith)) (seek_beyond (pos + 8) par n rest (k - width r) (omega arith))

-- The bytes of a node end behind their start.
pub seek_order : (pos par n : ℕ) (row : Row) (k : ℕ) → IfSome (seek_of pos par n row k) (λ l. l.at ≤ l.past)
unfolding seek_of
seek_order pos par n nil k = tt
seek_order pos par n (agg h cs rest) zero = omega arith
seek_order pos par n (agg h cs rest) (suc k) = seek_order _ par n rest k
seek_order pos par n (lit h c rest) zero = omega arith
seek_order pos par n (lit h c rest) (suc k) = seek_order _ par n rest k
seek_order pos par n (rec p s r rest) k =
    let P : Option Located → Type 0 = λ o. IfSome o (λ l. l.at ≤ l.past) in
    cond_case P (ltb k (width r)) (λ _. cond_case P (lone r) (λ _. omega arith) (λ _. seek_order _ 0 (n + 1) r k))
    (λ _. seek_order (pos + 8) par n rest (k - width r))

-- ── by the first node ──

-- Whether the first node is the proxy of a record with a helper.
abbrev pub helper_first : Row → Bool
helper_first nil = false
helper_first (agg h cs rest) = false
helper_first (lit h c rest) = false
helper_first (rec p s r rest) = not (lone r)

helper_proxy : (row : Row) → helper_first row ≡ true → kind_of row ≡ 3
helper_proxy nil e = absurd (false≢true e)
helper_proxy (agg h cs rest) e = absurd (false≢true e)
helper_proxy (lit h c rest) e = absurd (false≢true e)
helper_proxy (rec p s r rest) e = refl

plain_helper : (row : Row) → (kind_of row ≡ 3 → ⊥) → false ≡ helper_first row
plain_helper nil z = refl
plain_helper (agg h cs rest) z = refl
plain_helper (lit h c rest) z = refl
plain_helper (rec p s r rest) z = absurd (z refl)

pub seek_further : (pos par n k : ℕ) (row : Row) → 0 < size row → first_width row ≤ k
    → seek_of (pos + size_of row) par n (rest_of row) (k - first_width row) ≡ seek_of pos par n row k
unfolding seek_of
seek_further pos par n k nil h w = absurd (omega arith)
seek_further pos par n zero (agg l cs rest) h w = absurd (omega arith)
seek_further pos par n (suc k) (agg l cs rest) h w = rw (suc-sub-suc, sub-zero)
seek_further pos par n zero (lit l c rest) h w = absurd (omega arith)
seek_further pos par n (suc k) (lit l c rest) h w = rw (suc-sub-suc, sub-zero)
seek_further pos par n k (rec p s r rest) h w = sym (rw (le-ltb k (width r) w))

pub seek_first : (pos par n k : ℕ) (row : Row) → k < first_width row → helper_first row ≡ false → Some (located_at pos (pos + size_of row) par n) ≡ seek_of pos par n row k
unfolding seek_of
seek_first pos par n k nil h f = absurd (omega arith)
seek_first pos par n zero (agg l cs rest) h f = refl
seek_first pos par n (suc k) (agg l cs rest) h f = absurd (omega arith)
seek_first pos par n zero (lit l c rest) h f = refl
seek_first pos par n (suc k) (lit l c rest) h f = absurd (omega arith)
seek_first pos par n k (rec p s r rest) h f = sym (rw (lt-ltb k (width r) h, not-false (lone r) f))

pub seek_under : (pos par n k p : ℕ) (s : Bool) (r rest : Row) → k < width r → lone r ≡ false
    → seek_of (page_size * p + base r) 0 (n + 1) r k ≡ seek_of pos par n (rec p s r rest) k
unfolding seek_of
seek_under pos par n k p s r rest h f = sym (rw (lt-ltb k (width r) h, f))

-- ── the first node in an image ──

-- A row of one node or more stands at pos.
pub record SomeRow (img : List ℕ) (pos : ℕ) : Type 0 where
  pub end : ℕ
  pub depth : ℕ
  pub rowed : Rowed img pos end depth
  pub some : pos < end

module _ {img : List ℕ} {pos : ℕ} (w : SomeRow img pos) where
  abbrev row : Row
  row = w.rowed.row

  pub full : 0 < size row
  full = omega (arith, w.rowed.ends, w.some)

  pub first_long : 6 ≤ size_at img pos
  first_long = let v = view w.rowed.here full in omega (arith, v.size_is, v.more)

  -- It is no proxy,
  pub plain_first : (kind_at img pos ≡ 3 → ⊥) → (1 ≡ first_width row) × (false ≡ helper_first row)
  plain_first z =
      let plain : kind_of row ≡ 3 → ⊥ = λ k. z ((view w.rowed.here full).kind_is ∙ k) in
      (sym (plain_width row full plain), plain_helper row plain)

  pub helper_first_lem : helper_first row ≡ true → kind_at img pos ≡ 3
  helper_first_lem f = (view w.rowed.here full).kind_is ∙ helper_proxy row f

  -- or one, of a record with a helper or without.
  module _ (k : kind_at img pos ≡ 3) {p : ℕ} (named : p ≡ name_at img pos) where
    pub proxy_first : Entered img pos w.end w.depth p row
    proxy_first = enter img pos w.end w.depth p w.some k named w.rowed

    pub proxy_width : (c : List ℕ) → Widths img c → get_or c p 0 ≡ first_width row
    proxy_width c table = proxy_first.told c table ∙ ap first_width (sym proxy_first.is)

    pub proxy_helper : {start : ℕ} → start ≡ start_on img p → not (eqb (start % page_size) 0) ≡ helper_first row
    proxy_helper {start} e = go (lone r) (e ∙ proxy_first.starts) ∙ ap helper_first (sym proxy_first.is)
      where
        r : Row
        r = proxy_first.inside.row

        go : (b : Bool) → start ≡ page_size * p + cond b 0 6 → not (eqb (start % page_size) 0) ≡ not b
        go true z = ap not (eq-eqb (start % page_size) 0 (omega arith))
        go false z = ap not (ne_eqb (start % page_size) 0 (λ y. omega arith))

  -- By a table that is right.
  module _ (c : List ℕ) (table : Widths img c) where
    pub first_counts : Counts img c pos
    first_counts = counts img pos w.end w.depth w.some w.rowed c table

    pub first_shown : shown_at img c pos ≡ first_width row
    first_shown = go (eqb (kind_at img pos) 3) refl
      where
        go : (b : Bool) → eqb (kind_at img pos) 3 ≡ b → shown_at img c pos ≡ first_width row
        go true e =
            let k = eqb-true (kind_at img pos) 3 e in
            shown_proxy img c pos (name_at img pos) k refl ∙ proxy_width k refl c table
        go false e = let k = eqb-false (kind_at img pos) 3 e in shown_plain img c pos k ∙ (plain_first k).0

-- ── in the image ──

-- The page in which a byte is, whole in the image.
abbrev pub PageAround : (img : List ℕ) → (pos : ℕ) → Type 0
PageAround img pos = page_size * (pos / page_size) + page_size ≤ length img

-- What is found stands in such a page.
pub seek_on : {img : List ℕ} {page : ℕ} (pos par n : ℕ) (row : Row) (k : ℕ) → Here img page pos row → IfSome (seek_of pos par n row k) (λ l. PageAround img l.at)
unfolding seek_of
seek_on pos par n nil k h = tt
seek_on pos par n (agg l cs rest) zero h = omega (arith, h.on.inside, h.start, h.room)
seek_on pos par n (agg l cs rest) (suc k) h = seek_on _ par n rest k (view h (omega arith)).after
seek_on pos par n (lit l c rest) zero h = omega (arith, h.on.inside, h.start, h.room)
seek_on pos par n (lit l c rest) (suc k) h = seek_on _ par n rest k (view h (omega arith)).after
seek_on {img = img} {page = page} pos par n (rec p s r rest) k h =
    let P : Option Located → Type 0 = λ o. IfSome o (λ l. PageAround img l.at) in
    let v = view h (omega arith) in
    cond_case P (ltb k (width r))
    (λ _. cond_case P (lone r) (λ _. omega (arith, h.on.inside, h.start, h.room)) (λ _. seek_on {page = p} _ 0 (n + 1) r k v.under.here))
    (λ _. seek_on (pos + 8) par n rest (k - width r) v.after)
