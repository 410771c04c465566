-- A walk along a row that stands in an image: what it asks at each node, and what is left after it.
use Rattle.std.specs.Prelude.{◌≡◌, refl, Bool, cond, List, ℕ, suc, ◌+◌, ◌*◌, ◌-◌, ◌≤◌, ◌<◌, length, get_or, eqb, true, false, Result, Ok, Err}
use Rattle.std.proofs.Common.{sym, ap, subst, ◌∙◌, arith, eqb-true}
use Rattle.std.proofs.lemmas.Bool.{eqb-false}
use Rattle.model.specs.Limits.{page_size, most_bytes}
use Rattle.model.specs.Row.{Row, nil, agg, lit, rec, size, base}
use Rattle.model.specs.Tree.{width}
use Rattle.model.specs.Reading.{size_at, name_at, used_at, kind_at}
use Rattle.theory_decoding.specs.Steps.{steps}
use Rattle.theory_row_bytes.specs.RowAt.{kind_of, size_of, kids_of, rest_of, size_first, agg_first}
use Rattle.theory_layout.specs.Here.{nesting, parts_less, PageIn, Here, view}
use Rattle.theory_layout.specs.Widths.{Widths, width_first, plain_width}
use Rattle.read_find.specs.Nth.{nth_of, nth_inside, nth_after, nth_first}
use Rattle.read_find.specs.Shown.{shown_at, Counts}

-- A row stands from pos to end, with records nested at most `depth` deep below it.
pub record Rowed (img : List ℕ) (pos end depth : ℕ) : Type 0 where
  pub page : ℕ
  pub row : Row
  pub here : Here img page pos row
  pub ends : end ≡ pos + size row
  pub deep : nesting row ≤ depth
  pub few : steps row ≤ most_bytes

pub width_steps : (r : Row) → width r ≤ steps r
width_steps nil = omega arith
width_steps (agg h cs rest) = omega (arith, width_steps rest)
width_steps (lit h c rest) = omega (arith, width_steps rest)
width_steps (rec p s r rest) = omega (arith, width_steps r, width_steps rest)

-- A row is shorter than a page.
pub short : (img : List ℕ) (pos end depth : ℕ) → Rowed img pos end depth → end - pos < page_size
short img pos end depth w = omega (arith, w.ends, w.here.room, w.here.start)

pub room : (img : List ℕ) (pos end depth : ℕ) → Rowed img pos end depth → (end + 16 ≤ length img) × (end < most_bytes)
room img pos end depth w =
    let h = w.here in
    let p = h.on in
    omega (arith, w.ends, h.room)

-- The row behind the first node.
abbrev pub past_first : {img : List ℕ} {i end depth : ℕ} (w : Rowed img i end depth) (len : ℕ) → size_of w.row ≡ len → 0 < size w.row
    → Rowed img (i + len) end depth
past_first {img} {i} w len z h =
    let l = parts_less w.row h in
    record {
      page = w.page;
      row = rest_of w.row;
      here = subst (λ (n : ℕ). Here img w.page (i + n) (rest_of w.row)) z (view w.here h).after;
      ends = omega (arith, w.ends, size_first w.row);
      deep = omega (arith, w.deep);
      few = omega (arith, w.few);
    }

-- The children of the first node, an aggregate.
abbrev pub children_of : {img : List ℕ} {page pos : ℕ} {row : Row} → Here img page pos row → kind_of row ≡ 1 → {depth : ℕ} → nesting row ≤ depth
    → steps row ≤ most_bytes
    → (len : ℕ) → len ≡ size_at img pos → Rowed img (pos + 6) (pos + len) depth
children_of {page = page} {row = row} v k d f len e =
    let a = agg_first row k in
    let l = parts_less row a.0 in
    let w = view v a.0 in
    record { page = page; row = kids_of row; here = w.children; ends = omega (arith, w.size_is); deep = omega arith; few = omega arith }

-- Where a record's row starts and ends, as it is read on its page.
abbrev pub start_on : (img : List ℕ) → (page : ℕ) → ℕ
start_on img p = page_size * p + cond (eqb (kind_at img (page_size * p)) 4) 6 0

abbrev pub end_on : (img : List ℕ) → (page : ℕ) → ℕ
end_on img p = page_size * p + used_at img (page_size * p)

-- ── past a node ──

pub record Passed (img : List ℕ) (i end depth len : ℕ) (row : Row) : Type 0 where
  pub more : 6 ≤ len
  pub after : Rowed img (i + len) end depth
  pub wide : width row ≡ suc (width after.row)
  pub first : Ok i ≡ nth_of i row 0
  pub later : (k : ℕ) → nth_of (i + len) after.row k ≡ nth_of i row (suc k)

module _ (img : List ℕ) (i end depth len : ℕ) (some : i < end) (long : len ≡ size_at img i) (kind : kind_at img i ≡ 3 → ⊥) where
  pub pass : (w : Rowed img i end depth) → Passed img i end depth len w.row
  pass w =
      let h : 0 < size w.row = omega (arith, w.ends) in
      let v = view w.here h in
      let plain : kind_of w.row ≡ 3 → ⊥ = λ k. kind (v.kind_is ∙ k) in
      let z : size_of w.row ≡ len = sym (long ∙ v.size_is) in
      let n = nth_first i w.row h plain in
      record {
        more = omega (arith, v.more);
        after = past_first w len z h;
        wide = omega (arith, width_first w.row, plain_width w.row h plain);
        first = n.0;
        later = λ k. ap (λ (m : ℕ). nth_of (i + m) (rest_of w.row) k) (sym z) ∙ n.1 k;
      }

-- ── a proxy ──

-- The page that it names, and what the row inside the record and the row behind the proxy are to the whole row.
pub record Entered (img : List ℕ) (i end depth p : ℕ) (row : Row) : Type 0 where
  pub on : PageIn img p
  pub below : 1 ≤ depth
  pub long : size_at img i ≡ 8
  pub inside : Rowed img (start_on img p) (end_on img p) (depth - 1)
  pub after : Rowed img (i + 8) end depth
  pub settled : Bool
  pub is : row ≡ rec p settled inside.row after.row
  pub starts : start_on img p ≡ page_size * p + base inside.row
  pub wide : width row ≡ width inside.row + width after.row
  pub told : (c : List ℕ) → Widths img c → get_or c p 0 ≡ width inside.row
  pub within : (k : ℕ) → k < width inside.row → nth_of (start_on img p) inside.row k ≡ nth_of i row k
  pub beyond : (k : ℕ) → width inside.row ≤ k → nth_of (i + 8) after.row (k - width inside.row) ≡ nth_of i row k

module _ (img : List ℕ) (i end depth p : ℕ) (some : i < end) (kind : kind_at img i ≡ 3) (named : p ≡ name_at img i) where
  enter_row : (page : ℕ) (row : Row) → Here img page i row → end ≡ i + size row → nesting row ≤ depth → steps row ≤ most_bytes → Entered img i end depth p row
  enter_row page nil h e d f = absurd (omega arith)
  enter_row page (agg l cs rest) h e d f = absurd (omega (arith, (view h (omega arith)).kind_is))
  enter_row page (lit l c rest) h e d f = absurd (omega (arith, (view h (omega arith)).kind_is))
  enter_row page (rec q s r rest) h e d f =
      let v = view h (omega arith) in
      let u = v.under in
      let same : p ≡ q = named ∙ v.name_is refl in
      let a : start_on img p ≡ page_size * q + base r = ap (start_on img) same ∙ ap (λ (n : ℕ). page_size * q + n) u.first in
      let b : end_on img p ≡ page_size * q + (base r + size r) = ap (end_on img) same ∙ ap (λ (n : ℕ). page_size * q + n) u.used in
      record {
        on = subst (PageIn img) (sym same) u.here.on;
        below = omega arith;
        long = v.size_is;
        inside =
            record {
              page = q;
              row = r;
              here = subst (λ (n : ℕ). Here img q n r) (sym a) u.here;
              ends = omega arith;
              deep = omega arith;
              few =
                  omega arith;
            };
        after = record { page = page; row = rest; here = v.after; ends = omega arith; deep = omega arith; few = omega arith };
        settled = s;
        is = ap (λ (n : ℕ). rec n s r rest) (sym same);
        starts = a ∙ ap (λ (n : ℕ). page_size * n + base r) (sym same);
        wide = refl;
        told = λ c t. ap (λ (n : ℕ). get_or c n 0) same ∙ t.told q page r h.on.low u;
        within = λ k t. ap (λ (n : ℕ). nth_of n r k) a ∙ sym (nth_inside i q s r rest k t);
        beyond = λ k t. sym (nth_after i q s r rest k t);
      }

  pub enter : (w : Rowed img i end depth) → Entered img i end depth p w.row
  enter w = enter_row w.page w.row w.here w.ends w.deep w.few

-- ── the first node ──

-- What it shows, by the table.
module _ (img : List ℕ) (i end depth : ℕ) (some : i < end) (w : Rowed img i end depth) (c : List ℕ) (table : Widths img c) where
  pub counts : Counts img c i
  counts =
      let r = room img i end depth w in
      record {
        inside = omega (arith, r.0);
        named = λ k.
            let e = enter img i end depth (name_at img i) some k refl w in
            (omega (arith, r.0), omega (arith, e.on.inside, table.long));
      }

  pub more : 6 ≤ size_at img i
  more = let v = view w.here (omega (arith, w.ends)) in omega (arith, v.size_is, v.more)

-- ── counting ──

-- n nodes are passed, and the row that is left brings the count to t.
pub record Counted (img : List ℕ) (i end depth n t : ℕ) : Type 0 where
  pub rest : Rowed img i end depth
  pub sum : n + width rest.row ≡ t

pub counting : (img : List ℕ) (i end depth : ℕ) → (w : Rowed img i end depth) → Counted img i end depth 0 (width w.row)
counting img i end depth w = record { rest = w; sum = omega arith }

pub counted : (img : List ℕ) (i end depth n t : ℕ) → Counted img i end depth n t → end ≤ i → n ≡ t
counted img i end depth n t s h = go s.rest.row s.rest.ends s.sum
  where
    go : (row : Row) → end ≡ i + size row → n + width row ≡ t → n ≡ t
    go nil e u = omega arith
    go (agg l cs rest) e u = absurd (omega arith)
    go (lit l c rest) e u = absurd (omega arith)
    go (rec p b r rest) e u = absurd (omega arith)

pub count_node : (img : List ℕ) (i end depth n t len : ℕ) → (s : Counted img i end depth n t) → Passed img i end depth len s.rest.row
    → Counted img (i + len) end depth (n + 1) t
count_node img i end depth n t len s a = record { rest = a.after; sum = omega (arith, s.sum, a.wide) }

-- A proxy, by the table's number of its record's nodes.
pub count_proxy : (img : List ℕ) (i end depth n t len p : ℕ) → len ≡ size_at img i → (s : Counted img i end depth n t)
    → Entered img i end depth p s.rest.row
    → (c : List ℕ) → Widths img c → Counted img (i + len) end depth (n + get_or c p 0) t
count_proxy img i end depth n t len p e s a c table =
    subst (λ (m : ℕ). Counted img (i + m) end depth (n + get_or c p 0) t) (sym (e ∙ a.long))
    (record { rest = a.after; sum = omega (arith, s.sum, a.wide, a.told c table) })

-- The first node, as many as it shows.
module _ (img : List ℕ) (i end depth n t len : ℕ) (some : i < end) (long : len ≡ size_at img i) (s : Counted img i end depth n t)
    (c : List ℕ) (table : Widths img c) where
  pub count_first : Counted img (i + len) end depth (n + shown_at img c i) t
  count_first = go (eqb (kind_at img i) 3) refl
    where
      go : (b : Bool) → eqb (kind_at img i) 3 ≡ b → Counted img (i + len) end depth (n + cond b (get_or c (name_at img i) 0) 1) t
      go true e =
          count_proxy img i end depth n t len (name_at img i) long s
          (enter img i end depth (name_at img i) some (eqb-true (kind_at img i) 3 e) refl s.rest) c table
      go false e = count_node img i end depth n t len s (pass img i end depth len some long (eqb-false (kind_at img i) 3 e) s.rest)

-- ── searching ──

-- Node `left` of the row that is left is the one sought.
pub record Sought (img : List ℕ) (i end depth left : ℕ) (t : Result ℕ ℕ) : Type 0 where
  pub rest : Rowed img i end depth
  pub same : nth_of i rest.row left ≡ t

pub seeking : (img : List ℕ) (i end depth k : ℕ) → (w : Rowed img i end depth) → Sought img i end depth k (nth_of i w.row k)
seeking img i end depth k w = record { rest = w; same = refl }

pub sought : (img : List ℕ) (i end depth left : ℕ) (t : Result ℕ ℕ) → Sought img i end depth left t → end ≤ i → Err left ≡ t
unfolding nth_of
sought img i end depth left t s h = go s.rest.row s.rest.ends s.same
  where
    go : (row : Row) → end ≡ i + size row → nth_of i row left ≡ t → Err left ≡ t
    go nil e u = u
    go (agg l cs rest) e u = absurd (omega arith)
    go (lit l c rest) e u = absurd (omega arith)
    go (rec p b r rest) e u = absurd (omega arith)

pub seek_here : (img : List ℕ) (i end depth left len : ℕ) (t : Result ℕ ℕ) → (s : Sought img i end depth left t) → Passed img i end depth len s.rest.row
    → left ≡ 0 → Ok i ≡ t
seek_here img i end depth left len t s a z = a.first ∙ ap (nth_of i s.rest.row) (sym z) ∙ s.same

pub seek_node : (img : List ℕ) (i end depth left len : ℕ) (t : Result ℕ ℕ) → (s : Sought img i end depth left t) → Passed img i end depth len s.rest.row
    → (left ≡ 0 → ⊥) → Sought img (i + len) end depth (left - 1) t
seek_node img i end depth left len t s a z =
    let e : suc (left - 1) ≡ left = omega arith in
    record { rest = a.after; same = a.later (left - 1) ∙ ap (nth_of i s.rest.row) e ∙ s.same }

-- Into a record that shows more nodes than are to be passed, and past one that does not, by the table's number of its nodes.
module _ (img : List ℕ) (i end depth left p : ℕ) (t : Result ℕ ℕ) (s : Sought img i end depth left t) (a : Entered img i end depth p s.rest.row)
    (c : List ℕ) (table : Widths img c) where
  pub seek_inside : (start stop : ℕ) → start ≡ start_on img p → stop ≡ end_on img p → left < get_or c p 0 → Sought img start stop (depth - 1) left t
  seek_inside start stop e f h =
      rw (e, f) (record { rest = a.inside; same = a.within left (omega (arith, a.told c table)) ∙ s.same })

  pub seek_past : get_or c p 0 ≤ left → Sought img (i + 8) end depth (left - get_or c p 0) t
  seek_past h =
      let e = a.told c table in
      record { rest = a.after; same = ap (λ (n : ℕ). nth_of (i + 8) a.after.row (left - n)) e ∙ a.beyond left (omega arith) ∙ s.same }

-- Past a first node that shows no more nodes than are to be passed.
module _ (img : List ℕ) (i end depth left len : ℕ) (t : Result ℕ ℕ) (some : i < end) (long : len ≡ size_at img i) (s : Sought img i end depth left t)
    (c : List ℕ) (table : Widths img c) where
  pub seek_on : shown_at img c i ≤ left → Sought img (i + len) end depth (left - shown_at img c i) t
  seek_on = go (eqb (kind_at img i) 3) refl
    where
      go : (b : Bool) → eqb (kind_at img i) 3 ≡ b → cond b (get_or c (name_at img i) 0) 1 ≤ left
          → Sought img (i + len) end depth (left - cond b (get_or c (name_at img i) 0) 1) t
      go true e h =
          let a = enter img i end depth (name_at img i) some (eqb-true (kind_at img i) 3 e) refl s.rest in
          rw (long ∙ a.long) (seek_past img i end depth left (name_at img i) t s a c table h)
      go false e h =
          seek_node img i end depth left len t s (pass img i end depth len some long (eqb-false (kind_at img i) 3 e) s.rest) (λ z. omega arith)
