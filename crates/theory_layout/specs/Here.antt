-- A row that stands in an image: what is read at its first node, and that its parts stand too.
use Rattle.std.specs.Prelude.{◌≡◌, true, cond, List, ℕ, suc, ◌+◌, ◌*◌, ◌≤◌, ◌<◌, max, length, get_or, take, drop, eqb}
use Rattle.std.proofs.Common.{sym, subst, ◌∙◌, arith}
use Rattle.model.specs.Limits.{most_pages, page_size, capacity}
use Rattle.model.specs.Row.{Row, nil, agg, lit, rec, store, size, base, record_size, Held, record_page, count, Config, record_on}
use Rattle.model.specs.Reading.{Reads, two_at, page_of, size_at, name_at, used_at, back_at, state_at, kind_at, head_at}
use Rattle.theory_rows.specs.Fits.{Fits, HeadFits}
use Rattle.theory_rows.specs.Image.{Stored}
use Rattle.theory_decoding.specs.Valid.{names_own}
use Rattle.theory_decoding.specs.Steps.{record_count, few_records, named_inside, steps}
use Rattle.theory_decoding.specs.Decode.{in_trailer, used_page, stored_image}
use Rattle.theory_decoding.specs.Reading.{reads_valid, reads_length}
use Rattle.theory_places.specs.Order.{lone_root}
use Rattle.theory_row_bytes.specs.RowAt.{RowAt, first_node, kind_of, head_of, size_of, body_of, name_of, kids_of, rest_of, record_row_lem, record_first}
use Rattle.theory_row_bytes.specs.RowAt.{page_record, back_on}
use Rattle.theory_row_bytes.specs.RowAt.{no_head_lem, byte_on, number_on}

-- How far records are nested below a row.
abbrev pub nesting : Row → ℕ
nesting nil = 0
nesting (agg h cs rest) = max (nesting cs) (nesting rest)
nesting (lit h c rest) = nesting rest
nesting (rec p s r rest) = max (suc (nesting r)) (nesting rest)

pub nesting_count : (r : Row) → nesting r ≤ record_count r
nesting_count nil = omega arith
nesting_count (agg h cs rest) = omega (arith, nesting_count cs, nesting_count rest)
nesting_count (lit h c rest) = nesting_count rest
nesting_count (rec p s r rest) = omega (arith, nesting_count r, nesting_count rest)

-- A node's children and the nodes behind it are nested no deeper, and take fewer steps.
pub parts_less : (r : Row) → 0 < size r
    → (nesting (kids_of r) ≤ nesting r) × (nesting (rest_of r) ≤ nesting r) × (steps (kids_of r) + steps (rest_of r) < steps r)
parts_less nil h = absurd (omega arith)
parts_less (agg l cs rest) h = (omega arith, omega arith, omega arith)
parts_less (lit l c rest) h = (omega arith, omega arith, omega arith)
parts_less (rec p s r rest) h = (omega arith, omega arith, omega arith)

-- A record page of the image.
pub record PageIn (img : List ℕ) (page : ℕ) : Type 0 where
  pub low : 1 ≤ page
  pub high : page < most_pages
  pub inside : page_size * page + page_size ≤ length img

-- The row stands at byte pos of the image, in the record of `page`; the records below it stand on their pages.
pub record Here (img : List ℕ) (page pos : ℕ) (row : Row) : Type 0 where
  pub at : RowAt img pos row
  pub on : PageIn img page
  pub start : page_size * page ≤ pos
  pub room : pos + size row ≤ page_size * page + capacity
  pub fits : Fits row
  pub stored : Stored (page_of img) page row
  pub names : (q : ℕ) → 1 ≤ count q row → PageIn img q

-- ── a record on its page ──

-- What is read on a record's page.
pub record OnPage (img : List ℕ) (page holder : ℕ) (row : Row) : Type 0 where
  pub here : Here img page (page_size * page + base row) row
  pub first : cond (eqb (kind_at img (page_size * page)) 4) 6 0 ≡ base row
  pub state : state_at img (page_size * page) ≡ 1
  pub used : used_at img (page_size * page) ≡ record_size row
  pub back : back_at img (page_size * page) ≡ holder
  pub fits : record_size row ≤ capacity

module _ (img : List ℕ) (h : Held) (p : PageIn img h.page) (e : page_of img h.page ≡ record_page h) (f : record_size h.row ≤ capacity)
    (b : h.holder < most_pages) where
  pub page_byte : (i : ℕ) → i < page_size → get_or img (page_size * h.page + i) 0 ≡ get_or (record_page h) i 0
  page_byte = byte_on img h.page e

  pub page_number : (i : ℕ) → i < 4095 → two_at img (page_size * h.page + i) ≡ two_at (record_page h) i
  page_number = number_on img h.page e

  pub page_view : Fits h.row → Stored (page_of img) h.page h.row → ((q : ℕ) → 1 ≤ count q h.row → PageIn img q)
      → OnPage img h.page h.holder h.row
  unfolding two_at
  page_view g m n =
      let w = page_record img h e in
      record {
        here = record { at = record_row_lem w; on = p; start = omega arith; room = omega arith; fits = g; stored = m; names = n };
        first = record_first w;
        state = page_byte capacity (omega arith) ∙ in_trailer h f 0;
        used = page_number (capacity + 2) (omega arith) ∙ used_page h f;
        back = back_on img h e f (omega arith);
        fits = f;
      }

-- ── the first node ──

-- The record that a proxy stands for is on its page.
abbrev pub UnderProxy : (img : List ℕ) (page : ℕ) → Row → Type 0
UnderProxy img page nil = Unit {0}
UnderProxy img page (agg h cs rest) = Unit {0}
UnderProxy img page (lit h c rest) = Unit {0}
UnderProxy img page (rec p s r rest) = OnPage img p page r

-- What is read at the first node of a row, and its parts.
pub record View (img : List ℕ) (page pos : ℕ) (row : Row) : Type 0 where
  pub kind_is : kind_at img pos ≡ kind_of row
  pub head_is : head_at img pos ≡ head_of row
  pub size_is : size_at img pos ≡ size_of row
  pub name_is : kind_of row ≡ 3 → name_at img pos ≡ name_of row
  pub content : take (length (body_of row)) (drop (pos + 6) img) ≡ body_of row
  pub more : 6 ≤ size_of row
  pub total : size row ≡ size_of row + size (rest_of row)
  pub children : Here img page (pos + 6) (kids_of row)
  pub after : Here img page (pos + size_of row) (rest_of row)
  pub under : UnderProxy img page row

-- What a row holds, its first node's children and the nodes behind it hold.
record Parts (img : List ℕ) (page : ℕ) (row : Row) : Type 0 where
  head : HeadFits (head_of row)
  name : name_of row < 65536
  within : 6 + size (kids_of row) + size (rest_of row) ≤ size row
  kids : Fits (kids_of row) × Stored (page_of img) page (kids_of row)
  rest : Fits (rest_of row) × Stored (page_of img) page (rest_of row)
  names : (q : ℕ) → (count q (kids_of row) ≤ count q row) × (count q (rest_of row) ≤ count q row)
  under : UnderProxy img page row

parts : (img : List ℕ) (page pos : ℕ) (row : Row) → 0 < size row → Here img page pos row → Parts img page row
parts img page pos nil h v = absurd (omega arith)
parts img page pos (agg hd cs rest) h v =
    let f = v.fits in
    let n : (q : ℕ) → (count q cs ≤ count q cs + count q rest) × (count q rest ≤ count q cs + count q rest) = λ q. (omega arith, omega arith) in
    record { head = f.0; name = omega arith; within = omega arith; kids = (f.1, v.stored.0); rest = (f.2, v.stored.1); names = n; under = tt }
parts img page pos (lit hd c rest) h v =
    let n : (q : ℕ) → (0 ≤ count q rest) × (count q rest ≤ count q rest) = λ q. (omega arith, omega arith) in
    record { head = v.fits.0; name = omega arith; within = omega arith; kids = (tt, tt); rest = (v.fits.3, v.stored); names = n; under = tt }
parts img page pos (rec p s r rest) h v =
    let f = v.fits in
    let own = v.names p (names_own p s r rest) in
    record {
      head = no_head_lem;
      name = omega (arith, own.high);
      within = omega arith;
      kids = (tt, tt);
      rest = (f.2, v.stored.2);
      names = λ q. (omega arith, omega arith);
      under = page_view img (record_on p s page r) own v.stored.0 f.0.fits v.on.high f.1 v.stored.1 (λ q k. v.names q (omega arith));
    }

pub view : {img : List ℕ} {page pos : ℕ} {row : Row} → Here img page pos row → 0 < size row → View img page pos row
view {img} {page} {pos} {row} v some =
    let n = first_node img pos row some (omega (arith, v.start, v.room)) v.at in
    let p = parts img page pos row some v in
    record {
      kind_is = n.kind_is;
      head_is = n.head_is p.head;
      size_is = n.size_is;
      name_is = λ k. n.name_is k p.name;
      content = n.body_is;
      more = n.more;
      total = n.total;
      children = record {
        at = n.kids;
        on = v.on;
        start = omega (arith, v.start);
        room = omega (arith, p.within, v.room);
        fits = p.kids.0;
        stored = p.kids.1;
        names = λ q k. v.names q (omega (arith, (p.names q).0));
      };
      after = record {
        at = n.rest;
        on = v.on;
        start = omega (arith, v.start);
        room = omega (arith, n.total, v.room);
        fits = p.rest.0;
        stored = p.rest.1;
        names = λ q k. v.names q (omega (arith, (p.names q).1));
      };
      under = p.under;
    }

-- ── the root record ──

pub root_page_lem : (img : List ℕ) (st : Config) (root : Row) → Reads img st root → OnPage img 1 0 root
root_page_lem img st root r =
    let v = reads_valid img st root r in
    let m : Stored (page_of img) 0 (store root) = subst (λ (i : List ℕ). Stored (page_of i) 0 (store root)) (sym r.same) (stored_image st root v) in
    let long = reads_length img st root r in
    let named : (q : ℕ) → 1 ≤ count q (store root) → PageIn img q =
    λ q k. let n = named_inside st root v q k in record { low = n.0; high = omega (arith, n.1, v.ranges.many); inside = omega (arith, n.1) } in
    page_view img (record_on 1 true 0 root) (named 1 (names_own 1 true root nil)) m.0 v.rows.0.fits (omega arith) v.rows.1 m.1
    (λ q k. named q (omega arith))

pub root_here : (img : List ℕ) (st : Config) (root : Row) → Reads img st root → Here img 1 page_size root
root_here img st root r =
    let b : base root ≡ 0 = rw (lone_root st root (reads_valid img st root r)) in
    let z : page_size * 1 + base root ≡ page_size = omega arith in
    subst (λ (n : ℕ). Here img 1 n root) z (root_page_lem img st root r).here

-- A recursion with this many levels to go comes through.
pub root_nesting : (img : List ℕ) (st : Config) (root : Row) → Reads img st root → nesting root ≤ most_pages
root_nesting img st root r =
    let v = reads_valid img st root r in
    omega (arith, nesting_count (store root), few_records st root v, v.ranges.many)
