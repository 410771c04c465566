-- What a removal works on: a node that stands in the records, and what each step needs of it.
use Rattle.std.specs.Prelude.{◌≡◌, refl, Bool, false, cond, List, ℕ, ◌+◌, ◌*◌, ◌≤◌, ◌<◌, length, eqb}
use Rattle.std.proofs.Common.{sym, ap, subst, ◌∙◌, true≢false, arith}
use Rattle.model.specs.Limits.{most_pages, page_size, capacity}
use Rattle.model.specs.Row.{Row, rec, store, ◌⊹◌, size, base, node_count, lone, record_page, record_on, count, Config}
use Rattle.model.specs.Tree.{Tree}
use Rattle.model.specs.Reading.{Reads, page_of, settled_at, back_at}
use Rattle.model.specs.Spot.{Position, here, inside, fill, Chain, top, below, last_page, whole, last_holder, Stand}
use Rattle.theory_rows.specs.Fits.{Valid, Fits, Shape, one, more}
use Rattle.theory_rows.specs.Bound.{fits_parts}
use Rattle.theory_rows.specs.Laws.{size-⊹}
use Rattle.theory_rows.specs.Pages.{bit, count-⊹}
use Rattle.theory_decoding.specs.Decode.{in_trailer}
use Rattle.theory_decoding.specs.Reading.{reads_length, reads_valid}
use Rattle.theory_places.specs.Widths.{Table}
use Rattle.theory_row_bytes.specs.RowAt.{byte_on, row_split}
use Rattle.theory_layout.specs.Here.{PageIn, Here, OnPage}
use Rattle.theory_growth.specs.Chain.{before, last_settled, chain_fits, beside, along, offset_in}
use Rattle.theory_insert_point.specs.Bytes.{last_held, chain_page, chain_bytes, chain_fill}
use Rattle.theory_growth.specs.Stand.{NotAlone}
use Rattle.theory_removal.specs.Stand.{Leaves, stand_names, stand_once}
use Rattle.theory_page_memory.specs.Links.{stored_parted}
use Rattle.theory_page_memory.specs.Removing.{own_apart}
use Rattle.grow_map.specs.Mapped.{Mapped}
use Rattle.grow_widths.specs.Raised.{Raising, hang_length, lowered}
use Rattle.grow_splice.specs.Position.{is_inside}
use Rattle.remove_branch.specs.Branch.{Branch}
use Rattle.remove_locate.specs.declared.Standing.{Standing}
use Rattle.remove_locate.specs.Leave.{standing_of}
use Rattle.remove_record.specs.Reduced.{Removing}

-- The image reads as a store with this table and this map, and the code has found where the node stands.
pub record Going (img u m : List ℕ) (s : Standing) : Type 0 where
  pub st : Config
  pub root : Row
  pub reads : Reads img st root
  pub new : Tree
  pub t : Stand
  pub leaves : Leaves root new t
  pub found : s ≡ standing_of t
  pub table : Table st root u
  pub map : Mapped img m

-- The first nodes of a row that stands.
front : (img : List ℕ) (page pos : ℕ) (a b : Row) → Here img page pos (a ⊹ b) → Here img page pos a
front img page pos a b h = record {
  at = (row_split img pos a b h.at).0;
  on = h.on;
  start = h.start;
  room = omega (arith, h.room, size-⊹ a b);
  fits = (fits_parts a b h.fits).0;
  stored = ((stored_parted (page_of img) page).parts a b h.stored).0;
  names = λ q k. h.names q (omega (arith, count-⊹ q a b));
}

module _ {img u m : List ℕ} {s : Standing} (w : Going img u m s) where
  abbrev pub c : Chain
  c = w.t.chain

  abbrev pub row : Row
  row = w.t.node ⊹ w.t.rest

  abbrev pub old : Row
  old = fill w.t.position row

  pub v : Valid w.st w.root
  v = reads_valid img w.st w.root w.reads

  -- The numbers.
  pub page_is : s.page ≡ last_page c
  page_is = ap (λ (s : Standing). s.page) w.found

  pub at_is : s.at ≡ offset_in w.t.position row
  at_is = ap (λ (s : Standing). s.at) w.found

  pub gone_is : s.gone ≡ size w.t.node
  gone_is = ap (λ (s : Standing). s.gone) w.found

  -- The record on its page.
  pub on_page : OnPage img (last_page c) (last_holder c) old
  on_page = chain_page img w.st w.root w.reads c old w.leaves.held

  pub page_bytes_lem : page_of img (last_page c) ≡ record_page (last_held c old)
  page_bytes_lem = chain_bytes img w.st w.root w.reads c old w.leaves.held

  -- The node, in front of what follows it.
  pub node_here : Here img (last_page c) (page_size * last_page c + base old + before w.t.position) row
  node_here = chain_fill img w.st w.root w.reads c w.t.position row w.leaves.held

  -- It is one of the image's, and the node stands within it.
  pub room : (1 ≤ s.page) × (s.page < most_pages) × (page_size * s.page + page_size ≤ length img) × (s.at + s.gone ≤ capacity)
  room =
      let h = on_page.here in (
        omega (arith, page_is, h.on.low),
        omega (arith, page_is, h.on.high),
        omega (arith, page_is, h.on.inside),
        omega (
          arith,
          at_is,
          gone_is,
          node_here.room,
          size-⊹ w.t.node w.t.rest,
        ),
      )

  pub settled_is : settled_at img (page_size * s.page) ≡ cond (last_settled c) 1 0
  settled_is =
      ap (λ (n : ℕ). settled_at img (page_size * n)) page_is ∙ byte_on img (last_page c) page_bytes_lem (capacity + 1) (omega arith)
      ∙ in_trailer (last_held c old) on_page.fits 1

  pub holder_is : back_at img (page_size * s.page) ≡ last_holder c
  holder_is = ap (λ (n : ℕ). back_at img (page_size * n)) page_is ∙ on_page.back

  pub holder_high : last_holder c < most_pages
  holder_high = go c w.leaves.held
    where
      go : (c : Chain) → whole c old ≡ w.root → last_holder c < most_pages
      go top e = omega arith
      go (below d p q b rest) e = (chain_page img w.st w.root w.reads d (fill p (rec q b old rest)) e).here.on.high

  -- The record's own page is not one of the branch's.
  pub apart : (k : ℕ) → bit (eqb k (last_page c)) + count k w.t.node ≤ 1
  apart k = omega (arith, own_apart w.st w.root v w.new w.t w.leaves c refl k)

  -- What the steps require.
  abbrev pub raising : Raising img u s.page s.deep
  raising = record {
    st = w.st;
    root = w.root;
    reads = w.reads;
    chain = c;
    row = old;
    is = w.leaves.held;
    last = page_is;
    enough = omega (arith, ap (λ (s : Standing). s.deep) w.found, hang_length c w.t.position);
    long = omega (arith, w.table.long, reads_length img w.st w.root w.reads);
  }

  -- A node at the top of a row has another beside it.
  pub has_sibling : is_inside w.t.position ≡ false → 2 ≤ node_count old
  has_sibling e = go w.t.position w.leaves.not_alone e (chain_fits c old (subst (λ (r : Row). Fits (store r)) (sym w.leaves.held) v.rows)).0.shape
    where
      two : {b : Bool} (r : Row) → Shape b r → lone r ≡ false → 2 ≤ node_count r
      two r (one e) f = absurd (true≢false (sym e ∙ f))
      two r (more _ h) f = h

      go : (p : Position) → NotAlone p row → is_inside p ≡ false → Shape (last_settled c) (fill p row) → 2 ≤ node_count (fill p row)
      go (here left) o e f = two (left ⊹ row) f o
      go (inside left h right p) o e f = absurd (true≢false e)

  abbrev pub removing : Removing img s.page s.at s.par s.gone
  removing = record {
    position = w.t.position;
    node = w.t.node;
    rest = w.t.rest;
    settled = last_settled c;
    up = last_holder c;
    on = subst (PageIn img) (sym page_is) on_page.here.on;
    small = on_page.fits;
    names = on_page.here.names;
    is = subst (λ (n : ℕ). page_of img n ≡ record_page (record_on n (last_settled c) (last_holder c) old)) (sym page_is) page_bytes_lem;
    one = w.leaves.one;
    goes = sym gone_is;
    offset = at_is;
    holder = ap (λ (s : Standing). s.par) w.found;
    beside = has_sibling;
  }

  pub stands_here : Here img s.page (page_size * s.page + s.at) w.t.node
  stands_here =
      let h = front img (last_page c) (page_size * last_page c + base old + before w.t.position) w.t.node w.t.rest node_here in
      let e : page_size * last_page c + base old + before w.t.position ≡ page_size * s.page + s.at = omega (arith, page_is, at_is) in
      subst (λ (n : ℕ). Here img n (page_size * s.page + s.at) w.t.node) (sym page_is) (subst (λ (n : ℕ). Here img (last_page c) n w.t.node) e h)

  -- ── the branch's pages ──

  -- The table with one node less in the records that showed the node.
  abbrev pub less : List ℕ
  less = lowered s.deep c u

  pub named : (q : ℕ) → beside c q + along c q + count q (fill w.t.position w.t.rest) + count q w.t.node ≡ count q w.root
  named = stand_names w.root w.new w.t w.leaves

  pub one_time : (q : ℕ) → beside c q + along c q + count q (fill w.t.position w.t.rest) + count q w.t.node ≤ 1
  one_time q = stand_once w.root w.new w.t w.leaves q w.st v

  abbrev pub branch : Branch img m (page_size * s.page + s.at) (page_size * s.page + s.at + s.gone)
  branch = record {
    b = record { st = w.st; root = w.root; reads = w.reads; new = w.new; t = w.t; leaves = w.leaves };
    page = s.page;
    here = stands_here;
    ends = omega (arith, gone_is);
    map_long = w.map.long;
  }
