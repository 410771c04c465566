-- From a record up to the root: the state of a climb, and the path that it ends with.
use Rattle.std.specs.Prelude.{◌≡◌, refl, ℕ, suc, ◌+◌, ◌*◌, ◌-◌, ◌/◌, ◌≤◌}
use Rattle.std.proofs.Math.Path.{sym, ap, subst}
use Rattle.std.proofs.Common.{◌∙◌, arith, drop_of_length-le}
use mathlib.Core.List.{List, [], ◌∷◌, ◌++◌}
use Rattle.std.proofs.Math.Option.{some}
use Rattle.std.proofs.Math.ListN.{length, drop, length-append}
use Rattle.model.specs.Limits.{most_pages, page_size, most_bytes, longest_path}
use Rattle.model.specs.Row.{Row, base, Config}
use Rattle.model.specs.Tree.{width, place_at, place_of}
use Rattle.model.specs.Reading.{Reads, back_at}
use Rattle.model.specs.Common.{path_bytes}
use Rattle.model.specs.declared.Place.{Place}
use Rattle.theory_rows.specs.Laws.{breadth_shown}
use Rattle.theory_decoding.specs.Steps.{steps, few_steps}
use Rattle.theory_decoding.specs.Reading.{reads_valid}
use Rattle.theory_places.specs.Order.{lone_root, one_root}
use Rattle.theory_layout.specs.Here.{OnPage}
use Rattle.theory_layout.specs.Items.{Item, node, proxy, items, In, top, sub}
use Rattle.theory_layout.specs.Order as order
use Rattle.read_find.specs.Rowed.{start_on, width_steps}
use Rattle.read_next.specs.Scan.{HeldBy, NodeAt}
use Rattle.read_climb.specs.Route.{Has, has_split, number, way, Under, FindsFrom, finds, place_levels, Within, lower}
use Rattle.read_climb.specs.Search.{Tracing, way_of, number_of, Wrote}

-- ── a record and the one that holds its proxy ──

-- A record of the store is no larger than the root's.
in_within : {root row : Row} {page holder : ℕ} {before after : List ℕ} {depth : ℕ} → In root page holder row before after depth → Within row root
in_within top = record { high = omega arith; many = omega arith }
in_within (sub {page = page} {row = row} i xs ys pos p r e) =
    let w = in_within i in
    let l = lower pos p r (page_size * page + base row) row (has_split (proxy pos p r) (page_size * page + base row) row xs ys e) in
    record { high = omega arith; many = omega arith }

-- The record of `holder`, which has the proxy of the record `row` of `page` at byte pos.
pub record Holder (root : Row) (page : ℕ) (row : Row) (depth holder : ℕ) : Type 0 where
  pub above : ℕ
  pub whole : Row
  pub before : List ℕ
  pub after : List ℕ
  pub less : ℕ
  pub is : In root holder above whole before after less
  pub pos : ℕ
  pub xs : List Item
  pub ys : List Item
  pub split : items (page_size * holder + base whole) whole ≡ xs ++ proxy pos page row ∷ ys
  pub fewer : depth ≡ suc less

pub parent : {root row : Row} {page holder : ℕ} {before after : List ℕ} {depth : ℕ} → In root page holder row before after depth → (page ≡ 1 → ⊥)
    → Holder root page row depth holder
parent top k = absurd (k refl)
parent (sub {holder = holder} {row = row} {before = before} {after = after} {depth = depth} i xs ys pos p r e) k = record {
  above = holder;
  whole = row;
  before = before;
  after = after;
  less = depth;
  is = i;
  pos = pos;
  xs = xs;
  ys = ys;
  split = e;
  fewer = refl;
}

-- What the search for that proxy asks.
abbrev pub held : (img : List ℕ) (st : Config) (root : Row) → Reads img st root → (page : ℕ) (row : Row) (depth holder : ℕ)
    → Holder root page row depth holder
    → HeldBy img holder page
held img st root reads page row depth holder p = record {
  above = record {
    settings = st;
    root = root;
    reads = reads;
    holder = p.above;
    row = p.whole;
    before = p.before;
    after = p.after;
    depth = p.less;
    within = p.is;
  };
  left = p.xs;
  right = p.ys;
  pos = p.pos;
  row = row;
  split = p.split;
}

-- ── the state of a climb ──

-- The climb to x stands at an item of the record of `page`, with what the item leads to; the last bytes of the path are written.
pub record Climb (root : Row) (x : Place) (page target carry at left : ℕ) (path : List ℕ) : Type 0 where
  pub holder : ℕ
  pub row : Row
  pub before : List ℕ
  pub after : List ℕ
  pub depth : ℕ
  pub is : In root page holder row before after depth
  pub item : Item
  pub starts : order.at item ≡ target
  pub has : Has item (page_size * page + base row) row
  pub tail : List ℕ
  pub leads : Under page item carry tail x
  pub bytes : drop at path ≡ path_bytes tail
  pub ends : at + 4 * length tail ≡ longest_path
  pub small : carry ≤ most_bytes
  pub shallow : depth ≤ left

-- The path of the node at x is written from byte `at` on.
pub record Rose (root : Row) (x : Place) (at : ℕ) (path : List ℕ) : Type 0 where
  pub names : List ℕ
  pub finds : place_of root names ≡ some x
  pub ends : at + 4 * length names ≡ longest_path
  pub bytes : drop at path ≡ path_bytes names

-- A trace from `start`, its number and way.
pub record Started (img : List ℕ) (start target carry at n : ℕ) (path : List ℕ) : Type 0 where
  pub trace : Tracing img start target carry at
  pub number_is : number_of trace ≡ n
  pub way_is : way_of trace ≡ path

path_bytes-++ : (a b : List ℕ) → path_bytes (a ++ b) ≡ path_bytes a ++ path_bytes b
path_bytes-++ [] b = refl
path_bytes-++ (n ∷ a) b = rw (path_bytes-++ a b)

at_root : (root row : Row) (page at n : ℕ) (path : List ℕ) (x : Place) → page ≡ 1 → at ≡ 0 → n ≡ 0 → row ≡ root → place_at page at n path row ≡ some x
    → place_of root path ≡ some x
at_root root row page at n path x a b c d e = sym (λ i. place_at (a i) (b i) (c i) path (d i)) ∙ e

module _ (img : List ℕ) (st : Config) (root : Row) (reads : Reads img st root) (x : Place) (page target carry at left : ℕ) (path : List ℕ)
    (c : Climb root x page target carry at left path) where
  pub on_page : OnPage img page c.holder c.row
  on_page = order.in_page img st root reads c.is

  found : FindsFrom page (base c.row) c.row (number carry c.has) (way carry c.has ++ c.tail) x
  found = finds page carry c.tail x c.item (page_size * page + base c.row) c.row c.has (base c.row) refl c.leads

  few : steps c.row ≤ most_bytes
  few =
      let v = reads_valid img st root reads in
      omega (arith, (in_within c.is).many, few_steps st root v, v.ranges.many)

  -- The record that holds the proxy, as its page's trailer names it.
  pub parent_at : (holder : ℕ) → holder ≡ back_at img (page_size * page) → (page ≡ 1 → ⊥) → Holder root page c.row c.depth holder
  parent_at holder e k = subst (Holder root page c.row c.depth) (sym (e ∙ on_page.back)) (parent c.is k)

  pub above : (holder : ℕ) → Holder root page c.row c.depth holder → 1 ≤ left
  above holder p = omega (arith, c.shallow, p.fewer)

  -- What is asked of the trace of the record's row,
  pub started : (start : ℕ) → start ≡ start_on img page
      → Started img start target carry at (number carry c.has) (way carry c.has)
  started start e =
      let v = reads_valid img st root reads in
      let w = in_within c.is in
      let l = place_levels page (base c.row) (number carry c.has) (way carry c.has ++ c.tail) c.row x found.place in
      let n = length-append (way carry c.has) c.tail in
      let t : Tracing img (page_size * page + base c.row) target carry at = record {
        search = record { page = page; row = c.row; here = on_page.here; item = c.item; starts = c.starts; has = c.has; few = few };
        room = omega (arith, l, n, w.high, v.levels, c.ends);
        high = omega (arith, c.ends);
        small = c.small;
      } in
      subst (λ (z : ℕ). Started img z target carry at (number carry c.has) (way carry c.has))
      (sym (e ∙ ap (λ (n : ℕ). page_size * page + n) on_page.first))
      (record { trace = t; number_is = refl; way_is = refl })

  -- and what it leaves: the number and path of x in the record's row.
  module _ (start : ℕ) (e : start ≡ start_on img page) (index to : ℕ) (new : List ℕ)
      (t : Wrote (number_of (started start e).trace) (way_of (started start e).trace) at index to new path) where
    names : List ℕ
    names = way carry c.has ++ c.tail

    same : index ≡ number carry c.has
    same = t.is ∙ (started start e).number_is

    ends : to + 4 * length names ≡ longest_path
    unfolding names
    ends = omega (arith, t.ends, ap length (started start e).way_is, c.ends, length-append (way carry c.has) c.tail)

    bytes : drop to new ≡ path_bytes names
    unfolding names
    bytes =
        t.bytes ∙ ap (λ (z : List ℕ). path_bytes z ++ drop at path) (started start e).way_is
        ∙ ap (λ (z : List ℕ). path_bytes (way carry c.has) ++ z) c.bytes
        ∙ sym (path_bytes-++ (way carry c.has) c.tail)

    pub rise_end : page ≡ 1 → Rose root x to new
    unfolding names
    rise_end one =
        let v = reads_valid img st root reads in
        let here : In root 1 c.holder c.row c.before c.after c.depth =
        subst (λ (q : ℕ). In root q c.holder c.row c.before c.after c.depth) one c.is in
        let whole : c.row ≡ root = order.same_row img st root reads here top in
        let low : base c.row ≡ 0 = ap base whole ∙ rw (lone_root st root v) in
        let single : width c.row ≡ 1 = ap width whole ∙ sym (breadth_shown root) ∙ one_root st root v in
        record {
          names = names;
          finds = at_root root c.row page (base c.row) (number carry c.has) names x one low (omega (arith, found.low)) whole found.place;
          ends = ends;
          bytes = bytes;
        }

    -- Above it the climb goes on at the record's proxy.
    pub rise_on : (holder next : ℕ) (p : Holder root page c.row c.depth holder) → next ≡ p.pos → Climb root x holder next index to (left - 1) new
    unfolding names
    rise_on holder next p q = record {
      holder = p.above;
      row = p.whole;
      before = p.before;
      after = p.after;
      depth = p.less;
      is = p.is;
      item = proxy p.pos page c.row;
      starts = sym q;
      has = has_split (proxy p.pos page c.row) (page_size * holder + base p.whole) p.whole p.xs p.ys p.split;
      tail = names;
      leads = rw same (found.low, found.place);
      bytes = bytes;
      ends = ends;
      small = omega (arith, same, found.low, width_steps c.row, few);
      shallow = omega (arith, c.shallow, p.fewer);
    }

-- ── where a climb starts ──

abbrev pub place_at_byte : (pos : ℕ) → Place
place_at_byte pos = record { page = pos / page_size; offset = pos - page_size * (pos / page_size) }

pub rise_start : (img : List ℕ) (pos page : ℕ) (path : List ℕ) (w : NodeAt img pos) → page ≡ pos / page_size → length path ≡ longest_path
    → Climb w.root (place_at_byte pos) page pos 0 longest_path most_pages path
rise_start img pos page path w e n =
    let s = w.spot in
    let h = order.node_header img w.settings w.root w.reads pos s in
    let same : s.page ≡ page = omega (arith, h.low, h.room) in
    let r : Climb w.root (place_at_byte pos) s.page pos 0 longest_path most_pages path = record {
      holder = s.holder;
      row = s.row;
      before = s.before;
      after = s.after;
      depth = s.depth;
      is = s.within;
      item = node pos;
      starts = refl;
      has = has_split (node pos) (page_size * s.page + base s.row) s.row s.left s.right s.split;
      tail = [];
      leads = (refl, refl, sym (same ∙ e), omega (arith, h.low, h.room));
      bytes = drop_of_length-le path {i = longest_path} (omega arith);
      ends = refl;
      small = omega arith;
      shallow = order.in_deep img w.settings w.root w.reads s.within;
    } in
    subst (λ (q : ℕ). Climb w.root (place_at_byte pos) q pos 0 longest_path most_pages path) same r
