-- Looking for a header in a record: for a node at a byte, and for the proxy that names a page.
use Rattle.std.specs.Prelude.{◌≡◌, refl, Bool, true, false, cond, Option, None, Some, ℕ, ◌+◌, ◌*◌, ◌/◌, ◌≤◌, ◌<◌, length, eqb}
use Rattle.std.proofs.Common.{sym, ap, ◌∙◌, true≢false, arith, eqb-true, eq-eqb, ne_eqb}
use Rattle.std.proofs.Math.Path.{subst}
use mathlib.Core.List.{List, [], ◌∷◌, ◌++◌, Memᴰ}
use Rattle.std.proofs.Math.Option.{some}
use Rattle.read_find.specs.Rowed.{start_on, end_on}
use Rattle.model.specs.Limits.{most_pages, page_size, capacity, most_bytes}
use Rattle.model.specs.Row.{Row, size, base, record_size, Config}
use Rattle.model.specs.Reading.{Reads, size_at, name_at, used_at, state_at, kind_at}
use Rattle.model.specs.Calls.Check.{check_of}
use Rattle.model.specs.Tree.{Node, shown, nodes, place_of}
use Rattle.model.specs.declared.Place.{Place}
use Rattle.theory_decoding.specs.Reading.{reads_valid, reads_length}
use Rattle.theory_places.specs.Member.{Mem}
use Rattle.theory_calls.specs.Open.{passing}
use Rattle.theory_calls.specs.Navigate.{NoNode}
use Rattle.theory_layout.specs.Here.{PageIn, OnPage}
use Rattle.theory_layout.specs.Items.{Item, node, proxy, items, In}
use Rattle.theory_layout.specs.Order.{at, Stood, step, Flat, flat_row, header_of, proxy_of_lem, is_proxy, no_proxy, is_node_lem, flat_le, flat_low, item_at, named}
use Rattle.theory_layout.specs.Order.{named-++, named_items, in_page, in_once, page_in_lem, NodeIn, node_in, node_header, item_node, node_item}
use Rattle.theory_layout.specs.Nodes.{node_spot}

-- ── a record of the image ──

pub record OnRecord (img : List ℕ) (page : ℕ) : Type 0 where
  pub settings : Config
  pub root : Row
  pub reads : Reads img settings root
  pub holder : ℕ
  pub row : Row
  pub before : List ℕ
  pub after : List ℕ
  pub depth : ℕ
  pub within : In root page holder row before after depth

module _ {img : List ℕ} {page : ℕ} (w : OnRecord img page) where
  pub view : OnPage img page w.holder w.row
  view = in_page img w.settings w.root w.reads w.within

  -- What is known of the page's numbers.
  pub record Known : Type 0 where
    pub on : PageIn img page
    pub start : start_on img page ≡ page_size * page + base w.row
    pub end : end_on img page ≡ page_size * page + base w.row + size w.row

  pub known : Known
  known = record { on = view.here.on; start = ap (λ (n : ℕ). page_size * page + n) view.first; end = omega (arith, view.used) }

  -- The record's items, and where they end.
  abbrev pub all : List Item
  all = items (page_size * page + base w.row) w.row

  abbrev pub close : ℕ
  close = page_size * page + base w.row + size w.row

  pub flat_all : Flat img page (page_size * page + base w.row) close all
  flat_all = flat_row img page (page_size * page + base w.row) w.row view.here

-- The record of a node of the store.
abbrev pub record_of_lem : {img : List ℕ} {st : Config} {root : Row} {pos : ℕ} → Reads img st root → (s : NodeIn root pos) → OnRecord img s.page
record_of_lem {st = st} {root = root} r s = record {
  settings = st;
  root = root;
  reads = r;
  holder = s.holder;
  row = s.row;
  before = s.before;
  after = s.after;
  depth = s.depth;
  within = s.within;
}

-- What is read where a header stands.
pub record HeaderRoom (img : List ℕ) (page pos : ℕ) : Type 0 where
  pub low : page_size * page ≤ pos
  pub inside : pos + 16 < length img
  pub small : pos < most_bytes
  pub further : pos + 6 ≤ step img pos
  pub within : step img pos ≤ page_size * page + capacity

pub head_of_lem : (img : List ℕ) (page pos : ℕ) (i : Item) → Stood img page pos i → HeaderRoom img page pos
head_of_lem img page pos i s =
    let h = header_of img page pos i s in
    record {
      low = h.low;
      inside = omega (arith, h.room, h.on.inside);
      small = omega (arith, h.room, h.on.high);
      further = h.further;
      within = h.within;
    }

-- ── a node at a byte ──

-- What is left from pos on still has the node at the target, if the record has it.
pub record Scan (img : List ℕ) (page : ℕ) (w : OnRecord img page) (target pos : ℕ) : Type 0 where
  pub ahead : List Item
  pub flat : Flat img page pos (close w) ahead
  pub keeps : Memᴰ (node target) (all w) → Memᴰ (node target) ahead
  pub from : Memᴰ (node target) ahead → Memᴰ (node target) (all w)

module _ {img : List ℕ} {page : ℕ} (w : OnRecord img page) (target : ℕ) where
  pub scan_start : (pos : ℕ) → pos ≡ start_on img page → Scan img page w target pos
  scan_start pos e =
      let z : page_size * page + base w.row ≡ pos = sym (e ∙ (known w).start) in
      record { ahead = all w; flat = subst (λ (n : ℕ). Flat img page n (close w) (all w)) z (flat_all w); keeps = λ m. m; from = λ m. m }

  -- Before the record's end a header stands.
  pub scan_head : (pos : ℕ) → Scan img page w target pos → pos < close w → HeaderRoom img page pos
  scan_head pos s h = go s.ahead s.flat
    where
      go : (is : List Item) → Flat img page pos (close w) is → HeaderRoom img page pos
      go [] f = absurd (omega arith)
      go (i ∷ is) f = head_of_lem img page pos i f.0

  pub scan_next : (pos n : ℕ) → n ≡ step img pos → Scan img page w target pos → pos < target → pos < close w → Scan img page w target n
  scan_next pos n e s h k = subst (Scan img page w target) (sym e) (go s.ahead s.flat s.keeps s.from)
    where
      go : (is : List Item) → Flat img page pos (close w) is → (Memᴰ (node target) (all w) → Memᴰ (node target) is)
          → (Memᴰ (node target) is → Memᴰ (node target) (all w)) → Scan img page w target (step img pos)
      go [] f t u = absurd (omega arith)
      go (i ∷ is) f t u = record { ahead = is; flat = f.1; keeps = λ m. tail (t m); from = λ m. u (Memᴰ.tail m) }
        where
          tail : Memᴰ (node target) (i ∷ is) → Memᴰ (node target) is
          tail (Memᴰ.head q) = absurd (omega (arith, ap at q, (header_of img page pos i f.0).is_at))
          tail (Memᴰ.tail m) = m

  -- Past the target there is none,
  pub scan_past : (pos : ℕ) → Scan img page w target pos → target < pos → Memᴰ (node target) (all w) → ⊥
  scan_past pos s h m = omega (arith, flat_low img page s.ahead pos (close w) s.flat (node target) (s.keeps m))

  -- and at the target there is one unless a proxy stands there.
  pub scan_proxy : (pos : ℕ) → Scan img page w target pos → pos ≡ target → kind_at img pos ≡ 3 → Memᴰ (node target) (all w) → ⊥
  scan_proxy pos s e k m = go s.ahead s.flat (s.keeps m)
    where
      go : (is : List Item) → Flat img page pos (close w) is → Memᴰ (node target) is → ⊥
      go [] f m = elim m [ ]
      go (i ∷ is) f (Memᴰ.head q) = no_proxy img page pos target (subst (Stood img page pos) (sym q) f.0) k
      go (i ∷ is) f (Memᴰ.tail n) =
          omega (arith, (header_of img page pos i f.0).further, flat_low img page is (step img pos) (close w) f.1 (node target) n)

  pub scan_node : (pos : ℕ) → Scan img page w target pos → pos ≡ target → pos < close w → (kind_at img pos ≡ 3 → ⊥) → Memᴰ (node target) (all w)
  scan_node pos s e h k = s.from (go s.ahead s.flat)
    where
      go : (is : List Item) → Flat img page pos (close w) is → Memᴰ (node target) is
      go [] f = absurd (omega arith)
      go (i ∷ is) f = Memᴰ.head (ap node (sym e) ∙ sym (is_node_lem img page pos i f.0 k))

-- The first header from the target on.
pub record Reached (img : List ℕ) (page target r : ℕ) : Type 0 where
  pub past : target ≤ r
  pub scan : (w : OnRecord img page) → Scan img page w target r

-- Whether a node stands at the target.
abbrev pub Standing : (img : List ℕ) (page target : ℕ) → Bool → Type 0
Standing img page target true = (w : OnRecord img page) → Memᴰ (node target) (all w)
Standing img page target false = (w : OnRecord img page) → Memᴰ (node target) (all w) → ⊥

-- ── a place ──

-- A node of the image's store stands at this byte.
pub record NodeAt (img : List ℕ) (pos : ℕ) : Type 0 where
  pub settings : Config
  pub root : Row
  pub reads : Reads img settings root
  pub spot : NodeIn root pos

-- The node of a place.
pub record NodeOf (img : List ℕ) (page offset pos : ℕ) : Type 0 where
  pub is : pos ≡ page_size * page + offset
  pub short : offset < page_size
  pub node : NodeAt img pos

-- Where the node of a place stands, if there is one.
abbrev pub Located : (img : List ℕ) (page offset : ℕ) → Option ℕ → Type 0
Located img page offset None = (st : Config) (root : Row) → Reads img st root → NoNode root (record { page = page; offset = offset })
Located img page offset (Some pos) = NodeOf img page offset pos

-- The store of an image that passes the check.
pub record Store (img : List ℕ) : Type 0 where
  pub settings : Config
  pub root : Row
  pub reads : Reads img settings root
  pub long : length img ≡ page_size * settings.pages
  pub many : settings.pages ≤ most_pages

pub store_of : (img : List ℕ) → check_of img ≡ 0 → Store img
store_of img z =
    let s = passing img z in
    record {
      settings = s.0.0;
      root = s.0.1;
      reads = s.1;
      long = reads_length img s.0.0 s.0.1 s.1;
      many = (reads_valid img s.0.0 s.0.1 s.1).ranges.many;
    }

module _ (img : List ℕ) (page offset : ℕ) where
  abbrev x : Place
  x = record { page = page; offset = offset }

  pub no_page : page ≡ 0 → Located img page offset None
  no_page e = λ st root r n m p. omega (arith, (node_spot img st root r n m x p).1.low)

  pub past_pages : length img / page_size ≤ page → Located img page offset None
  past_pages h = λ st root r n m p. omega (arith, reads_length img st root r, (node_spot img st root r n m x p).1.high)

  -- The record that a place's node is in is its page's.
  module _ (st : Config) (root : Row) (r : Reads img st root) (n : Node) (m : Mem n (nodes (shown root))) (p : place_of root n.path ≡ some x) where
    the_spot : NodeIn root (page_size * page + offset)
    the_spot = node_in root (page_size * page + offset) (node_spot img st root r n m x p).0

    its_page : the_spot.page ≡ page
    its_page =
        let h = node_header img st root r (page_size * page + offset) the_spot in
        omega (arith, h.low, h.room, (node_spot img st root r n m x p).1.fits)

    its_record : OnRecord img page
    its_record = subst (OnRecord img) its_page (record_of_lem r the_spot)

    its_state : state_at img (page_size * page) ≡ 1
    its_state = (view its_record).state

    its_item : (w : OnRecord img page) → w.root ≡ root → Memᴰ (node (page_size * page + offset)) (all w)
    its_item w b =
        let i = node_spot img st root r n m x p in
        let v : Reads img w.settings w.root = w.reads in
        node_item img w.settings w.root v w.within (page_size * page + offset) (omega arith) (omega (arith, i.1.fits)) (rw b i.0)

    its_end : page_size * page + offset < end_on img page
    its_end =
        let s = the_spot in
        let v = in_page img st root r s.within in
        let i =
        item_at img s.page (page_size * s.page + base s.row) s.row v.here s.left s.right (node (page_size * page + offset)) s.split in
        let h = header_of img s.page (page_size * page + offset) (node (page_size * page + offset)) i.0 in
        let e = flat_le img s.page s.right (step img (page_size * page + offset)) (page_size * s.page + base s.row + size s.row) i.1 in
        let u : used_at img (page_size * page) ≡ record_size s.row = subst (λ (q : ℕ). used_at img (page_size * q) ≡ record_size s.row) its_page v.used in
        omega (arith, h.further, e, its_page, u)

  pub no_record : (state_at img (page_size * page) ≡ 1 → ⊥) → Located img page offset None
  no_record f = λ st root r n m p. f (its_state st root r n m p)

  pub past_end : used_at img (page_size * page) ≤ offset → Located img page offset None
  past_end h = λ st root r n m p. omega (arith, its_end st root r n m p)

  record_in : (st : Config) (root : Row) → Reads img st root → 1 ≤ page → page < length img / page_size → state_at img (page_size * page) ≡ 1 → OnRecord img page
  record_in st root r low high e =
      let (holder, row, before, after, d, w) = page_in_lem img st root r page (omega (arith, reads_length img st root r)) low e in
      record { settings = st; root = root; reads = r; holder = holder; row = row; before = before; after = after; depth = d; within = w }

  pub its_page_in : check_of img ≡ 0 → 1 ≤ page → page < length img / page_size → state_at img (page_size * page) ≡ 1 → OnRecord img page
  its_page_in z low high e = let s = store_of img z in record_in s.settings s.root s.reads low high e

  pub no_node : check_of img ≡ 0 → 1 ≤ page → page < length img / page_size → state_at img (page_size * page) ≡ 1
      → Standing img page (page_size * page + offset) false → Located img page offset None
  unfolding record_in
  no_node z low high e f = λ st root reads n m p.
      let w = record_in st root reads low high e in
      f w (its_item st root reads n m p w refl)

  pub located : check_of img ≡ 0 → 1 ≤ page → page < length img / page_size → state_at img (page_size * page) ≡ 1
      → Standing img page (page_size * page + offset) true → Located img page offset (Some (page_size * page + offset))
  unfolding record_in item_node its_page_in
  located z low high e f =
      let w = its_page_in z low high e in
      let here : NodeIn w.root (page_size * page + offset) =
      item_node img w.settings w.root w.reads w.within (page_size * page + offset) (f w) in
      record {
        is = refl;
        short = omega (arith, (node_header img w.settings w.root w.reads (page_size * page + offset) here).room);
        node = record { settings = w.settings; root = w.root; reads = w.reads; spot = here };
      }

-- ── the proxy that names a page ──

-- The record of `page` is held by that of `holder`, which has the proxy to it at `pos`.
pub record HeldBy (img : List ℕ) (holder page : ℕ) : Type 0 where
  pub above : OnRecord img holder
  pub left : List Item
  pub right : List Item
  pub pos : ℕ
  pub row : Row
  pub split : all above ≡ left ++ proxy pos page row ∷ right

-- What is left from pos on has the proxy that is looked for, and names the page once.
pub record ProxySought (img : List ℕ) (holder page target pos : ℕ) : Type 0 where
  pub end : ℕ
  pub left : List Item
  pub right : List Item
  pub row : Row
  pub flat : Flat img holder pos end (left ++ proxy target page row ∷ right)
  pub once : named page (left ++ proxy target page row ∷ right) ≤ 1

-- A proxy to the page stands at pos.
abbrev pub names : (img : List ℕ) (pos page : ℕ) → Bool
names img pos page = cond (eqb (kind_at img pos) 3) (eqb (name_at img pos) page) false

names_true : (img : List ℕ) (pos page : ℕ) → names img pos page ≡ true → (kind_at img pos ≡ 3) × (name_at img pos ≡ page)
names_true img pos page e = go (eqb (kind_at img pos) 3) refl e
  where
    go : (b : Bool) → eqb (kind_at img pos) 3 ≡ b → cond b (eqb (name_at img pos) page) false ≡ true → (kind_at img pos ≡ 3) × (name_at img pos ≡ page)
    go true k e = (eqb-true (kind_at img pos) 3 k, eqb-true (name_at img pos) page e)
    go false k e = absurd (true≢false (sym e))

true_names : (img : List ℕ) (pos page : ℕ) → kind_at img pos ≡ 3 → name_at img pos ≡ page → names img pos page ≡ true
true_names img pos page k n = rw (eq-eqb (kind_at img pos) 3 k) (eq-eqb (name_at img pos) page n)

module _ {img : List ℕ} {holder page : ℕ} where
  pub sought_start : (w : HeldBy img holder page) (pos : ℕ) → pos ≡ start_on img holder → ProxySought img holder page w.pos pos
  sought_start w pos e =
      let a = w.above in
      let z : page_size * holder + base a.row ≡ pos = sym (e ∙ (known a).start) in
      record {
        end = close a;
        left = w.left;
        right = w.right;
        row = w.row;
        flat =
            subst (λ (n : ℕ). Flat img holder n (close a) (w.left ++ proxy w.pos page w.row ∷ w.right)) z
            (subst (Flat img holder (page_size * holder + base a.row) (close a)) w.split (flat_all a));
        once =
            rw (← w.split)
            (omega (arith, named_items page (page_size * holder + base a.row) a.row, in_once img a.settings a.root a.reads a.within page));
      }

  module _ {target pos : ℕ} (s : ProxySought img holder page target pos) where
    pub sought_head : HeaderRoom img holder pos
    sought_head = go s.left s.flat
      where
        go : (left : List Item) → Flat img holder pos s.end (left ++ proxy target page s.row ∷ s.right) → HeaderRoom img holder pos
        go [] f = head_of_lem img holder pos (proxy target page s.row) f.0
        go (i ∷ left) f = head_of_lem img holder pos i f.0

    -- The first proxy that names the page is the one looked for,
    pub sought_hit : names img pos page ≡ true → pos ≡ target
    sought_hit t = go s.left s.flat s.once
      where
        go : (left : List Item) → Flat img holder pos s.end (left ++ proxy target page s.row ∷ s.right)
            → named page (left ++ proxy target page s.row ∷ s.right) ≤ 1 → pos ≡ target
        go [] f o = sym (header_of img holder pos (proxy target page s.row) f.0).is_at
        go (i ∷ left) f o =
            let k = names_true img pos page t in
            let q = is_proxy img holder pos i f.0 k.0 in
            let p = proxy_of_lem img holder pos pos q.0 q.1 (subst (Stood img holder pos) q.2 f.0) in
            let one : eqb page q.0 ≡ true = eq-eqb page q.0 (sym k.1 ∙ p.name) in
            let two : eqb page page ≡ true = eq-eqb page page refl in
            let later = left ++ proxy target page s.row ∷ s.right in
            let o₂ : 1 + named page later ≤ 1 = rw one at (subst (λ (i : Item). named page (i ∷ later) ≤ 1) q.2 o) in
            let n : named page later ≡ named page left + (1 + named page s.right) =
            rw two at (named-++ page left (proxy target page s.row ∷ s.right)) in
            absurd (omega arith)

    -- and until then it is further on.
    pub sought_next : (n : ℕ) → n ≡ step img pos → names img pos page ≡ false → ProxySought img holder page target n
    sought_next n e t = subst (ProxySought img holder page target) (sym e) (go s.left s.flat s.once)
      where
        go : (left : List Item) → Flat img holder pos s.end (left ++ proxy target page s.row ∷ s.right)
            → named page (left ++ proxy target page s.row ∷ s.right) ≤ 1 → ProxySought img holder page target (step img pos)
        go [] f o =
            let p = proxy_of_lem img holder pos target page s.row f.0 in
            absurd (true≢false (sym (true_names img pos page p.kind p.name) ∙ t))
        go (node q ∷ left) f o = record { end = s.end; left = left; right = s.right; row = s.row; flat = f.1; once = o }
        go (proxy q p r ∷ left) f o = record { end = s.end; left = left; right = s.right; row = s.row; flat = f.1; once = omega arith }

-- ── what the leaves compute ──

pub step_one : (img : List ℕ) (pos : ℕ) → kind_at img pos ≡ 1 → pos + 6 ≡ step img pos
unfolding step
step_one img pos k = rw k

pub step_more : (img : List ℕ) (pos n : ℕ) → (kind_at img pos ≡ 1 → ⊥) → n ≡ size_at img pos → pos + n ≡ step img pos
unfolding step
step_more img pos n k e = rw (ne_eqb (kind_at img pos) 1 k, e)

pub names_some : (img : List ℕ) (pos page n : ℕ) → kind_at img pos ≡ 3 → n ≡ name_at img pos → eqb n page ≡ names img pos page
names_some img pos page n k e = rw (k, e)

pub names_none : (img : List ℕ) (pos page : ℕ) → (kind_at img pos ≡ 3 → ⊥) → false ≡ names img pos page
names_none img pos page k = rw (ne_eqb (kind_at img pos) 3 k)

-- ── the scan's end ──

module _ (img : List ℕ) (page target r : ℕ) (s : Reached img page target r) where
  pub standing_past : (r ≡ target → ⊥) → Standing img page target false
  standing_past f = λ w m. scan_past w target r (s.scan w) (omega (arith, s.past)) m

  pub standing_proxy : r ≡ target → kind_at img r ≡ 3 → Standing img page target false
  standing_proxy e k = λ w m. scan_proxy w target r (s.scan w) e k m

  module _ (w : OnRecord img page) (e : r ≡ target) (h : target < end_on img page) where
    reached_head : HeaderRoom img page r
    reached_head = scan_head w target r (s.scan w) (omega (arith, (known w).end))

    pub reached_inside : r < length img
    reached_inside = omega (arith, reached_head.inside)

    pub standing_node : (kind_at img r ≡ 3 → ⊥) → Standing img page target true
    standing_node k = λ w. scan_node w target r (s.scan w) e (omega (arith, (known w).end)) k
