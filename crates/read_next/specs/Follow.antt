-- The next node in document order: past the end of a record the nodes go on behind its proxy, and a proxy's nodes are its record's.
use Rattle.std.specs.Prelude.{◌≡◌, refl, Option, None, Some, List, [], ◌∷◌, ◌++◌, ℕ, suc, ◌+◌, ◌*◌, ◌-◌, ◌/◌, ◌%◌, ◌≤◌, ◌<◌, length}
use Rattle.std.proofs.Common.{sym, ap, subst, ◌∙◌, append_assoc, arith}
use Rattle.std.proofs.Math.Option.{some}
use Rattle.read_find.specs.Rowed.{start_on, end_on}
use Rattle.model.specs.Limits.{most_pages, page_size, most_bytes}
use Rattle.model.specs.Row.{Head, Row, nil, agg, lit, rec, size, base, Config}
use Rattle.model.specs.Reading.{Reads, name_at, back_at, kind_at, head_at}
use Rattle.model.specs.Tree.{Node, shown, nodes, place_of}
use Rattle.model.specs.Answers.{next_refused}
use Rattle.model.specs.Calls.Check.{check_of}
use Rattle.model.specs.Calls.Next.{next_of, kind_of, origin_of}
use Rattle.model.specs.declared.Place.{Place}
use Rattle.model.specs.declared.Kind.{Kind}
use Rattle.model.specs.declared.Origin.{Origin}
use Rattle.model.specs.Answers.{NextAnswer}
use Rattle.model.specs.declared.Next.TheVariants as next_is
use Rattle.theory_calls.specs.Navigate.{next_stray, next_follows, next_last}
use Rattle.theory_layout.specs.Here.{PageIn}
use Rattle.theory_layout.specs.Items.{Item, node, proxy, items, spots, expand, In, top, sub}
use Rattle.theory_layout.specs.Order.{at, Stood, step, Flat, proxy_of_lem, is_proxy, is_node_lem, flat_end, item_at, in_page, in_deep, last_page_lem, expand_items}
use Rattle.theory_layout.specs.Order.{node_header, node_split, node_in, split_mem}
use Rattle.theory_layout.specs.Nodes.{All, read_kind, read_head, PlacedAt, Both, nodes_split, place_at_lem}
use Rattle.read_next.specs.Scan.{OnRecord, view, known, all, close, flat_all, HeaderRoom, head_of_lem, HeldBy, NodeAt, NodeOf, Located, store_of, record_of_lem}

-- ── where the nodes after a node begin ──

-- After the node at pos come, in the record of `page`, the items from n on, then what is behind that record.
pub record ItemsFrom (img : List ℕ) (pos page n : ℕ) : Type 0 where
  pub on : OnRecord img page
  pub left : List Item
  pub right : List Item
  pub split : all on ≡ left ++ right
  pub flat : Flat img page n (close on) right
  pub seen : List ℕ
  pub order : spots (page_size + base on.root) on.root ≡ seen ++ pos ∷ (expand right ++ on.after)

-- No node comes after the one at pos.
pub record Last (img : List ℕ) (pos : ℕ) : Type 0 where
  pub settings : Config
  pub root : Row
  pub reads : Reads img settings root
  pub seen : List ℕ
  pub order : spots (page_size + base root) root ≡ seen ++ pos ∷ []

-- The node at n comes after the one at pos.
pub record Follows (img : List ℕ) (pos n : ℕ) : Type 0 where
  pub settings : Config
  pub root : Row
  pub reads : Reads img settings root
  pub seen : List ℕ
  pub later : List ℕ
  pub order : spots (page_size + base root) root ≡ seen ++ pos ∷ n ∷ later

-- The item at n comes after the node at pos: a node, or a proxy for those in its record.
pub record Ahead (img : List ℕ) (pos n : ℕ) : Type 0 where
  pub page : ℕ
  pub on : OnRecord img page
  pub first : Item
  pub left : List Item
  pub right : List Item
  pub split : all on ≡ left ++ first ∷ right
  pub flat : Flat img page n (close on) (first ∷ right)
  pub seen : List ℕ
  pub order : spots (page_size + base on.root) on.root ≡ seen ++ pos ∷ (expand (first ∷ right) ++ on.after)

-- ── up ──

-- The state of the climb: `left` bounds the record's depth.
pub record ItemUpward (img : List ℕ) (pos page n left : ℕ) : Type 0 where
  pub from : ItemsFrom img pos page n
  pub deep : from.on.depth ≤ left

abbrev pub ItemAfter : (img : List ℕ) (pos : ℕ) → Option ℕ → Type 0
ItemAfter img pos None = Last img pos
ItemAfter img pos (Some n) = Ahead img pos n

-- Where a node stands.
pub node_head : {img : List ℕ} {pos : ℕ} (a : NodeAt img pos) → HeaderRoom img a.spot.page pos
node_head {img} {pos} a =
    let s = a.spot in
    head_of_lem img s.page pos (node pos)
    (item_at img s.page (page_size * s.page + base s.row) s.row (in_page img a.settings a.root a.reads s.within).here s.left
    s.right
    (node pos) s.split).0

pub upward_start : {img : List ℕ} {pos : ℕ} (a : NodeAt img pos) (page n : ℕ) → page ≡ pos / page_size → n ≡ step img pos → ItemUpward img pos page n most_pages
upward_start {img} {pos} a page n p e =
    let s = a.spot in
    let st = a.settings in
    let root = a.root in
    let r = a.reads in
    let h = node_header img st root r pos s in
    let same : s.page ≡ page = omega (arith, h.low, h.room) in
    let on : OnRecord img s.page = record_of_lem r s in
    let f =
    (item_at img s.page (page_size * s.page + base s.row) s.row (in_page img st root r s.within).here s.left s.right (node pos)
    s.split).1 in
    let g : ItemsFrom img pos s.page n = record {
      on = on;
      left = s.left ++ node pos ∷ [];
      right = s.right;
      split = s.split ∙ sym (append_assoc s.left (node pos ∷ []) s.right);
      flat = subst (λ (k : ℕ). Flat img s.page k (close on) s.right) (sym e) f;
      seen = s.before ++ expand s.left;
      order = node_split s;
    } in
    subst (λ (q : ℕ). ItemUpward img pos q n most_pages) same (record { from = g; deep = in_deep img st root r s.within })

module _ {img : List ℕ} {pos page n left : ℕ} (c : ItemUpward img pos page n left) where
  -- Where the record's end is not reached, an item comes next,
  pub upward_ahead : (n ≡ end_on img page → ⊥) → Ahead img pos n
  upward_ahead f = go c.from.right c.from.split c.from.flat c.from.order
    where
      on : OnRecord img page
      on = c.from.on

      go : (right : List Item) → all on ≡ c.from.left ++ right → Flat img page n (close on) right
          → spots (page_size + base on.root) on.root ≡ c.from.seen ++ pos ∷ (expand right ++ on.after) → Ahead img pos n
      go [] q g o = absurd (f (g ∙ sym (known on).end))
      go (i ∷ right) q g o =
          record { page = page; on = on; first = i; left = c.from.left; right = right; split = q; flat = g; seen = c.from.seen; order = o }

  none_right : n ≡ end_on img page → c.from.right ≡ []
  none_right e =
      let on = c.from.on in
      flat_end img page c.from.right n (close on) c.from.flat (omega (arith, (known on).end))

  -- at the end of page 1's record nothing does,
  pub upward_last : n ≡ end_on img page → page ≡ 1 → Last img pos
  upward_last e p =
      let on = c.from.on in
      let a = last_page_lem img on.settings on.root on.reads on.within p in
      record { settings = on.settings; root = on.root; reads = on.reads; seen = c.from.seen; order = c.from.order ∙ rw (none_right e, a) }

-- and at the end of another's it goes on behind its proxy.
pub record Above (img : List ℕ) (pos page n left : ℕ) : Type 0 where
  pub holder : ℕ
  pub back : back_at img (page_size * page) ≡ holder
  pub held : HeldBy img holder page
  pub small : held.pos < most_bytes
  pub some : 1 ≤ left
  pub up : (m : ℕ) → m ≡ held.pos + 8 → (l : ℕ) → l ≡ left - 1 → ItemUpward img pos holder m l

pub upward_above : {img : List ℕ} {pos page n left : ℕ} (c : ItemUpward img pos page n left) → n ≡ end_on img page → (page ≡ 1 → ⊥) → Above img pos page n left
upward_above {img} {pos} {page} {n} {left} c e f =
    let on = c.from.on in
    go on.settings on.root on.reads on.within (view on).back c.deep c.from.seen
    (c.from.order ∙ ap (λ (l : List Item). c.from.seen ++ pos ∷ (expand l ++ on.after)) (none_right c e)) f
  where
    go : (st : Config) (root : Row) (r : Reads img st root) {q holder : ℕ} {row : Row} {before after : List ℕ} {d : ℕ} → In root q holder row before after d
        → back_at img (page_size * q) ≡ holder → d ≤ left → (seen : List ℕ) → spots (page_size + base root) root ≡ seen ++ pos ∷ after → (q ≡ 1 → ⊥)
        → Above img pos q n left
    go st root r top b k seen o f = absurd (f refl)
    go st root r (sub {page = page} {holder = over} {row = row} {before = before} {after = after} {depth = d} w xs ys at p x e) b k seen o f =
        let on : OnRecord img page =
        record { settings = st; root = root; reads = r; holder = over; row = row; before = before; after = after; depth = d; within = w } in
        let i = item_at img page (page_size * page + base row) row (view on).here xs ys (proxy at p x) e in
        let y = proxy_of_lem img page at at p x i.0 in
        let h = head_of_lem img page at (proxy at p x) i.0 in
        record {
          holder = page;
          back = b;
          held = record { above = on; left = xs; right = ys; pos = at; row = x; split = e };
          small = h.small;
          some = omega arith;
          up = λ m q l z. record {
            from = record {
              on = on;
              left = xs ++ proxy at p x ∷ [];
              right = ys;
              split = e ∙ sym (append_assoc xs (proxy at p x ∷ []) ys);
              flat = subst (λ (k : ℕ). Flat img page k (close on) ys) (y.next ∙ sym q) i.1;
              seen = seen;
              order = o;
            };
            deep = omega arith;
          };
        }

-- The same, as the code finds it: h is the page in the back link, and p where the proxy is found.
module _ {img : List ℕ} {pos page n left : ℕ} (c : ItemUpward img pos page n left) (e : n ≡ end_on img page) (f : page ≡ 1 → ⊥) (h : ℕ)
    (b : h ≡ back_at img (page_size * page)) where
  above : Above img pos page n left
  above = upward_above c e f

  its_holder : above.holder ≡ h
  its_holder = sym (b ∙ above.back)

  pub upward_held : HeldBy img h page
  upward_held = subst (λ (q : ℕ). HeldBy img q page) its_holder above.held

  pub upward_some : 1 ≤ left
  upward_some = above.some

  module _ (p : ℕ) (at : (w : HeldBy img h page) → p ≡ w.pos) where
    its_proxy : p ≡ above.held.pos
    its_proxy = subst (λ (q : ℕ). ((w : HeldBy img q page) → p ≡ w.pos) → p ≡ above.held.pos) its_holder (λ g. g above.held) at

    pub upward_small : p < most_bytes
    upward_small = rw its_proxy above.small

    pub upward_on : (m l : ℕ) → m ≡ p + 8 → l ≡ left - 1 → ItemUpward img pos h m l
    upward_on m l u v = subst (λ (q : ℕ). ItemUpward img pos q m l) its_holder (above.up m (u ∙ ap (λ (k : ℕ). k + 8) its_proxy) l v)

-- ── down ──

pub record Enter (img : List ℕ) (pos n left : ℕ) : Type 0 where
  pub ahead : Ahead img pos n
  pub deep : most_pages ≤ ahead.on.depth + left

pub ahead_head : {img : List ℕ} {pos n : ℕ} (a : Ahead img pos n) → HeaderRoom img a.page n
ahead_head {img} {pos} {n} a = head_of_lem img a.page n a.first a.flat.0

-- Another kind than 3 is a node.
pub ahead_node : {img : List ℕ} {pos n : ℕ} (a : Ahead img pos n) → (kind_at img n ≡ 3 → ⊥) → Follows img pos n
ahead_node {img} {pos} {n} a f = record {
  settings = a.on.settings;
  root = a.on.root;
  reads = a.on.reads;
  seen = a.seen;
  later = expand a.right ++ a.on.after;
  order = a.order ∙ ap (λ (i : Item). a.seen ++ pos ∷ (expand (i ∷ a.right) ++ a.on.after)) (is_node_lem img a.page n a.first a.flat.0 f);
}

-- A proxy's nodes are those of its record.
pub record RecordAhead (img : List ℕ) (pos n left : ℕ) : Type 0 where
  pub page : ℕ
  pub name : name_at img n ≡ page
  pub on : PageIn img page
  pub some : 1 ≤ left
  pub down : (m : ℕ) → m ≡ start_on img page → (l : ℕ) → l ≡ left - 1 → Enter img pos m l

-- a row that is not empty has a first item
first_of_lem : (pos : ℕ) (row : Row) → 1 ≤ size row → (i : Item) × (is : List Item) × (items pos row ≡ i ∷ is)
first_of_lem pos nil h = absurd (omega arith)
first_of_lem pos (agg h cs rest) k = (_, _, refl)
first_of_lem pos (lit h c rest) k = (_, _, refl)
first_of_lem pos (rec p s r rest) k = (_, _, refl)

pub enter_under : {img : List ℕ} {pos n left : ℕ} (c : Enter img pos n left) → kind_at img n ≡ 3 → RecordAhead img pos n left
enter_under {img} {pos} {n} {left} c k = go (is_proxy img a.page n a.first a.flat.0 k)
  where
    a : Ahead img pos n
    a = c.ahead

    on : OnRecord img a.page
    on = a.on

    go : (p : ℕ) × (r : Row) × (a.first ≡ proxy n p r) → RecordAhead img pos n left
    go q =
        let p = q.0 in
        let r = q.1 in
        let y = proxy_of_lem img a.page n n p r (subst (Stood img a.page n) q.2 a.flat.0) in
        let w = sub on.within a.left a.right n p r (a.split ∙ ap (λ (i : Item). a.left ++ i ∷ a.right) q.2) in
        let new : OnRecord img p = record {
          settings = on.settings;
          root = on.root;
          reads = on.reads;
          holder = a.page;
          row = r;
          before = on.before ++ expand a.left;
          after = expand a.right ++ on.after;
          depth = suc on.depth;
          within = w;
        } in
        let f = first_of_lem (page_size * p + base r) r y.some in
        let shown-all : spots (page_size * p + base r) r ≡ expand (f.0 ∷ f.1) = sym (expand_items (page_size * p + base r) r) ∙ ap expand f.2 in
        let deep = in_deep img on.settings on.root on.reads w in
        record {
          page = p;
          name = y.name;
          on = (known new).on;
          some = omega (arith, c.deep);
          down = λ m e l z. record {
            ahead = record {
              page = p;
              on = new;
              first = f.0;
              left = [];
              right = f.1;
              split = f.2;
              flat =
                  subst (λ (k : ℕ). Flat img p k (close new) (f.0 ∷ f.1)) (sym (e ∙ (known new).start))
                  (subst (Flat img p (page_size * p + base r) (close new)) f.2 (flat_all new));
              seen = a.seen;
              order = a.order ∙ ap (λ (i : Item). a.seen ++ pos ∷ (expand (i ∷ a.right) ++ on.after)) q.2
                  ∙ ap (λ (k : List ℕ). a.seen ++ pos ∷ k)
                  (append_assoc (spots (page_size * p + base r) r) (expand a.right) on.after
                  ∙ ap (λ (k : List ℕ). k ++ (expand a.right ++ on.after)) shown-all);
            };
            deep = omega (arith, c.deep);
          };
        }

pub ahead_low : {img : List ℕ} {pos n : ℕ} → Ahead img pos n → 1 ≤ n
ahead_low a = omega (arith, (ahead_head a).low, (known a.on).on.low)

-- The same, as the code finds it: q is the page that the proxy names.
module _ {img : List ℕ} {pos n left : ℕ} (c : Enter img pos n left) (k : kind_at img n ≡ 3) (q : ℕ) (e : q ≡ name_at img n) where
  under : RecordAhead img pos n left
  under = enter_under c k

  its_page : under.page ≡ q
  its_page = sym (e ∙ under.name)

  pub enter_page : PageIn img q
  enter_page = subst (PageIn img) its_page under.on

  pub enter_some : 1 ≤ left
  enter_some = under.some

  pub enter_down : (m l : ℕ) → m ≡ start_on img q → l ≡ left - 1 → Enter img pos m l
  enter_down m l = subst (λ (q : ℕ). m ≡ start_on img q → l ≡ left - 1 → Enter img pos m l) its_page (λ u v. under.down m u l v)

-- ── the answers ──

-- The answer that names the node at byte n.
abbrev pub next_at : (n : ℕ) → Kind → Origin → NextAnswer
next_at n k o = record { number = 0; next = next_is.Node (record { place = record { page = n / page_size; offset = n % page_size }; kind = k; origin = o }) }

-- The next node, or none at the end.
abbrev pub Nexted : (img : List ℕ) (pos : ℕ) → Option ℕ → Type 0
Nexted img pos None = Last img pos
Nexted img pos (Some n) = Follows img pos n

module _ (img : List ℕ) (x : Place) (pos : ℕ) (a : NodeOf img x.page x.offset pos) where
  -- A node at the position has the place.
  pub its_place : (st : Config) (root : Row) → Reads img st root → (n : Node) → PlacedAt root n pos → place_of root n.path ≡ some x
  its_place st root r n p =
      let b : pos / page_size ≡ x.page = omega (arith, a.is, a.short) in
      let c : pos % page_size ≡ x.offset = omega (arith, a.is, a.short) in
      place_at_lem img st root r n pos p ∙ (λ j. some (record { page = b j; offset = c j }))

  pub answer_end : Last img pos → next_of img x ≡ record { number = 0; next = next_is.End }
  answer_end l =
      let s = nodes_split img l.settings l.root l.reads l.seen (pos ∷ []) l.order in
      go s.0 s.1 s.2 s.3
    where
      go : (xs ys : List Node) → nodes (shown l.root) ≡ xs ++ ys → All (Both img l.root) ys (pos ∷ [])
          → next_of img x ≡ record { number = 0; next = next_is.End }
      go xs [] e b = absurd b
      go xs (n ∷ []) e b = next_last img l.settings l.root l.reads xs n x e (its_place l.settings l.root l.reads n b.0.1)
      go xs (n ∷ m ∷ ys) e b = absurd b.1

  pub answer_node : (n : ℕ) → Follows img pos n
      → next_of img x ≡ next_at n (kind_of (kind_at img n)) (origin_of (head_at img n).origin)
  answer_node n l =
      let s = nodes_split img l.settings l.root l.reads l.seen (pos ∷ n ∷ l.later) l.order in
      go s.0 s.1 s.2 s.3
    where
      go : (xs ys : List Node) → nodes (shown l.root) ≡ xs ++ ys → All (Both img l.root) ys (pos ∷ n ∷ l.later)
          → next_of img x ≡ next_at n (kind_of (kind_at img n)) (origin_of (head_at img n).origin)
      go xs [] e b = absurd b
      go xs (k ∷ []) e b = absurd b.1
      go xs (k ∷ m ∷ ys) e b =
          let f = next_follows img l.settings l.root l.reads xs ys k m x e (its_place l.settings l.root l.reads k b.0.1) in
          let o = ap (λ (h : Head). h.origin) (read_head img m n b.1.0.0) in
          rw (read_kind img m n b.1.0.0, o) (rw (place_at_lem img l.settings l.root l.reads m n b.1.0.1) at f.2)

-- A place where no node is.
pub answer_stray : (img : List ℕ) (x : Place) → check_of img ≡ 0 → Located img x.page x.offset None → next_of img x ≡ next_refused 10
answer_stray img x z f =
    let s = store_of img z in
    next_stray img s.settings s.root s.reads x (f s.settings s.root s.reads)

-- A node that follows is in the image.
pub follows_inside : {img : List ℕ} {pos n : ℕ} → Follows img pos n → n + 6 ≤ length img
follows_inside {img} {pos} {n} l =
    let m =
    split_mem n (spots (page_size + base l.root) l.root) (l.seen ++ pos ∷ []) l.later
    (l.order ∙ sym (append_assoc l.seen (pos ∷ []) (n ∷ l.later))) in
    let h = node_header img l.settings l.root l.reads n (node_in l.root n m) in
    omega (arith, h.room, h.on.inside)

-- The answer with the place, the kind and the origin that are read.
pub answer_read : (img : List ℕ) (x : Place) (pos n : ℕ) (y : Place) (k : Kind) (o : Origin) → NodeOf img x.page x.offset pos → Follows img pos n
    → y ≡ record { page = n / page_size; offset = n % page_size } → k ≡ kind_of (kind_at img n) → o ≡ origin_of (head_at img n).origin
    → record { number = 0; next = next_is.Node (record { place = y; kind = k; origin = o }) } ≡ next_of img x
answer_read img x pos n y k o a f d e h = rw (d, e, h) (sym (answer_node img x pos a n f))
