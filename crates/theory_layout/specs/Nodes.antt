-- The nodes of the document order against the positions where they stand: what is read at each, and its place.
use Rattle.std.specs.Prelude.{◌≡◌, refl, ℕ, ◌+◌, ◌*◌, ◌/◌, ◌%◌, ◌≤◌, ◌<◌, length, cond}
use Rattle.std.proofs.Common.{sym, ap, subst, ◌∙◌, arith}
use mathlib.Core.List.{List, [], ◌∷◌, ◌++◌, map, nil≢cons, head-eq_of_cons-eq, tail-eq_of_cons-eq, Memᴰ}
use Rattle.std.proofs.Math.Option.{some, some-injective}
use Rattle.model.specs.Limits.{most_pages, page_size, most_bytes}
use Rattle.model.specs.Row.{Row, nil, agg, lit, rec, size, base, Config, Head, is_agg}
use Rattle.model.specs.Reading.{Reads, kind_at, head_at}
use Rattle.model.specs.Tree.{shown, breadth, width, Node, below, further, nodes, places, place_of}
use Rattle.model.specs.declared.Place.{Place}
use Rattle.theory_rows.specs.Laws.{breadth_shown}
use Rattle.theory_decoding.specs.Reading.{reads_valid}
use Rattle.theory_decoding.specs.Steps.{steps, few_steps}
use Rattle.theory_places.specs.Member.{Mem}
use Rattle.theory_places.specs.Order.{lone_root, place_root, nodes-⊞}
use Rattle.theory_places.specs.Inside.{Inside, place_inside}
use Rattle.theory_row_bytes.specs.RowAt.{kind_of, head_of, body_of, kids_of}
use Rattle.theory_layout.specs.Here.{nesting, Here, view, root_here, root_nesting}
use Rattle.theory_layout.specs.Items.{spots}
use Rattle.theory_layout.specs.Order.{addr, spots_places}

-- ── two lists side by side ──

abbrev pub All : (Node → ℕ → Type 0) → List Node → List ℕ → Type 0
All R [] [] = Unit {0}
All R [] (s ∷ ss) = ⊥
All R (n ∷ ns) [] = ⊥
All R (n ∷ ns) (s ∷ ss) = R n s × All R ns ss

module _ (R : Node → ℕ → Type 0) where
  all-++ : (ns ms : List Node) (ss ts : List ℕ) → All R ns ss → All R ms ts → All R (ns ++ ms) (ss ++ ts)
  all-++ [] ms [] ts a b = b
  all-++ [] ms (s ∷ ss) ts a b = absurd a
  all-++ (n ∷ ns) ms [] ts a b = absurd a
  all-++ (n ∷ ns) ms (s ∷ ss) ts a b = (a.0, all-++ ns ms ss ts a.1 b)

  all_map : (f : Node → Node) → ((n : Node) (s : ℕ) → R n s → R (f n) s) → (ns : List Node) (ss : List ℕ) → All R ns ss → All R (map f ns) ss
  all_map f h [] [] a = tt
  all_map f h [] (s ∷ ss) a = absurd a
  all_map f h (n ∷ ns) [] a = absurd a
  all_map f h (n ∷ ns) (s ∷ ss) a = (h n s a.0, all_map f h ns ss a.1)

  pub all_split : (ns : List Node) (ss ts : List ℕ) → All R ns (ss ++ ts) → (xs ys : List Node) × (ns ≡ xs ++ ys) × All R ys ts
  all_split ns [] ts a = ([], ns, refl, a)
  all_split [] (s ∷ ss) ts a = absurd a
  all_split (n ∷ ns) (s ∷ ss) ts a =
      let r = all_split ns ss ts a.1 in
      (n ∷ r.0, r.1, ap (◌∷◌ n) r.2, r.3)

all_both : (R S : Node → ℕ → Type 0) (ns : List Node) (ss : List ℕ) → All R ns ss → All S ns ss → All (λ n s. R n s × S n s) ns ss
all_both R S [] [] a b = tt
all_both R S [] (s ∷ ss) a b = absurd a
all_both R S (n ∷ ns) [] a b = absurd a
all_both R S (n ∷ ns) (s ∷ ss) a b = ((a.0, b.0), all_both R S ns ss a.1 b.1)

-- ── what is read at a node ──

-- A row whose first node has this kind, head and content, and shows so many children, stands at pos.
pub record NodeRead (img : List ℕ) (kind : ℕ) (head : Head) (content : List ℕ) (children pos : ℕ) : Type 0 where
  pub page : ℕ
  pub row : Row
  pub here : Here img page pos row
  pub some : 0 < size row
  pub plain : kind_of row ≡ 3 → ⊥
  pub kind_is : kind ≡ kind_of row
  pub head_is : head ≡ head_of row
  pub content_is : content ≡ cond (is_agg row) [] (body_of row)
  pub children_is : children ≡ width (kids_of row)
  pub deep : nesting row ≤ most_pages
  pub few : steps row ≤ most_bytes

abbrev pub ReadAt : (img : List ℕ) → Node → (pos : ℕ) → Type 0
ReadAt img n pos = NodeRead img n.kind n.head n.content n.children pos

module _ (img : List ℕ) where
  abbrev read_first : (page pos : ℕ) (row : Row) → Here img page pos row → 0 < size row → (kind_of row ≡ 3 → ⊥) → nesting row ≤ most_pages
      → steps row ≤ most_bytes
      → {n : ℕ} → n ≡ width (kids_of row) → NodeRead img (kind_of row) (head_of row) (cond (is_agg row) [] (body_of row)) n pos
  read_first page pos row v h k d f e = record {
    page = page;
    row = row;
    here = v;
    some = h;
    plain = k;
    kind_is = refl;
    head_is = refl;
    content_is = refl;
    children_is = e;
    deep = d;
    few = f;
  }

  pub read_all : (page pos : ℕ) (row : Row) → Here img page pos row → nesting row ≤ most_pages → steps row ≤ most_bytes
      → All (ReadAt img) (nodes (shown row)) (spots pos row)
  read_all page pos nil v d f = tt
  read_all page pos (agg h cs rest) v d f =
      let some : 0 < size (agg h cs rest) = omega arith in
      let w = view v some in
      let R = ReadAt img in
      let us = nodes (shown cs) in
      let vs = nodes (shown rest) in (
        read_first page pos (agg h cs rest) v some (λ k. omega arith) d f (breadth_shown cs),
        all-++ R (map below us) (map (further 1) vs) (spots (pos + 6) cs) (spots (pos + (6 + size cs)) rest)
            (all_map R below (λ n s r. r) us (spots (pos + 6) cs) (read_all page (pos + 6) cs w.children (omega arith) (omega arith)))
            (all_map R (further 1) (λ n s r. r) vs (spots (pos + (6 + size cs)) rest)
            (read_all page (pos + (6 + size cs)) rest w.after (omega arith) (omega arith))),
      )
  read_all page pos (lit h c rest) v d f =
      let some : 0 < size (lit h c rest) = omega arith in
      let w = view v some in (
        read_first page pos (lit h c rest) v some (λ k. omega arith) d f refl,
        all_map (ReadAt img) (further 1) (λ n s r. r) (nodes (shown rest)) (spots (pos + (6 + length c)) rest)
            (read_all page (pos + (6 + length c)) rest w.after (omega arith) (omega arith)),
      )
  read_all page pos (rec p s r rest) v d f =
      let w = view v (omega arith) in
      let R = ReadAt img in
      let k = breadth (shown r) in
      rw (nodes-⊞ (shown r) (shown rest))
      (all-++ R (nodes (shown r)) (map (further k) (nodes (shown rest))) (spots (page_size * p + base r) r) (spots (pos + 8) rest)
      (read_all p (page_size * p + base r) r w.under.here (omega arith) (omega arith))
      (all_map R (further k) (λ n s r. r) (nodes (shown rest)) (spots (pos + 8) rest) (read_all page (pos + 8) rest w.after (omega arith) (omega arith))))

  -- The kind's byte is the node's, and so is what the header says besides.
  pub read_kind : (n : Node) (s : ℕ) → ReadAt img n s → kind_at img s ≡ n.kind
  read_kind n s r = (view r.here r.some).kind_is ∙ sym r.kind_is

  pub read_head : (n : Node) (s : ℕ) → ReadAt img n s → head_at img s ≡ n.head
  read_head n s r = (view r.here r.some).head_is ∙ sym r.head_is

-- ── the places ──

-- A node of a root's tree is at this position.
pub record PlacedAt (root : Row) (n : Node) (pos : ℕ) : Type 0 where
  pub place : Place
  pub has : place_of root n.path ≡ some place
  pub is : addr place ≡ pos

-- A node of the store at a position of its image: what is read there, and its place.
abbrev pub Both : List ℕ → Row → Node → ℕ → Type 0
Both img root n s = ReadAt img n s × PlacedAt root n s

placed_all : (root : Row) (ns : List Node) (ps : List Place) (ss : List ℕ) → map (λ (n : Node). place_of root n.path) ns ≡ map some ps → ss ≡ map addr ps
    → All (PlacedAt root) ns ss
placed_all root [] [] [] e f = tt
placed_all root [] [] (s ∷ ss) e f = absurd (nil≢cons (sym f))
placed_all root [] (p ∷ ps) ss e f = absurd (nil≢cons e)
placed_all root (n ∷ ns) [] ss e f = absurd (nil≢cons (sym e))
placed_all root (n ∷ ns) (p ∷ ps) [] e f = absurd (nil≢cons f)
placed_all root (n ∷ ns) (p ∷ ps) (s ∷ ss) e f = (
  record { place = p; has = head-eq_of_cons-eq e; is = sym (head-eq_of_cons-eq f) },
  placed_all root ns ps ss (tail-eq_of_cons-eq e)
      (tail-eq_of_cons-eq f),
)

mem_all : (R : Node → ℕ → Type 0) (ns : List Node) (ss : List ℕ) → All R ns ss → (n : Node) → Mem n ns → (s : ℕ) × Memᴰ s ss × R n s
mem_all R [] ss a n i = elim i [ ]
mem_all R (m ∷ ns) [] a n i = absurd a
mem_all R (m ∷ ns) (s ∷ ss) a n (Memᴰ.head e) = (s, Memᴰ.head refl, subst (λ (n : Node). R n s) (sym e) a.0)
mem_all R (m ∷ ns) (s ∷ ss) a n (Memᴰ.tail i) = let r = mem_all R ns ss a.1 n i in (r.0, Memᴰ.tail r.1, r.2)

module _ (img : List ℕ) (st : Config) (root : Row) (r : Reads img st root) where
  root_base : base root ≡ 0
  root_base = rw (lone_root st root (reads_valid img st root r))

  -- The nodes in document order stand where `spots` says.
  pub nodes_all : All (Both img root) (nodes (shown root)) (spots (page_size + base root) root)
  nodes_all =
      let z : page_size + base root ≡ page_size = omega (arith, root_base) in
      let v = reads_valid img st root r in
      rw z
      (all_both (ReadAt img) (PlacedAt root) (nodes (shown root)) (spots page_size root)
      (read_all img 1 page_size root (root_here img st root r) (root_nesting img st root r) (omega (arith, few_steps st root v, v.ranges.many)))
      (placed_all root (nodes (shown root)) (places 1 0 root) (spots page_size root) (place_root root (lone_root st root v)) (spots_places 1 0 root)))

  -- A position splits the nodes as it splits the positions.
  pub nodes_split : (before after : List ℕ) → spots (page_size + base root) root ≡ before ++ after
      → (xs ys : List Node) × (nodes (shown root) ≡ xs ++ ys) × All (Both img root) ys after
  nodes_split before after e = all_split (Both img root) (nodes (shown root)) before after (subst (All (Both img root) (nodes (shown root))) e nodes_all)

  -- What is read at a node's place.
  pub node_read : (n : Node) → Mem n (nodes (shown root)) → (x : Place) → place_of root n.path ≡ some x → ReadAt img n (addr x)
  node_read n m x e =
      let b = mem_all (Both img root) (nodes (shown root)) (spots (page_size + base root) root) nodes_all n m in
      subst (ReadAt img n) (sym b.2.1.is ∙ ap addr (some-injective _ _ (sym b.2.1.has ∙ e))) b.2.0

  -- A node's place is one of the positions, and on its page.
  pub node_spot : (n : Node) → Mem n (nodes (shown root)) → (x : Place) → place_of root n.path ≡ some x
      → Memᴰ (addr x) (spots (page_size + base root) root) × Inside st x
  node_spot n m x e =
      let b = mem_all (Both img root) (nodes (shown root)) (spots (page_size + base root) root) nodes_all n m in
      let same : b.2.1.place ≡ x = some-injective _ _ (sym b.2.1.has ∙ e) in
      let at = subst (λ (s : ℕ). Memᴰ s (spots (page_size + base root) root)) (sym b.2.1.is ∙ ap addr same) b.1 in
      (at, place_inside st root (reads_valid img st root r) n.path x e)

  -- The place of a node at a position is that position's.
  pub place_at_lem : (n : Node) (s : ℕ) → PlacedAt root n s → place_of root n.path ≡ some (record { page = s / page_size; offset = s % page_size })
  place_at_lem n s p =
      let i = place_inside st root (reads_valid img st root r) n.path p.place p.has in
      let a : p.place.page ≡ s / page_size = omega (arith, p.is, i.fits) in
      let b : p.place.offset ≡ s % page_size = omega (arith, p.is, i.fits) in
      p.has ∙ (λ j. some (record { page = a j; offset = b j }))
