-- The aggregate that a path names, in the records: where every search along the path comes to.
use Rattle.std.specs.Prelude.{◌≡◌, Bool, true, false, cond, ltb}
use Rattle.std.proofs.Math.Path.{refl, sym, ap}
use Rattle.std.proofs.Common.{◌∙◌, arith}
use mathlib.Core.List.{List, [], ◌∷◌, ◌++◌}
use Rattle.std.proofs.Math.Option.{Option, none, some, map, some-injective, none-ne-some}
use Prim.Native.Nat.{ℕ, zero, suc, ◌+◌, ◌-◌}
use Rattle.std.proofs.Math.ListN.{length}
use Rattle.model.specs.Row.{Head, Row, nil, agg, lit, rec, size, base}
use Rattle.model.specs.Tree.{Tree, branch, shown, width, Node, below as lower, further, node_at, New, put_at, insert_at, place_at}
use Rattle.model.specs.declared.Place.{Place}
use Rattle.model.specs.Spot.{Position, here, fill, past, into, Chain, below, last_page, whole, Stand, stand_in, spot_in}
use Rattle.theory_rows.specs.Laws.{breadth_shown, within, beyond, insert_at_left, insert_at_right}
use Rattle.theory_places.specs.Order.{node_within, node_beyond}
use Rattle.theory_places.specs.Named.{unmap}
use Rattle.theory_growth.specs.Chain.{fill_past, fill_into, offset_in, offset_past, offset_into}
use Rattle.theory_growth.specs.Shown.{around, above, around_past, around_record, around_into}
use Rattle.theory_growth.specs.Stand.{stand_below_lem}

-- From node i of a row that goes on at a position of the last record of a chain.
abbrev pub Search : Type 0 → Type 0
Search A = Chain → Position → (i : ℕ) → (path : List ℕ) → Row → Option A

-- A search along a path goes from node to node as the tree shows them, and finds nothing behind the last node or at a literal.
pub record AlongPath {A : Type 0} (f : Search A) : Type 0 where
  pub at_nil : (c : Chain) (s : Position) (i : ℕ) (path : List ℕ) → f c s i path nil ≡ none
  pub at_lit : (c : Chain) (s : Position) (path : List ℕ) (h : Head) (x : List ℕ) (rest : Row) → f c s 0 path (lit h x rest) ≡ none
  pub down : (c : Chain) (s : Position) (j : ℕ) (path : List ℕ) (h : Head) (cs rest : Row) → f c s 0 (j ∷ path) (agg h cs rest) ≡ f c (into s h rest) j path cs
  pub after_agg : (c : Chain) (s : Position) (i : ℕ) (path : List ℕ) (h : Head) (cs rest : Row)
      → f c s (suc i) path (agg h cs rest) ≡ f c (past s (agg h cs nil)) i path rest
  pub after_lit : (c : Chain) (s : Position) (i : ℕ) (path : List ℕ) (h : Head) (x : List ℕ) (rest : Row)
      → f c s (suc i) path (lit h x rest) ≡ f c (past s (lit h x nil)) i path rest
  pub at_rec : (c : Chain) (s : Position) (i : ℕ) (path : List ℕ) (q : ℕ) (b : Bool) (r rest : Row) → f c s i path (rec q b r rest)
      ≡ cond (ltb i (width r)) (f (below c s q b rest) (here nil) i path r) (f c (past s (rec q b r nil)) (i - width r) path rest)

-- For the spot of a child of the node that the path names, and for the stand of one.
pub spot_along : (k : ℕ) → AlongPath (spot_in k)
unfolding spot_in
spot_along k = record {
  at_nil = λ c s i path. refl;
  at_lit = λ c s path h x rest. refl;
  down = λ c s j path h cs rest. refl;
  after_agg = λ c s i path h cs rest. refl;
  after_lit = λ c s i path h x rest. refl;
  at_rec = λ c s i path q b r rest. refl;
}

abbrev pub stand_below : (k : ℕ) → Search Stand
stand_below k c s i path row = stand_in c s i (path ++ k ∷ []) row

none_below : (c : Chain) (s : Position) (path : List ℕ) (k : ℕ) (h : Head) (x : List ℕ) (rest : Row) → stand_below k c s 0 path (lit h x rest) ≡ none
unfolding stand_in
none_below c s [] k h x rest = refl
none_below c s (j ∷ path) k h x rest = refl

pub stand_along : (k : ℕ) → AlongPath (stand_below k)
unfolding stand_in
stand_along k = record {
  at_nil = λ c s i path. refl;
  at_lit = λ c s path h x rest. none_below c s path k h x rest;
  down = λ c s j path h cs rest. refl;
  after_agg = λ c s i path h cs rest. refl;
  after_lit = λ c s i path h x rest. refl;
  at_rec = λ c s i path q b r rest. stand_below_lem c s i path k q b r rest;
}

-- From node i of a row, the aggregate stands at a position of the last record of a chain. Every search along the path goes on from there, what is put among its
-- children is put in the row, and the place and the node that the path gives are its own.
pub record AtPath (c : Chain) (s : Position) (i : ℕ) (path : List ℕ) (row : Row) : Type 1 where
  pub chain : Chain
  pub position : Position
  pub head : Head
  pub children : Row
  pub rest : Row
  pub held : whole chain (fill position (agg head children rest)) ≡ whole c (fill s row)
  pub along : (A : Type 0) (f : Search A) → AlongPath f
      → f c s i path row ≡ f chain position 0 [] (agg head children rest)
  pub shows : (k : ℕ) (x : New) → above chain (around position (branch head (put_at x k (shown children)) (shown rest)))
      ≡ above c (around s (insert_at x k i path (shown row)))
  pub place : (y : Place) (at : ℕ) → place_at (last_page c) at i path row ≡ some y
      → (last_page chain ≡ y.page) × (at ≡ offset_in s row → offset_in position (agg head children rest) ≡ y.offset)
  pub node : (n : Node) → node_at i path (shown row) ≡ some n → head ≡ n.head

-- the same aggregate from another row
at_same : {c c' : Chain} {s s' : Position} {i i' : ℕ} {path path' : List ℕ} {row row' : Row} → whole c (fill s row) ≡ whole c' (fill s' row')
    → ((A : Type 0) (f : Search A) → AlongPath f → f c' s' i' path' row' ≡ f c s i path row)
    → ((k : ℕ) (x : New) → above c (around s (insert_at x k i path (shown row))) ≡ above c' (around s' (insert_at x k i' path' (shown row'))))
    → ((y : Place) (at : ℕ) → place_at (last_page c') at i' path' row' ≡ some y
    → (n : ℕ) × (place_at (last_page c) n i path row ≡ some y) × (at ≡ offset_in s' row' → n ≡ offset_in s row))
    → ((n : Node) → node_at i' path' (shown row') ≡ some n → (m : Node) × (node_at i path (shown row) ≡ some m) × (m.head ≡ n.head))
    → AtPath c s i path row → AtPath c' s' i' path' row'
at_same a b d p n w = record {
  chain = w.chain;
  position = w.position;
  head = w.head;
  children = w.children;
  rest = w.rest;
  held = w.held ∙ a;
  along = λ A f k. b A f k ∙ w.along A f k;
  shows = λ k x. w.shows k x ∙ d k x;
  place = λ y at e. let z = p y at e in let u = w.place y z.0 z.1 in (u.0, λ o. u.1 (z.2 o));
  node = λ m e. let z = n m e in w.node z.0 z.1 ∙ z.2;
}

-- a node that keeps its header from one row to another
head_same : (g : Node → Node) → ((n : Node) → (g n).head ≡ n.head) → (o : Option Node) (n : Node) → map g o ≡ some n
    → (m : Node) × (o ≡ some m) × (m.head ≡ n.head)
head_same g same o n e = let (m, a, b) = unmap g o n e in (m, a, sym (same m) ∙ ap (λ (n : Node). n.head) b)

by_test : {A : Type 0} (P : A → Type 1) (u : Bool) {x y : A} → (u ≡ true → P x) → (u ≡ false → P y) → P (cond u x y)
by_test P true f g = f refl
by_test P false f g = g refl

module _ {A : Type 0} (f : Search A) (d : AlongPath f) (t : A) where
  -- What such a search finds, it finds from the aggregate that the path names.
  pub at_path : (c : Chain) (s : Position) (i : ℕ) (path : List ℕ) (row : Row) → f c s i path row ≡ some t → AtPath c s i path row
  unfolding place_at
  at_path c s i path nil e = absurd (none-ne-some t (sym (d.at_nil c s i path) ∙ e))
  at_path c s zero [] (agg h cs rest) e = record {
    chain = c;
    position = s;
    head = h;
    children = cs;
    rest = rest;
    held = refl;
    along = λ A f k. refl;
    shows = λ k x. refl;
    place = λ y at p. let z = some-injective _ y p in (ap (λ (y : Place). y.page) z, λ o. sym o ∙ ap (λ (y : Place). y.offset) z);
    node = λ n p. ap (λ (n : Node). n.head) (some-injective _ n p);
  }
  at_path c s zero (j ∷ path) (agg h cs rest) e =
      at_same (ap (whole c) (fill_into s h rest cs)) (λ A f k. k.down c s j path h cs rest)
      (λ k x. ap (above c) (around_into s h rest (insert_at x k j path (shown cs))))
      (λ y at p. (at + 6, p, λ o. omega (arith, offset_into s h rest cs)))
      (λ n p. head_same lower (λ n. refl) (node_at j path (shown cs)) n p) (at_path c (into s h rest) j path cs (sym (d.down c s j path h cs rest) ∙ e))
  at_path c s (suc i) path (agg h cs rest) e =
      let one : Row = agg h cs nil in
      at_same (ap (whole c) (fill_past s one rest)) (λ A f k. k.after_agg c s i path h cs rest)
      (λ k x. ap (above c) (around_past s one (insert_at x k i path (shown rest))))
      (λ y at p. (at + 6 + size cs, p, λ o. omega (arith, offset_past s one rest (6 + size cs) (omega arith))))
      (λ n p. head_same (further 1) (λ n. refl) (node_at i path (shown rest)) n p)
      (at_path c (past s one) i path rest (sym (d.after_agg c s i path h cs rest) ∙ e))
  at_path c s zero path (lit h x rest) e = absurd (none-ne-some t (sym (d.at_lit c s path h x rest) ∙ e))
  at_path c s (suc i) path (lit h b rest) e =
      let one : Row = lit h b nil in
      at_same (ap (whole c) (fill_past s one rest)) (λ A f k. k.after_lit c s i path h b rest)
      (λ k x. ap (above c) (around_past s one (insert_at x k i path (shown rest))))
      (λ y at p. (at + 6 + length b, p, λ o. omega (arith, offset_past s one rest (6 + length b) (omega arith))))
      (λ n p. head_same (further 1) (λ n. refl) (node_at i path (shown rest)) n p)
      (at_path c (past s one) i path rest (sym (d.after_lit c s i path h b rest) ∙ e))
  at_path c s i path (rec q b r rest) e =
      let one : Row = rec q b r nil in
      by_test (λ (p : Option A). p ≡ some t → AtPath c s i path (rec q b r rest)) (ltb i (width r))
      (λ m e. at_same refl (λ A f k. rw m at (k.at_rec c s i path q b r rest))
      (λ k x. ap (λ (u : Tree). above c (around s u)) (sym (insert_at_left x k i path (shown r) (shown rest) (within r i m))))
      (λ y at p. (base r, rw m at p, λ o. omega arith))
      (λ n p. (n, sym (node_within i path r rest m) ∙ p, refl)) (at_path (below c s q b rest) (here nil) i path r e))
      (λ m e. at_same (ap (whole c) (fill_past s one rest)) (λ A f k. rw m at (k.at_rec c s i path q b r rest))
      (λ k x. ap (above c) (around_record s q b r (insert_at x k (i - width r) path (shown rest))
      ∙ ap (around s) (sym (rw (← breadth_shown r) (insert_at_right x k i path (shown r) (shown rest) (beyond r i m))))))
      (λ y at p. (at + 8, rw m at p, λ o. omega (arith, offset_past s one rest 8 (omega arith))))
      (λ n p. head_same (further (width r)) (λ n. refl) (node_at (i - width r) path (shown rest)) n (sym (node_beyond i path r rest m) ∙ p))
      (at_path c (past s one) (i - width r) path rest e))
      (sym (d.at_rec c s i path q b r rest) ∙ e)
