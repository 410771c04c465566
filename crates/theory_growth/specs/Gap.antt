-- The spots of a gap: wherever of them the new node goes, the tree shown is the plain tree's insert. Step 1 gives one of them.
use Rattle.std.specs.Prelude.{◌≡◌, refl, false, List, [], ℕ, zero, suc, ◌-◌, ◌<◌, ◌≤◌, ltb}
use Rattle.std.proofs.Common.{sym, ap, subst, ◌∙◌, arith}
use Rattle.std.proofs.Math.Option.{Option, none, some, some-injective, none-ne-some}
use Rattle.model.specs.Row.{Head, Row, nil, ◌⊹◌, node_count, lone}
use Rattle.model.specs.Tree.{Tree, end, branch, leaf, ◌⊞◌, shown, breadth, New, new_node, put_at, insert_at}
use Rattle.model.specs.Spot.{Position, here, inside, fill, past, into, Chain, top, whole, Stand, stand_in}
use Rattle.model.specs.Spot.{Spot, spot_after, spot_before, unused, spot_beside, spot_first, spot_child, spot_in, spot_of}
use Rattle.theory_rows.specs.Laws.{two_nodes, cond_case, ⊹-assoc, ⊞-assoc, shown-⊹, breadth_shown, new_node-⊞}
use Rattle.theory_rows.specs.Keeps.{node_count-⊹}
use Rattle.theory_growth.specs.Chain.{whole_of, fill_past, fill_into, lone_inside}
use Rattle.theory_growth.specs.Shown.{around, above, around_past, around_into}
use Rattle.theory_growth.specs.Stand.{Edit, edit_at, NotAlone, not_alone_into, Stood, stood_in, stand_within}
use Rattle.theory_growth.specs.Path.{spot_along, AtPath, at_path}

-- A position in an aggregate, or in a record with a helper: never beside a record's only node.
abbrev pub Steady : Position → (rest : Row) → Type 0
Steady (here left) rest = (1 ≤ node_count (left ⊹ rest)) × (lone (left ⊹ rest) ≡ false)
Steady (inside left h right s) rest = Unit {0}

-- The spot is one of the root record, and with the new node there that shows `new`.
pub record Takes (root : Row) (new : New → Tree) (t : Spot) : Type 0 where
  pub held : whole_of t ≡ root
  pub shows : (x : New) → above t.chain (around t.position (new_node x (shown t.rest))) ≡ new x
  pub steady : Steady t.position t.rest

-- The spot is in the gap before child k of the aggregate that the path names.
abbrev pub Gap : (root : Row) → (path : List ℕ) → (k : ℕ) → Spot → Type 0
Gap root path k t = Takes root (λ x. insert_at x k 0 path (shown root)) t

-- More nodes at a steady position leave the record with the root that it had: a helper, or an aggregate.
pub steady_lone : (s : Position) (x y : Row) → node_count x < node_count y → Steady s x → lone (fill s y) ≡ lone (fill s x)
steady_lone (here left) x y e o = two_nodes (left ⊹ y) (omega (arith, node_count-⊹ left x, node_count-⊹ left y)) ∙ sym o.1
steady_lone (inside left h right s) x y e o = lone_inside left h right (fill s y) (fill s x)

-- the same said of the root record in other words
takes_same : {root root' : Row} {new new' : New → Tree} (t : Spot) → root ≡ root' → ((x : New) → new x ≡ new' x) → Takes root new t → Takes root' new' t
takes_same t a b f = record { held = f.held ∙ a; shows = λ x. f.shows x ∙ b x; steady = f.steady }

-- ── beside a node ──

-- The new node directly after a node, and directly before it.
abbrev put_after : New → Edit
put_after x = record {
  makes = λ one rest. one ⊞ new_node x rest;
  local = λ one rest more. ⊞-assoc one (new_node x rest) more ∙ ap (◌⊞◌ one) (sym (new_node-⊞ x rest more));
}

abbrev put_before : New → Edit
put_before x = record {
  makes = λ one rest. new_node x (one ⊞ rest);
  local = λ one rest more. sym (new_node-⊞ x (one ⊞ rest) more) ∙ ap (new_node x) (⊞-assoc one rest more);
}

put_after_lem : (x : New) (i : ℕ) (t : Tree) → edit_at (put_after x) i [] t ≡ put_at x (suc i) t
put_after_lem x i end = refl
put_after_lem x zero (branch h cs rest) = refl
put_after_lem x (suc i) (branch h cs rest) = ap (branch h cs) (put_after_lem x i rest)
put_after_lem x zero (leaf h c rest) = refl
put_after_lem x (suc i) (leaf h c rest) = ap (leaf h c) (put_after_lem x i rest)

put_before_lem : (x : New) (i : ℕ) (t : Tree) → i < breadth t → edit_at (put_before x) i [] t ≡ put_at x i t
put_before_lem x i end k = absurd (omega arith)
put_before_lem x zero (branch h cs rest) k = refl
put_before_lem x (suc i) (branch h cs rest) k = ap (branch h cs) (put_before_lem x i rest (omega arith))
put_before_lem x zero (leaf h c rest) k = refl
put_before_lem x (suc i) (leaf h c rest) k = ap (leaf h c) (put_before_lem x i rest (omega arith))

steady_at : (s : Position) (one rest : Row) → node_count one ≡ 1 → NotAlone s (one ⊹ rest) → Steady s (one ⊹ rest)
steady_at (here left) one rest e o = (omega (arith, node_count-⊹ left (one ⊹ rest), node_count-⊹ one rest), o)
steady_at (inside left h right s) one rest e o = tt

steady_past : (s : Position) (one rest : Row) → Steady s (one ⊹ rest) → Steady (past s one) rest
steady_past (here left) one rest f = rw (⊹-assoc left one rest) f
steady_past (inside left h right s) one rest f = tt

steady_into : (s : Position) (h : Head) (rest row : Row) → Steady (into s h rest) row
steady_into (here left) h rest row = tt
steady_into (inside left g right s) h rest row = tt

-- The two spots beside node i of a row that goes on at position s of the last record of c.
module _ (h : Head) (c : Chain) (s : Position) (i : ℕ) (row : Row) (n : Stand) (e : stand_in c s i [] row ≡ some n) (o : NotAlone s row) where
  abbrev node : Stood (whole c (fill s row)) (λ e. above c (around s (edit_at e i [] (shown row)))) n
  node = stood_in n c s i [] row e o

  steady : Steady n.position (n.node ⊹ n.rest)
  steady = steady_at n.position n.node n.rest node.one node.not_alone

  after_takes : Takes (whole c (fill s row)) (λ x. above c (around s (put_at x (suc i) (shown row)))) (spot_after h n)
  after_takes = record {
    held = ap (whole n.chain) (fill_past n.position n.node n.rest) ∙ node.held;
    shows = λ x. ap (above n.chain) (around_past n.position n.node (new_node x (shown n.rest))) ∙ node.shows (put_after x)
        ∙ ap (λ (u : Tree). above c (around s u)) (put_after_lem x i (shown row));
    steady = steady_past n.position n.node n.rest steady;
  }

  before_takes : Takes (whole c (fill s row)) (λ x. above c (around s (put_at x i (shown row)))) (spot_before h n)
  before_takes = record {
    held = node.held;
    shows = λ x. ap (λ (u : Tree). above n.chain (around n.position (new_node x u))) (shown-⊹ n.node n.rest) ∙ node.shows (put_before x)
        ∙ ap (λ (u : Tree). above c (around s u)) (put_before_lem x i (shown row) (rw (breadth_shown row) (stand_within c s i [] row n e)));
    steady = steady;
  }

-- ── step 1 ──

-- The children `row` of an aggregate at position s of the last record of c.
module _ (h : Head) (c : Chain) (s : Position) (rest row : Row) where
  abbrev inner : Position
  inner = into s h rest

  -- The spot takes child k of them.
  abbrev pub TakesChild : (k : ℕ) → Spot → Type 0
  TakesChild k = Takes (whole c (fill inner row)) (λ x. above c (around inner (put_at x k (shown row))))

  pub after_child : (i : ℕ) (n : Stand) → stand_in c inner i [] row ≡ some n → TakesChild (suc i) (spot_after h n)
  after_child i n e = after_takes h c inner i row n e (not_alone_into s h rest row)

  pub before_child : (i : ℕ) (n : Stand) → stand_in c inner i [] row ≡ some n → TakesChild i (spot_before h n)
  before_child i n e = before_takes h c inner i row n e (not_alone_into s h rest row)

  first_child : (o : Option Stand) → stand_in c inner 0 [] row ≡ o → TakesChild 0 (spot_first (record { chain = c; position = inner; rest = row; parent = h }) o)
  first_child none e = record { held = refl; shows = λ x. refl; steady = steady_into s h rest row }
  first_child (some n) e = before_child 0 n e

  later_child : (i : ℕ) (t : Spot) (l r : Option Stand) → stand_in c inner i [] row ≡ l → stand_in c inner (suc i) [] row ≡ r → spot_beside h l r ≡ some t
      → TakesChild (suc i) t
  later_child i t none r a b e = absurd (none-ne-some t e)
  later_child i t (some l) none a b e = subst (TakesChild (suc i)) (some-injective _ t e) (after_child i l a)
  later_child i t (some l) (some r) a b e =
      subst (TakesChild (suc i)) (some-injective _ t e)
      (cond_case (TakesChild (suc i)) (ltb (unused (spot_after h l)) (unused (spot_before h r))) (λ _. before_child (suc i) r b) (λ _. after_child i l a))

  child_takes : (k : ℕ) (t : Spot) → spot_child h c inner k row ≡ some t → TakesChild k t
  child_takes zero t e = subst (TakesChild 0) (some-injective _ t e) (first_child (stand_in c inner 0 [] row) refl)
  child_takes (suc i) t e = later_child i t (stand_in c inner i [] row) (stand_in c inner (suc i) [] row) refl refl e

-- Of the aggregate that a path names: it is in the gap.
pub child_gap : (root : Row) (path : List ℕ) (k : ℕ) (t : Spot) (w : AtPath top (here nil) 0 path root)
    → TakesChild w.head w.chain w.position w.rest w.children k t → Gap root path k t
child_gap root path k t w f =
    takes_same t (ap (whole w.chain) (fill_into w.position w.head w.rest w.children) ∙ w.held)
    (λ x. ap (above w.chain) (around_into w.position w.head w.rest (put_at x k (shown w.children))) ∙ w.shows k x) f

-- The spot that step 1 gives is in the gap.
pub spot_gap : (root : Row) (path : List ℕ) (k : ℕ) (t : Spot) → spot_of root path k ≡ some t → Gap root path k t
unfolding spot_in
spot_gap root path k t e =
    let w = at_path (spot_in k) (spot_along k) t top (here nil) 0 path root e in
    child_gap root path k t w (child_takes w.head w.chain w.position w.rest w.children k t (sym (w.along Spot (spot_in k) (spot_along k)) ∙ e))

-- The root record is what stands around the spot, with the row that follows it.
pub spot_whole : (root : Row) (path : List ℕ) (k : ℕ) (t : Spot) → spot_of root path k ≡ some t → whole_of t ≡ root
spot_whole root path k t e = (spot_gap root path k t e).held
