-- The plain tree's insert: the new node's path names it, and the document order has one node more.
use Rattle.std.specs.Prelude.{◌≡◌, refl, Bool, true, false, not, ◌&&◌, ◌||◌, List, [], ◌∷◌, ◌++◌, map, ℕ, zero, suc, ◌≤◌, length, eqb}
use Rattle.std.proofs.Common.{sym, ap, ◌∙◌, true≢false, append_assoc, arith, eqb-true}
use Rattle.std.proofs.lemmas.List.{map-append}
use Rattle.std.proofs.lemmas.Simd.{map-map}
use Rattle.std.proofs.Math.Option
use Rattle.std.proofs.Math.Option.{Option, none, some}
use Rattle.model.specs.Row.{Head}
use Rattle.model.specs.Tree.{Tree, end, branch, leaf, breadth, Node, branch_node, leaf_node, below, further, nodes, node_at, New, new_node, put_at, insert_at}
use Rattle.model.specs.Calls.Insert.{kind_bad}
use Rattle.model.specs.Claims.{look, OneMore}
use Rattle.theory_rows.specs.Laws.{cond_case}

-- What a path names is a node of which P holds.
abbrev pub Names : (Node → Type 0) → Option Node → Type 0
Names P none = ⊥
Names P (some n) = P n

names_map : (P : Node → Type 0) (f : Node → Node) (o : Option Node) → Names (λ n. P (f n)) o → Names P (Option.map f o)
names_map P f none h = h
names_map P f (some n) h = h

names_unmap : (P : Node → Type 0) (f : Node → Node) (o : Option Node) → Names P (Option.map f o) → Names (λ n. P (f n)) o
names_unmap P f none h = h
names_unmap P f (some n) h = h

-- No literal, so an aggregate, with k children or more.
abbrev pub Parent : (k : ℕ) → Node → Type 0
Parent k n = (eqb n.kind 2 ≡ false) × (k ≤ n.children)

-- The node that was put in.
abbrev pub Added : New → Node → Type 0
Added x n = (look n ≡ x) × (n.children ≡ 0)

-- ── the looks of a tree's nodes ──

abbrev looks : Tree → List New
looks end = []
looks (branch h cs rest) = look (branch_node h cs) ∷ looks cs ++ looks rest
looks (leaf h c rest) = look (leaf_node h c) ∷ looks rest

looks_nodes : (t : Tree) → map look (nodes t) ≡ looks t
looks_nodes end = refl
looks_nodes (branch h cs rest) = simp (map-append, map-map, looks_nodes cs, looks_nodes rest)
looks_nodes (leaf h c rest) = simp (map-map, looks_nodes rest)

-- b is a with x put in.
record More (x : New) (a b : List New) : Type 0 where
  before : List New
  after : List New
  old : a ≡ before ++ after
  new : b ≡ before ++ x ∷ after

more_left : (x : New) (l a b : List New) → More x a b → More x (l ++ a) (l ++ b)
more_left x l a b m = record { before = l ++ m.before; after = m.after; old = rw (m.old, append_assoc); new = rw (m.new, append_assoc) }

more_right : (x : New) (r a b : List New) → More x a b → More x (a ++ r) (b ++ r)
more_right x r a b m = record { before = m.before; after = m.after ++ r; old = rw (m.old, append_assoc); new = rw (m.new, append_assoc) }

-- ── the new node ──

empty : (c : List ℕ) → length c ≡ 0 → [] ≡ c
empty [] e = refl
empty (b ∷ c) e = absurd (omega arith)

-- How the new node looks as an aggregate, or as a literal.
abbrev look_as : New → (aggregate : Bool) → New
look_as x true = record { kind = 1; head = x.head; content = [] }
look_as x false = record { kind = 2; head = x.head; content = x.content }

module _ (x : New) (ok : kind_bad x ≡ false) where
  -- An aggregate has no content, and what is no aggregate is a literal.
  new_look : look_as x (eqb x.kind 1) ≡ x
  new_look = go (eqb x.kind 1) (eqb x.kind 2) (eqb (length x.content) 0) refl refl refl ok
    where
      go : (a b c : Bool) → eqb x.kind 1 ≡ a → eqb x.kind 2 ≡ b → eqb (length x.content) 0 ≡ c → not (a || b) || (a && not c) ≡ false
          → look_as x a ≡ x
      go true b true p q r e = λ i. record { kind = sym (eqb-true x.kind 1 p) i; head = x.head; content = empty x.content (eqb-true _ _ r) i }
      go true b false p q r e = absurd (true≢false e)
      go false true c p q r e = λ i. record { kind = sym (eqb-true x.kind 2 q) i; head = x.head; content = x.content }
      go false false c p q r e = absurd (true≢false e)

  -- What holds of it as a row's first node, whichever it is.
  new_case : (P : Tree → Type 0) (t : Tree) → (look_as x true ≡ x → P (branch x.head end t)) → (look_as x false ≡ x → P (leaf x.head x.content t))
      → P (new_node x t)
  new_case P t f g = cond_case P (eqb x.kind 1) (λ e. f (rw e at new_look)) (λ e. g (rw e at new_look))

  -- ── named ──

  put_named : (k : ℕ) (t : Tree) → k ≤ breadth t → Names (Added x) (node_at k [] (put_at x k t))
  put_named zero t h = new_case (λ u. Names (Added x) (node_at 0 [] u)) t (λ e. (e, refl)) (λ e. (e, refl))
  put_named (suc k) end h = absurd (omega arith)
  put_named (suc k) (branch l cs rest) h = names_map (Added x) (further 1) (node_at k [] (put_at x k rest)) (put_named k rest (omega arith))
  put_named (suc k) (leaf l c rest) h = names_map (Added x) (further 1) (node_at k [] (put_at x k rest)) (put_named k rest (omega arith))

  pub insert_named : (k i : ℕ) (path : List ℕ) (t : Tree) → Names (Parent k) (node_at i path t)
      → Names (Added x) (node_at i (path ++ k ∷ []) (insert_at x k i path t))
  insert_named k i path end h = absurd h
  insert_named k zero [] (branch l cs rest) h = names_map (Added x) below (node_at k [] (put_at x k cs)) (put_named k cs h.1)
  insert_named k zero (j ∷ path) (branch l cs rest) h =
      names_map (Added x) below (node_at j (path ++ k ∷ []) (insert_at x k j path cs))
      (insert_named k j path cs (names_unmap (Parent k) below (node_at j path cs) h))
  insert_named k (suc i) path (branch l cs rest) h =
      names_map (Added x) (further 1) (node_at i (path ++ k ∷ []) (insert_at x k i path rest))
      (insert_named k i path rest (names_unmap (Parent k) (further 1) (node_at i path rest) h))
  insert_named k zero [] (leaf l c rest) h = absurd (true≢false h.0)
  insert_named k zero (j ∷ path) (leaf l c rest) h = absurd h
  insert_named k (suc i) path (leaf l c rest) h =
      names_map (Added x) (further 1) (node_at i (path ++ k ∷ []) (insert_at x k i path rest))
      (insert_named k i path rest (names_unmap (Parent k) (further 1) (node_at i path rest) h))

  -- ── one node more ──

  put_more : (k : ℕ) (t : Tree) → k ≤ breadth t → More x (looks t) (looks (put_at x k t))
  put_more zero t h = record {
    before = [];
    after = looks t;
    old = refl;
    new = new_case (λ u. looks u ≡ x ∷ looks t) t (λ e. ap (λ (y : New). y ∷ looks t) e) (λ e. ap (λ (y : New). y ∷ looks t) e);
  }
  put_more (suc k) end h = absurd (omega arith)
  put_more (suc k) (branch l cs rest) h = more_left x (look (branch_node l cs) ∷ looks cs) _ _ (put_more k rest (omega arith))
  put_more (suc k) (leaf l c rest) h = more_left x (look (leaf_node l c) ∷ []) _ _ (put_more k rest (omega arith))

  more_below : (l : Head) (cs new rest : Tree) → More x (looks cs) (looks new) → More x (looks (branch l cs rest)) (looks (branch l new rest))
  more_below l cs new rest m = more_left x (look (branch_node l cs) ∷ []) _ _ (more_right x (looks rest) _ _ m)

  insert_more : (k i : ℕ) (path : List ℕ) (t : Tree) → Names (Parent k) (node_at i path t) → More x (looks t) (looks (insert_at x k i path t))
  insert_more k i path end h = absurd h
  insert_more k zero [] (branch l cs rest) h = more_below l cs (put_at x k cs) rest (put_more k cs h.1)
  insert_more k zero (j ∷ path) (branch l cs rest) h =
      more_below l cs (insert_at x k j path cs) rest (insert_more k j path cs (names_unmap (Parent k) below (node_at j path cs) h))
  insert_more k (suc i) path (branch l cs rest) h =
      more_left x (look (branch_node l cs) ∷ looks cs) _ _ (insert_more k i path rest (names_unmap (Parent k) (further 1) (node_at i path rest) h))
  insert_more k zero [] (leaf l c rest) h = absurd (true≢false h.0)
  insert_more k zero (j ∷ path) (leaf l c rest) h = absurd h
  insert_more k (suc i) path (leaf l c rest) h =
      more_left x (look (leaf_node l c) ∷ []) _ _ (insert_more k i path rest (names_unmap (Parent k) (further 1) (node_at i path rest) h))

  pub one_more : (k i : ℕ) (path : List ℕ) (t : Tree) → Names (Parent k) (node_at i path t) → OneMore x (nodes t) (nodes (insert_at x k i path t))
  one_more k i path t h =
      let m = insert_more k i path t h in
      record { before = m.before; after = m.after; old = looks_nodes t ∙ m.old; new = looks_nodes (insert_at x k i path t) ∙ m.new }
