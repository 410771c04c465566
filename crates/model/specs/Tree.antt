-- The plain tree, the tree that a row shows, document order, and the places of its nodes.
use Rattle.std.specs.Prelude.{Bool, false, cond, List, [], ◌∷◌, ◌++◌, map, ℕ, zero, suc, ◌+◌, ◌-◌, length, ltb, eqb}
use Rattle.std.proofs.Math.Option
use Rattle.std.proofs.Math.Option.{Option, none, some}
use Rattle.model.specs.Row.{Head, Row, nil, agg, lit, rec, size, base}
use Rattle.model.specs.declared.Place.{Place}

-- A row of nodes of the plain tree: the first node, an aggregate with its children or a literal with its content, and the nodes after it.
-- A tree is the row of its root alone.
pub data Tree : Type 0 where
  end : Tree
  branch : (head : Head) → (children rest : Tree) → Tree
  leaf : (head : Head) → (content : List ℕ) → (rest : Tree) → Tree

infixr 66 ◌⊞◌
abbrev pub ◌⊞◌ : Tree → Tree → Tree
end ⊞ b = b
branch h cs rest ⊞ b = branch h cs (rest ⊞ b)
leaf h c rest ⊞ b = leaf h c (rest ⊞ b)

-- The tree shown: a proxy stands for what its record holds.
abbrev pub shown : Row → Tree
shown nil = end
shown (agg h cs rest) = branch h (shown cs) (shown rest)
shown (lit h c rest) = leaf h c (shown rest)
shown (rec p s r rest) = shown r ⊞ shown rest

-- The number of nodes of a row, not counting those below them.
abbrev pub breadth : Tree → ℕ
breadth end = 0
breadth (branch h cs rest) = suc (breadth rest)
breadth (leaf h c rest) = suc (breadth rest)

-- The same of what a row shows.
abbrev pub width : Row → ℕ
width nil = 0
width (agg h cs rest) = suc (width rest)
width (lit h c rest) = suc (width rest)
width (rec p s r rest) = width r + width rest

-- ── document order ──

-- A node as a call sees it. Its path in a row is its number there, or that of the node above it, and the child numbers from there on;
-- the root, alone in its row, has number 0, and `path` is then its path in the tree.
pub record Node : Type 0 where
  pub number : ℕ
  pub path : List ℕ
  pub kind : ℕ
  pub head : Head
  pub content : List ℕ
  pub children : ℕ

abbrev pub branch_node : Head → Tree → Node
branch_node h cs = record { number = 0; path = []; kind = 1; head = h; content = []; children = breadth cs }

abbrev pub leaf_node : Head → List ℕ → Node
leaf_node h c = record { number = 0; path = []; kind = 2; head = h; content = c; children = 0 }

-- The same node from the row above, and from a row with k nodes more in front.
abbrev pub below : Node → Node
below n = record { number = 0; path = n.number ∷ n.path; kind = n.kind; head = n.head; content = n.content; children = n.children }

abbrev pub further : ℕ → Node → Node
further k n = record { number = k + n.number; path = n.path; kind = n.kind; head = n.head; content = n.content; children = n.children }

-- Document order: a node, then its children in order, each with all under it.
abbrev pub nodes : Tree → List Node
nodes end = []
nodes (branch h cs rest) = branch_node h cs ∷ map below (nodes cs) ++ map (further 1) (nodes rest)
nodes (leaf h c rest) = leaf_node h c ∷ map (further 1) (nodes rest)

-- The node that a path names: from node i of the row.
abbrev pub node_at : (i : ℕ) → (path : List ℕ) → Tree → Option Node
node_at i path end = none
node_at zero [] (branch h cs rest) = some (branch_node h cs)
node_at zero (j ∷ path) (branch h cs rest) = Option.map below (node_at j path cs)
node_at (suc i) path (branch h cs rest) = Option.map (further 1) (node_at i path rest)
node_at zero [] (leaf h c rest) = some (leaf_node h c)
node_at zero (j ∷ path) (leaf h c rest) = none
node_at (suc i) path (leaf h c rest) = Option.map (further 1) (node_at i path rest)

-- The node that a path names in a tree.
abbrev pub named : Tree → List ℕ → Option Node
named t path = node_at 0 path t

-- ── the plain tree's insert ──

-- What is put in: kind 1 or 2, header, content.
pub record New : Type 0 where
  pub kind : ℕ
  pub head : Head
  pub content : List ℕ

-- The new node, without children, in front of a row.
abbrev pub new_node : New → Tree → Tree
new_node x t = cond (eqb x.kind 1) (branch x.head end t) (leaf x.head x.content t)

-- The new node as number k of a row; those from there on move up by one.
abbrev pub put_at : New → ℕ → Tree → Tree
put_at x zero t = new_node x t
put_at x (suc k) end = end
put_at x (suc k) (branch h cs rest) = branch h cs (put_at x k rest)
put_at x (suc k) (leaf h c rest) = leaf h c (put_at x k rest)

-- The new node as child k of the node that the path names from node i of the row.
abbrev pub insert_at : New → (k i : ℕ) → (path : List ℕ) → Tree → Tree
insert_at x k i path end = end
insert_at x k zero [] (branch h cs rest) = branch h (put_at x k cs) rest
insert_at x k zero (j ∷ path) (branch h cs rest) = branch h (insert_at x k j path cs) rest
insert_at x k (suc i) path (branch h cs rest) = branch h cs (insert_at x k i path rest)
insert_at x k zero path (leaf h c rest) = leaf h c rest
insert_at x k (suc i) path (leaf h c rest) = leaf h c (insert_at x k i path rest)

-- ── the plain tree's removal ──

-- The node that the path names from node i of the row is gone with all under it; later ones move down by one.
abbrev pub remove_at : (i : ℕ) → (path : List ℕ) → Tree → Tree
remove_at i path end = end
remove_at zero [] (branch h cs rest) = rest
remove_at zero (j ∷ path) (branch h cs rest) = branch h (remove_at j path cs) rest
remove_at (suc i) path (branch h cs rest) = branch h cs (remove_at i path rest)
remove_at zero [] (leaf h c rest) = rest
remove_at zero (j ∷ path) (leaf h c rest) = leaf h c rest
remove_at (suc i) path (leaf h c rest) = leaf h c (remove_at i path rest)

-- ── places ──

abbrev pub same_place : Place → Place → Bool
same_place x y = cond (eqb x.page y.page) (eqb x.offset y.offset) false

-- The places of the nodes that a row shows, in document order; the row starts at byte `at` of the record of `page`.
abbrev pub places : (page at : ℕ) → Row → List Place
places page at nil = []
places page at (agg h cs rest) = record { page = page; offset = at } ∷ places page (at + 6) cs ++ places page (at + 6 + size cs) rest
places page at (lit h c rest) = record { page = page; offset = at } ∷ places page (at + 6 + length c) rest
places page at (rec p s r rest) = places p (base r) r ++ places page (at + 8) rest

-- The place of the node that the path names from node i of the row.
unfoldable pub place_at : (page at i : ℕ) → (path : List ℕ) → Row → Option Place
place_at page at i path nil = none
place_at page at zero [] (agg h cs rest) = some (record { page = page; offset = at })
place_at page at zero (j ∷ path) (agg h cs rest) = place_at page (at + 6) j path cs
place_at page at (suc i) path (agg h cs rest) = place_at page (at + 6 + size cs) i path rest
place_at page at zero [] (lit h c rest) = some (record { page = page; offset = at })
place_at page at zero (j ∷ path) (lit h c rest) = none
place_at page at (suc i) path (lit h c rest) = place_at page (at + 6 + length c) i path rest
place_at page at i path (rec p s r rest) =
    let within = place_at p (base r) i path r in
    let beyond = place_at page (at + 8) (i - width r) path rest in
    cond (ltb i (width r)) within beyond

-- The place of the node that a path names in the tree that a root record shows.
abbrev pub place_of : Row → (path : List ℕ) → Option Place
place_of root path = place_at 1 0 0 path root

abbrev pub is_place : Place → Option Place → Bool
is_place x none = false
is_place x (some y) = same_place x y

-- Some nodes in document order, from the first on that stands at x; `place` gives the place of a path. None if no node has the place.
unfoldable pub from_place : (place : List ℕ → Option Place) → (x : Place) → List Node → List Node
from_place place x [] = []
from_place place x (n ∷ ns) = cond (is_place x (place n.path)) (n ∷ ns) (from_place place x ns)
