-- Chains of records and positions in them, where a node stands, and step 1 of growth: where the new node goes.
use Rattle.std.specs.Prelude.{Bool, true, false, cond, ◌&&◌, List, [], ◌∷◌, ℕ, zero, suc, ◌-◌, ltb}
use Rattle.std.proofs.Math.Option.{Option, none, some}
use Rattle.model.specs.Limits.{capacity}
use Rattle.model.specs.Row.{Head, Row, nil, agg, lit, rec, ◌⊹◌, lone, record_size}
use Rattle.model.specs.Tree.{width}

-- ── in one record ──

-- A position in a row: behind some nodes, or in an aggregate that stands behind some nodes and has `rest` behind it.
pub data Position : Type 0 where
  here : (left : Row) → Position
  inside : (left : Row) → (h : Head) → (rest : Row) → (s : Position) → Position

-- The row that has x at the position: x is all that follows there, up to the end of the row or of the innermost aggregate.
abbrev pub fill : Position → Row → Row
fill (here left) x = left ⊹ x
fill (inside left h rest s) x = left ⊹ agg h (fill s x) rest

-- The position behind one more row of nodes.
abbrev pub past : Position → (more : Row) → Position
past (here left) more = here (left ⊹ more)
past (inside left h rest s) more = inside left h rest (past s more)

-- The position in front of the children of an aggregate that stands at the position.
abbrev pub into : Position → Head → (rest : Row) → Position
into (here left) h rest = inside left h rest (here nil)
into (inside left g right s) h rest = inside left g right (into s h rest)

-- ── from the root record down to one record ──

-- The records from the root record down to one: the proxy to the record on `page` stands at a position of the record above, in front of `rest`.
pub data Chain : Type 0 where
  top : Chain
  below : Chain → (s : Position) → (page : ℕ) → (settled : Bool) → (rest : Row) → Chain

-- The page of the last record.
abbrev pub last_page : Chain → ℕ
last_page top = 1
last_page (below c s q b rest) = q

-- The page whose record holds the proxy to the last record; 0 for the root record.
abbrev pub last_holder : Chain → ℕ
last_holder top = 0
last_holder (below c s q b rest) = last_page c

-- The root record, if the last record holds `row`.
abbrev pub whole : Chain → (row : Row) → Row
whole top row = row
whole (below c s q b rest) row = whole c (fill s (rec q b row rest))

-- ── where a node stands ──

-- The node, or its proxy if the node is a record's root, alone in its row; the records down to the one that holds it, the position there, and the row that
-- follows it.
pub record Stand : Type 0 where
  pub chain : Chain
  pub position : Position
  pub node : Row
  pub rest : Row

abbrev pub stand_at : Chain → Position → (node rest : Row) → Option Stand
stand_at c s node rest = some (record { chain = c; position = s; node = node; rest = rest })

abbrev pub is_empty : List ℕ → Bool
is_empty [] = true
is_empty (j ∷ path) = false

-- The node that the path names from node i of a row; the row goes on at position s of the last record of c.
unfoldable pub stand_in : Chain → Position → (i : ℕ) → (path : List ℕ) → Row → Option Stand
stand_in c s i path nil = none
stand_in c s zero [] (agg h cs rest) = stand_at c s (agg h cs nil) rest
stand_in c s zero (j ∷ path) (agg h cs rest) = stand_in c (into s h rest) j path cs
stand_in c s (suc i) path (agg h cs rest) = stand_in c (past s (agg h cs nil)) i path rest
stand_in c s zero [] (lit h x rest) = stand_at c s (lit h x nil) rest
stand_in c s zero (j ∷ path) (lit h x rest) = none
stand_in c s (suc i) path (lit h x rest) = stand_in c (past s (lit h x nil)) i path rest
stand_in c s i path (rec q b r rest) =
    let itself = stand_at c s (rec q b r nil) rest in
    let within = stand_in (below c s q b rest) (here nil) i path r in
    let beyond = stand_in c (past s (rec q b r nil)) (i - width r) path rest in
    cond (ltb i (width r)) (cond (lone r && is_empty path) itself within) beyond

-- In the tree that a root record shows.
abbrev pub stand_of : (root : Row) → (path : List ℕ) → Option Stand
stand_of root path = stand_in top (here nil) 0 path root

-- ── the spot (step 1) ──

-- Where a new node goes: the records down to the one that takes it, the position in that record, the row that follows it there, and the header of the logical
-- parent.
pub record Spot : Type 0 where
  pub chain : Chain
  pub position : Position
  pub rest : Row
  pub parent : Head

-- Directly after a sibling, or after its proxy if the sibling is a record's root,
abbrev pub spot_after : (parent : Head) → Stand → Spot
spot_after parent n = record { chain = n.chain; position = past n.position n.node; rest = n.rest; parent = parent }

-- and directly before it, or before its proxy.
abbrev pub spot_before : (parent : Head) → Stand → Spot
spot_before parent n = record { chain = n.chain; position = n.position; rest = n.node ⊹ n.rest; parent = parent }

-- The unused bytes of the record that would take the node: 4,080 less the length used, before the insert.
abbrev pub unused : Spot → ℕ
unused t = capacity - record_size (fill t.position t.rest)

-- The spot with more bytes unused wins, equal goes left.
abbrev pub emptier : (left right : Spot) → Spot
emptier l r = cond (ltb (unused l) (unused r)) r l

-- Child i + 1: with siblings on both sides the two spots are compared, with a left one alone that one decides; none if there is no left sibling, since
-- then there is no such gap.
abbrev pub spot_beside : (parent : Head) → (left right : Option Stand) → Option Spot
spot_beside parent none right = none
spot_beside parent (some l) none = some (spot_after parent l)
spot_beside parent (some l) (some r) = some (emptier (spot_after parent l) (spot_before parent r))

-- Child 0: the right sibling decides; with none it goes into the parent's own record, at `own`.
abbrev pub spot_first : (own : Spot) → (right : Option Stand) → Spot
spot_first own none = own
spot_first own (some r) = spot_before own.parent r

-- Child k among the children `row`, which go on at position s of the last record of c.
abbrev pub spot_child : (parent : Head) → Chain → Position → (k : ℕ) → Row → Option Spot
spot_child parent c s zero row = some (spot_first (record { chain = c; position = s; rest = row; parent = parent }) (stand_in c s 0 [] row))
spot_child parent c s (suc i) row = spot_beside parent (stand_in c s i [] row) (stand_in c s (suc i) [] row)

-- Child k of the aggregate that the path names from node i of a row.
unfoldable pub spot_in : (k : ℕ) → Chain → Position → (i : ℕ) → (path : List ℕ) → Row → Option Spot
spot_in k c s i path nil = none
spot_in k c s zero [] (agg h cs rest) = spot_child h c (into s h rest) k cs
spot_in k c s zero (j ∷ path) (agg h cs rest) = spot_in k c (into s h rest) j path cs
spot_in k c s (suc i) path (agg h cs rest) = spot_in k c (past s (agg h cs nil)) i path rest
spot_in k c s zero path (lit h x rest) = none
spot_in k c s (suc i) path (lit h x rest) = spot_in k c (past s (lit h x nil)) i path rest
spot_in k c s i path (rec q b r rest) =
    let within = spot_in k (below c s q b rest) (here nil) i path r in
    let beyond = spot_in k c (past s (rec q b r nil)) (i - width r) path rest in
    cond (ltb i (width r)) within beyond

-- The spot of child k of the aggregate that the path names in the tree that a root record shows; none if the tree has no such gap.
abbrev pub spot_of : (root : Row) → (path : List ℕ) → (k : ℕ) → Option Spot
spot_of root path k = spot_in k top (here nil) 0 path root
