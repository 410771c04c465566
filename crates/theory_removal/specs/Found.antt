-- A node that the tree shows stands in the records.
use Rattle.std.specs.Prelude.{◌≡◌, refl, ◌&&◌, List, [], ◌∷◌, ℕ, zero, suc, ◌-◌, ◌<◌, ltb}
use Rattle.std.proofs.Common.{sym, ap, ◌∙◌, arith}
use Rattle.std.proofs.Math.Option.{Option, some, map, none-ne-some}
use Rattle.model.specs.Row.{Row, nil, agg, lit, rec, lone}
use Rattle.model.specs.Tree.{Tree, end, branch, leaf, shown, width, breadth, Node, below as lower, further, node_at, named}
use Rattle.model.specs.Spot.{Position, here, past, into, Chain, top, below, Stand, is_empty, stand_in, stand_of}
use Rattle.theory_rows.specs.Laws.{cond_case, breadth_shown}
use Rattle.theory_places.specs.Order.{node_within, node_beyond}
use Rattle.theory_places.specs.Named.{unmap}

abbrev pub HasStand : Option Stand → Type 0
HasStand o = (t : Stand) × (o ≡ some t)

in_found : (c : Chain) (s : Position) (i : ℕ) (path : List ℕ) (row : Row) (n : Node) → node_at i path (shown row) ≡ some n → HasStand (stand_in c s i path row)
unfolding stand_in
in_found c s i path nil n e = absurd (none-ne-some n e)
in_found c s zero [] (agg h cs rest) n e = (_, refl)
in_found c s zero (j ∷ path) (agg h cs rest) n e =
    let (m, g, f) = unmap lower (node_at j path (shown cs)) n e in
    in_found c (into s h rest) j path cs m g
in_found c s (suc i) path (agg h cs rest) n e =
    let (m, g, f) = unmap (further 1) (node_at i path (shown rest)) n e in
    in_found c (past s (agg h cs nil)) i path rest m g
in_found c s zero [] (lit h x rest) n e = (_, refl)
in_found c s zero (j ∷ path) (lit h x rest) n e = absurd (none-ne-some n e)
in_found c s (suc i) path (lit h x rest) n e =
    let (m, g, f) = unmap (further 1) (node_at i path (shown rest)) n e in
    in_found c (past s (lit h x nil)) i path rest m g
in_found c s i path (rec q b r rest) n e =
    cond_case HasStand (ltb i (width r))
    (λ t. cond_case HasStand (lone r && is_empty path) (λ _. (_, refl)) (λ _. in_found (below c s q b rest) (here nil) i path r n
    (sym (node_within i path r rest t) ∙ e)))
    (λ t.
    let (m, g, f) = unmap (further (width r)) (node_at (i - width r) path (shown rest)) n (sym (node_beyond i path r rest t) ∙ e) in
    in_found c (past s (rec q b r nil)) (i - width r) path rest m g)

pub stand_found : (root : Row) (path : List ℕ) (n : Node) → named (shown root) path ≡ some n → HasStand (stand_of root path)
stand_found root path n e = in_found top (here nil) 0 path root n e

-- A node of the row by its number alone.
node_found : (i : ℕ) (t : Tree) → i < breadth t → (n : Node) × (node_at i [] t ≡ some n)
node_found i end h = absurd (omega arith)
node_found zero (branch l cs rest) h = (_, refl)
node_found (suc i) (branch l cs rest) h = let (n, e) = node_found i rest (omega arith) in (_, ap (map (further 1)) e)
node_found zero (leaf l c rest) h = (_, refl)
node_found (suc i) (leaf l c rest) h = let (n, e) = node_found i rest (omega arith) in (_, ap (map (further 1)) e)

pub row_found : (c : Chain) (s : Position) (i : ℕ) (row : Row) → i < width row → HasStand (stand_in c s i [] row)
row_found c s i row h = let (n, e) = node_found i (shown row) (rw (breadth_shown row) h) in in_found c s i [] row n e
