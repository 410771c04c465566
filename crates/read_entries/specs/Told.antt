-- The nodes that a walk over the root's record meets are the nodes of the tree in document order, each with its entry and its place.
use Rattle.std.specs.Prelude.{◌≡◌, refl, Bool, cond, ℕ, zero, suc, ◌+◌, ◌*◌, ◌-◌, ◌/◌, ◌%◌, ◌≤◌, ◌<◌, take, drop}
use Rattle.std.proofs.Math.Path.{sym, ap}
use Rattle.std.proofs.Common.{ap₂, subst, ◌∙◌, arith, eqb-true, eq-eqb}
use Rattle.std.proofs.Math.Bool.{true, false}
use mathlib.Core.List.{List, [], ◌∷◌, ◌++◌, map, map-append}
use Rattle.std.proofs.Math.Option.{some}
use Rattle.std.proofs.lemmas.Bool.{eqb-false}
use Rattle.std.proofs.Math.ListN.{length}
use Rattle.std.proofs.Math.Dec.{eqb}
use Rattle.model.specs.Limits.{page_size}
use Rattle.model.specs.Row.{Row, nil, agg, lit, rec, size, base, Config}
use Rattle.model.specs.Reading.{Reads}
use Rattle.model.specs.Tree.{shown, breadth, Node, below, further, nodes, same_place, is_place, place_of, from_place}
use Rattle.model.specs.Calls.Read.{read_from, as_read}
use Rattle.model.specs.Calls.Walk.{entry, entry_of, joined, entries_of}
use Rattle.model.specs.declared.Place.{Place}
use Rattle.theory_rows.specs.Laws.{breadth_shown}
use Rattle.theory_decoding.specs.Reading.{reads_valid}
use Rattle.theory_places.specs.Order.{lone_root, nodes-⊞}
use Rattle.theory_layout.specs.Items.{spots}
use Rattle.theory_layout.specs.Nodes.{All, Both, nodes_all, place_at_lem}
use Rattle.read_cursor.specs.Way.{Met}
use Rattle.read_cursor.specs.Meets.{meets}

-- The place of a position.
abbrev pub placed : ℕ → Place
placed i = record { page = i / page_size; offset = i % page_size }

-- ── two lists side by side ──

abbrev pub Each : (Node → Met → Type 0) → List Node → List Met → Type 0
Each R [] [] = Unit {0}
Each R [] (m ∷ ms) = ⊥
Each R (n ∷ ns) [] = ⊥
Each R (n ∷ ns) (m ∷ ms) = R n m × Each R ns ms

each-++ : (R : Node → Met → Type 0) (ns os : List Node) (ms ps : List Met) → Each R ns ms → Each R os ps → Each R (ns ++ os) (ms ++ ps)
each-++ R [] os [] ps a b = b
each-++ R [] os (m ∷ ms) ps a b = absurd a
each-++ R (n ∷ ns) os [] ps a b = absurd a
each-++ R (n ∷ ns) os (m ∷ ms) ps a b = (a.0, each-++ R ns os ms ps a.1 b)

each_map : (R S : Node → Met → Type 0) (f : Node → Node) → ((n : Node) (m : Met) → R n m → S (f n) m) → (ns : List Node) (ms : List Met)
    → Each R ns ms → Each S (map f ns) ms
each_map R S f h [] [] a = tt
each_map R S f h [] (m ∷ ms) a = absurd a
each_map R S f h (n ∷ ns) [] a = absurd a
each_map R S f h (n ∷ ns) (m ∷ ms) a = (h n m a.0, each_map R S f h ns ms a.1)

-- ── entries ──

-- The entry of a node of a row whose nodes have the level l.
abbrev Entry : (l : ℕ) → Node → Met → Type 0
Entry l n m = entry (l + length n.path) (placed m.pos) (as_read (placed m.pos) (read_from (n ∷ []))) ≡ m.entry

one_down : (l : ℕ) (n : Node) (m : Met) → Entry (l + 1) n m → Entry l (below n) m
one_down l n m e =
    let z : l + suc (length n.path) ≡ l + 1 + length n.path = omega arith in
    ap (λ (k : ℕ). entry k (placed m.pos) (as_read (placed m.pos) (read_from (n ∷ [])))) z ∙ e

-- The byte that a place names.
byte_of_lem : (i : ℕ) → page_size * (i / page_size) + i % page_size + 6 ≡ i + 6
byte_of_lem i = omega arith

entries : (l i : ℕ) (row : Row) → Each (Entry l) (nodes (shown row)) (meets l i row)
unfolding meets
entries l i nil = tt
entries l i (agg h cs rest) =
    let z : l + 0 ≡ l = omega arith in (
      rw (z, breadth_shown cs),
      each-++ (Entry l) (map below (nodes (shown cs))) (map (further 1) (nodes (shown rest))) (meets (l + 1) (i + 6) cs) (meets l (i + (6 + size cs)) rest)
          (each_map (Entry (l + 1)) (Entry l) below (one_down l) (nodes (shown cs)) (meets (l + 1) (i + 6) cs) (entries (l + 1) (i + 6) cs))
          (each_map (Entry l) (Entry l) (further 1) (λ n m e. e) (nodes (shown rest)) (meets l (i + (6 + size cs)) rest) (entries l (i + (6 + size cs)) rest)),
    )
entries l i (lit h c rest) =
    let z : l + 0 ≡ l = omega arith in
    let n : 6 + length c - 6 ≡ length c = omega arith in (
      rw (z, n, byte_of_lem i),
      each_map (Entry l) (Entry l) (further 1) (λ n m e. e) (nodes (shown rest)) (meets l (i + (6 + length c)) rest) (entries l (i + (6 + length c)) rest),
    )
entries l i (rec p s r rest) =
    let k = breadth (shown r) in
    rw (nodes-⊞ (shown r) (shown rest))
    (each-++ (Entry l) (nodes (shown r)) (map (further k) (nodes (shown rest))) (meets l (page_size * p + base r) r) (meets l (i + 8) rest)
    (entries l (page_size * p + base r) r)
    (each_map (Entry l) (Entry l) (further k) (λ n m e. e) (nodes (shown rest)) (meets l (i + 8) rest) (entries l (i + 8) rest)))

-- ── places ──

position : Met → ℕ
position m = m.pos

met_spots : (l i : ℕ) (row : Row) → map position (meets l i row) ≡ spots i row
unfolding meets position
met_spots l i nil = refl
met_spots l i (agg h cs rest) =
    ap (◌∷◌ i)
    (map-append position (meets (l + 1) (i + 6) cs) (meets l (i + (6 + size cs)) rest)
    ∙ ap₂ (λ (a b : List ℕ). a ++ b) (met_spots (l + 1) (i + 6) cs) (met_spots l (i + (6 + size cs)) rest))
met_spots l i (lit h c rest) = ap (◌∷◌ i) (met_spots l (i + (6 + length c)) rest)
met_spots l i (rec p s r rest) =
    map-append position (meets l (page_size * p + base r) r) (meets l (i + 8) rest)
    ∙ ap₂ (λ (a b : List ℕ). a ++ b) (met_spots l (page_size * p + base r) r) (met_spots l (i + 8) rest)

-- A node as it is met: its entry, its place, which is not the image's first byte.
pub record Tells (root : Row) (n : Node) (m : Met) : Type 0 where
  pub entry_is : entry_of (place_of root) n ≡ m.entry
  pub place_is : place_of root n.path ≡ some (placed m.pos)
  pub nine : length m.entry ≡ 9
  pub some : 1 ≤ m.pos

module _ (img : List ℕ) (st : Config) (root : Row) (r : Reads img st root) where
  both : (ns : List Node) (ms : List Met) → Each (Entry 1) ns ms → All (Both img root) ns (map position ms) → Each (Tells root) ns ms
  unfolding position
  both [] [] a b = tt
  both [] (m ∷ ms) a b = absurd a
  both (n ∷ ns) [] a b = absurd a
  both (n ∷ ns) (m ∷ ms) a b =
      let p = place_at_lem img st root r n m.pos b.0.1 in
      let q = b.0.0 in (
        record {
          entry_is = rw p a.0;
          place_is = p;
          nine = sym (ap length a.0);
          some = omega (arith, q.here.start, q.here.on.low);
        },
        both ns ms a.1 b.1,
      )

  -- All nodes of the tree.
  pub tells_all : Each (Tells root) (nodes (shown root)) (meets 1 page_size root)
  tells_all =
      let z : page_size + base root ≡ page_size = omega (arith, root_base) in
      both (nodes (shown root)) (meets 1 page_size root) (entries 1 page_size root)
      (subst (All (Both img root) (nodes (shown root))) (ap (λ (n : ℕ). spots n root) z ∙ sym (met_spots 1 page_size root)) (nodes_all img st root r))
    where
      root_base : base root ≡ 0
      root_base = rw (lone_root st root (reads_valid img st root r))

-- ── from a place on ──

unfoldable pub from_pos : (target : ℕ) → List Met → List Met
from_pos t [] = []
from_pos t (m ∷ ms) = cond (eqb m.pos t) (m ∷ ms) (from_pos t ms)

same_spot : (x : Place) (t i : ℕ) → t ≡ page_size * x.page + x.offset → x.offset < page_size → same_place x (placed i) ≡ eqb i t
same_spot x t i e h = go (eqb i t) refl
  where
    go : (b : Bool) → eqb i t ≡ b → same_place x (placed i) ≡ b
    go true q =
        let z = eqb-true i t q in
        rw (eq-eqb x.page (i / page_size) (omega arith), eq-eqb x.offset (i % page_size) (omega arith))
    go false q = off (eqb x.page (i / page_size)) (eqb x.offset (i % page_size)) refl refl
      where
        off : (a b : Bool) → eqb x.page (i / page_size) ≡ a → eqb x.offset (i % page_size) ≡ b → cond a b false ≡ false
        off true true p o =
            let a = eqb-true x.page (i / page_size) p in
            let b = eqb-true x.offset (i % page_size) o in
            absurd (eqb-false i t q (omega arith))
        off true false p o = refl
        off false b p o = refl

module _ (root : Row) (x : Place) (t : ℕ) (e : t ≡ page_size * x.page + x.offset) (h : x.offset < page_size) where
  pub tells_from : (ns : List Node) (ms : List Met) → Each (Tells root) ns ms → Each (Tells root) (from_place (place_of root) x ns) (from_pos t ms)
  unfolding from_place from_pos
  tells_from [] [] a = tt
  tells_from [] (m ∷ ms) a = absurd a
  tells_from (n ∷ ns) [] a = absurd a
  tells_from (n ∷ ns) (m ∷ ms) a =
      let q : is_place x (place_of root n.path) ≡ eqb m.pos t = ap (is_place x) a.0.place_is ∙ same_spot x t m.pos e h in
      rw q (go (eqb m.pos t) (tells_from ns ms a.1))
    where
      go : (b : Bool) → Each (Tells root) (from_place (place_of root) x ns) (from_pos t ms)
          → Each (Tells root) (cond b (n ∷ ns) (from_place (place_of root) x ns)) (cond b (m ∷ ms) (from_pos t ms))
      go true r = a
      go false r = r

-- ── parts of them ──

module _ (R : Node → Met → Type 0) where
  pub each_take : (k : ℕ) (ns : List Node) (ms : List Met) → Each R ns ms → Each R (take k ns) (take k ms)
  each_take zero ns ms a = tt
  each_take (suc k) [] [] a = tt
  each_take (suc k) [] (m ∷ ms) a = absurd a
  each_take (suc k) (n ∷ ns) [] a = absurd a
  each_take (suc k) (n ∷ ns) (m ∷ ms) a = (a.0, each_take k ns ms a.1)

  pub each_drop : (k : ℕ) (ns : List Node) (ms : List Met) → Each R ns ms → Each R (drop k ns) (drop k ms)
  each_drop zero ns ms a = a
  each_drop (suc k) [] [] a = tt
  each_drop (suc k) [] (m ∷ ms) a = absurd a
  each_drop (suc k) (n ∷ ns) [] a = absurd a
  each_drop (suc k) (n ∷ ns) (m ∷ ms) a = each_drop k ns ms a.1

  pub each_length : (ns : List Node) (ms : List Met) → Each R ns ms → length ns ≡ length ms
  each_length [] [] a = refl
  each_length [] (m ∷ ms) a = absurd a
  each_length (n ∷ ns) [] a = absurd a
  each_length (n ∷ ns) (m ∷ ms) a = ap suc (each_length ns ms a.1)

pub entries_of_lem : (root : Row) (ns : List Node) (ms : List Met) → Each (Tells root) ns ms
    → entries_of (place_of root) ns ≡ joined (map (λ (m : Met). m.entry) ms)
entries_of_lem root [] [] a = refl
entries_of_lem root [] (m ∷ ms) a = absurd a
entries_of_lem root (n ∷ ns) [] a = absurd a
entries_of_lem root (n ∷ ns) (m ∷ ms) a = ap₂ (λ (e es : List ℕ). e ++ es) a.0.entry_is (entries_of_lem root ns ms a.1)
