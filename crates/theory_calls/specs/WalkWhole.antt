-- A walk from the root, with room for all: the whole tree, each node as Find and Read give it.
use Rattle.std.specs.Prelude.{◌≡◌, refl, true, List, [], ◌∷◌, ◌++◌, map, ℕ, ◌+◌, ◌*◌, ◌/◌, ◌%◌, ◌≤◌, ◌<◌, length, drop}
use Rattle.std.proofs.Common.{ap₂, arith, drop_of_length-le, take_all}
use Rattle.std.proofs.lemmas.Bool.{false≢true}
use mathlib.Core.List.Memᴰ
use Rattle.std.proofs.Math.Option.{Option, none, some, none-ne-some}
use Rattle.model.specs.Row.{Row, nil, agg, lit, rec, is_agg, Config}
use Rattle.model.specs.Tree.{Tree, end, branch, leaf, shown, Node, below, further, nodes, place_of, place_at, from_place}
use Rattle.model.specs.Reading.{Reads}
use Rattle.model.specs.Answers.{no_place}
use Rattle.model.specs.Common.{path_bytes, entries, Opened, refused, holds, opened, on_store, tree_on}
use Rattle.model.specs.Calls.Check.{check_of}
use Rattle.model.specs.Calls.Read.{read_in, read_of}
use Rattle.model.specs.Calls.Walk.{entry_of, joined, entries_of, walk_from, walk_in, walk_of}
use Rattle.model.specs.Claims.{entry_by, WalkWhole}
use Rattle.model.specs.declared.Place.{Place}
use Rattle.model.specs.Answers.{WalkAnswer}
use Rattle.theory_rows.specs.Population.{tree_population, population_shown}
use Rattle.theory_decoding.specs.Steps.{few_nodes}
use Rattle.theory_decoding.specs.Reading.{reads_valid}
use Rattle.theory_places.specs.Member.{Mem, Each, each-++, each_map, each_of}
use Rattle.theory_places.specs.Order.{one_root}
use Rattle.theory_places.specs.Named.{in_tree, in_place}
use Rattle.theory_places.specs.From.{from_found}
use Rattle.theory_calls.specs.Open.{opens, passing}
use Rattle.theory_calls.specs.Paths.{Spelled, entries_more}
use Rattle.theory_calls.specs.Matches.{finds, image_matches}
use Rattle.theory_calls.specs.WalkSteps.{length_entries}

-- ── a path's bytes give the path back ──

-- Four bytes hold each number of the path.
abbrev Small : List ℕ → Type 0
Small [] = Unit {0}
Small (k ∷ p) = (k < 4294967296) × Small p

-- What `entries_more` says of a path of one entry.
four_sum : (k : ℕ) → k < 4294967296 → k % 256 + 256 * (k / 256 % 256) + 65536 * (k / 65536 % 256) + 16777216 * (k / 16777216 % 256) ≡ k
four_sum k h = cc (entries_more [] [] k h refl)

entries_small : (p : List ℕ) → Small p → entries (path_bytes p) ≡ some p
entries_small [] s = refl
entries_small (k ∷ p) s = rw (entries_small p s.1, four_sum k s.0)

length_path : (p : List ℕ) → 4 * length p ≡ length (path_bytes p)
length_path [] = refl
length_path (k ∷ p) = omega (arith, length_path p)

-- A number in a row is below the number of its nodes with all under them, and so is each number of a path.
abbrev SmallIn : ℕ → Node → Type 0
SmallIn most n = (n.number < most) × Small n.path

small_in : (t : Tree) → tree_population t ≤ 4294967296 → Each (SmallIn (tree_population t)) (nodes t)
small_in end few = tt
small_in (branch h cs rest) few =
    let P = SmallIn (tree_population (branch h cs rest)) in
    let under = each_map (SmallIn (tree_population cs)) P below (nodes cs) (λ n s. (omega arith, (omega arith, s.1))) (small_in cs (omega arith)) in
    let after = each_map (SmallIn (tree_population rest)) P (further 1) (nodes rest) (λ n s. (omega arith, s.1)) (small_in rest (omega arith)) in
    ((omega arith, tt), each-++ P (map below (nodes cs)) (map (further 1) (nodes rest)) under after)
small_in (leaf h c rest) few =
    let P = SmallIn (tree_population (leaf h c rest)) in
    ((omega arith, tt), each_map (SmallIn (tree_population rest)) P (further 1) (nodes rest) (λ n s. (omega arith, s.1)) (small_in rest (omega arith)))

-- ── room for all ──

-- What a walk answers that tells all nodes: so many, and none left.
abbrev told_all : ℕ → List ℕ → (buffer : List ℕ) → WalkAnswer × List ℕ
told_all k all buffer = (record { number = 0; written = k; more = 0; next = no_place }, all ++ drop (length all) buffer)

walk_all : (place : List ℕ → Option Place) (n : Node) (ns : List Node) (buffer : List ℕ) → length (entries_of place (n ∷ ns)) ≤ length buffer
    → walk_from place (n ∷ ns) buffer ≡ told_all (length (n ∷ ns)) (entries_of place (n ∷ ns)) buffer
walk_all place n ns buffer room =
    let h : length (n ∷ ns) ≤ length buffer / 9 = omega (arith, length_entries place (n ∷ ns)) in
    rw (take_all (length buffer / 9) (n ∷ ns) h, drop_of_length-le (n ∷ ns) h)

-- ── from the root ──

abbrev start : Place
start = record { page = 1; offset = 0 }

-- The root is an aggregate, the first node, and stands at the first byte of page 1.
walk_root : (root : Row) (buffer : List ℕ) → is_agg root ≡ true → length (entries_of (place_of root) (nodes (shown root))) ≤ length buffer
    → walk_in (shown root) (place_of root) start buffer
    ≡ told_all (length (nodes (shown root))) (entries_of (place_of root) (nodes (shown root))) buffer
unfolding walk_in from_place place_at
walk_root nil buffer top room = absurd (false≢true top)
walk_root (agg h cs rest) buffer top room = walk_all (place_of (agg h cs rest)) _ _ buffer room
walk_root (lit h c rest) buffer top room = absurd (false≢true top)
walk_root (rec p s r rest) buffer top room = absurd (false≢true top)

-- ── Find and Read ──

module _ (img : List ℕ) (st : Config) (root : Row) (r : Reads img st root) where
  -- A node's entry is what Find and Read give.
  one_entry : (n : Node) → Mem n (nodes (shown root)) → entry_by img n ≡ entry_of (place_of root) n
  unfolding read_of read_in
  one_entry n m =
      let v = reads_valid img st root r in
      let few : tree_population (shown root) ≤ 4294967296 = omega (arith, few_nodes st root v, population_shown root, v.ranges.many) in
      let small = each_of (SmallIn (tree_population (shown root))) n (nodes (shown root)) (small_in (shown root) few) m in
      let path = path_bytes n.path in
      let spells : Spelled path n.path = record { back = refl; long = length_path n.path } in
      let names = in_tree (shown root) n (one_root st root v) m in
      let f = finds img st root r path path n.path n (entries_small n.path small.1) spells names (omega arith) in
      let p = in_place st root v n m in
      rw (f, p.1, opens img st root r, (from_found st root v p.0 n m p.1).1)

  all_entries : (ns : List Node) → ((n : Node) → Mem n ns → Mem n (nodes (shown root))) → joined (map (entry_by img) ns) ≡ entries_of (place_of root) ns
  all_entries [] m = refl
  all_entries (n ∷ ns) m = ap₂ ◌++◌ (one_entry n (m n (Memᴰ.head refl))) (all_entries ns (λ o i. m o (Memᴰ.tail i)))

  whole : (buffer : List ℕ)
      → let all = joined (map (entry_by img) (nodes (shown root))) in
      length all ≤ length buffer → walk_of img start buffer ≡ told_all (length (nodes (shown root))) all buffer
  unfolding walk_of
  whole buffer room =
      let e = all_entries (nodes (shown root)) (λ n m. m) in
      rw (opens img st root r, e) (walk_root root buffer (reads_valid img st root r).top (rw e at room))

-- ── any image that passes ──

-- An image that shows a tree passes.
shows_passes : (img : List ℕ) (t : Tree) → tree_on img ≡ some t → check_of img ≡ 0
unfolding check_of
shows_passes img t e = go (opened img) e
  where
    go : (o : Opened) → on_store o (λ n. none) (λ st root. some (shown root)) ≡ some t → on_store o (λ n. n) (λ st root. 0) ≡ 0
    go (refused n) e = absurd (none-ne-some t e)
    go (holds st root) e = refl

pub walk_whole : WalkWhole
walk_whole img t buffer e =
    let p = passing img (shows_passes img t e) in
    let root = p.0.1 in
    let s : shown root ≡ t = cc (image_matches img p.0.0 root p.1).shows in
    rw (← s) (whole img p.0.0 root p.1 buffer)
