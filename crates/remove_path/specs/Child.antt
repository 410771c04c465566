-- The child of a node, by the node's path and the child's number.
use Rattle.std.specs.Prelude.{◌≡◌, refl, Bool, true, not, ◌&&◌, List, [], ◌∷◌, ◌++◌, ℕ, zero, suc, ◌-◌, ◌%◌, ◌≤◌, length, take, drop, ltb, eqb}
use Rattle.std.proofs.Common.{sym, ap, ◌∙◌, true≢false, arith, length-take, length-drop, take-append-drop, lt-ltb, le-ltb}
use Rattle.std.proofs.Math.Option.{Option, none, some, map, some-injective, none-ne-some}
use Rattle.std.proofs.Math.Dec.{leb-suc-suc}
use Rattle.model.specs.Tree.{Tree, end, branch, leaf, breadth, Node, branch_node, leaf_node, below, further, node_at}
use Rattle.model.specs.Common.{entries, is_none}
use Rattle.theory_places.specs.Named.{unmap}
use Rattle.theory_calls.specs.Paths.{entries_last}
use Rattle.read_find.specs.Entries.{four_at, whole, read_four}

none_map : (f : Node → Node) (o : Option Node) → is_none (map f o) ≡ is_none o
none_map f none = refl
none_map f (some n) = refl

-- A row has a node of each number below its breadth.
numbered : (k : ℕ) (t : Tree) → is_none (node_at k [] t) ≡ not (ltb k (breadth t))
numbered k end = sym (ap not (le-ltb k 0 (omega arith)))
numbered zero (branch h cs rest) = sym (ap not (lt-ltb 0 (suc (breadth rest)) (omega arith)))
numbered (suc k) (branch h cs rest) = none_map (further 1) (node_at k [] rest) ∙ numbered k rest ∙ ap not (sym (leb-suc-suc (suc k) (breadth rest)))
numbered zero (leaf h c rest) = sym (ap not (lt-ltb 0 (suc (breadth rest)) (omega arith)))
numbered (suc k) (leaf h c rest) = none_map (further 1) (node_at k [] rest) ∙ numbered k rest ∙ ap not (sym (leb-suc-suc (suc k) (breadth rest)))

-- A node that is no literal has the children that it counts, and a literal has none.
abbrev pub has_child : (k : ℕ) → Node → Bool
has_child k n = not (eqb n.kind 2) && ltb k n.children

pub child_named : (i : ℕ) (path : List ℕ) (k : ℕ) (t : Tree) (n : Node) → node_at i path t ≡ some n → is_none (node_at i (path ++ k ∷ []) t) ≡ not (has_child k n)
child_named i path k end n e = absurd (none-ne-some n e)
child_named zero [] k (branch h cs rest) n e =
    none_map below (node_at k [] cs) ∙ numbered k cs ∙ ap (λ (n : Node). not (has_child k n)) (some-injective (branch_node h cs) n e)
child_named zero (j ∷ path) k (branch h cs rest) n e =
    let (m, g, f) = unmap below (node_at j path cs) n e in
    none_map below (node_at j (path ++ k ∷ []) cs) ∙ child_named j path k cs m g ∙ ap (λ (n : Node). not (has_child k n)) f
child_named (suc i) path k (branch h cs rest) n e =
    let (m, g, f) = unmap (further 1) (node_at i path rest) n e in
    none_map (further 1) (node_at i (path ++ k ∷ []) rest) ∙ child_named i path k rest m g ∙ ap (λ (n : Node). not (has_child k n)) f
child_named zero [] k (leaf h c rest) n e = ap (λ (n : Node). not (has_child k n)) (some-injective (leaf_node h c) n e)
child_named zero (j ∷ path) k (leaf h c rest) n e = absurd (none-ne-some n e)
child_named (suc i) path k (leaf h c rest) n e =
    let (m, g, f) = unmap (further 1) (node_at i path rest) n e in
    none_map (further 1) (node_at i (path ++ k ∷ []) rest) ∙ child_named i path k rest m g ∙ ap (λ (n : Node). not (has_child k n)) f

-- No node, no child.
pub no_child : (i : ℕ) (path more : List ℕ) (t : Tree) → is_none (node_at i path t) ≡ true → is_none (node_at i (path ++ more) t) ≡ true
no_child i path more end e = refl
no_child zero [] more (branch h cs rest) e = absurd (true≢false (sym e))
no_child zero (j ∷ path) more (branch h cs rest) e =
    none_map below (node_at j (path ++ more) cs) ∙ no_child j path more cs (sym (none_map below (node_at j path cs)) ∙ e)
no_child (suc i) path more (branch h cs rest) e =
    none_map (further 1) (node_at i (path ++ more) rest) ∙ no_child i path more rest (sym (none_map (further 1) (node_at i path rest)) ∙ e)
no_child zero [] more (leaf h c rest) e = absurd (true≢false (sym e))
no_child zero (j ∷ path) more (leaf h c rest) e = refl
no_child (suc i) path more (leaf h c rest) e =
    none_map (further 1) (node_at i (path ++ more) rest) ∙ no_child i path more rest (sym (none_map (further 1) (node_at i path rest)) ∙ e)

-- ── a path as bytes, by its last entry ──

pub record LastEntry (path : List ℕ) : Type 0 where
  pub front : List ℕ
  pub whole : entries (take (length path - 4) path) ≡ some front
  pub is : entries path ≡ some (front ++ four_at path (length path - 4) ∷ [])

pub last_entry : (path : List ℕ) → length path % 4 ≡ 0 → 1 ≤ length path → LastEntry path
last_entry path h some_bytes = go (drop up path) refl
  where
    up : ℕ
    up = length path - 4

    front : (p : List ℕ) × (entries (take up path) ≡ some p)
    front = whole (take up path) (simp length-take (omega arith))

    four_long : length (drop up path) ≡ 4
    four_long = simp length-drop (omega arith)

    go : (l : List ℕ) → drop up path ≡ l → LastEntry path
    go [] e = absurd (omega (arith, four_long, ap length e))
    go (a ∷ []) e = absurd (omega (arith, four_long, ap length e))
    go (a ∷ b ∷ []) e = absurd (omega (arith, four_long, ap length e))
    go (a ∷ b ∷ c ∷ []) e = absurd (omega (arith, four_long, ap length e))
    go (a ∷ b ∷ c ∷ d ∷ []) e = record {
      front = front.0;
      whole = front.1;
      is = ap entries (sym (take-append-drop up path) ∙ ap (λ (l : List ℕ). take up path ++ l) e) ∙ entries_last (take up path) front.0 a b c d front.1
          ∙ ap (λ (n : ℕ). some (front.0 ++ n ∷ [])) (sym (read_four path up a b c d [] e));
    }
    go (a ∷ b ∷ c ∷ d ∷ x ∷ l) e = absurd (omega (arith, four_long, ap length e))
