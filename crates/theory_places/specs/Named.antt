-- A path names a node exactly if the node is in the document order, and exactly then it has a place.
use Rattle.std.specs.Prelude.{◌≡◌, refl, Bool, true, false, List, [], ◌∷◌, map, ℕ, zero, suc, ◌+◌, ◌-◌, ◌<◌, length, ltb}
use Rattle.std.proofs.Common.{sym, ap, ap₂, subst, ◌∙◌, true≢false, arith, one-add, ltb-true, ltb-false}
use Rattle.std.proofs.lemmas.Bool.{false≢true}
use mathlib.Core.List.Memᴰ
use Rattle.std.proofs.Math.Option
use Rattle.std.proofs.Math.Option.{Option, none, some, some-injective, none-ne-some}
use Rattle.model.specs.Row.{Row, nil, agg, lit, rec, size, base, Config}
use Rattle.model.specs.Tree.{Tree, end, branch, leaf, ◌⊞◌, shown, breadth, width, Node, branch_node, leaf_node, below, further, nodes, node_at, named, place_at}
use Rattle.model.specs.Tree.{place_of}
use Rattle.model.specs.declared.Place.{Place}
use Rattle.theory_rows.specs.Fits.{Valid}
use Rattle.theory_rows.specs.Laws.{cond_case, breadth_shown}
use Rattle.theory_places.specs.Member.{Mem, Each, each-++, each_map, each_of}
use Rattle.theory_places.specs.Order.{within, one_root, node_at_left, node_at_right}

-- ── the nodes that paths name ──

abbrev Named : Tree → Node → Type 0
Named t n = node_at n.number n.path t ≡ some n

-- from the row after a node to the row with it
each_further : (t rest : Tree) → ((i : ℕ) (path : List ℕ) → node_at (suc i) path t ≡ Option.map (further 1) (node_at i path rest))
    → Each (Named rest) (nodes rest) → Each (Named t) (map (further 1) (nodes rest))
each_further t rest h e =
    each_map (Named rest) (Named t) (further 1) (nodes rest)
    (λ n e. ap (λ (k : ℕ). node_at k n.path t) (one-add n.number) ∙ h n.number n.path ∙ ap (Option.map (further 1)) e) e

each_named : (t : Tree) → Each (Named t) (nodes t)
each_named end = tt
each_named (branch h cs rest) =
    let t = branch h cs rest in
    let under = each_map (Named cs) (Named t) below (nodes cs) (λ n e. ap (Option.map below) e) (each_named cs) in
    let after = each_further t rest (λ i path. refl) (each_named rest) in
    (refl, each-++ (Named t) (map below (nodes cs)) (map (further 1) (nodes rest)) under after)
each_named (leaf h c rest) = (refl, each_further (leaf h c rest) rest (λ i path. refl) (each_named rest))

-- A node in the document order is the one that its number and path name.
pub in_named : (t : Tree) (n : Node) → Mem n (nodes t) → node_at n.number n.path t ≡ some n
in_named t n m = each_of (Named t) n (nodes t) (each_named t) m

-- In a tree, the row of its root alone, its path.
pub in_tree : (t : Tree) (n : Node) → breadth t ≡ 1 → Mem n (nodes t) → named t n.path ≡ some n
in_tree t n e m =
    let b : n.number < breadth t = each_of (λ n. n.number < breadth t) n (nodes t) (within t) m in
    let z : 0 ≡ n.number = omega arith in
    ap (λ (k : ℕ). node_at k n.path t) z ∙ in_named t n m

pub unmap : (f : Node → Node) (o : Option Node) (n : Node) → Option.map f o ≡ some n → (m : Node) × (o ≡ some m) × (f m ≡ n)
unmap f none n e = absurd (none-ne-some n e)
unmap f (some m) n e = (m, refl, some-injective (f m) n e)

-- Node n of the document order has this number and path.
abbrev pub In : Tree → (number : ℕ) → (path : List ℕ) → Node → Type 0
In t i path n = Mem n (nodes t) × (n.number ≡ i) × (n.path ≡ path)

-- The node that a number and a path name is in the document order, with this number and path.
pub node_at_in : (t : Tree) (i : ℕ) (path : List ℕ) (n : Node) → node_at i path t ≡ some n → In t i path n
node_at_in end i path n e = absurd (none-ne-some n e)
node_at_in (branch h cs rest) zero [] n e =
    subst (In (branch h cs rest) 0 []) (some-injective (branch_node h cs) n e) (Memᴰ.head refl, refl, refl)
node_at_in (branch h cs rest) zero (j ∷ path) n e =
    let (m, at, q) = unmap below (node_at j path cs) n e in
    let (member, number, route) = node_at_in cs j path m at in
    subst (In (branch h cs rest) 0 (j ∷ path)) q
    (Memᴰ.tail (Memᴰ.append_left (map (further 1) (nodes rest)) (Memᴰ.map below member)), refl, ap₂ ◌∷◌ number route)
node_at_in (branch h cs rest) (suc i) path n e =
    let (m, at, q) = unmap (further 1) (node_at i path rest) n e in
    let (member, number, route) = node_at_in rest i path m at in
    subst (In (branch h cs rest) (suc i) path) q
    (Memᴰ.tail (Memᴰ.append_right (map below (nodes cs)) (Memᴰ.map (further 1) member)), one-add m.number ∙ ap suc number, route)
node_at_in (leaf h c rest) zero [] n e =
    subst (In (leaf h c rest) 0 []) (some-injective (leaf_node h c) n e) (Memᴰ.head refl, refl, refl)
node_at_in (leaf h c rest) zero (j ∷ path) n e = absurd (none-ne-some n e)
node_at_in (leaf h c rest) (suc i) path n e =
    let (m, at, q) = unmap (further 1) (node_at i path rest) n e in
    let (member, number, route) = node_at_in rest i path m at in
    subst (In (leaf h c rest) (suc i) path) q (Memᴰ.tail (Memᴰ.map (further 1) member), one-add m.number ∙ ap suc number, route)

pub named_in_lem : (t : Tree) (path : List ℕ) (n : Node) → named t path ≡ some n → Mem n (nodes t) × (n.path ≡ path)
named_in_lem t path n e =
    let f = node_at_in t 0 path n e in
    (f.0, f.2)

-- ── and their places ──

abbrev is_some : {A : Type 0} → Option A → Bool
is_some none = false
is_some (some a) = true

is_some_map : (f : Node → Node) (o : Option Node) → is_some (Option.map f o) ≡ is_some o
is_some_map f none = refl
is_some_map f (some n) = refl

-- A path finds a place exactly if it names a node.
place_named : (page at i : ℕ) (path : List ℕ) (row : Row) → is_some (place_at page at i path row) ≡ is_some (node_at i path (shown row))
unfolding place_at
place_named page at i path nil = refl
place_named page at zero [] (agg h cs rest) = refl
place_named page at zero (j ∷ path) (agg h cs rest) = place_named page (at + 6) j path cs ∙ sym (is_some_map below (node_at j path (shown cs)))
place_named page at (suc i) path (agg h cs rest) =
    place_named page (at + 6 + size cs) i path rest ∙ sym (is_some_map (further 1) (node_at i path (shown rest)))
place_named page at zero [] (lit h c rest) = refl
place_named page at zero (j ∷ path) (lit h c rest) = refl
place_named page at (suc i) path (lit h c rest) =
    place_named page (at + 6 + length c) i path rest ∙ sym (is_some_map (further 1) (node_at i path (shown rest)))
place_named page at i path (rec p s r rest) =
    cond_case (λ (o : Option Place). is_some o ≡ is_some (node_at i path (shown r ⊞ shown rest))) (ltb i (width r))
    (λ e. place_named p (base r) i path r ∙ ap is_some (sym (node_at_left i path (shown r) (shown rest) (rw (breadth_shown r) (ltb-true i (width r) e)))))
    (λ e. place_named page (at + 8) (i - width r) path rest
    ∙ ap (λ (w : ℕ). is_some (node_at (i - w) path (shown rest))) (sym (breadth_shown r))
    ∙ sym (is_some_map (further (breadth (shown r))) (node_at (i - breadth (shown r)) path (shown rest)))
    ∙ ap is_some (sym (node_at_right i path (shown r) (shown rest) (rw (breadth_shown r) (ltb-false i (width r) e)))))

pub named_place : (root : Row) (path : List ℕ) (n : Node) → named (shown root) path ≡ some n → (x : Place) × (place_of root path ≡ some x)
named_place root path n e = go (place_of root path) (place_named 1 0 0 path root ∙ ap is_some e)
  where
    go : (o : Option Place) → is_some o ≡ true → (x : Place) × (o ≡ some x)
    go none h = absurd (false≢true h)
    go (some x) h = (x, refl)

pub unnamed_place : (root : Row) (path : List ℕ) → named (shown root) path ≡ none → place_of root path ≡ none
unnamed_place root path e = go (place_of root path) (place_named 1 0 0 path root ∙ ap is_some e)
  where
    go : (o : Option Place) → is_some o ≡ false → o ≡ none
    go none h = refl
    go (some x) h = absurd (true≢false h)

-- So each node of a valid store's tree has a place.
pub in_place : (st : Config) (root : Row) → Valid st root → (n : Node) → Mem n (nodes (shown root)) → (x : Place) × (place_of root n.path ≡ some x)
in_place st root v n m = named_place root n.path n (in_tree (shown root) n (one_root st root v) m)
