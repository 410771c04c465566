-- Document order: rows joined, and the places of a row's nodes, node by node.
use Rattle.std.specs.Prelude.{◌≡◌, refl, true, false, List, [], ◌∷◌, ◌++◌, map, ℕ, zero, suc, ◌+◌, ◌-◌, ◌≤◌, ◌<◌, length, ltb}
use Rattle.std.proofs.Common.{sym, ap, ap₂, ◌∙◌, append_assoc, arith, one-add, zero-add, lt-ltb, le-ltb, ltb-true, ltb-false}
use Rattle.std.proofs.lemmas.Bool.{false≢true}
use Rattle.std.proofs.lemmas.List.{map-append}
use Rattle.std.proofs.Math.Option
use Rattle.std.proofs.Math.Option.{Option, none, some}
use Rattle.std.proofs.Math.Nat.{sub-zero, suc-sub-suc}
use Rattle.model.specs.Row.{Row, nil, agg, lit, rec, size, base, lone, Config}
use Rattle.model.specs.Tree.{Tree, end, branch, leaf, ◌⊞◌, shown, breadth, width, Node, below, further, nodes, node_at, places, place_at, place_of}
use Rattle.model.specs.declared.Place.{Place}
use Rattle.theory_rows.specs.Laws.{breadth_shown, is_nil_nil}
use Rattle.theory_rows.specs.Fits.{Shape, one, Valid}
use Rattle.theory_places.specs.Member.{Each, each-++, each_map}

-- ── rows joined ──

further_0 : (n : Node) → further 0 n ≡ n
further_0 n = rw zero-add

further_suc : (k : ℕ) (n : Node) → further 1 (further k n) ≡ further (suc k) n
further_suc k n =
    let e : 1 + (k + n.number) ≡ suc k + n.number = omega arith in
    rw e

map_further_0 : (ns : List Node) → map (further 0) ns ≡ ns
map_further_0 [] = refl
map_further_0 (n ∷ ns) = ap₂ ◌∷◌ (further_0 n) (map_further_0 ns)

map_further_suc : (k : ℕ) (ns : List Node) → map (further 1) (map (further k) ns) ≡ map (further (suc k)) ns
map_further_suc k [] = refl
map_further_suc k (n ∷ ns) = ap₂ ◌∷◌ (further_suc k n) (map_further_suc k ns)

pub nodes-⊞ : (a b : Tree) → nodes (a ⊞ b) ≡ nodes a ++ map (further (breadth a)) (nodes b)
nodes-⊞ end b = sym (map_further_0 (nodes b))
nodes-⊞ (branch h cs rest) b = simp (nodes-⊞ rest b, map-append, map_further_suc, append_assoc)
nodes-⊞ (leaf h c rest) b = simp (nodes-⊞ rest b, map-append, map_further_suc)

pub node_at_left : (i : ℕ) (path : List ℕ) (a b : Tree) → i < breadth a → node_at i path (a ⊞ b) ≡ node_at i path a
node_at_left i path end b h = absurd (omega arith)
node_at_left zero [] (branch l cs rest) b h = refl
node_at_left zero (j ∷ path) (branch l cs rest) b h = refl
node_at_left (suc i) path (branch l cs rest) b h = ap (Option.map (further 1)) (node_at_left i path rest b (omega arith))
node_at_left zero [] (leaf l c rest) b h = refl
node_at_left zero (j ∷ path) (leaf l c rest) b h = refl
node_at_left (suc i) path (leaf l c rest) b h = ap (Option.map (further 1)) (node_at_left i path rest b (omega arith))

option_further_0 : (o : Option Node) → Option.map (further 0) o ≡ o
option_further_0 none = refl
option_further_0 (some n) = ap some (further_0 n)

option_further_suc : (k : ℕ) (o : Option Node) → Option.map (further 1) (Option.map (further k) o) ≡ Option.map (further (suc k)) o
option_further_suc k none = refl
option_further_suc k (some n) = ap some (further_suc k n)

pub node_at_right : (i : ℕ) (path : List ℕ) (a b : Tree) → breadth a ≤ i
    → node_at i path (a ⊞ b) ≡ Option.map (further (breadth a)) (node_at (i - breadth a) path b)
node_at_right i path end b h = rw (sub-zero, option_further_0)
node_at_right zero path (branch l cs rest) b h = absurd (omega arith)
node_at_right (suc i) path (branch l cs rest) b h = rw (suc-sub-suc, node_at_right i path rest b (omega arith), option_further_suc)
node_at_right zero path (leaf l c rest) b h = absurd (omega arith)
node_at_right (suc i) path (leaf l c rest) b h = rw (suc-sub-suc, node_at_right i path rest b (omega arith), option_further_suc)

-- In a record that shows node i, and behind one that does not.
pub node_within : (i : ℕ) (path : List ℕ) (r rest : Row) → ltb i (width r) ≡ true → node_at i path (shown r ⊞ shown rest) ≡ node_at i path (shown r)
node_within i path r rest m = node_at_left i path (shown r) (shown rest) (omega (arith, ltb-true i (width r) m, breadth_shown r))

pub node_beyond : (i : ℕ) (path : List ℕ) (r rest : Row) → ltb i (width r) ≡ false
    → node_at i path (shown r ⊞ shown rest) ≡ Option.map (further (width r)) (node_at (i - width r) path (shown rest))
node_beyond i path r rest m =
    rw (← breadth_shown r) (node_at_right i path (shown r) (shown rest) (omega (arith, ltb-false i (width r) m, breadth_shown r)))

-- ── places in document order ──

-- A node's number is one of its row's.
pub within : (t : Tree) → Each (λ n. n.number < breadth t) (nodes t)
within end = tt
within (branch h cs rest) =
    let P : Node → Type 0 = λ n. n.number < suc (breadth rest) in
    let below-too = each_map (λ n. n.number < breadth cs) P below (nodes cs) (λ n b. omega arith) (within cs) in
    let further-too = each_map (λ n. n.number < breadth rest) P (further 1) (nodes rest) (λ n b. omega arith) (within rest) in
    (omega arith, each-++ P (map below (nodes cs)) (map (further 1) (nodes rest)) below-too further-too)
within (leaf h c rest) =
    (omega arith, each_map (λ n. n.number < breadth rest) (λ n. n.number < suc (breadth rest)) (further 1) (nodes rest) (λ n b. omega arith) (within rest))

map_same : (P : Node → Type 0) (f g : Node → Option Place) (ns : List Node) → ((n : Node) → P n → f n ≡ g n) → Each P ns → map f ns ≡ map g ns
map_same P f g [] h e = refl
map_same P f g (n ∷ ns) h e = ap₂ ◌∷◌ (h n e.0) (map_same P f g ns h e.1)

map_by : (k : Node → Node) (f g : Node → Option Place) (ns : List Node) → ((n : Node) → f (k n) ≡ g n) → map f (map k ns) ≡ map g ns
map_by k f g [] h = refl
map_by k f g (n ∷ ns) h = ap₂ ◌∷◌ (h n) (map_by k f g ns h)

both : (f : Node → Option Place) (a b : List Node) (ps qs : List Place) → map f a ≡ map some ps → map f b ≡ map some qs → map f (a ++ b) ≡ map some (ps ++ qs)
both f a b ps qs d e = map-append f a b ∙ ap₂ ◌++◌ d e ∙ sym (map-append some ps qs)

-- The place found for a node.
abbrev found : (page at : ℕ) → Row → Node → Option Place
found page at row n = place_at page at n.number n.path row

-- The number and path of each node find the node's place.
pub place_all : (page at : ℕ) (row : Row) → map (λ (n : Node). place_at page at n.number n.path row) (nodes (shown row)) ≡ map some (places page at row)
unfolding place_at
place_all page at nil = refl
place_all page at (agg h cs rest) =
    let F = found page at (agg h cs rest) in
    let us = nodes (shown cs) in
    let vs = nodes (shown rest) in
    let end-cs = at + 6 + size cs in
    ap (◌∷◌ (some (record { page = page; offset = at })))
    (both F (map below us) (map (further 1) vs) (places page (at + 6) cs) (places page end-cs rest)
    (map_by below F (found page (at + 6) cs) us (λ n. refl) ∙ place_all page (at + 6) cs)
    (map_by (further 1) F (found page end-cs rest) vs (λ n. rw (one-add n.number)) ∙ place_all page end-cs rest))
place_all page at (lit h c rest) =
    let after = at + 6 + length c in
    ap (◌∷◌ (some (record { page = page; offset = at })))
    (map_by (further 1) (found page at (lit h c rest)) (found page after rest) (nodes (shown rest)) (λ n. rw (one-add n.number))
    ∙ place_all page after rest)
place_all page at (rec p s r rest) =
    let F = found page at (rec p s r rest) in
    let w = breadth (shown r) in
    let us = nodes (shown r) in
    let vs = nodes (shown rest) in
    rw (nodes-⊞ (shown r) (shown rest))
    (both F us (map (further w) vs) (places p (base r) r) (places page (at + 8) rest)
    (map_same (λ n. n.number < w) F (found p (base r) r) us (λ n b. rw (lt-ltb n.number (width r) (omega (arith, breadth_shown r)))) (within (shown r))
    ∙ place_all p (base r) r)
    (map_by (further w) F (found page (at + 8) rest) vs
    (λ n.
    let e : w + n.number - width r ≡ n.number = omega (arith, breadth_shown r) in
    rw (le-ltb (w + n.number) (width r) (omega (arith, breadth_shown r)), e))
    ∙ place_all page (at + 8) rest))

-- ── the root record ──

breadth_lone : (r : Row) → lone r ≡ true → breadth (shown r) ≡ 1
breadth_lone nil e = absurd (false≢true e)
breadth_lone (agg h cs rest) e = rw (is_nil_nil rest e)
breadth_lone (lit h c rest) e = rw (is_nil_nil rest e)
breadth_lone (rec p s r rest) e = absurd (false≢true e)

-- A settled record has no helper.
pub lone_root : (st : Config) (root : Row) → Valid st root → lone root ≡ true
lone_root st root v = go v.rows.0.shape
  where
    go : {r : Row} → Shape true r → lone r ≡ true
    go (one e) = e

pub one_root : (st : Config) (root : Row) → Valid st root → breadth (shown root) ≡ 1
one_root st root v = breadth_lone root (lone_root st root v)

-- In a tree every node's number is 0, so that the path alone finds the place.
pub place_root : (root : Row) → lone root ≡ true → map (λ (n : Node). place_of root n.path) (nodes (shown root)) ≡ map some (places 1 0 root)
place_root root e =
    map_same (λ n. n.number < breadth (shown root)) (λ n. place_of root n.path) (found 1 0 root) (nodes (shown root))
    (λ n b.
    let z : 0 ≡ n.number = omega (arith, breadth_lone root e) in
    ap (λ (k : ℕ). place_at 1 0 k n.path root) z)
    (within (shown root))
    ∙ place_all 1 0 root
