-- Laws of rows, and of what a row shows.
use Rattle.std.specs.Prelude.{◌≡◌, refl, Bool, true, false, cond, List, [], ◌∷◌, ◌++◌, ℕ, zero, suc, ◌+◌, ◌-◌, ◌≤◌, ◌<◌, length, ltb, eqb}
use Rattle.std.proofs.Common.{sym, ap, append_assoc, arith, ltb-true, ltb-false, length-append}
use Rattle.std.proofs.lemmas.Bool.{false≢true}
use Rattle.std.proofs.Math.Nat.{sub-zero, suc-sub-suc}
use Rattle.model.specs.Row.{Head, Row, nil, agg, lit, rec, ◌⊹◌, size, node_count, is_nil, bytes, lone}
use Rattle.model.specs.Tree.{Tree, end, branch, leaf, ◌⊞◌, shown, width, breadth, New, new_node, insert_at}

-- ── a row and its parts ──

-- A rule that holds of a row if it holds of its parts, and the other way round.
pub record Parted (P : Row → Type 0) : Type 0 where
  pub join : (a b : Row) → P a → P b → P (a ⊹ b)
  pub parts : (a b : Row) → P (a ⊹ b) → P a × P b
  pub children : (h : Head) (cs rest : Row) → P (agg h cs rest) → P cs
  pub anew : (h : Head) (cs cs' rest : Row) → P (agg h cs rest) → P cs' → P (agg h cs' rest)

-- ── bytes ──

pub length_bytes : (r : Row) → length (bytes r) ≡ size r
length_bytes nil = refl
length_bytes (agg l cs rest) = simp (length-append, length_bytes cs, length_bytes rest) (omega arith)
length_bytes (lit l c rest) = simp (length-append, length_bytes rest) refl
length_bytes (rec p s r rest) = simp (length-append, length_bytes rest) (omega arith)

pub size-⊹ : (a b : Row) → size (a ⊹ b) ≡ size a + size b
size-⊹ nil b = omega arith
size-⊹ (agg l cs rest) b = rw (size-⊹ rest b) (omega arith)
size-⊹ (lit l c rest) b = rw (size-⊹ rest b) (omega arith)
size-⊹ (rec p s r rest) b = rw (size-⊹ rest b) (omega arith)

pub bytes-⊹ : (a b : Row) → bytes (a ⊹ b) ≡ bytes a ++ bytes b
bytes-⊹ nil b = refl
bytes-⊹ (agg l cs rest) b = simp (bytes-⊹ rest b, append_assoc)
bytes-⊹ (lit l c rest) b = simp (bytes-⊹ rest b, append_assoc)
bytes-⊹ (rec p s r rest) b = simp (bytes-⊹ rest b)

pub ⊹-nil : (a : Row) → a ⊹ nil ≡ a
⊹-nil nil = refl
⊹-nil (agg l cs rest) = ap (agg l cs) (⊹-nil rest)
⊹-nil (lit l c rest) = ap (lit l c) (⊹-nil rest)
⊹-nil (rec p s r rest) = ap (rec p s r) (⊹-nil rest)

pub ⊹-assoc : (a b c : Row) → (a ⊹ b) ⊹ c ≡ a ⊹ b ⊹ c
⊹-assoc nil b c = refl
⊹-assoc (agg l cs rest) b c = ap (agg l cs) (⊹-assoc rest b c)
⊹-assoc (lit l x rest) b c = ap (lit l x) (⊹-assoc rest b c)
⊹-assoc (rec p s r rest) b c = ap (rec p s r) (⊹-assoc rest b c)

-- ── what a row shows ──

pub ⊞-end : (a : Tree) → a ⊞ end ≡ a
⊞-end end = refl
⊞-end (branch l cs rest) = ap (branch l cs) (⊞-end rest)
⊞-end (leaf l c rest) = ap (leaf l c) (⊞-end rest)

pub ⊞-assoc : (a b c : Tree) → (a ⊞ b) ⊞ c ≡ a ⊞ b ⊞ c
⊞-assoc end b c = refl
⊞-assoc (branch l cs rest) b c = ap (branch l cs) (⊞-assoc rest b c)
⊞-assoc (leaf l x rest) b c = ap (leaf l x) (⊞-assoc rest b c)

pub shown-⊹ : (a b : Row) → shown (a ⊹ b) ≡ shown a ⊞ shown b
shown-⊹ nil b = refl
shown-⊹ (agg l cs rest) b = ap (branch l (shown cs)) (shown-⊹ rest b)
shown-⊹ (lit l c rest) b = ap (leaf l c) (shown-⊹ rest b)
shown-⊹ (rec p s r rest) b = rw (shown-⊹ rest b, ⊞-assoc)

pub breadth-⊞ : (a b : Tree) → breadth (a ⊞ b) ≡ breadth a + breadth b
breadth-⊞ end b = omega arith
breadth-⊞ (branch l cs rest) b = rw (breadth-⊞ rest b) (omega arith)
breadth-⊞ (leaf l c rest) b = rw (breadth-⊞ rest b) (omega arith)

pub breadth_shown : (r : Row) → breadth (shown r) ≡ width r
breadth_shown nil = refl
breadth_shown (agg l cs rest) = ap suc (breadth_shown rest)
breadth_shown (lit l c rest) = ap suc (breadth_shown rest)
breadth_shown (rec p s r rest) = rw (breadth-⊞, breadth_shown r, breadth_shown rest)

pub width-⊹ : (a b : Row) → width (a ⊹ b) ≡ width a + width b
width-⊹ nil b = omega arith
width-⊹ (agg l cs rest) b = omega (arith, width-⊹ rest b)
width-⊹ (lit l c rest) b = omega (arith, width-⊹ rest b)
width-⊹ (rec p s r rest) b = omega (arith, width-⊹ rest b)

-- ── a choice ──

pub cond_case {ℓ} : {A : Type ℓ} (P : A → Type 0) (b : Bool) {x y : A} → (b ≡ true → P x) → (b ≡ false → P y) → P (cond b x y)
cond_case P true f g = f refl
cond_case P false f g = g refl

-- ── the plain tree's insert ──

pub new_node-⊞ : (x : New) (a b : Tree) → new_node x (a ⊞ b) ≡ new_node x a ⊞ b
new_node-⊞ x a b = go (eqb x.kind 1)
  where
    go : (t : Bool) → cond t (branch x.head end (a ⊞ b)) (leaf x.head x.content (a ⊞ b)) ≡ cond t (branch x.head end a)
        (leaf x.head x.content a) ⊞ b
    go true = refl
    go false = refl

-- a place in a row that is two rows joined
pub insert_at_left : (x : New) (k i : ℕ) (path : List ℕ) (a b : Tree) → i < breadth a → insert_at x k i path (a ⊞ b) ≡ insert_at x k i path a ⊞ b
insert_at_left x k i path end b h = absurd (omega arith)
insert_at_left x k zero [] (branch l cs rest) b h = refl
insert_at_left x k zero (j ∷ path) (branch l cs rest) b h = refl
insert_at_left x k (suc i) path (branch l cs rest) b h = ap (branch l cs) (insert_at_left x k i path rest b (omega arith))
insert_at_left x k zero path (leaf l c rest) b h = refl
insert_at_left x k (suc i) path (leaf l c rest) b h = ap (leaf l c) (insert_at_left x k i path rest b (omega arith))

pub insert_at_right : (x : New) (k i : ℕ) (path : List ℕ) (a b : Tree) → breadth a ≤ i → insert_at x k i path (a ⊞ b) ≡ a ⊞ insert_at x k (i - breadth a) path b
insert_at_right x k i path end b h = rw sub-zero
insert_at_right x k zero path (branch l cs rest) b h = absurd (omega arith)
insert_at_right x k (suc i) path (branch l cs rest) b h = rw suc-sub-suc (ap (branch l cs) (insert_at_right x k i path rest b (omega arith)))
insert_at_right x k zero path (leaf l c rest) b h = absurd (omega arith)
insert_at_right x k (suc i) path (leaf l c rest) b h = rw suc-sub-suc (ap (leaf l c) (insert_at_right x k i path rest b (omega arith)))

pub within : (r : Row) (i : ℕ) → ltb i (width r) ≡ true → i < breadth (shown r)
within r i e = rw (breadth_shown r) (ltb-true i (width r) e)

pub beyond : (r : Row) (i : ℕ) → ltb i (width r) ≡ false → breadth (shown r) ≤ i
beyond r i e = rw (breadth_shown r) (ltb-false i (width r) e)

-- ── rows of few nodes ──

pub is_nil_nil : (r : Row) → is_nil r ≡ true → r ≡ nil
is_nil_nil nil e = refl
is_nil_nil (agg l cs rest) e = absurd (false≢true e)
is_nil_nil (lit l c rest) e = absurd (false≢true e)
is_nil_nil (rec p s r rest) e = absurd (false≢true e)

-- A record of one aggregate or literal shows one node.
pub lone_width : (r : Row) → lone r ≡ true → width r ≡ 1
lone_width nil e = absurd (false≢true e)
lone_width (agg l cs rest) e = omega (arith, ap width (is_nil_nil rest e))
lone_width (lit l c rest) e = omega (arith, ap width (is_nil_nil rest e))
lone_width (rec p s r rest) e = absurd (false≢true e)

pub nodes_nil : (r : Row) → node_count r ≡ 0 → r ≡ nil
nodes_nil nil e = refl
nodes_nil (agg h cs rest) e = absurd (omega arith)
nodes_nil (lit h c rest) e = absurd (omega arith)
nodes_nil (rec p s r rest) e = absurd (omega arith)

-- A node has a header.
pub nodes_size : (r : Row) → 1 ≤ node_count r → 6 ≤ size r
nodes_size nil h = absurd (omega arith)
nodes_size (agg l cs rest) h = omega arith
nodes_size (lit l c rest) h = omega arith
nodes_size (rec p s r rest) h = omega arith

-- A row with bytes, or with nodes, is not empty, and the other way round.
pub not_nil : (r : Row) → 0 < size r → is_nil r ≡ false
not_nil nil h = absurd (omega arith)
not_nil (agg l cs rest) h = refl
not_nil (lit l c rest) h = refl
not_nil (rec p s r rest) h = refl

pub size_some : (r : Row) → is_nil r ≡ false → 0 < size r
size_some nil e = absurd (false≢true (sym e))
size_some (agg l cs rest) e = omega arith
size_some (lit l c rest) e = omega arith
size_some (rec p s r rest) e = omega arith

pub nodes_some : (r : Row) → 1 ≤ node_count r → is_nil r ≡ false
nodes_some r h = not_nil r (omega (arith, nodes_size r h))

-- Two nodes are not one.
pub two_nodes : (r : Row) → 2 ≤ node_count r → lone r ≡ false
two_nodes nil h = absurd (omega arith)
two_nodes (agg l cs rest) h = nodes_some rest (omega arith)
two_nodes (lit l c rest) h = nodes_some rest (omega arith)
two_nodes (rec p s r rest) h = refl

pub size_nil : (r : Row) → size r ≡ 0 → is_nil r ≡ true
size_nil r e = go (is_nil r) refl
  where
    go : (b : Bool) → is_nil r ≡ b → b ≡ true
    go true z = refl
    go false z = absurd (omega (arith, size_some r z))
