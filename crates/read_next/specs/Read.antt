-- What Read tells of the node at a byte.
use Rattle.std.specs.Prelude.{◌≡◌, None, ℕ, ◌+◌, ◌-◌, ◌≤◌, ◌<◌, eqb}
use Rattle.std.proofs.Math.Path.{sym, refl}
use Rattle.std.proofs.Common.{ap, subst, ◌∙◌}
use Rattle.std.proofs.Math.Bool.{cond, true}
use mathlib.Core.List.{List, [], ◌∷◌, ◌++◌, Memᴰ}
use mathlib.Core.List.Memᴰ
use Rattle.std.proofs.Math.Option.{some}
use native.Mathlib.Omega.{arith}
use Rattle.std.proofs.Math.ListN.{length}
use Rattle.model.specs.Limits.{most_pages, most_bytes}
use Rattle.model.specs.Row.{Head, Row, nil, agg, lit, rec, size, Config, is_agg}
use Rattle.model.specs.Reading.{Reads, size_at, kind_at, head_at}
use Rattle.model.specs.Tree.{Node, shown, nodes, place_of, from_place, width}
use Rattle.model.specs.Answers.{origin_number, read_refused}
use Rattle.model.specs.Calls.Check.{check_of}
use Rattle.model.specs.Calls.Next.{origin_of}
use Rattle.model.specs.Calls.Read.{read_of, read_in, as_read}
use Rattle.model.specs.declared.Place.{Place}
use Rattle.model.specs.declared.Origin.{Origin}
use Rattle.model.specs.Answers.{ReadNode}
use Rattle.theory_decoding.specs.Reading.{reads_valid, unique}
use Rattle.theory_places.specs.From.{from_split}
use Rattle.theory_places.specs.Member.{Mem}
use Rattle.theory_calls.specs.Open.{opens}
use Rattle.theory_calls.specs.Navigate.{read_stray, next_numbered}
use Rattle.theory_row_bytes.specs.RowAt.{kind_of, head_of, body_of, kids_of}
use Rattle.theory_layout.specs.Here.{View, view}
use Rattle.theory_layout.specs.Items.{expand}
use Rattle.theory_layout.specs.Order.{NodeIn, node_split}
use Rattle.theory_layout.specs.Nodes.{All, ReadAt, Both, nodes_split}
use Rattle.read_find.specs.Rowed.{Rowed, children_of, width_steps}
use Rattle.read_next.specs.Scan.{NodeAt, NodeOf, Located, store_of}
use Rattle.read_next.specs.Follow.{its_place}

-- ── what a place finds ──

-- The node at a byte is one of whatever store the image is read as.
spot_any : (img : List ℕ) (pos : ℕ) → NodeAt img pos → (st : Config) (root : Row) → Reads img st root → NodeIn root pos
spot_any img pos a st root r =
    subst (λ (s : Config × Row). NodeIn s.1 pos) (unique img (a.settings, a.root) (st, root) a.reads r) a.spot

-- and else the place finds the node that is read there.
pub some_from : (img : List ℕ) (x : Place) (pos : ℕ) → NodeOf img x.page x.offset pos → (st : Config) (root : Row) → Reads img st root
    → (n : Node) × (ms : List Node) × (from_place (place_of root) x (nodes (shown root)) ≡ n ∷ ms) × ReadAt img n pos × (place_of root n.path ≡ some x) × Mem n (nodes (shown root))
some_from img x pos a st root r =
    let s = spot_any img pos a.node st root r in
    let k = nodes_split img st root r (s.before ++ expand s.left) (pos ∷ (expand s.right ++ s.after)) (node_split s) in
    go k.0 k.1 (expand s.right ++ s.after) k.2 k.3
  where
    go : (xs ys : List Node) (later : List ℕ) → nodes (shown root) ≡ xs ++ ys → All (Both img root) ys (pos ∷ later)
        → (n : Node) × (ms : List Node) × (from_place (place_of root) x (nodes (shown root)) ≡ n ∷ ms) × ReadAt img n pos × (place_of root n.path ≡ some x) × Mem n (nodes (shown root))
    go xs [] later e b = absurd b
    go xs (n ∷ ys) later e b =
        let p = its_place img x pos a st root r n b.0.1 in
        (n, ys, from_split st root (reads_valid img st root r) x xs ys n e p, b.0.0, p, rw e (Memᴰ.append_right xs (Memᴰ.head refl)))

-- ── the answer for it ──

abbrev pub told : Place → Node → ReadNode
told x n = as_read x (record { number = 0; kind = n.kind; origin = n.head.origin; label = n.head.label; children = n.children; content = n.content })

record NodeTold (img : List ℕ) (x : Place) (pos : ℕ) : Type 0 where
  node : Node
  read : ReadAt img node pos
  is : read_of img x ≡ told x node
  numbered : origin_number (origin_of node.head.origin) ≡ node.head.origin

node_told : (img : List ℕ) (x : Place) (pos : ℕ) → NodeOf img x.page x.offset pos → NodeTold img x pos
unfolding read_of read_in
node_told img x pos a =
    let (n, ms, e, r, p, m) = some_from img x pos a a.node.settings a.node.root a.node.reads in
    record {
      node = n;
      read = r;
      is = rw (opens img a.node.settings a.node.root a.node.reads, e);
      numbered = (next_numbered img a.node.settings a.node.root a.node.reads n m).1;
    }

pub told_stray : (img : List ℕ) (x : Place) → check_of img ≡ 0 → Located img x.page x.offset None → read_of img x ≡ read_refused 10
told_stray img x z f =
    let s = store_of img z in
    read_stray img s.settings s.root s.reads x (f s.settings s.root s.reads)

-- ── an aggregate, a literal ──

abbrev pub agg_read : (img : List ℕ) (pos : ℕ) → Row → ReadNode
agg_read img pos row = record { number = 0; kind = 1; origin = (head_at img pos).origin; label = (head_at img pos).label; children = width row; start = 0; len = 0 }

abbrev pub lit_read : (img : List ℕ) (pos : ℕ) → ReadNode
lit_read img pos =
    let n = size_at img pos - 6 in
    record { number = 0; kind = 2; origin = (head_at img pos).origin; label = (head_at img pos).label; children = 0; start = cond (eqb n 0) 0 (pos + 6); len = n }

-- A number that an origin has.
abbrev pub IsOrigin : ℕ → Type 0
IsOrigin n = origin_number (origin_of n) ≡ n

-- The row of an aggregate's children.
abbrev pub Inner : (img : List ℕ) (pos : ℕ) → Type 0
Inner img pos = Rowed img (pos + 6) (pos + size_at img pos) most_pages

pub record AggTold (img : List ℕ) (x : Place) (pos : ℕ) : Type 0 where
  pub inner : Inner img pos
  pub origin : IsOrigin (head_at img pos).origin
  pub is : agg_read img pos inner.row ≡ read_of img x

pub record LitTold (img : List ℕ) (x : Place) (pos : ℕ) : Type 0 where
  pub long : 6 ≤ size_at img pos
  pub origin : IsOrigin (head_at img pos).origin
  pub is : lit_read img pos ≡ read_of img x

module _ (img : List ℕ) (x : Place) (pos : ℕ) (i : NodeOf img x.page x.offset pos) where
  t : NodeTold img x pos
  t = node_told img x pos i

  r : ReadAt img t.node pos
  r = t.read

  v : View img r.page pos r.row
  v = view r.here r.some

  its_origin : IsOrigin (head_at img pos).origin
  unfolding v r
  its_origin = subst (λ (h : Head). IsOrigin h.origin) (r.head_is ∙ sym v.head_is) t.numbered

  pub agg_told : kind_at img pos ≡ 1 → AggTold img x pos
  unfolding v r
  agg_told k =
      let e : kind_of r.row ≡ 1 = sym v.kind_is ∙ k in
      record {
        inner = children_of r.here e r.deep r.few _ refl;
        origin = its_origin;
        is = sym (t.is ∙ rw (r.kind_is, r.head_is, r.content_is, r.children_is, ← v.kind_is, ← v.head_is, k, is_agg_lem r.row e));
      }
    where
      is_agg_lem : (row : Row) → kind_of row ≡ 1 → is_agg row ≡ true
      is_agg_lem nil e = absurd (omega arith)
      is_agg_lem (agg h cs rest) e = refl
      is_agg_lem (lit h c rest) e = absurd (omega arith)
      is_agg_lem (rec p s x rest) e = absurd (omega arith)

  pub lit_told : (kind_at img pos ≡ 1 → ⊥) → LitTold img x pos
  unfolding v r
  lit_told k = go r.row r.some v r.plain r.kind_is r.head_is r.content_is r.children_is
    where
      go : (row : Row) → 0 < size row → View img r.page pos row → (kind_of row ≡ 3 → ⊥) → t.node.kind ≡ kind_of row → t.node.head ≡ head_of row
          → t.node.content ≡ cond (is_agg row) [] (body_of row) → t.node.children ≡ width (kids_of row) → LitTold img x pos
      go nil h w p a b c d = absurd (omega arith)
      go (agg hd cs rest) h w p a b c d = absurd (k w.kind_is)
      go (lit hd s rest) h w p a b c d =
          let z : 6 + length s - 6 ≡ length s = omega arith in
          record { long = omega (arith, w.size_is); origin = its_origin; is = sym (t.is ∙ rw (a, b, c, d, ← w.head_is, w.size_is, z, ← i.is)) }
      go (rec q s y rest) h w p a b c d = absurd (p refl)

-- The children's row, with an end that is read.
abbrev pub inner_to : (img : List ℕ) (pos end : ℕ) → end ≡ pos + size_at img pos → Inner img pos → Rowed img (pos + 6) end most_pages
inner_to img pos end e w = record { page = w.page; row = w.row; here = w.here; ends = e ∙ w.ends; deep = w.deep; few = w.few }

pub inner_few : (img : List ℕ) (pos : ℕ) (w : Inner img pos) → width w.row ≤ most_bytes
inner_few img pos w = omega (arith, width_steps w.row, w.few)

-- The answers with the numbers that are read.
pub agg_is : (img : List ℕ) (pos origin label n : ℕ) (row : Row) → origin ≡ (head_at img pos).origin → label ≡ (head_at img pos).label → n ≡ width row
    → record { number = 0; kind = 1; origin = origin; label = label; children = n; start = 0; len = 0 } ≡ agg_read img pos row
agg_is img pos origin label n row o e f = rw (o, e, f)

pub lit_is : (img : List ℕ) (pos origin label size start : ℕ) → origin ≡ (head_at img pos).origin → label ≡ (head_at img pos).label → size ≡ size_at img pos
    → start ≡ cond (eqb (size - 6) 0) 0 (pos + 6)
    → record { number = 0; kind = 2; origin = origin; label = label; children = 0; start = start; len = size - 6 } ≡ lit_read img pos
lit_is img pos origin label size start o e f g = rw (o, e, g, f)

-- With the origin by its name.
pub agg_named : (img : List ℕ) (pos label n : ℕ) (o : Origin) (row : Row) → o ≡ origin_of (head_at img pos).origin → IsOrigin (head_at img pos).origin
    → label ≡ (head_at img pos).label → n ≡ width row
    → record { number = 0; kind = 1; origin = origin_number o; label = label; children = n; start = 0; len = 0 } ≡ agg_read img pos row
agg_named img pos label n o row s i e f = agg_is img pos _ label n row (ap origin_number s ∙ i) e f
