-- An insert that the tree allows has a spot.
use Rattle.std.specs.Prelude.{◌≡◌, refl, ◌≢◌, Bool, false, List, [], ◌∷◌, ℕ, zero, suc, ◌-◌, ◌≤◌, ltb}
use Rattle.std.proofs.Common.{sym, ap, ◌∙◌, true≢false, arith, ltb-false}
use Rattle.std.proofs.Math.Option.{Option, none, some, some-injective, none-ne-some}
use Rattle.std.proofs.lemmas.Bool.{eqb-false}
use Rattle.model.specs.Row.{Head, Row, nil, agg, lit, rec}
use Rattle.model.specs.Tree.{shown, width, Node, branch_node, leaf_node, below as lower, further, node_at, named, New}
use Rattle.model.specs.Common.{entries, named_if, or_empty, path_of, is_none}
use Rattle.model.specs.Calls.Insert.{is_literal, children_below}
use Rattle.theory_rows.specs.Laws.{cond_case, breadth_shown}
use Rattle.theory_places.specs.Order.{node_within, node_beyond}
use Rattle.theory_places.specs.Named.{unmap}
use Rattle.theory_calls.specs.Tests.{Accepted}
use Rattle.model.specs.Spot.{Position, here, past, into, Chain, top, below, Stand, stand_in, Spot, spot_beside, spot_child, spot_in, spot_of}
use Rattle.theory_removal.specs.Found.{HasStand, row_found}

abbrev HasSpot : Option Spot → Type 0
HasSpot o = (t : Spot) × (o ≡ some t)

beside_found : (parent : Head) (l r : Option Stand) → HasStand l → HasSpot (spot_beside parent l r)
beside_found parent none r (t, e) = absurd (none-ne-some t e)
beside_found parent (some l) none h = (_, refl)
beside_found parent (some l) (some r) h = (_, refl)

child_found : (parent : Head) (c : Chain) (s : Position) (k : ℕ) (row : Row) → k ≤ width row → HasSpot (spot_child parent c s k row)
child_found parent c s zero row z = (_, refl)
child_found parent c s (suc i) row z = beside_found parent (stand_in c s i [] row) (stand_in c s (suc i) [] row) (row_found c s i row z)

-- No literal, and with k children or more.
record Open (k : ℕ) (n : Node) : Type 0 where
  kind : n.kind ≢ 2
  many : k ≤ n.children

-- the same node from another row
open_same : (f : Node → Node) (k : ℕ) (m n : Node) → ((n : Node) → (f n).kind ≡ n.kind) → ((n : Node) → (f n).children ≡ n.children) → f m ≡ n → Open k n
    → Open k m
open_same f k m n a b e o =
    let p = ap (λ (n : Node). n.kind) e in
    let q = ap (λ (n : Node). n.children) e in
    record { kind = λ t. o.kind (sym p ∙ a m ∙ t); many = omega (arith, b m, o.many) }

in_found : (k : ℕ) (c : Chain) (s : Position) (i : ℕ) (path : List ℕ) (row : Row) (n : Node) → node_at i path (shown row) ≡ some n → Open k n
    → HasSpot (spot_in k c s i path row)
unfolding spot_in
in_found k c s i path nil n e o = absurd (none-ne-some n e)
in_found k c s zero [] (agg h cs rest) n e o =
    child_found h c (into s h rest) k cs (omega
    (arith, o.many, ap (λ (n : Node). n.children) (some-injective (branch_node h (shown cs)) n e), breadth_shown cs))
in_found k c s zero (j ∷ path) (agg h cs rest) n e o =
    let (m, g, f) = unmap lower (node_at j path (shown cs)) n e in
    in_found k c (into s h rest) j path cs m g (open_same lower k m n (λ n. refl) (λ n. refl) f o)
in_found k c s (suc i) path (agg h cs rest) n e o =
    let (m, g, f) = unmap (further 1) (node_at i path (shown rest)) n e in
    in_found k c (past s (agg h cs nil)) i path rest m g (open_same (further 1) k m n (λ n. refl) (λ n. refl) f o)
in_found k c s zero [] (lit h x rest) n e o = absurd (o.kind (sym (ap (λ (n : Node). n.kind) (some-injective (leaf_node h x) n e))))
in_found k c s zero (j ∷ path) (lit h x rest) n e o = absurd (none-ne-some n e)
in_found k c s (suc i) path (lit h x rest) n e o =
    let (m, g, f) = unmap (further 1) (node_at i path (shown rest)) n e in
    in_found k c (past s (lit h x nil)) i path rest m g (open_same (further 1) k m n (λ n. refl) (λ n. refl) f o)
in_found k c s i path (rec q b r rest) n e o =
    cond_case HasSpot (ltb i (width r))
    (λ t. in_found k (below c s q b rest) (here nil) i path r n
    (sym (node_within i path r rest t) ∙ e) o)
    (λ t.
    let (m, g, f) = unmap (further (width r)) (node_at (i - width r) path (shown rest)) n (sym (node_beyond i path r rest t) ∙ e) in
    in_found k c (past s (rec q b r nil)) (i - width r) path rest m g (open_same (further (width r)) k m n (λ n. refl) (λ n. refl) f o))

-- A spot for what passes the tests of an insert.
pub spot_accepted : (root : Row) (path : List ℕ) (k : ℕ) (x : New) (full : Bool) → Accepted (shown root) path k x full
    → (t : Spot) × (spot_of root (path_of path) k ≡ some t)
spot_accepted root path k x full a = go (entries path) a.named a.aggregate a.within
  where
    under : (p : List ℕ) (o : Option Node) → named (shown root) p ≡ o → is_none o ≡ false → is_literal o ≡ false → children_below k o ≡ false
        → HasSpot (spot_of root p k)
    under p none e f g h = absurd (true≢false f)
    under p (some n) e f g h = in_found k top (here nil) 0 p root n e (record { kind = eqb-false n.kind 2 g; many = ltb-false n.children k h })

    go : (o : Option (List ℕ)) → is_none (named_if (shown root) o) ≡ false → is_literal (named_if (shown root) o) ≡ false
        → children_below k (named_if (shown root) o) ≡ false → HasSpot (spot_of root (or_empty o) k)
    go none f g h = absurd (true≢false f)
    go (some p) f g h = under p (named (shown root) p) refl f g h
