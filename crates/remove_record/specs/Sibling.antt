-- The only sibling of a node: the other child of a helper with two.
use Rattle.std.specs.Prelude.{◌≡◌, refl, Bool, true, false, cond, List, ℕ, ◌+◌, ◌≤◌, eqb, length, Option, Some, None}
use Rattle.std.proofs.Common.{sym, ap, subst, ◌∙◌, true≢false, ⊎_elim, arith, eq-eqb, eqb-true}
use Rattle.model.specs.Limits.{capacity}
use Rattle.model.specs.Row.{Row, nil, agg, lit, rec, ◌⊹◌, size, node_count, base, record_size}
use Rattle.model.specs.Reading.{kind_at, size_at}
use Rattle.model.specs.Spot.{Position, here, inside, fill}
use Rattle.theory_rows.specs.Laws.{two_nodes, not_nil, size_nil, is_nil_nil, size-⊹, ⊹-nil, nodes_nil, nodes_size}
use Rattle.theory_rows.specs.Image.{length_record}
use Rattle.theory_rows.specs.Shows.{node_count_some}
use Rattle.theory_rows.specs.Keeps.{node_count-⊹}
use Rattle.theory_row_bytes.specs.RowAt.{RowAt, FirstNode, first_node, row_split, RecordIs, RecordAt, record_whole, record_row_lem, record_first, size_of, rest_of, size_first}
use Rattle.theory_growth.specs.Chain.{before, offset_in}
use Rattle.grow_splice.specs.Position.{is_inside, parent, size_around, parent_in}
use Rattle.grow_locate.specs.Parent.{holder_in}
use Rattle.remove_record.specs.declared.Sibling.{Sibling}

-- ── rows of few nodes ──

nodes_first : (r : Row) → 1 ≤ node_count r → node_count r ≡ 1 + node_count (rest_of r)
nodes_first nil h = absurd (omega arith)
nodes_first (agg l cs rest) h = omega arith
nodes_first (lit l c rest) h = omega arith
nodes_first (rec p s r rest) h = omega arith

-- One node, and what stands behind it.
one_first : (a b : Row) → node_count a ≡ 1 → (size_of (a ⊹ b) ≡ size a) × (rest_of (a ⊹ b) ≡ b)
one_first nil b e = absurd (omega arith)
one_first (agg h cs r) b e = let n = nodes_nil r (omega arith) in (omega (arith, ap size n), ap (λ (z : Row). z ⊹ b) n)
one_first (lit h c r) b e = let n = nodes_nil r (omega arith) in (omega (arith, ap size n), ap (λ (z : Row). z ⊹ b) n)
one_first (rec p s x r) b e = let n = nodes_nil r (omega arith) in (omega (arith, ap size n), ap (λ (z : Row). z ⊹ b) n)

-- ── a record that is to lose a node ──

-- A record l; `node`, one node, stands in it at the byte pos, in the node at par, and `rest` after it. At the top of the record's row it has another beside it.
pub record Losing (l : List ℕ) (pos par : ℕ) : Type 0 where
  pub position : Position
  pub node : Row
  pub rest : Row
  pub is : RecordIs l (fill position (node ⊹ rest))
  pub small : record_size (fill position (node ⊹ rest)) ≤ capacity
  pub one : node_count node ≡ 1
  pub offset : pos ≡ offset_in position (node ⊹ rest)
  pub holder : par ≡ holder_in position (node ⊹ rest)
  pub beside : is_inside position ≡ false → 2 ≤ node_count (fill position (node ⊹ rest))

-- The row is one node, which stands from start to end.
pub record Alone (l : List ℕ) (start end : ℕ) (row : Row) : Type 0 where
  pub one : node_count row ≡ 1
  pub at : RowAt l start row
  pub ends : end ≡ start + size row

-- The sibling is all that is left of the record's row without the node; with none found, a helper keeps two children or more.
abbrev pub SiblingIs : {l : List ℕ} {pos par : ℕ} → Losing l pos par → Option Sibling → Type 0
SiblingIs w None = is_inside w.position ≡ false → 2 ≤ node_count (fill w.position w.rest)
SiblingIs {l} w (Some r) = Alone l r.start r.end (fill w.position w.rest)

-- The node is a child of the record's helper, behind `left`.
pub record AtTop {l : List ℕ} {pos par : ℕ} (w : Losing l pos par) : Type 0 where
  pub left : Row
  pub is : w.position ≡ here left
  pub stands : RowAt l 6 (left ⊹ w.node ⊹ w.rest)
  pub long : length l ≡ 6 + size (left ⊹ w.node ⊹ w.rest)
  pub starts : pos ≡ 6 + size left
  pub many : 2 ≤ node_count (left ⊹ w.node ⊹ w.rest)

module _ {l : List ℕ} {pos par : ℕ} (w : Losing l pos par) where
  abbrev row : Row
  row = fill w.position (w.node ⊹ w.rest)

  starts : RecordAt l 0 row
  starts = record_whole w.is

  pub long : length l ≡ record_size row
  long = ap length w.is ∙ length_record row

  pub some : 6 ≤ length l
  some = omega (arith, long, size_around w.position (w.node ⊹ w.rest), size-⊹ w.node w.rest, nodes_size w.node (omega (arith, w.one)))

  -- At the top of a row the node is a child of a helper, which is known by its kind, and no other node of the record holds it.
  pub top_helper : is_inside w.position ≡ false → kind_at l 0 ≡ 4
  top_helper e =
      let b : base row ≡ 6 = rw (two_nodes row (w.beside e)) in
      go (eqb (kind_at l 0) 4) refl (record_first starts ∙ b)
    where
      go : (u : Bool) → eqb (kind_at l 0) 4 ≡ u → ◌≡◌ {A = ℕ} (cond u 6 0) 6 → kind_at l 0 ≡ 4
      go true k f = eqb-true (kind_at l 0) 4 k
      go false k f = absurd (omega arith)

  pub top_holder : is_inside w.position ≡ false → par ≡ 0
  top_holder e = w.holder ∙ go w.position e (base row)
    where
      go : (s : Position) → is_inside s ≡ false → (b : ℕ) → parent 0 b s ≡ 0
      go (here left) e b = refl
      go (inside left h right s) e b = absurd (true≢false e)

  -- Past the code's first two tests it is one.
  pub at_top : par ≡ 0 → kind_at l 0 ≡ 4 → AtTop w
  at_top p k = go w.position refl
    where
      six : base row ≡ 6
      six = sym (record_first starts) ∙ ap {B = ℕ} (λ (u : Bool). cond u 6 0) (eq-eqb (kind_at l 0) 4 k)

      six' : 0 + base row ≡ 6
      six' = omega (arith, six)

      go : (s : Position) → w.position ≡ s → AtTop w
      go (here left) e =
          let r = left ⊹ w.node ⊹ w.rest in
          let e' : row ≡ r = ap (λ (z : Position). fill z (w.node ⊹ w.rest)) e in
          record {
            left = left;
            is = e;
            stands = subst (λ (z : Row). RowAt l 6 z) e' (subst (λ (n : ℕ). RowAt l n row) six' (record_row_lem starts));
            long = omega (arith, long, six, ap size e');
            starts = omega (arith, w.offset, six, ap before e);
            many = subst (λ (z : Row). 2 ≤ node_count z) e' (w.beside (ap is_inside e));
          }
      go (inside left h right s) e =
          let z : par ≡ parent 0 6 (inside left h right s) = w.holder ∙ (λ i. parent 0 (six i) (e i)) in
          absurd (⊎_elim (λ v. omega arith) (λ v. omega arith) (parent_in s (6 + size left) (6 + size left + 6) (omega arith)))

-- ── what is left of a helper's children ──

module _ {l : List ℕ} {pos par : ℕ} (w : Losing l pos par) (t : AtTop w) where
  abbrev kids : Row
  kids = t.left ⊹ w.node ⊹ w.rest

  small : length l ≤ capacity
  small = omega (arith, long w, w.small)

  kids_nodes : node_count kids ≡ node_count t.left + (1 + node_count w.rest)
  kids_nodes = omega (arith, node_count-⊹ t.left (w.node ⊹ w.rest), node_count-⊹ w.node w.rest, w.one)

  left_nodes : node_count (fill w.position w.rest) ≡ node_count t.left + node_count w.rest
  left_nodes = ap (λ (s : Position). node_count (fill s w.rest)) t.is ∙ node_count-⊹ t.left w.rest

  first : FirstNode l 6 kids
  first = first_node l 6 kids (omega (arith, nodes_size kids (omega (arith, t.many)))) (omega (arith, small, t.long)) t.stands

  second : FirstNode l (6 + size_of kids) (rest_of kids)
  second =
      let n = nodes_first kids (omega (arith, t.many)) in
      let some = nodes_size (rest_of kids) (omega (arith, t.many)) in
      first_node l (6 + size_of kids) (rest_of kids) (omega arith) (omega (arith, small, t.long, size_first kids)) first.rest

  pub first_fits : 12 ≤ length l
  first_fits = omega (arith, first.within, first.total, first.more)

  -- The code's numbers: m is where the second child starts, n where it ends.
  module _ (m : ℕ) (m-is : m ≡ 6 + size_at l 6) where
    starts_at : m ≡ 6 + size_of kids
    starts_at = omega (arith, first.size_is)

    pub second_fits : m + 6 ≤ length l
    second_fits = omega (arith, starts_at, second.within, second.total, second.more)

    module _ (n : ℕ) (n_is : n ≡ m + size_at l m) where
      -- what stands past it
      beyond : length l ≡ n + size (rest_of (rest_of kids))
      beyond = omega (arith, starts_at, n_is, ap (size_at l) starts_at, second.size_is, t.long, size_first kids, size_first (rest_of kids))

      nodes : node_count kids ≡ 2 + node_count (rest_of (rest_of kids))
      nodes =
          let f = nodes_first kids (omega (arith, t.many)) in
          omega (arith, f, nodes_first (rest_of kids) (omega (arith, t.many)))

      pub keeps_two : (n ≡ length l → ⊥) → 2 ≤ node_count (fill w.position w.rest)
      keeps_two k =
          let r = rest_of (rest_of kids) in
          omega (arith, nodes, kids_nodes, left_nodes, node_count_some r (not_nil r (omega (arith, beyond))))

      two : n ≡ length l → node_count kids ≡ 2
      two e = omega (arith, nodes, ap node_count (is_nil_nil (rest_of (rest_of kids)) (size_nil (rest_of (rest_of kids)) (omega (arith, beyond)))))

      pub leaves_second : n ≡ length l → pos ≡ 6 → Alone l m n (fill w.position w.rest)
      leaves_second e p =
          let none = is_nil_nil t.left (size_nil t.left (omega (arith, t.starts))) in
          let is : fill w.position w.rest ≡ w.rest =
          ap (λ (s : Position). fill s w.rest) t.is ∙ ap (λ (z : Row). z ⊹ w.rest) none in
          let after : rest_of kids ≡ w.rest =
          ap (λ (z : Row). rest_of (z ⊹ w.node ⊹ w.rest)) none ∙ (one_first w.node w.rest w.one).1 in
          let at : RowAt l m w.rest =
          subst (λ (z : ℕ). RowAt l z w.rest) (sym starts_at) (subst (λ (r : Row). RowAt l (6 + size_of kids) r) after first.rest) in
          rw is (record {
            one = omega (arith, two e, kids_nodes, ap node_count none);
            at = at;
            ends = omega (arith, starts_at, t.long, size_first kids, ap size after);
          })

      pub leaves_first : n ≡ length l → (pos ≡ 6 → ⊥) → Alone l 6 m (fill w.position w.rest)
      leaves_first e p =
          let a = t.left in
          let one : node_count a ≡ 1 = omega (arith, two e, kids_nodes, node_count_some a (not_nil a (omega (arith, t.starts)))) in
          let none = nodes_nil w.rest (omega (arith, two e, kids_nodes)) in
          let is : fill w.position w.rest ≡ a =
          ap (λ (s : Position). fill s w.rest) t.is ∙ ap (λ (z : Row). a ⊹ z) none ∙ ⊹-nil a in
          rw is (record {
            one = one;
            at = (row_split l 6 a (w.node ⊹ w.rest) t.stands).0;
            ends = omega (arith, starts_at, (one_first a (w.node ⊹ w.rest) one).0);
          })
