-- What the walk makes of the bytes of one node, and of a list that starts with it.
use Rattle.std.specs.Prelude.{◌≡◌, Bool, true, false, cond, ◌&&◌, List, [], ◌++◌, ℕ, ◌+◌, ◌≤◌, ◌<◌}
use Rattle.std.proofs.Math.Path.{refl}
use Rattle.std.proofs.Common.{sym, ap, ◌∙◌, take_at, drop_at}
use Rattle.std.proofs.lemmas.Bool.{false≢true}
use native.Mathlib.Omega.{arith}
use Rattle.std.proofs.Math.ListN.{length, length-append}
use Rattle.std.proofs.Math.Seq.{take-length, drop-length}
use borrow.Author.Tests.{le-ltb, lt-ltb, le-leb, eq-eqb, ne_eqb}
use Rattle.model.specs.Limits.{capacity, most_content, most_node, most_levels, most_origin}
use Rattle.model.specs.Row.{Row, nil, agg, lit, rec, size, lone, node_count, two, header, bytes, record_bytes, may_stand, standing, by_table, no_head, Head}
use Rattle.model.specs.Reading.{two_at, size_at}
use Rattle.theory_rows.specs.Laws.{length_bytes, is_nil_nil, ⊹-nil}
use Rattle.theory_rows.specs.Fits.{Shape, one, more, RecordFits, HeadFits}
use Rattle.theory_decoding.specs.Decode.{two_bytes}
use Rattle.model.specs.WalkTests.{whole_size, two_children, bare_head, shape_of, passing_kind}
use Rattle.theory_check.specs.Walk.{State, Decoded, as_agg, before, node_step, node_of, list_of, proxy_of}
use Rattle.theory_check.specs.Steps.{node_eq, list_none, list_more}

-- ── the tests ──

-- A node: its header, and n bytes inside.
abbrev pub whole : (kind : ℕ) → Head → (n : ℕ) → (inside : List ℕ) → List ℕ
whole k l n inside = header k l (6 + n) ++ inside

module _ (k : ℕ) (l : Head) (n : ℕ) (inside : List ℕ) (e : length inside ≡ n) (h : n ≤ capacity) where
  size_at_lem : (s : List ℕ) → size_at (header k l (6 + n) ++ s) 0 ≡ 6 + n
  unfolding two_at
  size_at_lem s = two_bytes (6 + n) (omega arith)

  size_node : (after : List ℕ) → whole_size (whole k l n inside ++ after) ≡ 6 + n
  unfolding whole_size
  size_node after =
      let m : length (whole k l n inside ++ after) ≡ 6 + n + length after = omega (arith, length-append inside after) in
      rw (
        size_at_lem (inside ++ after),
        m,
        le-leb 6 (6 + n + length after) (omega arith),
        le-leb 6 (6 + n) (omega arith),
        le-leb (6 + n) (6 + n + length after) (omega arith),
      )

  -- a node that keeps what its kind asks, where it may stand
  head_node : (holder : ℕ) → k ≤ 4 → l.origin ≤ most_origin → may_stand holder k ≡ true → shape_of (whole k l n inside) k ≡ true
      → passing_kind (whole k l n inside) holder ≡ k
  unfolding passing_kind
  head_node holder a o m s =
      let t : length (whole k l n inside) ≡ 6 + n = omega arith in
      rw (size_at_lem inside, t, le-leb 6 (6 + n) (omega arith), le-leb k 4 a, m, le-leb l.origin most_origin o, eq-eqb (6 + n) (6 + n) refl, s)

-- ── the walk ──

module _ (img : List ℕ) (page level : ℕ) (w : State) where
  module _ (l : Head) (n : ℕ) (inside : List ℕ) (e : length inside ≡ n) (h : n ≤ capacity) where
    -- the first node, then the others
    pub list_node : (k holder : ℕ) (after : List ℕ) (a d : Decoded) → 1 ≤ w.left → node_of img (whole k l n inside) page holder level w ≡ a
        → list_of img after page holder level a.walk ≡ d → list_of img (whole k l n inside ++ after) page holder level w ≡ before a d
    list_node k holder after a d f i j =
        let s = whole k l n inside ++ after in
        let z = size_node k l n inside e h after in
        let m : length (whole k l n inside) ≡ 6 + n = omega arith in
        list_more img s page holder level w (λ q. omega arith) (λ q. omega arith) (λ q. omega arith)
        ∙ rw (z, take_at (whole k l n inside) after (6 + n) m, drop_at (whole k l n inside) after (6 + n) m, i, j)

    pub agg_node : (holder : ℕ) → HeadFits l → may_stand holder 1 ≡ true → level ≤ most_levels
        → node_of img (whole 1 l n inside) page holder level w ≡ as_agg l (list_of img inside page 1 (level + 1) w)
    unfolding node_step shape_of two_at
    agg_node holder f m g =
        node_eq img (whole 1 l n inside) page holder level w
        ∙ rw (head_node 1 l n inside e h holder (omega arith) f.origin m refl, le-ltb most_levels level g, two_bytes l.label f.label)

    pub lit_node : (holder : ℕ) → HeadFits l → may_stand holder 2 ≡ true → level ≤ most_levels → n ≤ most_content
        → node_of img (whole 2 l n inside) page holder level w ≡ record { row = lit l inside nil; walk = w }
    unfolding node_step shape_of two_at
    lit_node holder f m g c =
        let short = le-leb (length (whole 2 l n inside)) most_node (omega arith) in
        node_eq img (whole 2 l n inside) page holder level w
        ∙ rw (head_node 2 l n inside e h holder (omega arith) f.origin m short, le-ltb most_levels level g, two_bytes l.label f.label)

    helper_node : two_children inside ≡ true → node_of img (whole 4 no_head n inside) page 0 level w ≡ list_of img inside page 4 level w
    unfolding node_step shape_of bare_head two_at may_stand standing
    helper_node c =
        node_eq img (whole 4 no_head n inside) page 0 level w
        ∙ rw (head_node 4 no_head n inside e h 0 (omega arith) (omega arith) refl c)

  pub rec_node : (p holder : ℕ) → p < 65536 → may_stand holder 3 ≡ true
      → node_of img (whole 3 no_head 2 (two p)) page holder level w ≡ proxy_of img p page level w
  unfolding node_step shape_of bare_head two_at
  rec_node p holder f m =
      node_eq img (whole 3 no_head 2 (two p)) page holder level w
      ∙ rw (head_node 3 no_head 2 (two p) refl (omega arith) holder (omega arith) (omega arith) m refl, two_bytes p f)

-- ── a record ──

-- the row after its first node
abbrev tail : Row → Row
tail nil = nil
tail (agg h cs rest) = rest
tail (lit h c rest) = rest
tail (rec p s r rest) = rest

-- the size of a row's first node
first : (r : Row) → size r ≤ capacity → 1 ≤ node_count r → (6 ≤ whole_size (bytes r)) × (whole_size (bytes r) + size (tail r) ≡ size r)
first nil f n = absurd (omega arith)
first (agg h cs rest) f n = omega (arith, size_node 1 h (size cs) (bytes cs) (length_bytes cs) (omega arith) (bytes rest))
first (lit h c rest) f n = omega (arith, size_node 2 h (length c) c refl (omega arith) (bytes rest))
first (rec p s r rest) f n = omega (arith, size_node 3 no_head 2 (two p) refl (omega arith) (bytes rest))

some_size : (r : Row) → 1 ≤ node_count r → 1 ≤ size r
some_size nil h = absurd (omega arith)
some_size (agg l cs rest) h = omega arith
some_size (lit l c rest) h = omega arith
some_size (rec p s r rest) h = omega arith

lone_tail : (r : Row) → lone r ≡ true → (tail r ≡ nil) × (1 ≤ node_count r)
lone_tail nil e = absurd (false≢true e)
lone_tail (agg h cs rest) e = (is_nil_nil rest e, omega arith)
lone_tail (lit h c rest) e = (is_nil_nil rest e, omega arith)
lone_tail (rec p s r rest) e = absurd (false≢true e)

more_tail : (r : Row) → 2 ≤ node_count r → 1 ≤ node_count (tail r)
more_tail nil h = absurd (omega arith)
more_tail (agg l cs rest) h = omega arith
more_tail (lit l c rest) h = omega arith
more_tail (rec p s r rest) h = omega arith

two_children_lem : (r : Row) → size r ≤ capacity → 2 ≤ node_count r → two_children (bytes r) ≡ true
unfolding two_children
two_children_lem r f h =
    let a = first r f (omega arith) in
    let b = some_size (tail r) (more_tail r h) in
    rw (ne_eqb (whole_size (bytes r)) 0 (λ z. omega arith), lt-ltb (whole_size (bytes r)) (length (bytes r)) (omega (arith, length_bytes r)))

not_lone : {s : Bool} {r : Row} → Shape s r → lone r ≡ false → 2 ≤ node_count r
not_lone (one e) h = absurd (false≢true (sym h ∙ e))
not_lone (more r h) e = h

module _ (img : List ℕ) (page level : ℕ) (w : State) (left : 1 ≤ w.left) where
  -- A list of one node is the node.
  pub alone : (holder : ℕ) (s : List ℕ) → 1 ≤ length s → whole_size s ≡ length s → list_of img s page holder level w ≡ node_of img s page holder level w
  alone holder s h e =
      let a = node_of img s page holder level w in
      list_more img s page holder level w (λ q. omega arith) (λ q. omega arith) (λ q. omega arith)
      ∙ rw (e, take-length s, drop-length s, list_none img [] page holder level a.walk refl, ⊹-nil a.row)

  -- a record is what its row is
  pub record_node : (s : Bool) (r : Row) (d : Decoded) → RecordFits s r → cond (lone r) (by_table 0 r) (may_stand 0 4 && by_table 4 r) ≡ true
      → ((holder : ℕ) → by_table holder r ≡ true → list_of img (bytes r) page holder level w ≡ d)
      → node_of img (record_bytes r) page 0 level w ≡ d
  unfolding may_stand standing
  record_node s r d f t inner = go (lone r) refl t
    where
      small : size r ≤ capacity
      small = omega (arith, f.fits)

      go : (b : Bool) → lone r ≡ b → cond b (by_table 0 r) (by_table 4 r) ≡ true
          → node_of img (cond b (bytes r) (header 4 no_head (6 + size r) ++ bytes r)) page 0 level w ≡ d
      go true e t =
          let a = lone_tail r e in
          let b = first r small a.1 in
          let n = length_bytes r in
          sym (alone 0 (bytes r) (omega arith) (omega (arith, ap size a.0))) ∙ inner 0 t
      go false e t = helper_node img page level w no_head (size r) (bytes r) (length_bytes r) small (two_children_lem r small (not_lone f.shape e)) ∙ inner 4 t
