-- Growth keeps the rules: every record of the new row fits its page and has the shape of a record.
use Rattle.std.specs.Prelude.{◌≡◌, refl, Bool, cond, List, [], ◌∷◌, ℕ, zero, suc, ◌+◌, ◌≤◌, ◌<◌, max, length, leb, eqb}
use Rattle.std.proofs.Math.Bool.{true, false}
use Rattle.std.proofs.lemmas.Bool.{false≢true}
use native.Mathlib.Omega.{arith}
use borrow.Author.Tests.{leb-true, leb-false}
use Rattle.model.specs.Limits.{capacity, most_content, most_node}
use Rattle.model.specs.Row.{Head, Row, nil, agg, lit, rec, ◌⊹◌, size, lone, base, record_size, Config, node_count, height}
use Rattle.theory_rows.specs.Fits.{Ranges, HeadFits, Fits, Shape, one, more, IsByte}
use Rattle.model.specs.Tree.{Tree, end, branch, leaf, ◌⊞◌, shown, New, new_node, put_at, insert_at}
use Rattle.model.specs.Claims.{root_row}
use Rattle.model.specs.Growth.{Work, Out, on_row, split_point, cut_from, separate, grouped, group, separator, kept, close, counted, freed, as_row, place, apart}
use Rattle.theory_rows.specs.Laws.{size-⊹, cond_case, two_nodes}
use Rattle.theory_rows.specs.Shows.{shape_node_count, node_count_some}
use Rattle.theory_rows.specs.Cut.{by_root, cut_through}
use Rattle.theory_rows.specs.Bound.{depth, split_good, Fits-⊹, base_le}

-- ── levels ──

abbrev pub levels : Tree → ℕ
levels end = 0
levels (branch l cs rest) = max (1 + levels cs) (levels rest)
levels (leaf l c rest) = max 1 (levels rest)

levels-⊞ : (a b : Tree) → levels (a ⊞ b) ≡ max (levels a) (levels b)
levels-⊞ end b = omega arith
levels-⊞ (branch l cs rest) b = rw (levels-⊞ rest b) (omega arith)
levels-⊞ (leaf l c rest) b = rw (levels-⊞ rest b) (omega arith)

pub height_shown : (r : Row) → height r ≡ levels (shown r)
height_shown nil = refl
height_shown (agg l cs rest) = rw (height_shown cs, height_shown rest)
height_shown (lit l c rest) = rw (height_shown rest)
height_shown (rec p s r rest) = rw (levels-⊞ (shown r) (shown rest), height_shown r, height_shown rest)

levels_new : (x : New) (t : Tree) → levels (new_node x t) ≡ max 1 (levels t)
levels_new x t = cond_case (λ u. levels u ≡ max 1 (levels t)) (eqb x.kind 1) (λ _. omega arith) (λ _. refl)

levels_put_at : (x : New) (k : ℕ) (t : Tree) → levels (put_at x k t) ≤ max 1 (levels t)
levels_put_at x zero t = omega (arith, levels_new x t)
levels_put_at x (suc k) end = omega arith
levels_put_at x (suc k) (branch l cs rest) = omega (arith, levels_put_at x k rest)
levels_put_at x (suc k) (leaf l c rest) = omega (arith, levels_put_at x k rest)

pub levels_insert_at : (x : New) (k i : ℕ) (path : List ℕ) (t : Tree) → levels (insert_at x k i path t) ≤ max (length path + 2) (levels t)
levels_insert_at x k i path end = omega arith
levels_insert_at x k zero [] (branch l cs rest) = omega (arith, levels_put_at x k cs)
levels_insert_at x k zero (j ∷ path) (branch l cs rest) = omega (arith, levels_insert_at x k j path cs)
levels_insert_at x k (suc i) path (branch l cs rest) = omega (arith, levels_insert_at x k i path rest)
levels_insert_at x k zero path (leaf l c rest) = omega arith
levels_insert_at x k (suc i) path (leaf l c rest) = omega (arith, levels_insert_at x k i path rest)

tall : (r : Row) → Fits r → 1 ≤ node_count r → 1 ≤ height r
tall nil f h = absurd (omega arith)
tall (agg l cs rest) f h = omega arith
tall (lit l c rest) f h = omega arith
tall (rec p s r rest) f h = omega (arith, tall r f.1 (shape_node_count f.0.shape))

pub depth_height : (r : Row) → Fits r → depth r ≤ height r
depth_height nil f = omega arith
depth_height (agg l cs rest) f = omega (arith, depth_height cs f.1, depth_height rest f.2)
depth_height (lit l c rest) f = omega (arith, depth_height rest f.3)
depth_height (rec p s r rest) f = omega (arith, tall r f.1 (shape_node_count f.0.shape), depth_height rest f.2)

-- ── the shape of a record's row ──

pub node_count-⊹ : (a b : Row) → node_count (a ⊹ b) ≡ node_count a + node_count b
node_count-⊹ nil b = omega arith
node_count-⊹ (agg l cs rest) b = rw (node_count-⊹ rest b) (omega arith)
node_count-⊹ (lit l c rest) b = rw (node_count-⊹ rest b) (omega arith)
node_count-⊹ (rec p s r rest) b = rw (node_count-⊹ rest b) (omega arith)

-- What growth makes of a row: it fits, is at most 526 bytes larger, and has no fewer nodes.
pub record Grew (row : Row) (o : Out) : Type 0 where
  pub fits : Fits o.0
  pub grown : size o.0 ≤ size row + most_node
  pub keeps : node_count row ≤ node_count o.0
  pub root : lone row ≡ true → lone o.0 ≡ true

-- a record's row after growth: its shape and its size
pub shape_kept : {s : Bool} (r r' : Row) → Shape s r → node_count r ≤ node_count r' → (lone r ≡ true → lone r' ≡ true) → Shape s r'
shape_kept r r' (one e) n k = one (k e)
shape_kept r r' (more r₁ h) n k = more r' (omega arith)

pub base_kept : {s : Bool} (r r' : Row) → Shape s r → node_count r ≤ node_count r' → (lone r ≡ true → lone r' ≡ true) → base r' ≤ base r
base_kept r r' (one e) n k = rw (e, k e) (omega arith)
base_kept r r' (more r₁ h) n k = rw (two_nodes r h) (base_le r')

-- ── a record after growth ──

-- The separator of a record of one node has one node.
pub separator_lone : (st : Config) → st.tolerance ≤ 512 → (near : ℕ) (r : Row) (w : Work) → Fits r → capacity < record_size r → lone r ≡ true
    → lone (separator st near r w).0 ≡ true
unfolding separator separate grouped
separator_lone st tol near r w =
    let p = split_point st (record_size r) in
    by_root (λ b x. b ≡ true → lone (separate (group st near) (cut_from st p (cond b 0 6) nil x) w).0 ≡ true) (λ _ e. absurd (false≢true e))
    (λ h cs big _. rw (cut_through st tol p h cs big)) r

pub as_row_lone : (st : Config) (x : New) → lone (as_row st x nil) ≡ true
as_row_lone st x = cond_case (λ (r : Row). lone r ≡ true) (eqb x.kind 1) (λ _. refl) (λ _. refl)

module _ (st : Config) (k : Ranges st) where
  -- what stands where a record's proxy stood
  pub record Closed (rest : Row) (o : Out) : Type 0 where
    pub fits : Fits o.0
    pub grown : size o.0 ≤ size rest + 506
    pub keeps : suc (node_count rest) ≤ node_count o.0

  pub close_good : (q : ℕ) (s : Bool) (rest : Row) (o : Out) → Fits rest → Fits o.0 → Shape s o.0 → depth (root_row (lone o.0) o.0) ≤ 23
      → record_size o.0 ≤ (capacity + most_node)
      → Closed rest (close st q s rest o)
  unfolding close kept
  close_good q true rest o g f (one e) h m =
      cond_case (λ (y : Out). Closed rest (on_row (λ r. rec q true r rest) y)) (leb (record_size o.0) capacity)
      (λ t. record { fits = (record { fits = leb-true (record_size o.0) capacity t; shape = one e }, f, g); grown = omega arith; keeps = omega arith })
      (λ t.
      let w = counted st o.0 o.1 in
      let b = split_good st k q o.0 w f (leb-false (record_size o.0) capacity t) m h in
      let z = separator_lone st k.tol q o.0 w f (leb-false (record_size o.0) capacity t) e in
      record { fits = (record { fits = rw z (omega (arith, b.small)); shape = one z }, b.fits, g); grown = omega arith; keeps = omega arith })
  close_good q false rest o g f a h m =
      cond_case (Closed rest) (leb (record_size o.0) capacity)
      (λ t. record { fits = (record { fits = leb-true (record_size o.0) capacity t; shape = a }, f, g); grown = omega arith; keeps = omega arith })
      (λ t.
      let w = freed st q (counted st o.0 o.1) in
      let b = split_good st k q o.0 w f (leb-false (record_size o.0) capacity t) m h in
      let sep = (separator st q o.0 w).0 in
      record {
        fits = Fits-⊹ sep rest b.fits g;
        grown = omega (arith, size-⊹ sep rest, b.small);
        keeps = omega (arith, node_count-⊹ sep rest, node_count_some sep b.some);
      })

  module _ (x : New) (head : HeadFits x.head) (long : length x.content ≤ most_content) (byte : IsByte x.content) where
    -- the new node in front of a row
    pub record Placed (rest : Row) (o : Out) : Type 0 where
      pub fits : Fits o.0
      pub grown : size o.0 ≤ size rest + most_node
      pub keeps : suc (node_count rest) ≤ node_count o.0

    as_row_good : (rest : Row) (w : Work) → Fits rest → Placed rest (as_row st x rest, w)
    as_row_good rest w f =
        cond_case (λ (r : Row). Placed rest (r, w)) (eqb x.kind 1)
        (λ _. record { fits = (head, tt, f); grown = omega arith; keeps = omega arith })
        (λ _. record { fits = (head, long, byte, f); grown = omega arith; keeps = omega arith })

    pub place_good : (l : Head) (page : ℕ) (rest : Row) (w : Work) → Fits rest → Placed rest (place st x l page rest w)
    place_good l page rest w f =
        cond_case (Placed rest) (apart st l x.head)
        (λ _.
        let a = as_row_good nil w tt in
        let e : base (as_row st x nil) ≡ 0 = rw (as_row_lone st x) in
        record { fits = (record { fits = omega (arith, a.grown); shape = one (as_row_lone st x) }, a.fits, f); grown = omega arith; keeps = omega arith })
        (λ _. as_row_good rest w f)
