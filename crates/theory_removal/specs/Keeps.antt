-- Removal keeps the rules: the records that are left fit their pages and have the shape of a record, and no page is named anew.
use Rattle.std.specs.Prelude.{◌≡◌, refl, Bool, true, false, cond, ◌&&◌, List, ◌∷◌, ℕ, ◌+◌, ◌≤◌, leb, eqb}
use Rattle.std.proofs.Common.{sym, subst, ◌∙◌, true≢false, arith, leb-true, leb-false}
use Rattle.std.proofs.Math.Path.{ap}
use Rattle.std.proofs.lemmas.Bool.{false≢true}
use Rattle.std.proofs.Math.Option.{some}
use Rattle.model.specs.Row.{Row, nil, agg, lit, rec, store, ◌⊹◌, size, lone, lone_rec, node_count, base, count, Config}
use Rattle.model.specs.Tree.{Tree, end, branch, leaf, ◌⊞◌, shown, remove_at}
use Rattle.model.specs.Spot.{Position, here, inside, fill, Chain, top, below, whole, Stand, stand_of}
use Rattle.model.specs.Removal.{replaced, lost, without, removed, from_stand}
use Rattle.theory_rows.specs.Fits.{Fits, RecordFits, Shape, one, more, Valid}
use Rattle.theory_rows.specs.Laws.{cond_case, size-⊹, shown-⊹, is_nil_nil}
use Rattle.theory_rows.specs.Bound.{Fits-⊹, fits_parts}
use Rattle.theory_rows.specs.Pages.{bit, count-⊹}
use Rattle.theory_rows.specs.Keeps.{node_count-⊹, height_shown, levels, shape_kept, base_kept}
use Rattle.theory_growth.specs.Chain.{size_fill, nodes_fill, fits_fill, fits_refill, chain_fits, last_settled, lone_inside, lone_proxy, count_refill}
use Rattle.theory_growth.specs.Chain.{count_chain}
use Rattle.theory_growth.specs.Shown.{around, above, shown_fill, shown_whole}
use Rattle.theory_growth.specs.Stand.{NotAlone}
use Rattle.theory_growth.specs.Store.{settled_lone, is_branch, agg_branch}
use Rattle.theory_removal.specs.Laws.{levels_remove_at}
use Rattle.theory_removal.specs.Stand.{Leaves, stand_leaves, stand_names}

-- ── one proxy ──

-- A row of one proxy, by its parts.
pub record Proxy (r : Row) : Type 0 where
  pub page : ℕ
  pub settled : Bool
  pub inside : Row
  pub is : r ≡ rec page settled inside nil

pub proxy_of_lem : (r : Row) → lone_rec r ≡ true → Proxy r
proxy_of_lem nil e = absurd (false≢true e)
proxy_of_lem (agg h cs rest) e = absurd (false≢true e)
proxy_of_lem (lit h c rest) e = absurd (false≢true e)
proxy_of_lem (rec p s r rest) e = record { page = p; settled = s; inside = r; is = ap (rec p s r) (is_nil_nil rest e) }

-- One node is a proxy, or a record's root.
one_node : (r : Row) → node_count r ≡ 1 → lone_rec r ≡ false → lone r ≡ true
one_node nil n e = absurd (omega arith)
one_node (agg h cs nil) n e = refl
one_node (agg h cs (agg k ds rest)) n e = absurd (omega arith)
one_node (agg h cs (lit k c rest)) n e = absurd (omega arith)
one_node (agg h cs (rec p s r rest)) n e = absurd (omega arith)
one_node (lit h x nil) n e = refl
one_node (lit h x (agg k ds rest)) n e = absurd (omega arith)
one_node (lit h x (lit k c rest)) n e = absurd (omega arith)
one_node (lit h x (rec p s r rest)) n e = absurd (omega arith)
one_node (rec p s r nil) n e = absurd (true≢false e)
one_node (rec p s r (agg k ds rest)) n e = absurd (omega arith)
one_node (rec p s r (lit k c rest)) n e = absurd (omega arith)
one_node (rec p s r (rec k t x rest)) n e = absurd (omega arith)

-- ── the record that the node left ──

module _ (s : Position) (node rest : Row) (o : NotAlone s (node ⊹ rest)) (n : node_count node ≡ 1) where
  abbrev old : Row
  old = fill s (node ⊹ rest)

  abbrev left : Row
  left = fill s rest

  -- A record of one node loses it not: the node stands inside its root.
  lone_left : lone old ≡ true → lone left ≡ true
  lone_left e = go s o e
    where
      go : (s : Position) → NotAlone s (node ⊹ rest) → lone (fill s (node ⊹ rest)) ≡ true → lone (fill s rest) ≡ true
      go (here left) o e = absurd (true≢false (sym e ∙ o))
      go (inside left h right s) o e = lone_inside left h right (fill s rest) (fill s (node ⊹ rest)) ∙ e

  nodes_left : node_count old ≤ node_count left + 1
  nodes_left = go s
    where
      go : (s : Position) → node_count (fill s (node ⊹ rest)) ≤ node_count (fill s rest) + 1
      go (here left) = omega (arith, node_count-⊹ left (node ⊹ rest), node_count-⊹ left rest, node_count-⊹ node rest)
      go (inside left h right s) = omega (arith, node_count-⊹ left (agg h (fill s rest) right), node_count-⊹ left (agg h (fill s (node ⊹ rest)) right))

  size_left : size left + size node ≡ size old
  size_left = omega (arith, size_fill s rest (node ⊹ rest), size-⊹ node rest)

  -- What is left fits, but for a helper with one proxy.
  pub record_left : (b : Bool) → RecordFits b old → lone_rec left ≡ false → RecordFits b left
  record_left b f p = record { fits = omega (arith, size_left, f.fits, six); shape = go refl f.shape }
    where
      most : (l : Bool) → cond l 0 6 ≤ 6
      most true = omega arith
      most false = omega arith

      low : (l : Bool) → lone old ≡ l → cond (lone left) 0 6 ≤ cond l 0 6
      low true e = rw (lone_left e) (omega arith)
      low false e = most (lone left)

      six : base left ≤ base old
      six = low (lone old) refl

      two : 2 ≤ node_count old → (l : Bool) → leb 2 (node_count left) ≡ l → Shape false left
      two h true e = more left (leb-true 2 (node_count left) e)
      two h false e = one (one_node left (omega (arith, leb-false 2 (node_count left) e, nodes_left)) p)

      go : {b : Bool} {r : Row} → r ≡ old → Shape b r → Shape b left
      go z (one e) = one (lone_left (ap lone (sym z) ∙ e))
      go z (more r h) = two (omega (arith, ap node_count z)) (leb 2 (node_count left)) refl

-- ── the records above ──

-- A record with another row in the place of a proxy and what follows it, of as many bytes and nodes.
swap_fits : (b : Bool) (s : Position) (q : ℕ) (t : Bool) (r rest y : Row) → RecordFits b (fill s (rec q t r rest)) → size y ≡ size (rec q t r rest)
    → node_count y ≡ node_count (rec q t r rest) → RecordFits b (fill s y)
swap_fits b s q t r rest y f z n =
    let x = rec q t r rest in
    let k : node_count (fill s x) ≤ node_count (fill s y) = nodes_fill s x y (omega arith) in
    let l : lone (fill s x) ≡ true → lone (fill s y) ≡ true = λ e. lone_proxy s q t r rest e y in
    record {
      fits = omega (arith, f.fits, size_fill s x y, base_kept (fill s x) (fill s y) f.shape k l);
      shape = shape_kept (fill s x) (fill s y) f.shape k l;
    }

-- Another row in the last record of a chain, which fits.
fits_swap : (c : Chain) (x y : Row) → RecordFits (last_settled c) y → Fits y → Fits (store (whole c x)) → Fits (store (whole c y))
fits_swap top x y f g k = (f, g, tt)
fits_swap (below c s q b rest) x y f g k =
    let up = chain_fits c (fill s (rec q b x rest)) k in
    fits_swap c (fill s (rec q b x rest)) (fill s (rec q b y rest)) (swap_fits (last_settled c) s q b x rest (rec q b y rest) up.0 refl refl)
    (fits_refill s (rec q b x rest) (rec q b y rest) up.1 (f, g, (fits_fill s (rec q b x rest) up.1).2)) k

-- ── what is left ──

lone_no_proxy : (r : Row) → lone r ≡ true → lone_rec r ≡ false
lone_no_proxy nil e = refl
lone_no_proxy (agg h cs rest) e = refl
lone_no_proxy (lit h c rest) e = refl
lone_no_proxy (rec p s r rest) e = absurd (false≢true e)

module _ (s : Position) (node rest : Row) (o : NotAlone s (node ⊹ rest)) (n : node_count node ≡ 1) where
  -- The records of what is left fit.
  lost_fits : (c : Chain) → Fits (store (whole c (fill s (node ⊹ rest)))) → Fits (store (lost c (fill s rest)))
  unfolding replaced
  lost_fits c f = go c f (fits_refill s (node ⊹ rest) rest own.1 (fits_parts node rest (fits_fill s (node ⊹ rest) own.1)).1)
    where
      own : RecordFits (last_settled c) (fill s (node ⊹ rest)) × Fits (fill s (node ⊹ rest))
      own = chain_fits c (fill s (node ⊹ rest)) f

      go : (c : Chain) → Fits (store (whole c (fill s (node ⊹ rest)))) → Fits (fill s rest) → Fits (store (lost c (fill s rest)))
      go top f g =
          let e = lone_left s node rest o n (settled_lone (fill s (node ⊹ rest)) f.0.shape) in
          (record_left s node rest o n true f.0 (lone_no_proxy (fill s rest) e), g, tt)
      go (below c u q b tail) f g =
          let old = fill s (node ⊹ rest) in
          let left = fill s rest in
          let up = chain_fits c (fill u (rec q b old tail)) f in
          let after = (fits_fill u (rec q b old tail) up.1).2 in
          cond_case (λ (y : Row). Fits (store (whole c (fill u y)))) (lone_rec left)
          (λ e.
          let p = proxy_of_lem left e in
          let y = left ⊹ tail in
          fits_swap c (fill u (rec q b old tail)) (fill u y)
          (swap_fits (last_settled c) u q b old tail y up.0 (omega (arith, size-⊹ left tail, ap size p.is))
          (omega (arith, node_count-⊹ left tail, ap node_count p.is)))
          (fits_refill u (rec q b old tail) y up.1 (Fits-⊹ left tail g after)) f)
          (λ e. fits_swap (below c u q b tail) old left
          (record_left s node rest o n b (chain_fits (below c u q b tail) old f).0 e) g f)

-- It shows what was shown, but for what the last record lost.
shown_replaced : (q : ℕ) (b : Bool) (r rest : Row) → shown (replaced q b r rest) ≡ shown r ⊞ shown rest
unfolding replaced
shown_replaced q b r rest = cond_case (λ (y : Row). shown y ≡ shown r ⊞ shown rest) (lone_rec r) (λ _. shown-⊹ r rest) (λ _. refl)

shown_lost : (c : Chain) (row : Row) → shown (lost c row) ≡ above c (shown row)
shown_lost top row = refl
shown_lost (below c s q b rest) row =
    shown_whole c (fill s (replaced q b row rest)) ∙ ap (above c) (shown_fill s (replaced q b row rest) ∙ ap (around s) (shown_replaced q b row rest))

-- ── the pages ──

-- The page of a helper that is replaced by a proxy child.
abbrev pub helper_freed : Chain → (row : Row) → ℕ → Bool
helper_freed top row q = false
helper_freed (below c s p b rest) row q = lone_rec row && eqb q p

count_lost : (q : ℕ) (c : Chain) (row : Row) → count q (lost c row) + bit (helper_freed c row q) ≡ count q (whole c row)
unfolding replaced
count_lost q top row = omega arith
count_lost q (below c s p b rest) row = go (lone_rec row)
  where
    go : (l : Bool) → count q (whole c (fill s (cond l (row ⊹ rest) (rec p b row rest)))) + bit (l && eqb q p) ≡ count q (whole c (fill s (rec p b row rest)))
    go true =
        omega (
          arith,
          count_chain q c (fill s (row ⊹ rest)),
          count_chain q c (fill s (rec p b row rest)),
          count_refill q s (rec p b row rest) (row ⊹ rest),
          count-⊹ q row rest,
        )
    go false = omega arith

-- ── a stand ──

module _ (root : Row) (new : Tree) (t : Stand) (l : Leaves root new t) where
  -- The tree shown is the plain tree's.
  without_shows : shown (without t) ≡ new
  without_shows = shown_lost t.chain (fill t.position t.rest) ∙ ap (above t.chain) (shown_fill t.position t.rest) ∙ l.shows

  -- A page that was named is named still, or is one of the branch's, or a replaced helper's; none is named anew.
  pub without_names : (q : ℕ) → count q (without t) + bit (helper_freed t.chain (fill t.position t.rest) q) + count q t.node ≡ count q root
  without_names q =
      let left = fill t.position t.rest in
      omega (arith, count_lost q t.chain left, count_chain q t.chain left, stand_names root new t l q)

  without_fits : Fits (store root) → Fits (store (without t))
  without_fits f = lost_fits t.position t.node t.rest l.not_alone l.one t.chain (subst (λ (r : Row). Fits (store r)) (sym l.held) f)

  -- The root record is no helper's.
  pub root_stays : Fits (store root) → t.chain ≡ top → lone_rec (fill t.position t.rest) ≡ false
  root_stays f e =
      let is : fill t.position (t.node ⊹ t.rest) ≡ root = ap (λ (c : Chain). whole c (fill t.position (t.node ⊹ t.rest))) (sym e) ∙ l.held in
      lone_no_proxy (fill t.position t.rest)
      (lone_left t.position t.node t.rest l.not_alone l.one (ap lone is ∙ settled_lone root f.0.shape))

-- ── a removal ──

branch_stays : (j : ℕ) (path : List ℕ) (t : Tree) → is_branch t ≡ true → is_branch (remove_at 0 (j ∷ path) t) ≡ true
branch_stays j path end e = e
branch_stays j path (branch h cs rest) e = refl
branch_stays j path (leaf h c rest) e = e

module _ (st : Config) (root : Row) (j : ℕ) (path : List ℕ) (t : Stand) (e : stand_of root (j ∷ path) ≡ some t) where
  -- A removal is the root record without the node.
  pub removed_is : removed root (j ∷ path) ≡ without t
  unfolding removed
  removed_is = ap (from_stand root) e

  pub removed_shows : shown (removed root (j ∷ path)) ≡ remove_at 0 (j ∷ path) (shown root)
  removed_shows = ap shown removed_is ∙ without_shows root _ t (stand_leaves root j path t e)

  pub removed_valid : Valid st root → Valid st (removed root (j ∷ path))
  removed_valid v =
      let l = stand_leaves root j path t e in
      let f = without_fits root _ t l v.rows in
      let shows = without_shows root _ t l in
      let alone : (r : Row) → Fits (store r) → lone r ≡ true = λ r f. settled_lone r f.0.shape in
      let was : is_branch (shown root) ≡ true = sym (agg_branch root (alone root v.rows)) ∙ v.top in
      subst (Valid st) (sym removed_is) (record {
        ranges = v.ranges;
        rows = f;
        top = agg_branch (without t) (alone (without t) f) ∙ ap is_branch shows ∙ branch_stays j path (shown root) was;
        levels = omega (arith, height_shown (without t), ap levels shows, levels_remove_at 0 (j ∷ path) (shown root), height_shown root, v.levels);
        placed = λ q. omega (arith, without_names root _ t l q, v.placed q);
      })
