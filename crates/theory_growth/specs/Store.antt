-- An insert at any spot of its gap, if it finds the pages it wants, leaves a valid store, which shows the plain tree's insert.
use Rattle.std.specs.Prelude.{◌≡◌, refl, Bool, true, false, cond, List, [], ◌∷◌, ℕ, ◌≤◌, length, eqb}
use Rattle.std.proofs.Common.{sym, subst, ◌∙◌, arith}
use Rattle.std.proofs.Math.Path.{ap}
use Rattle.std.proofs.lemmas.Bool.{false≢true}
use Rattle.std.proofs.Math.Option.{some}
use Rattle.model.specs.Limits.{most_content}
use Rattle.model.specs.Row.{Head, Row, nil, agg, lit, rec, store, ◌⊹◌, lone, node_count, Config, height, is_agg}
use Rattle.model.specs.Tree.{width, Tree, end, branch, leaf, shown, New, insert_at}
use Rattle.model.specs.Spot.{fill, last_page, Spot, spot_of, whole}
use Rattle.model.specs.Growth.{Work, Out, free_from, apart, as_row, place, received, risen, from_spot, at_rest, grow}
use Rattle.theory_rows.specs.Fits.{HeadFits, Fits, Shape, one, IsByte, Valid}
use Rattle.theory_rows.specs.Laws.{cond_case}
use Rattle.theory_rows.specs.Shows.{shown_place}
use Rattle.theory_rows.specs.Keeps.{levels, height_shown, levels_insert_at, Grew, place_good}
use Rattle.theory_rows.specs.Pages.{Tallies, reserved}
use Rattle.theory_rows.specs.Lean.{Leaned, lean_place}
use Rattle.theory_growth.specs.Chain.{both, size_fill, nodes_fill, fits_fill, fits_refill, chain_fits}
use Rattle.theory_growth.specs.Shown.{around, above, shown_fill, shown_whole, shown_rise, height_rise}
use Rattle.theory_growth.specs.Pages.{tally_risen, placed_risen}
use Rattle.theory_growth.specs.Keeps.{Grows, rise_good}
use Rattle.theory_growth.specs.Gap.{Gap, steady_lone, spot_gap}

pub record NewFits (x : New) : Type 0 where
  pub head : HeadFits x.head
  pub long : length x.content ≤ most_content
  pub byte : IsByte x.content

-- a settled record has one node
pub settled_lone : (r : Row) → Shape true r → lone r ≡ true
settled_lone r (one e) = e

abbrev pub is_branch : Tree → Bool
is_branch end = false
is_branch (branch l cs rest) = true
is_branch (leaf l c rest) = false

branch_insert : (x : New) (n : ℕ) (path : List ℕ) (t : Tree) → is_branch (insert_at x n 0 path t) ≡ is_branch t
branch_insert x n path end = refl
branch_insert x n [] (branch l cs rest) = refl
branch_insert x n (j ∷ path) (branch l cs rest) = refl
branch_insert x n path (leaf l c rest) = refl

pub agg_branch : (r : Row) → lone r ≡ true → is_agg r ≡ is_branch (shown r)
agg_branch nil e = absurd (false≢true e)
agg_branch (agg l cs rest) e = refl
agg_branch (lit l c rest) e = refl
agg_branch (rec p s r rest) e = absurd (false≢true e)

-- ── the new node ──

module _ (st : Config) (x : New) (parent : Head) (page : ℕ) (w : Work) where
  -- The new node as it is put in a row: itself, or the proxy of its own settled record.
  abbrev pub as_placed : Row
  as_placed = cond (apart st parent x.head) (rec (free_from st st.pages w.used page) true (as_row st x nil) nil) (as_row st x nil)

  pub place_row : (rest : Row) → (place st x parent page rest w).0 ≡ as_placed ⊹ rest
  place_row rest =
      both (λ (o : Out) (r : Row). o.0 ≡ r ⊹ rest) (apart st parent x.head) (λ _. refl)
      (λ _. both (λ (a b : Row). a ≡ b ⊹ rest) (eqb x.kind 1) (λ _. refl) (λ _. refl))

  pub placed_some : 1 ≤ node_count as_placed
  placed_some =
      let P : Row → Type 0 = λ r. 1 ≤ node_count r in
      cond_case P (apart st parent x.head) (λ _. omega arith) (λ _. cond_case P (eqb x.kind 1) (λ _. omega arith) (λ _. omega arith))

  -- It shows one node.
  pub placed_width : width as_placed ≡ 1
  placed_width =
      let P : Row → Type 0 = λ r. width r ≡ 1 in
      let own : P (as_row st x nil) = cond_case P (eqb x.kind 1) (λ _. refl) (λ _. refl) in
      cond_case P (apart st parent x.head) (λ _. omega (arith, own)) (λ _. own)

-- ── any spot of the gap ──

module _ (st : Config) (x : New) (root : Row) (path : List ℕ) (k : ℕ) (t : Spot) (g : Gap root path k t) where
  abbrev new : Out
  new = risen st x t (at_rest st root)

  abbrev taker : Out
  taker = received st x t (at_rest st root)

  received_shows : above t.chain (shown taker.0) ≡ insert_at x k 0 path (shown root)
  received_shows =
      let placed = shown_place st x t.parent (last_page t.chain) t.rest (at_rest st root) in
      ap (above t.chain) (shown_fill t.position _ ∙ ap (around t.position) placed) ∙ g.shows x

  -- The tree that an insert leaves is the plain tree's, whatever spot took the node and whatever was split.
  pub risen_shows : shown new.0 ≡ insert_at x k 0 path (shown root)
  risen_shows = shown_rise st t.chain taker ∙ received_shows

  module _ (a : NewFits x) (v : Valid st root) (short : length path ≤ 22) where
    was_fits : Fits (store (whole t.chain (fill t.position t.rest)))
    was_fits = subst (λ (r : Row). Fits (store r)) (sym g.held) v.rows

    -- The record that takes the node grows by it.
    received_grew : Grew (fill t.position t.rest) taker
    received_grew =
        let s = t.position in
        let f = (chain_fits t.chain (fill s t.rest) was_fits).1 in
        let o = place st x t.parent (last_page t.chain) t.rest (at_rest st root) in
        let p = place_good st v.ranges x a.head a.long a.byte t.parent (last_page t.chain) t.rest (at_rest st root)
        (fits_fill s t.rest f) in
        record {
          fits = fits_refill s t.rest o.0 f p.fits;
          grown = omega (arith, size_fill s t.rest o.0, p.grown);
          keeps = nodes_fill s t.rest o.0 (omega (arith, p.keeps));
          root = λ e. steady_lone s t.rest o.0 (omega (arith, p.keeps)) g.steady ∙ e;
        }

    high : height (whole t.chain taker.0) ≤ 24
    high =
        let e = shown_whole t.chain taker.0 ∙ received_shows in
        omega (arith, height_shown (whole t.chain taker.0), ap levels e, levels_insert_at x k 0 path (shown root), height_shown root, v.levels)

    -- Growth starts with it.
    pub received_grows : Grows t.chain (fill t.position t.rest) taker
    received_grows = record {
      fits = was_fits;
      root = ap lone g.held ∙ settled_lone root v.rows.0.shape;
      grew = received_grew;
      levels = high;
      lean = lean_place st v.ranges x t.parent (last_page t.chain) t.rest (at_rest st root) (omega arith, λ _. refl);
    }

    -- Whether a page was missing or not, the rows fit, no level is too deep, and the lean is in range.
    pub risen_good : Fits (store new.0) × (height new.0 ≤ 24) × Leaned new.1
    risen_good =
        let z = rise_good st v.ranges t.chain (fill t.position t.rest) taker received_grows in
        (z.0, omega (arith, height_rise st t.chain taker, high), z.1)

    pub risen_valid : new.1.full ≡ false → Valid st new.0
    risen_valid full = record {
      ranges = v.ranges;
      rows = risen_good.0;
      top = agg_branch new.0 (settled_lone new.0 risen_good.0.0.shape) ∙ ap is_branch risen_shows ∙ branch_insert x k path (shown root)
          ∙ sym (agg_branch root (settled_lone root v.rows.0.shape)) ∙ v.top;
      levels = risen_good.1;
      placed = placed_risen st x t root g.held v.placed full;
    }

-- ── the spot of step 1 ──

module _ (st : Config) (x : New) (root : Row) (path : List ℕ) (k : ℕ) (t : Spot) (e : spot_of root path k ≡ some t) where
  -- An insert is the new node at its spot, and growth from there upwards.
  pub grow_rises : grow st root path k x ≡ risen st x t (at_rest st root)
  unfolding grow
  grow_rises = ap (from_spot st x root) e

  pub grow_shows : shown (grow st root path k x).0 ≡ insert_at x k 0 path (shown root)
  grow_shows = ap (λ (o : Out). shown o.0) grow_rises ∙ risen_shows st x root path k t (spot_gap root path k t e)

  module _ (a : NewFits x) (v : Valid st root) (short : length path ≤ 22) where
    pub grow_good : Fits (store (grow st root path k x).0) × (height (grow st root path k x).0 ≤ 24) × Leaned (grow st root path k x).1
    grow_good =
        subst (λ (o : Out). Fits (store o.0) × (height o.0 ≤ 24) × Leaned o.1) (sym grow_rises)
        (risen_good st x root path k t (spot_gap root path k t e) a v short)

    pub grow_valid : (grow st root path k x).1.full ≡ false → Valid st (grow st root path k x).0
    grow_valid = subst (λ (o : Out). o.1.full ≡ false → Valid st o.0) (sym grow_rises) (risen_valid st x root path k t (spot_gap _ _ _ _ e) a v short)

    -- and each page is named as often as it is used, but for those outside.
    pub grow_tally : Tallies st (reserved st) (grow st root path k x)
    grow_tally = subst (Tallies st (reserved st)) (sym grow_rises) (tally_risen st x t root (spot_gap root path k t e).held v.placed)
