-- Where a node stands that is to go: the root record around it, and the tree that is shown without it.
use Rattle.std.specs.Prelude.{◌≡◌, List, ◌∷◌, ℕ, ◌+◌, ◌≤◌}
use Rattle.std.proofs.Common.{ap, ◌∙◌, arith}
use Rattle.std.proofs.Math.Option.{some}
use Rattle.model.specs.Row.{Row, nil, ◌⊹◌, node_count, count, Config}
use Rattle.model.specs.Tree.{Tree, shown, width, remove_at}
use Rattle.model.specs.Spot.{here, fill, top, Stand, stand_of}
use Rattle.theory_rows.specs.Fits.{Valid}
use Rattle.theory_rows.specs.Image.{once}
use Rattle.theory_rows.specs.Pages.{count-⊹}
use Rattle.theory_growth.specs.Chain.{beside, along, count_refill, count_chain}
use Rattle.theory_growth.specs.Shown.{around, above}
use Rattle.theory_growth.specs.Stand.{NotAlone, root_of, stood_in}
use Rattle.theory_removal.specs.Laws.{drops, remove_at_edit}

-- The stand is one of the root record, of one node, which is no record's only one, and without it that shows `new`.
pub record Leaves (root : Row) (new : Tree) (t : Stand) : Type 0 where
  pub held : root_of t ≡ root
  pub shows : above t.chain (around t.position (shown t.rest)) ≡ new
  pub one : node_count t.node ≡ 1
  pub wide : width t.node ≡ 1
  pub not_alone : NotAlone t.position (t.node ⊹ t.rest)

-- ── the pages that the root record names ──

-- Of the record that holds the node: what is left of it, and the branch.
pub stand_parts : (t : Stand) (q : ℕ) → count q (fill t.position t.rest) + count q t.node ≡ count q (fill t.position (t.node ⊹ t.rest))
stand_parts t q = omega (arith, count_refill q t.position t.rest (t.node ⊹ t.rest), count-⊹ q t.node t.rest)

module _ (root : Row) (new : Tree) (t : Stand) (l : Leaves root new t) (q : ℕ) where
  -- Of all of it: beside the chain, by the chain, in what is left, and in the branch.
  pub stand_names : beside t.chain q + along t.chain q + count q (fill t.position t.rest) + count q t.node ≡ count q root
  stand_names = omega (arith, count_chain q t.chain (fill t.position (t.node ⊹ t.rest)), stand_parts t q, ap (count q) l.held)

  pub stand_once : (st : Config) → Valid st root
      → beside t.chain q + along t.chain q + count q (fill t.position t.rest) + count q t.node ≤ 1
  stand_once st v = omega (arith, stand_names, once st root v q)

-- ── the stand of a path ──

-- The stand of a node that is not the root is one of the root record, and without the node that shows the plain tree's removal.
pub stand_leaves : (root : Row) (j : ℕ) (path : List ℕ) (t : Stand) → stand_of root (j ∷ path) ≡ some t
    → Leaves root (remove_at 0 (j ∷ path) (shown root)) t
stand_leaves root j path t e =
    let f = stood_in t top (here nil) 0 (j ∷ path) root e tt in
    record { held = f.held; shows = f.shows drops ∙ remove_at_edit 0 (j ∷ path) (shown root); one = f.one; wide = f.wide; not_alone = f.not_alone }
