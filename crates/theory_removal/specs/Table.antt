-- The table of widths of the store without a node: one node less in the records that showed it.
use Rattle.std.specs.Prelude.{◌≡◌, Bool, List, ℕ, ◌+◌, ◌≤◌, length, get_or}
use Rattle.std.proofs.Common.{sym, ap, subst, arith}
use Rattle.model.specs.Row.{Row, nil, rec, ◌⊹◌, count, Config}
use Rattle.model.specs.Tree.{Tree, width}
use Rattle.model.specs.Spot.{Position, fill, Chain, below, whole, Stand}
use Rattle.model.specs.Removal.{without}
use Rattle.theory_rows.specs.Fits.{Valid}
use Rattle.theory_places.specs.Widths.{Told, Table, told_same}
use Rattle.theory_growth.specs.Chain.{fill_more, fill_less, beside, along}
use Rattle.theory_growth.specs.Told.{ToldAround, ToldAlong, told_parted, told_chain, told_whole, around_same, along_width, width_fill}
use Rattle.theory_removal.specs.Stand.{Leaves, stand_once}
use Rattle.theory_removal.specs.Keeps.{Proxy}

module _ (t : Stand) (u v : List ℕ) where
  -- From u to v: the chain's records show one node less where they showed the node, all else is as it was.
  pub record Fewer : Type 0 where
    pub long : length v ≡ length u
    pub shows : ToldAlong v t.chain (fill t.position t.rest)
    pub other : (q : ℕ) → along t.chain q ≡ 0 → get_or v q 0 ≡ get_or u q 0

module _ (st : Config) (root : Row) (w : Valid st root) (new : Tree) (t : Stand) (l : Leaves root new t) (u v : List ℕ) (b : Table st root u)
    (f : Fewer t u v) where
  abbrev left : Row
  left = fill t.position t.rest

  one : (q : ℕ) → beside t.chain q + along t.chain q + count q left + count q t.node ≤ 1
  one q = stand_once root new t l q st w

  was : ToldAround u t.chain × Told u (fill t.position (t.node ⊹ t.rest))
  was = told_chain u t.chain (fill t.position (t.node ⊹ t.rest)) (subst (Told u) (sym l.held) b.told)

  around : ToldAround v t.chain
  around = around_same u v t.chain (λ q h. f.other q (omega (arith, one q))) was.0

  inside : Told v left
  inside =
      told_same u v left (λ q h. f.other q (omega (arith, one q)))
      (fill_less (told_parted u) t.position t.node t.rest was.1).0

  -- The record stays on its page.
  pub table_stays : without t ≡ whole t.chain left → Table st (without t) v
  table_stays e = record {
    long = omega (arith, f.long, b.long);
    told = subst (Told v) (sym e) (told_whole v t.chain left around inside f.shows);
  }

  -- Its one proxy takes its place.
  pub table_goes : (c : Chain) (s : Position) (p : ℕ) (d : Bool) (rest : Row) (x : Proxy left) → t.chain ≡ below c s p d rest
      → without t ≡ whole c (fill s (rec x.page x.settled x.inside rest)) → Table st (without t) v
  table_goes c s p d rest x e is = record {
    long = omega (arith, f.long, b.long);
    told = subst (Told v) (sym is) (told_whole v c up arounds.1
        (fill_more (told_parted v) s (rec x.page x.settled x.inside nil) rest arounds.0 (subst (Told v) x.is inside))
        (along_width v c (fill s (rec p d left rest)) up (width_fill s (rec p d left rest) (rec x.page x.settled x.inside rest)
        (omega (arith, ap width x.is))) alongs.1));
  }
    where
      up : Row
      up = fill s (rec x.page x.settled x.inside rest)

      arounds : ToldAround v (below c s p d rest)
      arounds = subst (ToldAround v) e around

      alongs : ToldAlong v (below c s p d rest) left
      alongs = subst (λ (c : Chain). ToldAlong v c left) e f.shows
