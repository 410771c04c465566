-- Growth from any record of a store upwards keeps the rules: every record of the new root record fits its page and has the shape of a record; the lean is in
-- range.
use Rattle.std.specs.Prelude.{◌≡◌, refl, Bool, false, ◌||◌, ℕ, ◌+◌, ◌≤◌, ◌<◌, leb}
use Rattle.std.proofs.Common.{sym, subst, ◌∙◌, true≢false, arith}
use Rattle.std.proofs.Math.Bool.{true}
use Rattle.std.proofs.lemmas.Bool.{false≢true}
use Rattle.model.specs.Limits.{capacity}
use Rattle.model.specs.Row.{Row, nil, agg, lit, rec, store, ◌⊹◌, is_nil, lone, record_size, height, Config}
use Rattle.model.specs.Spot.{Position, here, inside, fill, Chain, top, below, whole}
use Rattle.model.specs.Claims.{root_row}
use Rattle.model.specs.Growth.{Work, Out, on_row, lean_of, separator, counted, freed, kept, close, rise}
use Rattle.theory_rows.specs.Fits.{Ranges, Fits, Shape}
use Rattle.theory_rows.specs.Laws.{nodes_some}
use Rattle.theory_rows.specs.Shows.{shape_node_count}
use Rattle.theory_rows.specs.Bound.{depth, SplitGood, split_good}
use Rattle.theory_rows.specs.Keeps.{Grew, depth_height, shape_kept, base_kept, close_good}
use Rattle.theory_rows.specs.Lean.{Leaned, Splittable, lean_kept, lean_close}
use Rattle.theory_growth.specs.Chain.{last_settled, size_fill, nodes_fill, fits_fill, fits_refill, chain_fits}
use Rattle.theory_growth.specs.Chain.{proxy_beside, lone_proxy}
use Rattle.theory_growth.specs.Shown.{height_close}
use Rattle.theory_growth.specs.Parts.{Part, part-⊹, part_fill, part_whole}

-- ── levels ──

height_part : Part height
height_part = record {
  children = λ h cs rest. omega arith;
  after_agg = λ h cs rest. omega arith;
  after_lit = λ h c rest. omega arith;
  under = λ p b r rest. omega arith;
  after_rec = λ p b r rest. omega arith;
}

-- In a record of one node, which is an aggregate, a proxy stands a level further down.
lone_height : (s : Position) (q : ℕ) (b : Bool) (old rest : Row) → lone (fill s (rec q b old rest)) ≡ true → (x : Row) → 1 + height x ≤ height (fill s x)
lone_height (here left) q b old rest e x = absurd (true≢false (sym e ∙ proxy_beside left q b old rest))
lone_height (inside left h right s) q b old rest e x = omega (arith, part-⊹ height height_part left (agg h (fill s x) right), part_fill height height_part s x)

-- So it does below the root record.
below_height : (c : Chain) (s : Position) (q : ℕ) (b : Bool) (rest old : Row) → lone (whole (below c s q b rest) old) ≡ true
    → (x : Row) → 1 + height x ≤ height (whole (below c s q b rest) x)
below_height top s q b rest old e x = omega (arith, lone_height s q b old rest e (rec q b x rest))
below_height (below c t p a more) s q b rest old e x =
    omega (arith, below_height c t p a more (fill s (rec q b old rest)) e (fill s (rec q b x rest)), part_fill height height_part s (rec q b x rest))

-- The levels, in its own record, of what stands under the root of a chain's last record.
root_depth : (st : Config) (c : Chain) (old x : Row) → lone (whole c old) ≡ true → (lone old ≡ true → lone x ≡ true) → Fits x → height (whole c x) ≤ 24
    → depth (root_row (lone x) x) ≤ 23
root_depth st c old x e k f h = go c (lone x) refl e k h
  where
    under : (x : Row) → Fits x → height x ≤ 24 → depth (root_row true x) ≤ 23
    under nil f h = omega arith
    under (agg l cs rest) f h = omega (arith, depth_height cs f.1)
    under (lit l c rest) f h = omega arith
    under (rec p s r rest) f h = omega arith

    go : (c : Chain) (b : Bool) → lone x ≡ b → lone (whole c old) ≡ true → (lone old ≡ true → b ≡ true) → height (whole c x) ≤ 24
        → depth (root_row b x) ≤ 23
    go c true z e k h = under x f (omega (arith, part_whole height height_part c x))
    go top false z e k h = absurd (false≢true (k e))
    go (below c s q b rest) false z e k h = omega (arith, depth_height x f, below_height c s q b rest old e x)

-- ── what stands for a record's proxy ──

-- The record, if it is settled or fits; if not, its separator.
pub close_stays : (st : Config) (q : ℕ) (b : Bool) (rest : Row) (o : Out) → b || leb (record_size o.0) capacity ≡ true
    → close st q b rest o ≡ on_row (λ r. rec q b r rest) (kept st q o)
unfolding close kept
close_stays st q true rest o e = refl
close_stays st q false rest o e = rw e

pub close_goes : (st : Config) (q : ℕ) (b : Bool) (rest : Row) (o : Out) → b || leb (record_size o.0) capacity ≡ false
    → close st q b rest o ≡ on_row (λ r. r ⊹ rest) (separator st q o.0 (freed st q (counted st o.0 o.1)))
unfolding close
close_goes st q true rest o e = absurd (true≢false e)
close_goes st q false rest o e = rw e

-- ── from one record to the one above ──

-- The last record of a chain held `old` and is to hold the row of o.
pub record Grows (c : Chain) (old : Row) (o : Out) : Type 0 where
  pub fits : Fits (store (whole c old))
  pub root : lone (whole c old) ≡ true
  pub grew : Grew old o
  pub levels : height (whole c o.0) ≤ 24
  pub lean : Leaned o.1

module _ (st : Config) (k : Ranges st) where
  -- Its new row has the shape of a record, and one split suffices for it.
  pub grows_splits : (c : Chain) (old : Row) (o : Out) → Grows c old o → Shape (last_settled c) o.0 × Splittable st o.0
  grows_splits c old o g =
      let f = (chain_fits c old g.fits).0 in
      let w = g.grew in (
        shape_kept old o.0 f.shape w.keeps w.root,
        record {
          fits = w.fits;
          most = omega (arith, base_kept old o.0 f.shape w.keeps w.root, f.fits, w.grown);
          deep = root_depth st c old o.0 g.root w.root w.fits g.levels;
        },
      )

  pub grows_some : (c : Chain) (old : Row) (o : Out) → Grows c old o → is_nil o.0 ≡ false
  grows_some c old o g = nodes_some o.0 (shape_node_count (grows_splits c old o g).0)

  pub split_able : (near : ℕ) (r : Row) (w : Work) → Splittable st r → capacity < record_size r
      → SplitGood (separator st near r w).0 (lean_of st r)
  split_able near r w m big = split_good st k near r w m.fits big m.most m.deep

  -- What stands for its proxy in the record above, whose row grows by it.
  pub grows_above : (c : Chain) (s : Position) (q : ℕ) (b : Bool) (rest old : Row) (o : Out) → Grows (below c s q b rest) old o
      → Grows c (fill s (rec q b old rest)) (on_row (fill s) (close st q b rest o))
  grows_above c s q b rest old o g =
      let u = close st q b rest o in
      let was : Row = rec q b old rest in
      let f = (chain_fits c (fill s was) g.fits).1 in
      let (shape, m) = grows_splits (below c s q b rest) old o g in
      let z = close_good st k q b rest o (fits_fill s was f).2 m.fits shape m.deep m.most in
      record {
        fits = g.fits;
        root = g.root;
        grew = record {
          fits = fits_refill s was u.0 f z.fits;
          grown = omega (arith, size_fill s was u.0, z.grown);
          keeps = nodes_fill s was u.0 z.keeps;
          root = λ e. lone_proxy s q b old rest e u.0;
        };
        levels = omega (arith, height_close st c s q b rest o, g.levels);
        lean = lean_close st k q b rest o m g.lean;
      }

  -- With the separator of a record that is too large and not settled.
  pub grows_goes : (c : Chain) (s : Position) (q : ℕ) (b : Bool) (rest old : Row) (o : Out) → b || leb (record_size o.0) capacity ≡ false
      → Grows (below c s q b rest) old o
      → Grows c (fill s (rec q b old rest)) (on_row (λ r. fill s (r ⊹ rest)) (separator st q o.0 (freed st q (counted st o.0 o.1))))
  grows_goes c s q b rest old o e g =
      subst (λ (u : Out). Grows c (fill s (rec q b old rest)) (on_row (fill s) u)) (close_goes st q b rest o e) (grows_above c s q b rest old o g)

  pub rise_good : (c : Chain) (old : Row) (o : Out) → Grows c old o → Fits (store (rise st c o).0) × Leaned (rise st c o).1
  unfolding rise close
  rise_good top old o g =
      let (shape, m) = grows_splits top old o g in
      ((close_good st k 1 true nil o tt m.fits shape m.deep m.most).fits, lean_kept st k 1 o m g.lean)
  rise_good (below c s q b rest) old o g = rise_good c (fill s (rec q b old rest)) (on_row (fill s) (close st q b rest o)) (grows_above c s q b rest old o g)
