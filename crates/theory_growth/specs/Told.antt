-- A table of widths along a chain: what it has to be right for around the chain's records, and on their pages.
use Rattle.std.specs.Prelude.{◌≡◌, refl, Bool, List, ℕ, ◌+◌, ◌≤◌, get_or}
use Rattle.std.proofs.Common.{◌∙◌, arith, eq-eqb}
use Rattle.model.specs.Row.{Row, nil, agg, rec}
use Rattle.model.specs.Tree.{width}
use Rattle.model.specs.Spot.{Position, here, inside, fill, Chain, top, below, Spot, whole}
use Rattle.theory_rows.specs.Laws.{Parted, width-⊹}
use Rattle.theory_rows.specs.Population.{population, population-⊹}
use Rattle.theory_places.specs.Widths.{Told, told_same, told-⊹, told_parts}
use Rattle.theory_growth.specs.Chain.{fill_more, fill_less, beside, along}

-- It is right for what stands beside the proxies of the chain.
abbrev pub ToldAround : List ℕ → Chain → Type 0
ToldAround u top = Unit {0}
ToldAround u (below c s q b rest) = Told u (fill s rest) × ToldAround u c

-- It is right for the chain's own records below the root record, if the last one holds the row.
abbrev pub ToldAlong : List ℕ → Chain → Row → Type 0
ToldAlong u top row = Unit {0}
ToldAlong u (below c s q b rest) row = (get_or u q 0 ≡ width row) × ToldAlong u c (fill s (rec q b row rest))

pub told_parted : (u : List ℕ) → Parted (Told u)
told_parted u = record { join = told-⊹ u; parts = told_parts u; children = λ h cs rest t. t.0; anew = λ h cs cs' rest t k. (k, t.1) }

-- Right for the root record: right around the chain and for the last record's row,
pub told_chain : (u : List ℕ) (c : Chain) (r : Row) → Told u (whole c r) → ToldAround u c × Told u r
told_chain u top r t = (tt, t)
told_chain u (below c s q b rest) r t =
    let k = told_chain u c (fill s (rec q b r rest)) t in
    let z = fill_less (told_parted u) s (rec q b r nil) rest k.1 in
    ((z.0, k.0), z.1.1)

-- and on the chain's pages;
pub told_along : (u : List ℕ) (c : Chain) (r : Row) → Told u (whole c r) → ToldAlong u c r
told_along u top r t = tt
told_along u (below c s q b rest) r t =
    let k = told_chain u c (fill s (rec q b r rest)) t in
    ((fill_less (told_parted u) s (rec q b r nil) rest k.1).1.0, told_along u c (fill s (rec q b r rest)) t)

-- the way back.
pub told_whole : (u : List ℕ) (c : Chain) (r : Row) → ToldAround u c → Told u r → ToldAlong u c r → Told u (whole c r)
told_whole u top r a t e = t
told_whole u (below c s q b rest) r a t e =
    told_whole u c (fill s (rec q b r rest)) a.1 (fill_more (told_parted u) s (rec q b r nil) rest a.0 (e.0, t, tt)) e.1

-- ── other tables ──

-- A table with the same entries on the pages named there is as right around the chain.
pub around_same : (a b : List ℕ) (c : Chain) → ((q : ℕ) → 1 ≤ beside c q → get_or b q 0 ≡ get_or a q 0) → ToldAround a c → ToldAround b c
around_same a b top e t = tt
around_same a b (below c s k x rest) e t =
    (told_same a b (fill s rest) (λ q g. e q (omega arith)) t.0, around_same a b c (λ q g. e q (omega arith)) t.1)

pub along_own : (c : Chain) (s : Position) (q : ℕ) (b : Bool) (rest : Row) → 1 ≤ along (below c s q b rest) q
along_own c s q b rest = rw (eq-eqb q q refl) (omega arith)

-- ── how many nodes ──

population_fill : (s : Position) (x : Row) → population x ≤ population (fill s x)
population_fill (here left) x = omega (arith, population-⊹ left x)
population_fill (inside left h right s) x = omega (arith, population-⊹ left (agg h (fill s x) right), population_fill s x)

-- The last record's row shows no more than the root record.
pub population_whole : (c : Chain) (r : Row) → population r ≤ population (whole c r)
population_whole top r = omega arith
population_whole (below c s q b rest) r = omega (arith, population_whole c (fill s (rec q b r rest)), population_fill s (rec q b r rest))

-- ── other rows ──

pub width_fill : (s : Position) (x y : Row) → width x ≡ width y → width (fill s x) ≡ width (fill s y)
width_fill (here left) x y e = omega (arith, width-⊹ left x, width-⊹ left y)
width_fill (inside left h right s) x y e = omega (arith, width-⊹ left (agg h (fill s x) right), width-⊹ left (agg h (fill s y) right))

-- A row that shows as many nodes, in the last record.
pub along_width : (u : List ℕ) (c : Chain) (x y : Row) → width x ≡ width y → ToldAlong u c x → ToldAlong u c y
along_width u top x y e t = tt
along_width u (below c s q b rest) x y e t =
    (t.0 ∙ e, along_width u c (fill s (rec q b x rest)) (fill s (rec q b y rest)) (width_fill s (rec q b x rest) (rec q b y rest) (omega arith)) t.1)

-- A table with the same entries on the chain's pages.
pub along_same : (a b : List ℕ) (c : Chain) (r : Row) → ((q : ℕ) → 1 ≤ along c q → get_or b q 0 ≡ get_or a q 0) → ToldAlong a c r → ToldAlong b c r
along_same a b top r e t = tt
along_same a b (below c s k x rest) r e t =
    (e k (along_own c s k x rest) ∙ t.0, along_same a b c (fill s (rec k x r rest)) (λ q g. e q (omega arith)) t.1)

-- Another row in the last record, that shows as many nodes and that the table is right for.
pub told_swap : (u : List ℕ) (c : Chain) (x y : Row) → width x ≡ width y → Told u (whole c x) → Told u y → Told u (whole c y)
told_swap u c x y e t k = told_whole u c y (told_chain u c x t).0 k (along_width u c x y e (told_along u c x t))

-- The table is right but for one node more at the spot, which it has counted.
pub record Awaits (u : List ℕ) (t : Spot) : Type 0 where
  pub told : Told u (fill t.position t.rest)
  pub around : ToldAround u t.chain
  pub along : (new : Row) → width new ≡ width t.rest + 1 → ToldAlong u t.chain (fill t.position new)
