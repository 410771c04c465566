-- What growth shows: the tree around the last record of a chain, whatever was split.
use Rattle.std.specs.Prelude.{◌≡◌, refl, Bool, ℕ}
use Rattle.std.proofs.Common.{sym, ap, ◌∙◌}
use Rattle.model.specs.Row.{Head, Row, nil, agg, rec, height, Config}
use Rattle.model.specs.Tree.{Tree, branch, ◌⊞◌, shown}
use Rattle.model.specs.Spot.{Position, here, inside, fill, past, into, Chain, top, below, whole}
use Rattle.model.specs.Growth.{Out, on_row, close, rise}
use Rattle.theory_rows.specs.Laws.{⊞-end, ⊞-assoc, shown-⊹}
use Rattle.theory_rows.specs.Shows.{shown_kept, shown_close}
use Rattle.theory_rows.specs.Keeps.{height_shown, levels}
use Rattle.theory_rows.specs.Population.{population, tree_population, population_shown}

-- The tree that a row shows, if what is put at the position shows t,
abbrev pub around : Position → Tree → Tree
around (here left) t = shown left ⊞ t
around (inside left h rest s) t = shown left ⊞ branch h (around s t) (shown rest)

-- and the one that the root record shows, if the last record of the chain shows t.
abbrev pub above : Chain → Tree → Tree
above top t = t
above (below c s q b rest) t = above c (around s (t ⊞ shown rest))

pub shown_fill : (s : Position) (x : Row) → shown (fill s x) ≡ around s (shown x)
shown_fill (here left) x = shown-⊹ left x
shown_fill (inside left h rest s) x =
    shown-⊹ left (agg h (fill s x) rest) ∙ ap (λ (t : Tree). shown left ⊞ branch h t (shown rest)) (shown_fill s x)

pub shown_whole : (c : Chain) (x : Row) → shown (whole c x) ≡ above c (shown x)
shown_whole top x = refl
shown_whole (below c s q b rest) x = shown_whole c (fill s (rec q b x rest)) ∙ ap (above c) (shown_fill s (rec q b x rest))

pub around_past : (s : Position) (more : Row) (t : Tree) → around (past s more) t ≡ around s (shown more ⊞ t)
around_past (here left) more t = ap (λ (u : Tree). u ⊞ t) (shown-⊹ left more) ∙ ⊞-assoc (shown left) (shown more) t
around_past (inside left h rest s) more t = ap (λ (u : Tree). shown left ⊞ branch h u (shown rest)) (around_past s more t)

pub around_record : (s : Position) (q : ℕ) (b : Bool) (r : Row) (t : Tree) → around (past s (rec q b r nil)) t ≡ around s (shown r ⊞ t)
around_record s q b r t = around_past s (rec q b r nil) t ∙ ap (λ (u : Tree). around s (u ⊞ t)) (⊞-end (shown r))

pub around_into : (s : Position) (h : Head) (rest : Row) (t : Tree) → around (into s h rest) t ≡ around s (branch h t (shown rest))
around_into (here left) h rest t = refl
around_into (inside left g right s) h rest t = ap (λ (u : Tree). shown left ⊞ branch g u (shown right)) (around_into s h rest t)

-- Growth from the last record upwards shows what the row of that record shows, in its place.
pub shown_rise : (st : Config) (c : Chain) (o : Out) → shown (rise st c o).0 ≡ above c (shown o.0)
unfolding rise
shown_rise st top o = shown_kept st 1 o
shown_rise st (below c s q b rest) o =
    let u = close st q b rest o in
    shown_rise st c (on_row (fill s) u) ∙ ap (above c) (shown_fill s u.0 ∙ ap (around s) (shown_close st q b rest o))

-- So what is a measure of the tree shown stays the same: the levels, in all and in one step, and the nodes.
by_shown : {f : Row → ℕ} (g : Tree → ℕ) → ((r : Row) → f r ≡ g (shown r)) → (c : Chain) (x y : Row) → shown y ≡ above c (shown x) → f (whole c x) ≡ f y
by_shown g k c x y e = k (whole c x) ∙ ap g (shown_whole c x ∙ sym e) ∙ sym (k y)

pub height_rise : (st : Config) (c : Chain) (o : Out) → height (whole c o.0) ≡ height (rise st c o).0
height_rise st c o = by_shown levels height_shown c o.0 (rise st c o).0 (shown_rise st c o)

pub height_close : (st : Config) (c : Chain) (s : Position) (q : ℕ) (b : Bool) (rest : Row) (o : Out)
    → height (whole (below c s q b rest) o.0) ≡ height (whole c (fill s (close st q b rest o).0))
height_close st c s q b rest o =
    let u = (close st q b rest o).0 in
    by_shown levels height_shown (below c s q b rest) o.0 (whole c (fill s u))
    (shown_whole c (fill s u) ∙ ap (above c) (shown_fill s u ∙ ap (around s) (shown_close st q b rest o)))

pub population_rise : (st : Config) (c : Chain) (o : Out) → population (whole c o.0) ≡ population (rise st c o).0
population_rise st c o = by_shown tree_population population_shown c o.0 (rise st c o).0 (shown_rise st c o)
