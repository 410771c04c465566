-- How many nodes a row shows, with those below them.
use Rattle.std.specs.Prelude.{◌≡◌, refl, ℕ, suc, ◌+◌, ◌≤◌}
use Rattle.std.proofs.Common.{arith}
use Rattle.model.specs.Row.{Row, nil, agg, lit, rec, ◌⊹◌}
use Rattle.model.specs.Tree.{Tree, end, branch, leaf, ◌⊞◌, shown, width}

abbrev pub population : Row → ℕ
population nil = 0
population (agg h cs rest) = suc (population cs + population rest)
population (lit h c rest) = suc (population rest)
population (rec p s r rest) = population r + population rest

pub population-⊹ : (a b : Row) → population (a ⊹ b) ≡ population a + population b
population-⊹ nil b = omega arith
population-⊹ (agg h cs rest) b = omega (arith, population-⊹ rest b)
population-⊹ (lit h c rest) b = omega (arith, population-⊹ rest b)
population-⊹ (rec p s r rest) b = omega (arith, population-⊹ rest b)

pub width_population : (r : Row) → width r ≤ population r
width_population nil = omega arith
width_population (agg h cs rest) = omega (arith, width_population rest)
width_population (lit h c rest) = omega (arith, width_population rest)
width_population (rec p s r rest) = omega (arith, width_population r, width_population rest)

-- It is that of the tree shown.
abbrev pub tree_population : Tree → ℕ
tree_population end = 0
tree_population (branch h cs rest) = 1 + tree_population cs + tree_population rest
tree_population (leaf h c rest) = 1 + tree_population rest

population-⊞ : (a b : Tree) → tree_population (a ⊞ b) ≡ tree_population a + tree_population b
population-⊞ end b = omega arith
population-⊞ (branch h cs rest) b = omega (arith, population-⊞ rest b)
population-⊞ (leaf h c rest) b = omega (arith, population-⊞ rest b)

pub population_shown : (r : Row) → population r ≡ tree_population (shown r)
population_shown nil = refl
population_shown (agg h cs rest) = omega (arith, population_shown cs, population_shown rest)
population_shown (lit h c rest) = omega (arith, population_shown rest)
population_shown (rec p s r rest) = omega (arith, population-⊞ (shown r) (shown rest), population_shown r, population_shown rest)
