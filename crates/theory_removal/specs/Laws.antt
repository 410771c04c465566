-- Laws of the plain tree's removal.
use Rattle.std.specs.Prelude.{◌≡◌, refl, List, [], ◌∷◌, ℕ, zero, suc, ◌≤◌}
use Rattle.std.proofs.Common.{ap, arith}
use Rattle.model.specs.Tree.{Tree, end, branch, leaf, remove_at}
use Rattle.theory_rows.specs.Keeps.{levels}
use Rattle.theory_growth.specs.Stand.{Edit, edit_at}

-- ── an edit ──

-- Of a node and what follows it, what follows it is left.
abbrev pub drops : Edit
drops = record { makes = λ one rest. rest; local = λ one rest more. refl }

pub remove_at_edit : (i : ℕ) (path : List ℕ) (t : Tree) → edit_at drops i path t ≡ remove_at i path t
remove_at_edit i path end = refl
remove_at_edit zero [] (branch l cs rest) = refl
remove_at_edit zero (j ∷ path) (branch l cs rest) = ap (λ (u : Tree). branch l u rest) (remove_at_edit j path cs)
remove_at_edit (suc i) path (branch l cs rest) = ap (branch l cs) (remove_at_edit i path rest)
remove_at_edit zero [] (leaf l c rest) = refl
remove_at_edit zero (j ∷ path) (leaf l c rest) = refl
remove_at_edit (suc i) path (leaf l c rest) = ap (leaf l c) (remove_at_edit i path rest)

-- ── levels ──

pub levels_remove_at : (i : ℕ) (path : List ℕ) (t : Tree) → levels (remove_at i path t) ≤ levels t
levels_remove_at i path end = omega arith
levels_remove_at zero [] (branch l cs rest) = omega arith
levels_remove_at zero (j ∷ path) (branch l cs rest) = omega (arith, levels_remove_at j path cs)
levels_remove_at (suc i) path (branch l cs rest) = omega (arith, levels_remove_at i path rest)
levels_remove_at zero [] (leaf l c rest) = omega arith
levels_remove_at zero (j ∷ path) (leaf l c rest) = omega arith
levels_remove_at (suc i) path (leaf l c rest) = omega (arith, levels_remove_at i path rest)
