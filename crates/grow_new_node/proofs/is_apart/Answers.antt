use Rattle.std.specs.Prelude.{◌≡◌, ℕ, min, ltb}
use Rattle.std.proofs.Common.{arith, sym, ap, ◌∙◌, ltb-true, ltb-false}
use Rattle.model.specs.Growth.{class}
use Rattle.model.specs.Row.{Config}
use Rattle.theory_rows.specs.Laws.{cond_case}
use Rattle.base_layout.specs.Growing.{matrix_of}
use Rattle.grow_new_node.specs.Node.{entry}
use Rattle.grow_new_node.proofs.is_apart.Goals as goal

-- A label's row or column of the matrix.
of_label : (st : Config) (l n : ℕ) → n ≡ min l 15 → n ≡ class st l
of_label st l n e = cond_case (λ k. n ≡ k) (ltb l 15) (λ h. omega (arith, e, ltb-true)) (λ h. omega (arith, e, ltb-false))

pub returns : goal.returns
returns c =
    let p = c.min-row.ensures in
    let k = c.min-column.ensures in
    λ st root r s h d e f.
    entry _ st root r _ (matrix_of s) h d _ _ (of_label st _ _ (p ∙ ap (λ (l : ℕ). min l 15) (sym e))) (of_label st _ _ (k ∙ ap (λ (l : ℕ). min l 15) (sym f)))
    (omega (arith, p)) (omega (arith, k))
