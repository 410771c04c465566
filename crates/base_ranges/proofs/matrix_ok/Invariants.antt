-- Whether the largest so far is an entry's, with the entries that are left, says what all the entries say.
use Rattle.std.specs.Prelude.{Bool, ℕ, leb}
use Rattle.model.specs.Row.{is_entry}
use Rattle.base_ranges.specs.Every.{Rest}
use Rattle.base_ranges.proofs.matrix_ok.Given as goal

abbrev pub low : ℕ → Bool
low x = leb x 2

abbrev pub invariant-loop-x : goal.invariant-loop-x
invariant-loop-x l = Rest is_entry l.matrix l.x-index (low l.most)
