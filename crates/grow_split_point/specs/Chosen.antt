-- A level of a split: the child that is chosen.
use Rattle.std.specs.Prelude.{◌≡◌, false, ℕ}
use Rattle.model.specs.Row.{Row, Config}
use Rattle.model.specs.Growth.{go_on}
use Rattle.theory_rows.specs.First.{size_of, rest_of}
use Rattle.theory_rows.specs.Cut.{Choosing}

-- The chosen child of a row starts at x: `left` stands before it, `from` begins with it.
pub record Chosen (st : Config) (p start : ℕ) (row : Row) (x : ℕ) : Type 0 where
  pub left : Row
  pub from : Row
  pub way : Choosing st p start row x left from
  pub last : go_on p x (size_of from) (rest_of from) ≡ false
