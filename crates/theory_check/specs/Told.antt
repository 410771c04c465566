-- The walk over a store's row leaves the store's table: the row names no page twice, and none past the table's end.
use Rattle.std.specs.Prelude.{List, ℕ, ◌≤◌, length}
use Rattle.std.proofs.Common.{arith}
use Rattle.model.specs.Row.{Row, Config}
use Rattle.model.specs.Reading.{Reads}
use Rattle.theory_rows.specs.Image.{once}
use Rattle.theory_decoding.specs.Reading.{reads_valid}
use Rattle.theory_decoding.specs.Steps.{named_inside}
use Rattle.theory_places.specs.Widths.{Table}
use Rattle.theory_check.specs.Widths.{widths_after, widths_length, widths_told}

pub reads_table : (img : List ℕ) (st : Config) (root : Row) → Reads img st root
    → (c : List ℕ) → st.pages ≤ length c → Table st root (widths_after root c)
reads_table img st root r c l =
    let v = reads_valid img st root r in
    record {
      long = omega (arith, widths_length root c);
      told = widths_told root c st.pages l (λ q. omega (arith, once st root v q)) (λ q g. (named_inside st root v q (omega arith)).1);
    }
