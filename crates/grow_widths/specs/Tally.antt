-- How many nodes a row shows by a table that has the number for each record, and the table's entry for a record of that row.
use Rattle.std.specs.Prelude.{◌≡◌, refl, List, ℕ, suc, ◌+◌, ◌≤◌, min, get_or}
use Rattle.std.proofs.Common.{arith}
use Rattle.model.specs.Row.{Row, nil, agg, lit, rec}
use Rattle.model.specs.Tree.{width}
use Rattle.theory_places.specs.Widths.{Told}

abbrev pub tallied : (table : List ℕ) → Row → ℕ
tallied u nil = 0
tallied u (agg h cs rest) = suc (tallied u rest)
tallied u (lit h c rest) = suc (tallied u rest)
tallied u (rec p s r rest) = get_or u p 0 + tallied u rest

-- The largest entry of a table.
abbrev pub most_entry : ℕ
most_entry = 4294967295

-- No number is larger.
abbrev pub entry_of : ℕ → ℕ
entry_of n = min n most_entry

abbrev pub number_of : (table : List ℕ) → Row → ℕ
number_of u r = entry_of (tallied u r)

pub entry_is : (n : ℕ) → n ≤ most_entry → entry_of n ≡ n
entry_is n h = omega arith

-- A table that is right counts what the row shows.
pub tallied_told : (u : List ℕ) (row : Row) → Told u row → tallied u row ≡ width row
tallied_told u nil t = refl
tallied_told u (agg h cs rest) t = omega (arith, tallied_told u rest t.1)
tallied_told u (lit h c rest) t = omega (arith, tallied_told u rest t)
tallied_told u (rec p s r rest) t = omega (arith, t.0, tallied_told u rest t.2)
