-- `read_check::check`: the size chosen is enough for an image of an allowed length.
use Rattle.std.proofs.Common.{sym, ◌∙◌, arith}
use Rattle.base_ranges.specs.Tables.{tables_fit}
use Rattle.read_check.proofs.check.Goals as goal

pub check_sized-requires : goal.check_sized-requires
check_sized-requires c = (tables_fit _ _ (sym c.in-Few.is ∙ c.tables_for.ensures), omega arith)

pub check_sized-requires-in-Many : goal.check_sized-requires-in-Many
check_sized-requires-in-Many c = (tables_fit _ _ (sym c.in-Many.is ∙ c.tables_for.ensures), omega arith)
