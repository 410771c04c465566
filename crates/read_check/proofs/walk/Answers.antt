-- `read_check::walk`: the size chosen is enough for the image.
use Rattle.std.proofs.Common.{sym, ◌∙◌, arith}
use Rattle.base_ranges.specs.Tables.{tables_fit}
use Rattle.read_check.proofs.walk.Goals as goal

pub walk_sized-requires : goal.walk_sized-requires
walk_sized-requires c =
    let r = c.requires in
    (r, tables_fit _ _ (sym c.in-Few.is ∙ c.tables_for.ensures) r.long, omega arith)

pub walk_sized-requires-in-Many : goal.walk_sized-requires-in-Many
walk_sized-requires-in-Many c =
    let r = c.requires in
    (r, tables_fit _ _ (sym c.in-Many.is ∙ c.tables_for.ensures) r.long, omega arith)
