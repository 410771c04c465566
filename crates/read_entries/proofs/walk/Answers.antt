-- `read_entries::walk`: the size chosen is enough for the image.
use Rattle.std.proofs.Common.{sym, ◌∙◌, arith}
use Rattle.base_ranges.specs.Tables.{tables_fit}
use Rattle.read_entries.proofs.walk.Goals as goal

pub walk_sized-requires : goal.walk_sized-requires
walk_sized-requires c =
    let r = c.requires in
    (r.0, r.1, tables_fit _ _ (sym c.in-Few.is ∙ c.tables_for.ensures) r.2, omega arith)

pub walk_sized-requires-in-Many : goal.walk_sized-requires-in-Many
walk_sized-requires-in-Many c =
    let r = c.requires in
    (r.0, r.1, tables_fit _ _ (sym c.in-Many.is ∙ c.tables_for.ensures) r.2, omega arith)
