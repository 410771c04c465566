-- `read_fault_walk::record_walk`: the size chosen is enough for the image.
use Rattle.std.proofs.Common.{sym, ◌∙◌, arith}
use Rattle.base_ranges.specs.Tables.{tables_fit}
use Rattle.read_fault_walk.proofs.record_walk.Goals as goal

pub walk_sized-requires : goal.walk_sized-requires
walk_sized-requires c =
    let r = c.requires in
    (r.0, r.1, r.2, r.3, tables_fit _ _ (sym c.in-Few.is ∙ c.tables_for.ensures) r.4, omega arith)

pub walk_sized-requires-in-Many : goal.walk_sized-requires-in-Many
walk_sized-requires-in-Many c =
    let r = c.requires in
    (r.0, r.1, r.2, r.3, tables_fit _ _ (sym c.in-Many.is ∙ c.tables_for.ensures) r.4, omega arith)
