-- `remove_branch::free_branch`: a literal has no records, and the size chosen for the list is enough for the image.
use Rattle.std.proofs.Common.{sym, ◌∙◌, arith}
use Rattle.theory_decoding.specs.Reading.{reads_length_ok}
use Rattle.base_ranges.specs.Tables.{tables_fit}
use Rattle.remove_branch.specs.Branch.{literal_freed}
use Rattle.remove_branch.proofs.free_branch.Goals as goal

pub returns-then-image-start-eq2 : goal.returns-then-image-start-eq2
returns-then-image-start-eq2 c = λ w. literal_freed w c.if-image-start-eq2.true

pub free_below-requires : goal.free_below-requires
free_below-requires c =
    let w = c.requires in
    (w, tables_fit _ _ (sym c.in-Few.is ∙ c.tables_for.ensures) (reads_length_ok _ w.b.st w.b.root w.b.reads), omega arith)

pub free_below-requires-in-Many : goal.free_below-requires-in-Many
free_below-requires-in-Many c =
    let w = c.requires in
    (w, tables_fit _ _ (sym c.in-Many.is ∙ c.tables_for.ensures) (reads_length_ok _ w.b.st w.b.root w.b.reads), omega arith)
