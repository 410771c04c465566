-- `base_ranges::tables_for`: the two cases of the test.
use borrow.Author.Tests.{le-leb, lt-leb}
use Rattle.base_ranges.specs.Tables.{tables_for}
use Rattle.base_ranges.proofs.tables_for.Goals as goal

pub returns-then-n : goal.returns-then-n
unfolding tables_for
returns-then-n c = simp (le-leb _ _ c.if-n.true)

pub returns : goal.returns
unfolding tables_for
returns c = simp (lt-leb _ _ c.if-n.false)
