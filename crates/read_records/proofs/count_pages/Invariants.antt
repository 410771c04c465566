-- `read_records::count_pages`: the pages counted, and those that are left, are all of them.
use Rattle.read_records.specs.Loops.{Counted}
use Rattle.read_records.proofs.count_pages.Given as goal

abbrev pub invariant-loop-p : goal.invariant-loop-p
invariant-loop-p l = Counted l.image l.pages l.p l.n
