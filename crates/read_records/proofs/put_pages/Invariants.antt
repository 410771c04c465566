-- `read_records::put_pages`: the pages that are left, written from `at`, make what all of them make in the buffer as it was.
use Rattle.read_records.specs.Loops.{Put}
use Rattle.read_records.proofs.put_pages.Given as goal

abbrev pub invariant-loop-p : goal.invariant-loop-p
invariant-loop-p l = Put l.image l.initial.buffer l.pages l.p l.at l.buffer
