-- The pages from p on have the fault of all.
use Rattle.std.specs.Prelude.{◌≡◌, ◌-◌}
use Rattle.model.specs.Calls.Diagnose.{pages_fault}
use Rattle.read_faults.proofs.pages_fault.Given as goal

abbrev pub invariant-loop-p : goal.invariant-loop-p
invariant-loop-p l = pages_fault l.image l.pages (l.pages - 1) 1 ≡ pages_fault l.image l.pages (l.pages - l.p) l.p
