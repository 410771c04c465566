-- The pages from p on have the first that was not reached.
use Rattle.std.specs.Prelude.{◌≡◌, List, ℕ, ◌-◌}
use Rattle.model.specs.Calls.Diagnose as diagnose
use Rattle.theory_faults.specs.Reached.{Matches}
use Rattle.read_faults.proofs.unreached.Given as goal

abbrev pub invariant-loop-p : goal.invariant-loop-p
invariant-loop-p l = (reached : List ℕ) → Matches l.marks reached → diagnose.unreached l.image reached (l.pages - 2) 2 ≡ diagnose.unreached l.image reached (l.pages - l.p) l.p
