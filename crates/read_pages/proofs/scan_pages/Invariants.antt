-- The pages from p on, with n record pages before them, come out as the whole pass.
use Rattle.std.specs.Prelude.{◌≡◌, ◌≤◌, ◌-◌}
use Rattle.read_pages.specs.Counts.{count_from}
use Rattle.read_pages.proofs.scan_pages.Given as goal

abbrev pub invariant-loop-p : goal.invariant-loop-p
invariant-loop-p l = (l.n ≤ l.p) × (count_from l.image l.pages (l.pages - 1) 1 0 ≡ count_from l.image l.pages (l.pages - l.p) l.p l.n)
