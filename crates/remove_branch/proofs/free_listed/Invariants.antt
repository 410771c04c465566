-- `remove_branch::free_listed`: the first k of the list are freed, and the others lead to all that is left.
use Rattle.std.proofs.Common.{◌-◌}
use Rattle.model.specs.Limits.{most_pages}
use Rattle.remove_branch.specs.Freeing.{Freeing, Turn}
use Rattle.remove_branch.proofs.free_listed.Given as goal

abbrev pub invariant-loop-k : goal.invariant-loop-k
invariant-loop-k g l = (w : Freeing l.initial.image l.initial.map l.initial.list.items g.row.N) → Turn w l.image l.map l.list.items l.k

abbrev pub decreases-loop-k : goal.decreases-loop-k
decreases-loop-k g l = most_pages - l.k
