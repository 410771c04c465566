-- `grow_locate::seek`: the loop goes along the row, past nodes that do not show the one sought, and into the record whose helper shows it; in what is left it
-- stays the same, and so does the one after it, there or in what follows. Into a record the depth falls.
use Rattle.std.specs.Prelude.{Option}
use Rattle.std.proofs.Common.{◌+◌, ◌*◌, ◌-◌, ◌≤◌}
use Rattle.model.specs.Limits.{most_pages, page_size}
use Rattle.grow_locate.specs.declared.Located.{Located}
use Rattle.grow_locate.specs.Seek.{empty_span}
use Rattle.grow_locate.specs.Walk.{Seeking}
use Rattle.grow_locate.proofs.seek.Given as goal

abbrev pub invariant-loop-span : goal.invariant-loop-span
invariant-loop-span l = ((t u : Option Located) → Seeking l.image l.initial.span (empty_span l.initial.span) most_pages l.k t u → Seeking l.image l.span l.after (most_pages - (l.span.deep - l.initial.span.deep)) l.to_pass t u)
    × (l.initial.span.deep ≤ l.span.deep) × (l.span.deep ≤ l.initial.span.deep + most_pages) × (l.after.deep ≤ l.initial.span.deep + most_pages)

abbrev pub decreases-loop-span : goal.decreases-loop-span
decreases-loop-span l = page_size * (most_pages - (l.span.deep - l.initial.span.deep)) + (l.span.end - l.span.pos)
