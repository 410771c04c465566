-- `grow_cascade::cascade`: at each record, growth from there upwards gives what it gave from the first one.
use mathlib.Core.Path.{◌≡◌}
use Prim.Native.Nat.{◌-◌}
use lib.ListN.{length}
use lib.IntN.{pos}
use Rattle.model.specs.Limits.{most_pages}
use Rattle.base_layout.specs.Growing.{buffer_size}
use Rattle.grow_groups.specs.Used.{tables}
use Rattle.grow_cascade.specs.Cascade.{Cascade, goal_of, mem_of, Onward}
use Rattle.grow_cascade.proofs.cascade.Given as goal

abbrev pub invariant-loop-len : goal.invariant-loop-len
invariant-loop-len l = ((w : Cascade (record { setup = l.setup; near = l.initial.near; dry = l.dry }) l.initial.len l.initial.full 0 (pos 0) l.initial.buf (tables l.initial.widths l.initial.map) l.initial.image)
    → Onward (goal_of w) (mem_of w) l.initial.image (tables l.initial.widths l.initial.map) (record { setup = l.setup; near = l.near; dry = l.dry }) l.len l.full l.splits l.lean l.buf (tables l.widths l.map) l.image)
    × (length l.buf ≡ buffer_size)

abbrev pub decreases-loop-len : goal.decreases-loop-len
decreases-loop-len l = most_pages - l.splits
