-- `listing_text::walk`: what is written and what is left are the whole text. The measure of the recursion is the depth.
use Rattle.std.specs.Prelude.{◌≡◌, List, ℕ, ◌-◌}
use Rattle.listing_text.specs.Lined.{Underway}
use Rattle.listing_text.proofs.+walk.Given as goal

abbrev pub decreases-walk : goal.decreases-walk
decreases-walk l = l.depth

abbrev pub invariant-loop-i : goal.invariant-loop-i
invariant-loop-i l =
    let from = l.initial.writer in
    let to = l.writer in
    ((t : List ℕ) → Underway l.image l.row.start l.row.stop l.row.level l.depth from.at from.at from.out.now from.out.now t
    → Underway l.image l.i l.row.stop l.row.level l.depth from.at to.at from.out.now to.out.now t)
    × (to.out.ghost_name ≡ from.out.ghost_name)

abbrev pub decreases-loop-i : goal.decreases-loop-i
decreases-loop-i l = l.row.stop - l.i
