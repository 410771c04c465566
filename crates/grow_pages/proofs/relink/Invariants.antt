-- What is left of the row leads to the same image.
use mathlib.Core.Path.{◌≡◌}
use mathlib.Core.List.{List}
use Prim.Native.Nat.{ℕ, ◌-◌}
use lib.ListN.{length}
use Rattle.grow_pages.specs.Links.{link, Walking}
use Rattle.grow_pages.proofs.relink.Given as goal

abbrev pub invariant-loop-pos : goal.invariant-loop-pos
invariant-loop-pos l = ((goal : List ℕ) → Walking l.row l.pages (link l.q) 0 l.initial.image goal → Walking l.row l.pages (link l.q) l.pos l.image goal) × (length l.image ≡ length l.initial.image)

abbrev pub decreases-loop-pos : goal.decreases-loop-pos
decreases-loop-pos l = length l.row - l.pos
