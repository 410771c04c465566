-- Pages 0 and 1 are marked, and those from `pages` to p.
use Rattle.std.specs.Prelude.{◌≡◌, List, ℕ, length}
use Rattle.grow_map.specs.Map.{ShutTo}
use Rattle.grow_map.proofs.shut.Given as goal

abbrev pub invariant-loop-p : goal.invariant-loop-p
invariant-loop-p l = ((old : List ℕ) → ShutTo l.pages old l.initial.map l.pages → ShutTo l.pages old l.map l.p) × (length l.map ≡ length l.initial.map)
