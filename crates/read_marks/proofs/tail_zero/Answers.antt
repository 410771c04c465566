use mathlib.Core.Path.{◌≡◌, ◌∙◌}
use mathlib.Core.List.{List}
use Prim.Native.Nat.{ℕ, ◌+◌, ◌-◌, ◌*◌}
use native.Mathlib.Omega.{arith}
use lib.ListN.{take, drop}
use Rattle.model.specs.Limits.{page_size, capacity}
use Rattle.model.specs.BeforeWalk.{all_zero}
use Rattle.model.specs.Reading.{used_at}
use Rattle.model.specs.WalkTests.{tail_zero}
use Rattle.read_marks.proofs.tail_zero.Goals as goal

-- from the length used to the trailer
tail_is : (img : List ℕ) (a u : ℕ) → all_zero (take (a + capacity - (a + u)) (drop (a + u) img)) ≡ all_zero (take (capacity - u) (drop (a + u) img))
tail_is img a u = let n : a + capacity - (a + u) ≡ capacity - u = omega arith in rw n

pub returns : goal.returns
unfolding tail_zero
returns c = c.zeros.ensures ∙ rw c.record_end-end.ensures (tail_is c.args.image.now (page_size * c.args.p) (used_at c.args.image.now (page_size * c.args.p)))
