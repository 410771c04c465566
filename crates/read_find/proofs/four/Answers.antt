use native.Mathlib.Omega.{arith}
use Rattle.read_find.specs.Entries.{four_at}
use Rattle.read_find.proofs.four.Goals as goal

pub returns : goal.returns
unfolding four_at
returns c = omega arith
