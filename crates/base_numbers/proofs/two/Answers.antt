use Rattle.std.proofs.Common.{arith}
use Rattle.model.specs.Reading.{two_at}
use Rattle.base_numbers.proofs.two.Goals as goal

pub returns : goal.returns
unfolding two_at
returns c = (omega arith, omega arith)
