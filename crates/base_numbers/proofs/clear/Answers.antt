use Rattle.std.proofs.Common.{arith}
use Rattle.base_numbers.proofs.Part.{zeros_over}
use Rattle.base_numbers.proofs.clear.Goals as goal

pub returns : goal.returns
returns c = let h = c.fill.ensures in zeros_over _ _ _ _ _ (h.after (λ y e. e)) (omega arith) c.requires
