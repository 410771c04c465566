use Rattle.std.proofs.Common.{arith}
use Rattle.base_numbers.proofs.Part.{part_over}
use Rattle.base_numbers.proofs.put16.Goals as goal

pub returns : goal.returns
returns c = part_over _ _ _ _ _ (rw (c.copy_from_slice.ensures.after, c.to_le_bytes.ensures)) (omega arith)
