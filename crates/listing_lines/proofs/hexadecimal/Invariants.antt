-- `listing_lines::hexadecimal`: the bytes before this one are written.
use Rattle.std.specs.Prelude.{take}
use Rattle.listing_lines.specs.Text.{hex_of}
use Rattle.listing_lines.specs.Wrote.{Wrote}
use Rattle.listing_lines.proofs.hexadecimal.Given as goal

abbrev pub invariant-loop-b : goal.invariant-loop-b
invariant-loop-b l = Wrote (hex_of (take l.b-index l.bytes)) l.at l.initial.out l.out l.end
