use Rattle.std.specs.Prelude.{refl}
use Rattle.std.proofs.Common.{arith}
use Rattle.listing_lines.specs.Text.{hex_of}
use Rattle.listing_lines.specs.Wrote.{nothing, then, same_text}
use Rattle.listing_lines.specs.Digits.{length_hex, hex_long, hex_turn}
use Rattle.listing_lines.proofs.hexadecimal.Goals as goal

pub loop-b-init : goal.loop-b-init
unfolding hex_of
loop-b-init c = nothing _ _ (omega (arith, c.requires.fits))

pub put-half-requires : goal.put-half-requires
put-half-requires c =
    record { fits = omega (arith, c.requires.fits, length_hex c.args.bytes.now, hex_long c.loop-b.b-index c.args.bytes.now (omega arith), c.loop-b.invariant.ends, c.loop-b.invariant.same) }

pub put-end-requires : goal.put-end-requires
put-end-requires c =
    record {
      fits = omega (
        arith,
        c.requires.fits,
        length_hex c.args.bytes.now,
        hex_long c.loop-b.b-index c.args.bytes.now (omega arith),
        c.loop-b.invariant.ends,
        c.loop-b.invariant.same,
        c.put-half.ensures.ends,
        c.put-half.ensures.same,
      );
    }

pub loop-b-preserved : goal.loop-b-preserved
loop-b-preserved c =
    same_text (hex_turn _ _ _ _ _ c.loop-b-test.true refl c.glyph.ensures c.glyph-in-loop-b.ensures)
    (then (then c.loop-b.invariant c.put-half.ensures) c.put-end.ensures)
