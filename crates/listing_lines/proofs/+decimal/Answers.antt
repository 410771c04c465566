use Rattle.std.specs.Prelude.{[], ◌∷◌, ◌++◌, ℕ, ◌/◌}
use Rattle.std.proofs.Common.{arith, sym, ap, ◌∙◌}
use Rattle.listing_lines.specs.Text.{decimal_of}
use Rattle.listing_lines.specs.Wrote.{then, same_text, same_room}
use Rattle.listing_lines.specs.Digits.{decimal_last, decimal_more, decimal_long}
use Rattle.listing_lines.proofs.+decimal.Goals as goal

pub put-requires : goal.put-requires
put-requires t c =
    same_room (decimal_last _ c.if-n-lt10.true ∙ ap (λ (d : ℕ). d ∷ []) (sym c.glyph.ensures)) c.requires

pub returns-then-n-lt10 : goal.returns-then-n-lt10
returns-then-n-lt10 t c =
    same_text (ap (λ (d : ℕ). d ∷ []) c.glyph.ensures ∙ sym (decimal_last _ c.if-n-lt10.true)) c.put.ensures

pub decimal-last-requires : goal.decimal-last-requires
decimal-last-requires t c = (
  omega (arith, c.decreases, c.if-n-lt10.false),
  record { fits = omega (arith, c.requires.fits, decimal_long c.args.n c.if-n-lt10.false) },
)

pub put-requires-2 : goal.put-requires-2
put-requires-2 t c =
    record { fits = omega (arith, c.requires.fits, decimal_long c.args.n c.if-n-lt10.false, c.decimal-last.ensures.ends, c.decimal-last.ensures.same) }

pub returns : goal.returns
returns t c =
    same_text (ap (λ (d : ℕ). decimal_of (c.args.n / 10) ++ (d ∷ [])) c.glyph-2.ensures ∙ sym (decimal_more _ c.if-n-lt10.false))
    (then c.decimal-last.ensures c.put-2.ensures)
