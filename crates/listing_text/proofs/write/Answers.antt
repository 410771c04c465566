-- `listing_text::write`: over 15 pages, refused, or listed. The check on the bytes is the check of the rules, every byte being below 256.
use Rattle.std.proofs.Common.{arith, sym, ◌∙◌}
use Rattle.listing_lines.specs.Writes.{writes_as}
use Rattle.theory_calls.specs.Refusals.{some_number}
use Rattle.theory_check.specs.Exact.{exact}
use Rattle.listing_text.specs.Whole.{over_printed, listing_printed, refused_printed, refused_room}
use Rattle.listing_text.proofs.write.Goals as goal

pub words-requires : goal.words-requires
words-requires c = record { fits = omega (arith, c.requires) }

pub returns-then-input-gt61440 : goal.returns-then-input-gt61440
returns-then-input-gt61440 c = writes_as (over_printed _ c.if-input-gt61440.true) c.words.ensures

pub listing-requires : goal.listing-requires
listing-requires c =
    (sym (c.in-Ok.ensures ∙ exact c.args.input.now (λ i. omega (arith, c.type_inv.input i))), c.if-input-gt61440.false, c.requires)

pub returns-in-Ok : goal.returns-in-Ok
returns-in-Ok c = writes_as (listing_printed _ c.if-input-gt61440.false) c.listing.ensures

pub refused-requires : goal.refused-requires
refused-requires c =
    let e = c.from.ensures ∙ c.in-Err.ensures ∙ exact c.args.input.now (λ i. omega (arith, c.type_inv.input i)) in
    refused_room _ _ _ _ e (λ z. some_number c.in-Err.refusal (sym c.from.ensures ∙ z)) c.requires

pub returns-in-Err : goal.returns-in-Err
returns-in-Err c =
    let e = c.from.ensures ∙ c.in-Err.ensures ∙ exact c.args.input.now (λ i. omega (arith, c.type_inv.input i)) in
    writes_as (refused_printed _ _ c.if-input-gt61440.false e (λ z. some_number c.in-Err.refusal (sym c.from.ensures ∙ z))) c.refused.ensures
