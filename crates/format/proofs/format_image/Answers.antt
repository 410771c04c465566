-- `format::format_image`: each way out is one of the three of the call.
use mathlib.Core.Path.{sym, ◌∙◌}
use Rattle.format.specs.Call.{outcome, refused_1, refused_2, accepted, ready}
use Rattle.format.proofs.format_image.Goals as goal

pub returns-then-not-length_ok : goal.returns-then-not-length_ok
returns-then-not-length_ok c =
    let o = outcome _ _ _ _ _ _ (refused_1 _ _ _ _ (sym c.length_ok.ensures ∙ c.if-not-length_ok.true)) in
    record { answer = o.0; image = o.1 }

pub returns-then-not-settings_fit : goal.returns-then-not-settings_fit
returns-then-not-settings_fit c =
    let long = sym c.length_ok.ensures ∙ c.if-not-length_ok.false in
    let o = outcome _ _ _ _ _ _ (refused_2 _ _ _ _ long (sym c.settings_fit.ensures ∙ c.if-not-settings_fit.true)) in
    record { answer = o.0; image = o.1 }

pub write_first-requires : goal.write_first-requires
write_first-requires c =
    let long = sym c.length_ok.ensures ∙ c.if-not-length_ok.false in
    ready _ _ _ long (sym c.settings_fit.ensures ∙ c.if-not-settings_fit.false)

pub returns : goal.returns
returns c =
    let long = sym c.length_ok.ensures ∙ c.if-not-length_ok.false in
    let fit = sym c.settings_fit.ensures ∙ c.if-not-settings_fit.false in
    let o = outcome _ _ _ _ _ _ (accepted _ _ _ _ long fit) in
    record { answer = o.0; image = c.write_first.ensures ∙ o.1 }
