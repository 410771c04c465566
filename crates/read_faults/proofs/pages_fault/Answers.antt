use Rattle.std.proofs.Common.{refl, sym, ap, ◌∙◌}
use Rattle.model.specs.Calls.Diagnose.{fault}
use Rattle.read_pages.specs.Counts.{only_broken}
use Rattle.read_faults.specs.Pages.{page_part, state_fits, state_wrong, pages_end, pages_past, pages_here}
use Rattle.read_faults.proofs.pages_fault.Goals as goal

pub returns-in-Broken : goal.returns-in-Broken
returns-in-Broken c =
    let a = c.args in
    let l = c.loop-p in
    let wrong = state_wrong _ _ _ _ c.in-Broken.ensures refl in
    ap (fault 2 l.p) c.page_reason.ensures
    ∙ sym (l.invariant ∙ pages_here a.image.now a.pages l.p c.loop-p-test.true _ (page_part a.image.now l.p) wrong)

pub loop-p-preserved : goal.loop-p-preserved
loop-p-preserved c =
    let a = c.args in
    let l = c.loop-p in
    let fits = state_fits _ _ _ _ c.page_state.ensures (λ e. c.in_default.not-Broken (only_broken _ e)) in
    l.invariant ∙ pages_past a.image.now a.pages l.p c.loop-p-test.true _ (page_part a.image.now l.p) fits

pub returns : goal.returns
returns c =
    let a = c.args in
    sym (c.loop-p.invariant ∙ pages_end a.image.now a.pages c.loop-p.p c.loop-p-test.false)
