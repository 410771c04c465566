-- Where the part before the walk passes the fault is the walk's, else one of the first two stages'.
use Rattle.std.specs.Prelude.{length}
use Rattle.std.proofs.Common.{arith, sym, ap, ◌∙◌}
use Rattle.model.specs.Calls.Diagnose.{fault}
use Rattle.theory_decoding.specs.Length.{length_says}
use Rattle.read_faults.specs.Whole.{count_trailers, fault_settings, fault_pages, fault_walk}
use Rattle.read_faults.proofs.fault_of.Goals as goal

pub walk_fault-requires : goal.walk_fault-requires
walk_fault-requires c =
    let e = c.in-Some.ensures in
    record { before = (c.requires, sym e.passed); count = e.number ∙ count_trailers c.args.image.now (sym e.passed) }

pub returns-in-Some : goal.returns-in-Some
returns-in-Some c = c.walk_fault.ensures ∙ sym (fault_walk c.args.image.now (sym c.in-Some.ensures.passed))

pub slice_bounds-page-end : goal.slice_bounds-page-end
slice_bounds-page-end c = omega (arith, length_says (length c.args.image.now) c.requires)

pub returns-then-not-settings_ok : goal.returns-then-not-settings_ok
returns-then-not-settings_ok c =
    ap (fault 1 0) c.settings_reason.ensures
    ∙ sym (fault_settings c.args.image.now (sym c.settings_ok.ensures ∙ c.if-not-settings_ok.true))

pub pages_fault-requires : goal.pages_fault-requires
pages_fault-requires c =
    let l = length_says (length c.args.image.now) c.requires in
    (omega (arith, l.whole), omega (arith, l.few), l.many)

pub returns : goal.returns
returns c =
    c.pages_fault.ensures
    ∙ sym (fault_pages c.args.image.now (sym c.settings_ok.ensures ∙ c.if-not-settings_ok.false) (sym c.in_default.ensures.passed))
