-- `read_faults::diagnose_of`: a fault is found exactly where the check's number is 3, every byte being below 256.
use Rattle.std.proofs.Common.{ap, sym, ◌∙◌, arith}
use Rattle.read_faults.specs.Answer.{answer, as_broken}
use Rattle.read_faults.specs.Whole.{diagnosed, misfit}
use Rattle.read_faults.proofs.diagnose_of.Goals as goal

pub returns-then-not-length_ok : goal.returns-then-not-length_ok
returns-then-not-length_ok c =
    misfit c.args.image.now (λ i. omega (arith, c.type_inv.image i)) (sym c.length_ok.ensures ∙ c.if-not-length_ok.true)

pub fault_of-requires : goal.fault_of-requires
fault_of-requires c = (sym c.length_ok.ensures ∙ c.if-not-length_ok.false)

pub returns-in_err-fault_of : goal.returns-in_err-fault_of
returns-in_err-fault_of c =
    as_broken _ _ c.from_residual.ensures.1 ∙ ap answer c.in_err-fault_of.ensures
    ∙ diagnosed c.args.image.now (λ i. omega (arith, c.type_inv.image i)) (sym c.length_ok.ensures ∙ c.if-not-length_ok.false)

pub returns : goal.returns
returns c =
    ap answer c.in_ok-fault_of.ensures
    ∙ diagnosed c.args.image.now (λ i. omega (arith, c.type_inv.image i)) (sym c.length_ok.ensures ∙ c.if-not-length_ok.false)
