use Rattle.read_faults.proofs.settings_reason.Goals as goal

pub returns-then-zeros : goal.returns-then-zeros
returns-then-zeros c = simp (← c.zeros.ensures, c.if-zeros.true)

pub returns-then-erased : goal.returns-then-erased
returns-then-erased c = simp (← c.zeros.ensures, c.if-zeros.false, ← c.erased.ensures, c.if-erased.true)

pub returns : goal.returns
returns c = simp (← c.zeros.ensures, c.if-zeros.false, ← c.erased.ensures, c.if-erased.false)
