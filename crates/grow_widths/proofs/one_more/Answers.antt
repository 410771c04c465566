use Rattle.std.specs.Prelude.{true}
use Rattle.std.proofs.Common.{rules}
use Rattle.grow_widths.specs.Raised.{entry_anew}
use Rattle.grow_widths.proofs.one_more.Goals as goal

pub change-requires-clause-makes : goal.change-requires-clause-makes
change-requires-clause-makes c = record { of = entry_anew true; is = λ x y e. search rules }

pub returns : goal.returns
returns c = λ w. c.change.ensures w (record { of = entry_anew true; is = λ x y e. search rules })
