-- `nichelarder::walk_numbers` meets its contract: a node follows, or none.
use Rattle.std.specs.Prelude.{Option}
use Rattle.std.proofs.Common.{sym, ap}
use Rattle.model.specs.Answers.{walked_to}
use Rattle.model.specs.declared.Place.{Place}
use Rattle.nichelarder.specs.Numbers.{walk_numbers}
use Rattle.nichelarder.proofs.walk_numbers.Goals as goal

pub returns-in-Some : goal.returns-in-Some
returns-in-Some c = sym (ap (λ (o : Option Place). walk_numbers (walked_to c.args.walked.written o)) c.in-Some.is)

pub returns-in-None : goal.returns-in-None
returns-in-None c = sym (ap (λ (o : Option Place). walk_numbers (walked_to c.args.walked.written o)) c.in-None.is)
