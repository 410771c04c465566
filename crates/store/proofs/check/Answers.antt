-- `store::check` meets its contract: the check on the bytes is the check of the rules, every byte being below 256.
use Rattle.std.proofs.Common.{◌∙◌, arith}
use Rattle.theory_check.specs.Exact.{exact}
use Rattle.store.proofs.check.Goals as goal

pub returns : goal.returns
returns c = c.check.ensures ∙ exact c.args.image.now (λ i. omega (arith, c.type_inv.image i))
