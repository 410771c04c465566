use Rattle.std.specs.Prelude.{◌≡◌, max}
use Rattle.std.specs.List.{fold}
use Rattle.std.proofs.Common.{rules}
use Rattle.model.specs.BeforeWalk.{all_zero}
use Rattle.read_pages.proofs.Largest.{largest_zero}
use Rattle.read_pages.proofs.zeros.Goals as goal

pub returns : goal.returns
unfolding all_zero
returns c = let e : c.fold.result ≡ fold max 0 c.args.s.now = search rules in rw e (largest_zero 0 c.args.s.now)
