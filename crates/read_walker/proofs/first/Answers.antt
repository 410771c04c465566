use mathlib.Core.Path.{ap}
use Rattle.base_node_kinds.specs.declared.Kinds.{Kinds}
use Rattle.read_walker.specs.Turns.{walker}
use Rattle.read_walker.proofs.first.Goals as goal

pub returns : goal.returns
returns c =
    let a = c.args in
    ap (λ (k : Kinds). walker k a.left 0 0 a.start a.last a.level) c.kinds_in.ensures
