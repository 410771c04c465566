use mathlib.Core.Path.{refl, ap}
use Prim.Native.Nat.{◌+◌, ◌-◌, ◌*◌}
use Rattle.base_node_kinds.specs.declared.Kinds.{Kinds}
use Rattle.read_walker.specs.Turns.{walker}
use Rattle.read_walker.proofs.enter.Goals as goal

pub returns : goal.returns
returns c =
    let a = c.args in
    let w = a.w in record {
      walker = ap (λ (k : Kinds). walker k (w.left - 1) w.count (w.depth + 1) (4096 * a.p + 6) a.end w.level) c.kinds_in.ensures;
      widths = refl;
      back = refl;
    }
