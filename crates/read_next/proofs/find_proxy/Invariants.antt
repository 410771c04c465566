use Prim.Native.Nat.{◌-◌, ◌+◌, ◌*◌}
use Rattle.model.specs.Limits.{page_size}
use Rattle.read_next.specs.Scan.{HeldBy, ProxySought}
use Rattle.read_next.proofs.find_proxy.Given as goal

abbrev pub invariant-loop-pos : goal.invariant-loop-pos
invariant-loop-pos l = (w : HeldBy l.image l.holder l.page) → ProxySought l.image l.holder l.page w.pos l.pos

abbrev pub decreases-loop-pos : goal.decreases-loop-pos
decreases-loop-pos l = page_size * l.holder + page_size - l.pos
