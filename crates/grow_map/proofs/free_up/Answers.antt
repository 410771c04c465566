use Rattle.grow_map.specs.Search.{upto_bytes}
use Rattle.grow_map.proofs.free_up.Goals as goal

pub loop-q-preserved : goal.loop-q-preserved
loop-q-preserved c =
    let e = c.full_bytes-n.ensures in
    upto_bytes _ _ _ _ c.loop-q.invariant e.0 c.requires.1 c.if-n-eq0.false e.1
