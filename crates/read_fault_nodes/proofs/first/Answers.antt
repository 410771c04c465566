-- `read_fault_nodes::first`: a size, then the node.
use Rattle.std.proofs.Common.{arith}
use Rattle.read_fault_nodes.specs.Nodes.{leads_stop, leads_same, within_front, within_long, first_none, first_some, first_sized, first_says}
use Rattle.read_fault_nodes.proofs.first.Goals as goal

pub returns-then-n-eq0 : goal.returns-then-n-eq0
returns-then-n-eq0 c =
    leads_stop _ _ c.new.ensures (λ ps k. first_none _ _ _ _ _ _ _ c.size_of-n.ensures c.if-n-eq0.true ps)

pub overflow_add-i : goal.overflow_add-i
overflow_add-i c =
    let w = c.requires.1 in
    omega (arith, first_sized _ _ _ _ _ 0 _ c.size_of-n.ensures w c.if-n-eq0.false, within_long w)

pub inside-requires : goal.inside-requires
inside-requires c =
    let p = c.requires in
    let s = first_sized _ _ _ _ _ 0 _ c.size_of-n.ensures p.1 c.if-n-eq0.false in
    (p.0, within_front p.1 s.1, s.0)

pub returns : goal.returns
returns c =
    let w = c.requires.1 in
    let is = c.size_of-n.ensures in
    let some = c.if-n-eq0.false in
    leads_same (first_some _ _ _ _ _ _ _ is some) (λ x. first_says _ _ _ _ _ _ _ is w some) c.inside.ensures
