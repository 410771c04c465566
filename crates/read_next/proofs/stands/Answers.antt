-- stands
use Rattle.read_next.specs.Scan.{standing_past, standing_proxy, standing_node, reached_inside}
use Rattle.read_next.proofs.stands.Goals as goal

pub returns-then-pos-target : goal.returns-then-pos-target
returns-then-pos-target c = standing_past _ _ _ _ c.reach-pos.ensures c.if-pos-target.true

pub bounds-image-pos : goal.bounds-image-pos
bounds-image-pos c =
    let s = c.requires in reached_inside _ _ _ _ c.reach-pos.ensures s.0 c.if-pos-target.false s.1

pub returns-then-image-pos-eq3 : goal.returns-then-image-pos-eq3
returns-then-image-pos-eq3 c = standing_proxy _ _ _ _ c.reach-pos.ensures c.if-pos-target.false c.if-image-pos-eq3.true

pub returns : goal.returns
returns c =
    let s = c.requires in
    standing_node _ _ _ _ c.reach-pos.ensures s.0 c.if-pos-target.false s.1 c.if-image-pos-eq3.false
