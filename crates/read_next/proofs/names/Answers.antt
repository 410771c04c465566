use Rattle.read_next.specs.Scan.{names_some, names_none}
use Rattle.read_next.proofs.names.Goals as goal

pub returns-then-image-pos-eq3 : goal.returns-then-image-pos-eq3
returns-then-image-pos-eq3 c = names_some _ _ _ _ c.if-image-pos-eq3.true c.name_at.ensures.0

pub returns : goal.returns
returns c = names_none c.args.image.now c.args.pos _ c.if-image-pos-eq3.false
