use Rattle.read_next.specs.Scan.{step_one, step_more}
use Rattle.read_next.proofs.flat.Goals as goal

pub returns-then-image-pos-eq1 : goal.returns-then-image-pos-eq1
returns-then-image-pos-eq1 c = step_one _ _ c.if-image-pos-eq1.true

pub returns : goal.returns
returns c = step_more _ _ _ c.if-image-pos-eq1.false c.size_at.ensures.0
