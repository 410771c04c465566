use mathlib.Core.Path.{refl}
use Rattle.grow_locate.proofs.children.Goals as goal

pub returns : goal.returns
returns c = rw c.size_at.ensures.0 refl
