use mathlib.Core.Path.{refl}
use Rattle.grow_locate.proofs.enter_first.Goals as goal

pub returns : goal.returns
returns c =
    rw (c.row_start.ensures, c.record_end.ensures, c.name_at-p.ensures.0) refl
