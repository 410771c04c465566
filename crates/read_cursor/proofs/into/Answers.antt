use mathlib.Core.Path.{refl}
use Rattle.read_cursor.proofs.into.Goals as goal

pub returns : goal.returns
returns c = record { cursor = refl; stack = refl }
