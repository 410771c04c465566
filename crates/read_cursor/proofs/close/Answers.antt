-- `read_cursor::close`: what the stack has is what is behind the aggregate.
use mathlib.Core.Path.{refl}
use native.Mathlib.Omega.{arith}
use Rattle.read_cursor.specs.Going.{closed_room, closed}
use Rattle.read_cursor.proofs.close.Goals as goal

pub put_count-requires : goal.put_count-requires
put_count-requires c =
    let a = c.requires.3 in
    (closed_room a, omega (arith, a.going.few))

pub returns : goal.returns
returns c = record { goes = λ i t g a. closed a _ c.put_count.ensures; moves = (refl, refl) }
