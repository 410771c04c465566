use mathlib.Core.Path.{refl}
use borrow.Author.Tests.{lt-ltb, le-ltb}
use Rattle.grow_locate.proofs.closer.Goals as goal

pub returns-then-next : goal.returns-then-next
returns-then-next c = let n = c.args.next in rw (lt-ltb n.pos n.end c.if-next.true) refl

pub returns-else-next : goal.returns-else-next
returns-else-next c = let n = c.args.next in rw (le-ltb n.pos n.end c.if-next.false) refl
