use borrow.Author.Tests.{le-leb, lt-leb}
use Rattle.read_nodes.specs.Leaf.{literal_of}
use Rattle.read_nodes.proofs.literal.Goals as goal

pub returns-then-size-gt-NODE : goal.returns-then-size-gt-NODE
unfolding literal_of
returns-then-size-gt-NODE c = simp (lt-leb _ _ c.if-size-gt-NODE.true)

pub returns : goal.returns
unfolding literal_of
returns c = simp (le-leb _ _ c.if-size-gt-NODE.false) c.stands.ensures
