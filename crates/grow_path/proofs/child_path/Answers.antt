-- `grow_path::child_path`: the path's bytes and the entry's stand one behind the other.
use mathlib.Core.Path.{refl}
use borrow.Author.Rules.{rules}
use Rattle.grow_path.specs.Path.{spelled}
use Rattle.grow_path.proofs.child_path.Goals as goal

pub copy_in-requires : goal.copy_in-requires
copy_in-requires c = search rules

pub put32-requires : goal.put32-requires
put32-requires c = search rules

pub overflow_add-result : goal.overflow_add-result
overflow_add-result c = search rules

pub shape_of-out : goal.shape_of-out
shape_of-out c = search rules

pub returns : goal.returns
returns c = (
  refl,
  spelled c.args.path.now c.args.out.now _ _ c.args.child c.requires.1 c.requires.0
      c.copy_in.ensures c.put32.ensures,
)
