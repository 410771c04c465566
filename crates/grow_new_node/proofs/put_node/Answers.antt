use native.Mathlib.Omega.{arith}
use Rattle.grow_new_node.specs.Node.{first_number, node_size, node_written}
use Rattle.grow_new_node.proofs.put_node.Goals as goal

pub overflow_add-kind : goal.overflow_add-kind
overflow_add-kind c = omega (arith, first_number c.requires.0)

pub put16-requires : goal.put16-requires
put16-requires c =
    omega (arith, c.requires.1, first_number c.requires.0)

pub returns : goal.returns
returns c =
    record {
      size = λ st. node_size st c.requires.0;
      bytes = λ st. node_written st c.requires.0 _ _ _ _ _ c.requires.1 c.put16.ensures c.put16-2.ensures c.put16-3.ensures c.copy_in.ensures;
    }
