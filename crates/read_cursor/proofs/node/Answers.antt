use Rattle.read_cursor.specs.Going.{node_here, node_few, begin_low}
use Rattle.read_cursor.proofs.node.Goals as goal

pub tell-t-requires : goal.tell-t-requires
tell-t-requires c =
    let a = c.requires.1 in
    (node_here a _ c.size_at-size.ensures.0, begin_low a _ c.begin-here.ensures)

pub over-requires : goal.over-requires
over-requires c =
    let a = c.requires.1 in
    (node_here a _ c.size_at-size.ensures.0, node_few a)

pub returns : goal.returns
returns c = record {
  goes = λ g a.
      c.over.ensures.goes _ g _ _ a
      (record { begins = c.begin-here.ensures; long = c.size_at-size.ensures.0; tells = c.tell-t.ensures });
  moves = c.over.ensures.moves;
}
