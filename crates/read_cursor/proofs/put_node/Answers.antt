use Rattle.read_cursor.proofs.put_node.Goals as goal

pub returns-then-image-c-eq1 : goal.returns-then-image-c-eq1
returns-then-image-c-eq1 c = record { number = c.put_aggregate.ensures.number; out = c.put_aggregate.ensures.out _ }

pub put_literal-requires : goal.put_literal-requires
put_literal-requires c = let p = c.requires in (p.0, p.1, p.2, p.0.kind c.if-image-c-eq1.false)
