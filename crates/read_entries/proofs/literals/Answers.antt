use Rattle.std.proofs.Common.{refl, sym, ◌∙◌, arith, length}
use Rattle.read_cursor.specs.Going.{Going}
use Rattle.read_entries.specs.Literals.{LiteralNext, literal_next_lem, further}
use Rattle.read_entries.specs.Nested.{at_some, at_node, inside}
use Rattle.read_entries.proofs.literals.Goals as goal

pub loop-out-init : goal.loop-out-init
loop-out-init c = let p = c.requires in (λ target g stack w. w, p.1, p.2, omega arith, refl, λ z. refl)

pub at_literal-requires : goal.at_literal-requires
at_literal-requires c =
    let w : Going c.args.image.now c.requires.0.0 c.requires.0.1 c.loop-out.c c.requires.0.2 c.loop-out.out = let p = c.requires.0 in c.loop-out.invariant.0 p.0 p.1 p.2 p.3 in
    (λ z. (inside w (at_some w z)).0, c.loop-out.invariant.1, w.fair.low)

pub write_literal-c-requires : goal.write_literal-c-requires
write_literal-c-requires c =
    let w : Going c.args.image.now c.requires.0.0 c.requires.0.1 c.loop-out.c c.requires.0.2 c.loop-out.out = let p = c.requires.0 in c.loop-out.invariant.0 p.0 p.1 p.2 p.3 in
    let n : let image = c.args.image.now in
    LiteralNext image c.loop-out.c (length c.loop-out.out) = let i = c.loop-out.invariant in literal_next_lem c.args.image.now c.loop-out.c (length c.loop-out.out) i.1 i.2 (sym c.at_literal.ensures ∙ c.loop-out-test.true) in
    ((_, _, _, at_node w n.some (λ z. omega (arith, n.kind))), n.roomy, n.kind)

pub loop-out-smaller : goal.loop-out-smaller
loop-out-smaller c =
    let w : Going c.args.image.now c.requires.0.0 c.requires.0.1 c.loop-out.c c.requires.0.2 c.loop-out.out = let p = c.requires.0 in c.loop-out.invariant.0 p.0 p.1 p.2 p.3 in
    let n : let image = c.args.image.now in
    LiteralNext image c.loop-out.c (length c.loop-out.out) = let i = c.loop-out.invariant in literal_next_lem c.args.image.now c.loop-out.c (length c.loop-out.out) i.1 i.2 (sym c.at_literal.ensures ∙ c.loop-out-test.true) in
    omega (arith, c.write_literal-c.ensures.moves.0, (inside w (at_some w n.some)).0)

pub loop-out-preserved : goal.loop-out-preserved
loop-out-preserved c =
    let i = c.loop-out.invariant in
    let n : let image = c.args.image.now in
    LiteralNext image c.loop-out.c (length c.loop-out.out) = let i = c.loop-out.invariant in literal_next_lem c.args.image.now c.loop-out.c (length c.loop-out.out) i.1 i.2 (sym c.at_literal.ensures ∙ c.loop-out-test.true) in
    let m = c.write_literal-c.ensures in (
      λ target g stack w. m.goes target g stack (at_node (i.0 target g stack w) n.some (λ z. omega (arith, n.kind))),
      omega (arith, m.moves.2),
      m.moves.3,
      omega (arith, m.moves.0, i.3),
      m.moves.1 ∙ i.4,
      λ z. absurd (omega (arith, m.moves.0, i.3)),
    )

pub shape_of-out : goal.shape_of-out
shape_of-out c = (let p = c.requires.0 in c.loop-out.invariant.0 p.0 p.1 p.2 p.3).long ∙ sym c.requires.0.3.long

pub returns : goal.returns
returns c = let i = c.loop-out.invariant in record { goes = i.0; moves = (i.3, i.4, λ e. further _ _ _ _ i.3 i.5 (sym c.at_literal.ensures ∙ c.loop-out-test.false) e) }
