use Rattle.std.proofs.Common.{refl, sym, ◌∙◌, arith, length}
use Rattle.read_cursor.specs.Going.{Going, Roomy, writes_roomy, node_here}
use Rattle.read_entries.specs.Literals.{next_literal, aggregate}
use Rattle.read_entries.specs.Nested.{at_some, at_inner, at_node, inside}
use Rattle.read_entries.proofs.run.Goals as goal

pub loop-i-init : goal.loop-i-init
loop-i-init c = (λ target g w e. w, omega arith, omega arith)

pub writes-requires : goal.writes-requires
writes-requires c = (c.loop-i.invariant.0 c.requires.0 c.requires.1 c.requires.2 c.requires.3).fair.low

pub shape_of-out-then-c-level : goal.shape_of-out-then-c-level
shape_of-out-then-c-level c = (c.loop-i.invariant.0 c.requires.0 c.requires.1 c.requires.2 c.requires.3).long ∙ sym c.requires.2.long

pub returns-then-c-level : goal.returns-then-c-level
returns-then-c-level c = let i = c.loop-i.invariant in record { goes = i.0; moves = (i.1, i.2) }

pub close-c-requires : goal.close-c-requires
close-c-requires c = (_, _, _, at_inner (c.loop-i.invariant.0 c.requires.0 c.requires.1 c.requires.2 c.requires.3) c.if-i-c.true (λ e. c.if-c-level.false (e ∙ c.requires.3)))

pub loop-i-smaller-then-i-c : goal.loop-i-smaller-then-i-c
loop-i-smaller-then-i-c c =
    let a = at_inner (c.loop-i.invariant.0 c.requires.0 c.requires.1 c.requires.2 c.requires.3) c.if-i-c.true (λ e. c.if-c-level.false (e ∙ c.requires.3)) in
    let m = c.close-c.ensures.moves in
    omega (arith, m.0, m.1, a.inner)

pub loop-i-preserved-then-i-c : goal.loop-i-preserved-then-i-c
loop-i-preserved-then-i-c c =
    let i = c.loop-i.invariant in
    let m = c.close-c.ensures in (
      λ target g w e. m.goes _ _ _ (at_inner (i.0 target g w e) c.if-i-c.true (λ q. c.if-c-level.false (q ∙ e))),
      omega (arith, m.moves.0, i.1),
      omega (arith, m.moves.0, m.moves.1, i.2),
    )

pub bounds-image-i : goal.bounds-image-i
bounds-image-i c = let w : Going c.args.image.now c.requires.0 c.requires.1 c.loop-i.c c.loop-i.stack c.loop-i.out = c.loop-i.invariant.0 c.requires.0 c.requires.1 c.requires.2 c.requires.3 in (inside w (at_some w c.if-i-c.false)).0

pub shape_of-out-then-kind-eq3 : goal.shape_of-out-then-kind-eq3
shape_of-out-then-kind-eq3 c = (c.loop-i.invariant.0 c.requires.0 c.requires.1 c.requires.2 c.requires.3).long ∙ sym c.requires.2.long

pub returns-then-kind-eq3 : goal.returns-then-kind-eq3
returns-then-kind-eq3 c = let i = c.loop-i.invariant in record { goes = i.0; moves = (i.1, i.2) }

pub literals-c-requires : goal.literals-c-requires
literals-c-requires c =
    let w : Going c.args.image.now c.requires.0 c.requires.1 c.loop-i.c c.loop-i.stack c.loop-i.out = c.loop-i.invariant.0 c.requires.0 c.requires.1 c.requires.2 c.requires.3 in
    let r : Roomy c.loop-i.c (length c.loop-i.out) = writes_roomy c.loop-i.c (length c.loop-i.out) (c.loop-i.invariant.0 c.requires.0 c.requires.1 c.requires.2 c.requires.3).fair.low (sym c.writes.ensures ∙ c.loop-i-test.true) in
    ((_, _, _, w), r.begun, r.calm)

pub loop-i-smaller-then-kind-eq2 : goal.loop-i-smaller-then-kind-eq2
loop-i-smaller-then-kind-eq2 c =
    let w : Going c.args.image.now c.requires.0 c.requires.1 c.loop-i.c c.loop-i.stack c.loop-i.out = c.loop-i.invariant.0 c.requires.0 c.requires.1 c.requires.2 c.requires.3 in
    let r : Roomy c.loop-i.c (length c.loop-i.out) = writes_roomy c.loop-i.c (length c.loop-i.out) (c.loop-i.invariant.0 c.requires.0 c.requires.1 c.requires.2 c.requires.3).fair.low (sym c.writes.ensures ∙ c.loop-i-test.true) in
    let m = c.literals-c.ensures.moves in
    omega (arith, m.1, m.2 (next_literal c.args.image.now c.loop-i.c (length c.loop-i.out) (record { some = c.if-i-c.false; kind = c.if-kind-eq2.true; roomy = r })), (inside w (at_some w c.if-i-c.false)).0)

pub loop-i-preserved-then-kind-eq2 : goal.loop-i-preserved-then-kind-eq2
loop-i-preserved-then-kind-eq2 c =
    let i = c.loop-i.invariant in
    let m = c.literals-c.ensures in
    (λ target g w e. m.goes _ _ _ (i.0 target g w e), omega (arith, m.moves.0, i.1), omega (arith, m.moves.0, m.moves.1, i.2))

pub write_aggregate-c-requires : goal.write_aggregate-c-requires
write_aggregate-c-requires c =
    let w : Going c.args.image.now c.requires.0 c.requires.1 c.loop-i.c c.loop-i.stack c.loop-i.out = c.loop-i.invariant.0 c.requires.0 c.requires.1 c.requires.2 c.requires.3 in
    let a = at_node w c.if-i-c.false c.if-kind-eq3.false in
    let r : Roomy c.loop-i.c (length c.loop-i.out) = writes_roomy c.loop-i.c (length c.loop-i.out) (c.loop-i.invariant.0 c.requires.0 c.requires.1 c.requires.2 c.requires.3).fair.low (sym c.writes.ensures ∙ c.loop-i-test.true) in
    ((_, _, a), r, aggregate _ (node_here a _ refl).kind c.if-kind-eq2.false)

pub loop-i-smaller : goal.loop-i-smaller
loop-i-smaller c =
    let w : Going c.args.image.now c.requires.0 c.requires.1 c.loop-i.c c.loop-i.stack c.loop-i.out = c.loop-i.invariant.0 c.requires.0 c.requires.1 c.requires.2 c.requires.3 in
    let m = c.write_aggregate-c.ensures.moves in
    omega (arith, m.0, m.1, (inside w (at_some w c.if-i-c.false)).0)

pub loop-i-preserved : goal.loop-i-preserved
loop-i-preserved c =
    let i = c.loop-i.invariant in
    let m = c.write_aggregate-c.ensures in (
      λ target g w e. m.goes _ _ (at_node (i.0 target g w e) c.if-i-c.false c.if-kind-eq3.false),
      omega (arith, m.moves.0, i.1),
      omega (arith, m.moves.0, m.moves.1, i.2),
    )

pub shape_of-out : goal.shape_of-out
shape_of-out c = (c.loop-i.invariant.0 c.requires.0 c.requires.1 c.requires.2 c.requires.3).long ∙ sym c.requires.2.long

pub returns : goal.returns
returns c = let i = c.loop-i.invariant in record { goes = i.0; moves = (i.1, i.2) }
