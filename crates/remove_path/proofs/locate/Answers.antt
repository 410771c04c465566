-- `remove_path::locate`: whole entries, the parent, and the child among its children.
use Rattle.std.proofs.Common.{◌<◌, ◌≤◌, refl, sym, ◌+◌, ◌*◌, length, arith, length-take-le}
use Rattle.model.specs.Limits.{page_size, most_bytes}
use Rattle.theory_calls.specs.Open.{passing}
use Rattle.theory_calls.specs.Refusals.{some_number}
use Rattle.grow_refusals.specs.Admit.{read_room}
use Rattle.remove_path.specs.Locate.{broken_located, no_parent, node_read, literal_located, kids, child_located}
use Rattle.remove_path.proofs.locate.Goals as goal
use Rattle.remove_path.proofs.locate.Goals.{In-Ok}

-- There is room where the parent stands.
room : (c : In-Ok) → let pos = page_size * c.in-Ok.place.page + c.in-Ok.place.offset in (pos + 16 ≤ length c.args.image.now) × (pos < most_bytes)
room c =
    let (t, r) = passing c.args.image.now c.requires.0 in
    read_room (node_read _ t.0 t.1 r c.args.path.now c.if-n-ne0.false c.requires.1.1.0 c.requires.1.1.1 _ c.in-Ok.ensures refl _ refl).1

pub returns-then-n-ne0 : goal.returns-then-n-ne0
returns-then-n-ne0 c = λ st root r. broken_located root _ c.if-n-ne0.true

pub slice_bounds-find_in-end : goal.slice_bounds-find_in-end
slice_bounds-find_in-end c = sym (length-take-le _ _ (omega arith))

pub returns-in_default : goal.returns-in_default
returns-in_default c =
    λ st root r. no_parent _ st root r c.args.path.now c.if-n-ne0.false c.requires.1.1.0 c.requires.1.1.1 _ c.in_default.ensures
    (some_number c.in_default.field-0)

pub overflow_mul-parent : goal.overflow_mul-parent
overflow_mul-parent c = omega (arith, room (goal.at.overflow_mul-parent c).In-Ok)

pub overflow_add-parent : goal.overflow_add-parent
overflow_add-parent c = omega (arith, room (goal.at.overflow_add-parent c).In-Ok)

pub bounds-image-parent : goal.bounds-image-parent
bounds-image-parent c = omega (arith, room (goal.at.bounds-image-parent c).In-Ok)

pub returns-then-image-parent-eq2 : goal.returns-then-image-parent-eq2
returns-then-image-parent-eq2 c =
    λ st root r. literal_located _ st root r c.args.path.now c.if-n-ne0.false c.requires.1.1.0 c.requires.1.1.1 _ c.in-Ok.ensures refl _ refl
    c.if-image-parent-eq2.true

pub stand_of-requires : goal.stand_of-requires
stand_of-requires c =
    let (t, r) = passing c.args.image.now c.requires.0 in (
      kids _ t.0 t.1 r c.args.path.now c.if-n-ne0.false c.requires.1.1.0 c.requires.1.1.1 _ c.in-Ok.ensures refl _ refl c.if-image-parent-eq2.false,
      c.requires.1.0,
    )

pub returns : goal.returns
returns c =
    λ st root r. child_located _ st root r c.args.path.now c.if-n-ne0.false c.requires.1.1.0 c.requires.1.1.1 _ c.in-Ok.ensures refl _ refl _ _
    c.four.ensures c.if-image-parent-eq2.false c.stand_of.ensures
