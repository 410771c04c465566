use Rattle.std.proofs.Common.{refl, ap, ◌∙◌, arith, length, length-set}
use Rattle.read_cursor.specs.declared.Cursor.{Cursor}
use Rattle.read_cursor.specs.Going.{going_as}
use Rattle.read_nest.specs.declared.Nest.{Nest}
use Rattle.read_entries.specs.Nested.{within, at_some, at_inner, at_node, inside, entered, named_inside, named_few, named_level, proxy_stopped}
use Rattle.read_entries.specs.Records.{fresh, closed_less, walking_start, walking_as, walking_on, walking_end, walking_in, walking_out}
use Rattle.read_entries.specs.Records.{entered_less, entered_deep}
use Rattle.read_entries.proofs.walk_records.Goals as goal

pub first-c-requires : goal.first-c-requires
first-c-requires c = c.requires.0.recorded.on

pub loop-stack-init : goal.loop-stack-init
loop-stack-init c =
    (refl, λ r. walking_as refl refl refl c.first-c.ensures (walking_start r _ _ _ c.requires.2 c.requires.3))

pub run-d-requires : goal.run-d-requires
run-d-requires c =
    let x = c.loop-stack.invariant.1 c.requires.0 in
    (_, _, x.going, x.base_is)

pub close-c-requires : goal.close-c-requires
close-c-requires c =
    let x = walking_on (c.loop-stack.invariant.1 c.requires.0) (c.run-d.ensures.goes _ _ (c.loop-stack.invariant.1 c.requires.0).going (c.loop-stack.invariant.1 c.requires.0).base_is) in
    (_, _, _, at_inner x.going c.if-i-d.true (λ e. c.if-d-w.true (e ∙ x.base_is)))

pub loop-stack-smaller-then-d-w : goal.loop-stack-smaller-then-d-w
loop-stack-smaller-then-d-w c =
    let x = walking_on (c.loop-stack.invariant.1 c.requires.0) (c.run-d.ensures.goes _ _ (c.loop-stack.invariant.1 c.requires.0).going (c.loop-stack.invariant.1 c.requires.0).base_is) in
    let a = at_inner x.going c.if-i-d.true (λ e. c.if-d-w.true (e ∙ x.base_is)) in
    let m = c.close-c.ensures.moves in
    let on = c.run-d.ensures.moves in
    let low = within x.going in
    closed_less _ _ _ _ _ _ _ _ _ _ _ (c.loop-stack.invariant.1 c.requires.0).base_is x.base_is on.0 on.1 (within (c.loop-stack.invariant.1 c.requires.0).going).2 low.0 low.1 m.0 m.1 a.inner

pub loop-stack-preserved-then-d-w : goal.loop-stack-preserved-then-d-w
loop-stack-preserved-then-d-w c = (
  c.loop-stack.invariant.0,
  λ r. let x = walking_on (c.loop-stack.invariant.1 r) (c.run-d.ensures.goes _ _ (c.loop-stack.invariant.1 r).going (c.loop-stack.invariant.1 r).base_is) in
      walking_on x (c.close-c.ensures.goes _ _ _ (at_inner x.going c.if-i-d.true (λ e. c.if-d-w.true (e ∙ x.base_is)))),
)

pub shape_of-back-then-w-eq0 : goal.shape_of-back-then-w-eq0
shape_of-back-then-w-eq0 c = c.loop-stack.invariant.0

pub shape_of-out-then-w-eq0 : goal.shape_of-out-then-w-eq0
shape_of-out-then-w-eq0 c =
    let x = walking_on (c.loop-stack.invariant.1 c.requires.0) (c.run-d.ensures.goes _ _ (c.loop-stack.invariant.1 c.requires.0).going (c.loop-stack.invariant.1 c.requires.0).base_is) in
    (walking_end x c.if-i-d.true c.if-d-w.false c.if-w-eq0.true).1

pub returns-then-w-eq0 : goal.returns-then-w-eq0
returns-then-w-eq0 c =
    λ r. let x = walking_on (c.loop-stack.invariant.1 r) (c.run-d.ensures.goes _ _ (c.loop-stack.invariant.1 r).going (c.loop-stack.invariant.1 r).base_is) in
    (walking_end x c.if-i-d.true c.if-d-w.false c.if-w-eq0.true).0

pub behind_record-c-requires : goal.behind_record-c-requires
behind_record-c-requires c =
    let x = walking_on (c.loop-stack.invariant.1 c.requires.0) (c.run-d.ensures.goes _ _ (c.loop-stack.invariant.1 c.requires.0).going (c.loop-stack.invariant.1 c.requires.0).base_is) in
    (walking_out x c.if-i-d.true c.if-d-w.false c.if-w-eq0.false).0

pub around-w-requires : goal.around-w-requires
around-w-requires c =
    let x = walking_on (c.loop-stack.invariant.1 c.requires.0) (c.run-d.ensures.goes _ _ (c.loop-stack.invariant.1 c.requires.0).going (c.loop-stack.invariant.1 c.requires.0).base_is) in
    ((walking_out x c.if-i-d.true c.if-d-w.false c.if-w-eq0.false).0.level, omega (arith, c.if-w-eq0.false))

pub loop-stack-smaller-else-d-w : goal.loop-stack-smaller-else-d-w
loop-stack-smaller-else-d-w c =
    let x = walking_on (c.loop-stack.invariant.1 c.requires.0) (c.run-d.ensures.goes _ _ (c.loop-stack.invariant.1 c.requires.0).going (c.loop-stack.invariant.1 c.requires.0).base_is) in
    omega (arith, c.if-w-eq0.false, ap (λ (v : Nest). v.depth) c.around-w.ensures, ap (λ (v : Cursor). v.level) c.behind_record-c.ensures, (walking_out x c.if-i-d.true c.if-d-w.false c.if-w-eq0.false).0.level)

pub loop-stack-preserved-else-d-w : goal.loop-stack-preserved-else-d-w
loop-stack-preserved-else-d-w c = (
  c.loop-stack.invariant.0,
  λ r. let x = walking_on (c.loop-stack.invariant.1 r) (c.run-d.ensures.goes _ _ (c.loop-stack.invariant.1 r).going (c.loop-stack.invariant.1 r).base_is) in
      walking_as refl refl c.around-w.ensures c.behind_record-c.ensures (walking_out x c.if-i-d.true c.if-d-w.false c.if-w-eq0.false).1,
)

pub bounds-image-i : goal.bounds-image-i
bounds-image-i c =
    let x = walking_on (c.loop-stack.invariant.1 c.requires.0) (c.run-d.ensures.goes _ _ (c.loop-stack.invariant.1 c.requires.0).going (c.loop-stack.invariant.1 c.requires.0).base_is) in
    let some = at_some x.going c.if-i-d.false in
    (inside x.going some).0

pub node-c-requires : goal.node-c-requires
node-c-requires c =
    let x = walking_on (c.loop-stack.invariant.1 c.requires.0) (c.run-d.ensures.goes _ _ (c.loop-stack.invariant.1 c.requires.0).going (c.loop-stack.invariant.1 c.requires.0).base_is) in
    (_, at_node x.going c.if-i-d.false c.if-image-i-ne3.true)

pub loop-stack-smaller-then-image-i-ne3 : goal.loop-stack-smaller-then-image-i-ne3
loop-stack-smaller-then-image-i-ne3 c =
    let x = walking_on (c.loop-stack.invariant.1 c.requires.0) (c.run-d.ensures.goes _ _ (c.loop-stack.invariant.1 c.requires.0).going (c.loop-stack.invariant.1 c.requires.0).base_is) in
    let some = at_some x.going c.if-i-d.false in
    let m = c.node-c.ensures.moves in
    omega (arith, c.run-d.ensures.moves.0, c.run-d.ensures.moves.1, (within (c.loop-stack.invariant.1 c.requires.0).going).2, (c.loop-stack.invariant.1 c.requires.0).base_is, (within x.going).0, (within x.going).1, m.0, m.1, some)

pub loop-stack-preserved-then-image-i-ne3 : goal.loop-stack-preserved-then-image-i-ne3
loop-stack-preserved-then-image-i-ne3 c = (
  c.loop-stack.invariant.0,
  λ r. let x = walking_on (c.loop-stack.invariant.1 r) (c.run-d.ensures.goes _ _ (c.loop-stack.invariant.1 r).going (c.loop-stack.invariant.1 r).base_is) in
      walking_on x (c.node-c.ensures.goes _ (at_node x.going c.if-i-d.false c.if-image-i-ne3.true)),
)

pub name_at-p-requires : goal.name_at-p-requires
name_at-p-requires c =
    let x = walking_on (c.loop-stack.invariant.1 c.requires.0) (c.run-d.ensures.goes _ _ (c.loop-stack.invariant.1 c.requires.0).going (c.loop-stack.invariant.1 c.requires.0).base_is) in
    let some = at_some x.going c.if-i-d.false in
    (named_inside x.going some c.if-image-i-ne3.false _ refl).0

pub bounds-widths-p : goal.bounds-widths-p
bounds-widths-p c =
    let x = walking_on (c.loop-stack.invariant.1 c.requires.0) (c.run-d.ensures.goes _ _ (c.loop-stack.invariant.1 c.requires.0).going (c.loop-stack.invariant.1 c.requires.0).base_is) in
    let some = at_some x.going c.if-i-d.false in
    let kind = c.if-image-i-ne3.false in
    let name = c.name_at-p.ensures.0 in
    omega (arith, (named_inside x.going some kind _ name).1, c.requires.1.long)

pub overflow_cast-widths : goal.overflow_cast-widths
overflow_cast-widths c =
    let x = walking_on (c.loop-stack.invariant.1 c.requires.0) (c.run-d.ensures.goes _ _ (c.loop-stack.invariant.1 c.requires.0).going (c.loop-stack.invariant.1 c.requires.0).base_is) in
    let some = at_some x.going c.if-i-d.false in
    let kind = c.if-image-i-ne3.false in
    let name = c.name_at-p.ensures.0 in
    omega (arith, named_few x.going some kind _ name, (entered x.going some kind _ name).told _ c.requires.1)

pub behind-c-requires : goal.behind-c-requires
behind-c-requires c =
    let x = walking_on (c.loop-stack.invariant.1 c.requires.0) (c.run-d.ensures.goes _ _ (c.loop-stack.invariant.1 c.requires.0).going (c.loop-stack.invariant.1 c.requires.0).base_is) in
    let some = at_some x.going c.if-i-d.false in
    let kind = c.if-image-i-ne3.false in
    let name = c.name_at-p.ensures.0 in
    ((inside x.going some).1, omega (arith, named_few x.going some kind _ name, (entered x.going some kind _ name).told _ c.requires.1))

pub loop-stack-smaller-then-d-ne0 : goal.loop-stack-smaller-then-d-ne0
loop-stack-smaller-then-d-ne0 c =
    let x = walking_on (c.loop-stack.invariant.1 c.requires.0) (c.run-d.ensures.goes _ _ (c.loop-stack.invariant.1 c.requires.0).going (c.loop-stack.invariant.1 c.requires.0).base_is) in
    let some = at_some x.going c.if-i-d.false in
    let r = c.behind-c.ensures in
    omega (arith, c.run-d.ensures.moves.0, c.run-d.ensures.moves.1, (within (c.loop-stack.invariant.1 c.requires.0).going).2, (c.loop-stack.invariant.1 c.requires.0).base_is, (within x.going).0, (within x.going).1, some, ap (λ (v : Cursor). v.i) r, ap (λ (v : Cursor). v.level) r)

pub loop-stack-preserved-then-d-ne0 : goal.loop-stack-preserved-then-d-ne0
loop-stack-preserved-then-d-ne0 c = (
  c.loop-stack.invariant.0,
  λ r. let x = walking_on (c.loop-stack.invariant.1 r) (c.run-d.ensures.goes _ _ (c.loop-stack.invariant.1 r).going (c.loop-stack.invariant.1 r).base_is) in
      let some = at_some x.going c.if-i-d.false in
      let kind = c.if-image-i-ne3.false in
      let name = c.name_at-p.ensures.0 in
      walking_on x (going_as c.behind-c.ensures refl (proxy_stopped x.going some kind _ name _ c.requires.1 c.if-d-ne0.true)),
)

pub into_record-w-requires : goal.into_record-w-requires
into_record-w-requires c =
    let x = walking_on (c.loop-stack.invariant.1 c.requires.0) (c.run-d.ensures.goes _ _ (c.loop-stack.invariant.1 c.requires.0).going (c.loop-stack.invariant.1 c.requires.0).base_is) in
    let some = at_some x.going c.if-i-d.false in
    let kind = c.if-image-i-ne3.false in
    let name = c.name_at-p.ensures.0 in
    ((inside x.going some).1, omega (arith, (named_inside x.going some kind _ name).1, x.back_long), named_level x.going some kind _ name, entered_deep x some kind _ name)

pub first-c-requires-else-d-ne0 : goal.first-c-requires-else-d-ne0
first-c-requires-else-d-ne0 c =
    let x = walking_on (c.loop-stack.invariant.1 c.requires.0) (c.run-d.ensures.goes _ _ (c.loop-stack.invariant.1 c.requires.0).going (c.loop-stack.invariant.1 c.requires.0).base_is) in
    let some = at_some x.going c.if-i-d.false in
    let kind = c.if-image-i-ne3.false in
    let name = c.name_at-p.ensures.0 in
    (entered x.going some kind _ name).on

pub loop-stack-smaller : goal.loop-stack-smaller
loop-stack-smaller c =
    let x = walking_on (c.loop-stack.invariant.1 c.requires.0) (c.run-d.ensures.goes _ _ (c.loop-stack.invariant.1 c.requires.0).going (c.loop-stack.invariant.1 c.requires.0).base_is) in
    let some = at_some x.going c.if-i-d.false in
    let kind = c.if-image-i-ne3.false in
    let name = c.name_at-p.ensures.0 in
    let e = c.into_record-w.ensures in
    let r = c.first-c-else-d-ne0.ensures in
    omega (arith, ap (λ (v : Nest). v.depth) e.nest, ap (λ (v : Nest). v.base) e.nest, ap fresh e.back, entered_less x some kind _ name, ap (λ (v : Cursor). v.level) r)

pub loop-stack-preserved : goal.loop-stack-preserved
loop-stack-preserved c = (
  simp length-set at (ap length c.into_record-w.ensures.back) ∙ c.loop-stack.invariant.0,
  λ r. let x = walking_on (c.loop-stack.invariant.1 r) (c.run-d.ensures.goes _ _ (c.loop-stack.invariant.1 r).going (c.loop-stack.invariant.1 r).base_is) in
      let some = at_some x.going c.if-i-d.false in
      let kind = c.if-image-i-ne3.false in
      let name = c.name_at-p.ensures.0 in
      let e = c.into_record-w.ensures in
      walking_as e.back e.held e.nest c.first-c-else-d-ne0.ensures (walking_in x some kind _ name),
)
