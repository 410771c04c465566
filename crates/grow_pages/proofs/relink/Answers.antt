use mathlib.Core.Path.{refl, ◌∙◌}
use native.Mathlib.Omega.{arith}
use Rattle.grow_pages.specs.Links.{link, links, WalkStep, walk_step, walk_end_lem, walk_start}
use Rattle.grow_pages.proofs.relink.Goals as goal

pub loop-pos-init : goal.loop-pos-init
loop-pos-init c = (λ g s. s, refl)

pub overflow_add-pos : goal.overflow_add-pos
overflow_add-pos c = let v : let goal = links c.args.q c.requires.1.1.1.row c.args.image.now in
    WalkStep c.args.row.now c.args.pages (link c.args.q) c.loop-pos.pos c.loop-pos.image goal = walk_step _ _ _ _ _ _ c.requires.0 (c.loop-pos.invariant.0 _ (walk_start _ _ _ _ c.requires.1.1.1)) c.loop-pos-test.true in omega (arith, v.more, v.within)

pub loop-pos-smaller-then-kind-eq1 : goal.loop-pos-smaller-then-kind-eq1
loop-pos-smaller-then-kind-eq1 c = let v : let goal = links c.args.q c.requires.1.1.1.row c.args.image.now in
    WalkStep c.args.row.now c.args.pages (link c.args.q) c.loop-pos.pos c.loop-pos.image goal = walk_step _ _ _ _ _ _ c.requires.0 (c.loop-pos.invariant.0 _ (walk_start _ _ _ _ c.requires.1.1.1)) c.loop-pos-test.true in omega (arith, v.more, v.within)

pub loop-pos-preserved-then-kind-eq1 : goal.loop-pos-preserved-then-kind-eq1
loop-pos-preserved-then-kind-eq1 c = (
  λ g s. (walk_step _ _ _ _ _ _ c.requires.0 (c.loop-pos.invariant.0 g s) c.loop-pos-test.true).into c.if-kind-eq1.true,
  c.loop-pos.invariant.1,
)

pub name_at-p-requires : goal.name_at-p-requires
name_at-p-requires c = let v : let goal = links c.args.q c.requires.1.1.1.row c.args.image.now in
    WalkStep c.args.row.now c.args.pages (link c.args.q) c.loop-pos.pos c.loop-pos.image goal = walk_step _ _ _ _ _ _ c.requires.0 (c.loop-pos.invariant.0 _ (walk_start _ _ _ _ c.requires.1.1.1)) c.loop-pos-test.true in omega (arith, v.more, v.within, (v.proxy c.if-kind-eq3.true).0)

pub overflow_mul-p : goal.overflow_mul-p
overflow_mul-p c = let v : let goal = links c.args.q c.requires.1.1.1.row c.args.image.now in
    WalkStep c.args.row.now c.args.pages (link c.args.q) c.loop-pos.pos c.loop-pos.image goal = walk_step _ _ _ _ _ _ c.requires.0 (c.loop-pos.invariant.0 _ (walk_start _ _ _ _ c.requires.1.1.1)) c.loop-pos-test.true in omega (arith, v.more, v.within, c.name_at-p.ensures.1)

pub overflow_add-p : goal.overflow_add-p
overflow_add-p c = let v : let goal = links c.args.q c.requires.1.1.1.row c.args.image.now in
    WalkStep c.args.row.now c.args.pages (link c.args.q) c.loop-pos.pos c.loop-pos.image goal = walk_step _ _ _ _ _ _ c.requires.0 (c.loop-pos.invariant.0 _ (walk_start _ _ _ _ c.requires.1.1.1)) c.loop-pos-test.true in omega (arith, v.more, v.within, c.name_at-p.ensures.1)

pub put16-requires : goal.put16-requires
put16-requires c =
    let p = (((walk_step _ _ _ _ _ _ c.requires.0 (c.loop-pos.invariant.0 _ (walk_start _ _ _ _ c.requires.1.1.1)) c.loop-pos-test.true)).proxy c.if-kind-eq3.true).1.0 in (
      omega (arith, p, c.name_at-p.ensures.0, c.loop-pos.invariant.1, c.requires.1.0),
      omega
          (arith, c.requires.0, c.requires.1.1.0),
    )

pub overflow_add-pos-then-kind-eq3 : goal.overflow_add-pos-then-kind-eq3
overflow_add-pos-then-kind-eq3 c = let v : let goal = links c.args.q c.requires.1.1.1.row c.args.image.now in
    WalkStep c.args.row.now c.args.pages (link c.args.q) c.loop-pos.pos c.loop-pos.image goal = walk_step _ _ _ _ _ _ c.requires.0 (c.loop-pos.invariant.0 _ (walk_start _ _ _ _ c.requires.1.1.1)) c.loop-pos-test.true in omega (arith, v.more, v.within)

pub loop-pos-smaller-then-kind-eq3 : goal.loop-pos-smaller-then-kind-eq3
loop-pos-smaller-then-kind-eq3 c = let v : let goal = links c.args.q c.requires.1.1.1.row c.args.image.now in
    WalkStep c.args.row.now c.args.pages (link c.args.q) c.loop-pos.pos c.loop-pos.image goal = walk_step _ _ _ _ _ _ c.requires.0 (c.loop-pos.invariant.0 _ (walk_start _ _ _ _ c.requires.1.1.1)) c.loop-pos-test.true in omega (arith, v.more, v.within)

pub loop-pos-preserved-then-kind-eq3 : goal.loop-pos-preserved-then-kind-eq3
loop-pos-preserved-then-kind-eq3 c = (
  λ y s. rw (c.put16.ensures, c.name_at-p.ensures.0)
      ((walk_step _ _ _ _ _ _ c.requires.0 (c.loop-pos.invariant.0 y s) c.loop-pos-test.true).proxy
      c.if-kind-eq3.true).1.1,
  c.put16.auto.s ∙ c.loop-pos.invariant.1,
)

pub size_at-pos-requires : goal.size_at-pos-requires
size_at-pos-requires c = let v : let goal = links c.args.q c.requires.1.1.1.row c.args.image.now in
    WalkStep c.args.row.now c.args.pages (link c.args.q) c.loop-pos.pos c.loop-pos.image goal = walk_step _ _ _ _ _ _ c.requires.0 (c.loop-pos.invariant.0 _ (walk_start _ _ _ _ c.requires.1.1.1)) c.loop-pos-test.true in omega (arith, v.more, v.within)

pub overflow_add-pos-else-kind-eq3 : goal.overflow_add-pos-else-kind-eq3
overflow_add-pos-else-kind-eq3 c = let v : let goal = links c.args.q c.requires.1.1.1.row c.args.image.now in
    WalkStep c.args.row.now c.args.pages (link c.args.q) c.loop-pos.pos c.loop-pos.image goal = walk_step _ _ _ _ _ _ c.requires.0 (c.loop-pos.invariant.0 _ (walk_start _ _ _ _ c.requires.1.1.1)) c.loop-pos-test.true in omega (arith, v.more, v.within, c.size_at-pos.ensures.0)

pub loop-pos-smaller : goal.loop-pos-smaller
loop-pos-smaller c = let v : let goal = links c.args.q c.requires.1.1.1.row c.args.image.now in
    WalkStep c.args.row.now c.args.pages (link c.args.q) c.loop-pos.pos c.loop-pos.image goal = walk_step _ _ _ _ _ _ c.requires.0 (c.loop-pos.invariant.0 _ (walk_start _ _ _ _ c.requires.1.1.1)) c.loop-pos-test.true in omega (arith, v.more, v.within, c.size_at-pos.ensures.0)

pub loop-pos-preserved : goal.loop-pos-preserved
loop-pos-preserved c = (
  λ g s. let v = walk_step _ _ _ _ _ _ c.requires.0 (c.loop-pos.invariant.0 g s) c.loop-pos-test.true in rw
      c.size_at-pos.ensures.0 (v.past c.if-kind-eq1.false c.if-kind-eq3.false),
  c.loop-pos.invariant.1,
)

pub shape_of-image : goal.shape_of-image
shape_of-image c = c.loop-pos.invariant.1

pub returns : goal.returns
returns c = λ w. walk_end_lem _ _ _ _ _ _ c.requires.0 (c.loop-pos.invariant.0 _ (walk_start _ _ _ _ w)) c.loop-pos-test.false
