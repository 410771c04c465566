use mathlib.Core.Path.{refl, ◌∙◌}
use native.Mathlib.Omega.{arith}
use Rattle.grow_splice.specs.Resize.{Look, look, mid_end, resized, cut_length, cut_least, cut_small, cut_start}
use Rattle.grow_splice.proofs.resize.Goals as goal

pub size_at-whole-requires : goal.size_at-whole-requires
size_at-whole-requires c = omega (arith, cut_length _ _ _ _ c.requires)

pub overflow_sub-whole : goal.overflow_sub-whole
overflow_sub-whole c = omega (arith, c.size_at-whole.ensures.0, cut_least _ _ _ _ c.requires)

pub overflow_add-whole : goal.overflow_add-whole
overflow_add-whole c = omega (arith, c.size_at-whole.ensures.0, cut_small _ _ _ _ c.requires)

pub put16-requires : goal.put16-requires
put16-requires c =
    (omega (arith, cut_length _ _ _ _ c.requires), omega (arith, c.size_at-whole.ensures.0, cut_small _ _ _ _ c.requires))

pub loop-pos-init : goal.loop-pos-init
loop-pos-init c = (λ g m. m, refl)

pub size_at-size-requires : goal.size_at-size-requires
size_at-size-requires c = let v : Look c.loop-pos.s (resized _ _ _ _ c.requires) c.loop-pos.pos c.args.par c.args.less c.args.more = look _ _ _ _ _ _ (c.loop-pos.invariant.0 _ ((rw (c.put16.ensures, c.size_at-whole.ensures.0) (cut_start _ _ _ _ c.requires))))
    (omega (arith, c.loop-pos-test.true)) in omega (arith, v.fits)

pub overflow_add-pos : goal.overflow_add-pos
overflow_add-pos c = let v : Look c.loop-pos.s (resized _ _ _ _ c.requires) c.loop-pos.pos c.args.par c.args.less c.args.more = look _ _ _ _ _ _ (c.loop-pos.invariant.0 _ ((rw (c.put16.ensures, c.size_at-whole.ensures.0) (cut_start _ _ _ _ c.requires))))
    (omega (arith, c.loop-pos-test.true)) in omega (arith, v.fits)

pub overflow_add-pos-then-par-pos : goal.overflow_add-pos-then-par-pos
overflow_add-pos-then-par-pos c = let v : Look c.loop-pos.s (resized _ _ _ _ c.requires) c.loop-pos.pos c.args.par c.args.less c.args.more = look _ _ _ _ _ _ (c.loop-pos.invariant.0 _ ((rw (c.put16.ensures, c.size_at-whole.ensures.0) (cut_start _ _ _ _ c.requires))))
    (omega (arith, c.loop-pos-test.true)) in omega (arith, v.fits)

pub overflow_sub-size : goal.overflow_sub-size
overflow_sub-size c = let v : Look c.loop-pos.s (resized _ _ _ _ c.requires) c.loop-pos.pos c.args.par c.args.less c.args.more = look _ _ _ _ _ _ (c.loop-pos.invariant.0 _ ((rw (c.put16.ensures, c.size_at-whole.ensures.0) (cut_start _ _ _ _ c.requires))))
    (omega (arith, c.loop-pos-test.true)) in
    omega (arith, c.size_at-size.ensures.0, v.least (omega (arith, c.if-par-pos.true, c.size_at-size.ensures.0)))

pub overflow_add-size : goal.overflow_add-size
overflow_add-size c = let v : Look c.loop-pos.s (resized _ _ _ _ c.requires) c.loop-pos.pos c.args.par c.args.less c.args.more = look _ _ _ _ _ _ (c.loop-pos.invariant.0 _ ((rw (c.put16.ensures, c.size_at-whole.ensures.0) (cut_start _ _ _ _ c.requires))))
    (omega (arith, c.loop-pos-test.true)) in omega (arith, v.small, c.size_at-size.ensures.0)

pub put16-requires-then-par-pos : goal.put16-requires-then-par-pos
put16-requires-then-par-pos c =
    let v : Look c.loop-pos.s (resized _ _ _ _ c.requires) c.loop-pos.pos c.args.par c.args.less c.args.more = look _ _ _ _ _ _ (c.loop-pos.invariant.0 _ ((rw (c.put16.ensures, c.size_at-whole.ensures.0) (cut_start _ _ _ _ c.requires))))
    (omega (arith, c.loop-pos-test.true)) in
    (omega (arith, v.fits), omega (arith, v.small, c.size_at-size.ensures.0))

pub overflow_add-pos-then-par-pos-2 : goal.overflow_add-pos-then-par-pos-2
overflow_add-pos-then-par-pos-2 c = let v : Look c.loop-pos.s (resized _ _ _ _ c.requires) c.loop-pos.pos c.args.par c.args.less c.args.more = look _ _ _ _ _ _ (c.loop-pos.invariant.0 _ ((rw (c.put16.ensures, c.size_at-whole.ensures.0) (cut_start _ _ _ _ c.requires))))
    (omega (arith, c.loop-pos-test.true)) in omega (arith, v.fits)

pub loop-pos-smaller-then-par-pos : goal.loop-pos-smaller-then-par-pos
loop-pos-smaller-then-par-pos c = omega (arith, c.loop-pos-test.true)

pub loop-pos-preserved-then-par-pos : goal.loop-pos-preserved-then-par-pos
loop-pos-preserved-then-par-pos c = (
  λ g m. rw (c.put16-then-par-pos.ensures, c.size_at-size.ensures.0)
      ((look _ _ _ _ _ _ (c.loop-pos.invariant.0 g m) (omega (arith, c.loop-pos-test.true))).enter
      (omega (arith, c.if-par-pos.true, c.size_at-size.ensures.0))),
  c.put16-then-par-pos.auto.s ∙ c.loop-pos.invariant.1,
)

pub overflow_add-pos-else-par-pos : goal.overflow_add-pos-else-par-pos
overflow_add-pos-else-par-pos c = omega (arith, c.size_at-size.ensures.1, c.if-par-pos.false)

pub loop-pos-smaller : goal.loop-pos-smaller
loop-pos-smaller c =
    let v : Look c.loop-pos.s (resized _ _ _ _ c.requires) c.loop-pos.pos c.args.par c.args.less c.args.more = look _ _ _ _ _ _ (c.loop-pos.invariant.0 _ ((rw (c.put16.ensures, c.size_at-whole.ensures.0) (cut_start _ _ _ _ c.requires))))
    (omega (arith, c.loop-pos-test.true)) in omega (arith, v.long, c.size_at-size.ensures.0, c.loop-pos-test.true)

pub loop-pos-preserved : goal.loop-pos-preserved
loop-pos-preserved c = (
  λ g m. rw c.size_at-size.ensures.0
      ((look _ _ _ _ _ _ (c.loop-pos.invariant.0 g m) (omega (arith, c.loop-pos-test.true))).skip
      (omega (arith, c.if-par-pos.false, c.size_at-size.ensures.0))),
  c.loop-pos.invariant.1,
)

pub shape_of-s : goal.shape_of-s
shape_of-s c = c.loop-pos.invariant.1 ∙ c.put16.auto.s

pub returns : goal.returns
returns c = λ w. mid_end _ _ _ _ _ _ (c.loop-pos.invariant.0 _ ((rw (c.put16.ensures, c.size_at-whole.ensures.0) (cut_start _ _ _ _ w)))) (omega (arith, c.loop-pos-test.false))
