-- `grow_splice::splice`: the front with its nodes' new sizes, the new bytes, and what stood past those that go.
use mathlib.Core.Path.{refl, sym, ap, ◌∙◌}
use native.Mathlib.Omega.{arith}
use lib.ListN.{length, length-take, length-drop}
use lib.Seq.{length-take-le, length_front}
use Rattle.grow_splice.specs.Splice.{within, spliced_size, cut, steps, copied_front, part_end}
use Rattle.grow_splice.proofs.splice.Goals as goal

pub slice_bounds-copy_in-end : goal.slice_bounds-copy_in-end
slice_bounds-copy_in-end c = sym (length-take-le _ _ ((omega (arith, (within _ _ _ _ _ c.requires.0)))))

pub copy_in-requires : goal.copy_in-requires
copy_in-requires c =
    simp length-take (omega (arith, (within _ _ _ _ _ c.requires.0), c.requires.1.0))

pub slice_bounds-resize-end : goal.slice_bounds-resize-end
slice_bounds-resize-end c =
    omega (arith, (within _ _ _ _ _ c.requires.0), c.requires.1.0, c.copy_in.auto.dst)

pub slice_bounds-resize-end-2 : goal.slice_bounds-resize-end-2
slice_bounds-resize-end-2 c = sym (length-take-le _ _ (omega (arith, (within _ _ _ _ _ c.requires.0), c.requires.1.0, c.copy_in.auto.dst)))

pub resize-requires : goal.resize-requires
resize-requires c =
    cut _ _ _ _ _ c.requires.0 _ _ (copied_front _ _ _ _ ((omega (arith, (within _ _ _ _ _ c.requires.0)))) c.copy_in.ensures) c.requires.1.1

pub copy_in-requires-2 : goal.copy_in-requires-2
copy_in-requires-2 c =
    omega (arith, (length_front c.copy_in.new.dst c.resize.new.s c.args.at c.resize.auto.s ∙ c.copy_in.auto.dst), (within _ _ _ _ _ c.requires.0), c.requires.1.0)

pub overflow_add-rest : goal.overflow_add-rest
overflow_add-rest c =
    omega (arith, (within _ _ _ _ _ c.requires.0))

pub slice_bounds-copy_in-count : goal.slice_bounds-copy_in-count
slice_bounds-copy_in-count c =
    omega (arith, (within _ _ _ _ _ c.requires.0))

pub slice_bounds-copy_in-start : goal.slice_bounds-copy_in-start
slice_bounds-copy_in-start c =
    omega (arith, (within _ _ _ _ _ c.requires.0))

pub overflow_add-at : goal.overflow_add-at
overflow_add-at c =
    omega (arith, (within _ _ _ _ _ c.requires.0), c.requires.1.1)

pub copy_in-requires-3 : goal.copy_in-requires-3
copy_in-requires-3 c =
    simp (length-take, length-drop) (omega (
      arith,
      (length_front c.copy_in.new.dst c.resize.new.s c.args.at c.resize.auto.s ∙ c.copy_in.auto.dst),
      c.copy_in-2.auto.dst,
      (within _ _ _ _ _ c.requires.0),
      c.requires.1.0,
    ))

pub overflow_sub-result : goal.overflow_sub-result
overflow_sub-result c =
    omega (
      arith,
      (within _ _ _ _ _ c.requires.0),
    )

pub returns : goal.returns
returns c =
    let f = copied_front _ _ _ _ ((omega (arith, (within _ _ _ _ _ c.requires.0)))) c.copy_in.ensures in
    λ w. (
      sym (spliced_size _ _ _ _ _ w),
      steps _ _ _ _ _ w _ _ _ _ _ _ f c.requires.1.1 refl c.requires.1.0 c.copy_in.ensures
          (c.resize.ensures (cut _ _ _ _ _ w _ _ f c.requires.1.1))
          (c.resize.auto.s ∙ ap length f ∙ length-take-le _ _ ((omega (arith, (within _ _ _ _ _ c.requires.0))))) c.copy_in-2.ensures (rw part_end at c.copy_in-3.ensures),
    )
