use Rattle.std.proofs.Common.{arith, sym, ◌∙◌}
use Rattle.read_faults.specs.Pages.{reached_end, reached_free, reached_past, reached_here}
use Rattle.read_faults.proofs.unreached.Goals as goal
use Rattle.read_faults.proofs.unreached.Goals.{else-image-p-ne0-via-then-image-p-ne0+else-not-is_marked, else-image-p-ne0-via-else-image-p-ne0}

pub returns-then-not-is_marked : goal.returns-then-not-is_marked
returns-then-not-is_marked c =
    let a = c.args in
    λ ps k.
    let marked = sym (k.same _ (omega arith)) ∙ sym c.is_marked.ensures ∙ c.if-not-is_marked.true in
    sym (c.loop-p.invariant ps k ∙ reached_here a.image.now a.pages c.loop-p.p c.loop-p-test.true ps c.if-image-p-ne0.true marked)

pub loop-p-preserved : goal.loop-p-preserved
loop-p-preserved c =
    let a = c.args in
    let h = c.loop-p-test.true in
    elim c.else-image-p-ne0.branch [
      | else-image-p-ne0-via-then-image-p-ne0+else-not-is_marked w ↦ λ ps k.
          let marked = sym (k.same _ (omega arith)) ∙ sym w.is_marked.ensures ∙ w.if-not-is_marked.false in
          c.loop-p.invariant ps k ∙ reached_past a.image.now a.pages c.loop-p.p h ps w.if-image-p-ne0.true marked
      | else-image-p-ne0-via-else-image-p-ne0 w ↦ λ ps k. c.loop-p.invariant ps k ∙ reached_free a.image.now a.pages c.loop-p.p h ps w.if-image-p-ne0.false
    ]

pub returns : goal.returns
returns c =
    let a = c.args in
    λ ps k. sym (c.loop-p.invariant ps k ∙ reached_end a.image.now a.pages c.loop-p.p ps c.loop-p-test.false)
