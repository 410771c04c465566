use native.Mathlib.Omega.{arith}
use Rattle.read_records.specs.Loops.{put_room, put_up, put_skip, put_end}
use Rattle.read_records.proofs.put_pages.Goals as goal
use Rattle.read_records.proofs.put_pages.Goals.{else-image-p-eq1, then-image-p-eq1}

pub put16-requires : goal.put16-requires
put16-requires c =
    (put_room _ _ _ _ _ _ c.loop-p.invariant c.loop-p-test.true c.if-image-p-eq1.true, omega arith)

pub loop-p-preserved : goal.loop-p-preserved
loop-p-preserved c =
    let l = c.loop-p in
    let h = c.loop-p-test.true in
    elim c.if-image-p-eq1.branch [
      | then-image-p-eq1 w ↦ rw (w.buffer-is, w.at-is) (put_up _ _ _ _ _ _ l.invariant h w.if-image-p-eq1.true _ w.put16.ensures)
      | else-image-p-eq1 w ↦ rw (w.buffer-is, w.at-is) (put_skip _ _ _ _ _ _ l.invariant h w.if-image-p-eq1.false)
    ]

pub returns : goal.returns
returns c = put_end _ _ _ _ _ _ c.loop-p.invariant c.loop-p-test.false
