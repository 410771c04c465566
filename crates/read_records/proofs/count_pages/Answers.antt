use Rattle.read_records.specs.Loops.{count_up, count_skip, count_end}
use Rattle.read_records.proofs.count_pages.Goals as goal
use Rattle.read_records.proofs.count_pages.Goals.{else-image-p-eq1, then-image-p-eq1}

pub loop-p-preserved : goal.loop-p-preserved
loop-p-preserved c =
    let l = c.loop-p in
    let k = count_up _ _ _ _ l.invariant c.loop-p-test.true in
    let s = count_skip _ _ _ _ l.invariant c.loop-p-test.true in
    elim c.if-image-p-eq1.branch [
      | then-image-p-eq1 w ↦ rw w.n-is (k w.if-image-p-eq1.true)
      | else-image-p-eq1 w ↦ rw w.n-is (s w.if-image-p-eq1.false)
    ]

pub returns : goal.returns
returns c = count_end _ _ _ _ c.loop-p.invariant c.loop-p-test.false
