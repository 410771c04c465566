use Rattle.std.proofs.Common.{sym, ap₂, ◌∙◌, List, ℕ, arith}
use Rattle.read_cursor.specs.Way.{way, told_sought, told_stopped, told_written, told_full}
use Rattle.read_cursor.proofs.tell.Goals as goal

pub returns-then-here-eq0 : goal.returns-then-here-eq0
returns-then-here-eq0 c = sym (told_sought _ _ _ _ _ c.if-here-eq0.true)

pub returns-then-next-ne0 : goal.returns-then-next-ne0
returns-then-next-ne0 c = sym (told_stopped _ _ _ _ _ (omega (arith, c.if-here-eq0.false)) c.if-next-ne0.true)

pub returns-then-out-here-lt9 : goal.returns-then-out-here-lt9
returns-then-out-here-lt9 c = sym (told_full _ _ _ _ _ (omega (arith, c.if-here-eq0.false)) c.if-next-ne0.false (omega (arith, c.if-out-here-lt9.true)))

pub returns : goal.returns
returns c =
    let p = c.put_node-at.ensures in
    ap₂ (λ (k : ℕ) (o : List ℕ). way k c.args.c.next o) p.number p.out
    ∙ sym (told_written _ _ _ _ _ (omega (arith, c.if-here-eq0.false)) c.if-next-ne0.false (omega (arith, c.if-out-here-lt9.false)))
