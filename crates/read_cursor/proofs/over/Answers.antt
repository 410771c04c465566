-- `read_cursor::over`: past the node, or into it.
use mathlib.Core.Path.{refl, sym, ap, ◌∙◌}
use native.Mathlib.Omega.{arith}
use Rattle.read_cursor.specs.Going.{going_as, node_passed, node_entered}
use Rattle.read_cursor.specs.declared.Cursor.{Cursor}
use Rattle.read_cursor.proofs.over.Goals as goal

pub returns-then-enters : goal.returns-then-enters
returns-then-enters c =
    let e = c.into.ensures in record { goes = λ target g out after a d. going_as e.cursor e.stack (node_entered a _ _ _ _ after d (sym c.enters.ensures ∙ c.if-enters.true)); moves = (omega (arith, ap (λ (x : Cursor). x.i) e.cursor), omega (arith, ap (λ (x : Cursor). x.level) e.cursor)) }

pub returns : goal.returns
returns c =
    let e = c.past.ensures in record { goes = λ target g out after a d. going_as e refl (node_passed a _ _ _ _ after d (sym c.enters.ensures ∙ c.if-enters.false)); moves = (omega (arith, ap (λ (x : Cursor). x.i) e, c.requires.0.more), omega (arith, ap (λ (x : Cursor). x.level) e)) }
