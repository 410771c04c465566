use mathlib.Core.Path.{sym, subst}
use Prim.Native.Nat.{◌≤◌}
use native.Mathlib.Omega.{arith}
use Rattle.model.specs.Limits.{most_pages}
use Rattle.theory_layout.specs.Widths.{Widths}
use Rattle.read_find.specs.Rowed.{Rowed}
use Rattle.grow_locate.specs.declared.Span.{Span}
use Rattle.grow_locate.specs.Walk.{Finds}
use Rattle.grow_locate.proofs.seek_child.Goals as goal

pub seek-requires : goal.seek-requires
seek-requires c =
    subst (λ (r : Span). Rowed c.args.image.now r.pos r.end most_pages × Widths c.args.image.now c.args.widths.now × (r.deep ≤ most_pages))
    (sym c.children.ensures) (c.requires.0, c.requires.1, omega arith)

pub returns : goal.returns
returns c =
    let a = c.args in
    λ w. (subst (λ (r : Span). Finds a.image.now r a.k c.seek.result) c.children.ensures c.seek.ensures w).0
