-- By the matrix: the node's own record, or the node itself.
use mathlib.Core.Path.{sym, ◌∙◌}
use Rattle.model.specs.Growth.{as_row}
use Rattle.model.specs.Row.{nil}
use Rattle.theory_rows.specs.Keeps.{as_row_lone}
use Rattle.grow_new_node.specs.Placed.{placed_apart, placed_within}
use Rattle.grow_new_node.proofs.place_node.Goals as goal

pub returns-then-is_apart : goal.returns-then-is_apart
returns-then-is_apart c =
    λ st root r e w t x h eh ex b.
    placed_apart st x h c.args.out.now e c.requires.0 t c.args.node.now b _ _ _ _ _ c.requires.1.1.0
    (sym (c.is_apart.ensures st root r e h x.head eh ex) ∙ c.if-is_apart.true) (c.place_apart-full.ensures (as_row st x nil) (as_row_lone st x) b)

pub returns : goal.returns
returns c =
    λ st root r e w t x h eh ex b.
    placed_within st x h c.args.out.now e c.requires.0 t c.args.node.now b _
    (sym (c.is_apart.ensures st root r e h x.head eh ex) ∙ c.if-is_apart.false) c.copy_in.ensures
