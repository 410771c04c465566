-- `grow_split_point::stays`: a node of 8 bytes stays by the table.
use Rattle.std.specs.Prelude.{not}
use Rattle.std.proofs.Common.{ap, arith, ◌∙◌}
use Rattle.model.specs.Row.{may_stand}
use Rattle.grow_split_point.specs.Kids.{first}
use Rattle.grow_split_point.specs.Search.{stays_kind, eight}
use Rattle.grow_split_point.proofs.stays.Goals as goal

pub returns-then-kind-le4 : goal.returns-then-kind-le4
returns-then-kind-le4 c = λ g e.
    let k = eight g e c.if-part-ne8.false in
    ap not (c.may_stand.ensures ∙ ap (may_stand 0) (c.wide-kind.ensures.0 ∙ (first k).kind_is)) ∙ stays_kind g (omega (arith, k.ends))
