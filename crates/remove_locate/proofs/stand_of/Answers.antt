use Rattle.std.specs.Prelude.{Option, IfSome}
use Rattle.std.proofs.Common.{arith, ◌+◌, ◌%◌, ◌≤◌, sym, subst, ap, ◌∙◌}
use Rattle.std.specs.Option.{option_map}
use Rattle.model.specs.Limits.{page_size}
use Rattle.grow_locate.specs.declared.Located.{Located}
use Rattle.grow_locate.specs.Seek.{seek_order}
use Rattle.remove_locate.specs.Leave.{standing_at}
use Rattle.remove_locate.proofs.stand_of.Goals as goal

pub overflow_sub-result : goal.overflow_sub-result
overflow_sub-result c =
    let w = c.requires.0 in
    let e = sym c.in_ok-l.was ∙ c.seek_child.ensures w in
    let h : c.in_ok-l.l.at ≤ c.in_ok-l.l.past =
    subst (λ (o : Option Located). IfSome o (λ l. l.at ≤ l.past)) (sym e) (seek_order (c.args.parent + 6) (c.args.parent % page_size) 0 w.row c.args.k) in
    omega (arith, h)

pub returns : goal.returns
returns c = λ w. ap (option_map standing_at) (sym c.in_ok-l.was ∙ c.seek_child.ensures w)
