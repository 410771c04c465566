use Rattle.std.specs.Prelude.{Some}
use Rattle.std.proofs.Common.{◌≡◌, suc, ◌-◌, sym, ap, ◌∙◌, arith}
use Rattle.grow_locate.specs.Seek.{children_span}
use Rattle.grow_locate.specs.Choose.{sight_child}
use Rattle.grow_locate.proofs.find_spot.Goals as goal

pub returns-then-k-eq0 : goal.returns-then-k-eq0
returns-then-k-eq0 c =
    let a = c.args in
    λ w. ap Some (rw c.children-span.ensures at c.spot_first.ensures w) ∙ ap (sight_child a.image.now (children_span a.image.now a.parent) w.row) (sym c.if-k-eq0.true)

pub returns : goal.returns
returns c =
    let a = c.args in
    let z : suc (a.k - 1) ≡ a.k = omega (arith, c.if-k-eq0.false) in
    λ w. rw c.children-span.ensures at c.spot_beside.ensures w ∙ ap (sight_child a.image.now (children_span a.image.now a.parent) w.row) z
