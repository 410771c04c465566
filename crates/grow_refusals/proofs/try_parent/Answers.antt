-- `grow_refusals::try_parent`: the kind's byte, and the search for the spot.
use Rattle.std.specs.Prelude.{Option, is_some}
use Rattle.std.proofs.Common.{arith, ap, sym, ◌∙◌}
use Rattle.grow_locate.specs.declared.Receiver.{Receiver}
use Rattle.grow_locate.proofs.Aim.{received}
use Rattle.grow_refusals.specs.Admit.{read_room, is_literal_lem, searched, is_past, is_within}
use Rattle.grow_refusals.proofs.try_parent.Goals as goal

pub bounds-image-parent : goal.bounds-image-parent
bounds-image-parent c = omega (arith, read_room c.requires.0.1)

pub returns-then-image-parent-eq2-clause-number : goal.returns-then-image-parent-eq2-clause-number
returns-then-image-parent-eq2-clause-number c = λ n r. is_literal_lem r _ c.if-image-parent-eq2.true

pub find_spot-requires : goal.find_spot-requires
find_spot-requires c = (searched c.requires.0.1 c.if-image-parent-eq2.false, c.requires.1)

pub returns-in_default-clause-number : goal.returns-in_default-clause-number
returns-in_default-clause-number c =
    let l = c.if-image-parent-eq2.false in
    λ n r. is_past r l _ _ (c.find_spot.ensures (searched r l)) (ap (λ (o : Option Receiver). is_some o) c.in_default.is)

pub returns-clause-number : goal.returns-clause-number
returns-clause-number c =
    let l = c.if-image-parent-eq2.false in
    λ n r. is_within r l _ _ (c.find_spot.ensures (searched r l)) (ap (λ (o : Option Receiver). is_some o) c.in-Some.is)

pub returns-clause-receiver : goal.returns-clause-receiver
returns-clause-receiver c = λ w. received w _ (λ r. sym c.in-Some.is ∙ c.find_spot.ensures r)
