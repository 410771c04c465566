-- `grow_widths::change`: the rest of the way leads to the same table, from any chain that ends on the page.
use Rattle.std.specs.Prelude.{◌-◌}
use Rattle.grow_widths.specs.Raised.{changed, Raising, Makes, Rest}
use Rattle.grow_widths.proofs.change.Given as goal

abbrev pub invariant-loop : goal.invariant-loop
invariant-loop g l =
    ((w : Raising l.image l.initial.widths l.page l.deep) (m : Makes (goal.F-post g l.step))
    → Rest m.of l.image l.widths (changed m.of l.deep w.chain l.initial.widths) l.q (l.deep - l.counter))
