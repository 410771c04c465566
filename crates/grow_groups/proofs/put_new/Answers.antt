-- `grow_groups::put_new`: nothing in a dry run, else the record and its entry.
use mathlib.Core.Path.{ap}
use Prim.Native.Nat.{ℕ}
use lib.ListN.{set}
use Rattle.grow_groups.specs.Group.{part_counting}
use Rattle.grow_groups.proofs.put_new.Goals as goal

pub returns-then-dry : goal.returns-then-dry
returns-then-dry c = record { image = λ w. rw c.if-dry.true; widths = λ w. rw c.if-dry.true }

pub number-n-requires : goal.number-n-requires
number-n-requires c = let k = c.requires in part_counting _ _ k.4 _ k.0 k.3

pub returns : goal.returns
returns c =
    let k = c.requires in
    record {
      image = λ w. rw c.if-dry.false (c.put_nodes.ensures w);
      widths =
          λ w. rw c.if-dry.false (ap (λ (i : ℕ). set c.args.widths.now c.args.q i) (c.number-n.ensures (part_counting _ _ w _ k.0 k.3)));
    }
