-- `read_next::read_agg`: the children's row stands, and is counted by the table.
use Rattle.std.specs.Prelude.{ℕ, ◌+◌}
use Rattle.std.proofs.Common.{ap, arith}
use Rattle.read_next.specs.Read.{inner_to, inner_few, agg_named}
use Rattle.read_next.proofs.read_agg.Goals as goal

pub width-n-requires : goal.width-n-requires
width-n-requires c = (inner_to c.args.image.now c.args.pos _ (ap (λ (n : ℕ). c.args.pos + n) c.size_at.ensures.0) c.requires.2, c.requires.3)

pub overflow_cast-result-2 : goal.overflow_cast-result-2
overflow_cast-result-2 c =
    let few = inner_few c.args.image.now c.args.pos c.requires.2 in
    let same = c.width-n.ensures (inner_to c.args.image.now c.args.pos _ (ap (λ (n : ℕ). c.args.pos + n) c.size_at.ensures.0) c.requires.2) in
    omega arith

pub returns : goal.returns
returns c =
    λ w.
    agg_named c.args.image.now c.args.pos _ _ _ w.row c.origin_of.ensures c.requires.4 c.label_at.ensures.0
    (c.width-n.ensures (inner_to c.args.image.now c.args.pos _ (ap (λ (n : ℕ). c.args.pos + n) c.size_at.ensures.0) w))
