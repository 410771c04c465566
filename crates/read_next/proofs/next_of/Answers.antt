use Rattle.std.proofs.Common.{sym, arith}
use Rattle.read_next.specs.Follow.{answer_stray, answer_end, answer_read, follows_inside}
use Rattle.read_next.proofs.next_of.Goals as goal

pub returns-in_default : goal.returns-in_default
returns-in_default c = sym (answer_stray c.args.image.now _ c.requires c.in_default.ensures)

pub returns-in_default-next_in : goal.returns-in_default-next_in
returns-in_default-next_in c = sym (answer_end _ _ _ c.in-Some.ensures c.in_default-next_in.ensures)

pub kind_at-requires : goal.kind_at-requires
kind_at-requires c = omega (arith, follows_inside c.in-Some-next_in.ensures)

pub origin_of-requires : goal.origin_of-requires
origin_of-requires c = follows_inside c.in-Some-next_in.ensures

pub returns : goal.returns
returns c =
    answer_read _ _ _ _ _ _ _ c.in-Some.ensures c.in-Some-next_in.ensures c.of_byte.ensures c.kind_at.ensures c.origin_of.ensures
