-- `remove_record::take_out`: the record's bytes without the node, or those of its only sibling, unless that is a proxy.
use Rattle.std.proofs.Common.{refl, ◌+◌, ◌*◌, ◌-◌, ◌≤◌, length, take, drop, arith, length-take}
use Rattle.model.specs.Limits.{page_size}
use Rattle.remove_record.specs.Reduced.{used, part, long, losing, out_place, left_spliced, alone_fits, name_fits, left_proxy, left_root}
use Rattle.remove_record.proofs.take_out.Goals as goal
use Rattle.remove_record.proofs.take_out.Goals.{In-Some}

-- The only sibling is within the record.
fits : (c : In-Some) → let a = page_size * c.args.page in let s = c.in-Some.sibling in
    (s.start + 6 ≤ s.end) × (s.end ≤ length (take (a + c.used_at.result - a) (drop a c.args.image.now)))
fits c = let w = c.requires.0 in let e = part w _ c.used_at.ensures.0 in alone_fits w _ e _ (c.in-Some.ensures (losing w _ e))

pub slice_bounds-rec-end : goal.slice_bounds-rec-end
slice_bounds-rec-end c = let w = c.requires.0 in omega (arith, used w, c.used_at.ensures.0, w.small, w.on.inside)

pub only_sibling-requires : goal.only_sibling-requires
only_sibling-requires c = let w = c.requires.0 in losing w _ (part w _ c.used_at.ensures.0)

pub splice-len-requires : goal.splice-len-requires
splice-len-requires c =
    let w = c.requires.0 in
    let e = part w _ c.used_at.ensures.0 in
    let n = long w _ e in
    (out_place w _ e (c.in_default.ensures (losing w _ e)) _ refl, (omega (arith, n, c.requires.1), omega (arith, n)))

pub returns-in_default : goal.returns-in_default
returns-in_default c = λ w.
    let e = part w _ c.used_at.ensures.0 in
    let s = c.in_default.ensures (losing w _ e) in
    let k = c.splice-len.ensures (out_place w _ e s _ refl) in
    left_spliced w _ e s _ _ _ k.0 k.1

pub bounds-rec-start : goal.bounds-rec-start
bounds-rec-start c = omega (arith, fits (goal.at.bounds-rec-start c).In-Some)

pub name_at-requires : goal.name_at-requires
name_at-requires c =
    let w = c.requires.0 in
    let e = part w _ c.used_at.ensures.0 in
    name_fits w _ e _ (c.in-Some.ensures (losing w _ e)) c.if-rec-start-eq3.true

pub returns-then-rec-start-eq3 : goal.returns-then-rec-start-eq3
returns-then-rec-start-eq3 c = λ w.
    let e = part w _ c.used_at.ensures.0 in
    left_proxy w _ e _ (c.in-Some.ensures (losing w _ e)) c.if-rec-start-eq3.true _ _ c.name_at.ensures.0

pub slice_bounds-copy_in-count : goal.slice_bounds-copy_in-count
slice_bounds-copy_in-count c = omega (arith, fits (goal.at.slice_bounds-copy_in-count c).In-Some)

pub slice_bounds-copy_in-start : goal.slice_bounds-copy_in-start
slice_bounds-copy_in-start c = omega (arith, fits (goal.at.slice_bounds-copy_in-start c).In-Some)

pub slice_bounds-copy_in-end : goal.slice_bounds-copy_in-end
slice_bounds-copy_in-end c = omega (arith, fits (goal.at.slice_bounds-copy_in-end c).In-Some)

pub copy_in-requires : goal.copy_in-requires
copy_in-requires c =
    let w = c.requires.0 in
    let e = part w _ c.used_at.ensures.0 in
    simp length-take (omega (arith, fits (goal.at.copy_in-requires c).In-Some, long w _ e, c.requires.1))

pub overflow_sub-result : goal.overflow_sub-result
overflow_sub-result c = omega (arith, fits (goal.at.overflow_sub-result c).In-Some)

pub returns : goal.returns
returns c = λ w.
    let e = part w _ c.used_at.ensures.0 in
    left_root w _ e _ (c.in-Some.ensures (losing w _ e)) c.if-rec-start-eq3.false _ _ _ refl c.copy_in.ensures
