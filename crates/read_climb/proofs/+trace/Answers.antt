use native.Mathlib.Omega.{arith}
use Rattle.read_climb.specs.Search.{few_before, wrote_here, lower, trace_below, room_below, wrote_below}
use Rattle.read_climb.proofs.+trace.Goals as goal

pub child_at-c-requires : goal.child_at-c-requires
child_at-c-requires t c =
    let w = c.requires in
    (w.0.search, w.1)

pub overflow_add-result : goal.overflow_add-result
overflow_add-result t c =
    let w = c.requires.0 in
    omega (arith, (c.child_at-c.ensures w.search).1, few_before _ _ _ w.search, w.small)

pub returns-then-c-target : goal.returns-then-c-target
returns-then-c-target t c w =
    let f = c.child_at-c.ensures w.search in
    wrote_here _ _ _ _ _ w _ f.0 _ _ f.1 c.if-c-target.true c.requires.2

pub overflow_add-c : goal.overflow_add-c
overflow_add-c t c =
    let w = c.requires.0 in
    omega (arith, lower _ _ _ _ _ w _ (c.child_at-c.ensures w.search).0 c.if-c-target.false)

pub trace-t-requires : goal.trace-t-requires
trace-t-requires t c =
    let w = c.requires.0 in
    let f = (c.child_at-c.ensures w.search).0 in
    let k = c.if-c-target.false in
    (omega (arith, c.decreases, lower _ _ _ _ _ w _ f k), (trace_below _ _ _ _ _ w _ f k, c.requires.1, c.requires.2))

pub overflow_sub-t : goal.overflow_sub-t
overflow_sub-t t c =
    let w = c.requires.0 in
    let f = (c.child_at-c.ensures w.search).0 in
    let k = c.if-c-target.false in
    (room_below _ _ _ _ _ w _ f k _ _ _ _ (c.trace-t.ensures (trace_below _ _ _ _ _ w _ f k))).0

pub put32-requires : goal.put32-requires
put32-requires t c =
    let w = c.requires.0 in
    let f = (c.child_at-c.ensures w.search).0 in
    let k = c.if-c-target.false in
    let n = c.trace-t.ensures (trace_below _ _ _ _ _ w _ f k) in
    omega (arith, room_below _ _ _ _ _ w _ f k _ _ _ _ n, n.long)

pub overflow_sub-result : goal.overflow_sub-result
overflow_sub-result t c =
    let w = c.requires.0 in
    let f = (c.child_at-c.ensures w.search).0 in
    let k = c.if-c-target.false in
    (room_below _ _ _ _ _ w _ f k _ _ _ _ (c.trace-t.ensures (trace_below _ _ _ _ _ w _ f k))).0

pub returns : goal.returns
returns t c w =
    let f = c.child_at-c.ensures w.search in
    let k = c.if-c-target.false in
    wrote_below _ _ _ _ _ w _ f.0 k _ _ _ _ (c.trace-t.ensures (trace_below _ _ _ _ _ w _ f.0 k)) _ _ f.1
    c.put32.ensures
