use Rattle.std.proofs.Common.{arith, refl}
use Rattle.read_find.specs.Rowed.{Rowed, Entered, short, room, counts, more, pass, enter, seeking, sought, seek_here, seek_inside, seek_on}
use Rattle.read_find.specs.Shown.{shown_proxy, shown_plain}
use Rattle.read_find.proofs.nth.Goals as goal
use Rattle.read_find.proofs.nth.Goals.{In-loop-i, After-name_at-p}

-- What is left of the row in the loop, and the record whose proxy is the first of it.
left : (c : In-loop-i) → Rowed c.args.image.now c.loop-i.i c.loop-i.stop c.loop-i.deep
left c = (c.loop-i.invariant _ (seeking _ _ _ _ _ c.requires.0)).rest

under : (c : After-name_at-p) → let i = (goal.at.After-name_at-p c).In-loop-i in
    Entered c.args.image.now c.loop-i.i c.loop-i.stop c.loop-i.deep c.name_at-p.result (left i).row
under c = enter _ _ _ _ _ c.loop-i-test.true c.if-image-i-eq3.true c.name_at-p.ensures.0 (left (goal.at.After-name_at-p c).In-loop-i)

pub nodes_shown-n-requires : goal.nodes_shown-n-requires
nodes_shown-n-requires c = counts _ _ _ _ c.loop-i-test.true (left (goal.at.nodes_shown-n-requires c).In-loop-i) _ c.requires.1

pub size_at-i-requires : goal.size_at-i-requires
size_at-i-requires c = omega (arith, room _ _ _ _ (left (goal.at.size_at-i-requires c).In-loop-i), c.loop-i-test.true)

pub overflow_add-i : goal.overflow_add-i
overflow_add-i c = omega (arith, room _ _ _ _ (left (goal.at.overflow_add-i c).In-loop-i), c.loop-i-test.true, c.size_at-i.ensures.1)

pub loop-i-smaller-then-n-left : goal.loop-i-smaller-then-n-left
loop-i-smaller-then-n-left c =
    omega (arith, more _ _ _ _ c.loop-i-test.true (left (goal.at.loop-i-smaller-then-n-left c).In-loop-i) _ c.requires.1, c.size_at-i.ensures.0, c.loop-i-test.true)

pub loop-i-preserved-then-n-left : goal.loop-i-preserved-then-n-left
loop-i-preserved-then-n-left c =
    λ t s. rw c.nodes_shown-n.ensures.0
    (seek_on _ _ _ _ _ _ _ c.loop-i-test.true c.size_at-i.ensures.0 (c.loop-i.invariant t s) _ c.requires.1
    (omega (arith, c.nodes_shown-n.ensures.0, c.if-n-left.true)))

pub bounds-image-i : goal.bounds-image-i
bounds-image-i c = omega (arith, room _ _ _ _ (left (goal.at.bounds-image-i c).In-loop-i), c.loop-i-test.true)

pub name_at-p-requires : goal.name_at-p-requires
name_at-p-requires c = omega (arith, room _ _ _ _ (left (goal.at.name_at-p-requires c).In-loop-i), c.loop-i-test.true)

pub row_start-i-requires : goal.row_start-i-requires
row_start-i-requires c = (under (goal.at.row_start-i-requires c).After-name_at-p).on

pub record_end-stop-requires : goal.record_end-stop-requires
record_end-stop-requires c = let e = under (goal.at.record_end-stop-requires c).After-name_at-p in (e.on.high, e.on.inside)

pub overflow_sub-deep : goal.overflow_sub-deep
overflow_sub-deep c = (under (goal.at.overflow_sub-deep c).After-name_at-p).below

pub loop-i-smaller : goal.loop-i-smaller
loop-i-smaller c =
    let e = under (goal.at.loop-i-smaller c).After-name_at-p in
    omega (arith, short _ _ _ _ e.inside, e.below, c.row_start-i.ensures, c.record_end-stop.ensures)

pub loop-i-preserved : goal.loop-i-preserved
loop-i-preserved c =
    λ t s.
    let w = c.loop-i.invariant t s in
    seek_inside _ _ _ _ _ _ _ w (enter _ _ _ _ _ c.loop-i-test.true c.if-image-i-eq3.true c.name_at-p.ensures.0 w.rest) _ c.requires.1 _ _ c.row_start-i.ensures
    c.record_end-stop.ensures
    (omega (arith, shown_proxy _ c.args.widths.now _ _ c.if-image-i-eq3.true c.name_at-p.ensures.0, c.nodes_shown-n.ensures.0, c.if-n-left.false))

pub returns-else-image-i-eq3 : goal.returns-else-image-i-eq3
returns-else-image-i-eq3 c =
    λ w.
    let s = c.loop-i.invariant _ (seeking _ _ _ _ _ w) in
    seek_here _ _ _ _ _ _ _ s (pass _ _ _ _ _ c.loop-i-test.true refl c.if-image-i-eq3.false s.rest)
    (omega (arith, shown_plain c.args.image.now c.args.widths.now c.loop-i.i c.if-image-i-eq3.false, c.nodes_shown-n.ensures.0, c.if-n-left.false))

pub returns : goal.returns
returns c = λ w. sought _ _ _ _ _ _ (c.loop-i.invariant _ (seeking _ _ _ _ _ w)) c.loop-i-test.false
