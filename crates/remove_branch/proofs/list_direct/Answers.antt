-- `remove_branch::list_direct`: the walk over the headers.
use Rattle.std.proofs.Common.{rules, arith}
use Rattle.model.specs.Limits.{most_pages}
use Rattle.grow_pages.specs.Links.{WalkStep, each}
use Rattle.remove_branch.specs.Listed.{add, along_start, along_step, along_room, along_on, along_more, along_end}
use Rattle.remove_branch.proofs.list_direct.Goals as goal
use Rattle.remove_branch.proofs.list_direct.Goals.{In-loop-pos}

-- the header at hand
step : (g : _) (c : In-loop-pos g) → WalkStep c.args.part.now most_pages add c.loop-pos.pos c.loop-pos.list.items (each add c.requires.linked.row c.args.list.now.items)
step g c = along_step c.requires (c.loop-pos.invariant c.requires) c.loop-pos-test.true

pub loop-pos-init : goal.loop-pos-init
loop-pos-init g c = along_start

pub loop-pos-preserved-then-kind-eq1 : goal.loop-pos-preserved-then-kind-eq1
loop-pos-preserved-then-kind-eq1 g c =
    λ w.
    let a = c.loop-pos.invariant w in
    along_on w a _ ((along_step w a c.loop-pos-test.true).into c.if-kind-eq1.true)

pub name_at-requires : goal.name_at-requires
name_at-requires g c =
    let v = step g (goal.at.name_at-requires g c).In-loop-pos in
    omega (arith, v.within, (v.proxy c.if-kind-eq3.true).0)

pub push-requires : goal.push-requires
push-requires g c =
    let w = c.requires in
    let v = step g (goal.at.push-requires g c).In-loop-pos in
    (search rules, along_room w (c.loop-pos.invariant w) _ _ (v.proxy c.if-kind-eq3.true).1.1)

pub loop-pos-preserved-then-kind-eq3 : goal.loop-pos-preserved-then-kind-eq3
loop-pos-preserved-then-kind-eq3 g c =
    λ w.
    let a = c.loop-pos.invariant w in
    rw (c.push.ensures.items, c.name_at.ensures.0) (along_more w a _ _ ((along_step w a c.loop-pos-test.true).proxy c.if-kind-eq3.true).1.1)

pub size_at-pos-requires : goal.size_at-pos-requires
size_at-pos-requires g c =
    let v = step g (goal.at.size_at-pos-requires g c).In-loop-pos in
    omega (arith, v.more, v.within)

pub loop-pos-smaller : goal.loop-pos-smaller
loop-pos-smaller g c =
    let v = step g (goal.at.loop-pos-smaller g c).In-loop-pos in
    omega (arith, v.more, v.within, c.size_at-pos.ensures.0)

pub loop-pos-preserved : goal.loop-pos-preserved
loop-pos-preserved g c =
    λ w.
    let a = c.loop-pos.invariant w in
    rw c.size_at-pos.ensures.0 (along_on w a _ ((along_step w a c.loop-pos-test.true).past c.if-kind-eq1.false c.if-kind-eq3.false))

pub returns : goal.returns
returns g c = λ w. along_end w (c.loop-pos.invariant w) c.loop-pos-test.false
