use Rattle.std.proofs.Common.{refl, ◌∙◌, arith}
use Rattle.read_climb.specs.Search.{standing, header_inside, header_long, counts, shows, few_before, go_on_lem, go_end}
use Rattle.read_climb.proofs.child_at.Goals as goal

pub loop-i-init : goal.loop-i-init
loop-i-init c w = record { now = w; same = refl; counts = omega arith }

pub size_at-requires : goal.size_at-requires
size_at-requires c =
    let g = c.loop-i.invariant c.requires.0 in
    omega (arith, header_inside _ _ (standing _ _ _ g.now))

pub overflow_add-i : goal.overflow_add-i
overflow_add-i c =
    let g = c.loop-i.invariant c.requires.0 in
    omega (arith, header_inside _ _ (standing _ _ _ g.now), c.size_at.ensures.1)

pub nodes_shown-n-requires : goal.nodes_shown-n-requires
nodes_shown-n-requires c =
    let p = c.requires in
    counts _ _ (standing _ _ _ (c.loop-i.invariant p.0).now) _ p.1

pub overflow_add-n : goal.overflow_add-n
overflow_add-n c =
    let w = c.requires.0 in
    let g = c.loop-i.invariant w in
    let n = go_on_lem _ _ _ _ _ _ _ _ g c.size_at.ensures.0 c.loop-i-test.true (c.nodes_shown-n.ensures.0 ∙ shows _ _ (standing _ _ _ g.now) _ c.requires.1) in
    omega (arith, n.counts, few_before _ _ _ w)

pub size_at-i-requires : goal.size_at-i-requires
size_at-i-requires c =
    let g = c.loop-i.invariant c.requires.0 in
    omega (arith, header_inside _ _ (standing _ _ _ g.now))

pub overflow_add-i-in-loop-i : goal.overflow_add-i-in-loop-i
overflow_add-i-in-loop-i c =
    let g = c.loop-i.invariant c.requires.0 in
    omega (arith, header_inside _ _ (standing _ _ _ g.now), c.size_at-i.ensures.1)

pub loop-i-smaller : goal.loop-i-smaller
loop-i-smaller c =
    let g = c.loop-i.invariant c.requires.0 in
    let n = c.size_at.ensures.0 in
    omega (arith, header_long _ _ (standing _ _ _ g.now), c.size_at-i.ensures.0, c.loop-i-test.true)

pub loop-i-preserved : goal.loop-i-preserved
loop-i-preserved c w =
    let g = c.loop-i.invariant w in
    go_on_lem _ _ _ _ _ _ _ _ g c.size_at-i.ensures.0
    (omega (arith, c.size_at-i.ensures.0, c.size_at.ensures.0, c.loop-i-test.true))
    (c.nodes_shown-n.ensures.0 ∙ shows _ _ (standing _ _ _ g.now) _ c.requires.1)

pub returns : goal.returns
returns c w = go_end _ _ _ _ _ _ _ (c.loop-i.invariant w) c.size_at.ensures.0 c.loop-i-test.false
