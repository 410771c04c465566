use Rattle.std.proofs.Common.{arith, ◌∙◌}
use Rattle.listing_text.specs.Lined.{node_fits, node_lines, at_node, lines_at, underway_start, own_room}
use Rattle.listing_text.specs.Lined.{inside_fitting, underway_on, underway_end}
use Rattle.listing_text.proofs.+walk.Goals as goal

-- Below, g is what is written and left at the loop's head, n the node at i, and s its lines.

pub own-requires-clause-listed_node : goal.own-requires-clause-listed_node
own-requires-clause-listed_node t c =
    let g = c.loop-i.invariant.0 _ (underway_start c.requires) in
    record { stop = _; depth = _; node = at_node _ g.rest c.loop-i-test.true c.size_at.ensures.0 }

pub own-requires-clause-fits : goal.own-requires-clause-fits
own-requires-clause-fits t c =
    let g = c.loop-i.invariant.0 _ (underway_start c.requires) in
    own_room g (node_lines (at_node _ g.rest c.loop-i-test.true c.size_at.ensures.0))

pub inside-held-requires : goal.inside-held-requires
inside-held-requires t c =
    let g = c.loop-i.invariant.0 _ (underway_start c.requires) in
    record { stop = _; depth = _; node = at_node _ g.rest c.loop-i-test.true c.size_at.ensures.0 }

pub overflow_sub-depth : goal.overflow_sub-depth
overflow_sub-depth t c =
    let g = c.loop-i.invariant.0 _ (underway_start c.requires) in
    (node_lines (at_node _ g.rest c.loop-i-test.true c.size_at.ensures.0)).below

pub walk-requires : goal.walk-requires
walk-requires t c =
    let g = c.loop-i.invariant.0 _ (underway_start c.requires) in
    let n = at_node _ g.rest c.loop-i-test.true c.size_at.ensures.0 in
    let s = lines_at n _ c.inside-held.ensures in
    (omega (arith, c.decreases, s.below), inside_fitting g s c.own.ensures.text)

pub loop-i-smaller : goal.loop-i-smaller
loop-i-smaller t c =
    let g = c.loop-i.invariant.0 _ (underway_start c.requires) in
    let n = at_node _ g.rest c.loop-i-test.true c.size_at.ensures.0 in
    omega (arith, node_fits n, c.loop-i-test.true)

pub loop-i-preserved : goal.loop-i-preserved
loop-i-preserved t c = (
  λ u w.
      let g = c.loop-i.invariant.0 u w in
      let n = at_node _ g.rest c.loop-i-test.true c.size_at.ensures.0 in
      let s = lines_at n _ c.inside-held.ensures in
      underway_on g s c.own.ensures.text (c.walk.ensures.text (inside_fitting g s c.own.ensures.text)),
  c.walk.ensures.same_buffer ∙ c.own.ensures.same_buffer ∙ c.loop-i.invariant.1,
)

pub returns-clause-text : goal.returns-clause-text
returns-clause-text t c = λ w. record { wrote = underway_end (c.loop-i.invariant.0 _ (underway_start w)) c.loop-i-test.false }
