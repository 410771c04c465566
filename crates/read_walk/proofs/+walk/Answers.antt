-- The walk's functions, proved together.
use mathlib.Core.Path.{◌≡◌, refl, sym, ap, subst, ◌∙◌}
use Prim.Native.Nat.{ℕ, ◌≤◌, ◌+◌, ◌*◌, ◌-◌, ◌/◌}
use native.Mathlib.Omega.{arith}
use lib.ListN.{length, drop, length-take}
use Rattle.model.specs.Limits.{most_levels, page_size}
use Rattle.theory_check.specs.Marks.{IsMarks, marks_kept}
use Rattle.theory_check.specs.Steps.{Entered}
use Rattle.theory_check.specs.Walk.{state}
use Rattle.read_nodes.specs.Leaves.{sized}
use Rattle.read_nodes.specs.Stand.{root_low}
use Rattle.read_leaves.specs.Leafy.{only_fits}
use Rattle.read_walker.specs.declared.Walker.{Walker}
use Rattle.read_walker.specs.Turns.{walker, marked_is}
use Rattle.read_turns.specs.Going.{going_done}
use Rattle.read_turns.specs.Turns.{goal_of, own_of_lem, at_start, at_short, at_size, at_stop, ended_none, part_rest, node_ended, deep_ended}
use Rattle.read_turns.specs.Steps as step
use Rattle.read_turns.specs.Steps.{Standing, Goes, to_go}
use Rattle.read_walk.proofs.+walk.Goals as goal
use Rattle.read_walk.proofs.+walk.Goals.{node_check-After-only-d, proxy_check-Else-p-eq0, list_check-After-past-w, list_check-After-past-w-then-literal}

-- ── a node ──

-- the aggregates below that are each the only one
inner : (t : ℕ) (c : node_check-After-only-d t) → let a = c.args in
    let d = c.only-d.result in
    (6 * d + 6 ≤ length a.part.now) × (a.level + 1 + d ≤ most_levels + 1)
inner t c = only_fits _ _ _ c.requires.0 c.if-level-gt-LEVELS.false c.only-d.ensures

pub node_check-returns-then-level-gt-LEVELS : goal.node_check-returns-then-level-gt-LEVELS
node_check-returns-then-level-gt-LEVELS t c = λ h e. deep_ended c.requires.4 h _ 0 _ 0 _ _ _ _ _ _ e c.if-level-gt-LEVELS.true

pub node_check-only-d-requires : goal.node_check-only-d-requires
node_check-only-d-requires t c = (c.requires.0, omega (arith, c.if-level-gt-LEVELS.false))

pub node_check-overflow_mul-k : goal.node_check-overflow_mul-k
node_check-overflow_mul-k t c = omega (arith, inner t (goal.at.node_check-overflow_mul-k t c).After-only-d)

pub node_check-overflow_add-k : goal.node_check-overflow_add-k
node_check-overflow_add-k t c = omega (arith, inner t (goal.at.node_check-overflow_add-k t c).After-only-d)

pub node_check-slice_bounds-list_check-count : goal.node_check-slice_bounds-list_check-count
node_check-slice_bounds-list_check-count t c = (inner t (goal.at.node_check-slice_bounds-list_check-count t c).After-only-d).0

pub node_check-slice_bounds-list_check-start : goal.node_check-slice_bounds-list_check-start
node_check-slice_bounds-list_check-start t c = (inner t (goal.at.node_check-slice_bounds-list_check-start t c).After-only-d).0

pub node_check-overflow_add-at : goal.node_check-overflow_add-at
node_check-overflow_add-at t c = omega (arith, inner t (goal.at.node_check-overflow_add-at t c).After-only-d, c.requires.4.inside, c.well_formed)

pub node_check-overflow_add-below-2 : goal.node_check-overflow_add-below-2
node_check-overflow_add-below-2 t c = omega (arith, inner t (goal.at.node_check-overflow_add-below-2 t c).After-only-d)

pub node_check-list_check-requires : goal.node_check-list_check-requires
node_check-list_check-requires t c =
    let i = inner t (goal.at.node_check-list_check-requires t c).After-only-d in
    let p = c.requires in
    let r = part_rest p.4 _ i.0 in (
      omega (arith, c.decreases, i, length-take (length c.args.part.now - (6 * c.only-d.result + 6)) (drop (6 * c.only-d.result + 6) c.args.part.now)),
      (i.1, p.2, p.3, r, p.5, p.6, p.7, p.8),
    )

pub node_check-returns : goal.node_check-returns
node_check-returns t c =
    λ h e.
    node_ended c.requires.4 h _ _ _ _ _ _ _ _ _ _ e c.if-level-gt-LEVELS.false c.only-d.ensures c.list_check.ensures

-- ── a proxy ──

-- the page that is entered
reached : (t : ℕ) (c : proxy_check-Else-p-eq0 t) → Entered c.args.image.now c.reach-p.result (c.args.w.at / page_size) (state c.args.w.left c.args.marks.now)
reached t c = step.proxy_entered c.requires.3.1 c.requires.1 c.requires.2 _ c.reach-p.ensures.page c.if-p-eq0.false

pub proxy_check-reach-p-requires : goal.proxy_check-reach-p-requires
proxy_check-reach-p-requires t c = c.requires.0

pub proxy_check-returns-then-p-eq0 : goal.proxy_check-returns-then-p-eq0
proxy_check-returns-then-p-eq0 t c =
    λ g x.
    step.turned_over _ _ _ _ (ap (λ (v : Walker). v.left) c.refused.ensures)
    (step.proxy_none x c.requires.1 c.requires.2 _ c.reach-p.ensures.page c.if-p-eq0.true)

pub proxy_check-overflow_mul-a : goal.proxy_check-overflow_mul-a
proxy_check-overflow_mul-a t c = omega (arith, (reached t (goal.at.proxy_check-overflow_mul-a t c).Else-p-eq0).names.low)

pub proxy_check-record_end-e-requires : goal.proxy_check-record_end-e-requires
proxy_check-record_end-e-requires t c = ((reached t (goal.at.proxy_check-record_end-e-requires t c).Else-p-eq0).names.low, (reached t (goal.at.proxy_check-record_end-e-requires t c).Else-p-eq0).names.inside)

pub proxy_check-slice_bounds-record-count : goal.proxy_check-slice_bounds-record-count
proxy_check-slice_bounds-record-count t c = omega (arith, c.record_end-e.ensures)

pub proxy_check-slice_bounds-record-start : goal.proxy_check-slice_bounds-record-start
proxy_check-slice_bounds-record-start t c = let e = reached t (goal.at.proxy_check-slice_bounds-record-start t c).Else-p-eq0 in omega (arith, e.names.inside, c.record_end-e.ensures)

pub proxy_check-slice_bounds-record-end : goal.proxy_check-slice_bounds-record-end
proxy_check-slice_bounds-record-end t c = let e = reached t (goal.at.proxy_check-slice_bounds-record-end t c).Else-p-eq0 in omega (arith, e.names.inside, e.names.used, c.record_end-e.ensures)

pub proxy_check-enter-requires : goal.proxy_check-enter-requires
proxy_check-enter-requires t c =
    let x = c.requires.3.1 in
    let n = (reached t (goal.at.proxy_check-enter-requires t c).Else-p-eq0).names in
    (step.standing_fits x, x.at.1, n.low, omega (arith, n.inside, step.standing_wide x), omega (arith, n.inside, step.standing_back x))

pub proxy_check-returns-then-root-eq4 : goal.proxy_check-returns-then-root-eq4
proxy_check-returns-then-root-eq4 t c =
    λ g x.
    let e = c.enter.ensures in
    step.turned_as c.reach-p.ensures.marks e.widths e.back e.walker (step.turned_helper x c.requires.1 c.requires.2 _ c.reach-p.ensures.page c.if-p-eq0.false _ c.record_end-e.ensures _ c.head-root.ensures c.if-root-eq4.true)

pub proxy_check-returns-then-root-eq0 : goal.proxy_check-returns-then-root-eq0
proxy_check-returns-then-root-eq0 t c =
    λ g x.
    step.turned_over _ _ _ _ (ap (λ (v : Walker). v.left) c.refused-then-root-eq0.ensures) (step.proxy_bare x c.requires.1 c.requires.2 _ c.reach-p.ensures.page c.if-p-eq0.false _ c.record_end-e.ensures _ c.head-root.ensures c.if-root-eq0.true)

pub proxy_check-overflow_sub-w : goal.proxy_check-overflow_sub-w
proxy_check-overflow_sub-w t c = c.requires.3.1.at.1

pub proxy_check-past-r-requires : goal.proxy_check-past-r-requires
proxy_check-past-r-requires t c = (step.standing_fits c.requires.3.1, omega arith)

pub proxy_check-returns-then-w-gt-LEVELS : goal.proxy_check-returns-then-w-gt-LEVELS
proxy_check-returns-then-w-gt-LEVELS t c =
    λ g x.
    step.turned_over _ _ _ _ (ap (λ (v : Walker). v.left) c.refused-then-w-gt-LEVELS.ensures) (step.literal_deep x c.requires.1 c.requires.2 _ c.reach-p.ensures.page c.if-p-eq0.false _ c.record_end-e.ensures _ c.head-root.ensures c.if-root-eq2.true c.if-w-gt-LEVELS.true)

pub proxy_check-offset_bounds-widths-p : goal.proxy_check-offset_bounds-widths-p
proxy_check-offset_bounds-widths-p t c = omega (arith, (reached t (goal.at.proxy_check-offset_bounds-widths-p t c).Else-p-eq0).names.low)

pub proxy_check-bounds-widths-p : goal.proxy_check-bounds-widths-p
proxy_check-bounds-widths-p t c =
    omega (arith, (reached t (goal.at.proxy_check-bounds-widths-p t c).Else-p-eq0).names.inside, step.standing_wide c.requires.3.1)

pub proxy_check-returns-then-root-eq2 : goal.proxy_check-returns-then-root-eq2
proxy_check-returns-then-root-eq2 t c =
    λ g x.
    step.turned_as c.reach-p.ensures.marks refl refl c.past-r.ensures
    (step.turned_literal x c.requires.1 c.requires.2 _ c.reach-p.ensures.page c.if-p-eq0.false _ c.record_end-e.ensures _ c.head-root.ensures c.if-root-eq2.true c.if-w-gt-LEVELS.false)

pub proxy_check-overflow_sub-w-2 : goal.proxy_check-overflow_sub-w-2
proxy_check-overflow_sub-w-2 t c = c.requires.3.1.at.1

pub proxy_check-node_check-requires : goal.proxy_check-node_check-requires
proxy_check-node_check-requires t c =
    let x = c.requires.3.1 in
    let e = reached t (goal.at.proxy_check-node_check-requires t c).Else-p-eq0 in
    let p = step.proxy_part x c.requires.1 c.requires.2 _ c.reach-p.ensures.page c.if-p-eq0.false _ c.record_end-e.ensures _ c.head-root.ensures in
    let z = c.if-root-eq0.false in (
      omega (arith, c.decreases, e.room, p.page, p.inside),
      (
        step.proxy_long x c.requires.1 c.requires.2 _ c.reach-p.ensures.page c.if-p-eq0.false _ c.record_end-e.ensures _ c.head-root.ensures z,
        omega (arith, x.level, x.own.deep),
        omega (arith, e.room),
        omega (arith, x.at.0.few, x.own.few),
        p,
        c.requires.0,
        subst IsMarks (sym (c.reach-p.ensures.marks ∙ marked_is _ _ c.if-p-eq0.false)) (marks_kept _ _ x.at.0.is_marks e.names.low),
        step.standing_wide x,
        step.standing_back x,
      ),
    )

pub proxy_check-offset_bounds-widths-p-2 : goal.proxy_check-offset_bounds-widths-p-2
proxy_check-offset_bounds-widths-p-2 t c = omega (arith, (reached t (goal.at.proxy_check-offset_bounds-widths-p-2 t c).Else-p-eq0).names.low)

pub proxy_check-bounds-widths-p-2 : goal.proxy_check-bounds-widths-p-2
proxy_check-bounds-widths-p-2 t c =
    omega (arith, (reached t (goal.at.proxy_check-bounds-widths-p-2 t c).Else-p-eq0).names.inside, step.standing_wide c.requires.3.1)

pub proxy_check-returns : goal.proxy_check-returns
proxy_check-returns t c =
    λ g x.
    let one = root_low _ _ c.head-root.ensures c.if-root-eq0.false c.if-root-eq4.false in
    let is : c.head-root.result ≡ 1 = omega (arith, one, c.if-root-eq2.false) in
    step.turned_as refl refl refl
    (ap (λ (v : Walker). walker v.kinds c.node_check.result v.count v.depth v.at v.end v.level) c.past-r.ensures)
    (step.turned_aggregate x c.requires.1 c.requires.2 _ c.reach-p.ensures.page c.if-p-eq0.false _ c.record_end-e.ensures _ c.head-root.ensures is _ c.reach-p.ensures.marks c.node_check.result _ _ _ c.node_check.ensures)

-- ── a node of a list ──

pub part_check-kind_in-kind-requires : goal.part_check-kind_in-kind-requires
part_check-kind_in-kind-requires t c = (step.node_size c.requires.3.1 c.requires.1).0

pub part_check-proxy_check-requires : goal.part_check-proxy_check-requires
part_check-proxy_check-requires t c =
    (omega (arith, c.decreases), (c.requires.0, c.requires.1, sym c.if-kind-eq3.true ∙ c.kind_in-kind.ensures, c.requires.3))

pub part_check-returns-then-kind-eq3 : goal.part_check-returns-then-kind-eq3
part_check-returns-then-kind-eq3 t c = c.proxy_check.ensures

pub part_check-returns-then-kind-ne1 : goal.part_check-returns-then-kind-ne1
part_check-returns-then-kind-ne1 t c =
    λ g x.
    step.turned_over _ _ _ _ (ap (λ (v : Walker). v.left) c.refused.ensures)
    (step.node_none x c.requires.1 _ c.kind_in-kind.ensures c.requires.2 c.if-kind-eq3.false c.if-kind-ne1.true)

pub part_check-past-r-requires : goal.part_check-past-r-requires
part_check-past-r-requires t c = let x = c.requires.3.1 in (step.standing_fits x, (step.node_size x c.requires.1).2)

pub part_check-overflow_add-w : goal.part_check-overflow_add-w
part_check-overflow_add-w t c = let x = c.requires.3.1 in omega (arith, x.level, x.own.deep)

pub part_check-returns-then-holds_leaves : goal.part_check-returns-then-holds_leaves
part_check-returns-then-holds_leaves t c =
    λ g x.
    let f = c.holds_leaves.ensures c.if-holds_leaves.true in
    step.turned_as refl refl refl c.past-r.ensures
    (step.turned_leaves x c.requires.1 _ c.kind_in-kind.ensures c.if-kind-ne1.false f.0 f.1)

pub part_check-node_check-requires : goal.part_check-node_check-requires
part_check-node_check-requires t c =
    let x = c.requires.3.1 in
    let n = c.requires.1 in (
      omega (arith, c.decreases),
      (
        (step.node_size x n).0,
        omega (arith, x.level, x.own.deep),
        x.at.1,
        omega (arith, x.at.0.few, x.own.few),
        step.node_part x n,
        c.requires.0,
        x.at.0.is_marks,
        step.standing_wide x,
        step.standing_back x,
      ),
    )

pub part_check-returns : goal.part_check-returns
part_check-returns t c =
    λ g x.
    step.turned_as refl refl refl (ap (λ (v : Walker). walker v.kinds c.node_check.result v.count v.depth v.at v.end v.level) c.past-r.ensures)
    (step.turned_node x c.requires.1 _ c.kind_in-kind.ensures c.if-kind-ne1.false c.node_check.result _ _ _ c.node_check.ensures)

-- ── a list ──

-- the turns that call nothing on
empty : (t : ℕ) (c : list_check-After-past-w t) → Goes c.args.image.now (goal_of c.args.image.now c.args.part.now c.args.start c.args.level c.args.left c.args.marks.now c.args.widths.now c.args.back.now) c.loop-w.marks c.loop-w.widths c.loop-w.back c.loop-w.w c.past-w.result
empty t c = let x = c.loop-w.invariant in
    step.goes_as refl refl refl c.past-w.ensures (step.passed_empty x _ c.aggregate.ensures c.if-aggregate.true)

short : (t : ℕ) (c : list_check-After-past-w-then-literal t) → Goes c.args.image.now (goal_of c.args.image.now c.args.part.now c.args.start c.args.level c.args.left c.args.marks.now c.args.widths.now c.args.back.now) c.loop-w.marks c.loop-w.widths c.loop-w.back c.loop-w.w c.past-w-then-literal.result
short t c = let x = c.loop-w.invariant in
    step.goes_as refl refl refl c.past-w-then-literal.ensures
    (step.passed_literal x _ c.size_of-size.ensures c.if-size-eq0.false _ c.literal.ensures c.if-literal.true)

pub list_check-overflow_add-last : goal.list_check-overflow_add-last
list_check-overflow_add-last t c = omega (arith, c.requires.3.inside, c.well_formed)

pub list_check-loop-w-init : goal.list_check-loop-w-init
list_check-loop-w-init t c =
    let p = c.requires in
    subst (Standing c.args.image.now (goal_of c.args.image.now c.args.part.now c.args.start c.args.level c.args.left c.args.marks.now c.args.widths.now c.args.back.now) c.args.marks.now c.args.widths.now c.args.back.now) (sym c.first-w.ensures) (record {
      own = own_of_lem _ _ _ _ _ _ _ _ p.3 p.0 p.2 p.6 p.7;
      at = at_start _ _ _ _ _ _ _ _ p.3 p.5 p.1 _ refl;
      level = refl;
    })

pub list_check-returns-then-w-eq0 : goal.list_check-returns-then-w-eq0
list_check-returns-then-w-eq0 t c =
    let x = c.loop-w.invariant in
    record {
      came = going_done x.own x.at.0 (sym c.if-at-end.true) c.if-w-eq0.true;
      stays = λ z. x.at.0.kept;
      long = λ z. x.at.0.back_long;
    }

pub list_check-leave-w-requires : goal.list_check-leave-w-requires
list_check-leave-w-requires t c =
    let x = c.loop-w.invariant in
    let z = c.if-w-eq0.false in
    let o = step.leaving x c.if-at-end.true z in
    (step.standing_fits x, omega (arith, z), o.inside, o.few, step.standing_wide x, step.standing_back x, o.fits, o.outer)

pub list_check-loop-w-smaller-then-at-end : goal.list_check-loop-w-smaller-then-at-end
list_check-loop-w-smaller-then-at-end t c =
    (step.goes_as refl c.leave-w.ensures.widths refl c.leave-w.ensures.walker (step.goes_out c.loop-w.invariant c.if-at-end.true c.if-w-eq0.false)).less

pub list_check-loop-w-preserved-then-at-end : goal.list_check-loop-w-preserved-then-at-end
list_check-loop-w-preserved-then-at-end t c =
    (step.goes_as refl c.leave-w.ensures.widths refl c.leave-w.ensures.walker (step.goes_out c.loop-w.invariant c.if-at-end.true c.if-w-eq0.false)).on

pub list_check-slice_bounds-rest-count : goal.list_check-slice_bounds-rest-count
list_check-slice_bounds-rest-count t c = (step.standing_in c.loop-w.invariant).1

pub list_check-slice_bounds-rest-start : goal.list_check-slice_bounds-rest-start
list_check-slice_bounds-rest-start t c = let i = step.standing_in c.loop-w.invariant in omega (arith, i)

pub list_check-slice_bounds-rest-end : goal.list_check-slice_bounds-rest-end
list_check-slice_bounds-rest-end t c = let i = step.standing_in c.loop-w.invariant in omega (arith, i)

pub list_check-past-w-requires : goal.list_check-past-w-requires
list_check-past-w-requires t c = (step.standing_fits c.loop-w.invariant, omega arith)

pub list_check-loop-w-smaller-then-aggregate : goal.list_check-loop-w-smaller-then-aggregate
list_check-loop-w-smaller-then-aggregate t c = (empty t (goal.at.list_check-loop-w-smaller-then-aggregate t c).After-past-w).less

pub list_check-loop-w-preserved-then-aggregate : goal.list_check-loop-w-preserved-then-aggregate
list_check-loop-w-preserved-then-aggregate t c = (empty t (goal.at.list_check-loop-w-preserved-then-aggregate t c).After-past-w).on

pub list_check-returns-then-size-eq0 : goal.list_check-returns-then-size-eq0
list_check-returns-then-size-eq0 t c =
    let x = c.loop-w.invariant in
    ended_none _ _ _ _ _ _ (at_stop x.own x.at (λ e. c.if-at-end.false (sym e)) (sym c.size_of-size.ensures ∙ c.if-size-eq0.true))

pub list_check-literal-requires : goal.list_check-literal-requires
list_check-literal-requires t c = omega (arith, sized _ _ c.size_of-size.ensures c.if-size-eq0.false)

pub list_check-past-w-requires-then-literal : goal.list_check-past-w-requires-then-literal
list_check-past-w-requires-then-literal t c =
    let x = c.loop-w.invariant in
    let a = at_size x.own x.at _ c.size_of-size.ensures c.if-size-eq0.false in
    (step.standing_fits x, omega (arith, a, at_short x.own x.at))

pub list_check-loop-w-smaller-then-literal : goal.list_check-loop-w-smaller-then-literal
list_check-loop-w-smaller-then-literal t c = (short t (goal.at.list_check-loop-w-smaller-then-literal t c).After-past-w-then-literal).less

pub list_check-loop-w-preserved-then-literal : goal.list_check-loop-w-preserved-then-literal
list_check-loop-w-preserved-then-literal t c = (short t (goal.at.list_check-loop-w-preserved-then-literal t c).After-past-w-then-literal).on

pub list_check-slice_bounds-part_check-end : goal.list_check-slice_bounds-part_check-end
list_check-slice_bounds-part_check-end t c =
    let x = c.loop-w.invariant in
    sym (at_size x.own x.at _ c.size_of-size.ensures c.if-size-eq0.false).2

pub list_check-part_check-w-requires : goal.list_check-part_check-w-requires
list_check-part_check-w-requires t c =
    let x = c.loop-w.invariant in
    let z = c.if-size-eq0.false in
    let is = c.size_of-size.ensures in (
      omega (arith, c.decreases, step.node_less x _ is z),
      (
        c.requires.4,
        step.node_first x _ is z,
        step.no_literal x _ is z _ c.literal.ensures c.if-literal.false,
        ((goal_of c.args.image.now c.args.part.now c.args.start c.args.level c.args.left c.args.marks.now c.args.widths.now c.args.back.now), x),
      ),
    )

pub list_check-returns-then-w-eq0-2 : goal.list_check-returns-then-w-eq0-2
list_check-returns-then-w-eq0-2 t c =
    let x = c.loop-w.invariant in
    ended_none _ _ _ _ _ _ ((c.part_check-w.ensures _ x).over c.if-w-eq0-2.true)

pub list_check-loop-w-smaller : goal.list_check-loop-w-smaller
list_check-loop-w-smaller t c =
    let x = c.loop-w.invariant in
    ((c.part_check-w.ensures _ x).goes c.if-w-eq0-2.false).less

pub list_check-loop-w-preserved : goal.list_check-loop-w-preserved
list_check-loop-w-preserved t c =
    let x = c.loop-w.invariant in
    ((c.part_check-w.ensures _ x).goes c.if-w-eq0-2.false).on
