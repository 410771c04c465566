-- `remove_branch::free_listed`: a turn takes the next page of the list.
use Rattle.std.proofs.Common.{◌≡◌, ◌<◌, ◌≤◌, rules, arith, ap, get_or, length, List, ℕ}
use Rattle.theory_layout.specs.Here.{PageIn}
use Rattle.remove_branch.specs.Freeing.{turn_start, turn_end, turn_page, turn_bit, turn_room, turn_listing, turn_again}
use Rattle.remove_branch.proofs.free_listed.Goals as goal
use Rattle.remove_branch.proofs.free_listed.Goals.{After-deref, After-record_end-end}

pub loop-k-init : goal.loop-k-init
loop-k-init g c = turn_start

-- the page at hand is on the list
some : (g : _) (c : After-deref g) → c.loop-k.k < length c.loop-k.list.items
some g c = omega (arith, c.len.ensures.value, c.loop-k-test.true)

at_hand : (g : _) (c : After-deref g) → get_or c.deref.result.now c.loop-k.k 0 ≡ get_or c.loop-k.list.items c.loop-k.k 0
at_hand g c = ap (λ (l : List ℕ). get_or l c.loop-k.k 0) c.deref.ensures.0

page_in : (g : _) (c : After-deref g) → PageIn c.loop-k.image (get_or c.deref.result.now c.loop-k.k 0)
page_in g c = let w = c.requires in turn_page w (c.loop-k.invariant w) (some g c) _ (at_hand g c)

pub row_start-start-requires : goal.row_start-start-requires
row_start-start-requires g c = page_in g (goal.at.row_start-start-requires g c).After-deref

pub record_end-end-requires : goal.record_end-end-requires
record_end-end-requires g c = let p = page_in g (goal.at.record_end-end-requires g c).After-deref in (p.high, p.inside)

-- its row
room : (g : _) (c : After-record_end-end g) → (c.row_start-start.result ≤ c.record_end-end.result) × (c.record_end-end.result ≤ length c.loop-k.image)
room g c =
    let w = c.requires in
    let d = c.before.before.before in
    turn_room w (c.loop-k.invariant w) (some g d) _ (at_hand g d) _ _ c.row_start-start.ensures c.record_end-end.ensures

pub slice_bounds-list_direct-count : goal.slice_bounds-list_direct-count
slice_bounds-list_direct-count g c = omega (arith, room g (goal.at.slice_bounds-list_direct-count g c).After-record_end-end)

pub slice_bounds-list_direct-start : goal.slice_bounds-list_direct-start
slice_bounds-list_direct-start g c = omega (arith, room g (goal.at.slice_bounds-list_direct-start g c).After-record_end-end)

pub slice_bounds-list_direct-end : goal.slice_bounds-list_direct-end
slice_bounds-list_direct-end g c = omega (arith, room g (goal.at.slice_bounds-list_direct-end g c).After-record_end-end)

pub list_direct-requires : goal.list_direct-requires
list_direct-requires g c =
    let w = c.requires in
    let d = (goal.at.list_direct-requires g c).After-deref in
    (search rules, turn_listing w (c.loop-k.invariant w) (some g d) _ (at_hand g d) _ _ c.row_start-start.ensures c.record_end-end.ensures)

pub clear_page-requires : goal.clear_page-requires
clear_page-requires g c = let p = page_in g (goal.at.clear_page-requires g c).After-deref in (p.high, p.inside)

pub clear_mark-requires : goal.clear_mark-requires
clear_mark-requires g c =
    let w = c.requires in
    let d = (goal.at.clear_mark-requires g c).After-deref in
    omega (arith, turn_bit w (c.loop-k.invariant w) (some g d) _ (at_hand g d))

pub loop-k-preserved : goal.loop-k-preserved
loop-k-preserved g c =
    let d = (goal.at.loop-k-preserved g c).After-deref in
    λ w.
    let t = c.loop-k.invariant w in
    let a = c.row_start-start.ensures in
    let b = c.record_end-end.ensures in
    rw (c.clear_page.ensures, c.clear_mark.ensures)
    (turn_again w t (some g d) _ (at_hand g d) _ _ a b _ (c.list_direct.ensures (turn_listing w t (some g d) _ (at_hand g d) _ _ a b)))

pub shape_of-image : goal.shape_of-image
shape_of-image g c = (c.loop-k.invariant c.requires).cleared.long

pub returns : goal.returns
returns g c = λ w. turn_end w (c.loop-k.invariant w) (omega (arith, c.len.ensures.value, c.loop-k-test.false))
