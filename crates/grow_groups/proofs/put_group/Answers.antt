-- `grow_groups::put_group`: what stays is copied, else a new record and its proxy.
use mathlib.Core.Path.{sym, ◌∙◌}
use Prim.Native.Nat.{◌+◌, ◌<◌, ◌≤◌}
use native.Mathlib.Omega.{arith}
use lib.ListN.{length}
use Rattle.grow_groups.specs.Used.{found_inside}
use Rattle.grow_groups.specs.Group.{kept_room, group_kept, group_record, proxy_room, group_moved}
use Rattle.grow_groups.proofs.put_group.Goals as goal
use Rattle.grow_groups.proofs.put_group.Goals.{After-first_free-q}

pub copy_in-requires : goal.copy_in-requires
copy_in-requires c =
    let w = c.requires.1.1 in
    omega (arith, kept_room c.requires.0 w (sym c.if-stays.true ∙ c.stays.ensures w.row w.is), c.requires.1.0)

pub returns-then-stays : goal.returns-then-stays
returns-then-stays c w =
    let h = sym c.if-stays.true ∙ c.stays.ensures w.row w.is in
    group_kept c.requires.0 w h _ _ _ c.copy_in.ensures

pub set_mark-requires : goal.set_mark-requires
set_mark-requires c =
    let v = c.requires.0 in
    omega (arith, v.holds.map, found_inside v _ c.first_free-q.ensures)

pub put_new-requires : goal.put_new-requires
put_new-requires c =
    let v = c.requires.0 in
    let w = c.requires.1.1 in
    let h = sym c.if-stays.false ∙ c.stays.ensures w.row w.is in
    (v.few, v.image, found_inside v _ c.first_free-q.ensures, v.holds.widths, group_record v w h)

-- there is room for the proxy, whose page is one of the image's
room : (c : After-first_free-q) → let v = c.args in (v.at + 8 ≤ length v.out.now) × (c.first_free-q.result < 65536)
room c =
    let v = c.requires.0 in
    let w = c.requires.1.1 in
    let h = sym c.if-stays.false ∙ c.stays.ensures w.row w.is in
    omega (arith, v.few, c.requires.1.0, proxy_room v w h, found_inside v _ c.first_free-q.ensures)

pub put_proxy-requires : goal.put_proxy-requires
put_proxy-requires c = omega (arith, room (goal.at.put_proxy-requires c).After-first_free-q)

pub overflow_add-result-2 : goal.overflow_add-result-2
overflow_add-result-2 c = omega (arith, room (goal.at.overflow_add-result-2 c).After-first_free-q, c.well_formed)

pub returns : goal.returns
returns c =
    λ w.
    let h = sym c.if-stays.false ∙ c.stays.ensures w.row w.is in
    let r = group_record c.requires.0 w h in
    group_moved c.requires.0 w h _ _ _ _ _ _ _ c.first_free-q.ensures c.set_mark.ensures (c.put_new.ensures.widths r) (c.put_new.ensures.image r) c.put_proxy.ensures
