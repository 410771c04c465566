-- `grow_write_back::keep`: the record, then the links of its row.
-- In each answer w is the content, f says where the row starts.
use mathlib.Core.Path.{refl, ap}
use mathlib.Core.Bool.{not}
use Prim.Native.Nat.{◌≤◌}
use native.Mathlib.Omega.{arith}
use lib.ListN.{length}
use Rattle.grow_pages.specs.Relinked.{written}
use Rattle.grow_groups.specs.Group.{wet, still}
use Rattle.grow_write_back.specs.Content.{content_fits, start_inside, content_linked, kept_is}
use Rattle.grow_write_back.proofs.keep.Goals as goal
use Rattle.grow_write_back.proofs.keep.Goals.{After-first_node-from}

pub returns-then-g : goal.returns-then-g
returns-then-g c =
    let a = c.args in
    let i = a.image.now in
    λ w b e. still a.g.dry i i (written a.g.near b a.holder w.row i) (ap not c.if-g.true) refl

pub put_record-requires : goal.put_record-requires
put_record-requires c =
    omega (arith, c.requires.0, c.requires.1.0, c.requires.1.1.0, c.requires.1.1.1.0, c.requires.1.1.1.1.0, content_fits c.requires.1.1.1.1.1)

pub first_node-from-requires : goal.first_node-from-requires
first_node-from-requires c = (content_fits c.requires.1.1.1.1.1).0

-- the row starts inside the content
start_in : (c : After-first_node-from) → c.first_node-from.result ≤ length c.args.content.now
start_in c =
    let w = c.requires.1.1.1.1.1 in start_inside w (c.first_node-from.ensures w.row w.is)

pub relink-requires : goal.relink-requires
relink-requires c =
    let w = c.requires.1.1.1.1.1 in
    let f = c.first_node-from.ensures w.row w.is in
    (c.requires.0, (omega (arith, c.put_record.auto.image, c.requires.1.0), (c.requires.1.1.0, content_linked w f)))

pub returns : goal.returns
returns c =
    let a = c.args in
    let i = a.image.now in
    let q = a.g.near in
    λ w b e.
    let f = c.first_node-from.ensures w.row w.is in
    wet a.g.dry _ i (written q b a.holder w.row i) (ap not c.if-g.false)
    (kept_is w q a.holder i b e c.put_record.ensures (c.relink.ensures (content_linked w f)))

pub slice_bounds-relink-count : goal.slice_bounds-relink-count
slice_bounds-relink-count c = omega (arith, start_in (goal.at.slice_bounds-relink-count c).After-first_node-from)

pub slice_bounds-relink-start : goal.slice_bounds-relink-start
slice_bounds-relink-start c = omega (arith, start_in (goal.at.slice_bounds-relink-start c).After-first_node-from)

pub slice_bounds-relink-end : goal.slice_bounds-relink-end
slice_bounds-relink-end c = omega (arith, start_in (goal.at.slice_bounds-relink-end c).After-first_node-from)
