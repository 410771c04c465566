-- `read_fault_walk::walk_root`: the root, then the row below it.
use Rattle.std.proofs.Common.{arith}
use Rattle.std.proofs.lemmas.Result.{err_from_is_err_and}
use Rattle.read_fault_nodes.specs.Nodes.{within_long}
use Rattle.read_fault_walk.specs.Root.{root_other, root_stops, root_row_lem, root_bad, root_long, root_inner, root_walks}
use Rattle.read_fault_walk.proofs.walk_root.Goals as goal

pub returns-then-image-ne1 : goal.returns-then-image-ne1
returns-then-image-ne1 c = root_other _ _ c.if-image-ne1.true c.new.ensures

pub returns-in_err-x : goal.returns-in_err-x
returns-in_err-x c =
    let p = err_from_is_err_and c.from_residual.result c.from_residual.ensures.1 in
    rw (p.1, p.2) (root_stops c.in_err-x.ensures c.if-image-ne1.false)

pub slice_bounds-head-count : goal.slice_bounds-head-count
slice_bounds-head-count c =
    let p = c.requires in
    omega (arith, (root_row_lem c.in_ok-x.ensures c.if-image-ne1.false p.1 p.2).1)

pub slice_bounds-head-start : goal.slice_bounds-head-start
slice_bounds-head-start c =
    let p = c.requires in
    omega (arith, (root_row_lem c.in_ok-x.ensures c.if-image-ne1.false p.1 p.2).1)

pub slice_bounds-head-end : goal.slice_bounds-head-end
slice_bounds-head-end c =
    let p = c.requires in
    omega (arith, within_long (root_row_lem c.in_ok-x.ensures c.if-image-ne1.false p.1 p.2).0)

pub returns-then-head-ne1 : goal.returns-then-head-ne1
returns-then-head-ne1 c =
    let p = c.requires in
    let root = c.if-image-ne1.false in
    let k = c.head.ensures in
    root_bad c.in_ok-x.ensures root p.1 p.2 _ k c.if-head-ne1.true c.new-then-head-ne1.ensures

pub overflow_add-a : goal.overflow_add-a
overflow_add-a c =
    let p = c.requires in
    let root = c.if-image-ne1.false in
    let k = c.head.ensures in
    let w = root_row_lem c.in_ok-x.ensures root p.1 p.2 in
    omega (arith, root_long c.in_ok-x.ensures root p.1 p.2 _ k c.if-head-ne1.false, within_long w.0)

pub row_walk-requires : goal.row_walk-requires
row_walk-requires c =
    let p = c.requires in
    let root = c.if-image-ne1.false in
    let k = c.head.ensures in
    let one = c.if-head-ne1.false in
    (p.0, root_inner c.in_ok-x.ensures root p.1 p.2 _ k one, root_long c.in_ok-x.ensures root p.1 p.2 _ k one, λ e. omega arith, p.3, p.4)

pub returns : goal.returns
returns c =
    let p = c.requires in
    let root = c.if-image-ne1.false in
    let k = c.head.ensures in
    root_walks c.in_ok-x.ensures root p.1 p.2 _ k c.if-head-ne1.false c.row_walk.ensures.0
