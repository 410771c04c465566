-- `remove_node::remove_at`: one node less in the table, what is left of the record, the branch's pages, and the record's.
use mathlib.Core.Path.{refl, sym}
use native.Mathlib.Omega.{arith}
use Prim.Native.Nat.{◌≤◌}
use lib.ListN.{length}
use lib.Seq.{length-take-le}
use Rattle.model.specs.Limits.{capacity}
use Rattle.theory_growth.specs.Chain.{last_settled}
use Rattle.theory_page_memory.specs.Steps.{bit_le}
use Rattle.remove_node.specs.Going.{settled_is, holder_is, holder_high, raising, removing, branch, room}
use Rattle.remove_node.specs.Gone.{left_small, own_bit, gone_stays, proxy_left, lifting, gone_goes}
use Rattle.remove_node.proofs.remove_at.Goals as goal
use Rattle.remove_node.proofs.remove_at.Goals.{In-Record}

pub overflow_mul-a : goal.overflow_mul-a
overflow_mul-a c = omega (arith, room c.requires)

pub settled_at-settled-requires : goal.settled_at-settled-requires
settled_at-settled-requires c = omega (arith, room c.requires)

pub back_at-holder-requires : goal.back_at-holder-requires
back_at-holder-requires c = omega (arith, room c.requires)

pub one_less-requires : goal.one_less-requires
one_less-requires c = raising c.requires

pub take_out-left-requires : goal.take_out-left-requires
take_out-left-requires c = (removing c.requires, omega arith)

pub overflow_add-start : goal.overflow_add-start
overflow_add-start c = omega (arith, room c.requires)

pub overflow_add-start-2 : goal.overflow_add-start-2
overflow_add-start-2 c = omega (arith, room c.requires)

pub free_branch-requires : goal.free_branch-requires
free_branch-requires c = branch c.requires

pub lift_child-requires : goal.lift_child-requires
lift_child-requires c =
    let w = c.requires in
    lifting w (c.one_less.ensures (raising w)) (c.free_branch.ensures (branch w)) (proxy_left w _ _ _ (c.in-Proxy.ensures (removing w)))

pub clear_mark-requires : goal.clear_mark-requires
clear_mark-requires c =
    let w = c.requires in
    omega (arith, own_bit w (c.free_branch.ensures (branch w)))

pub returns-in-Proxy : goal.returns-in-Proxy
returns-in-Proxy c w =
    gone_goes w (c.one_less.ensures (raising w)) (c.free_branch.ensures (branch w)) (proxy_left w _ _ _ (c.in-Proxy.ensures (removing w))) _ _
    c.lift_child.ensures c.clear_mark.ensures

-- What is left of the record fits the buffer.
small : (c : In-Record) → (c.in-Record.len ≤ capacity) × (c.in-Record.len ≤ length c.take_out-left.new.buf)
small c =
    let w = c.requires in
    let h = left_small w _ _ _ (c.in-Record.ensures (removing w)) in
    (h, omega (arith, h, c.take_out-left.auto.buf))

pub slice_bounds-buf-end : goal.slice_bounds-buf-end
slice_bounds-buf-end c = (small (goal.at.slice_bounds-buf-end c).In-Record).1

pub slice_bounds-put_record-end : goal.slice_bounds-put_record-end
slice_bounds-put_record-end c = sym (length-take-le _ _ (small (goal.at.slice_bounds-put_record-end c).In-Record).1)

pub put_record-requires : goal.put_record-requires
put_record-requires c =
    let w = c.requires in
    let s = small (goal.at.put_record-requires c).In-Record in (
      omega (arith, room w),
      (
        omega (arith, room w, c.free_branch.auto.image),
        (
          omega (arith, length-take-le c.in-Record.len c.take_out-left.new.buf s.1, s.0),
          (
            omega (arith, c.settled_at-settled.ensures.0, settled_is w, bit_le (last_settled w.t.chain)),
            omega (arith, c.back_at-holder.ensures.0, holder_is w, holder_high w),
          ),
        ),
      ),
    )

pub returns-in-Record : goal.returns-in-Record
returns-in-Record c w =
    gone_stays w (c.one_less.ensures (raising w)) (c.free_branch.ensures (branch w)) _ _ _ (c.in-Record.ensures (removing w)) _ _ _ _ refl
    c.settled_at-settled.ensures.0
    c.back_at-holder.ensures.0 c.put_record.ensures
