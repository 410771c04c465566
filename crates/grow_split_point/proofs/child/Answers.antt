use mathlib.Core.Path.{refl}
use native.Mathlib.Omega.{arith}
use borrow.Author.Tests.{leb-true}
use Rattle.model.specs.Row.{nil}
use Rattle.theory_rows.specs.Laws.{not_nil}
use Rattle.theory_rows.specs.Cut.{choosing}
use Rattle.grow_split_point.specs.Kids.{first_fits}
use Rattle.grow_split_point.specs.Search.{seek_on, last_ends, last_past}
use Rattle.grow_split_point.proofs.child.Goals as goal
use Rattle.grow_split_point.proofs.child.Goals.{else-next-end-via-else-next-end, else-next-end-via-then-next-end+else-next-p}

pub loop-pos-init : goal.loop-pos-init
loop-pos-init c = λ w. record { kids = w; left = nil; way = λ st. choosing st _ _ w.row (not_nil w.row w.some) }

pub size_at-requires : goal.size_at-requires
size_at-requires c = omega (arith, first_fits (((c.loop-pos.invariant c.requires).kids)) refl)

pub overflow_add-next : goal.overflow_add-next
overflow_add-next c = omega (arith, first_fits (((c.loop-pos.invariant c.requires).kids)) c.size_at.ensures.0)

pub loop-pos-smaller : goal.loop-pos-smaller
loop-pos-smaller c = omega (arith, first_fits (((c.loop-pos.invariant c.requires).kids)) c.size_at.ensures.0)

pub loop-pos-preserved : goal.loop-pos-preserved
loop-pos-preserved c = λ w.
    seek_on (c.loop-pos.invariant w) c.size_at.ensures.0 c.if-next-end.true (omega (arith, leb-true))

pub returns-else-next-end : goal.returns-else-next-end
returns-else-next-end c = λ w st.
    let s = c.loop-pos.invariant w in
    let is = c.size_at.ensures.0 in
    record {
      left = s.left;
      from = s.kids.row;
      way = s.way st;
      last = elim c.else-next-end.branch [
        | else-next-end-via-then-next-end+else-next-p v ↦ last_past s is v.if-next-end.true v.if-next-p.false
        | else-next-end-via-else-next-end v ↦ last_ends s is v.if-next-end.false
      ];
    }
