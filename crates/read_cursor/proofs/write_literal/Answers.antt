use mathlib.Core.Path.{refl, ap}
use native.Mathlib.Omega.{arith}
use Rattle.read_cursor.specs.Going.{going_as, node_here, node_few, node_passed, written_dealt, enters_literal}
use Rattle.read_cursor.specs.declared.Cursor.{Cursor}
use Rattle.read_cursor.proofs.write_literal.Goals as goal

pub put_literal-at-requires : goal.put_literal-at-requires
put_literal-at-requires c =
    let p = c.requires in
    (node_here p.0.3 _ c.size_at-size.ensures.0, p.1.begun, p.1.fits, p.2)

pub past-requires : goal.past-requires
past-requires c =
    let a = c.requires.0.3 in
    let h = node_here a _ c.size_at-size.ensures.0 in
    (h.low, h.small, node_few a)

pub returns : goal.returns
returns c =
    let p = c.requires in
    let e = c.past.ensures in
    let m = c.size_at-size.ensures.0 in
    let q = c.put_literal-at.ensures in record {
      goes = λ target g stack a. going_as e refl (node_passed a _ _ _ _ _ (written_dealt _ _ _ p.1 m q.number q.out) (enters_literal _ c.size_at-size.result 0 p.2));
      moves = (
        omega (arith, ap (λ (x : Cursor). x.i) e, (node_here p.0.3 _ m).more),
        ap (λ (x : Cursor). x.level) e,
        omega (arith, ap (λ (x : Cursor). x.at) e, q.number),
        ap (λ (x : Cursor). x.next) e,
      );
    }
