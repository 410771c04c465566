use Rattle.std.specs.Prelude.{List, ℕ, ◌+◌, length}
use Rattle.std.proofs.Common.{arith, sym, ap, subst, ◌∙◌}
use Rattle.theory_check.specs.Tests.{marked}
use Rattle.theory_check.specs.Marks.{length_mark}
use Rattle.grow_map.specs.Map.{ShutTo, shut_start, shut_turn, shut_end}
use Rattle.grow_map.proofs.shut.Goals as goal

pub loop-p-preserved : goal.loop-p-preserved
loop-p-preserved c =
    let l = c.loop-p in
    let n = c.args.pages in
    let e = c.set_mark-in-loop-p.ensures in (
      λ old m. subst (λ (x : List ℕ). ShutTo n old x (l.p + 1)) (sym e) (shut_turn _ _ old _ (omega arith) (l.invariant.0 old m)),
      ap length e ∙ length_mark l.map l.p ∙ l.invariant.1,
    )

pub returns : goal.returns
returns c =
    let e = c.set_mark-2.ensures ∙ ap (λ (m : List ℕ). marked m 1) c.set_mark.ensures in
    let start = subst (λ (m : List ℕ). ShutTo c.args.pages c.args.map.now m c.args.pages) (sym e) (shut_start _ _ c.requires.0) in
    shut_end _ _ _ _ (omega arith) (c.loop-p.invariant.0 c.args.map.now start)
