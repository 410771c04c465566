-- `store::check_tables` meets its contract: the check on the bytes is the check of the rules, every byte being below 256, and its table and marks are right.
use Rattle.std.proofs.Common.{sym, ◌∙◌, ℕ, ◌<◌, arith, get_or}
use Rattle.theory_check.specs.Exact.{exact}
use Rattle.store.specs.Widths.{passes_length, table, named, marks_long}
use Rattle.store.proofs.check_tables.Goals as goal

pub returns : goal.returns
returns c =
    let img = c.args.image.now in
    let e = c.check_tables.ensures in
    let all : (i : ℕ) → get_or img i 0 < 256 = λ i. omega (arith, c.type_inv.image i) in (
      e.answer ∙ exact img all,
      λ z.
          let ok = sym e.answer ∙ z in
          (passes_length img all ok, table img all ok c.args.widths.now _ c.requires.0 (e.table z), named img all ok _ (e.reached z), marks_long img all ok _ (e.reached z)),
    )
