-- `store::check_widths` meets its contract: the check on the bytes is the check of the rules, every byte being below 256, and its table is right.
use Rattle.std.proofs.Common.{sym, ◌∙◌, ℕ, ◌<◌, arith, get_or}
use Rattle.theory_check.specs.Exact.{exact}
use Rattle.store.specs.Widths.{table}
use Rattle.store.proofs.check_widths.Goals as goal

pub check_widths-requires : goal.check_widths-requires
check_widths-requires c = c.requires

pub returns : goal.returns
returns c =
    let img = c.args.image.now in
    let e = c.check_widths.ensures in
    let all : (i : ℕ) → get_or img i 0 < 256 = λ i. omega (arith, c.type_inv.image i) in
    (e.0 ∙ exact img all, λ z. table img all (sym e.0 ∙ z) c.args.widths.now _ c.requires (e.1 z))
