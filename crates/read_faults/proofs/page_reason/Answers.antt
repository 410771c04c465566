-- `read_faults::page_reason`: the trailer byte by byte.
use borrow.Author.Tests.{eq-eqb, ne_eqb}
use Rattle.read_faults.specs.Pages.{trailer_byte, trailer_part}
use Rattle.read_faults.proofs.page_reason.Goals as goal

pub returns-then-page-ne0 : goal.returns-then-page-ne0
returns-then-page-ne0 c =
    let s = c.args.page.now in
    rw (trailer_byte s, ne_eqb _ 0 c.if-page-ne0.true)

pub returns-then-p-eq1 : goal.returns-then-p-eq1
returns-then-p-eq1 c =
    let s = c.args.page.now in
    rw (trailer_byte s, eq-eqb _ 0 c.if-page-ne0.false, eq-eqb _ 1 c.if-p-eq1.true)

pub returns-then-zeros : goal.returns-then-zeros
returns-then-zeros c =
    rw (
      trailer_byte c.args.page.now,
      eq-eqb _ 0 c.if-page-ne0.false,
      ne_eqb _ 1 c.if-p-eq1.false,
      ← trailer_part c.args.page.now c.requires,
      ← c.zeros.ensures,
      c.if-zeros.true,
    )

pub returns : goal.returns
returns c =
    rw (
      trailer_byte c.args.page.now,
      eq-eqb _ 0 c.if-page-ne0.false,
      ne_eqb _ 1 c.if-p-eq1.false,
      ← trailer_part c.args.page.now c.requires,
      ← c.zeros.ensures,
      c.if-zeros.false,
    )
