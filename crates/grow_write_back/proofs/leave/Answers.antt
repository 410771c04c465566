-- `grow_write_back::leave`: a settled record keeps its page; else the mark goes, and a run that writes clears the page.
use mathlib.Core.Path.{refl, ap}
use mathlib.Core.Bool.{not}
use Rattle.theory_page_memory.specs.Memory.{blank}
use Rattle.grow_pages.specs.Write.{set_page}
use Rattle.grow_groups.specs.Group.{wet, still}
use Rattle.grow_write_back.specs.Off.{left_settled, left_marked}
use Rattle.grow_write_back.proofs.leave.Goals as goal

pub returns-then-settled-ne0 : goal.returns-then-settled-ne0
returns-then-settled-ne0 c =
    let a = c.args in
    λ stays e. left_settled a.settled a.g a.map.now a.image.now c.if-settled-ne0.true stays e

pub returns-then-dry : goal.returns-then-dry
returns-then-dry c =
    let a = c.args in
    λ stays e. left_marked a.settled a.g a.map.now _ a.image.now _ c.if-settled-ne0.false c.clear_mark.ensures
    (still a.g.dry a.image.now a.image.now (set_page a.g.near blank a.image.now) (ap not c.if-dry.true) refl) stays e

pub returns : goal.returns
returns c =
    let a = c.args in
    λ stays e. left_marked a.settled a.g a.map.now _ a.image.now _ c.if-settled-ne0.false c.clear_mark.ensures
    (wet a.g.dry _ a.image.now (set_page a.g.near blank a.image.now) (ap not c.if-dry.false)
    c.clear_page.ensures) stays e
