-- Test by test, what the tests so far come to.
use Rattle.std.specs.Prelude.{◌≡◌, ◌&&◌, eqb}
use Rattle.std.proofs.Common.{rules}
use Rattle.model.specs.Reading.{state_at, settled_at, used_at, back_at}
use Rattle.model.specs.BeforeWalk.{settled_fits, used_fits, back_fits}
use Rattle.read_pages.proofs.Pages.{trailer_on}
use Rattle.read_pages.proofs.record_trailer.Goals as goal

pub returns-then-back_fits : goal.returns-then-back_fits
returns-then-back_fits c =
    let a = c.args in
    let s = a.page.now in
    let one : c.if-page-eq1.value ≡ (eqb (state_at s 0) 1 && settled_fits a.p (settled_at s 0)) = search rules in
    let two : c.if-settled_fits.value ≡ (c.if-page-eq1.value && used_fits (used_at s 0)) = search rules in
    let three : c.if-used_fits.value ≡ (c.if-settled_fits.value && back_fits a.pages a.p (back_at s 0)) = search rules in
    rw (trailer_on a.pages a.p s c.requires, ← one, ← two, ← three, c.if-back_fits.true) c.zeros.ensures

pub returns-else-back_fits : goal.returns-else-back_fits
returns-else-back_fits c =
    let a = c.args in
    let s = a.page.now in
    let one : c.if-page-eq1.value ≡ (eqb (state_at s 0) 1 && settled_fits a.p (settled_at s 0)) = search rules in
    let two : c.if-settled_fits.value ≡ (c.if-page-eq1.value && used_fits (used_at s 0)) = search rules in
    let three : c.if-used_fits.value ≡ (c.if-settled_fits.value && back_fits a.pages a.p (back_at s 0)) = search rules in
    rw (trailer_on a.pages a.p s c.requires, ← one, ← two, ← three, c.if-back_fits.false)
