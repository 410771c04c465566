use Rattle.std.specs.Prelude.{◌+◌, ◌*◌, ◌/◌, ◌≤◌, ◌<◌, length}
use Rattle.std.proofs.Common.{arith, rules, le-leb, lt-ltb, eq-eqb}
use Rattle.model.specs.Limits.{most_pages, page_size, capacity}
use Rattle.model.specs.WalkTests.{names_of}
use Rattle.theory_check.specs.Before.{used_fits_lem}
use Rattle.theory_check.specs.Parts.{in_use_lem}
use Rattle.read_marks.proofs.names.Goals as goal

pub returns-then-image-start-eq1 : goal.returns-then-image-start-eq1
unfolding names_of
returns-then-image-start-eq1 c =
    let img = c.args.image.now in
    let p = c.args.p in
    let low : 2 ≤ p = search rules in
    let high : p < length img / page_size = search rules in
    rw (
      le-leb 2 p low,
      lt-ltb p most_pages (omega (arith, c.requires)),
      le-leb (page_size * p + page_size) (length img) (omega arith),
      eq-eqb _ _ c.if-image-start-eq1.true,
      le-leb _ capacity (used_fits_lem img p c.requires.1 (omega arith) high (in_use_lem img p (omega arith))),
      ← c.back_at.ensures.0,
    )
