use Rattle.std.specs.Prelude.{length}
use Rattle.std.proofs.Common.{arith, sym, ◌∙◌}
use Rattle.theory_decoding.specs.Length.{length_says}
use Rattle.read_pages.proofs.Scans.{first_long, none_passed, pages_scanned, pages_passed}
use Rattle.read_pages.proofs.trailers.Goals as goal

pub slice_bounds-settings_ok-end : goal.slice_bounds-settings_ok-end
slice_bounds-settings_ok-end c = sym (first_long c.args.image.now c.requires)

pub settings_ok-requires : goal.settings_ok-requires
settings_ok-requires c = first_long c.args.image.now c.requires

pub returns-then-not-settings_ok : goal.returns-then-not-settings_ok
returns-then-not-settings_ok c =
    let n = none_passed c.args.image.now (sym c.settings_ok.ensures ∙ c.if-not-settings_ok.true) in record { number = n.0; passed = n.1 }

pub scan_pages-requires : goal.scan_pages-requires
scan_pages-requires c =
    let l = length_says (length c.args.image.now) c.requires in
    (omega (arith, l.whole), omega (arith, l.few), l.many)

pub returns : goal.returns
returns c =
    let e = sym c.settings_ok.ensures ∙ c.if-not-settings_ok.false in
    record {
      number = c.scan_pages.ensures.scan ∙ pages_scanned c.args.image.now e;
      passed = pages_passed c.args.image.now e _ c.scan_pages.ensures.count;
    }
