use mathlib.Core.Path.{refl, sym, ◌∙◌}
use native.Mathlib.Omega.{arith}
use Rattle.theory_check.specs.Steps.{entered}
use Rattle.read_walker.specs.Turns.{reach_short, reach_none, reach_some, marked_is}
use Rattle.read_walker.proofs.reach.Goals as goal

pub returns-then-proxy-ne8 : goal.returns-then-proxy-ne8
returns-then-proxy-ne8 c = record {
  page = reach_short _ _ _ _ _ c.if-proxy-ne8.true;
  marks = refl;
}

pub returns-then-not-enters : goal.returns-then-not-enters
returns-then-not-enters c = record {
  page = reach_none _ _ _ _ _ _ c.name_at-p.ensures.0 (sym c.enters.ensures ∙ c.if-not-enters.true);
  marks = refl;
}

pub set_mark-requires : goal.set_mark-requires
set_mark-requires c = omega (arith, (entered _ _ _ _ (sym c.enters.ensures ∙ c.if-not-enters.false)).names.low)

pub returns : goal.returns
returns c =
    let e = (sym c.enters.ensures ∙ c.if-not-enters.false) in record {
      page = reach_some _ _ _ _ _ _ c.name_at-p.ensures.0 c.if-proxy-ne8.false e;
      marks = c.set_mark.ensures ∙ sym (marked_is _ _ (λ z. omega (arith, (entered _ _ _ _ e).names.past)));
    }
