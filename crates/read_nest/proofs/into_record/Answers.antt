-- `read_nest::into_record`: by the case.
use Rattle.std.proofs.Common.{refl, sym, ap, ℕ, ◌+◌, eq-eqb, ne_eqb}
use Rattle.read_nest.specs.Nest.{nest}
use Rattle.read_nest.proofs.into_record.Goals as goal

pub returns-then-level-w : goal.returns-then-level-w
returns-then-level-w c =
    let w = c.args.w in
    let e = c.if-level-w.true in
    rw (eq-eqb _ _ e) (record { nest = ap (λ (b : ℕ). nest b (w.depth + 1) w.since) (sym e); back = refl; held = refl })

pub returns : goal.returns
returns c = rw (ne_eqb _ _ c.if-level-w.false) (record { nest = refl; back = refl; held = refl })
