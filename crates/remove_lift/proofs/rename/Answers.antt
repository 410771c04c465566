-- `remove_lift::rename`: the record's bytes, where its proxy stands, and the two bytes of its name.
use mathlib.Core.Path.{ap, ◌∙◌}
use Prim.Native.Nat.{ℕ, ◌+◌, ◌*◌}
use native.Mathlib.Omega.{arith}
use Rattle.model.specs.Limits.{page_size}
use Rattle.model.specs.Row.{two}
use Rattle.base_numbers.specs.Over.{over}
use Rattle.remove_lift.specs.Rename.{used, names_once, proxy_within}
use Rattle.remove_lift.proofs.rename.Goals as goal

pub slice_bounds-proxy_in-end : goal.slice_bounds-proxy_in-end
slice_bounds-proxy_in-end c =
    let w = c.requires.0 in
    omega (arith, used w, c.used_at.ensures.0, w.small, w.on.inside)

pub proxy_in-at-requires : goal.proxy_in-at-requires
proxy_in-at-requires c = let w = c.requires.0 in names_once w _ c.used_at.ensures.0

pub overflow_add-at : goal.overflow_add-at
overflow_add-at c = omega (arith, (c.proxy_in-at.ensures (names_once c.requires.0 _ c.used_at.ensures.0)), proxy_within c.requires.0)

pub overflow_add-a : goal.overflow_add-a
overflow_add-a c =
    omega (arith, (c.proxy_in-at.ensures (names_once c.requires.0 _ c.used_at.ensures.0)), proxy_within c.requires.0, c.requires.0.on.high)

pub put16-requires : goal.put16-requires
put16-requires c =
    let w = c.requires.0 in
    (omega (arith, (c.proxy_in-at.ensures (names_once w _ c.used_at.ensures.0)), proxy_within w, w.on.inside), omega (arith, c.requires.1, w.names c.args.page (omega (arith, w.once))))

pub returns : goal.returns
returns c =
    λ w. c.put16.ensures
    ∙ ap (λ (n : ℕ). over (page_size * c.args.holder + (n + 6)) (two c.args.child) c.args.image.now) ((c.proxy_in-at.ensures (names_once w _ c.used_at.ensures.0)))
