-- `grow_replace_proxy::lift`: the record's bytes, where its proxy stands, and the node that holds it.
use native.Mathlib.Omega.{arith}
use Rattle.grow_replace_proxy.specs.Lift.{used, part, sep_most, long, names_once, filled, place}
use Rattle.grow_replace_proxy.proofs.lift.Goals as goal

pub slice_bounds-rec-end : goal.slice_bounds-rec-end
slice_bounds-rec-end c =
    let w = c.requires.0 in
    omega (arith, used _ _ _ _ w, c.used_at.ensures.0, w.small, w.on.inside)

pub proxy_in-at-requires : goal.proxy_in-at-requires
proxy_in-at-requires c =
    let w = c.requires.0 in names_once _ _ _ _ w _ (part _ _ _ _ w _ c.used_at.ensures.0)

pub enclosing-par-requires : goal.enclosing-par-requires
enclosing-par-requires c =
    let w = c.requires.0 in
    filled _ _ _ _ w _ (part _ _ _ _ w _ c.used_at.ensures.0) _ ((c.proxy_in-at.ensures (names_once _ _ _ _ w _ (part _ _ _ _ w _ c.used_at.ensures.0))))

pub splice-requires : goal.splice-requires
splice-requires c =
    let w = c.requires.0 in
    let e = part _ _ _ _ w _ c.used_at.ensures.0 in
    let n = long _ _ _ _ w _ e in
    let z = sep_most _ _ _ _ w in
    let p = place _ _ _ _ w _ e _ _ ((c.proxy_in-at.ensures (names_once _ _ _ _ w _ (part _ _ _ _ w _ c.used_at.ensures.0)))) ((c.enclosing-par.ensures (filled _ _ _ _ w _ (part _ _ _ _ w _ c.used_at.ensures.0) _ ((c.proxy_in-at.ensures (names_once _ _ _ _ w _ (part _ _ _ _ w _ c.used_at.ensures.0))))))) in
    (p, (omega (arith, n, z, w.small, c.requires.1), omega (arith, n, z, w.small)))

pub returns : goal.returns
returns c = λ w.
    let e = part _ _ _ _ w _ c.used_at.ensures.0 in
    c.splice.ensures (place _ _ _ _ w _ e _ _ ((c.proxy_in-at.ensures (names_once _ _ _ _ w _ (part _ _ _ _ w _ c.used_at.ensures.0)))) ((c.enclosing-par.ensures (filled _ _ _ _ w _ (part _ _ _ _ w _ c.used_at.ensures.0) _ ((c.proxy_in-at.ensures (names_once _ _ _ _ w _ (part _ _ _ _ w _ c.used_at.ensures.0))))))))
