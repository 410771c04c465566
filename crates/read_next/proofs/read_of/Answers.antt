-- `read_next::read_of`: no node stands at the place, or an aggregate, or a literal.
use Rattle.std.proofs.Common.{sym, ◌∙◌, arith}
use Rattle.read_next.specs.Read.{told_stray, agg_told, lit_told}
use Rattle.read_next.specs.Follow.{node_head}
use Rattle.read_next.proofs.read_of.Goals as goal

pub returns-in_default : goal.returns-in_default
returns-in_default c = sym (told_stray c.args.image.now _ c.requires.0 c.in_default.ensures)

pub bounds-image-pos : goal.bounds-image-pos
bounds-image-pos c = let h = node_head c.in-Some.ensures.node in omega (arith, h.inside)

pub read_agg-requires : goal.read_agg-requires
read_agg-requires c =
    let f = c.in-Some.ensures in
    let h = node_head f.node in
    let t = agg_told _ _ _ f c.if-image-pos-eq1.true in
    (omega (arith, h.inside), h.small, t.inner, c.requires.1, t.origin)

pub returns-then-image-pos-eq1 : goal.returns-then-image-pos-eq1
returns-then-image-pos-eq1 c =
    let t = agg_told _ _ _ c.in-Some.ensures c.if-image-pos-eq1.true in
    c.read_agg.ensures t.inner ∙ t.is

pub read_lit-requires : goal.read_lit-requires
read_lit-requires c =
    let f = c.in-Some.ensures in
    let h = node_head f.node in
    let t = lit_told _ _ _ f c.if-image-pos-eq1.false in
    (omega (arith, h.inside), h.small, t.long, t.origin)

pub returns : goal.returns
returns c =
    let t = lit_told _ _ _ c.in-Some.ensures c.if-image-pos-eq1.false in
    c.read_lit.ensures ∙ t.is
