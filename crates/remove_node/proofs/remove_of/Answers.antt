-- `remove_node::remove_of`: each test in its order, and the node taken out.
use native.Mathlib.Omega.{arith}
use Rattle.theory_calls.specs.Open.{passing}
use Rattle.remove_node.specs.Answer.{refused_long, refused_empty, refused_absent, going, accepted}
use Rattle.remove_node.proofs.remove_of.Goals as goal

pub returns-then-path-gt-PATH : goal.returns-then-path-gt-PATH
returns-then-path-gt-PATH c =
    let (t, r) = passing c.args.image.now c.requires.0 in
    let a = refused_long r c.requires.1 c.requires.2 _ c.if-path-gt-PATH.true in
    record { number = a.number; image = a.image; table = a.table; map = a.map }

pub returns-then-path-eq0 : goal.returns-then-path-eq0
returns-then-path-eq0 c =
    let (t, r) = passing c.args.image.now c.requires.0 in
    let a = refused_empty r c.requires.1 c.requires.2 _ c.if-path-gt-PATH.false c.if-path-eq0.true in
    record { number = a.number; image = a.image; table = a.table; map = a.map }

pub locate-requires : goal.locate-requires
locate-requires c =
    (c.requires.0, (c.requires.1, (omega (arith, c.if-path-eq0.false), c.if-path-gt-PATH.false)))

pub returns-in_default : goal.returns-in_default
returns-in_default c =
    let (t, r) = passing c.args.image.now c.requires.0 in
    let a = refused_absent r c.requires.1 c.requires.2 _ c.if-path-gt-PATH.false c.if-path-eq0.false (c.in_default.ensures t.0 t.1 r) in
    record { number = a.number; image = a.image; table = a.table; map = a.map }

pub remove_at-requires : goal.remove_at-requires
remove_at-requires c =
    let (t, r) = passing c.args.image.now c.requires.0 in
    going r c.requires.1 c.requires.2 _ c.if-path-gt-PATH.false c.if-path-eq0.false _ (c.in-Some.ensures t.0 t.1 r)

pub returns : goal.returns
returns c =
    let (t, r) = passing c.args.image.now c.requires.0 in
    let located = c.in-Some.ensures t.0 t.1 r in
    let short = c.if-path-gt-PATH.false in
    let some_bytes = c.if-path-eq0.false in
    let a = accepted r c.requires.1 c.requires.2 _ short some_bytes _ located _ _ _
    (c.remove_at.ensures (going r c.requires.1 c.requires.2 _ short some_bytes _ located)) in
    record { number = a.number; image = a.image; table = a.table; map = a.map }
