use Rattle.std.proofs.Common.{◌<◌, length, arith, ap, sym, ◌∙◌}
use Rattle.std.specs.Prelude.{Ok}
use Rattle.model.specs.Answers.{find_result}
use Rattle.model.specs.declared.Place.{Place}
use Rattle.std.specs.Slice.Iter.{chunks_exact_rest}
use Rattle.read_find.specs.Find.{Finds, Down, goal as sought, starting, too_long, not_whole, nowhere, there, place_room, ends_here, down, some_bytes, first_entry, behind, ended}
use Rattle.read_find.proofs.find_in.Goals as goal
use Rattle.read_find.proofs.find_in.Goals.{In-Some, After-size_at}

-- The entries that are left lead on from the node at pos.
left : (c : In-Some) → Finds c.args.image.now (chunks_exact_rest c.loop-entry.entry-iterator) c.loop-entry.pos 0 (sought c.args.image.now c.args.path.now c.requires.0)
left c = c.loop-entry.invariant.0 _ (starting _ _ c.requires.0 c.if-path-ne0.false)

-- There is one more.
one : (c : In-Some) → 0 < length (chunks_exact_rest c.loop-entry.entry-iterator)
one c = let s = c.in-Some.ensures.steps.1 in some_bytes c.args.image.now _ _ _ s.0 (s.1 ∙ c.loop-entry.invariant.1)

-- What the node there holds, and where the entry leads from it.
below : (c : After-size_at) → Down c.args.image.now (chunks_exact_rest c.loop-entry.entry-iterator) c.loop-entry.pos 0 c.size_at.result c.four-k.result
    (sought c.args.image.now c.args.path.now c.requires.0)
below c =
    let i = (goal.at.After-size_at c).In-Some in
    let s = c.in-Some.ensures.steps.1 in
    down _ _ _ _ _ (left i) (one i) _ _ c.if-image-pos-ne1.false c.size_at.ensures.0
    (c.four-k.ensures ∙ first_entry c.args.image.now _ _ _ s.0 (s.1 ∙ c.loop-entry.invariant.1))

pub returns-then-path-gt-PATH : goal.returns-then-path-gt-PATH
returns-then-path-gt-PATH c = too_long _ _ c.requires.0 c.if-path-gt-PATH.true

pub returns-then-path-ne0 : goal.returns-then-path-ne0
returns-then-path-ne0 c = not_whole _ _ c.requires.0 c.if-path-gt-PATH.false c.if-path-ne0.true

pub bounds-image-pos : goal.bounds-image-pos
bounds-image-pos c = omega (arith, place_room _ _ _ _ _ (left (goal.at.bounds-image-pos c).In-Some))

pub returns-then-image-pos-ne1 : goal.returns-then-image-pos-ne1
returns-then-image-pos-ne1 c =
    let i = (goal.at.returns-then-image-pos-ne1 c).In-Some in
    nowhere _ _ c.requires.0 c.if-path-gt-PATH.false
    (ends_here _ _ _ _ _ (left i) (one i) c.if-image-pos-ne1.true)

pub size_at-requires : goal.size_at-requires
size_at-requires c = omega (arith, place_room _ _ _ _ _ (left (goal.at.size_at-requires c).In-Some))

pub overflow_add-end : goal.overflow_add-end
overflow_add-end c = omega (arith, place_room _ _ _ _ _ (left (goal.at.overflow_add-end c).In-Some), c.size_at.ensures.1)

pub nth-requires : goal.nth-requires
nth-requires c = ((below (goal.at.nth-requires c).After-size_at).kids, c.requires.1)

pub returns-in_default : goal.returns-in_default
returns-in_default c =
    let d = below (goal.at.returns-in_default c).After-size_at in
    nowhere _ _ c.requires.0 c.if-path-gt-PATH.false (d.missing _ (sym c.in_default.is ∙ c.nth.ensures d.kids))

pub loop-entry-preserved : goal.loop-entry-preserved
loop-entry-preserved c = (
  λ t s.
      let w = c.loop-entry.invariant.0 t s in
      let i = c.in-Some.ensures.steps.1 in
      let long = i.1 ∙ c.loop-entry.invariant.1 in
      let d = down _ _ _ _ _ w (some_bytes c.args.image.now _ _ _ i.0 long) _ _ c.if-image-pos-ne1.false c.size_at.ensures.0
      (c.four-k.ensures ∙ first_entry c.args.image.now _ _ _ i.0 long) in
      behind _ _ _ _ i.0 long _ _ (d.found _ (c.in-Ok.ensures d.kids)),
  c.in-Some.ensures.steps.0 ∙ c.loop-entry.invariant.1,
)

pub returns : goal.returns
returns c =
    let w = c.loop-entry.invariant in
    ap (λ (x : Place). find_result (Ok x)) c.of_byte.ensures ∙ there _ _ c.requires.0 c.if-path-gt-PATH.false _
    (ended _ _ _ _ (w.0 _ (starting _ _ c.requires.0 c.if-path-ne0.false)) (omega (arith, c.in-None.ensures.steps.1.0, w.1)))
