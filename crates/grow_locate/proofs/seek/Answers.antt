use Rattle.std.specs.Prelude.{Option, Some}
use mathlib.Core.Path.{◌≡◌, refl, sym, ap, subst, ◌∙◌}
use mathlib.Core.Bool.{true}
use mathlib.Core.List.{List}
use Prim.Native.Nat.{ℕ, suc, ◌+◌, ◌*◌, ◌-◌, ◌≤◌, ◌<◌}
use native.Mathlib.Omega.{arith}
use Rattle.model.specs.Limits.{most_pages, page_size}
use Rattle.model.specs.Reading.{size_at, name_at}
use Rattle.read_find.specs.Rowed.{Rowed, Entered, short, room}
use Rattle.grow_locate.specs.declared.Located.{Located}
use Rattle.grow_locate.specs.declared.Span.{Span}
use Rattle.grow_locate.specs.Seek.{helper_first, SomeRow, first_long, first_counts, first_shown, helper_first_lem, proxy_first, located_at, seek_span}
use Rattle.grow_locate.specs.Seek.{past_span, inside_span, empty_span, closer_of, closer_deep}
use Rattle.grow_locate.specs.Walk.{Follows, Seeking, seeking, seek_deep, seek_end, seek_past, seek_here, seek_inside}
use Rattle.grow_locate.proofs.seek.Goals as goal
use Rattle.grow_locate.proofs.seek.Goals.{In-loop-span, After-closer-after, Else-not-leads_on}

-- The invariant as it stands along the way.
abbrev Walks : List ℕ → ℕ → Span → ℕ → Span → Span → Type 0
Walks image k from left span after =
    ((t u : Option Located) → Seeking image from (empty_span from) most_pages k t u → Seeking image span after (most_pages - (span.deep - from.deep)) left t u)
    × (from.deep ≤ span.deep) × (span.deep ≤ from.deep + most_pages) × (after.deep ≤ from.deep + most_pages)

-- The row that is left in the loop is not empty, and has room.
abbrev depth : In-loop-span → ℕ
depth c = most_pages - (c.loop-span.span.deep - c.args.from.deep)

seen : (c : In-loop-span) → Rowed c.args.image.now c.loop-span.span.pos c.loop-span.span.end (depth c)
seen c = (c.loop-span.invariant.0 _ _ (seeking c.requires.0)).rest

abbrev some : (c : In-loop-span) → Rowed c.args.image.now c.loop-span.span.pos c.loop-span.span.end (depth c) → SomeRow c.args.image.now c.loop-span.span.pos
some c w = record { end = _; depth = _; rowed = w; some = c.loop-span-test.true }

pub loop-span-init : goal.loop-span-init
loop-span-init c = (λ t u s. seek_deep (omega arith) s, omega arith, omega arith, omega arith)

pub past_first-next-requires : goal.past_first-next-requires
past_first-next-requires c = omega (arith, room _ _ _ _ (seen (goal.at.past_first-next-requires c).In-loop-span), c.loop-span-test.true)

pub nodes_shown-n-requires : goal.nodes_shown-n-requires
nodes_shown-n-requires c = let i = (goal.at.nodes_shown-n-requires c).In-loop-span in first_counts (some i (seen i)) _ c.requires.1

pub loop-span-smaller-then-n-to_pass : goal.loop-span-smaller-then-n-to_pass
loop-span-smaller-then-n-to_pass c =
    let i = (goal.at.loop-span-smaller-then-n-to_pass c).In-loop-span in
    let e = c.past_first-next.ensures in
    let p = ap (λ (r : Span). r.pos) e in
    let q = ap (λ (r : Span). r.end) e in
    let d = ap (λ (r : Span). r.deep) e in
    omega (arith, first_long (some i (seen i)), c.loop-span-test.true)

pub loop-span-preserved-then-n-to_pass : goal.loop-span-preserved-then-n-to_pass
loop-span-preserved-then-n-to_pass c =
    let i = (goal.at.loop-span-preserved-then-n-to_pass c).In-loop-span in
    let a = c.args in
    let left = c.loop-span.to_pass - c.nodes_shown-n.result in
    let P : Span → Type 0 = λ r. Walks a.image.now a.k a.from left r c.loop-span.after in
    subst P (sym c.past_first-next.ensures) (
      λ t u s.
          let w = c.loop-span.invariant.0 t u s in
          seek_past w c.loop-span-test.true (c.nodes_shown-n.ensures.0 ∙ first_shown (some i w.rest) _ c.requires.1) c.if-n-to_pass.true,
      c.loop-span.invariant.1,
      c.loop-span.invariant.2,
      c.loop-span.invariant.3,
    )

-- What follows the first node, or what follows all of them.
closes : (c : After-closer-after)
    → c.closer-after.result ≡ closer_of (past_span c.loop-span.span (size_at c.args.image.now c.loop-span.span.pos)) c.loop-span.after
closes c = c.closer-after.ensures ∙ ap (λ (r : Span). closer_of r c.loop-span.after) c.past_first-next.ensures

closes_deep : (c : After-closer-after) → c.closer-after.result.deep ≤ c.args.from.deep + most_pages
closes_deep c =
    let n = c.args.from.deep + most_pages in
    let next = past_span c.loop-span.span (size_at c.args.image.now c.loop-span.span.pos) in
    subst (λ (r : Span). r.deep ≤ n) (sym (closes c)) (closer_deep next c.loop-span.after n c.loop-span.invariant.2 c.loop-span.invariant.3)

pub leads_on-requires : goal.leads_on-requires
leads_on-requires c = let i = (goal.at.leads_on-requires c).In-loop-span in some i (seen i)

pub returns-then-not-leads_on : goal.returns-then-not-leads_on
returns-then-not-leads_on c =
    let i = (goal.at.returns-then-not-leads_on c).In-loop-span in
    let z = (goal.at.returns-then-not-leads_on c).After-closer-after in
    λ w.
    let s = c.loop-span.invariant.0 _ _ (seeking w) in
    let o = some i s.rest in
    let h = seek_here s c.loop-span-test.true (c.nodes_shown-n.ensures.0 ∙ first_shown o _ c.requires.1) (omega arith) c.if-n-to_pass.false
    (sym (c.leads_on.ensures o) ∙ c.if-not-leads_on.true) in
    let span = c.loop-span.span in
    let a = c.args in (
      ap Some (c.first_node.ensures ∙ ap (λ (r : Span). located_at span.pos r.pos span.par span.deep) c.past_first-next.ensures) ∙ h.0,
      subst (λ (r : Span). Follows a.image.now r (seek_span a.from w.row (suc a.k))) (sym (closes z)) h.1,
      closes_deep z,
    )

-- What leads on is the proxy of a record whose helper shows the node.
leads : (c : Else-not-leads_on) (w : Rowed c.args.image.now c.loop-span.span.pos c.loop-span.span.end (depth (goal.at.Else-not-leads_on c).In-loop-span))
    → helper_first w.row ≡ true
leads c w = sym (c.leads_on.ensures (some (goal.at.Else-not-leads_on c).In-loop-span w)) ∙ c.if-not-leads_on.false

under : (c : Else-not-leads_on) → let i = (goal.at.Else-not-leads_on c).In-loop-span in let img = c.args.image.now in
    Entered img c.loop-span.span.pos c.loop-span.span.end (depth i) (name_at img c.loop-span.span.pos) (seen i).row
under c =
    let i = (goal.at.Else-not-leads_on c).In-loop-span in
    let w = seen i in
    proxy_first (some i w) (helper_first_lem (some i w) (leads c w)) refl

pub enter_first-span-requires : goal.enter_first-span-requires
enter_first-span-requires c =
    let t = goal.at.enter_first-span-requires c in
    (omega (arith, room _ _ _ _ (seen t.In-loop-span), c.loop-span-test.true), (under t.Else-not-leads_on).on, omega (arith, c.loop-span.invariant.2, c.requires.2))

one_deeper : (d n : ℕ) → d ≤ n → 1 ≤ most_pages - (n - d) → most_pages - (n + 1 - d) + 1 ≡ most_pages - (n - d)
one_deeper d n h k = omega arith

fewer : (x y g h : ℕ) → y + 1 ≡ x → g < page_size → page_size * y + g < page_size * x + h
fewer x y g h e k = omega arith

pub loop-span-smaller : goal.loop-span-smaller
loop-span-smaller c =
    let a = under (goal.at.loop-span-smaller c).Else-not-leads_on in
    let span = c.loop-span.span in
    let d = c.args.from.deep in
    subst (λ (r : Span). page_size * (most_pages - (r.deep - d)) + (r.end - r.pos) < page_size * (most_pages - (span.deep - d)) + (span.end - span.pos))
    (sym c.enter_first-span.ensures) (fewer _ _ _ _ (one_deeper d span.deep c.loop-span.invariant.1 a.below) (short _ _ _ _ a.inside))

pub loop-span-preserved : goal.loop-span-preserved
loop-span-preserved c =
    let i = (goal.at.loop-span-preserved c).In-loop-span in
    let x = (goal.at.loop-span-preserved c).Else-not-leads_on in
    let y = (goal.at.loop-span-preserved c).After-closer-after in
    let a = c.args in
    let img = a.image.now in
    let I : Span → Span → Type 0 = λ span after. Walks img a.k a.from c.loop-span.to_pass span after in
    let z = closes y in
    let deep : depth i - 1 ≡ most_pages - (c.loop-span.span.deep + 1 - a.from.deep) = omega (arith, (under x).below, c.loop-span.invariant.1) in
    subst (λ (r : Span). I r c.closer-after.result) (sym c.enter_first-span.ensures) (
      λ t u s.
          let w = c.loop-span.invariant.0 t u s in
          let o = some i w.rest in
          seek_deep deep
          (subst (λ (r : Span). Seeking img (inside_span img c.loop-span.span) r (depth i - 1) c.loop-span.to_pass t u) (sym z)
          (seek_inside w c.loop-span-test.true (c.nodes_shown-n.ensures.0 ∙ first_shown o _ c.requires.1) (omega arith) c.if-n-to_pass.false (leads x w.rest))),
      omega (arith, c.loop-span.invariant.1),
      omega (arith, c.loop-span.invariant.1, (under x).below),
      closes_deep y,
    )

pub returns : goal.returns
returns c =
    λ w.
    let e = seek_end (c.loop-span.invariant.0 _ _ (seeking w)) c.loop-span-test.false in
    (e.0, e.1, c.loop-span.invariant.3)
