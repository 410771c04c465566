-- A walk over a record: its start, the records that its proxies stand for, and its end.
use Rattle.std.specs.Prelude.{◌≡◌, refl, cond, ℕ, ◌+◌, ◌*◌, ◌-◌, ◌≤◌, ◌<◌, length, get_or, eqb}
use Rattle.std.proofs.Common.{sym, ap, subst, ◌∙◌, arith}
use mathlib.Core.List.{List, [], ◌∷◌}
use Rattle.model.specs.Limits.{most_levels, most_bytes, page_size}
use Rattle.model.specs.Row.{rec, size, base, height, count}
use Rattle.model.specs.Reading.{kind_at, name_at}
use Rattle.model.specs.Tree.{width}
use Rattle.theory_rows.specs.Bound.{depth}
use Rattle.theory_rows.specs.Keeps.{depth_height}
use Rattle.theory_decoding.specs.Steps.{steps}
use Rattle.theory_layout.specs.Here.{PageIn}
use Rattle.theory_layout.specs.Widths.{Widths}
use Rattle.read_find.specs.Rowed.{Rowed, start_on, end_on, Entered, enter, width_steps}
use Rattle.read_cursor.specs.Way.{Way, way, Fair, kept_fair, visits, visits-++, visits_keeps, visits_stopped}
use Rattle.read_cursor.specs.Meets.{meets, meets_none}
use Rattle.read_cursor.specs.Going.{cursor, no_level, reached, Frame, resume, resume_same, Stacked, stacked_kept, stacked_room, stacked_within, named_in, Goal, Going, AtNode, AtEnd, row_none}
use Rattle.read_cursor.specs.declared.Cursor.{Cursor}
use Rattle.read_cursor.specs.declared.Level.{Level}

-- The record on a page, whose nodes have the level, with records nested at most `depth` deep below it.
pub record Recorded (img : List ℕ) (page level depth : ℕ) : Type 0 where
  pub on : PageIn img page
  pub rowed : Rowed img (start_on img page) (end_on img page) depth
  pub tall : level + height rowed.row ≤ most_levels + 1

-- ── its start ──

module _ {img : List ℕ} {page level depth : ℕ} (w : Recorded img page level depth) (t at next n : ℕ) (stack : List Level) (out : List ℕ) where
  -- n nodes are counted before it.
  abbrev pub goal : Goal
  goal = record {
    depth = depth;
    base = level;
    stop = end_on img page;
    stack = stack;
    room = length out;
    names = λ q. count q w.rowed.row;
    result = (visits t (way at next out) (meets level (start_on img page) w.rowed.row), n + width w.rowed.row);
  }

  pub going_start : Fair (way at next out) → length stack ≡ 25 → n + steps w.rowed.row ≤ most_bytes
      → Going img t goal (cursor (start_on img page) (end_on img page) level n at next) stack out
  unfolding Stacked named_in resume
  going_start fair sized few = record {
    rest = w.rowed;
    tall = w.tall;
    fair = fair;
    few = few;
    sized = sized;
    long = refl;
    frames = [];
    stacked = (refl, refl);
    left = λ q. omega arith;
    whole = refl;
    kept = λ j h. refl;
  }

-- ── where a walk is ──

module _ {img : List ℕ} {t : ℕ} {g : Goal} {c : Cursor} {stack : List Level} {out : List ℕ} (w : Going img t g c stack out) where
  pub within : (c.i ≤ c.end) × (c.end < most_bytes) × (g.base ≤ c.level)
  within =
      let x = w.rest.here in
      let s = stacked_within stack (length out) g.base g.stop c.level c.end w.frames w.stacked in
      (omega (arith, w.rest.ends), omega (arith, w.rest.ends, x.room, x.on.high), s.1)

  pub at_some : (c.i ≡ c.end → ⊥) → c.i < c.end
  at_some z = omega (arith, within.0)

  pub at_inner : c.i ≡ c.end → (c.level ≡ g.base → ⊥) → AtEnd img t g c stack out
  at_inner z h = record { going = w; none = z; inner = omega (arith, within.2) }

  pub at_node : (c.i ≡ c.end → ⊥) → (kind_at img c.i ≡ 3 → ⊥) → AtNode img t g c stack out
  at_node z k = record { going = w; some = at_some z; plain = k }

  -- In no aggregate of the record, and at its end: the walk over it has come to its result.
  pub at_stop : c.level ≡ g.base → c.end ≡ g.stop
  unfolding Stacked
  at_stop e = go w.frames w.stacked
    where
      go : (fs : List (Frame img g.depth)) → Stacked stack (length out) g.base g.stop c.level c.end fs → c.end ≡ g.stop
      go [] s = s.1
      go (f ∷ fs) s = absurd (omega (arith, s.0.up, (stacked_within stack (length out) g.base g.stop f.level f.end fs s.1).1))

  pub at_last : c.i ≡ c.end → c.level ≡ g.base → ◌≡◌ {A = Way × ℕ} (reached c out, c.n) g.result
  unfolding Stacked resume visits
  at_last e k = go w.frames w.stacked w.whole
    where
      z : size w.rest.row ≡ 0
      z = omega (arith, w.rest.ends)

      go : (fs : List (Frame img g.depth)) → Stacked stack (length out) g.base g.stop c.level c.end fs
          → resume t (reached c out) c.level c.i w.rest.row c.n fs ≡ g.result → ◌≡◌ {A = Way × ℕ} (reached c out, c.n) g.result
      go [] s q =
          let none : c.n ≡ c.n + width w.rest.row = omega (arith, row_none w.rest.row z) in
          (λ j. (visits t (reached c out) (sym (meets_none c.level c.i w.rest.row z) j), none j)) ∙ q
      go (f ∷ fs) s q = absurd (omega (arith, s.0.up, (stacked_within stack (length out) g.base g.stop f.level f.end fs s.1).1))

  pub inside : c.i < c.end → (c.i < length img) × (c.i < most_bytes)
  inside h =
      let x = w.rest.here in
      (omega (arith, w.rest.ends, x.room, x.on.inside), omega (arith, w.rest.ends, x.room, x.on.high))

-- ── a proxy ──

-- The goal of what is left, where that names pages so often.
abbrev pub naming : Goal → (names : ℕ → ℕ) → Goal
naming g m = record { depth = g.depth; base = g.base; stop = g.stop; stack = g.stack; room = g.room; names = m; result = g.result }

module _ {img : List ℕ} {t : ℕ} {g : Goal} {c : Cursor} {stack : List Level} {out : List ℕ} (w : Going img t g c stack out) (some : c.i < c.end)
    (kind : kind_at img c.i ≡ 3) (p : ℕ) (named : p ≡ name_at img c.i) where
  abbrev pub entered : Entered img c.i c.end g.depth p w.rest.row
  entered = enter img c.i c.end g.depth p some kind named w.rest

  pub height_is : height w.rest.row ≡ height (rec p entered.settled entered.inside.row entered.after.row)
  height_is = ap height entered.is

  steps_is : steps w.rest.row ≡ steps (rec p entered.settled entered.inside.row entered.after.row)
  steps_is = ap steps entered.is

  pub named_inside : (c.i + 8 ≤ length img) × (page_size * p + page_size ≤ length img)
  named_inside =
      let x = w.rest.here in
      let z = ap size entered.is in
      (omega (arith, x.room, x.on.inside), entered.on.inside)

  pub named_few : c.n + width entered.inside.row ≤ most_bytes
  named_few = omega (arith, steps_is, w.few, width_steps entered.inside.row)

  pub named_level : c.level ≤ most_levels
  named_level = omega (arith, w.tall, depth_height w.rest.row w.rest.here.fits, ap depth entered.is)

  -- Its record,
  abbrev pub nested : Recorded img p c.level (g.depth - 1)
  nested = record { on = entered.on; rowed = entered.inside; tall = omega (arith, height_is, w.tall) }

  abbrev pub inner : Goal
  inner = goal nested t c.at c.next c.n stack out

  pub going_in : Going img t inner (cursor (start_on img p) (end_on img p) c.level c.n c.at c.next) stack out
  going_in = going_start nested t c.at c.next c.n stack out w.fair w.sized (omega (arith, steps_is, w.few))

  -- and what is behind it.
  abbrev pub outer : Goal
  outer = naming g (λ q. count q entered.after.row + named_in q w.frames)

  pub names_both : (q : ℕ) → cond (eqb q p) 1 0 + inner.names q + outer.names q ≤ g.names q
  names_both q = omega (arith, w.left q, ap (count q) entered.is)

  -- Once it is walked, and the count is n.
  module _ (n : ℕ) (wide : n ≡ c.n + width entered.inside.row) (at next : ℕ) (after : List Level) (left : List ℕ)
      (walked : way at next left ≡ visits t (reached c out) (meets c.level (start_on img p) entered.inside.row))
      (below : (j : ℕ) → j < c.level → get_or after j no_level ≡ get_or stack j no_level) (sized : length after ≡ 25) where
    met_both : visits t (reached c out) (meets c.level c.i w.rest.row) ≡ visits t (way at next left) (meets c.level (c.i + 8) entered.after.row)
    unfolding meets
    met_both =
        let a = entered.inside.row in
        let b = entered.after.row in
        (λ j. visits t (reached c out) (meets c.level c.i (entered.is j)))
        ∙ visits-++ t (reached c out) (meets c.level (page_size * p + base a) a) (meets c.level (c.i + 8) b)
        ∙ (λ j. visits t (visits t (reached c out) (meets c.level (sym entered.starts j) a)) (meets c.level (c.i + 8) b))
        ∙ (λ j. visits t (sym walked j) (meets c.level (c.i + 8) b))

    proxy_passed : (m : ℕ → ℕ) → ((q : ℕ) → outer.names q ≤ m q) → Going img t (naming g m) (cursor (c.i + 8) c.end c.level n at next) after left
    proxy_passed m fewer =
        let k = visits_keeps t (reached c out) (meets c.level (start_on img p) entered.inside.row) w.fair in
        let long : length left ≡ length out = ap (λ (v : Way). length v.out) walked ∙ k.long in
        let base-low = stacked_within stack (length out) g.base g.stop c.level c.end w.frames w.stacked in
        record {
          rest = entered.after;
          tall = omega (arith, height_is, w.tall);
          fair = subst Fair (sym walked) (kept_fair k);
          few = omega (arith, steps_is, w.few, width_steps entered.inside.row, wide);
          sized = sized;
          long = long ∙ w.long;
          frames = w.frames;
          stacked = stacked_room after _ _ _ _ _ _ w.frames (sym long) (stacked_kept stack after _ _ _ _ _ w.frames below w.stacked);
          left = fewer;
          whole =
              sym (resume_same t (reached c out) (way at next left) c.level c.level c.i (c.i + 8) w.rest.row entered.after.row c.n n
              w.frames met_both (omega (arith, entered.wide, wide)))
              ∙ w.whole;
          kept = λ j h. below j (omega (arith, base-low)) ∙ w.kept j h;
        }

  -- Once a walk over its record has come to its result,
  pub proxy_walked : {n at next : ℕ} {after : List Level} {left : List ℕ} → ◌≡◌ {A = Way × ℕ} (way at next left, n) inner.result
      → ((j : ℕ) → j < c.level → get_or after j no_level ≡ get_or stack j no_level) → length after ≡ 25
      → Going img t outer (cursor (c.i + 8) c.end c.level n at next) after left
  proxy_walked {n} {at} {next} {after} {left} e below sized =
      proxy_passed n (ap (λ (p : Way × ℕ). p.1) e) at next after left (ap (λ (p : Way × ℕ). p.0) e) below sized outer.names (λ q. omega arith)

  -- or, where the walk has stopped, by the table's number of its nodes.
  pub proxy_stopped : (table : List ℕ) → Widths img table → (c.next ≡ 0 → ⊥)
      → Going img t g (cursor (c.i + 8) c.end c.level (c.n + get_or table p 0) c.at c.next) stack out
  proxy_stopped table told z =
      proxy_passed (c.n + get_or table p 0) (ap (λ (n : ℕ). c.n + n) (entered.told table told)) c.at c.next stack out
      (sym (visits_stopped t (reached c out) (meets c.level (start_on img p) entered.inside.row) (w.fair.begun z) z)) (λ j h. refl) w.sized
      g.names (λ q. omega (arith, names_both q))
