-- A walk from record to record: the records that it is in, the way out of them, and what it comes to.
use Rattle.std.specs.Prelude.{◌≡◌, Bool, true, false, ℕ, zero, suc, ◌+◌, ◌*◌, ◌-◌, ◌/◌, ◌≤◌, ◌<◌, set, replicate}
use Rattle.std.proofs.Math.Path.{refl, ap}
use Rattle.std.proofs.Common.{sym, subst, ◌∙◌, arith, get_or-set_same, eqb-true, eq-eqb, ne_eqb}
use Rattle.std.proofs.Math.Bool.{cond}
use mathlib.Core.List.{List, [], ◌∷◌}
use Rattle.std.proofs.Math.ListN.{length, get_or, length-set, length-replicate}
use Rattle.std.proofs.Math.Seq.{get_or-set_other}
use Rattle.std.proofs.Math.Dec.{eqb}
use Rattle.std.proofs.lemmas.Bool.{eqb-false}
use Rattle.model.specs.Limits.{most_pages, page_size, capacity}
use Rattle.model.specs.Row.{count}
use Rattle.model.specs.Reading.{kind_at, name_at}
use Rattle.theory_layout.specs.Here.{PageIn}
use Rattle.base_ranges.specs.Tables.{Zeros}
use Rattle.read_find.specs.Rowed.{start_on, end_on}
use Rattle.read_cursor.specs.Way.{Way}
use Rattle.read_cursor.specs.Going.{cursor, no_level, reached, Goal, Going}
use Rattle.read_cursor.specs.declared.Cursor.{Cursor}
use Rattle.read_cursor.specs.declared.Level.{Level}
use Rattle.read_entries.specs.Nested.{Recorded, goal, going_start, naming, within, at_stop, at_last, entered, nested, named_level, inner as inner_goal, outer as outer_goal, going_in, names_both, proxy_walked}
use Rattle.read_nest.specs.declared.Nest.{Nest}
use Rattle.read_nest.specs.declared.Held.{Held}
use Rattle.read_nest.specs.Nest.{nest, held_of, no_held, inner, kept, held_in, way_out, behind_of, outer, Leaving}

-- ── the records that a walk is in ──

-- The record on page 1; no page is named twice below it.
pub record Rooted (img : List ℕ) : Type 0 where
  pub recorded : Recorded img 1 1 most_pages
  pub once : (q : ℕ) → count q recorded.rowed.row ≤ 1

-- A record that holds the proxy of another one that the walk is in: the walk over it as it was at the proxy, and in what it was.
pub record Holder (img : List ℕ) (t : ℕ) : Type 0 where
  pub g : Goal
  pub c : Cursor
  pub stack : List Level
  pub out : List ℕ
  pub going : Going img t g c stack out
  pub some : c.i < c.end
  pub kind : kind_at img c.i ≡ 3
  pub page : ℕ
  pub is_named : page ≡ name_at img c.i
  pub since : ℕ

module _ {img : List ℕ} {t : ℕ} (h : Holder img t) where
  -- What the walk over the other record comes to, and what is left behind the proxy.
  abbrev pub inside : Goal
  inside = inner_goal h.going h.some h.kind h.page h.is_named

  abbrev pub rest : Goal
  rest = outer_goal h.going h.some h.kind h.page h.is_named

-- The page of the innermost record.
abbrev pub page_in : {img : List ℕ} {t : ℕ} → List (Holder img t) → ℕ
page_in [] = 1
page_in (h ∷ hs) = h.page

-- How often a page is named behind the proxies.
unfoldable pub spared : {img : List ℕ} {t : ℕ} (q : ℕ) → List (Holder img t) → ℕ
spared q [] = 0
spared q (h ∷ hs) = (rest h).names q + spared q hs

-- The outermost record.
pub record Top (img : List ℕ) (final : Way × ℕ) (room : ℕ) (g : Goal) : Type 0 where
  pub on : PageIn img 1
  pub ends : end_on img 1 ≤ page_size * 1 + capacity
  pub stop_is : g.stop ≡ end_on img 1
  pub room_is : g.room ≡ room
  pub final_is : g.result ≡ final

-- A record whose holder is inside `depth` nested records, as the tables have it.
pub record Link {img : List ℕ} {t : ℕ} (back : List ℕ) (held : List Held) (since : ℕ) (g : Goal) (h : Holder img t) (depth : ℕ) : Type 0 where
  pub goal_is : g ≡ naming (inside h) g.names
  pub back_is : get_or back h.page 0 ≡ h.c.i + 8
  pub low : h.since ≤ depth
  pub own : depth + 1 ≡ since → get_or held h.c.level no_held ≡ held_of h.c.end h.g.base h.since
  pub same : (depth + 1 ≡ since → ⊥) → (h.c.level ≡ h.g.base) × (since ≡ h.since)

unfoldable pub Chain : {img : List ℕ} {t : ℕ} (final : Way × ℕ) (room : ℕ) (back : List ℕ) (held : List Held) (since : ℕ) → Goal → List (Holder img t) → Type 0
Chain {img} final room back held since g [] = Top img final room g
Chain final room back held since g (h ∷ hs) = Link back held since g h (length hs) × Chain final room back held h.since h.g hs

-- How often its names are counted does not matter.
chain_naming : {img : List ℕ} {t : ℕ} (final : Way × ℕ) (room : ℕ) (back : List ℕ) (held : List Held) (since : ℕ) (g : Goal) (m : ℕ → ℕ) (hs : List (Holder img t))
    → Chain final room back held since g hs → Chain final room back held since (naming g m) hs
unfolding Chain
chain_naming final room back held since g m [] x =
    record { on = x.on; ends = x.ends; stop_is = x.stop_is; room_is = x.room_is; final_is = x.final_is }
chain_naming final room back held since g m (h ∷ hs) x =
    let a = x.0 in
    (record { goal_is = ap (λ (v : Goal). naming v m) a.goal_is; back_is = a.back_is; low = a.low; own = a.own; same = a.same }, x.1)

-- The numbers of the tables are those of the records that the walk is in, and of their levels.
chain_as : {img : List ℕ} {t : ℕ} (final : Way × ℕ) (room : ℕ) (back back₁ : List ℕ) (held held₁ : List Held)
    → ((q : ℕ) → (get_or back q 0 ≡ 0 → ⊥) → get_or back₁ q 0 ≡ get_or back q 0) → (since : ℕ) (g : Goal) (hs : List (Holder img t))
    → ((j : ℕ) → j ≤ g.base → get_or held₁ j no_held ≡ get_or held j no_held) → Chain final room back held since g hs → Chain final room back₁ held₁ since g hs
unfolding Chain
chain_as final room back back₁ held held₁ k since g [] l x = x
chain_as final room back back₁ held held₁ k since g (h ∷ hs) l x =
    let a = x.0 in
    let level : g.base ≡ h.c.level = ap (λ (v : Goal). v.base) a.goal_is in
    let up = (within h.going).2 in (
      record {
        goal_is = a.goal_is;
        back_is = k h.page (λ z. omega (arith, a.back_is)) ∙ a.back_is;
        low = a.low;
        own = λ e. l _ (omega arith) ∙ a.own e;
        same = a.same;
      },
      chain_as final room back back₁ held held₁ k h.since h.g hs (λ j i. l j (omega arith)) x.1,
    )

-- The innermost record is on its page.
record Paged (img : List ℕ) (page stop : ℕ) : Type 0 where
  on : PageIn img page
  ends : end_on img page ≤ page_size * page + capacity
  stop_is : stop ≡ end_on img page

pub recorded_ends : {img : List ℕ} {page level depth : ℕ} → Recorded img page level depth → end_on img page ≤ page_size * page + capacity
recorded_ends {img} {page} w =
    let h = w.rowed.here in
    omega (arith, six (eqb (kind_at img (page_size * page)) 4), w.rowed.ends, h.start, h.room)
  where
    six : (b : Bool) → cond b 6 0 ≤ 6
    six true = omega arith
    six false = omega arith

chain_page : {img : List ℕ} {t : ℕ} (final : Way × ℕ) (room : ℕ) (back : List ℕ) (held : List Held) (since : ℕ) (g : Goal) (hs : List (Holder img t))
    → Chain final room back held since g hs → Paged img (page_in hs) g.stop
unfolding Chain
chain_page final room back held since g [] x = record { on = x.on; ends = x.ends; stop_is = x.stop_is }
chain_page final room back held since g (h ∷ hs) x =
    let r = nested h.going h.some h.kind h.page h.is_named in
    record { on = r.on; ends = recorded_ends r; stop_is = ap (λ (v : Goal). v.stop) x.0.goal_is }

-- ── the walk ──

-- What is left of the record at hand, then of each holder behind its proxy, comes to the final result. No page is named twice in what is left, nor one that
-- was entered: those have a number in `back`.
pub record Walking (img : List ℕ) (t : ℕ) (final : Way × ℕ) (room : ℕ) (back : List ℕ) (held : List Held) (w : Nest) (c : Cursor) (stack : List Level) (out : List ℕ) : Type 0 where
  pub g : Goal
  pub going : Going img t g c stack out
  pub base_is : g.base ≡ w.base
  pub holders : List (Holder img t)
  pub depth_is : length holders ≡ w.depth
  pub chain : Chain final room back held w.since g holders
  pub low : w.since ≤ w.depth
  pub deep : w.depth + g.depth ≤ most_pages
  pub once : (q : ℕ) → cond (eqb (get_or back q 0) 0) 0 1 + g.names q + spared q holders ≤ 1
  pub back_long : length img ≤ page_size * length back
  pub held_long : length held ≡ 25

-- How many pages were not entered yet.
unfoldable pub fresh : (back : List ℕ) → ℕ
fresh [] = 0
fresh (x ∷ xs) = cond (eqb x 0) 1 0 + fresh xs

fresh_set : (back : List ℕ) (p v : ℕ) → p < length back → get_or back p 0 ≡ 0 → 1 ≤ v → fresh (set back p v) + 1 ≡ fresh back
unfolding fresh
fresh_set [] p v h e k = absurd (omega arith)
fresh_set (x ∷ xs) zero v h e k = rw (eq-eqb x 0 e, ne_eqb v 0 (λ z. omega arith)) (omega arith)
fresh_set (x ∷ xs) (suc p) v h e k = omega (arith, fresh_set xs p v (omega arith) e k)

mark_low : (b : Bool) → cond b 0 1 ≤ 1
mark_low true = omega arith
mark_low false = omega arith

-- What falls from turn to turn: pages that were not entered yet, records that the walk is in, and what is left of the record at hand.
abbrev pub turns : (back : List ℕ) → Nest → Cursor → ℕ
turns back w c = 16777344 * fresh back + 8388672 * w.depth + (2 * (4194304 - c.i) + (c.level - w.base))

-- Out of an aggregate: from byte i₀ and level l₀ the walk was at i, l, and is at j, k.
pub closed_less : (x base g₀ g i₀ l₀ i l end j k : ℕ) → g₀ ≡ base → g ≡ base → i₀ ≤ i → l + i₀ ≤ l₀ + i → g₀ ≤ l₀ → i ≤ end → end < 4194304 → j ≡ i → k ≡ l - 1 → g < l
    → x + (2 * (4194304 - j) + (k - base)) < x + (2 * (4194304 - i₀) + (l₀ - base))
closed_less x base g₀ g i₀ l₀ i l end j k e₀ e a b c d h p q f = omega arith

pub walking_as : {img : List ℕ} {t : ℕ} {final : Way × ℕ} {room : ℕ} {back back₁ : List ℕ} {held held₁ : List Held} {v w : Nest} {c d : Cursor} {stack : List Level} {out : List ℕ}
    → back₁ ≡ back → held₁ ≡ held → v ≡ w → d ≡ c → Walking img t final room back held w c stack out → Walking img t final room back₁ held₁ v d stack out
walking_as {img} {t} {final} {room} {stack = stack} {out} p q e f x =
    coe 1 0 (j. Walking img t final room (p j) (q j) (e j) (f j) stack out) x

-- The start: no page was entered.
module _ {img : List ℕ} (r : Rooted img) (t : ℕ) (out : List ℕ) where
  abbrev pub start : Goal
  start = goal r.recorded t 0 0 0 (replicate 25 no_level) out

  pub walking_start : (back : List ℕ) → Zeros back → length img ≤ page_size * length back
      → Walking img t start.result (length out) back (replicate 25 no_held) (nest 1 0 0)
      (cursor (start_on img 1) (end_on img 1) 1 0 0 0) (replicate 25 no_level) out
  unfolding Chain spared
  walking_start back none long = record {
    g = start;
    going =
        going_start r.recorded t 0 0 0 (replicate 25 no_level) out (record { low = omega arith; begun = λ z. absurd (z refl) }) (length-replicate 25 no_level)
        (omega (arith, r.recorded.rowed.few));
    base_is = refl;
    holders = [];
    depth_is = refl;
    chain = record { on = r.recorded.on; ends = recorded_ends r.recorded; stop_is = refl; room_is = refl; final_is = refl };
    low = omega arith;
    deep = omega arith;
    once = λ q. rw (none q) (omega (arith, r.once q));
    back_long = long;
    held_long = length-replicate 25 no_held;
  }

module _ {img : List ℕ} {t : ℕ} {final : Way × ℕ} {room : ℕ} {back : List ℕ} {held : List Held} {w : Nest} {c : Cursor} {stack : List Level} {out : List ℕ}
    (x : Walking img t final room back held w c stack out) where
  -- On in the same record.
  pub walking_on : {d : Cursor} {after : List Level} {left : List ℕ} → Going img t x.g d after left → Walking img t final room back held w d after left
  walking_on y = record {
    g = x.g;
    going = y;
    base_is = x.base_is;
    holders = x.holders;
    depth_is = x.depth_is;
    chain = x.chain;
    low = x.low;
    deep = x.deep;
    once = x.once;
    back_long = x.back_long;
    held_long = x.held_long;
  }

  -- Into the record of a proxy.
  module _ (some : c.i < c.end) (kind : kind_at img c.i ≡ 3) (p : ℕ) (named : p ≡ name_at img c.i) where
    abbrev holder : Holder img t
    holder = record {
      g = x.g;
      c = c;
      stack = stack;
      out = out;
      going = x.going;
      some = some;
      kind = kind;
      page = p;
      is_named = named;
      since = w.since;
    }

    own_name : 1 + (inside holder).names p + (rest holder).names p ≤ x.g.names p
    own_name = rw (eq-eqb p p refl) at (names_both x.going some kind p named p)

    pub entered_fresh : get_or back p 0 ≡ 0
    entered_fresh = go (eqb (get_or back p 0) 0) refl (x.once p)
      where
        go : (b : Bool) → eqb (get_or back p 0) 0 ≡ b → cond b 0 1 + x.g.names p + spared p x.holders ≤ 1 → get_or back p 0 ≡ 0
        go true e k = eqb-true (get_or back p 0) 0 e
        go false e k = absurd (omega (arith, own_name))

    pub entered_less : fresh (set back p (c.i + 8)) + 1 ≡ fresh back
    entered_less = fresh_set back p (c.i + 8) (omega (arith, x.back_long, (entered x.going some kind p named).on.inside)) entered_fresh (omega arith)

    pub entered_deep : w.depth < most_pages
    entered_deep = omega (arith, x.deep, (entered x.going some kind p named).below)

    once_in : (q : ℕ) → cond (eqb (get_or (set back p (c.i + 8)) q 0) 0) 0 1 + (inside holder).names q + ((rest holder).names q + spared q x.holders) ≤ 1
    once_in q = go (eqb q p) refl (names_both x.going some kind p named q)
      where
        go : (b : Bool) → eqb q p ≡ b → cond b 1 0 + (inside holder).names q + (rest holder).names q ≤ x.g.names q
            → cond (eqb (get_or (set back p (c.i + 8)) q 0) 0) 0 1 + (inside holder).names q + ((rest holder).names q + spared q x.holders) ≤ 1
        go true e k = omega (arith, mark_low (eqb (get_or (set back p (c.i + 8)) q 0) 0), mark_low (eqb (get_or back q 0) 0), x.once q)
        go false e k =
            omega (
              arith,
              x.once q,
              ap {B = ℕ} (λ (n : ℕ). cond (eqb n 0) 0 1) (get_or-set_other back p q (c.i + 8) 0 (eqb-false q p e)),
            )

    kept_below : (j : ℕ) → j < c.level → get_or (kept c w held) j no_held ≡ get_or held j no_held
    kept_below j h = get_or-set_other held c.level j (held_of c.end w.base w.since) no_held (λ z. omega arith)

    -- A proxy in the record's own row, or in an aggregate.
    record Holding (b : Bool) : Type 0 where
      link : Link (set back p (c.i + 8)) (cond b held (kept c w held)) (cond b w.since (w.depth + 1)) (inside holder) holder (length x.holders)
      below : (j : ℕ) → j ≤ x.g.base → get_or (cond b held (kept c w held)) j no_held ≡ get_or held j no_held
      long : length (cond b held (kept c w held)) ≡ 25
      low : cond b w.since (w.depth + 1) ≤ w.depth + 1

    held_in_lem : (b : Bool) → eqb c.level w.base ≡ b → Holding b
    held_in_lem true e =
        let level = eqb-true c.level w.base e in
        let back_is = get_or-set_same back p (c.i + 8) 0 (omega (arith, x.back_long, (entered x.going some kind p named).on.inside)) in
        record {
          link = record {
            goal_is = refl;
            back_is = back_is;
            low = omega (arith, x.low, x.depth_is);
            own = λ z. absurd (omega (arith, x.low, x.depth_is));
            same = λ z. (level ∙ sym x.base_is, refl);
          };
          below = λ j h. refl;
          long = x.held_long;
          low = omega (arith, x.low);
        }
    held_in_lem false e =
        let level = eqb-false c.level w.base e in
        let up = (within x.going).2 in
        let high = named_level x.going some kind p named in
        let back_is = get_or-set_same back p (c.i + 8) 0 (omega (arith, x.back_long, (entered x.going some kind p named).on.inside)) in
        let there : get_or (kept c w held) c.level no_held ≡ held_of c.end w.base w.since =
        get_or-set_same held c.level (held_of c.end w.base w.since) no_held (omega (arith, x.held_long)) in
        record {
          link = record {
            goal_is = refl;
            back_is = back_is;
            low = omega (arith, x.low, x.depth_is);
            own = λ z. there ∙ (λ j. held_of c.end (sym x.base_is j) w.since);
            same = λ z. absurd (z (omega (arith, x.depth_is)));
          };
          below = λ j h. kept_below j (omega (arith, x.base_is));
          long = length-set held c.level (held_of c.end w.base w.since) ∙ x.held_long;
          low = omega arith;
        }

    pub walking_in : Walking img t final room (set back p (c.i + 8)) (held_in c w held) (inner c w)
        (cursor (start_on img p) (end_on img p) c.level c.n c.at c.next) stack out
    unfolding Chain spared
    walking_in =
        let b = eqb c.level w.base in
        let h = held_in_lem b refl in
        let fresh-back : (q : ℕ) → (get_or back q 0 ≡ 0 → ⊥) → get_or (set back p (c.i + 8)) q 0 ≡ get_or back q 0 =
        λ q k. get_or-set_other back p q (c.i + 8) 0 (λ z. k (ap (λ (n : ℕ). get_or back n 0) z ∙ entered_fresh)) in
        record {
          g = inside holder;
          going = going_in x.going some kind p named;
          base_is = refl;
          holders = holder ∷ x.holders;
          depth_is = omega (arith, x.depth_is);
          chain = (
            h.link,
            chain_as final room back (set back p (c.i + 8)) held (held_in c w held) fresh-back w.since x.g x.holders h.below x.chain,
          );
          low = h.low;
          deep = omega (arith, x.deep, (entered x.going some kind p named).below);
          once = once_in;
          back_long = omega (arith, length-set back p (c.i + 8), x.back_long);
          held_long = h.long;
        }

  -- ── out of the record at hand ──

  module _ (none : c.i ≡ c.end) (last : c.level ≡ w.base) where
    level_is : c.level ≡ x.g.base
    level_is = last ∙ sym x.base_is

    -- Page 1's: the end of the walk.
    pub walking_end : w.depth ≡ 0 → (reached c out ≡ final.0) × (length out ≡ room)
    unfolding Chain
    walking_end z = go x.holders x.depth_is x.chain
      where
        go : (hs : List (Holder img t)) → length hs ≡ w.depth → Chain final room back held w.since x.g hs → (reached c out ≡ final.0) × (length out ≡ room)
        go [] d k = (ap (λ (v : Way × ℕ). v.0) (at_last x.going none level_is ∙ k.final_is), x.going.long ∙ k.room_is)
        go (h ∷ hs) d k = absurd (omega arith)

    -- A nested one.
    module _ (h : Holder img t) (hs : List (Holder img t)) (d : length (h ∷ hs) ≡ w.depth) (link : Link back held w.since x.g h (length hs))
        (up : Chain final room back held h.since h.g hs) (once : (q : ℕ) → cond (eqb (get_or back q 0) 0) 0 1 + x.g.names q + spared q (h ∷ hs) ≤ 1) where
      own_record_lem : Recorded img h.page h.c.level (h.g.depth - 1)
      own_record_lem = nested h.going h.some h.kind h.page h.is_named

      at_end : c.i ≡ end_on img h.page
      at_end = none ∙ at_stop x.going level_is ∙ ap (λ (v : Goal). v.stop) link.goal_is

      page_is : c.i / page_size ≡ h.page
      page_is = omega (arith, at_end, recorded_ends own_record_lem)

      to_is : way_out c back ≡ h.c.i + 8
      to_is = ap (λ (q : ℕ). get_or back q 0) page_is ∙ link.back_is

      own_level : c.level ≡ h.c.level
      own_level = level_is ∙ ap (λ (v : Goal). v.base) link.goal_is

      gone : Going img t (rest h) (cursor (h.c.i + 8) h.c.end h.c.level c.n c.at c.next) stack out
      gone =
          proxy_walked h.going h.some h.kind h.page h.is_named
          (at_last x.going none level_is ∙ ap (λ (v : Goal). v.result) link.goal_is)
          (λ j k. x.going.kept j (omega (arith, level_is, own_level)) ∙ ap (λ (v : Goal). get_or v.stack j no_level) link.goal_is)
          x.going.sized

      -- In the holder's own row: it ends where the record does.
      own_row : (w.depth ≡ w.since → ⊥) → (h.c.level ≡ h.g.base) × (w.since ≡ h.since)
      own_row z = link.same (λ e. z (omega arith))

      holder_page : (w.depth ≡ w.since → ⊥) → (way_out c back / page_size ≡ page_in hs) × (end_on img (page_in hs) ≡ h.c.end)
      holder_page z =
          let p = chain_page final room back held h.since h.g hs up in
          let e : h.c.end ≡ end_on img (page_in hs) = at_stop h.going (own_row z).0 ∙ p.stop_is in
          let r = h.going.rest.here in
          let after = (entered h.going h.some h.kind h.page h.is_named).after.ends in
          (omega (arith, to_is, e, p.ends, r.start, r.room, h.going.rest.ends, after), sym e)

      leaving_one : Leaving img c w back
      leaving_one = record {
        low = omega (arith, page_is, own_record_lem.on.inside, x.back_long);
        level = omega (arith, own_level, named_level h.going h.some h.kind h.page h.is_named);
        fits = omega (arith, to_is, (within h.going).1, h.some);
        around = λ z. subst (PageIn img) (sym (holder_page z).0) (chain_page final room back held h.since h.g hs up).on;
      }

      -- What is kept of the aggregate in which the holder stands.
      held_is : w.depth ≡ w.since → get_or held c.level no_held ≡ held_of h.c.end h.g.base h.since
      held_is e = ap (λ (l : ℕ). get_or held l no_held) own_level ∙ link.own (omega (arith, e))

      end_is : (b : Bool) → eqb w.depth w.since ≡ b → cond b (get_or held c.level no_held).end (end_on img (way_out c back / page_size)) ≡ h.c.end
      end_is true e = ap (λ (k : Held). k.end) (held_is (eqb-true w.depth w.since e))
      end_is false e = let p = holder_page (eqb-false w.depth w.since e) in ap (end_on img) p.0 ∙ p.1

      base_is : (b : Bool) → eqb w.depth w.since ≡ b → cond b (get_or held c.level no_held).base w.base ≡ h.g.base
      base_is true e = ap (λ (k : Held). k.base) (held_is (eqb-true w.depth w.since e))
      base_is false e = sym last ∙ own_level ∙ (own_row (eqb-false w.depth w.since e)).0

      since_is : (b : Bool) → eqb w.depth w.since ≡ b → cond b (get_or held c.level no_held).since w.since ≡ h.since
      since_is true e = ap (λ (k : Held). k.since) (held_is (eqb-true w.depth w.since e))
      since_is false e = (own_row (eqb-false w.depth w.since e)).1

      nest_is : nest h.g.base (length hs) h.since ≡ outer c w held
      nest_is =
          let b = eqb w.depth w.since in
          let k : w.depth - 1 ≡ length hs = omega arith in
          λ j. nest (sym (base_is b refl) j) (sym k j) (sym (since_is b refl) j)

      cursor_is : cursor (h.c.i + 8) h.c.end h.c.level c.n c.at c.next ≡ behind_of img c w back held
      cursor_is = λ j. cursor (sym to_is j) (sym (end_is (eqb w.depth w.since) refl) j) (sym own_level j) c.n c.at c.next

      out_of_lem : Walking img t final room back held (nest h.g.base (length hs) h.since) (cursor (h.c.i + 8) h.c.end h.c.level c.n c.at c.next) stack out
      unfolding spared
      out_of_lem = record {
        g = rest h;
        going = gone;
        base_is = refl;
        holders = hs;
        depth_is = refl;
        chain = chain_naming final room back held h.since h.g (rest h).names hs up;
        low = link.low;
        deep =
            omega (arith, x.deep, ap (λ (v : Goal). v.depth) link.goal_is, (entered h.going h.some h.kind h.page h.is_named).below);
        once = λ q. omega (arith, once q);
        back_long = x.back_long;
        held_long = x.held_long;
      }

      walking_one : Walking img t final room back held (outer c w held) (behind_of img c w back held) stack out
      walking_one =
          subst (λ (v : Nest). Walking img t final room back held v (behind_of img c w back held) stack out) nest_is
          (subst (λ (v : Cursor). Walking img t final room back held (nest h.g.base (length hs) h.since) v stack out) cursor_is out_of_lem)

    pub walking_out : (w.depth ≡ 0 → ⊥) → Leaving img c w back × Walking img t final room back held (outer c w held) (behind_of img c w back held) stack out
    unfolding Chain
    walking_out z = go x.holders x.depth_is x.chain x.once
      where
        go : (hs : List (Holder img t)) → length hs ≡ w.depth → Chain final room back held w.since x.g hs
            → ((q : ℕ) → cond (eqb (get_or back q 0) 0) 0 1 + x.g.names q + spared q hs ≤ 1)
            → Leaving img c w back × Walking img t final room back held (outer c w held) (behind_of img c w back held) stack out
        go [] d k o = absurd (z (sym d))
        go (h ∷ hs) d k o = (leaving_one h hs d k.0 k.1 o, walking_one h hs d k.0 k.1 o)
