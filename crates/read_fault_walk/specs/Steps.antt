-- The walk over a row, into the records of its proxies and back out of them, turn by turn.
use Rattle.std.specs.Prelude.{◌≡◌, Bool, true, false, cond, set, eqb, Result, Ok, Err}
use Rattle.std.proofs.Math.Path.{refl, sym, ap, subst}
use Rattle.std.proofs.Common.{◌∙◌, true≢false, add-one, get_or-set_other, eqb-true, eq-eqb}
use mathlib.Core.List.{List, [], ◌∷◌}
use Prim.Native.Nat.{ℕ, suc, ◌+◌, ◌-◌, ◌*◌, ◌/◌, ◌≤◌, ◌<◌}
use native.Mathlib.Omega.{arith}
use Rattle.std.proofs.Math.ListN.{length, get_or, length-set}
use Rattle.std.proofs.Math.Seq.{get_or-set_same}
use Rattle.std.proofs.lemmas.Bool.{eqb-false}
use Rattle.model.specs.Limits.{most_pages, page_size, most_levels}
use Rattle.model.specs.WalkTests.{whole_size}
use Rattle.model.specs.Reasons.{reason_number}
use Rattle.model.specs.Calls.Diagnose.{Been, been, Walk, on, stopped, onward, into}
use Rattle.theory_check.specs.Levels.{record_end}
use Rattle.theory_check.specs.Steps.{size_long}
use Rattle.theory_check.specs.Tests.{is_marked, marked}
use Rattle.theory_check.specs.Marks.{IsMarks, marks_kept, is_marked_lem}
use Rattle.theory_faults.specs.Fuel.{walk, walk_none, walk_bad, walk_more}
use Rattle.theory_faults.specs.Reached.{Matches}
use Rattle.read_fault_nodes.specs.declared.Holder.{Holder}
use Rattle.read_fault_nodes.specs.declared.Holder.TheVariants.{Record, Aggregate, Literal, Helper}
use Rattle.read_fault_nodes.specs.declared.Inner.{Inner}
use Rattle.read_fault_nodes.specs.declared.Stop.{Stop}
use Rattle.read_fault_nodes.specs.Rows.{part, Within, Holds, holder_number, row_at, Into, proxy, helper, literal, aggregate, Leads, inside_of, next_of, Sized}
use Rattle.read_fault_nodes.specs.Rows.{first_of, Ended, walk_of, Ends, Keeps, Stays}
use Rattle.read_fault_nodes.specs.Nodes.{drop_part, take_part, length_part, no_part, same_page, within_rest, within_front, within_long, record_within}

-- ── one walk after another ──

pub onward_none : (w : Walk) (f : Been → Walk) → ((b : Been) → f b ≡ on b) → onward w f ≡ w
onward_none (on b) f h = h b
onward_none (stopped p r) f h = refl

onward_more : (w : Walk) (f g : Been → Walk) → onward (onward w f) g ≡ onward w (λ b. onward (f b) g)
onward_more (on b) f g = refl
onward_more (stopped p r) f g = refl

-- ── a row's first node ──

module _ {img : List ℕ} {i end holder level : ℕ} (w : Within img i end holder level) (here : i < end) (left : ℕ) (reached : List ℕ) where
  some : length (part img i end) ≡ 0 → ⊥
  some z = omega (arith, length_part img i end (within_long w))

  pub walk_first : walk_of img i end holder level left reached
      ≡ onward (into (first_of img i end holder level left reached) (walk img)) (walk img (part img (next_of img i end) end) (i / page_size) holder level)
  unfolding first_of inside_of
  walk_first = go (eqb n 0) refl
    where
      n : ℕ
      n = whole_size (part img i end)

      go : (c : Bool) → eqb n 0 ≡ c
          → walk_of img i end holder level left reached
          ≡ onward (into (first_of img i end holder level left reached) (walk img)) (walk img (part img (next_of img i end) end) (i / page_size) holder level)
      go true e = rw e (walk_bad img (part img i end) (i / page_size) holder level (been left reached) some (eqb-true n 0 e))
      go false e =
          let h = size_long (part img i end) e in
          let inner : i + n ≤ end = omega (arith, h.0, h.1, length_part img i end (within_long w)) in
          let t = walk_more img (part img i end) (i / page_size) holder level (been left reached) some (eqb-false n 0 e) in
          rw e (rw (take_part img i end n inner, drop_part img i end n) at t)

-- ── the records that are open ──

-- Its page, and the row that goes on behind its proxy.
pub record Frame : Type 0 where
  pub page : ℕ
  pub start : ℕ
  pub stop : ℕ
  pub holder : ℕ

-- What is left of a walk once the row at hand is at its end: the rows behind the open records, the innermost first.
unfoldable pub resume : (img : List ℕ) → (level : ℕ) → List Frame → Been → Walk
resume img level [] b = on b
resume img level (f ∷ fs) b = onward (walk img (part img f.start f.stop) (f.start / page_size) f.holder level b) (resume img level fs)

-- A call of the walk: its own row, what is left to be reached, and its tables.
pub record Call : Type 0 where
  pub start : ℕ
  pub stop : ℕ
  pub holder : ℕ
  pub level : ℕ
  pub left : ℕ
  pub marks : List ℕ
  pub back : List ℕ

-- The call's own row ends at `last`, its nodes being held by a node of the kind `own` and having the level.
module _ (img : List ℕ) (last own level : ℕ) where
  -- The row at hand ends where the call's own does, or where the record does that was opened last: in a helper, or in no node yet.
  abbrev pub Stands : List Frame → (start stop holder : ℕ) → Type 0
  Stands [] a e h = (e ≡ last) × (h ≡ own)
  Stands (f ∷ fs) a e h = (a / page_size ≡ f.page) × (e ≡ record_end img f.page) × ((h ≡ 0 → ⊥) → h ≡ 4)

  -- What the tables have of an open record; fs are those around it.
  pub record Held (marks back : List ℕ) (f : Frame) (fs : List Frame) : Type 0 where
    pub holds : Holds img f.page
    pub marked : is_marked marks f.page ≡ true
    pub to : get_or back f.page 0 ≡ f.start
    pub row : Within img f.start f.stop f.holder level
    pub within : f.start ≤ f.stop
    pub held : f.holder ≡ 0 → ⊥
    pub stands : Stands fs f.start f.stop f.holder

  unfoldable pub Chain : (marks back : List ℕ) → List Frame → Type 0
  Chain m b [] = Unit {0}
  Chain m b (f ∷ fs) = Held m b f fs × Chain m b fs

  -- other tables that have the same of the marked pages
  chain_as : (m b n c : List ℕ) → Keeps m b n c → (fs : List Frame) → Chain m b fs → Chain n c fs
  unfolding Chain
  chain_as m b n c k [] h = tt
  chain_as m b n c k (f ∷ fs) h =
      let d = h.0 in
      let e = k.page f.page d.holds.few d.marked in (
        record {
          holds = d.holds;
          marked = e.0;
          to = e.1 ∙ d.to;
          row = d.row;
          within = d.within;
          held = d.held;
          stands = d.stands;
        },
        chain_as m b n c k fs h.1,
      )

  -- a later byte of the row
  stands_later : (fs : List Frame) (a b e h : ℕ) → b / page_size ≡ a / page_size → Stands fs a e h → Stands fs b e h
  stands_later [] a b e h q s = s
  stands_later (f ∷ fs) a b e h q s = (q ∙ s.0, s.1, s.2)

-- ── tables ──

keeps_trans : {m b n c o d : List ℕ} → Keeps m b n c → Keeps n c o d → Keeps m b o d
keeps_trans k l = record { page = λ q i e. let f = k.page q i e in let h = l.page q i f.0 in (h.0, h.1 ∙ f.1) }

keeps_marks : {m n b : List ℕ} → n ≡ m → Keeps m b n b
keeps_marks e = record { page = λ q i t. (ap (λ (v : List ℕ). is_marked v q) e ∙ t, refl) }

-- a page that is reached for the first time
keeps_enter : (m b : List ℕ) (p v : ℕ) → IsMarks m → p < most_pages → is_marked m p ≡ false → Keeps m b (marked m p) (set b p v)
keeps_enter m b p v k low new = record {
  page = λ q i e. (is_marked_lem m p q k low i ∙ go q e (eqb q p), get_or-set_other b p q v 0 (λ z. true≢false (sym e ∙ ap (is_marked m) z ∙ new)));
}
  where
    go : (q : ℕ) → is_marked m q ≡ true → (c : Bool) → cond c true (is_marked m q) ≡ true
    go q e true = refl
    go q e false = e

-- ── the loop ──

-- The walk w comes to the walk from byte `at` on, and what is to be done after that.
pub record Resumed (img : List ℕ) (w : Walk) (after : Been → Walk) (marks : List ℕ) (at end kind level rest : ℕ) : Type 0 where
  pub reached : List ℕ
  pub matches : Matches marks reached
  pub same : w ≡ onward (walk_of img at end kind level rest reached) after

-- The walk of the call, where those pages were reached at its start.
abbrev pub whole : (img : List ℕ) → Call → (before : List ℕ) → Walk
whole img g = walk_of img g.start g.stop g.holder g.level g.left

-- It comes to what is left from here.
abbrev pub Left : (img : List ℕ) → Call → (level : ℕ) → List Frame → (marks : List ℕ) → (at end kind rest : ℕ) → Type 0
Left img g level fs marks at end kind rest =
    (before : List ℕ) → Matches g.marks before → Resumed img (whole img g before) (resume img level fs) marks at end kind level rest

-- The walk stands at byte `at` of a row that ends at `end`, so many records being open.
pub record Going (img : List ℕ) (g : Call) (marks back : List ℕ) (own level at end kind rest depth : ℕ) : Type 0 where
  pub frames : List Frame
  pub count : length frames ≡ depth
  pub held : own ≡ 0 → ⊥
  pub row : Within img at end kind level
  pub within : at ≤ end
  pub stands : Stands img g.stop own level frames at end kind
  pub alone : kind ≡ 0 → at < end → whole_size (part img at end) ≡ end - at
  pub chain : Chain img g.stop own level marks back frames
  pub are : IsMarks marks
  pub long : length back ≡ length g.back
  pub enough : length img ≤ page_size * length g.back
  pub kept : Keeps g.marks g.back marks back
  pub fewer : rest + depth ≤ g.left
  pub falls : 8192 * rest + 4096 * depth + (end - at) ≤ 8192 * g.left + (g.stop - g.start)
  pub left : Left img g level frames marks at end kind rest

abbrev pub call_of : (start stop holder level left : ℕ) → (marks back : List ℕ) → Call
call_of a e h l n m b = record { start = a; stop = e; holder = h; level = l; left = n; marks = m; back = b }

pub going_start : {img : List ℕ} {a e h l : ℕ} (n : ℕ) (m b : List ℕ) → Within img a e h l → a ≤ e → (h ≡ 0 → ⊥) → IsMarks m → length img ≤ page_size * length b
    → Going img (call_of a e h l n m b) m b h l a e h n 0
unfolding Chain resume
going_start {img} {a} {e} {h} {l} n m b w up own are enough = record {
  frames = [];
  count = refl;
  held = own;
  row = w;
  within = up;
  stands = (refl, refl);
  alone = λ z. absurd (own z);
  chain = tt;
  are = are;
  long = refl;
  enough = enough;
  kept = record { page = λ q i e. (e, refl) };
  fewer = omega arith;
  falls = omega arith;
  left = λ ps k. record { reached = ps; matches = k; same = sym (onward_none (walk_of img a e h l n ps) (resume img l []) (λ c. refl)) };
}

-- ── ends ──

pub stop_ends : {w : Walk} {m : List ℕ} (s : Stop) → w ≡ stopped s.page (reason_number s.reason) → List ℕ → Ended w (Err s) m
stop_ends s e ps = record { reached = ps; matches = tt; same = e }

module _ {img : List ℕ} {g : Call} {marks back : List ℕ} {own level at end kind rest depth : ℕ} (now : Going img g marks back own level at end kind rest depth) where
  pub going_stays : Stays g.left g.marks g.back marks back rest
  going_stays = record { less = omega (arith, now.fewer); kept = now.kept; are = now.are; long = now.long }

  module _ (over : at ≡ end) where
    done : (ps : List ℕ) → walk_of img at end kind level rest ps ≡ on (been rest ps)
    done ps = walk_none img (part img at end) (at / page_size) kind level (been rest ps) (no_part img at end (omega arith))

    -- the call's own row is at its end
    pub going_end : depth ≡ 0 → Ends (whole img g) g.marks marks (Ok rest)
    unfolding resume
    going_end z ps k = go now.frames now.count (now.left ps k)
      where
        go : (fs : List Frame) → length fs ≡ depth → Resumed img (whole img g ps) (resume img level fs) marks at end kind level rest
            → Ended (whole img g ps) (Ok rest) marks
        go [] c d = record { reached = d.reached; matches = d.matches; same = d.same ∙ rw (done d.reached) }
        go (f ∷ fs) c d = absurd (omega arith)

-- ── out of a record ──

-- The row goes on at the byte `to`, so many records being open then: in the call's own row, or in the record of the page there, which is a helper's.
pub record Out (img : List ℕ) (g : Call) (marks back : List ℕ) (own level to rest depth : ℕ) : Type 0 where
  pub fits : to ≤ length img
  pub own_row : depth ≡ 0 → Going img g marks back own level to g.stop own rest depth
  pub outer : (depth ≡ 0 → ⊥) → Holds img (to / page_size)
  pub outer_row : (depth ≡ 0 → ⊥) → (e : ℕ) → e ≡ record_end img (to / page_size) → Going img g marks back own level to e 4 rest depth

module _ {img : List ℕ} {g : Call} {marks back : List ℕ} {own level at end kind rest depth : ℕ} (now : Going img g marks back own level at end kind rest depth) where
  module _ (over : at ≡ end) (f : Frame) where
    out_next : (fs : List Frame) → length (f ∷ fs) ≡ depth → Held img g.stop own level marks back f fs → Chain img g.stop own level marks back fs
        → Left img g level (f ∷ fs) marks at end kind rest
        → Going img g marks back own level f.start f.stop f.holder rest (depth - 1)
    unfolding resume
    out_next fs k h c d = record {
      frames = fs;
      count = omega arith;
      held = now.held;
      row = h.row;
      within = h.within;
      stands = h.stands;
      alone = λ z. absurd (h.held z);
      chain = c;
      are = now.are;
      long = now.long;
      enough = now.enough;
      kept = now.kept;
      fewer = omega (arith, now.fewer);
      falls = omega (arith, now.falls, h.row.fits);
      left = λ ps m.
          let r = d ps m in
          record {
            reached = r.reached;
            matches = r.matches;
            same = r.same ∙ ap (λ (w : Walk). onward w (resume img level (f ∷ fs))) (done now over r.reached);
          };
    }

    out_by : (fs : List Frame) → length (f ∷ fs) ≡ depth → Held img g.stop own level marks back f fs → Chain img g.stop own level marks back fs
        → Going img g marks back own level f.start f.stop f.holder rest (depth - 1) → Out img g marks back own level f.start rest (depth - 1)
    unfolding Chain
    out_by [] k h c n =
        let s = h.stands in
        let one : depth - 1 ≡ 0 = omega arith in
        record {
          fits = omega (arith, within_long h.row, h.within);
          own_row = λ _. subst (λ (e : ℕ). Going img g marks back own level f.start e own rest (depth - 1)) s.0
              (subst (λ (x : ℕ). Going img g marks back own level f.start f.stop x rest (depth - 1)) s.1 n);
          outer = λ z. absurd (z one);
          outer_row = λ z e d. absurd (z one);
        }
    out_by (o ∷ os) k h c n =
        let s = h.stands in
        let q = ap (record_end img) (sym s.0) in
        record {
          fits = omega (arith, within_long h.row, h.within);
          own_row = λ z. absurd (omega arith);
          outer = λ _. subst (Holds img) (sym s.0) c.0.holds;
          outer_row = λ _ e d. subst (λ (e : ℕ). Going img g marks back own level f.start e 4 rest (depth - 1)) (s.1 ∙ q ∙ sym d)
              (subst (λ (x : ℕ). Going img g marks back own level f.start f.stop x rest (depth - 1)) (s.2 h.held) n);
        }

  pub going_out : at ≡ end → (depth ≡ 0 → ⊥) → Out img g marks back own level (get_or back (at / page_size) 0) rest (depth - 1)
  unfolding Chain
  going_out over deep = go now.frames now.count now.stands now.chain now.left
    where
      go : (fs : List Frame) → length fs ≡ depth → Stands img g.stop own level fs at end kind → Chain img g.stop own level marks back fs
          → Left img g level fs marks at end kind rest
          → Out img g marks back own level (get_or back (at / page_size) 0) rest (depth - 1)
      go [] k s c d = absurd (deep (sym k))
      go (f ∷ fs) k s c d =
          let to = ap (λ (p : ℕ). get_or back p 0) s.0 ∙ c.0.to in
          subst (λ (t : ℕ). Out img g marks back own level t rest (depth - 1)) (sym to) (out_by over f fs k c.0 c.1 (out_next over f fs k c.0 c.1 d))

-- ── a node ──

onward_same : (w : Walk) (f g : Been → Walk) → ((b : Been) → f b ≡ g b) → onward w f ≡ onward w g
onward_same (on b) f g h = h b
onward_same (stopped p r) f g h = refl

module _ {img : List ℕ} {g : Call} {marks back : List ℕ} {own level at end kind rest depth : ℕ} (now : Going img g marks back own level at end kind rest depth)
    (here : at ≡ end → ⊥) where
  abbrev next : ℕ
  next = next_of img at end

  -- the rest of the row, and what is left then
  abbrev behind : Been → Walk
  behind b = onward (walk img (part img next end) (at / page_size) kind level b) (resume img level now.frames)

  abbrev First : (m : List ℕ) → Result Inner Stop → Type 0
  First m r = Leads img (first_of img at end kind level rest) (λ x. Into img at next kind level rest marks m x × Sized img at end) marks m r

  -- the node's row, then the rest
  turned : {m : List ℕ} {r : Result Inner Stop} → First m r → (before : List ℕ) (k : Matches g.marks before) → let t = now.left before k in
      whole img g before ≡ onward (into (first_of img at end kind level rest t.reached) (walk img)) behind
  turned l before k =
      let t = now.left before k in
      t.same
      ∙ ap (λ (w : Walk). onward w (resume img level now.frames)) (walk_first now.row (omega (arith, now.within, here)) rest t.reached)
      ∙ onward_more (into (first_of img at end kind level rest t.reached) (walk img)) (walk img (part img next end) (at / page_size) kind level)
      (resume img level now.frames)

  pub going_stops : {m u : List ℕ} {s : Stop} → First m (Err s) → Ends (whole img g) g.marks u (Err s)
  going_stops {m} {u} {s} l before k =
      let t = now.left before k in
      let d = l.led t.reached t.matches in
      stop_ends s (turned l before k ∙ rw d.same) before

  -- what is left, where the node leads into a row
  enters : {m : List ℕ} {x : Inner} → First m (Ok x) → (a e : ℕ) (h : Holder) (l n : ℕ) → x ≡ row_at a e h l n → (before : List ℕ) → Matches g.marks before
      → Resumed img (whole img g before) behind m a e (holder_number h) l n
  enters {m} {x} f a e h l n q before k =
      let t = now.left before k in
      let d = f.led t.reached t.matches in
      subst (λ (y : Inner). Resumed img (whole img g before) behind m y.start y.stop (holder_number y.holder) y.level y.left) q
      (record { reached = d.reached; matches = d.matches; same = turned f before k ∙ rw d.same })

  module _ (s : Sized img at end) where
    abbrev after : (j : ℕ) → next ≡ j → at / page_size ≡ j / page_size
    after j e = sym (same_page now.row {j = j} (omega (arith, s)) (omega (arith, s)))

    -- past a node that is walked
    past : (u b : List ℕ) (n : ℕ) → Keeps marks back u b → IsMarks u → length b ≡ length g.back → n ≤ rest
        → ((before : List ℕ) → Matches g.marks before → Resumed img (whole img g before) (resume img level now.frames) u next end kind level n)
        → Going img g u b own level next end kind n depth
    past u b n k are long less left = record {
      frames = now.frames;
      count = now.count;
      held = now.held;
      row = within_rest now.row (omega (arith, s)) s.1 kind level now.row.held now.row.low;
      within = s.1;
      stands = stands_later img g.stop own level now.frames at next end kind (sym (after next refl)) now.stands;
      alone = λ z h. absurd (omega (arith, now.alone z (omega arith)));
      chain = chain_as img g.stop own level marks back u b k now.frames now.chain;
      are = are;
      long = long;
      enough = now.enough;
      kept = keeps_trans now.kept k;
      fewer = omega (arith, now.fewer);
      falls = omega (arith, now.falls, s);
      left = left;
    }

    -- the row of the node is walked
    over : {u : List ℕ} {n : ℕ} {ps : List ℕ} (w v : Walk) → w ≡ onward v behind → v ≡ on (been n ps) → Matches u ps
        → Resumed img w (resume img level now.frames) u next end kind level n
    over {u} {n} {ps} w v e d m = record {
      reached = ps;
      matches = m;
      same =
          e ∙ ap (λ (y : Walk). onward y behind) d
          ∙ ap (λ (p : ℕ). onward (walk img (part img next end) p kind level (been n ps)) (resume img level now.frames)) (after next refl);
    }

  module _ {m : List ℕ} {x : Inner} (f : First m (Ok x)) where
    sized : Sized img at end
    sized = f.says.1

    -- the measure falls
    pub forth : (holder_number x.holder ≡ 0 → ⊥) → (at < x.start) × (at < x.stop)
    forth none = go f.says.0
      where
        go : Into img at next kind level rest marks m x → (at < x.start) × (at < x.stop)
        go (proxy p h e o) = absurd (none (ap (λ (y : Inner). holder_number y.holder) o.root.is))
        go (helper h e q) = rw q (omega arith, omega (arith, sized))
        go (literal e q) = rw q (omega (arith, sized), omega (arith, sized))
        go (aggregate e h q) = rw q (omega arith, omega (arith, sized))

    pub entered : holder_number x.holder ≡ 0 → x.left < rest
    entered none = go f.says.0
      where
        go : Into img at next kind level rest marks m x → x.left < rest
        go (proxy p h e o) = rw o.root.is (omega (arith, o.room))
        go (helper h e q) = absurd (omega (arith, ap (λ (y : Inner). holder_number y.holder) q))
        go (literal e q) = absurd (omega (arith, ap (λ (y : Inner). holder_number y.holder) q))
        go (aggregate e h q) = absurd (omega (arith, ap (λ (y : Inner). holder_number y.holder) q))

    -- a literal's row is empty
    pub going_nil : holder_number x.holder ≡ 2 → x.start ≡ x.stop
    going_nil two = go f.says.0
      where
        go : Into img at next kind level rest marks m x → x.start ≡ x.stop
        go (proxy p h e o) = absurd (omega (arith, two, ap (λ (y : Inner). holder_number y.holder) o.root.is))
        go (helper h e q) = absurd (omega (arith, two, ap (λ (y : Inner). holder_number y.holder) q))
        go (literal e q) = rw q
        go (aggregate e h q) = absurd (omega (arith, two, ap (λ (y : Inner). holder_number y.holder) q))

    -- a literal is passed, and an aggregate without nodes
    pub going_empty : (holder_number x.holder ≡ 0 → ⊥) → (holder_number x.holder ≡ 4 → ⊥) → x.start ≡ x.stop → Going img g m back own level x.stop end kind rest depth
    going_empty none four nil = go f.says.0
      where
        passed : (a : ℕ) (h : Holder) (l : ℕ) → m ≡ marks → x ≡ row_at a next h l rest → next ≤ a → Going img g m back own level x.stop end kind rest depth
        passed a h l e q empty =
            subst (λ (y : Inner). Going img g m back own level y.stop end kind rest depth) (sym q)
            (past sized m back rest (keeps_marks e) (subst IsMarks (sym e) now.are) now.long (omega arith)
            (λ before k.
            let t = enters f a next h l rest q before k in
            over sized (whole img g before) (walk_of img a next (holder_number h) l rest t.reached) t.same
            (walk_none img (part img a next) (a / page_size) (holder_number h) l (been rest t.reached) (no_part img a next empty)) t.matches))

        go : Into img at next kind level rest marks m x → Going img g m back own level x.stop end kind rest depth
        go (proxy p h e o) = absurd (none (ap (λ (y : Inner). holder_number y.holder) o.root.is))
        go (helper h e q) = absurd (four (ap (λ (y : Inner). holder_number y.holder) q))
        go (literal e q) = passed next Literal level e q (omega arith)
        go (aggregate e h q) = passed (at + 6) Aggregate (level + 1) e q (omega (arith, ap (λ (y : Inner). y.start) q, ap (λ (y : Inner). y.stop) q))

    -- a helper is its record's only node: the row goes on in it
    pub going_helper : holder_number x.holder ≡ 4 → Going img g m back own level x.start end 4 rest depth
    going_helper four = go f.says.0
      where
        go : Into img at next kind level rest marks m x → Going img g m back own level x.start end 4 rest depth
        go (proxy p h e o) = absurd (omega (arith, ap (λ (y : Inner). holder_number y.holder) o.root.is))
        go (literal e q) = absurd (omega (arith, ap (λ (y : Inner). holder_number y.holder) q))
        go (aggregate e h q) = absurd (omega (arith, ap (λ (y : Inner). holder_number y.holder) q))
        go (helper h e q) =
            let last : next ≡ end = omega (arith, now.alone h (omega (arith, now.within, here)), now.within) in
            subst (λ (y : Inner). Going img g m back own level y.start end 4 rest depth) (sym q)
            (record {
              frames = now.frames;
              count = now.count;
              held = now.held;
              row = within_rest now.row {j = at + 6} (omega arith) (omega (arith, sized)) 4 level (omega arith) now.row.low;
              within = omega (arith, sized);
              stands = deeper h now.frames now.stands;
              alone = λ i. absurd (omega arith);
              chain = chain_as img g.stop own level marks back m back (keeps_marks e) now.frames now.chain;
              are = subst IsMarks (sym e) now.are;
              long = now.long;
              enough = now.enough;
              kept = keeps_trans now.kept (keeps_marks e);
              fewer = now.fewer;
              falls = omega (arith, now.falls, sized);
              left = λ before k.
                  let t = enters f (at + 6) next Helper level rest q before k in
                  record {
                    reached = t.reached;
                    matches = t.matches;
                    same =
                        t.same
                        ∙ onward_same (walk_of img (at + 6) next 4 level rest t.reached) behind (resume img level now.frames)
                        (λ b. ap (λ (w : Walk). onward w (resume img level now.frames))
                        (walk_none img (part img next end) (at / page_size) kind level b (no_part img next end (omega arith))))
                        ∙ ap (λ (j : ℕ). onward (walk_of img (at + 6) j 4 level rest t.reached) (resume img level now.frames)) last;
                  };
            })
          where
            deeper : kind ≡ 0 → (fs : List Frame) → Stands img g.stop own level fs at end kind → Stands img g.stop own level fs (at + 6) end 4
            deeper h [] s = absurd (now.held (sym s.1 ∙ h))
            deeper h (o ∷ os) s = (same_page now.row {j = at + 6} (omega arith) (omega (arith, sized)) ∙ s.0, s.1, λ _. refl)

    -- into the record of a proxy: the way back is kept
    pub going_record : holder_number x.holder ≡ 0 → Going img g m (set back (x.start / page_size) (at + 8)) own level x.start x.stop 0 x.left (depth + 1)
    unfolding Chain resume
    going_record none = go f.says.0
      where
        go : Into img at next kind level rest marks m x
            → Going img g m (set back (x.start / page_size) (at + 8)) own level x.start x.stop 0 x.left (depth + 1)
        go (helper h e q) = absurd (omega (arith, ap (λ (y : Inner). holder_number y.holder) q))
        go (literal e q) = absurd (omega (arith, ap (λ (y : Inner). holder_number y.holder) q))
        go (aggregate e h q) = absurd (omega (arith, ap (λ (y : Inner). holder_number y.holder) q))
        go (proxy p h e o) =
            let q = o.root.is in
            let low = o.holds.few in
            let keeps = keeps_enter marks back p (at + 8) now.are low o.fresh in
            let r : Frame = record { page = p; start = at + 8; stop = end; holder = kind } in
            let there : page_size * p / page_size ≡ p = omega arith in
            subst (λ (y : Inner). Going img g m (set back (y.start / page_size) (at + 8)) own level y.start y.stop 0 y.left (depth + 1)) (sym q)
            (subst (λ (v : List ℕ). Going img g v (set back (page_size * p / page_size) (at + 8)) own level (page_size * p) (record_end img p) 0 (rest - 1) (depth + 1))
            (sym o.marks)
            (subst (λ (j : ℕ). Going img g (marked marks p) (set back j (at + 8)) own level (page_size * p) (record_end img p) 0 (rest - 1) (depth + 1)) (sym there)
            (record {
              frames = r ∷ now.frames;
              count = ap suc now.count ∙ sym (add-one depth);
              held = now.held;
              row = record_within o.holds now.row.low;
              within = omega arith;
              stands = (there, refl, λ i. absurd (i refl));
              alone = λ _ _. o.root.whole ∙ omega arith;
              chain = (
                record {
                  holds = o.holds;
                  marked = is_marked_lem marks p p now.are low low ∙ rw (eq-eqb p p refl);
                  to = get_or-set_same back p (at + 8) 0 (omega (arith, now.long, now.enough, o.holds.on));
                  row = within_rest now.row {j = at + 8} (omega arith) (omega (arith, sized)) kind level now.row.held now.row.low;
                  within = omega (arith, sized);
                  held = h;
                  stands =
                      stands_later img g.stop own level now.frames at (at + 8) end kind
                      (same_page now.row {j = at + 8} (omega arith) (omega (arith, sized))) now.stands;
                },
                chain_as img g.stop own level marks back (marked marks p) (set back p (at + 8)) keeps now.frames now.chain,
              );
              are = marks_kept marks p now.are low;
              long = length-set back p (at + 8) ∙ now.long;
              enough = now.enough;
              kept = keeps_trans now.kept keeps;
              fewer = omega (arith, now.fewer, o.room);
              falls = omega (arith, now.falls, o.room, o.holds.used);
              left = λ before k.
                  let t = enters f (page_size * p) (record_end img p) Record level (rest - 1) q before k in
                  record {
                    reached = t.reached;
                    matches = subst (λ (v : List ℕ). Matches v t.reached) o.marks t.matches;
                    same =
                        t.same
                        ∙ onward_same (walk_of img (page_size * p) (record_end img p) 0 level (rest - 1) t.reached) behind (resume img level (r ∷ now.frames))
                        (λ b i. onward (walk img (part img (e i) end) (after sized (at + 8) e i) kind level b) (resume img level now.frames));
                  };
            })))

    -- ── an aggregate with nodes ──

    module _ (none : holder_number x.holder ≡ 0 → ⊥) (four : holder_number x.holder ≡ 4 → ⊥) (some : x.start ≡ x.stop → ⊥) where
      aggregated : (m ≡ marks) × (level ≤ most_levels) × (x ≡ row_at (at + 6) next Aggregate (level + 1) rest)
      aggregated = go f.says.0
        where
          go : Into img at next kind level rest marks m x → (m ≡ marks) × (level ≤ most_levels) × (x ≡ row_at (at + 6) next Aggregate (level + 1) rest)
          go (proxy p h e o) = absurd (none (ap (λ (y : Inner). holder_number y.holder) o.root.is))
          go (literal e q) = absurd (some (ap (λ (y : Inner). y.start) q ∙ sym (ap (λ (y : Inner). y.stop) q)))
          go (helper h e q) = absurd (four (ap (λ (y : Inner). holder_number y.holder) q))
          go (aggregate e h q) = (e, h, q)

      -- the last of the call's own row: its nodes take the row's place
      pub going_last : (depth ≡ 0) × (x.stop ≡ g.stop) → Going img g m back 1 x.level x.start end 1 rest depth
      unfolding Chain resume
      going_last last = go now.frames now.count now.stands (λ before k. enters f (at + 6) next Aggregate (level + 1) rest aggregated.2 before k)
        where
          a : (m ≡ marks) × (level ≤ most_levels) × (x ≡ row_at (at + 6) next Aggregate (level + 1) rest)
          a = aggregated

          go : (fs : List Frame) → length fs ≡ depth → Stands img g.stop own level fs at end kind
              → ((before : List ℕ) → Matches g.marks before
              → Resumed img (whole img g before) (λ b. onward (walk img (part img next end) (at / page_size) kind level b) (resume img level fs))
              m (at + 6) next 1 (level + 1) rest)
              → Going img g m back 1 x.level x.start end 1 rest depth
          go (o ∷ os) k s d = absurd (omega (arith, last.0))
          go [] k s d =
              let stop : next ≡ end = sym (ap (λ (y : Inner). y.stop) a.2) ∙ last.1 ∙ sym s.0 in
              subst (λ (y : Inner). Going img g m back 1 y.level y.start end 1 rest depth) (sym a.2)
              (record {
                frames = [];
                count = k;
                held = λ i. omega arith;
                row = within_rest now.row {j = at + 6} (omega arith) (omega (arith, sized)) 1 (level + 1) (omega arith) (omega (arith, a.1));
                within = omega (arith, sized);
                stands = (s.0, refl);
                alone = λ i. absurd (omega arith);
                chain = tt;
                are = subst IsMarks (sym a.0) now.are;
                long = now.long;
                enough = now.enough;
                kept = keeps_trans now.kept (keeps_marks a.0);
                fewer = now.fewer;
                falls = omega (arith, now.falls, sized);
                left = λ before j.
                    let t = d before j in
                    record {
                      reached = t.reached;
                      matches = t.matches;
                      same =
                          t.same
                          ∙ onward_same (walk_of img (at + 6) next 1 (level + 1) rest t.reached)
                          (λ b. onward (walk img (part img next end) (at / page_size) kind level b) (resume img level [])) (resume img (level + 1) [])
                          (λ b. ap (λ (w : Walk). onward w (resume img level []))
                          (walk_none img (part img next end) (at / page_size) kind level b (no_part img next end (omega arith))))
                          ∙ ap (λ (j : ℕ). onward (walk_of img (at + 6) j 1 (level + 1) rest t.reached) (resume img (level + 1) [])) stop;
                    };
              })

      -- what a call for its row asks for
      pub deeper_row : Within img x.start x.stop 1 x.level × (x.start ≤ x.stop)
      deeper_row =
          let a = aggregated in
          let w = within_front now.row sized.1 in
          rw a.2 (within_rest w {j = at + 6} (omega arith) (omega (arith, sized)) 1 (level + 1) (omega arith) (omega arith), omega (arith, sized))

      pub deeper_end : x.stop ≤ end
      deeper_end = rw aggregated.2 sized.1

      pub deeper_marks : IsMarks m
      deeper_marks = subst IsMarks (sym aggregated.0) now.are

      pub deeper_falls : 8192 * rest + (x.stop - x.start) < 8192 * g.left + (g.stop - g.start)
      deeper_falls = rw aggregated.2 (omega (arith, now.falls, sized))

      module _ {r : Result ℕ Stop} {u : List ℕ} (d : Ends (walk_of img x.start x.stop 1 x.level rest) m u r) where
        inner : (before : List ℕ) (k : Matches g.marks before) → let t = enters f (at + 6) next Aggregate (level + 1) rest aggregated.2 before k in
            Ended (walk_of img (at + 6) next 1 (level + 1) rest t.reached) r u
        inner before k =
            let t = enters f (at + 6) next Aggregate (level + 1) rest aggregated.2 before k in
            subst (λ (y : Inner). Ended (walk_of img y.start y.stop 1 y.level rest t.reached) r u) aggregated.2 (d t.reached t.matches)

      pub going_halts : {s : Stop} {u : List ℕ} → Ends (walk_of img x.start x.stop 1 x.level rest) m u (Err s) → Ends (whole img g) g.marks u (Err s)
      going_halts d before k =
          let t = enters f (at + 6) next Aggregate (level + 1) rest aggregated.2 before k in
          record { reached = before; matches = tt; same = t.same ∙ rw (inner d before k).same }

      pub going_aggregate : {n : ℕ} {u b : List ℕ} → Ends (walk_of img x.start x.stop 1 x.level rest) m u (Ok n) → Stays rest m back u b n
          → Going img g u b own level x.stop end kind n depth
      going_aggregate {n} {u} {b} d k =
          subst (λ (y : Inner). Going img g u b own level y.stop end kind n depth) (sym aggregated.2)
          (past sized u b n (keeps_trans (keeps_marks aggregated.0) k.kept) k.are (k.long ∙ now.long) k.less
          (λ before j.
          let t = enters f (at + 6) next Aggregate (level + 1) rest aggregated.2 before j in
          let i = inner d before j in
          over sized (whole img g before) (walk_of img (at + 6) next 1 (level + 1) rest t.reached) t.same i.same i.matches))
