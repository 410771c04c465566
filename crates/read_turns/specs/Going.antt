-- The walk over a logical list: what holds at each turn of its loop.
use Rattle.std.specs.Prelude.{◌≡◌, Bool, false, cond, length, take, drop}
use Rattle.std.proofs.Math.Path.{refl, sym, ap, subst}
use Rattle.std.proofs.Common.{◌∙◌, add-one, arith, length-take-le, eqb-true, eq-eqb, ne_eqb}
use Rattle.std.proofs.Math.Bool.{true}
use mathlib.Core.List.{List, [], ◌∷◌}
use Prim.Native.Nat.{ℕ, suc, ◌+◌, ◌-◌, ◌*◌, ◌/◌, ◌%◌, ◌≤◌, ◌<◌}
use Rattle.std.proofs.Math.ListN.{get_or, set, length-take, length-set}
use Rattle.std.proofs.Math.Seq.{get_or-set_same, get_or-set_other}
use Rattle.std.proofs.Math.Dec.{eqb}
use Rattle.model.specs.Limits.{most_pages, page_size, capacity, most_levels}
use Rattle.model.specs.Tree.{width}
use Rattle.model.specs.Reading.{used_at, settled_at, name_at, back_at}
use Rattle.model.specs.WalkTests.{whole_size, passing_kind, record_of}
use Rattle.theory_check.specs.Tests.{is_marked, marked}
use Rattle.theory_check.specs.Marks.{IsMarks, marks_kept, is_marked_lem}
use Rattle.theory_check.specs.Walk.{State, state, with_mark, enters_of, Decoded, node, as_rec, node_of, proxy_of}
use Rattle.theory_check.specs.Widths.{widths_after, kept, widths_length}
use Rattle.theory_check.specs.Steps.{entered, size_long, less}
use Rattle.base_node_kinds.specs.declared.Kinds.{Kinds}
use Rattle.base_node_kinds.specs.Holders.{kinds_in}
use Rattle.read_nodes.specs.Stand.{Holds, one, four}
use Rattle.theory_check.specs.Levels.{Outcome, refused, reached, outcome, outcome_of, bytes, Frame, frame, page_in, holder_in, end_in, resume}
use Rattle.theory_check.specs.Levels.{resume_end, resume_out, resume_turn, resume_bad, resume_in, node_proxy, proxy_in}
use Rattle.theory_check.specs.Stays.{stays_marked, fresh_other, marked_stays}
use Rattle.read_walker.specs.Turns.{way_back}

-- ── what a call comes to ──

-- The bytes of a part, which starts at byte `at` of the image and ends on the page on which it starts.
pub record PartAt (img part : List ℕ) (at : ℕ) : Type 0 where
  pub is : part ≡ bytes img at (at + length part)
  pub inside : at + length part ≤ length img
  pub page : at + length part ≤ page_size * (at / page_size) + capacity
  pub low : at / page_size < most_pages

-- The outcome is the definition's; and the ways back of the pages that were marked stay.
pub record Ended (d : Decoded) (r : ℕ) (before marks old new was back : List ℕ) : Type 0 where
  pub came : outcome (state r marks) new ≡ outcome_of d old
  pub stays : (r ≡ 0 → ⊥) → (q : ℕ) → q < most_pages → is_marked before q ≡ true → get_or back q 0 ≡ get_or was q 0
  pub long : (r ≡ 0 → ⊥) → length back ≡ length was

pub record Reached (d : Decoded) (r : ℕ) (marks old new : List ℕ) : Type 0 where
  pub walk : d.walk ≡ state r marks
  pub table : new ≡ widths_after d.row old

-- a walk that is not refused has its state and its table
pub reaches : (d : Decoded) (r : ℕ) (marks old new : List ℕ) → outcome (state r marks) new ≡ outcome_of d old → (r ≡ 0 → ⊥) → Reached d r marks old new
reaches d r marks old new e z = go (eqb d.walk.left 0) refl (simp (ne_eqb r 0 z) at e)
  where
    go : (x : Bool) → eqb d.walk.left 0 ≡ x → reached (state r marks) new ≡ cond x refused (reached d.walk (widths_after d.row old))
        → Reached d r marks old new
    go true q f = let z : ◌≡◌ {A = ℕ} 0 1 = cc in absurd (omega arith)
    go false q f = let a : d.walk ≡ state r marks = cc in let b : new ≡ widths_after d.row old = cc in record { walk = a; table = b }

-- a walk that is refused leaves no page
pub left_none : (d : Decoded) (r : ℕ) (marks old new : List ℕ) → outcome (state r marks) new ≡ outcome_of d old → r ≡ 0 → d.walk.left ≡ 0
left_none d r marks old new e z = go (eqb d.walk.left 0) refl (simp (eq-eqb r 0 z) at e)
  where
    go : (x : Bool) → eqb d.walk.left 0 ≡ x → refused ≡ cond x refused (reached d.walk (widths_after d.row old)) → d.walk.left ≡ 0
    go true q f = eqb-true _ _ q
    go false q f = let z : ◌≡◌ {A = ℕ} 0 1 = cc in absurd (omega arith)

-- ── the records that are open ──

-- The page is none of theirs.
abbrev pub Apart : ℕ → List Frame → Type 0
Apart p [] = Unit {0}
Apart p (f ∷ fs) = (f.page ≡ p → ⊥) × Apart p fs

module _ (img : List ℕ) (page level last : ℕ) where
  -- What the tables have of one, n nodes being passed; fs are those around it.
  pub record Held (marks back table : List ℕ) (n : ℕ) (f : Frame) (fs : List Frame) : Type 0 where
    pub low : f.page < most_pages
    pub inside : page_size * f.page + page_size ≤ length img
    pub used : used_at img (page_size * f.page) ≤ capacity
    pub marked : is_marked marks f.page ≡ true
    pub to : way_back img back f.page ≡ f.to
    pub passed : get_or table f.page 0 ≡ f.passed
    pub few : f.passed ≤ n
    pub place : f.to / page_size ≡ page_in img page level last fs
    pub within : f.to ≤ end_in img page level last fs
    pub apart : Apart f.page fs

  unfoldable pub Chain : (marks back table : List ℕ) → (n : ℕ) → List Frame → Type 0
  Chain marks back c n [] = Unit {0}
  Chain marks back c n (f ∷ fs) = Held marks back c n f fs × Chain marks back c f.passed fs

  held_as : (marks m back b c t : List ℕ) (n : ℕ) (f : Frame) (fs : List Frame) → is_marked m f.page ≡ true → get_or b f.page 0 ≡ get_or back f.page 0
      → get_or t f.page 0 ≡ get_or c f.page 0 → Held marks back c n f fs → Held m b t n f fs
  held_as marks m back b c t n f fs x y z h = record {
    low = h.low;
    inside = h.inside;
    used = h.used;
    marked = x;
    to = ap (λ (n : ℕ). page_size * back_at img (page_size * f.page) + n) y ∙ h.to;
    passed = z ∙ h.passed;
    few = h.few;
    place = h.place;
    within = h.within;
    apart = h.apart;
  }

  -- other tables that have the same of the marked pages
  pub chain_as : (marks m back b c t : List ℕ)
      → ((q : ℕ) → q < most_pages → is_marked marks q ≡ true → (is_marked m q ≡ true) × (get_or b q 0 ≡ get_or back q 0) × (get_or t q 0 ≡ get_or c q 0))
      → (n : ℕ) (fs : List Frame) → Chain marks back c n fs → Chain m b t n fs
  unfolding Chain
  chain_as marks m back b c t e n [] h = tt
  chain_as marks m back b c t e n (f ∷ fs) h =
      let k = e f.page h.0.low h.0.marked in
      (held_as marks m back b c t n f fs k.0 k.1 k.2 h.0, chain_as marks m back b c t e f.passed fs h.1)

  -- one page's entry is written that is none of theirs
  pub chain_set : (marks back c : List ℕ) (p v n : ℕ) (fs : List Frame) → Apart p fs → Chain marks back c n fs → Chain marks back (set c p v) n fs
  unfolding Chain
  chain_set marks back c p v n [] a h = tt
  chain_set marks back c p v n (f ∷ fs) a h = (
    held_as marks marks back back c (set c p v) n f fs h.0.marked refl (get_or-set_other c p f.page v 0 a.0) h.0,
    chain_set marks back c p v f.passed fs a.1 h.1,
  )

  pub chain_more : (marks back c : List ℕ) (n m : ℕ) (fs : List Frame) → n ≤ m → Chain marks back c n fs → Chain marks back c m fs
  unfolding Chain
  chain_more marks back c n m [] l h = tt
  chain_more marks back c n m (f ∷ fs) l h =
      let k = h.0 in (
        record {
          low = k.low;
          inside = k.inside;
          used = k.used;
          marked = k.marked;
          to = k.to;
          passed = k.passed;
          few = omega (arith, k.few);
          place = k.place;
          within = k.within;
          apart = k.apart;
        },
        h.1,
      )

  -- a page that is not marked is none of theirs
  pub chain_apart : (marks back c : List ℕ) (p n : ℕ) (fs : List Frame) → is_marked marks p ≡ false → Chain marks back c n fs → Apart p fs
  unfolding Chain
  chain_apart marks back c p n [] e h = tt
  chain_apart marks back c p n (f ∷ fs) e h = (fresh_other marks p f.page e h.0.marked, chain_apart marks back c p f.passed fs e h.1)

-- ── a turn ──

-- What a list is to come to: its own row, on a page, ends at the byte `last`; the outcome; pages left, bytes of its part, marks, widths and ways back at its
-- start.
pub record Goal : Type 0 where
  pub page : ℕ
  pub level : ℕ
  pub last : ℕ
  pub result : Outcome
  pub left : ℕ
  pub long : ℕ
  pub marks : List ℕ
  pub widths : List ℕ
  pub back : List ℕ

-- Its own row stands in the image, its numbers are in range, and the tables have an entry for each page.
pub record Own (img : List ℕ) (g : Goal) : Type 0 where
  pub inside : g.last ≤ length img
  pub end : g.last ≤ page_size * g.page + capacity
  pub low : g.page < most_pages
  pub deep : g.level ≤ most_levels + 1
  pub few : g.left ≤ most_pages
  pub short : g.long ≤ capacity
  pub wide : length img ≤ page_size * length g.widths
  pub back_long : length img ≤ page_size * length g.back

-- The list from byte `at` of the image on, whose row ends at `end`, n nodes being passed and so many records open, comes to what the whole is to come to.
pub record Going (img : List ℕ) (g : Goal) (marks widths back : List ℕ) (may : Kinds) (cur n depth at end : ℕ) : Type 0 where
  pub frames : List Frame
  pub whole : resume img g.page g.level g.last at n (state cur marks) widths frames ≡ g.result
  pub count : length frames ≡ depth
  pub ends : end ≡ end_in img g.page g.level g.last frames
  pub may_is : may ≡ kinds_in (holder_in img g.page g.level g.last frames)
  pub here : at / page_size ≡ page_in img g.page g.level g.last frames
  pub within : at ≤ end
  pub chain : Chain img g.page g.level g.last marks back widths n frames
  pub is_marks : IsMarks marks
  pub on : (q : ℕ) → q < most_pages → is_marked g.marks q ≡ true → is_marked marks q ≡ true
  pub kept : (q : ℕ) → q < most_pages → is_marked g.marks q ≡ true → get_or back q 0 ≡ get_or g.back q 0
  pub wide : length widths ≡ length g.widths
  pub back_long : length back ≡ length g.back
  pub few : cur ≤ g.left
  pub fewer : 1 ≤ depth → cur < g.left
  pub falls : n + 8192 * cur + 4096 * depth + (end - at) ≤ 8192 * g.left + g.long

module _ {img : List ℕ} {g : Goal} (own : Own img g) where
  abbrev pages : List Frame → ℕ
  pages = page_in img g.page g.level g.last

  abbrev stops : List Frame → ℕ
  stops = end_in img g.page g.level g.last

  abbrev holders : List Frame → ℕ
  holders = holder_in img g.page g.level g.last

  abbrev Links : (marks back table : List ℕ) → (n : ℕ) → List Frame → Type 0
  Links = Chain img g.page g.level g.last

  -- a row stands in the image and on its page
  pub row_in : (marks back c : List ℕ) (n : ℕ) (fs : List Frame) → Links marks back c n fs
      → (stops fs ≤ length img) × (stops fs ≤ page_size * pages fs + capacity) × (pages fs < most_pages)
  unfolding Chain
  row_in marks back c n [] h = (own.inside, own.end, own.low)
  row_in marks back c n (f ∷ fs) h = let k = h.0 in (omega (arith, k.used, k.inside), omega (arith, k.used), k.low)

  pub holds : (fs : List Frame) → Holds (holders fs)
  holds [] = one
  holds (f ∷ fs) = four

  module _ {marks widths back : List ℕ} {may : Kinds} {cur n depth at end : ℕ} (now : Going img g marks widths back may cur n depth at end) where
    -- the bytes that are left of the row, and the holder of its nodes
    abbrev pub onward : List ℕ
    onward = bytes img at end

    abbrev pub holder : ℕ
    holder = holders now.frames

    abbrev here_state : State
    here_state = state cur marks

    pub going_page : (stops now.frames ≤ length img) × (stops now.frames ≤ page_size * pages now.frames + capacity) × (pages now.frames < most_pages)
    going_page = row_in marks back widths n now.frames now.chain

    pub going_end : end ≤ length img
    going_end = omega (arith, going_page.0, now.ends)

    module _ (size : ℕ) (is : size ≡ whole_size onward) (some : size ≡ 0 → ⊥) (ok : cur ≡ 0 → ⊥) where
      abbrev fs : List Frame
      fs = now.frames

      -- the node that stands there
      abbrev pub first : Decoded
      first = node_of img (take size onward) (at / page_size) holder g.level here_state

      pub first_in : (6 ≤ size) × (at + size ≤ end) × (length (take size onward) ≡ size)
      first_in =
          let h = size_long onward (ne_eqb _ _ (λ z. some (is ∙ z))) in
          let l = length-take (end - at) (drop at img) in
          (omega (arith, h.0), omega (arith, h.1, l, h.0), length-take-le size onward (omega (arith, h.1)))

      is' : size ≡ whole_size (bytes img at (stops fs))
      is' = is ∙ ap (λ (e : ℕ). whole_size (bytes img at e)) now.ends

      first' : first ≡ node_of img (take size (bytes img at (stops fs))) (pages fs) holder g.level here_state
      first' = λ i. node_of img (take size (bytes img at (now.ends i))) (now.here i) holder g.level here_state

      -- a node that is refused
      pub going_bad : first.walk.left ≡ 0 → refused ≡ g.result
      going_bad z =
          sym (resume_bad img g.page g.level g.last at n here_state widths fs ok size is' some (ap (λ (d : Decoded). d.walk.left) (sym first') ∙ z))
          ∙ now.whole

      -- past a node
      pub going_turn : (r : ℕ) (m new b : List ℕ) → first.walk ≡ state r m → new ≡ widths_after first.row widths → width first.row ≡ 1
          → ((q : ℕ) → q < most_pages → is_marked marks q ≡ true → get_or b q 0 ≡ get_or back q 0) → length b ≡ length g.back
          → Going img g m new b may r (n + 1) depth (at + size) end
      going_turn r m new b walk table one-wide stays long =
          let a = first in
          let k = stays_marked img (node (take size onward) (at / page_size) holder g.level here_state) now.is_marks in
          let mm : a.walk.marks ≡ m = ap (λ (v : State). v.marks) walk in
          let l : r ≤ cur = omega (arith, less img (node (take size onward) (at / page_size) holder g.level here_state), ap (λ (v : State). v.left) walk) in
          let on' : (q : ℕ) → q < most_pages → is_marked marks q ≡ true → is_marked m q ≡ true =
          λ q i e. ap (λ (x : List ℕ). is_marked x q) (sym mm) ∙ (k.stays q i e).0 in
          let s = first_in in
          let p = going_page in
          let turn = resume_turn img g.page g.level g.last at n here_state widths fs ok size is' some in
          let w1 : n + width first.row ≡ n + 1 = ap (λ (x : ℕ). n + x) one-wide in
          let e1 = now.ends in
          let e2 = now.here in
          record {
            frames = fs;
            whole =
                sym (turn
                ∙ ap (λ (d : Decoded). resume img g.page g.level g.last (at + size) (n + width d.row) d.walk (widths_after d.row widths) fs) (sym first')
                ∙ (λ i. resume img g.page g.level g.last (at + size) (w1 i) (walk i) (sym table i) fs))
                ∙ now.whole;
            count = now.count;
            ends = now.ends;
            may_is = now.may_is;
            here = omega (arith, s, p, e1, e2);
            within = s.1;
            chain =
                chain_more img g.page g.level g.last m b new n (n + 1) fs (omega arith)
                (chain_as img g.page g.level g.last marks m back b widths new
                (λ q i e. (on' q i e, stays q i e, ap (λ (x : List ℕ). get_or x q 0) table ∙ kept a.row widths q (k.stays q i e).1)) n fs now.chain);
            is_marks = subst IsMarks mm k.marks;
            on = λ q i e. on' q i (now.on q i e);
            kept = λ q i e. stays q i (now.on q i e) ∙ now.kept q i e;
            wide = ap length table ∙ widths_length a.row widths ∙ now.wide;
            back_long = long;
            few = omega (arith, l, now.few);
            fewer = λ h. omega (arith, l, now.fewer h);
            falls = omega (arith, l, now.falls, s);
          }

      -- into a helper's record
      pub going_in : (p : ℕ) → size ≡ 8 → p ≡ name_at (take size onward) 0 → passing_kind (take size onward) holder ≡ 3
          → enters_of img p (at / page_size) here_state ≡ true → passing_kind (record_of img p) 0 ≡ 4 → 6 ≤ length (record_of img p)
          → Going img g (marked marks p) (set widths p n) (set back p ((at + size) % page_size)) (kinds_in 4) (cur - 1) n (depth + 1) (page_size * p + 6)
          (page_size * p + used_at img (page_size * p))
      unfolding Chain
      going_in p eight name proxy enters helper long =
          let x = entered img p (at / page_size) here_state enters in
          let low = x.names.low in
          let s = first_in in
          let f = frame p (at + size) n in
          let used = used_at img (page_size * p) in
          let e1 = now.ends in
          let e2 = now.here in
          let pg = going_page in
          let l6 : 6 ≤ used = omega (arith, length-take used (drop (page_size * p) img), long) in
          let proxy' : passing_kind (take size (bytes img at (stops fs))) holder ≡ 3 =
          ap (λ (e : ℕ). passing_kind (take size (bytes img at e)) holder) (sym now.ends) ∙ proxy in
          let name' : p ≡ name_at (take size (bytes img at (stops fs))) 0 = name ∙ ap (λ (e : ℕ). name_at (take size (bytes img at e)) 0) now.ends in
          let enters' : enters_of img p (pages fs) here_state ≡ true = ap (λ (q : ℕ). enters_of img p q here_state) (sym now.here) ∙ enters in
          let other : (q : ℕ) → is_marked marks q ≡ true → q ≡ p → ⊥ = λ q e. fresh_other marks p q x.fresh e in
          let same : (q : ℕ) → q < most_pages → is_marked marks q ≡ true → is_marked (marked marks p) q ≡ true =
          λ q i e. marked_stays marks p q now.is_marks low i x.fresh e in
          let own-mark : is_marked (marked marks p) p ≡ true = is_marked_lem marks p p now.is_marks low low ∙ simp (eq-eqb p p refl) in
          record {
            frames = f ∷ fs;
            whole =
                sym (resume_in img g.page g.level g.last at n here_state widths fs ok size is' some p n eight name' proxy' enters' helper) ∙ now.whole;
            count = ap suc now.count ∙ sym (add-one depth);
            ends = refl;
            may_is = refl;
            here = omega arith;
            within = omega (arith, l6);
            chain = (
              record {
                low = low;
                inside = x.names.inside;
                used = x.names.used;
                marked = own-mark;
                to =
                    let z = get_or-set_same back p ((at + size) % page_size) 0 (omega (arith, now.back_long, own.back_long, x.names.inside)) in
                    omega (arith, z, x.names.holder, s, pg, e1, e2);
                passed = get_or-set_same widths p n 0 (omega (arith, now.wide, own.wide, x.names.inside));
                few = omega arith;
                place = omega (arith, s, pg, e1, e2);
                within = omega (arith, s, e1);
                apart = chain_apart img g.page g.level g.last marks back widths p n fs x.fresh now.chain;
              },
              chain_as img g.page g.level g.last marks (marked marks p) back (set back p ((at + size) % page_size)) widths (set widths p n)
                  (λ q i e. (same q i e, get_or-set_other back p q ((at + size) % page_size) 0 (other q e), get_or-set_other widths p q n 0 (other q e))) n fs now.chain,
            );
            is_marks = marks_kept marks p now.is_marks low;
            on = λ q i e. same q i (now.on q i e);
            kept = λ q i e. get_or-set_other back p q ((at + size) % page_size) 0 (other q (now.on q i e)) ∙ now.kept q i e;
            wide = length-set widths p n ∙ now.wide;
            back_long = length-set back p ((at + size) % page_size) ∙ now.back_long;
            few = omega (arith, now.few);
            fewer = λ h. omega (arith, x.room, now.few);
            falls = omega (arith, x.room, now.falls, s, x.names.used);
          }

      -- the record of a proxy, whose root is a node by itself: an aggregate or a literal
      pub going_record : (p r : ℕ) (m new b : List ℕ) → length (take size onward) ≡ 8 → p ≡ name_at (take size onward) 0 → passing_kind (take size onward) holder ≡ 3
          → enters_of img p (at / page_size) here_state ≡ true
          → let d = node_of img (record_of img p) p 0 g.level (with_mark here_state p) in
          d.walk ≡ state r m → new ≡ widths_after d.row widths → width d.row ≡ 1
          → ((q : ℕ) → q < most_pages → is_marked (marked marks p) q ≡ true → get_or b q 0 ≡ get_or back q 0) → length b ≡ length g.back
          → Going img g m (set new p 1) b may r (n + 1) depth (at + size) end
      unfolding widths_after
      going_record p r m new b eight name proxy enters walk table one-wide stays long =
          let x = entered img p (at / page_size) here_state enters in
          let d = node_of img (record_of img p) p 0 g.level (with_mark here_state p) in
          let t = eqb (settled_at img (page_size * p)) 1 in
          let a : first ≡ as_rec p t d =
          node_proxy img (take size onward) (at / page_size) holder g.level here_state proxy eight
          ∙ ap (λ (k : ℕ). proxy_of img k (at / page_size) g.level here_state) (sym name)
          ∙ proxy_in img p (at / page_size) g.level here_state enters in
          going_turn r m (set new p 1) b (ap (λ (y : Decoded). y.walk) a ∙ walk)
          ((λ i. set (table i) p (sym one-wide i)) ∙ ap (λ (y : Decoded). widths_after y.row widths) (sym a))
          (ap (λ (y : Decoded). width y.row) a ∙ omega (arith, one-wide))
          (λ q i e. stays q i (marked_stays marks p q now.is_marks x.names.low i x.fresh e)) long

    -- the list's end
    pub going_done : end ≡ at → depth ≡ 0 → outcome (state cur marks) widths ≡ g.result
    going_done e z = go now.frames now.count now.ends now.whole
      where
        go : (fs : List Frame) → length fs ≡ depth → end ≡ stops fs → resume img g.page g.level g.last at n (state cur marks) widths fs ≡ g.result
            → outcome (state cur marks) widths ≡ g.result
        go [] k f w = sym (resume_end img g.page g.level g.last at n (state cur marks) widths (omega arith)) ∙ w
        go (f ∷ fs) k i w = absurd (omega arith)

  -- ── out of a helper's record ──

  -- What the tables say of the innermost record, at whose end the list is, and how it goes on.
  pub record Out (marks widths back : List ℕ) (cur n depth at : ℕ) : Type 0 where
    pub inside : page_size * (at / page_size) + page_size ≤ length img
    pub few : get_or widths (at / page_size) 0 ≤ n
    pub fits : way_back img back (at / page_size) ≤ length img
    pub own_row : depth - 1 ≡ 0 → Going img g marks (set widths (at / page_size) (n - get_or widths (at / page_size) 0)) back (kinds_in 1) cur n (depth - 1)
        (way_back img back (at / page_size)) g.last
    pub outer_row : (depth - 1 ≡ 0 → ⊥) → let q = way_back img back (at / page_size) / page_size in
        (q < most_pages) × (page_size * q + page_size ≤ length img)
        × Going img g marks (set widths (at / page_size) (n - get_or widths (at / page_size) 0)) back (kinds_in 4) cur n (depth - 1)
        (way_back img back (at / page_size)) (page_size * q + used_at img (page_size * q))

  module _ {marks widths back : List ℕ} {may : Kinds} {cur n depth at end : ℕ} (now : Going img g marks widths back may cur n depth at end)
      (over : end ≡ at) (in_one : depth ≡ 0 → ⊥) where
    abbrev p₀ : ℕ
    p₀ = at / page_size

    -- the frames, innermost first
    module _ (f : Frame) (fs : List Frame) (k : length (f ∷ fs) ≡ depth) (i : end ≡ stops (f ∷ fs)) (h : p₀ ≡ f.page)
        (c : Links marks back widths n (f ∷ fs)) (w : resume img g.page g.level g.last at n (state cur marks) widths (f ∷ fs) ≡ g.result) where
      held : Held img g.page g.level g.last marks back widths n f fs
      unfolding Chain
      held = c.0

      links : Links marks back widths f.passed fs
      unfolding Chain
      links = c.1

      passed_is : get_or widths p₀ 0 ≡ f.passed
      passed_is = ap (λ (q : ℕ). get_or widths q 0) h ∙ held.passed

      to_is : way_back img back p₀ ≡ f.to
      to_is = ap (λ (q : ℕ). way_back img back q) h ∙ held.to

      outer : (stops fs ≤ length img) × (stops fs ≤ page_size * pages fs + capacity) × (pages fs < most_pages)
      outer = row_in marks back widths f.passed fs links

      table : List ℕ
      table = set widths f.page (n - f.passed)

      table_is : set widths p₀ (n - get_or widths p₀ 0) ≡ table
      unfolding table
      table_is = λ j. set widths (h j) (n - passed_is j)

      next : Going img g marks table back (kinds_in (holders fs)) cur n (depth - 1) f.to (stops fs)
      unfolding table
      next =
          let o = outer in
          let a = held.within in
          let b = held.place in
          record {
            frames = fs;
            whole = sym (resume_out img g.page g.level g.last at n (state cur marks) widths f fs (omega arith)) ∙ w;
            count = omega arith;
            ends = refl;
            may_is = refl;
            here = held.place;
            within = held.within;
            chain =
                chain_more img g.page g.level g.last marks back (set widths f.page (n - f.passed)) f.passed n fs held.few
                (chain_set img g.page g.level g.last marks back widths f.page (n - f.passed) f.passed fs held.apart links);
            is_marks = now.is_marks;
            on = now.on;
            kept = now.kept;
            wide = length-set widths f.page (n - f.passed) ∙ now.wide;
            back_long = now.back_long;
            few = now.few;
            fewer = λ e. now.fewer (omega arith);
            falls = omega (arith, now.falls, o, a, b);
          }

      next' : Going img g marks (set widths p₀ (n - get_or widths p₀ 0)) back (kinds_in (holders fs)) cur n (depth - 1) (way_back img back p₀) (stops fs)
      next' = subst (λ (t : List ℕ). Going img g marks t back (kinds_in (holders fs)) cur n (depth - 1) (way_back img back p₀) (stops fs)) (sym table_is)
          (subst (λ (t : ℕ). Going img g marks table back (kinds_in (holders fs)) cur n (depth - 1) t (stops fs)) (sym to_is) next)

    module _ (f : Frame) where
      own_case : (fs : List Frame) → length (f ∷ fs) ≡ depth → depth - 1 ≡ 0
          → Going img g marks (set widths p₀ (n - get_or widths p₀ 0)) back (kinds_in (holders fs)) cur n (depth - 1) (way_back img back p₀) (stops fs)
          → Going img g marks (set widths p₀ (n - get_or widths p₀ 0)) back (kinds_in 1) cur n (depth - 1) (way_back img back p₀) g.last
      own_case [] k z x = x
      own_case (e ∷ fs) k z x = absurd (omega arith)

      outer_case : (fs : List Frame) → length (f ∷ fs) ≡ depth → (depth - 1 ≡ 0 → ⊥) → Links marks back widths f.passed fs → way_back img back p₀ / page_size ≡ pages fs
          → Going img g marks (set widths p₀ (n - get_or widths p₀ 0)) back (kinds_in (holders fs)) cur n (depth - 1) (way_back img back p₀) (stops fs)
          → let q = way_back img back p₀ / page_size in
          (q < most_pages) × (page_size * q + page_size ≤ length img)
          × Going img g marks (set widths p₀ (n - get_or widths p₀ 0)) back (kinds_in 4) cur n (depth - 1) (way_back img back p₀) (page_size * q + used_at img (page_size * q))
      unfolding Chain
      outer_case [] k z l e x = absurd (z (omega arith))
      outer_case (o ∷ fs) k z l e x =
          let hold = l.0 in (
            omega (arith, e, hold.low),
            omega (arith, e, hold.inside),
            subst (λ (q : ℕ). Going img g marks (set widths p₀ (n - get_or widths p₀ 0)) back (kinds_in 4) cur n (depth - 1) (way_back img back p₀)
                (page_size * q + used_at img (page_size * q))) (sym e) x,
          )

    pub going_out : Out marks widths back cur n depth at
    going_out = go now.frames now.count now.ends now.here now.chain now.whole
      where
        go : (fs : List Frame) → length fs ≡ depth → end ≡ stops fs → p₀ ≡ pages fs → Links marks back widths n fs
            → resume img g.page g.level g.last at n (state cur marks) widths fs ≡ g.result → Out marks widths back cur n depth at
        go [] k i h c w = absurd (in_one (sym k))
        go (f ∷ fs) k i h c w =
            let x = held f fs k i h c w in
            let o = outer f fs k i h c w in
            let t = to_is f fs k i h c w in
            let b = passed_is f fs k i h c w in
            let y = next' f fs k i h c w in
            record {
              inside = omega (arith, x.inside);
              few = omega (arith, x.few);
              fits = omega (arith, x.within, o);
              own_row = λ z. own_case f fs k z y;
              outer_row = λ z. outer_case f fs k z (links f fs k i h c w) (ap (λ (q : ℕ). q / page_size) t ∙ x.place) y;
            }
