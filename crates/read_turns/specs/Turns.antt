-- The turns of the loop over a logical list, as the code makes them.
use Rattle.std.specs.Prelude.{◌≡◌, refl, Bool, true, false, ℕ, ◌+◌, ◌-◌, ◌*◌, ◌/◌, ◌%◌, ◌≤◌, ◌<◌, get_or, set, drop, eqb, ltb}
use Rattle.std.proofs.Math.Path.{sym, ap, subst}
use Rattle.std.proofs.Common.{◌∙◌, true≢false, arith, length-take-le, get_or-take, eqb-true, ltb-true, ltb-false, leb-true, le-leb, eq-eqb}
use mathlib.Core.List.{List, [], ◌∷◌}
use Rattle.std.proofs.Math.ListN.{length, take, length-take, length-drop}
use Rattle.std.proofs.lemmas.Bool.{eqb-false}
use Rattle.model.specs.Limits.{most_pages, page_size, capacity, most_levels, most_node, most_origin}
use Rattle.model.specs.Row.{may_stand}
use Rattle.model.specs.Tree.{width}
use Rattle.model.specs.Reading.{used_at, name_at, kind_at, head_at, two_at}
use Rattle.model.specs.WalkTests.{whole_size, shape_of, passing_kind, record_of}
use Rattle.theory_check.specs.Tests.{is_marked, marked}
use Rattle.theory_check.specs.Marks.{IsMarks}
use Rattle.theory_check.specs.Walk.{State, state, with_mark, enters_of, Decoded, node, as_agg, node_of, list_of, proxy_of}
use Rattle.theory_check.specs.Widths.{widths_after}
use Rattle.theory_check.specs.Steps.{Entered, entered, list_none, passing, less}
use Rattle.theory_check.specs.Facts.{rest_is}
use Rattle.read_nodes.specs.Leaf.{aggregate_of, literal_of, stands_of, Only}
use Rattle.read_nodes.specs.Leaves.{childless_head, literal_head, sized}
use Rattle.base_node_kinds.specs.declared.Kinds.{Kinds}
use Rattle.base_node_kinds.specs.Holders.{kinds_in}
use Rattle.theory_check.specs.Levels.{refused, outcome, outcome_of, bytes, bytes_take, bytes_drop, Frame, holder_in, resume_whole, resume_stop, node_proxy, proxy_in}
use Rattle.read_nodes.specs.Stand.{kind_by, aggregate_by, literal_by, kind_is, no_helper, Holds}
use Rattle.theory_check.specs.ByKind.{node_none, node_agg, node_lit, node_deep, node_3_bad, node_3_out, node_wide}
use Rattle.read_leaves.specs.Leafy.{innermost, Leafy}
use Rattle.read_walker.specs.Turns.{way_back}
use Rattle.read_turns.specs.Going.{PartAt, Ended, reaches, left_none, Goal, Own, Going, Chain, holds, holder, going_page, going_end, first_in, going_bad}
use Rattle.read_turns.specs.Going.{going_turn, going_in, going_record, Out, going_out}

-- What a list is to come to.
abbrev pub goal_of : (img part : List ℕ) → (start level left : ℕ) → (marks widths back : List ℕ) → Goal
goal_of img part start level left marks widths back = record {
  page = start / page_size;
  level = level;
  last = start + length part;
  result = outcome_of (list_of img part (start / page_size) 1 level (state left marks)) widths;
  left = left;
  long = length part;
  marks = marks;
  widths = widths;
  back = back;
}

abbrev pub At : (img : List ℕ) → Goal → (marks widths back : List ℕ) → Kinds → (cur n depth at end : ℕ) → Type 0
At img g marks widths back may cur n depth at end = Going img g marks widths back may cur n depth at end × (1 ≤ cur)

module _ (img part : List ℕ) (start level left : ℕ) (marks widths back : List ℕ) (p : PartAt img part start) where
  pub own_of_lem : level ≤ most_levels + 1 → left ≤ most_pages → length img ≤ page_size * length widths → length img ≤ page_size * length back
      → Own img (goal_of img part start level left marks widths back)
  own_of_lem deep few w b = record {
    inside = p.inside;
    end = p.page;
    low = p.low;
    deep = deep;
    few = few;
    short = omega (arith, p.page);
    wide = w;
    back_long = b;
  }

  -- at its start
  pub at_start : IsMarks marks → 1 ≤ left → (may : Kinds) → may ≡ kinds_in 1
      → At img (goal_of img part start level left marks widths back) marks widths back may left 0 0 start (start + length part)
  unfolding Chain
  at_start m l may e = (
    record {
      frames = [];
      whole =
          resume_whole img (start / page_size) level (start + length part) start 0 (state left marks) widths
          ∙ ap (λ (s : List ℕ). outcome_of (list_of img s (start / page_size) 1 level (state left marks)) widths) (sym p.is);
      count = refl;
      ends = refl;
      may_is = e;
      here = refl;
      within = omega arith;
      chain = tt;
      is_marks = m;
      on = λ q i e. e;
      kept = λ q i e. refl;
      wide = refl;
      back_long = refl;
      few = omega arith;
      fewer = λ h. absurd (omega arith);
      falls = omega arith;
    },
    l,
  )

-- ── ends ──

-- a refusal
pub ended_none : {d : Decoded} (before marks old new was back : List ℕ) → refused ≡ outcome_of d old → Ended d 0 before marks old new was back
ended_none before marks old new was back e = record { came = e; stays = λ z. absurd (z refl); long = λ z. absurd (z refl) }

-- no more pages are left than there were
ended_less : (d : Decoded) (r : ℕ) (marks old new : List ℕ) {n : ℕ} → outcome (state r marks) new ≡ outcome_of d old → d.walk.left ≤ n → r ≤ n
ended_less d r marks old new {n} e l = go (eqb r 0) refl
  where
    go : (b : Bool) → eqb r 0 ≡ b → r ≤ n
    go true q = omega (arith, eqb-true r 0 q)
    go false q = omega (arith, ap (λ (v : State). v.left) (reaches d r marks old new e (eqb-false r 0 q)).walk)

-- a record's bytes, as they are cut from the image
pub record_is : (img : List ℕ) (p e : ℕ) → e ≡ page_size * p + used_at img (page_size * p) → bytes img (page_size * p) e ≡ record_of img p
record_is img p e q =
    let z : e - page_size * p ≡ used_at img (page_size * p) = omega arith in
    ap (λ (k : ℕ). take k (drop (page_size * p) img)) z

-- what a literal's test asks, a literal has
literal_passes : (s : List ℕ) (size h level : ℕ) → size ≡ whole_size s → (size ≡ 0 → ⊥) → passing_kind (take size s) h ≡ 2 → level ≤ most_levels
    → literal_of s size (may_stand h 2) level ≡ true
unfolding literal_of stands_of shape_of two_at
literal_passes s size h level e z k l =
    let t = sized s size e z in
    let n = length-take-le size s t.1 in
    let p = passing (take size s) h 2 k (λ q. omega arith) in
    let first : kind_at s 0 ≡ 2 = sym (get_or-take size s 0 0 (omega (arith, t.0))) ∙ p.first in
    let origin : (head_at s 0).origin ≤ most_origin = rw (get_or-take size s 1 0 (omega (arith, t.0))) at p.origin in
    let short : size ≤ most_node = omega (arith, leb-true (length (take size s)) most_node p.shape, n) in
    simp (eq-eqb _ _ first, le-leb _ _ origin, le-leb _ _ short, le-leb _ _ l, p.may)

-- a node of a row that is no proxy, no aggregate and no literal that passes
pub node_refused : (img s : List ℕ) (size page holder level : ℕ) (w : State) (kind : ℕ) → Holds holder → size ≡ whole_size s → (size ≡ 0 → ⊥)
    → kind ≡ passing_kind (take size s) holder → (kind ≡ 3 → ⊥) → (kind ≡ 1 → ⊥) → literal_of s size (may_stand holder 2) level ≡ false
    → (node_of img (take size s) page holder level w).walk.left ≡ 0
node_refused img s size page holder level w kind t is some e n3 n1 f = go (eqb kind 0) refl (ltb most_levels level) refl
  where
    go : (a : Bool) → eqb kind 0 ≡ a → (b : Bool) → ltb most_levels level ≡ b → (node_of img (take size s) page holder level w).walk.left ≡ 0
    go true p b q = ap (λ (d : Decoded). d.walk.left) (node_none img (take size s) page holder level w (sym e ∙ eqb-true kind 0 p))
    go false p true q =
        ap (λ (d : Decoded). d.walk.left)
        (node_deep img (take size s) page holder level w (λ z. n3 (e ∙ z)) (λ z. no_helper t (take size s) kind e (e ∙ z)) (ltb-true most_levels level q))
    go false p false q =
        let z = eqb-false kind 0 p in
        let h = passing (take size s) holder kind (sym e) z in
        let four : kind ≡ 4 → ⊥ = no_helper t (take size s) kind e in
        let two : kind ≡ 2 = omega (arith, h.small) in
        absurd (true≢false (sym (literal_passes s size holder level is some (sym e ∙ two) (ltb-false most_levels level q)) ∙ f))

-- ── a turn ──

module _ {img : List ℕ} {g : Goal} (own : Own img g) {marks widths back : List ℕ} {may : Kinds} {cur n depth at end : ℕ}
    (h : At img g marks widths back may cur n depth at end) where
  abbrev hold : ℕ
  hold = holder own h.0

  abbrev x : List ℕ
  x = bytes img at end

  abbrev w : State
  w = state cur marks

  ok : cur ≡ 0 → ⊥
  ok z = omega (arith, h.1)

  -- what is left of a row is short
  pub at_short : end - at ≤ capacity
  at_short = let p = going_page own h.0 in omega (arith, p, h.0.ends, h.0.here)

  pub at_in : (end ≤ length img) × (at ≤ end) × (at / page_size < most_pages) × (end ≤ page_size * (at / page_size) + capacity)
  at_in = let p = going_page own h.0 in (going_end own h.0, h.0.within, omega (arith, p, h.0.here), omega (arith, p, h.0.ends, h.0.here))

  -- no whole node
  pub at_stop : (end ≡ at → ⊥) → whole_size x ≡ 0 → refused ≡ g.result
  at_stop f z =
      let p = going_page own h.0 in
      sym (resume_stop img g.page g.level g.last at n w widths h.0.frames (omega (arith, h.0.ends, h.0.within, f)) p.0
      (ap (λ (e : ℕ). whole_size (bytes img at e)) (sym h.0.ends) ∙ z)) ∙ h.0.whole

  pub at_empty : (r : Bool) → r ≡ aggregate_of x 6 may.aggregate g.level → r ≡ true → At img g marks widths back may cur (n + 1) depth (at + 6) end
  unfolding widths_after
  at_empty r e t =
      let f = childless_head x hold g.level (sym (aggregate_by x 6 hold g.level may h.0.may_is r e) ∙ t) in
      let y = take 6 x in
      let l = list_none img (drop 6 y) (at / page_size) 1 (g.level + 1) w (omega (arith, length-drop 6 y, length-take 6 x)) in
      let d = node_agg img y (at / page_size) hold g.level w (sym f.1) f.2 ∙ ap (as_agg (head_at y 0)) l in (
        going_turn own h.0 6 f.0 (λ q. omega arith) ok cur marks widths back (ap (λ (d : Decoded). d.walk) d)
            (sym (ap (λ (d : Decoded). widths_after d.row widths) d)) (ap (λ (d : Decoded). width d.row) d) (λ q i e. refl) h.0.back_long,
        h.1,
      )

  module _ (size : ℕ) (is : size ≡ whole_size x) (some : size ≡ 0 → ⊥) where
    abbrev y : List ℕ
    y = take size x

    pub at_size : (6 ≤ size) × (at + size ≤ end) × (length y ≡ size)
    at_size = first_in own h.0 size is some ok

    -- the node is a part of the image
    pub at_part : PartAt img y at
    at_part =
        let s = at_size in
        let p = at_in in
        record {
          is = bytes_take img at end size s.1 ∙ ap (λ (k : ℕ). bytes img at (at + k)) (sym s.2);
          inside = omega (arith, s, p);
          page = omega (arith, s, p);
          low = p.2;
        }

    pub at_literal : (r : Bool) → r ≡ literal_of x size may.literal g.level → r ≡ true → At img g marks widths back may cur (n + 1) depth (at + size) end
    unfolding widths_after
    at_literal r e t =
        let f = literal_head x size hold g.level is some (sym (literal_by x size hold g.level may h.0.may_is r e) ∙ t) in
        let d = node_lit img y (at / page_size) hold g.level w (sym f.0) f.1 in (
          going_turn own h.0 size is some ok cur marks widths back (ap (λ (d : Decoded). d.walk) d)
              (sym (ap (λ (d : Decoded). widths_after d.row widths) d)) (ap (λ (d : Decoded). width d.row) d) (λ q i e. refl) h.0.back_long,
          h.1,
        )

    module _ (kind : ℕ) (by : kind ≡ kind_by y may) where
      pub at_kind : kind ≡ passing_kind y hold
      at_kind = by ∙ ap (kind_by y) h.0.may_is ∙ kind_is (holds own h.0.frames) y (omega (arith, at_size))

      -- no proxy, no aggregate
      pub at_none : (r : Bool) → r ≡ literal_of x size may.literal g.level → r ≡ false → (kind ≡ 3 → ⊥) → (kind ≡ 1 → ⊥) → refused ≡ g.result
      at_none r e f a b =
          going_bad own h.0 size is some ok
          (node_refused img x size (at / page_size) hold g.level w kind (holds own h.0.frames) is some at_kind a b
          (sym (literal_by x size hold g.level may h.0.may_is r e) ∙ f))

      module _ (aggregate : kind ≡ 1) where
        one_is : 1 ≡ passing_kind y hold
        one_is = sym aggregate ∙ at_kind

        -- with leaves alone
        pub at_leaves : g.level ≤ most_levels → Leafy (drop 6 y) (g.level + 1) → At img g marks widths back may cur (n + 1) depth (at + size) end
        unfolding widths_after
        at_leaves l f =
            let d = list_of img (drop 6 y) (at / page_size) 1 (g.level + 1) w in
            let e : outcome w widths ≡ outcome_of d widths = sym (f img (at / page_size) w widths) in
            let k = reaches d cur marks widths widths e ok in
            let a = node_agg img y (at / page_size) hold g.level w (sym one_is) l in (
              going_turn own h.0 size is some ok cur marks widths back (ap (λ (d : Decoded). d.walk) a ∙ k.walk)
                  (k.table ∙ sym (ap (λ (d : Decoded). widths_after d.row widths) a)) (ap (λ (d : Decoded). width d.row) a) (λ q i e. refl) h.0.back_long,
              h.1,
            )

        -- with anything else
        module _ (r : ℕ) (m new b : List ℕ)
            (came : (i : ℕ) → 1 ≡ passing_kind y i → Ended (node_of img y (at / page_size) i g.level w) r marks m widths new back b) where
          pub at_bad : r ≡ 0 → refused ≡ g.result
          at_bad z = going_bad own h.0 size is some ok (left_none _ r m widths new (came hold one_is).came z)

          pub at_node_less : r ≤ cur
          at_node_less = ended_less _ r m widths new (came hold one_is).came (less img (node y (at / page_size) hold g.level w))

          pub at_node : (r ≡ 0 → ⊥) → At img g m new b may r (n + 1) depth (at + size) end
          at_node z =
              let e = came hold one_is in
              let k = reaches _ r m widths new e.came z in
              let left : (node_of img y (at / page_size) hold g.level w).walk.left ≡ r = ap (λ (v : State). v.left) k.walk in (
                going_turn own h.0 size is some ok r m new b k.walk k.table
                    (node_wide img y (at / page_size) hold g.level w (omega (arith, one_is)) (omega (arith, one_is)) (λ q. z (sym left ∙ q))) (e.stays z)
                    (e.long z ∙ h.0.back_long),
                omega (arith, z),
              )

      module _ (proxy : kind ≡ 3) where
        three_is : passing_kind y hold ≡ 3
        three_is = sym at_kind ∙ proxy

        -- not a proxy's size
        pub at_not_eight : (size ≡ 8 → ⊥) → refused ≡ g.result
        at_not_eight f =
            going_bad own h.0 size is some ok
            (ap (λ (d : Decoded). d.walk.left) (node_3_bad img y (at / page_size) hold g.level w three_is (λ e. f (sym at_size.2 ∙ e))))

        module _ (eight : size ≡ 8) (p : ℕ) (name : p ≡ name_at y 0) where
          long : length y ≡ 8
          long = at_size.2 ∙ eight

          -- a page that may not be entered
          pub at_not_enter : enters_of img p (at / page_size) w ≡ false → refused ≡ g.result
          at_not_enter f =
              going_bad own h.0 size is some ok
              (ap (λ (d : Decoded). d.walk.left)
              (node_3_out img y (at / page_size) hold g.level w three_is long (ap (λ (q : ℕ). enters_of img q (at / page_size) w) (sym name) ∙ f)))

          module _ (enters : enters_of img p (at / page_size) w ≡ true) where
            pub at_entered : Entered img p (at / page_size) w
            at_entered = entered img p (at / page_size) w enters

            pub at_record_part : (e : ℕ) → e ≡ page_size * p + used_at img (page_size * p) → PartAt img (bytes img (page_size * p) e) (page_size * p)
            at_record_part e q =
                let f = at_entered.names in
                let l : length (bytes img (page_size * p) e) ≡ e - page_size * p =
                length-take-le (e - page_size * p) (drop (page_size * p) img) (omega (arith, length-drop (page_size * p) img, f.used, f.inside)) in
                let u = f.used in
                let i = f.inside in
                record {
                  is = let z : e ≡ page_size * p + length (bytes img (page_size * p) e) = omega arith in ap (bytes img (page_size * p)) z;
                  inside = omega (arith, l);
                  page = omega (arith, l);
                  low = omega (arith, f.low);
                }

            -- its root, with the page marked
            abbrev d : Decoded
            d = node_of img (record_of img p) p 0 g.level (with_mark w p)

            bad_root : d.walk.left ≡ 0 → refused ≡ g.result
            bad_root z =
                going_bad own h.0 size is some ok
                (ap (λ (v : Decoded). v.walk.left)
                (node_proxy img y (at / page_size) hold g.level w three_is long
                ∙ ap (λ (k : ℕ). proxy_of img k (at / page_size) g.level w) (sym name) ∙ proxy_in img p (at / page_size) g.level w enters) ∙ z)

            module _ (e : ℕ) (ends : e ≡ page_size * p + used_at img (page_size * p)) (root : ℕ) (is_root : root ≡ passing_kind (bytes img (page_size * p) e) 0) where
              root' : root ≡ passing_kind (record_of img p) 0
              root' = is_root ∙ ap (λ (s : List ℕ). passing_kind s 0) (record_is img p e ends)

              -- no root
              pub at_no_root : root ≡ 0 → refused ≡ g.result
              at_no_root z = bad_root (ap (λ (v : Decoded). v.walk.left) (node_none img (record_of img p) p 0 g.level (with_mark w p) (sym root' ∙ z)))

              pub at_root_long : (root ≡ 0 → ⊥) → 6 ≤ length (bytes img (page_size * p) e)
              at_root_long z = (passing (bytes img (page_size * p) e) 0 root (sym is_root) z).long

              -- a helper: the list goes on in it
              pub at_helper : (m : List ℕ) → m ≡ marked marks p → (k : Kinds) → k ≡ kinds_in 4 → root ≡ 4
                  → At img g m (set widths p n) (set back p ((at + size) % page_size)) k (cur - 1) n (depth + 1) (page_size * p + 6) e
              at_helper m q k s f =
                  let l : 6 ≤ length (record_of img p) = (passing (record_of img p) 0 4 (sym root' ∙ f) (λ z. omega arith)).long in
                  let t = going_in own h.0 size is some ok p eight name three_is enters (sym root' ∙ f) l in
                  let t1 = subst (λ (v : List ℕ). Going img g v (set widths p n) (set back p ((at + size) % page_size)) (kinds_in 4) (cur - 1) n (depth + 1) (page_size * p + 6)
                  (page_size * p + used_at img (page_size * p))) (sym q) t in
                  let t2 = subst (λ (v : Kinds). Going img g m (set widths p n) (set back p ((at + size) % page_size)) v (cur - 1) n (depth + 1) (page_size * p + 6)
                  (page_size * p + used_at img (page_size * p))) (sym s) t1 in (
                    subst (λ (v : ℕ). Going img g m (set widths p n) (set back p ((at + size) % page_size)) k (cur - 1) n (depth + 1) (page_size * p + 6) v) (sym ends) t2,
                    omega (arith, at_entered.room),
                  )

              -- a literal, too deep
              pub at_deep_record : root ≡ 2 → most_levels < g.level → refused ≡ g.result
              at_deep_record two l =
                  let k = sym root' ∙ two in
                  bad_root (ap (λ (v : Decoded). v.walk.left)
                  (node_deep img (record_of img p) p 0 g.level (with_mark w p) (λ e. omega (arith, k)) (λ e. omega (arith, k)) l))

              -- another root, from what the walk over it comes to
              root_turn : (r : ℕ) (m new b : List ℕ) → d.walk ≡ state r m → new ≡ widths_after d.row widths → 1 ≤ root → root ≤ 2 → (r ≡ 0 → ⊥)
                  → ((q : ℕ) → q < most_pages → is_marked (marked marks p) q ≡ true → get_or b q 0 ≡ get_or back q 0) → length b ≡ length g.back
                  → At img g m (set new p 1) b may r (n + 1) depth (at + size) end
              root_turn r m new b walk table low high z stays long-b =
                  let left : d.walk.left ≡ r = ap (λ (v : State). v.left) walk in (
                    going_record own h.0 size is some ok p r m new b long name three_is enters walk table
                        (node_wide img (record_of img p) p 0 g.level (with_mark w p) (omega (arith, root')) (omega (arith, root')) (λ q. z (sym left ∙ q))) stays long-b,
                    omega (arith, z),
                  )

              -- a literal
              pub at_literal_record : root ≡ 2 → g.level ≤ most_levels → (m : List ℕ) → m ≡ marked marks p
                  → At img g m (set widths p 1) back may (cur - 1) (n + 1) depth (at + size) end
              unfolding widths_after
              at_literal_record two l m q =
                  let a = node_lit img (record_of img p) p 0 g.level (with_mark w p) (sym root' ∙ two) l in
                  let z : cur - 1 ≡ 0 → ⊥ = λ e. omega (arith, at_entered.room) in
                  subst (λ (v : List ℕ). At img g v (set widths p 1) back may (cur - 1) (n + 1) depth (at + size) end) (sym q)
                  (root_turn (cur - 1) (marked marks p) widths back (ap (λ (v : Decoded). v.walk) a) (sym (ap (λ (v : Decoded). widths_after v.row widths) a))
                  (omega arith) (omega arith) z (λ i j t. refl) h.0.back_long)

              -- an aggregate
              module _ (agg : root ≡ 1) (m₁ : List ℕ) (is_marked_lem : m₁ ≡ marked marks p) (r : ℕ) (m new b : List ℕ)
                  (came : (i : ℕ) → 1 ≡ passing_kind (bytes img (page_size * p) e) i
                  → Ended (node_of img (bytes img (page_size * p) e) (page_size * p / page_size) i g.level (state (cur - 1) m₁)) r m₁ m widths new back b) where
                same : node_of img (bytes img (page_size * p) e) (page_size * p / page_size) 0 g.level (state (cur - 1) m₁) ≡ d
                same =
                    let q : page_size * p / page_size ≡ p = omega arith in
                    λ i. node_of img (record_is img p e ends i) (q i) 0 g.level (state (cur - 1) (is_marked_lem i))

                own_kind : 1 ≡ passing_kind (bytes img (page_size * p) e) 0
                own_kind = sym agg ∙ is_root

                pub at_bad_record : r ≡ 0 → refused ≡ g.result
                at_bad_record z = bad_root (ap (λ (v : Decoded). v.walk.left) (sym same) ∙ left_none _ r m widths new (came 0 own_kind).came z)

                pub at_record_less : r ≤ cur - 1
                at_record_less =
                    ended_less _ r m widths new (came 0 own_kind).came
                    (less img (node (bytes img (page_size * p) e) (page_size * p / page_size) 0 g.level (state (cur - 1) m₁)))

                pub at_record : (r ≡ 0 → ⊥) → At img g m (set new p 1) b may r (n + 1) depth (at + size) end
                at_record z =
                    let c = came 0 own_kind in
                    let k = reaches _ r m widths new c.came z in
                    root_turn r m new b (ap (λ (v : Decoded). v.walk) (sym same) ∙ k.walk) (k.table ∙ ap (λ (v : Decoded). widths_after v.row widths) same)
                    (omega arith) (omega arith) z (λ q i t. c.stays z q i (ap (λ (v : List ℕ). is_marked v q) is_marked_lem ∙ t)) (c.long z ∙ h.0.back_long)

-- ── out of a helper's record ──

module _ {img : List ℕ} {g : Goal} (own : Own img g) {marks widths back : List ℕ} {may : Kinds} {cur n depth at end : ℕ}
    (h : At img g marks widths back may cur n depth at end) (over : end ≡ at) (in_one : depth ≡ 0 → ⊥) where
  pub at_out : Out own marks widths back cur n depth at
  at_out = going_out own h.0 over in_one

  abbrev q₀ : ℕ
  q₀ = at / page_size

  -- in a helper's record the kinds are a helper's
  pub may_four : may ≡ kinds_in 4
  may_four = go h.0.frames h.0.count h.0.may_is
    where
      go : (fs : List Frame) → length fs ≡ depth → may ≡ kinds_in (holder_in img g.page g.level g.last fs) → may ≡ kinds_in 4
      go [] k m = absurd (in_one (sym k))
      go (f ∷ fs) k m = m

  pub at_own : (k : Kinds) → k ≡ kinds_in 1 → depth - 1 ≡ 0
      → At img g marks (set widths q₀ (n - get_or widths q₀ 0)) back k cur n (depth - 1) (way_back img back q₀) g.last
  at_own k e z = (
    subst (λ (v : Kinds). Going img g marks (set widths q₀ (n - get_or widths q₀ 0)) back v cur n (depth - 1) (way_back img back q₀) g.last) (sym e) (at_out.own_row z),
    h.1,
  )

  pub at_outer : (e : ℕ) → (depth - 1 ≡ 0 → ⊥) → e ≡ page_size * (way_back img back q₀ / page_size) + used_at img (page_size * (way_back img back q₀ / page_size))
      → At img g marks (set widths q₀ (n - get_or widths q₀ 0)) back may cur n (depth - 1) (way_back img back q₀) e
  at_outer e z f = (
    subst (λ (v : Kinds). Going img g marks (set widths q₀ (n - get_or widths q₀ 0)) back v cur n (depth - 1) (way_back img back q₀) e) (sym may_four)
        (subst (λ (v : ℕ). Going img g marks (set widths q₀ (n - get_or widths q₀ 0)) back (kinds_in 4) cur n (depth - 1) (way_back img back q₀) v) (sym f)
        (at_out.outer_row z).2),
    h.1,
  )

-- ── a node, from its list ──

module _ {img part : List ℕ} {at : ℕ} (p : PartAt img part at) (k : ℕ) (inside : k ≤ length part) where
  pub part_page : (at + k) / page_size ≡ at / page_size
  part_page = omega (arith, p.page)

  -- the rest of a part
  pub part_rest : PartAt img (take (length part - k) (drop k part)) (at + k)
  part_rest =
      let l : length (drop k part) ≡ length part - k = length-drop k part in
      let e = rest_is k part in
      let m : length (take (length part - k) (drop k part)) ≡ length part - k = ap length e ∙ l in
      let f = part_page in
      let z : at + length part ≡ at + k + length (take (length part - k) (drop k part)) = omega arith in
      record {
        is = e ∙ ap (drop k) p.is ∙ bytes_drop img at (at + length part) k ∙ ap (bytes img (at + k)) z;
        inside = omega (arith, p.inside);
        page = omega (arith, p.page);
        low = omega (arith, p.low);
      }

module _ {img part : List ℕ} {at : ℕ} (p : PartAt img part at) (holder level d left r : ℕ) (marks m old new was back : List ℕ) where
  pub node_ended : 1 ≡ passing_kind part holder → level ≤ most_levels → Only part (level + 1) d
      → Ended (list_of img (take (length part - (6 * d + 6)) (drop (6 * d + 6) part)) ((at + (6 * d + 6)) / page_size) 1 (level + 1 + d) (state left marks))
      r marks m old new was back
      → Ended (node_of img part (at / page_size) holder level (state left marks)) r marks m old new was back
  node_ended e l o c =
      let i = innermost img part (at / page_size) holder level d (state left marks) e l o in
      let q = part_page p (6 * d + 6) i.inside in
      record {
        came =
            c.came
            ∙ ap (λ (x : ℕ). outcome_of (list_of img (take (length part - (6 * d + 6)) (drop (6 * d + 6) part)) x 1 (level + 1 + d) (state left marks)) old) q
            ∙ i.same old;
        stays = c.stays;
        long = c.long;
      }

  pub deep_ended : 1 ≡ passing_kind part holder → most_levels < level → Ended (node_of img part (at / page_size) holder level (state left marks)) 0 marks m old new was back
  deep_ended e l =
      ended_none marks m old new was back
      (sym (ap (λ (v : Decoded). outcome_of v old)
      (node_deep img part (at / page_size) holder level (state left marks) (λ z. omega (arith, e)) (λ z. omega (arith, e)) l)))
