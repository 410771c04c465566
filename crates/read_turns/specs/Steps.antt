-- A walk over a list as its functions hand it on, and what a turn of it comes to.
use Rattle.std.specs.Prelude.{◌≡◌, refl, Bool, true, false, List, ℕ, ◌+◌, ◌-◌, ◌*◌, ◌/◌, ◌%◌, ◌≤◌, ◌<◌, length, get_or, set, take, drop, eqb}
use Rattle.std.proofs.Common.{sym, ap, subst, ◌∙◌, arith, eqb-true}
use Rattle.std.proofs.lemmas.Bool.{eqb-false}
use Rattle.model.specs.Limits.{most_pages, page_size, capacity, most_levels}
use Rattle.model.specs.Reading.{name_at}
use Rattle.model.specs.WalkTests.{whole_size, passing_kind}
use Rattle.theory_check.specs.Walk.{state, enters_of, node_of}
use Rattle.theory_check.specs.Steps.{Entered}
use Rattle.theory_check.specs.Levels.{refused, bytes, record_end}
use Rattle.base_node_kinds.specs.Holders.{kinds_in}
use Rattle.read_nodes.specs.Leaf.{aggregate_of, literal_of}
use Rattle.read_nodes.specs.Stand.{kind_by}
use Rattle.read_leaves.specs.Leafy.{Leafy}
use Rattle.read_walker.specs.declared.Walker.{Walker}
use Rattle.read_walker.specs.Turns.{Fits, way_back, walker, reach_of, reach_zero, reach_is, marked_of, marked_is, out_of}
use Rattle.read_turns.specs.Going.{PartAt, Ended, Goal, Own}
use Rattle.read_turns.specs.Turns.{At, at_short, at_in, at_size, at_part, at_empty, at_literal, at_none, at_leaves, at_bad, at_node, at_node_less}
use Rattle.read_turns.specs.Turns.{at_not_eight, at_not_enter, at_entered, at_record_part, at_no_root, at_root_long, at_helper, at_deep_record}
use Rattle.read_turns.specs.Turns.{at_literal_record, at_bad_record, at_record, at_record_less, at_out, at_own, at_outer}

-- The list, from where the walk is, comes to what the whole is to come to.
pub record Standing (img : List ℕ) (g : Goal) (marks widths back : List ℕ) (w : Walker) : Type 0 where
  pub own : Own img g
  pub at : At img g marks widths back w.kinds w.left w.count w.depth w.at w.end
  pub level : w.level ≡ g.level

-- The part is the node that stands there.
pub record NodeAt (img part : List ℕ) (w : Walker) : Type 0 where
  pub is : part ≡ take (length part) (bytes img w.at w.end)
  pub size : length part ≡ whole_size (bytes img w.at w.end)
  pub some : length part ≡ 0 → ⊥

-- What falls with each turn, also where the list comes out of a record: a row is shorter than a page.
abbrev pub to_go : Walker → ℕ
to_go w = 8192 * w.left + 4096 * w.depth + (w.end - w.at)

-- After a turn from v the walk goes on at w.
pub record Goes (img : List ℕ) (g : Goal) (marks widths back : List ℕ) (v w : Walker) : Type 0 where
  pub on : Standing img g marks widths back w
  pub less : to_go w < to_go v

-- Or it is refused, as the whole is to be then.
pub record Turned (img : List ℕ) (g : Goal) (marks widths back : List ℕ) (v w : Walker) : Type 0 where
  pub over : w.left ≡ 0 → refused ≡ g.result
  pub goes : (w.left ≡ 0 → ⊥) → Goes img g marks widths back v w

-- The same tables and the same place, as the code has them.
alike : {marks widths back m t b : List ℕ} {w r : Walker} (T : (marks widths back : List ℕ) → Walker → Type 0) → m ≡ marks → t ≡ widths → b ≡ back → r ≡ w
    → T marks widths back w → T m t b r
alike {marks} {widths} {back} {m} {t} {b} {w} {r} T e f h i x =
    subst (T m t b) (sym i)
    (subst (λ (k : List ℕ). T m t k w) (sym h) (subst (λ (k : List ℕ). T m k back w) (sym f) (subst (λ (k : List ℕ). T k widths back w) (sym e) x)))

module _ {img : List ℕ} {g : Goal} {marks widths back m t b : List ℕ} {v w r : Walker} (e : m ≡ marks) (f : t ≡ widths) (h : b ≡ back) (i : r ≡ w) where
  pub goes_as : Goes img g marks widths back v w → Goes img g m t b v r
  goes_as = alike (λ m t b r. Goes img g m t b v r) e f h i

  pub turned_as : Turned img g marks widths back v w → Turned img g m t b v r
  turned_as = alike (λ m t b r. Turned img g m t b v r) e f h i

-- A refusal.
pub turned_over : {img : List ℕ} {g : Goal} (marks widths back : List ℕ) {v : Walker} (w : Walker) → w.left ≡ 0 → refused ≡ g.result
    → Turned img g marks widths back v w
turned_over marks widths back w l e = record { over = λ _. e; goes = λ z. absurd (z l) }

module _ {img marks widths back : List ℕ} {g : Goal} {w : Walker} (s : Standing img g marks widths back w) where
  -- its numbers are small
  pub standing_fits : Fits w
  standing_fits =
      let f = s.at.0.falls in
      let few = s.own.few in
      let short = s.own.short in
      let i = at_in s.own s.at in
      record { count = omega arith; depth = omega arith; at = omega arith }

  -- the tables have an entry for each page
  pub standing_wide : length img ≤ page_size * length widths
  standing_wide = omega (arith, s.at.0.wide, s.own.wide)

  pub standing_back : length img ≤ page_size * length back
  standing_back = omega (arith, s.at.0.back_long, s.own.back_long)

  -- the row at hand: where it is cut from the image
  pub standing_in : (w.end ≤ length img) × (w.at ≤ w.end) × (w.at / page_size < most_pages) × (w.end ≤ page_size * (w.at / page_size) + capacity)
  standing_in = at_in s.own s.at

  -- past a node of so many bytes, given where the walk is then
  module _ (size : ℕ) (some : 6 ≤ size) (inside : w.at + size ≤ w.end) (m t b : List ℕ) (left : ℕ) (fewer : left ≤ w.left) where
    goes_past : At img g m t b w.kinds left (w.count + 1) w.depth (w.at + size) w.end
        → Goes img g m t b w (walker w.kinds left (w.count + 1) w.depth (w.at + size) w.end w.level)
    goes_past on = record { on = record { own = s.own; at = on; level = s.level }; less = omega arith }

    turned_past : (left ≡ 0 → refused ≡ g.result)
        → ((left ≡ 0 → ⊥) → At img g m t b w.kinds left (w.count + 1) w.depth (w.at + size) w.end)
        → Turned img g m t b w (walker w.kinds left (w.count + 1) w.depth (w.at + size) w.end w.level)
    turned_past over on = record { over = over; goes = λ z. goes_past (on z) }

  -- ── what holds no other node ──

  pub passed_empty : (r : Bool) → r ≡ aggregate_of (bytes img w.at w.end) 6 w.kinds.aggregate g.level → r ≡ true
      → Goes img g marks widths back w (walker w.kinds w.left (w.count + 1) w.depth (w.at + 6) w.end w.level)
  passed_empty r e t = let a = at_empty s.own s.at r e t in goes_past 6 (omega arith) a.0.within marks widths back w.left (omega arith) a

  pub passed_literal : (size : ℕ) → size ≡ whole_size (bytes img w.at w.end) → (size ≡ 0 → ⊥)
      → (r : Bool) → r ≡ literal_of (bytes img w.at w.end) size w.kinds.literal g.level → r ≡ true
      → Goes img g marks widths back w (walker w.kinds w.left (w.count + 1) w.depth (w.at + size) w.end w.level)
  passed_literal size is some r e t =
      let n = at_size s.own s.at size is some in
      goes_past size n.0 n.1 marks widths back w.left (omega arith) (at_literal s.own s.at size is some r e t)

  -- ── a node that is handed on ──

  module _ (size : ℕ) (is : size ≡ whole_size (bytes img w.at w.end)) (some : size ≡ 0 → ⊥) where
    abbrev first : List ℕ
    first = take size (bytes img w.at w.end)

    long : length first ≡ size
    long = (at_size s.own s.at size is some).2

    pub node_first : NodeAt img first w
    node_first = record { is = ap (λ (k : ℕ). take k (bytes img w.at w.end)) (sym long); size = long ∙ is; some = λ z. some (sym long ∙ z) }

    pub no_literal : (r : Bool) → r ≡ literal_of (bytes img w.at w.end) size w.kinds.literal g.level → r ≡ false
        → literal_of (bytes img w.at w.end) (length first) w.kinds.literal w.level ≡ false
    no_literal r e f = (λ i. literal_of (bytes img w.at w.end) (long i) w.kinds.literal (s.level i)) ∙ sym e ∙ f

    -- it is less than the list
    pub node_less : 16384 * w.left + 4 * length first + 2 < 16384 * g.left + 4 * g.long + 3
    node_less =
        let a = at_size s.own s.at size is some in
        omega (arith, a, at_short s.own s.at, s.at.0.falls, s.at.0.few)

  -- ── out of a helper's record ──

  module _ (over : w.at ≡ w.end) (in_one : w.depth ≡ 0 → ⊥) where
    abbrev page : ℕ
    page = w.at / page_size

    abbrev to : ℕ
    to = way_back img back page

    pub record Leaving : Type 0 where
      pub inside : page_size * page + page_size ≤ length img
      pub few : get_or widths page 0 ≤ w.count
      pub fits : to ≤ length img
      pub outer : (w.depth - 1 ≡ 0 → ⊥) → (to / page_size < most_pages) × (page_size * (to / page_size) + page_size ≤ length img)

    pub leaving : Leaving
    leaving =
        let o = at_out s.own s.at (sym over) in_one in
        record { inside = o.inside; few = o.few; fits = o.fits; outer = λ z. let r = o.outer_row z in (r.0, r.1) }

    abbrev table : List ℕ
    table = set widths page (w.count - get_or widths page 0)

    again : {r : Walker} → r.level ≡ w.level → r.left ≡ w.left → r.depth ≡ w.depth - 1
        → At img g marks table back r.kinds r.left r.count r.depth r.at r.end → Goes img g marks table back w r
    again l e d a = record { on = record { own = s.own; at = a; level = l ∙ s.level }; less = omega (arith, at_short s.own a, in_one) }

    pub goes_out : Goes img g marks table back w (out_of img w g.last to)
    goes_out = go (eqb (w.depth - 1) 0) refl
      where
        go : (x : Bool) → eqb (w.depth - 1) 0 ≡ x → Goes img g marks table back w (out_of img w g.last to)
        go true q = simp q (again refl refl refl (at_own s.own s.at (sym over) in_one (kinds_in 1) refl (eqb-true _ _ q)))
        go false q = simp q (again refl refl refl (at_outer s.own s.at (sym over) in_one (record_end img (to / page_size)) (eqb-false _ _ q) refl))

-- ── the node that stands there ──

module _ {img part marks widths back : List ℕ} {g : Goal} {w : Walker} (s : Standing img g marks widths back w) (n : NodeAt img part w) where
  abbrev x : List ℕ
  x = bytes img w.at w.end

  abbrev y : List ℕ
  y = take (length part) x

  pub node_size : (6 ≤ length part) × (w.at + length part ≤ w.end) × (length part < 65536)
  node_size =
      let a = at_size s.own s.at (length part) n.size n.some in
      (a.0, a.1, omega (arith, a, at_short s.own s.at))

  pub node_part : PartAt img part w.at
  node_part = subst (λ (v : List ℕ). PartAt img v w.at) (sym n.is) (at_part s.own s.at (length part) n.size n.some)

  module _ (kind : ℕ) (by : kind ≡ kind_by part w.kinds) where
    kind_is : kind ≡ kind_by y w.kinds
    kind_is = by ∙ ap (λ (v : List ℕ). kind_by v w.kinds) n.is

    -- of no kind, or a literal that does not pass
    pub node_none : literal_of x (length part) w.kinds.literal w.level ≡ false → (kind ≡ 3 → ⊥) → (kind ≡ 1 → ⊥) → refused ≡ g.result
    node_none f a b =
        at_none s.own s.at (length part) n.size n.some kind kind_is _ refl
        (ap (literal_of x (length part) w.kinds.literal) (sym s.level) ∙ f) a b

    module _ (one : kind ≡ 1) where
      -- an aggregate with leaves alone
      pub turned_leaves : Leafy (drop 6 part) (w.level + 1) → w.level + 1 ≤ most_levels
          → Turned img g marks widths back w (walker w.kinds w.left (w.count + 1) w.depth (w.at + length part) w.end w.level)
      turned_leaves f l =
          let leafy : Leafy (drop 6 y) (g.level + 1) =
          subst (λ (v : List ℕ). Leafy (drop 6 v) (g.level + 1)) n.is (subst (λ (v : ℕ). Leafy (drop 6 part) (v + 1)) s.level f) in
          let a = at_leaves s.own s.at (length part) n.size n.some kind kind_is one (omega (arith, s.level)) leafy in
          let z = node_size in
          turned_past s (length part) z.0 z.1 marks widths back w.left (omega arith) (λ e. absurd (omega (arith, s.at.1))) (λ _. a)

      -- with anything else
      pub turned_node : (r : ℕ) (m t b : List ℕ)
          → ((h : ℕ) → 1 ≡ passing_kind part h → Ended (node_of img part (w.at / page_size) h w.level (state w.left marks)) r marks m widths t back b)
          → Turned img g m t b w (walker w.kinds r (w.count + 1) w.depth (w.at + length part) w.end w.level)
      turned_node r m t b came =
          let came' : (h : ℕ) → 1 ≡ passing_kind y h → Ended (node_of img y (w.at / page_size) h g.level (state w.left marks)) r marks m widths t back b =
          λ h e. subst (λ (v : ℕ). Ended (node_of img y (w.at / page_size) h v (state w.left marks)) r marks m widths t back b) s.level
          (subst (λ (v : List ℕ). Ended (node_of img v (w.at / page_size) h w.level (state w.left marks)) r marks m widths t back b) n.is
          (came h (e ∙ ap (λ (v : List ℕ). passing_kind v h) (sym n.is)))) in
          let z = node_size in
          turned_past s (length part) z.0 z.1 m t b r
          (at_node_less s.own s.at (length part) n.size n.some kind kind_is one r m t b came')
          (at_bad s.own s.at (length part) n.size n.some kind kind_is one r m t b came')
          (at_node s.own s.at (length part) n.size n.some kind kind_is one r m t b came')

  -- ── a proxy ──

  module _ (by : 3 ≡ kind_by part w.kinds) where
    three : 3 ≡ kind_by y w.kinds
    three = kind_is 3 by

    module _ (p : ℕ) (is : p ≡ reach_of img part (w.at / page_size) w.left marks) where
      -- no page that may be entered
      pub proxy_none : p ≡ 0 → refused ≡ g.result
      proxy_none z = go (eqb (length part) 8) refl
        where
          go : (b : Bool) → eqb (length part) 8 ≡ b → refused ≡ g.result
          go true q =
              let e = eqb-true _ _ q in
              at_not_enter s.own s.at (length part) n.size n.some 3 three refl e (name_at part 0) (ap (λ (v : List ℕ). name_at v 0) n.is)
              (reach_zero img part (w.at / page_size) w.left marks p is z e)
          go false q = at_not_eight s.own s.at (length part) n.size n.some 3 three refl (eqb-false _ _ q)

      -- a page that is entered
      module _ (some : p ≡ 0 → ⊥) where
        eight : length part ≡ 8
        eight = (reach_is img part (w.at / page_size) w.left marks p is some).0

        name : p ≡ name_at y 0
        name = (reach_is img part (w.at / page_size) w.left marks p is some).1 ∙ ap (λ (v : List ℕ). name_at v 0) n.is

        enters : enters_of img p (w.at / page_size) (state w.left marks) ≡ true
        enters = (reach_is img part (w.at / page_size) w.left marks p is some).2

        pub proxy_entered : Entered img p (w.at / page_size) (state w.left marks)
        proxy_entered = at_entered s.own s.at (length part) n.size n.some 3 three refl eight p name enters

        module _ (e : ℕ) (ends : e ≡ record_end img p) (root : ℕ) (is_root : root ≡ passing_kind (bytes img (page_size * p) e) 0) where
          pub proxy_part : PartAt img (bytes img (page_size * p) e) (page_size * p)
          proxy_part = at_record_part s.own s.at (length part) n.size n.some 3 three refl eight p name enters e ends

          -- no root
          pub proxy_bare : root ≡ 0 → refused ≡ g.result
          proxy_bare = at_no_root s.own s.at (length part) n.size n.some 3 three refl eight p name enters e ends root is_root

          pub proxy_long : (root ≡ 0 → ⊥) → 6 ≤ length (bytes img (page_size * p) e)
          proxy_long = at_root_long s.own s.at (length part) n.size n.some 3 three refl eight p name enters e ends root is_root

          -- a helper: the list goes on in its record
          pub turned_helper : root ≡ 4
              → Turned img g (marked_of p marks) (set widths p w.count) (set back p ((w.at + 8) % page_size)) w
              (walker (kinds_in 4) (w.left - 1) w.count (w.depth + 1) (page_size * p + 6) e w.level)
          turned_helper four =
              let t = at_helper s.own s.at (length part) n.size n.some 3 three refl eight p name enters e ends root is_root
              (marked_of p marks) (marked_is p marks some) (kinds_in 4) refl four in
              let a = subst (λ (k : ℕ). At img g (marked_of p marks) (set widths p w.count) (set back p ((w.at + k) % page_size)) (kinds_in 4) (w.left - 1) w.count
              (w.depth + 1) (page_size * p + 6) e) eight t in
              record {
                over = λ z. absurd (omega (arith, a.1));
                goes = λ _. record {
                  on = record { own = s.own; at = a; level = s.level };
                  less = omega (arith, at_short s.own a, proxy_entered.room);
                };
              }

          -- past a proxy whose record's root is a node by itself
          turned_root : (m t b : List ℕ) (r : ℕ) → r ≤ w.left → (r ≡ 0 → refused ≡ g.result)
              → ((r ≡ 0 → ⊥) → At img g m t b w.kinds r (w.count + 1) w.depth (w.at + length part) w.end)
              → Turned img g m t b w (walker w.kinds r (w.count + 1) w.depth (w.at + 8) w.end w.level)
          turned_root m t b r le over on =
              let z = node_size in
              subst (λ (k : ℕ). Turned img g m t b w (walker w.kinds r (w.count + 1) w.depth (w.at + k) w.end w.level)) eight
              (turned_past s (length part) z.0 z.1 m t b r le over on)

          -- a literal
          pub literal_deep : root ≡ 2 → most_levels < w.level → refused ≡ g.result
          literal_deep two l =
              at_deep_record s.own s.at (length part) n.size n.some 3 three refl eight p name enters e ends root is_root two (omega (arith, s.level))

          pub turned_literal : root ≡ 2 → w.level ≤ most_levels
              → Turned img g (marked_of p marks) (set widths p 1) back w
              (walker w.kinds (w.left - 1) (w.count + 1) w.depth (w.at + 8) w.end w.level)
          turned_literal two l =
              let a = at_literal_record s.own s.at (length part) n.size n.some 3 three refl eight p name enters e ends root is_root two
              (omega (arith, s.level)) (marked_of p marks) (marked_is p marks some) in
              turned_root (marked_of p marks) (set widths p 1) back (w.left - 1) (omega arith) (λ z. absurd (omega (arith, a.1))) (λ _. a)

          -- an aggregate
          pub turned_aggregate : root ≡ 1 → (m₁ : List ℕ) → m₁ ≡ marked_of p marks → (r : ℕ) (m t b : List ℕ)
              → ((h : ℕ) → 1 ≡ passing_kind (bytes img (page_size * p) e) h
              → Ended (node_of img (bytes img (page_size * p) e) (page_size * p / page_size) h w.level (state (w.left - 1) m₁)) r m₁ m widths t back b)
              → Turned img g m (set t p 1) b w (walker w.kinds r (w.count + 1) w.depth (w.at + 8) w.end w.level)
          turned_aggregate one m₁ same r m t b came =
              let came' = subst (λ (v : ℕ). (h : ℕ) → 1 ≡ passing_kind (bytes img (page_size * p) e) h
              → Ended (node_of img (bytes img (page_size * p) e) (page_size * p / page_size) h v (state (w.left - 1) m₁)) r m₁ m widths t back b) s.level came in
              let q = same ∙ marked_is p marks some in
              turned_root m (set t p 1) b r
              (omega (arith, at_record_less s.own s.at (length part) n.size n.some 3 three refl eight p name enters e ends root is_root one m₁ q r m t b came'))
              (at_bad_record s.own s.at (length part) n.size n.some 3 three refl eight p name enters e ends root is_root one m₁ q r m t b came')
              (at_record s.own s.at (length part) n.size n.some 3 three refl eight p name enters e ends root is_root one m₁ q r m t b came')
