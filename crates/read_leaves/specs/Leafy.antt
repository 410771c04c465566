-- Lists over which a walk need not go: aggregates that are each the only node that the last holds, and leaves.
use Rattle.std.specs.Prelude.{◌≡◌, refl, Bool, true, false, List, ℕ, zero, suc, ◌+◌, ◌-◌, ◌*◌, ◌≤◌, length, drop, eqb}
use Rattle.std.proofs.Common.{sym, ◌∙◌, arith, drop-drop, take_all, eqb-true}
use Rattle.std.proofs.Math.Path.{ap}
use Rattle.std.proofs.Math.ListN.{take, length-take, length-drop}
use Rattle.std.proofs.lemmas.Bool.{eqb-false}
use Rattle.model.specs.Limits.{most_levels}
use Rattle.model.specs.Row.{nil, may_stand}
use Rattle.model.specs.Reading.{head_at, size_at}
use Rattle.model.specs.WalkTests.{whole_size, passing_kind}
use Rattle.theory_check.specs.Walk.{State, Decoded, as_agg, before, node_of, list_of}
use Rattle.theory_check.specs.Widths.{widths_after, widths-⊹}
use Rattle.theory_check.specs.Steps.{list_none, list_more, passing}
use Rattle.theory_check.specs.Facts.{rest_is}
use Rattle.theory_check.specs.Levels.{outcome, outcome_of, list_refused}
use Rattle.theory_check.specs.ByKind.{node_agg, node_lit}
use Rattle.read_nodes.specs.Leaf.{aggregate_of, literal_of, Only}
use Rattle.read_nodes.specs.Inner.{Each, alone, each_fits}
use Rattle.read_nodes.specs.Leaves.{aggregate_head, aggregate_size, childless_head, literal_head, sized}

-- ── only children ──

-- Two outcomes with the same walk, whose rows leave the same in a table of widths.
record Alike (d e : Decoded) : Type 0 where
  walk : d.walk ≡ e.walk
  table : (c : List ℕ) → widths_after d.row c ≡ widths_after e.row c

alike_same : {d e : Decoded} → d ≡ e → Alike d e
alike_same q = record { walk = ap (λ (x : Decoded). x.walk) q; table = λ c. ap (λ (x : Decoded). widths_after x.row c) q }

alike_trans : {d e f : Decoded} → Alike d e → Alike e f → Alike d f
alike_trans a b = record { walk = a.walk ∙ b.walk; table = λ c. a.table c ∙ b.table c }

-- a list of one aggregate goes as the list that the aggregate holds
list_only : (img s : List ℕ) (page holder level : ℕ) (w : State) → aggregate_of s (length s) (may_stand holder 1) level ≡ true
    → Alike (list_of img s page holder level w) (list_of img (drop 6 s) page 1 (level + 1) w)
unfolding widths_after
list_only img s page holder level w e = go (eqb w.left 0) refl
  where
    go : (x : Bool) → eqb w.left 0 ≡ x → Alike (list_of img s page holder level w) (list_of img (drop 6 s) page 1 (level + 1) w)
    go true q =
        let z = eqb-true _ _ q in
        alike_same (list_refused img s page holder level w z ∙ sym (list_refused img (drop 6 s) page 1 (level + 1) w z))
    go false q =
        let f = aggregate_head s holder level e in
        let n = aggregate_size s holder level e in
        let d = list_of img (drop 6 s) page 1 (level + 1) w in
        let only : node_of img (take (whole_size s) s) page holder level w ≡ as_agg (head_at s 0) d =
        ap (λ (x : List ℕ). node_of img x page holder level w) (take_all (whole_size s) s (omega (arith, n)))
        ∙ node_agg img s page holder level w (sym f.1) f.2 in
        let all : list_of img s page holder level w ≡ before (as_agg (head_at s 0) d) (record { row = nil; walk = d.walk }) =
        list_more img s page holder level w (λ z. omega (arith, f.0)) (eqb-false _ _ q) (λ z. omega (arith, f.0, n))
        ∙ ap (λ (x : Decoded). before x (list_of img (drop (whole_size s) s) page holder level x.walk)) only
        ∙ ap (before (as_agg (head_at s 0) d))
        (list_none img (drop (whole_size s) s) page holder level d.walk (omega (arith, length-drop (whole_size s) s, n))) in
        alike_trans (alike_same all) (record { walk = refl; table = λ c. refl })

module _ (img s : List ℕ) (page level : ℕ) (w : State) where
  each_walk : (d : ℕ) → Each s level d → Alike (list_of img (drop 6 s) page 1 level w) (list_of img (drop (6 * d + 6) s) page 1 (level + d) w)
  each_walk zero h = let a : level ≡ level + zero = omega arith in alike_same (ap (λ (l : ℕ). list_of img (drop 6 s) page 1 l w) a)
  each_walk (suc d) h =
      let a : 6 * d + 6 + 6 ≡ 6 * suc d + 6 = omega arith in
      let b : level + d + 1 ≡ level + suc d = omega arith in
      let x = drop (6 * d + 6) s in
      let g : list_of img (drop 6 x) page 1 (level + d + 1) w ≡ list_of img (drop (6 * suc d + 6) s) page 1 (level + suc d) w =
      cc (drop-drop 6 (6 * d + 6) s) in
      alike_trans (each_walk d (λ i k. h i (omega arith)))
      (alike_trans (list_only img x page 1 (level + d) w (alone s level d (h d (omega arith)))) (alike_same g))

-- what `only` gives of an aggregate: where the innermost starts, and that the walk can go on from there
pub record Innermost (img s : List ℕ) (page holder level d : ℕ) (w : State) : Type 0 where
  pub inside : 6 * d + 6 ≤ length s
  pub low : level + 1 + d ≤ most_levels + 1
  pub same : (c : List ℕ) → outcome_of (list_of img (take (length s - (6 * d + 6)) (drop (6 * d + 6) s)) page 1 (level + 1 + d) w) c
      ≡ outcome_of (node_of img s page holder level w) c

pub only_fits : (s : List ℕ) (level d : ℕ) → 6 ≤ length s → level ≤ most_levels → Only s (level + 1) d → (6 * d + 6 ≤ length s) × (level + 1 + d ≤ most_levels + 1)
only_fits s level d long low o = each_fits s (level + 1) d long (omega arith) o.each

pub innermost : (img s : List ℕ) (page holder level d : ℕ) (w : State) → 1 ≡ passing_kind s holder → level ≤ most_levels → Only s (level + 1) d
    → Innermost img s page holder level d w
unfolding widths_after
innermost img s page holder level d w e l o =
    let p = passing s holder 1 (sym e) (λ z. omega arith) in
    let g = only_fits s level d p.long l o in
    let k = each_walk img s page (level + 1) w d o.each in
    let i = ap (λ (x : List ℕ). list_of img x page 1 (level + 1 + d) w) (rest_is (6 * d + 6) s) in
    let n = node_agg img s page holder level w (sym e) l in
    record {
      inside = g.0;
      low = g.1;
      same = λ c.
          ap (λ (x : Decoded). outcome_of x c) i ∙ sym (λ j. outcome (k.walk j) (k.table c j)) ∙ sym (ap (λ (x : Decoded). outcome_of x c) n);
    }

-- ── leaves ──

-- A walk over the list changes nothing.
abbrev pub Leafy : List ℕ → (level : ℕ) → Type 0
Leafy s level = (img : List ℕ) (page : ℕ) (w : State) (c : List ℕ) → outcome_of (list_of img s page 1 level w) c ≡ outcome w c

-- Nor does it up to a byte; and the level may be, if a node is passed.
pub record Passed (s : List ℕ) (level at : ℕ) : Type 0 where
  pub inside : at ≤ length s
  pub low : (at ≡ 0 → ⊥) → level ≤ most_levels
  pub same : (img : List ℕ) (page : ℕ) (w : State) (c : List ℕ)
      → outcome_of (list_of img s page 1 level w) c ≡ outcome_of (list_of img (drop at s) page 1 level w) c

pub passed_none : (s : List ℕ) (level : ℕ) → Passed s level 0
passed_none s level = record { inside = omega arith; low = λ z. absurd (z refl); same = λ img page w c. refl }

pub passed_all : (s : List ℕ) (level at : ℕ) → Passed s level at → length s ≤ at → Leafy s level × ((length s ≡ 0 → ⊥) → level ≤ most_levels)
unfolding widths_after
passed_all s level at p h = (
  λ img page w c.
      p.same img page w c ∙ ap (λ (d : Decoded). outcome_of d c) (list_none img (drop at s) page 1 level w (omega (arith, length-drop at s))),
  λ z. p.low (λ e. z (omega arith)),
)

module _ (s : List ℕ) (level at : ℕ) (p : Passed s level at) where
  abbrev onward : List ℕ
  onward = take (length s - at) (drop at s)

  -- past a node that changes nothing
  passed_node : (size : ℕ) → size ≡ whole_size onward → (size ≡ 0 → ⊥) → level ≤ most_levels
      → ((img : List ℕ) (page : ℕ) (w : State) (c : List ℕ) → let a = node_of img (take size onward) page 1 level w in (a.walk ≡ w) × (widths_after a.row c ≡ c))
      → (Passed s level (at + size)) × (6 ≤ size) × (at + size ≤ length s)
  passed_node size is some low still = (record { inside = inside; low = λ _. low; same = λ img page w c. p.same img page w c ∙ go img page w c (eqb w.left 0) refl }, t.0, inside)
    where
      t : (6 ≤ size) × (size ≤ length onward) × (size_at onward 0 ≡ size)
      t = sized onward size is some

      inside : at + size ≤ length s
      inside = omega (arith, t.0, t.1, length-take (length s - at) (drop at s), length-drop at s)

      go : (img : List ℕ) (page : ℕ) (w : State) (c : List ℕ) (x : Bool) → eqb w.left 0 ≡ x
          → outcome_of (list_of img (drop at s) page 1 level w) c ≡ outcome_of (list_of img (drop (at + size) s) page 1 level w) c
      go img page w c true q =
          let z = eqb-true _ _ q in
          ap (λ (d : Decoded). outcome_of d c) (list_refused img (drop at s) page 1 level w z ∙ sym (list_refused img (drop (at + size) s) page 1 level w z))
      go img page w c false q =
          let e = rest_is at s in
          let a = node_of img (take size onward) page 1 level w in
          let behind = list_of img (drop (at + size) s) page 1 level w in
          let z : whole_size (drop at s) ≡ size = sym (is ∙ ap whole_size e) in
          let l : drop size (drop at s) ≡ drop (at + size) s = drop-drop size at s in
          let first : node_of img (take size (drop at s)) page 1 level w ≡ a = ap (λ (x : List ℕ). node_of img (take size x) page 1 level w) (sym e) in
          let k = still img page w c in
          let more : list_of img (drop at s) page 1 level w ≡ before a behind =
          list_more img (drop at s) page 1 level w (λ y. omega (arith, t.0, t.1, ap length e)) (eqb-false _ _ q) (λ y. some (sym z ∙ y))
          ∙ ap (λ (n : ℕ). let d = node_of img (take n (drop at s)) page 1 level w in before d (list_of img (drop n (drop at s)) page 1 level d.walk)) z
          ∙ ap (λ (d : Decoded). before d (list_of img (drop size (drop at s)) page 1 level d.walk)) first
          ∙ (λ i. before a (list_of img (l i) page 1 level (k.0 i))) in
          ap (λ (d : Decoded). outcome_of d c) more
          ∙ ap (outcome behind.walk) (widths-⊹ a.row behind.row c ∙ ap (widths_after behind.row) k.1)

  -- what holds no other node
  pub passed_empty : aggregate_of onward 6 (may_stand 1 1) level ≡ true → (Passed s level (at + 6)) × (6 ≤ 6) × (at + 6 ≤ length s)
  unfolding widths_after
  passed_empty e =
      let f = childless_head onward 1 level e in
      let x = take 6 onward in
      passed_node 6 f.0 (λ q. omega arith) f.2 (λ img page w c.
      let l = list_none img (drop 6 x) page 1 (level + 1) w (omega (arith, length-drop 6 x, length-take 6 onward)) in
      let n = node_agg img x page 1 level w (sym f.1) f.2 ∙ ap (as_agg (head_at x 0)) l in
      (ap (λ (d : Decoded). d.walk) n, ap (λ (d : Decoded). widths_after d.row c) n))

  pub passed_literal : (size : ℕ) → size ≡ whole_size onward → (size ≡ 0 → ⊥) → literal_of onward size (may_stand 1 2) level ≡ true
      → (Passed s level (at + size)) × (6 ≤ size) × (at + size ≤ length s)
  unfolding widths_after
  passed_literal size is some e =
      let h = literal_head onward size 1 level is some e in
      let x = take size onward in
      passed_node size is some h.1 (λ img page w c.
      let n = node_lit img x page 1 level w (sym h.0) h.1 in
      (ap (λ (d : Decoded). d.walk) n, ap (λ (d : Decoded). widths_after d.row c) n))
