-- The equations of `decode`: what it is at a node and at a list, with no guard on the calls.
use Rattle.std.specs.Prelude.{◌≡◌, refl, List, true, false, ℕ, ◌+◌, ◌*◌, ◌≤◌, ◌<◌, length, take, drop, ltb, eqb, leb}
use Rattle.std.proofs.Math.Path.{ap}
use Rattle.std.proofs.Common.{◌∙◌, sym, le_refl, arith, length-take}
use Rattle.std.proofs.Math.Nat.{le_trans}
use Rattle.std.proofs.Math.ListN.{length-drop}
use Rattle.std.proofs.Math.Seq.{length-take-le}
use borrow.Author.Tests.{lt-ltb, eqb-false, ltb-true, leb-true, eqb-true, not-true, eq-eqb, ne_eqb}
use Rattle.model.specs.Row.{may_stand, nil}
use Rattle.model.specs.Limits.{most_pages, page_size, capacity, most_levels, most_origin}
use Rattle.model.specs.Reading.{size_at, used_at, state_at, settled_at, head_at, name_at, back_at, kind_at}
use Rattle.theory_decoding.specs.Valid.{both as and_both}
use Rattle.theory_check.specs.Rec.{under, unfold', keeps}
use Rattle.model.specs.WalkTests.{whole_size, passing_kind, names_of, root_fits, tail_zero, shape_of, record_of}
use Rattle.theory_check.specs.Tests.{is_marked}
use Rattle.theory_check.specs.Walk.{State, with_mark, enters_of, Decoded, Job, node, list, measure, stop, none, as_agg, as_rec, step, proxy_step}
use Rattle.theory_check.specs.Walk.{node_step, more_step, list_step, decode, node_of, list_of, proxy_of, before}
use Rattle.theory_check.specs.Facts.{both, arms, not_else}

-- What page p shows of itself where a proxy in the record of `page` may name it.
pub record Named (img : List ℕ) (p page : ℕ) : Type 0 where
  pub past : 2 ≤ p
  pub low : p < most_pages
  pub inside : page_size * p + page_size ≤ length img
  pub kind : state_at img (page_size * p) ≡ 1
  pub used : used_at img (page_size * p) ≤ capacity
  pub holder : back_at img (page_size * p) ≡ page

pub named : (img : List ℕ) (p page : ℕ) → names_of img p page ≡ true → Named img p page
unfolding names_of
named img p page e =
    let holder = and_both _ _ e in
    let used = and_both _ _ holder.0 in
    let kind = and_both _ _ used.0 in
    let inside = and_both _ _ kind.0 in
    let low = and_both _ _ inside.0 in
    record {
      past = leb-true _ _ low.0;
      low = ltb-true _ _ low.1;
      inside = leb-true _ _ inside.1;
      kind = eqb-true _ _ kind.1;
      used = leb-true _ _ used.1;
      holder = eqb-true _ _ holder.1;
    }

-- What entering it shows.
pub record Entered (img : List ℕ) (p page : ℕ) (w : State) : Type 0 where
  pub names : Named img p page
  pub root : root_fits img p ≡ true
  pub room : 2 ≤ w.left
  pub fresh : is_marked w.marks p ≡ false
  pub tail : tail_zero img p ≡ true

pub entered : (img : List ℕ) (p page : ℕ) (w : State) → enters_of img p page w ≡ true → Entered img p page w
unfolding enters_of
entered img p page w e =
    let tail = and_both _ _ e in
    let fresh = and_both _ _ tail.0 in
    let room = and_both _ _ fresh.0 in
    let root = and_both _ _ room.0 in
    record {
      names = named img p page root.0;
      root = root.1;
      room = leb-true _ _ room.1;
      fresh = not-true _ fresh.1;
      tail = tail.1;
    }

-- A node of this kind that passes every test of `passing_kind`.
pub record Passing (s : List ℕ) (holder kind : ℕ) : Type 0 where
  pub long : 6 ≤ length s
  pub small : kind ≤ 4
  pub first : kind_at s 0 ≡ kind
  pub origin : (head_at s 0).origin ≤ most_origin
  pub size : size_at s 0 ≡ length s
  pub may : may_stand holder kind ≡ true
  pub shape : shape_of s kind ≡ true

pub passing : (s : List ℕ) (holder kind : ℕ) → passing_kind s holder ≡ kind → (kind ≡ 0 → ⊥) → Passing s holder kind
unfolding passing_kind
passing s holder kind e z =
    let t = not_else _ (λ q. z (sym q)) e in
    let shape = and_both _ _ t.0 in
    let size = and_both _ _ shape.0 in
    let origin = and_both _ _ size.0 in
    let may = and_both _ _ origin.0 in
    let small = and_both _ _ may.0 in
    record {
      long = leb-true _ _ small.0;
      small = omega (arith, leb-true (kind_at s 0) 4 small.1, t.1);
      first = t.1;
      origin = leb-true _ _ origin.1;
      size = eqb-true _ _ size.1;
      may = ap (may_stand holder) (sym t.1) ∙ may.1;
      shape = ap (shape_of s) (sym t.1) ∙ shape.1;
    }

pub head_long : (s : List ℕ) (holder : ℕ) → eqb (passing_kind s holder) 0 ≡ false → 6 ≤ length s
head_long s holder e = (passing s holder _ refl (eqb-false _ 0 e)).long

-- A node that has a size is whole.
pub size_long : (s : List ℕ) → eqb (whole_size s) 0 ≡ false → (6 ≤ whole_size s) × (whole_size s ≤ length s) × (size_at s 0 ≡ whole_size s)
unfolding whole_size
size_long s e =
    let t = not_else _ {n = whole_size s} (λ q. eqb-false _ 0 e (sym q)) refl in
    let u = and_both _ _ t.0 in
    let low = leb-true _ _ (and_both (leb 6 (length s)) _ u.0).1 in
    let high = leb-true _ _ u.1 in
    (rw (← t.1) low, rw (← t.1) high, t.1)

-- the walk that a job starts with
abbrev pub from : Job → State
from (node s page holder level w) = w
from (list s page holder level w) = w

-- an answer leaves no more pages than its job had
abbrev Less : (Job → Decoded) → Type 0
Less f = (j : Job) → (f j).walk.left ≤ (from j).left

less_none : Less none
less_none (node s page holder level w) = omega arith
less_none (list s page holder level w) = omega arith

module _ (img : List ℕ) (f : Job → Decoded) (h : Less f) where
  abbrev Kept : State → Decoded → Type 0
  Kept w d = d.walk.left ≤ w.left

  less_stop : (w : State) → Kept w (stop w)
  less_stop w = omega arith

  less_proxy : (p page level : ℕ) (w : State) → Kept w (proxy_step img f p page level w)
  unfolding proxy_step
  less_proxy p page level w =
      both (Kept w) (enters_of img p page w)
      (le_trans (h (node (record_of img p) p 0 level (with_mark w p))) (omega arith))
      (less_stop w)

  less_node : (s : List ℕ) (page holder level : ℕ) (w : State) (kind : ℕ) → Kept w (node_step img f s page holder level w kind)
  unfolding node_step
  less_node s page holder level w kind =
      both (Kept w) (eqb kind 0) (less_stop w)
      (both (Kept w) (eqb kind 3) (both (Kept w) (eqb (length s) 8) (less_proxy (name_at s 0) page level w) (less_stop w))
      (both (Kept w) (eqb kind 4) (h (list (drop 6 s) page 4 level w))
      (both (Kept w) (ltb most_levels level) (less_stop w)
      (both (Kept w) (eqb kind 2) (le_refl w.left) (h (list (drop 6 s) page 1 (level + 1) w))))))

  less_more : (s : List ℕ) (page holder level : ℕ) (w : State) (n : ℕ) → Kept w (more_step img f s page holder level w n)
  unfolding more_step
  less_more s page holder level w n =
      let first = node (take n s) page holder level w in
      le_trans (h (list (drop n s) page holder level (f first).walk)) (h first)

  less_list : (s : List ℕ) (page holder level : ℕ) (w : State) → Kept w (list_step img f s page holder level w)
  unfolding list_step
  less_list s page holder level w =
      both (Kept w) (eqb (length s) 0) (le_refl w.left)
      (both (Kept w) (eqb w.left 0) (le_refl w.left)
      (both (Kept w) (eqb (whole_size s) 0) (less_stop w) (less_more s page holder level w (whole_size s))))

  less_step : Less (step img f)
  less_step (node s page holder level w) = less_node s page holder level w (passing_kind s holder)
  less_step (list s page holder level w) = less_list s page holder level w

module _ (img : List ℕ) where
  pub less : Less (decode img)
  unfolding decode
  less = keeps measure none (step img) (λ (j : Job) (d : Decoded). d.walk.left ≤ (from j).left) less_none (less_step img)

  -- a call below the measure is answered by `decode`
  abbrev U : ℕ → Job → Decoded
  U m = under measure none (step img) m (decode img)

  below : (m : ℕ) (j : Job) → measure j < m → U m j ≡ decode img j
  unfolding under
  below m j h = rw (lt-ltb (measure j) m h)

  eq : (j : Job) → decode img j ≡ step img (U (measure j)) j
  unfolding decode
  eq j = unfold' measure none (step img) j

  pub length_part : (a n : ℕ) → length (take n (drop a img)) ≤ n
  length_part a n = simp length-take (omega arith)

  proxy_falls : (m p page level : ℕ) (w : State) → 16384 * w.left ≤ m → enters_of img p page w ≡ true
      → measure (node (record_of img p) p 0 level (with_mark w p)) < m
  proxy_falls m p page level w h e =
      let f = entered img p page w e in
      omega (arith, f.room, f.names.used, length_part (page_size * p) (used_at img (page_size * p)))

  proxy_eq : (m p page level : ℕ) (w : State) → 16384 * w.left ≤ m → proxy_step img (U m) p page level w ≡ proxy_of img p page level w
  unfolding proxy_step
  proxy_eq m p page level w h =
      arms (enters_of img p page w)
      (λ e. ap (as_rec p (eqb (settled_at img (page_size * p)) 1)) (below m (node (record_of img p) p 0 level (with_mark w p)) (proxy_falls m p page level w h e)))
      (λ _. refl)

  module _ (s : List ℕ) (page holder level : ℕ) (w : State) where
    abbrev m : ℕ
    m = measure (node s page holder level w)

    tail : (p l : ℕ) → 6 ≤ length s → measure (list (drop 6 s) page p l w) < m
    tail p l h = omega (arith, length-drop 6 s)

    node_go : node_step img (U m) s page holder level w (passing_kind s holder) ≡ node_step img (decode img) s page holder level w (passing_kind s holder)
    unfolding node_step
    node_go =
        arms (eqb (passing_kind s holder) 0) (λ _. refl) (λ z.
        arms (eqb (passing_kind s holder) 3) (λ _. arms (eqb (length s) 8) (λ _. proxy_eq m (name_at s 0) page level w (omega arith)) (λ _. refl)) (λ _.
        arms (eqb (passing_kind s holder) 4) (λ _. below m (list (drop 6 s) page 4 level w) (tail 4 level (head_long s holder z))) (λ _.
        arms (ltb most_levels level) (λ _. refl) (λ _.
        arms (eqb (passing_kind s holder) 2) (λ _. refl)
        (λ _. ap (as_agg (head_at s 0)) (below m (list (drop 6 s) page 1 (level + 1) w) (tail 1 (level + 1) (head_long s holder z))))))))

    -- what a node is
    pub node_eq : node_of img s page holder level w ≡ node_step img (decode img) s page holder level w (passing_kind s holder)
    node_eq = eq (node s page holder level w) ∙ node_go

    abbrev k : ℕ
    k = measure (list s page holder level w)

    more_go : eqb (whole_size s) 0 ≡ false
        → more_step img (U k) s page holder level w (whole_size s) ≡ more_step img (decode img) s page holder level w (whole_size s)
    unfolding more_step
    more_go z =
        let n = whole_size s in
        let h = size_long s z in
        let first = node (take n s) page holder level w in
        let rest = list (drop n s) page holder level (decode img first).walk in
        let l = less first in
        rw (below k first (omega (arith, length-take-le n s h.1)), below k rest (omega (arith, length-drop n s)))

    list_go : list_step img (U k) s page holder level w ≡ list_step img (decode img) s page holder level w
    unfolding list_step
    list_go = arms (eqb (length s) 0) (λ _. refl) (λ _. arms (eqb w.left 0) (λ _. refl) (λ _. arms (eqb (whole_size s) 0) (λ _. refl) more_go))

    -- what a list is
    pub list_eq : list_of img s page holder level w ≡ list_step img (decode img) s page holder level w
    list_eq = eq (list s page holder level w) ∙ list_go

    pub list_none : length s ≡ 0 → list_of img s page holder level w ≡ record { row = nil; walk = w }
    unfolding list_step
    list_none e = list_eq ∙ simp (eq-eqb _ _ e)

    -- its first node, and the list after it
    pub list_more : (length s ≡ 0 → ⊥) → (w.left ≡ 0 → ⊥) → (whole_size s ≡ 0 → ⊥)
        → let a = node_of img (take (whole_size s) s) page holder level w in
        list_of img s page holder level w ≡ before a (list_of img (drop (whole_size s) s) page holder level a.walk)
    unfolding list_step more_step
    list_more e f n = list_eq ∙ simp (ne_eqb _ _ e, ne_eqb _ _ f, ne_eqb _ _ n)
