-- What a place finds in the document order: its node and the nodes after it, or nothing.
use Rattle.std.specs.Prelude.{◌≡◌, Bool, ℕ, ◌+◌, ◌≤◌, eqb}
use Rattle.std.proofs.Math.Path.{refl, subst}
use Rattle.std.proofs.Common.{sym, ap, ◌∙◌, arith, eqb-true, eq-eqb}
use Rattle.std.proofs.Math.Bool.{true, false, cond}
use Rattle.std.proofs.lemmas.Bool.{false≢true}
use mathlib.Core.List.Memᴰ
use mathlib.Core.List.{List, [], ◌∷◌, ◌++◌, map, nil≢cons, head-eq_of_cons-eq}
use Rattle.std.proofs.Math.Option.{Option, none, some}
use Rattle.model.specs.Row.{Row, Config}
use Rattle.model.specs.Tree.{Node, shown, nodes, same_place, places, place_of, is_place, from_place}
use Rattle.model.specs.declared.Place.{Place}
use Rattle.theory_rows.specs.Fits.{Valid}
use Rattle.theory_places.specs.Member.{Mem, mem_split}
use Rattle.theory_places.specs.Order.{lone_root, place_root}
use Rattle.theory_places.specs.Distinct.{tally, distinct_places}

-- ── the test of a place ──

same_true : (x y : Place) → same_place x y ≡ true → x ≡ y
same_true x y e = go (eqb x.page y.page) refl e
  where
    go : (b : Bool) → eqb x.page y.page ≡ b → cond b (eqb x.offset y.offset) false ≡ true → x ≡ y
    go true p o = λ i. record { page = eqb-true x.page y.page p i; offset = eqb-true x.offset y.offset o i }
    go false p o = absurd (false≢true o)

is_true : (x : Place) (o : Option Place) → is_place x o ≡ true → o ≡ some x
is_true x none e = absurd (false≢true e)
is_true x (some y) e = ap some (sym (same_true x y e))

true_is : (x : Place) (o : Option Place) → o ≡ some x → is_place x o ≡ true
true_is x o e = ap (is_place x) e ∙ rw (eq-eqb x.page x.page refl, eq-eqb x.offset x.offset refl)

-- ── any place function ──

module _ (place : List ℕ → Option Place) (x : Place) where
  abbrev at : Node → Option Place
  at n = place n.path

  -- How many nodes stand at x.
  abbrev standing : List (Option Place) → ℕ
  standing [] = 0
  standing (o ∷ os) = cond (is_place x o) 1 0 + standing os

  standing_some : (ps : List Place) → standing (map some ps) ≡ tally x ps
  standing_some [] = refl
  standing_some (p ∷ ps) = rw (standing_some ps)

  one_stands : (before ms : List Node) (n : Node) → at n ≡ some x → 1 ≤ standing (map at (before ++ n ∷ ms))
  one_stands [] ms n e = rw (true_is x (at n) e) (omega arith)
  one_stands (b ∷ before) ms n e = omega (arith, one_stands before ms n e)

  alone_split : (before ms : List Node) (n : Node) → standing (map at (before ++ n ∷ ms)) ≤ 1 → at n ≡ some x → from_place place x (before ++ n ∷ ms) ≡ n ∷ ms
  unfolding from_place
  alone_split [] ms n h e = rw (true_is x (at n) e)
  alone_split (b ∷ before) ms n h e = go (is_place x (at b)) h (alone_split before ms n)
    where
      ns : List Node
      ns = before ++ n ∷ ms

      go : (t : Bool) → cond t 1 0 + standing (map at ns) ≤ 1 → (standing (map at ns) ≤ 1 → at n ≡ some x → from_place place x ns ≡ n ∷ ms)
          → cond t (b ∷ ns) (from_place place x ns) ≡ n ∷ ms
      go true h ih = absurd (omega (arith, one_stands before ms n e))
      go false h ih = ih (omega arith) e

  -- Nothing is found where no node stands.
  pub from_none : (ns : List Node) → ((n : Node) → Mem n ns → place n.path ≡ some x → ⊥) → from_place place x ns ≡ []
  unfolding from_place
  from_none [] f = refl
  from_none (n ∷ ns) f = go (is_place x (at n)) refl (from_none ns (λ m i. f m (Memᴰ.tail i)))
    where
      go : (t : Bool) → is_place x (at n) ≡ t → from_place place x ns ≡ [] → cond t (n ∷ ns) (from_place place x ns) ≡ []
      go true e ih = absurd (f n (Memᴰ.head refl) (is_true x (at n) e))
      go false e ih = ih

  -- What is found stands there.
  pub from_stands : (ns ms : List Node) (n : Node) → from_place place x ns ≡ n ∷ ms → Mem n ns × (place n.path ≡ some x)
  unfolding from_place
  from_stands [] ms n e = absurd (nil≢cons e)
  from_stands (m ∷ ns) ms n e = go (is_place x (at m)) refl e (from_stands ns ms n)
    where
      go : (t : Bool) → is_place x (at m) ≡ t → cond t (m ∷ ns) (from_place place x ns) ≡ n ∷ ms
          → (from_place place x ns ≡ n ∷ ms → Mem n ns × (at n ≡ some x)) → Mem n (m ∷ ns) × (at n ≡ some x)
      go true t e ih =
          let q : m ≡ n = head-eq_of_cons-eq e in
          (Memᴰ.head (sym q), subst (λ (n : Node). at n ≡ some x) q (is_true x (at m) t))
      go false t e ih = (Memᴰ.tail (ih e).0, (ih e).1)

-- ── the places of a valid store ──

module _ (st : Config) (root : Row) (v : Valid st root) where
  alone : (x : Place) → standing (place_of root) x (map (at (place_of root) x) (nodes (shown root))) ≤ 1
  alone x = rw (place_root root (lone_root st root v), standing_some (place_of root) x (places 1 0 root)) (distinct_places st root v x)

  -- A node's place finds the node and those after it,
  pub from_split : (x : Place) (before ms : List Node) (n : Node) → nodes (shown root) ≡ before ++ n ∷ ms → place_of root n.path ≡ some x
      → from_place (place_of root) x (nodes (shown root)) ≡ n ∷ ms
  from_split x before ms n e p = rw e (alone_split (place_of root) x before ms n (rw e at (alone x)) p)

  pub from_found : (x : Place) (n : Node) → Mem n (nodes (shown root)) → place_of root n.path ≡ some x
      → (ms : List Node) × (from_place (place_of root) x (nodes (shown root)) ≡ n ∷ ms)
  from_found x n m p =
      let s = mem_split n (nodes (shown root)) m in
      (s.1, from_split x s.0 s.1 n s.2 p)

  -- and so distinct nodes have distinct places.
  pub places_differ : (m n : Node) (x : Place) → Mem m (nodes (shown root)) → Mem n (nodes (shown root))
      → place_of root m.path ≡ some x → place_of root n.path ≡ some x → m ≡ n
  places_differ m n x i j p q = head-eq_of_cons-eq (sym (from_found x m i p).1 ∙ (from_found x n j q).1)
