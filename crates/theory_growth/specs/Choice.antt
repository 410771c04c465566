-- What step 1 chooses: with two siblings the emptier of two spots of the gap, with one the spot beside it, with none the parent's own record. The tree shown does
-- not depend on the choice.
use Rattle.std.specs.Prelude.{◌≡◌, refl, Bool, true, false, cond, List, [], ◌∷◌, ◌++◌, ℕ, zero, suc, ltb}
use Rattle.std.proofs.Math.Path.{sym}
use Rattle.std.proofs.Common.{ap, ap₂, subst, ◌∙◌, lt-ltb, le-ltb}
use Rattle.std.proofs.Math.Option.{Option, none, some, some-injective, none-ne-some}
use Rattle.model.specs.Row.{Head, Row, nil, Config}
use Rattle.model.specs.Tree.{shown, Node, named, place_of}
use Rattle.model.specs.declared.Place.{Place}
use Rattle.model.specs.Spot.{Position, here, into, Chain, top, last_page, Stand, stand_in, stand_of, Spot, spot_after, spot_before, unused, emptier}
use Rattle.model.specs.Spot.{spot_beside, spot_first, spot_child, spot_in, spot_of}
use Rattle.model.specs.Claims.{TwoSpots, StepOne}
use Rattle.theory_rows.specs.Laws.{cond_case}
use Rattle.theory_growth.specs.Path.{spot_along, stand_below, stand_along, AtPath, at_path}
use Rattle.theory_growth.specs.Gap.{Gap, after_child, before_child, child_gap}
use Rattle.theory_growth.specs.Store.{risen_shows}

-- ── the parent's header ──

emptier_parent : (h : Head) (l r : Stand) → (emptier (spot_after h l) (spot_before h r)).parent ≡ h
emptier_parent h l r = cond_case (λ (u : Spot). u.parent ≡ h) (ltb (unused (spot_after h l)) (unused (spot_before h r))) (λ _. refl) (λ _. refl)

first_parent : (own : Spot) (o : Option Stand) → (spot_first own o).parent ≡ own.parent
first_parent own none = refl
first_parent own (some r) = refl

beside_parent : (h : Head) (l r : Option Stand) (t : Spot) → spot_beside h l r ≡ some t → t.parent ≡ h
beside_parent h none r t e = absurd (none-ne-some t e)
beside_parent h (some l) none t e = sym (ap (λ (u : Spot). u.parent) (some-injective _ t e))
beside_parent h (some l) (some r) t e = sym (ap (λ (u : Spot). u.parent) (some-injective _ t e)) ∙ emptier_parent h l r

child_parent : (h : Head) (c : Chain) (s : Position) (k : ℕ) (row : Row) (t : Spot) → spot_child h c s k row ≡ some t → t.parent ≡ h
child_parent h c s zero row t e =
    sym (ap (λ (u : Spot). u.parent) (some-injective _ t e))
    ∙ first_parent (record { chain = c; position = s; rest = row; parent = h }) (stand_in c s 0 [] row)
child_parent h c s (suc i) row t e = beside_parent h (stand_in c s i [] row) (stand_in c s (suc i) [] row) t e

-- ── by the siblings ──

module _ (root : Row) (path : List ℕ) (t : Spot) where
  abbrev Named : Type 1
  Named = AtPath top (here nil) 0 path root

  named_by_lem : (k : ℕ) → spot_of root path k ≡ some t → Named
  named_by_lem k e = at_path (spot_in k) (spot_along k) t top (here nil) 0 path root e

  module _ (w : Named) where
    abbrev inner : Position
    inner = into w.position w.head w.rest

    -- The spot of a child, and the children's stands, among the children of the aggregate that the path names.
    child_spot : (k : ℕ) → spot_of root path k ≡ some t → spot_child w.head w.chain inner k w.children ≡ some t
    unfolding spot_in
    child_spot k e = sym (w.along Spot (spot_in k) (spot_along k)) ∙ e

    child_stand : (j : ℕ) (o : Option Stand) → stand_of root (path ++ j ∷ []) ≡ o → stand_in w.chain inner j [] w.children ≡ o
    unfolding stand_in
    child_stand j o e = sym (w.along Stand (stand_below j) (stand_along j)) ∙ e

    later_spot : (i : ℕ) (l r : Option Stand) → spot_of root path (suc i) ≡ some t → stand_of root (path ++ i ∷ []) ≡ l
        → stand_of root (path ++ suc i ∷ []) ≡ r → spot_beside w.head l r ≡ some t
    later_spot i l r e a b = ap₂ (spot_beside w.head) (sym (child_stand i l a)) (sym (child_stand (suc i) r b)) ∙ child_spot (suc i) e

    abbrev own : Spot
    own = record { chain = w.chain; position = inner; rest = w.children; parent = w.head }

    first_spot : (o : Option Stand) → spot_of root path 0 ≡ some t → stand_of root (path ++ 0 ∷ []) ≡ o → spot_first own o ≡ t
    first_spot o e a = some-injective _ t (ap (λ (o : Option Stand). some (spot_first own o)) (sym (child_stand 0 o a)) ∙ child_spot 0 e)

  two_spots : (st : Config) (i : ℕ) (l r : Stand) → spot_of root path (suc i) ≡ some t → stand_of root (path ++ i ∷ []) ≡ some l
      → stand_of root (path ++ suc i ∷ []) ≡ some r → TwoSpots st root path i l r t
  two_spots st i l r e a b =
      let w = named_by_lem (suc i) e in
      let h = w.head in
      let left = child_gap root path (suc i) (spot_after h l) w (after_child h w.chain w.position w.rest w.children i l (child_stand w i (some l) a)) in
      let right =
      child_gap root path (suc i) (spot_before h r) w
      (before_child h w.chain w.position w.rest w.children (suc i) r (child_stand w (suc i) (some r) b)) in
      let chosen : emptier (spot_after h l) (spot_before h r) ≡ t = some-injective _ t (later_spot w i (some l) (some r) e a b) in
      let by : (u : Bool) → ltb (unused (spot_after h l)) (unused (spot_before h r)) ≡ u → t ≡ cond u (spot_before h r) (spot_after h l) =
      λ u m. rw (← m) (sym chosen) in
      let own : h ≡ t.parent = sym (child_parent h w.chain (inner w) (suc i) w.children t (child_spot w (suc i) e)) in
      record {
        right = λ m. by true (lt-ltb _ _ m) ∙ ap (λ (h : Head). spot_before h r) own;
        left = λ m. by false (le-ltb _ _ m) ∙ ap (λ (h : Head). spot_after h l) own;
        after = λ x. risen_shows st x root path (suc i) (spot_after t.parent l) (subst (λ (h : Head). Gap root path (suc i) (spot_after h l)) own left);
        before = λ x. risen_shows st x root path (suc i) (spot_before t.parent r) (subst (λ (h : Head). Gap root path (suc i) (spot_before h r)) own right);
      }

  one_left : (i : ℕ) (l : Stand) → spot_of root path (suc i) ≡ some t → stand_of root (path ++ i ∷ []) ≡ some l → stand_of root (path ++ suc i ∷ []) ≡ none
      → t ≡ spot_after t.parent l
  one_left i l e a b =
      subst (λ (u : Spot). u ≡ spot_after u.parent l) (some-injective _ t (later_spot (named_by_lem (suc i) e) i (some l) none e a b)) refl

  one_right : (r : Stand) → spot_of root path 0 ≡ some t → stand_of root (path ++ 0 ∷ []) ≡ some r → t ≡ spot_before t.parent r
  one_right r e a = subst (λ (u : Spot). u ≡ spot_before u.parent r) (first_spot (named_by_lem 0 e) (some r) e a) refl

  none_beside : (y : Place) → spot_of root path 0 ≡ some t → stand_of root (path ++ 0 ∷ []) ≡ none → place_of root path ≡ some y → last_page t.chain ≡ y.page
  none_beside y e a f = subst (λ (u : Spot). last_page u.chain ≡ y.page) (first_spot (named_by_lem 0 e) none e a) ((named_by_lem 0 e).place y 0 f).0

  parent_head : (k : ℕ) (n : Node) → spot_of root path k ≡ some t → named (shown root) path ≡ some n → t.parent ≡ n.head
  parent_head k n e f =
      let w = named_by_lem k e in
      child_parent w.head w.chain (inner w) k w.children t (child_spot w k e) ∙ w.node n f

  pub step_one : StepOne root path t
  step_one = record { both = two_spots; left_only = one_left; right_only = one_right; alone = none_beside; parent = parent_head }
