-- What `decode` gives of a node by its kind.
use Rattle.std.specs.Prelude.{◌≡◌, Bool, true, false, List, ℕ, ◌+◌, ◌≤◌, ◌<◌, length, drop, eqb, ltb}
use Rattle.std.proofs.Math.Path.{refl}
use Rattle.std.proofs.Common.{ap, ◌∙◌, arith}
use borrow.Author.Tests.{lt-ltb, le-ltb, ne_eqb, eqb-true, eqb-false, ltb-true, ltb-false}
use Rattle.model.specs.Limits.{most_levels}
use Rattle.model.specs.Row.{nil, lit}
use Rattle.model.specs.Tree.{width}
use Rattle.model.specs.Reading.{head_at, name_at}
use Rattle.model.specs.WalkTests.{passing_kind}
use Rattle.theory_check.specs.Walk.{State, enters_of, Decoded, stop, as_agg, proxy_step, node_step, node_of, list_of}
use Rattle.theory_check.specs.Steps.{node_eq}
use Rattle.theory_check.specs.Facts.{both}
use Rattle.theory_check.specs.Levels.{node_proxy}

module _ (img s : List ℕ) (page holder level : ℕ) (w : State) where
  abbrev Is : Decoded → Type 0
  Is d = node_of img s page holder level w ≡ d

  pub node_none : passing_kind s holder ≡ 0 → Is (stop w)
  unfolding node_step
  node_none e = node_eq img s page holder level w ∙ simp e

  pub node_agg : passing_kind s holder ≡ 1 → level ≤ most_levels → Is (as_agg (head_at s 0) (list_of img (drop 6 s) page 1 (level + 1) w))
  unfolding node_step
  node_agg e l = node_eq img s page holder level w ∙ simp (e, le-ltb _ _ l)

  pub node_lit : passing_kind s holder ≡ 2 → level ≤ most_levels → Is (record { row = lit (head_at s 0) (drop 6 s) nil; walk = w })
  unfolding node_step
  node_lit e l = node_eq img s page holder level w ∙ simp (e, le-ltb _ _ l)

  pub node_deep : (passing_kind s holder ≡ 3 → ⊥) → (passing_kind s holder ≡ 4 → ⊥) → most_levels < level → Is (stop w)
  unfolding node_step
  node_deep a b l =
      node_eq img s page holder level w
      ∙ simp (ne_eqb _ _ a, ne_eqb _ _ b, lt-ltb _ _ l) (both (λ (d : Decoded). d ≡ stop w) (eqb (passing_kind s holder) 0) refl refl)

  pub node_3_bad : passing_kind s holder ≡ 3 → (length s ≡ 8 → ⊥) → Is (stop w)
  unfolding node_step
  node_3_bad e n = node_eq img s page holder level w ∙ simp (e, ne_eqb _ _ n)

  -- a page that may not be entered
  pub node_3_out : passing_kind s holder ≡ 3 → length s ≡ 8 → enters_of img (name_at s 0) page w ≡ false → Is (stop w)
  unfolding proxy_step
  node_3_out e n f = node_proxy img s page holder level w e n ∙ simp f

  -- an aggregate or a literal that is not refused is one node
  pub node_wide : 1 ≤ passing_kind s holder → passing_kind s holder ≤ 2 → ((node_of img s page holder level w).walk.left ≡ 0 → ⊥)
      → width (node_of img s page holder level w).row ≡ 1
  node_wide a b z = go (ltb most_levels level) refl (eqb (passing_kind s holder) 1) refl
    where
      go : (x : Bool) → ltb most_levels level ≡ x → (y : Bool) → eqb (passing_kind s holder) 1 ≡ y → width (node_of img s page holder level w).row ≡ 1
      go true p y q =
          absurd (z (ap (λ (d : Decoded). d.walk.left) (node_deep (λ e. omega arith) (λ e. omega arith) (ltb-true most_levels level p))))
      go false p true q = ap (λ (d : Decoded). width d.row) (node_agg (eqb-true (passing_kind s holder) 1 q) (ltb-false most_levels level p))
      go false p false q =
          let e = eqb-false (passing_kind s holder) 1 q in
          let two : passing_kind s holder ≡ 2 = omega arith in
          ap (λ (d : Decoded). width d.row) (node_lit two (ltb-false most_levels level p))
