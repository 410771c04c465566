-- The tests of an insert, and what an accepted one passed.
use Rattle.std.specs.Prelude.{◌≡◌, ◌↔◌, Bool, true, false, List, [], ◌∷◌, ◌++◌, ℕ, ◌≤◌, length, ltb}
use Rattle.std.proofs.Math.Path.{sym}
use Rattle.std.proofs.Common.{◌∙◌, arith, ltb-false}
use Rattle.model.specs.Limits.{most_content, most_origin, longest_parent}
use Rattle.model.specs.Tree.{Tree, New}
use Rattle.model.specs.Common.{named_by, is_none}
use Rattle.model.specs.Calls.Insert.{kind_bad, is_literal, children_below, insert_number}
use Rattle.theory_calls.specs.FirstRefusal.{Without, first_clear, last_unasked, last_false, last_exactly}

-- All but the last, which is for a full store.
abbrev pub insert_tests : Tree → (path : List ℕ) → (k : ℕ) → New → List (ℕ × Bool)
insert_tests t path k x =
    let parent = named_by t path in
    (4, ltb longest_parent (length path)) ∷ (5, kind_bad x) ∷ (13, ltb most_origin x.head.origin)
    ∷ (6, ltb most_content (length x.content)) ∷ (7, is_none parent) ∷ (8, is_literal parent) ∷ (9, children_below k parent) ∷ []

module _ (t : Tree) (path : List ℕ) (k : ℕ) (x : New) where
  abbrev tests : List (ℕ × Bool)
  tests = insert_tests t path k x

  -- None has the number 0 or 12.
  not_0 : Without 0 tests
  not_0 = (omega arith, (omega arith, (omega arith, (omega arith, (omega arith, (omega arith, (omega arith, tt)))))))

  not_12 : Without 12 tests
  not_12 = (omega arith, (omega arith, (omega arith, (omega arith, (omega arith, (omega arith, (omega arith, tt)))))))

  -- 12 comes exactly where no other test applies and the store is full.
  pub full_last : (full : Bool) → (insert_number t path k x full ≡ 12) ↔ ((insert_number t path k x false ≡ 0) × (full ≡ true))
  unfolding insert_number
  full_last full = last_exactly tests 12 full not_0 not_12 (omega arith)

  -- Where another applies it does not matter.
  pub full_unasked : (full : Bool) → (insert_number t path k x false ≡ 0 → ⊥) → insert_number t path k x false ≡ insert_number t path k x full
  unfolding insert_number
  full_unasked full z = let e = last_false tests 12 in e ∙ sym (last_unasked tests 12 full (λ y. z (e ∙ y)))

-- No test of an accepted insert applies.
pub record Accepted (t : Tree) (path : List ℕ) (k : ℕ) (x : New) (full : Bool) : Type 0 where
  pub short : length path ≤ longest_parent
  pub kind : kind_bad x ≡ false
  pub origin : x.head.origin ≤ most_origin
  pub small : length x.content ≤ most_content
  pub named : is_none (named_by t path) ≡ false
  pub aggregate : is_literal (named_by t path) ≡ false
  pub within : children_below k (named_by t path) ≡ false
  pub room : full ≡ false

pub accepted : (t : Tree) (path : List ℕ) (k : ℕ) (x : New) (full : Bool) → insert_number t path k x full ≡ 0 → Accepted t path k x full
unfolding insert_number
accepted t path k x full z =
    let u = first_clear (insert_tests t path k x ++ (12, full) ∷ [])
    (omega arith, (omega arith, (omega arith, (omega arith, (omega arith, (omega arith, (omega arith, (omega arith, tt)))))))) z in
    record {
      short = ltb-false _ _ u.0;
      kind = u.1.0;
      origin = ltb-false _ _ u.1.1.0;
      small = ltb-false _ _ u.1.1.1.0;
      named = u.1.1.1.1.0;
      aggregate = u.1.1.1.1.1.0;
      within = u.1.1.1.1.1.1.0;
      room = u.1.1.1.1.1.1.1.0;
    }
