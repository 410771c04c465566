-- The pages that a walk has reached, as the check's marks.
use Rattle.std.specs.Prelude.{◌≡◌, refl, Bool, true, false, cond, ◌||◌, List, [], ◌∷◌, ℕ, ◌<◌, replicate, eqb}
use Rattle.std.proofs.Common.{sym, ◌∙◌, eqb-true, eq-eqb, ne_eqb}
use Rattle.std.proofs.lemmas.Bool.{eqb-false}
use Rattle.model.specs.Limits.{most_pages, mark_bytes}
use Rattle.model.specs.Calls.Diagnose.{contains}
use Rattle.theory_check.specs.Tests.{is_marked, marked}
use Rattle.theory_check.specs.Marks.{IsMarks, marks_none, none_marked, marks_kept, is_marked_lem}

pub record Matches (marks reached : List ℕ) : Type 0 where
  pub are : IsMarks marks
  pub same : (p : ℕ) → p < most_pages → is_marked marks p ≡ contains reached p

pub matches_none : Matches (replicate mark_bytes 0) []
matches_none = record { are = marks_none; same = λ p h. none_marked p }

pub matches_more : {m ps : List ℕ} → Matches m ps → (p : ℕ) → p < most_pages → Matches (marked m p) (p ∷ ps)
matches_more {m} {ps} k p low = record {
  are = marks_kept m p k.are low;
  same = λ q h. is_marked_lem m p q k.are low h ∙ rw (k.same q h) (flip q (eqb q p) refl);
}
  where
    flip : (q : ℕ) (b : Bool) → eqb q p ≡ b → cond b true (contains ps q) ≡ (eqb p q || contains ps q)
    flip q true e = rw (eq-eqb p q (sym (eqb-true q p e)))
    flip q false e = rw (ne_eqb p q (λ z. eqb-false q p e (sym z)))
