-- The marks that a walk leaves, and the pages that it may still enter.
use Rattle.std.specs.Prelude.{◌≡◌, refl, false, List, ℕ, ◌+◌, ◌≤◌, ◌<◌, eqb}
use Rattle.std.proofs.Common.{◌∙◌, arith}
use Rattle.model.specs.Limits.{most_pages}
use Rattle.model.specs.Row.{Row, nil, agg, lit, rec, count}
use Rattle.theory_decoding.specs.Valid.{names_own}
use Rattle.theory_check.specs.Facts.{not_one}
use Rattle.theory_check.specs.Tests.{is_marked, marked}
use Rattle.theory_check.specs.Marks.{IsMarks, marks_kept, is_marked_lem}

-- The marks after a row.
abbrev pub marks_after : Row → List ℕ → List ℕ
marks_after nil m = m
marks_after (agg h cs rest) m = marks_after rest (marks_after cs m)
marks_after (lit h c rest) m = marks_after rest m
marks_after (rec p s r rest) m = marks_after rest (marks_after r (marked m p))

-- A page that the row does not name has the mark that it had.
record Kept (row : Row) (m new : List ℕ) : Type 0 where
  marks : IsMarks new
  same : (q : ℕ) → q < most_pages → count q row ≡ 0 → is_marked new q ≡ is_marked m q

kept : (row : Row) (m : List ℕ) → IsMarks m → ((q : ℕ) → 1 ≤ count q row → q < most_pages) → Kept row m (marks_after row m)
kept nil m i r = record { marks = i; same = λ q l z. refl }
kept (agg h cs rest) m i r =
    let a = kept cs m i (λ q g. r q (omega arith)) in
    let b = kept rest (marks_after cs m) a.marks (λ q g. r q (omega arith)) in
    record { marks = b.marks; same = λ q l z. b.same q l (omega arith) ∙ a.same q l (omega arith) }
kept (lit h c rest) m i r = let a = kept rest m i r in record { marks = a.marks; same = a.same }
kept (rec p s x rest) m i r =
    let low = r p (names_own p s x rest) in
    let a = kept x (marked m p) (marks_kept m p i low) (λ q g. r q (omega arith)) in
    let b = kept rest (marks_after x (marked m p)) a.marks (λ q g. r q (omega arith)) in
    record {
      marks = b.marks;
      same = λ q l z. b.same q l (omega arith) ∙ a.same q l (omega arith) ∙ is_marked_lem m p q i low l ∙ rw (not_one (eqb q p) (omega arith));
    }

-- With these marks a walk over the row may enter each page that it names; the image has so many pages.
pub record Unreached (pages : ℕ) (m : List ℕ) (row : Row) : Type 0 where
  pub marks : IsMarks m
  pub range : (q : ℕ) → 1 ≤ count q row → (2 ≤ q) × (q < pages)
  pub once : (q : ℕ) → count q row ≤ 1
  pub new : (q : ℕ) → 1 ≤ count q row → is_marked m q ≡ false

-- Of a row that holds two: over the second after the first.
pub fresh_after : (pages : ℕ) (m : List ℕ) (row a b : Row) → pages ≤ most_pages → Unreached pages m row → ((q : ℕ) → count q a + count q b ≤ count q row)
    → Unreached pages (marks_after a m) b
fresh_after pages m row a b l f c =
    let k = kept a m f.marks (λ q g. omega (arith, f.range q (omega (arith, c q)))) in
    record {
      marks = k.marks;
      range = λ q g. f.range q (omega (arith, c q));
      once = λ q. omega (arith, c q, f.once q);
      new = λ q g. k.same q (omega (arith, f.range q (omega (arith, c q)))) (omega (arith, c q, f.once q)) ∙ f.new q (omega (arith, c q));
    }
