-- What a walk reaches: each page that its row names has a record, is marked, was not marked before, and is one page less to reach.
use Rattle.std.specs.Prelude.{◌≡◌, refl, List, Bool, true, false, cond, not, ◌&&◌, ℕ, ◌+◌, ◌-◌, ◌≤◌, ◌<◌, eqb, leb}
use Rattle.std.proofs.Common.{sym, ap, ◌∙◌, true≢false, arith, eqb-true, ne_eqb}
use Rattle.std.proofs.lemmas.Bool.{lt-leb}
use Rattle.model.specs.Limits.{most_pages}
use Rattle.model.specs.Row.{Row, nil, agg, lit, rec, ◌⊹◌, count, outside, standing, may_stand}
use Rattle.model.specs.Reading.{page_of, name_at}
use Rattle.model.specs.BeforeWalk.{trailer_of, is_free, trailer_fits, page_count}
use Rattle.theory_rows.specs.Image.{Stored}
use Rattle.theory_rows.specs.Pages.{count-⊹}
use Rattle.theory_check.specs.Tests.{is_marked, marked}
use Rattle.theory_check.specs.Marks.{IsMarks, marks_kept, is_marked_lem}
use Rattle.theory_check.specs.Walk.{State, Job, node, list}
use Rattle.theory_check.specs.Steps.{from, Entered}
use Rattle.theory_check.specs.Heads.{AllBytes}
use Rattle.theory_check.specs.Trailers.{trailer_says}
use Rattle.theory_check.specs.Parts.{in_use_lem, page_record}
use Rattle.theory_check.specs.Sums.{sum, sum_add, only, sum_only}
use Rattle.theory_check.specs.Passes.{Passes, proxy, helper, literal, aggregate, empty, next}
use Rattle.theory_check.specs.Rows.{node_is}

-- ── marks ──

abbrev pub bit : Bool → ℕ
bit b = cond b 1 0

-- Each page is marked as often as it was before and as the row names it, so at most one time.
pub record Marked (before after : List ℕ) (r : Row) : Type 0 where
  pub kept : IsMarks after
  pub once : (q : ℕ) → q < most_pages → bit (is_marked before q) + count q r ≡ bit (is_marked after q)

-- the mark of a fresh page p is one for its name
new_mark : (m : List ℕ) (p q n x : ℕ) → is_marked m p ≡ false → is_marked (marked m p) q ≡ cond (eqb q p) true (is_marked m q)
    → bit (is_marked (marked m p) q) + n ≡ x → bit (is_marked m q) + (cond (eqb q p) 1 0 + n + 0) ≡ x
new_mark m p q n x fresh e h = go (eqb q p) refl (rw e at h)
  where
    go : (b : Bool) → eqb q p ≡ b → bit (cond b true (is_marked m q)) + n ≡ x → bit (is_marked m q) + (cond b 1 0 + n + 0) ≡ x
    go true d h = rw (eqb-true q p d, fresh) (omega arith)
    go false d h = omega arith

module _ {img : List ℕ} where
  pub marks : {j : Job} {r : Row} {v : State} → Passes img j r v → IsMarks (from j).marks → Marked (from j).marks v.marks r
  marks (proxy {s = s} {w = w} h n g p) m =
      let new = name_at s 0 in
      let low = g.names.low in
      let k = marks p (marks_kept w.marks new m low) in
      record { kept = k.kept; once = λ q l. new_mark w.marks new q _ _ g.fresh (is_marked_lem w.marks new q m low l) (k.once q l) }
  marks (helper h p) m = marks p m
  marks (literal h l) m = record { kept = m; once = λ q l. omega arith }
  marks (aggregate h l p) m = let k = marks p m in record { kept = k.kept; once = λ q l. omega (arith, k.once q l) }
  marks (empty e) m = record { kept = m; once = λ q l. omega arith }
  marks (next {a = a} {r = r} l h p t) m =
      let i = marks p m in
      let k = marks t i.kept in
      record { kept = k.kept; once = λ q l. omega (arith, i.once q l, k.once q l, count-⊹ q a r) }

-- ── records ──

-- A page past page 1 that is in use.
abbrev pub has_record : List ℕ → ℕ → Bool
has_record img q = not (outside (page_count img) q) && not (is_free (trailer_of (page_of img q)))

-- How often a row names the pages of an image from 1 on.
abbrev pub names : List ℕ → Row → ℕ
names img r = sum (λ q. count q r) (page_count img - 1) 1

stored-⊹ : (mem : ℕ → List ℕ) (h : ℕ) (a b : Row) → Stored mem h a → Stored mem h b → Stored mem h (a ⊹ b)
stored-⊹ mem h nil b m n = n
stored-⊹ mem h (agg l cs rest) b m n = (m.0, stored-⊹ mem h rest b m.1 n)
stored-⊹ mem h (lit l c rest) b m n = stored-⊹ mem h rest b m n
stored-⊹ mem h (rec p s r rest) b m n = (m.0, m.1, stored-⊹ mem h rest b m.2 n)

-- The page of the record that a job's bytes stand in.
abbrev pub page_in : Job → ℕ
page_in (node s page holder level w) = page
page_in (list s page holder level w) = page

module _ (img : List ℕ) where
  has_entered : {p page : ℕ} {w : State} → Entered img p page w → has_record img p ≡ true
  has_entered {p} g =
      let low : leb p 1 ≡ false = lt-leb p 1 g.names.past in
      let high : leb (page_count img) p ≡ false = lt-leb (page_count img) p (omega (arith, g.names.inside)) in
      rw (low, high, in_use_lem img p g.names.kind)

  -- other pages are not named
  pub others : {j : Job} {r : Row} {v : State} → Passes img j r v → (q : ℕ) → has_record img q ≡ false → count q r ≡ 0
  others (proxy {s = s} h n g p) q e =
      let other : eqb q (name_at s 0) ≡ false = ne_eqb q (name_at s 0) (λ d. true≢false (sym (has_entered g) ∙ ap (has_record img) (sym d) ∙ e)) in
      rw other (omega (arith, others p q e))
  others (helper h p) q e = others p q e
  others (literal h l) q e = refl
  others (aggregate h l p) q e = omega (arith, others p q e)
  others (empty d) q e = refl
  others (next {a = a} {r = r} l h p t) q e = omega (arith, others p q e, others t q e, count-⊹ q a r)

  -- a page less is left for each name
  pub left : {j : Job} {r : Row} {v : State} → Passes img j r v → (from j).left ≤ v.left + names img r
  left (proxy {s = s} {r = r} h n g p) =
      let new = name_at s 0 in
      omega (
        arith,
        left p,
        sum_add (λ q. only new q + count q r) (λ q. 0) (page_count img - 1) 1,
        sum_add (only new) (λ q. count q r) (page_count img - 1) 1,
        sum_only new (page_count img - 1) 1 (omega (arith, g.names.past)) (omega (arith, g.names.inside)),
      )
  left (helper h p) = left p
  left (literal h l) = omega arith
  left (aggregate {r = r} h l p) = omega (arith, left p, sum_add (λ q. count q r) (λ q. 0) (page_count img - 1) 1)
  left (empty e) = omega arith
  left (next {a = a} {r = r} l h p t) =
      simp count-⊹ (omega (arith, left p, left t, sum_add (λ q. count q a) (λ q. count q r) (page_count img - 1) 1))

module _ (img : List ℕ) (whole : AllBytes img)
    (kept : (q : ℕ) → 1 ≤ q → q < page_count img → trailer_fits (page_count img) q (trailer_of (page_of img q)) ≡ true) where
  -- each record stands on its page
  pub stored : {j : Job} {r : Row} {v : State} → Passes img j r v → Stored (page_of img) (page_in j) r
  unfolding may_stand standing
  stored (proxy {s = s} {page = page} {r = r} h n g p) =
      let q = name_at s 0 in
      let says = trailer_says (page_count img) q (page_of img q) (kept q (omega (arith, g.names.past)) (omega (arith, g.names.inside))) (in_use_lem img q g.names.kind) in
      (page_record img q whole g.names.inside (page_count img) says g.tail page g.names.holder r ((node_is p).root refl), stored p, tt)
  stored (helper h p) = stored p
  stored (literal h l) = tt
  stored (aggregate h l p) = (stored p, tt)
  stored (empty e) = tt
  stored (next {page = page} {a = a} {r = r} l h p t) = stored-⊹ (page_of img) page a r (stored p) (stored t)
