-- Pages that were marked before a walk: it leaves them marked and names none of them, so their entries in a table of widths stay.
use Rattle.std.specs.Prelude.{◌≡◌, refl, Bool, true, false, cond, List, ℕ, ◌+◌, ◌<◌, length, take, drop, ltb, eqb}
use Rattle.std.proofs.Common.{sym, ap, ◌∙◌, true≢false, arith, eqb-true}
use Rattle.model.specs.Limits.{most_pages, most_levels}
use Rattle.model.specs.Row.{Row, nil, count}
use Rattle.model.specs.Reading.{name_at}
use Rattle.model.specs.WalkTests.{whole_size, passing_kind, record_of}
use Rattle.theory_rows.specs.Laws.{cond_case}
use Rattle.theory_rows.specs.Pages.{count-⊹}
use Rattle.theory_check.specs.Rec.{keeps}
use Rattle.theory_check.specs.Tests.{is_marked, marked}
use Rattle.theory_check.specs.Marks.{IsMarks, marks_kept, is_marked_lem}
use Rattle.theory_check.specs.Walk.{State, with_mark, enters_of, Decoded, Job, node, list, measure, none, step, proxy_step, node_step, more_step, list_step, decode}
use Rattle.theory_check.specs.Steps.{from, entered}
use Rattle.theory_check.specs.Facts.{both}

pub record Marking (before after : List ℕ) (r : Row) : Type 0 where
  pub marks : IsMarks after
  pub stays : (q : ℕ) → q < most_pages → is_marked before q ≡ true → (is_marked after q ≡ true) × (count q r ≡ 0)

abbrev Kept : State → Decoded → Type 0
Kept w d = IsMarks w.marks → Marking w.marks d.walk.marks d.row

abbrev Keeping : (Job → Decoded) → Type 0
Keeping f = (j : Job) → Kept (from j) (f j)

nothing : (w : State) (left : ℕ) → Kept w (record { row = nil; walk = record { left = left; marks = w.marks } })
nothing w left m = record { marks = m; stays = λ q l e. (e, refl) }

keeping_none : Keeping none
keeping_none (node s page holder level w) = nothing w 0
keeping_none (list s page holder level w) = nothing w 0

-- a page that is marked already is not the one that is marked now
marked_other : (m : List ℕ) (p q : ℕ) → IsMarks m → p < most_pages → q < most_pages → is_marked m p ≡ false → is_marked m q ≡ true
    → (eqb q p ≡ false) × (is_marked (marked m p) q ≡ true)
marked_other m p q k a b f e = go (eqb q p) refl (is_marked_lem m p q k a b)
  where
    go : (x : Bool) → eqb q p ≡ x → is_marked (marked m p) q ≡ cond x true (is_marked m q) → (x ≡ false) × (is_marked (marked m p) q ≡ true)
    go true d g = absurd (true≢false (sym e ∙ ap (is_marked m) (eqb-true q p d) ∙ f))
    go false d g = (refl, g ∙ e)

pub fresh_other : (m : List ℕ) (p q : ℕ) → is_marked m p ≡ false → is_marked m q ≡ true → q ≡ p → ⊥
fresh_other m p q f e d = true≢false (sym e ∙ ap (is_marked m) d ∙ f)

pub marked_stays : (m : List ℕ) (p q : ℕ) → IsMarks m → p < most_pages → q < most_pages → is_marked m p ≡ false → is_marked m q ≡ true → is_marked (marked m p) q ≡ true
marked_stays m p q k a b f e = (marked_other m p q k a b f e).1

module _ (img : List ℕ) (f : Job → Decoded) (h : Keeping f) where
  keeping_proxy : (p page level : ℕ) (w : State) → Kept w (proxy_step img f p page level w)
  unfolding proxy_step
  keeping_proxy p page level w =
      cond_case (Kept w) (enters_of img p page w)
      (λ e m.
      let g = entered img p page w e in
      let low = g.names.low in
      let k = h (node (record_of img p) p 0 level (with_mark w p)) (marks_kept w.marks p m low) in
      record {
        marks = k.marks;
        stays = λ q l t.
            let o = marked_other w.marks p q m low l g.fresh t in
            let i = k.stays q l o.1 in
            (i.0, rw o.0 (omega (arith, i.1)));
      })
      (λ _. nothing w 0)

  keeping_node : (s : List ℕ) (page holder level : ℕ) (w : State) (kind : ℕ) → Kept w (node_step img f s page holder level w kind)
  unfolding node_step
  keeping_node s page holder level w kind =
      both (Kept w) (eqb kind 0) (nothing w 0)
      (both (Kept w) (eqb kind 3) (both (Kept w) (eqb (length s) 8) (keeping_proxy (name_at s 0) page level w) (nothing w 0))
      (both (Kept w) (eqb kind 4) (h (list (drop 6 s) page 4 level w))
      (both (Kept w) (ltb most_levels level) (nothing w 0)
      (both (Kept w) (eqb kind 2) (λ m. record { marks = m; stays = λ q l e. (e, refl) })
      (λ m. let k = h (list (drop 6 s) page 1 (level + 1) w) m in
      record { marks = k.marks; stays = λ q l e. let i = k.stays q l e in (i.0, omega (arith, i.1)) })))))

  keeping_more : (s : List ℕ) (page holder level : ℕ) (w : State) (n : ℕ) → Kept w (more_step img f s page holder level w n)
  unfolding more_step
  keeping_more s page holder level w n m =
      let a = f (node (take n s) page holder level w) in
      let k = h (node (take n s) page holder level w) m in
      let d = f (list (drop n s) page holder level a.walk) in
      let i = h (list (drop n s) page holder level a.walk) k.marks in
      record {
        marks = i.marks;
        stays = λ q l e.
            let x = k.stays q l e in
            let y = i.stays q l x.0 in
            (y.0, omega (arith, x.1, y.1, count-⊹ q a.row d.row));
      }

  keeping_list : (s : List ℕ) (page holder level : ℕ) (w : State) → Kept w (list_step img f s page holder level w)
  unfolding list_step
  keeping_list s page holder level w =
      both (Kept w) (eqb (length s) 0) (nothing w w.left)
      (both (Kept w) (eqb w.left 0) (nothing w w.left)
      (both (Kept w) (eqb (whole_size s) 0) (nothing w 0) (keeping_more s page holder level w (whole_size s))))

  keeping_step : Keeping (step img f)
  keeping_step (node s page holder level w) = keeping_node s page holder level w (passing_kind s holder)
  keeping_step (list s page holder level w) = keeping_list s page holder level w

pub stays_marked : (img : List ℕ) (j : Job) → Kept (from j) (decode img j)
unfolding decode
stays_marked img = keeps measure none (step img) (λ (j : Job). Kept (from j)) keeping_none (keeping_step img)
