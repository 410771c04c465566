-- The lean of growth: in range, and 0 unless a record was split.
use Rattle.std.specs.Prelude.{◌≡◌, refl, Bool, ℕ, ◌+◌, ◌≤◌, pos, leb, eqb}
use Rattle.std.proofs.Common.{sym, subst, ◌∙◌, arith, leb-false}
use Rattle.std.proofs.Math.Bool.{true, false}
use Rattle.model.specs.Limits.{capacity, most_node}
use Rattle.model.specs.Row.{Head, Row, lone, record_size, Config}
use Rattle.model.specs.Tree.{New}
use Rattle.model.specs.Growth.{place, apart, Work, Out, group, separator, kept, close, counted, freed}
use Rattle.model.specs.Claims.{root_row, InLean}
use Rattle.theory_rows.specs.Fits.{Ranges, Fits}
use Rattle.theory_rows.specs.Laws.{cond_case}
use Rattle.theory_rows.specs.Cut.{split_carries, grouped_by}
use Rattle.theory_rows.specs.Bound.{depth, split_good}

-- The lean is in range, and 0 as long as nothing was split.
abbrev pub Leaned : Work → Type 0
Leaned w = InLean w.lean × (w.splits ≡ 0 → w.lean ≡ pos 0)

abbrev pub Leans : Out → Type 0
Leans o = Leaned o.1

-- ── a split ──

-- The groups of a split count for nothing by themselves.
pub split_counts : (st : Config) (near : ℕ) (r : Row) (w : Work) → let v = (separator st near r w).1 in (v.splits ≡ w.splits) × (v.lean ≡ w.lean)
unfolding separator
split_counts st near r w =
    split_carries st (group st near) (λ v. (v.splits ≡ w.splits) × (v.lean ≡ w.lean))
    (λ g v k. grouped_by _ (λ (o : Out). (o.1.splits ≡ w.splits) × (o.1.lean ≡ w.lean)) g v (λ _. k) (λ _. k)) r w (refl, refl)

lean_split : (st : Config) (near : ℕ) (r : Row) (w : Work) → Leaned w → Leans (separator st near r w)
lean_split st near r w l = let k = split_counts st near r w in (subst InLean (sym k.1) l.0, λ e. k.1 ∙ l.1 (sym k.0 ∙ e))

-- What one split suffices for, if it is too large.
pub record Splittable (st : Config) (r : Row) : Type 0 where
  pub fits : Fits r
  pub most : record_size r ≤ (capacity + most_node)
  pub deep : depth (root_row (lone r) r) ≤ 23

module _ (st : Config) (k : Ranges st) where
  -- where the groups go (`near`) does not matter to the lean
  lean_counted : (r : Row) (w : Work) → Splittable st r → leb (record_size r) capacity ≡ false → Leaned w → Leaned (counted st r w)
  lean_counted r w m t l = (
    cond_case InLean (eqb w.splits 0) (λ _. (split_good st k 0 r w m.fits (leb-false (record_size r) capacity t) m.most m.deep).leans) (λ _. l.0),
    λ e. absurd (omega arith),
  )

  pub lean_kept : (q : ℕ) (o : Out) → Splittable st o.0 → Leans o → Leans (kept st q o)
  unfolding kept
  lean_kept q o m l =
      cond_case Leans (leb (record_size o.0) capacity) (λ _. l)
      (λ t. lean_split st q o.0 (counted st o.0 o.1) (lean_counted o.0 o.1 m t l))

  pub lean_close : (q : ℕ) (s : Bool) (rest : Row) (o : Out) → Splittable st o.0 → Leans o → Leans (close st q s rest o)
  unfolding close
  lean_close q true rest o m l = lean_kept q o m l
  lean_close q false rest o m l =
      cond_case Leans (leb (record_size o.0) capacity) (λ _. l)
      (λ t. lean_split st q o.0 (freed st q (counted st o.0 o.1)) (lean_counted o.0 o.1 m t l))

  -- The new node alone splits nothing.
  pub lean_place : (x : New) (h : Head) (page : ℕ) (rest : Row) (w : Work) → Leaned w → Leans (place st x h page rest w)
  lean_place x h page rest w l = cond_case Leans (apart st h x.head) (λ _. l) (λ _. l)
