-- What the walk over a row leaves in a table of widths: on each record's page, how many nodes the record shows.
use Rattle.std.specs.Prelude.{◌≡◌, refl, true, cond, List, ℕ, ◌+◌, ◌≤◌, ◌<◌, length, get_or, set, eqb}
use Rattle.std.proofs.Common.{sym, ap, ◌∙◌, arith, length-set, get_or-set_same, get_or-set_other, eq-eqb}
use Rattle.model.specs.Row.{Row, nil, agg, lit, rec, ◌⊹◌, count}
use Rattle.model.specs.Tree.{width}
use Rattle.theory_decoding.specs.Valid.{names_own}
use Rattle.theory_places.specs.Widths.{Told, told_same}

unfoldable pub widths_after : Row → List ℕ → List ℕ
widths_after nil c = c
widths_after (agg h cs rest) c = widths_after rest (widths_after cs c)
widths_after (lit h b rest) c = widths_after rest c
widths_after (rec p s r rest) c = widths_after rest (set (widths_after r c) p (width r))

pub widths_length : (row : Row) (c : List ℕ) → length (widths_after row c) ≡ length c
unfolding widths_after
widths_length nil c = refl
widths_length (agg h cs rest) c = widths_length rest (widths_after cs c) ∙ widths_length cs c
widths_length (lit h b rest) c = widths_length rest c
widths_length (rec p s r rest) c =
    widths_length rest (set (widths_after r c) p (width r)) ∙ length-set (widths_after r c) p (width r) ∙ widths_length r c

pub widths-⊹ : (a b : Row) (c : List ℕ) → widths_after (a ⊹ b) c ≡ widths_after b (widths_after a c)
unfolding widths_after
widths-⊹ nil b c = refl
widths-⊹ (agg h cs rest) b c = widths-⊹ rest b (widths_after cs c)
widths-⊹ (lit h x rest) b c = widths-⊹ rest b c
widths-⊹ (rec p s r rest) b c = widths-⊹ rest b (set (widths_after r c) p (width r))

-- ── the table is right ──

-- a page that the row does not name keeps its entry
pub kept : (row : Row) (c : List ℕ) (q : ℕ) → count q row ≡ 0 → get_or (widths_after row c) q 0 ≡ get_or c q 0
unfolding widths_after
kept nil c q z = refl
kept (agg h cs rest) c q z = kept rest (widths_after cs c) q (omega arith) ∙ kept cs c q (omega arith)
kept (lit h b rest) c q z = kept rest c q z
kept (rec p s r rest) c q z =
    let other : q ≡ p → ⊥ = λ e. omega (arith, names_own p s r rest, ap (λ n. count n (rec p s r rest)) (sym e) ∙ z) in
    kept rest (set (widths_after r c) p (width r)) q (omega arith) ∙ get_or-set_other (widths_after r c) p q (width r) 0 other ∙ kept r c q (omega arith)

-- The table is right for a row that names no page twice.
pub widths_told : (row : Row) (c : List ℕ) (n : ℕ) → n ≤ length c → ((q : ℕ) → count q row ≤ 1) → ((q : ℕ) → 1 ≤ count q row → q < n)
    → Told (widths_after row c) row
unfolding widths_after
widths_told nil c n l once low = tt
widths_told (agg h cs rest) c n l once low =
    let a = widths_after cs c in (
      told_same a (widths_after rest a) cs (λ q g. kept rest a q (omega (arith, once q)))
          (widths_told cs c n l (λ q. omega (arith, once q)) (λ q g. low q (omega arith))),
      widths_told rest a n (omega (arith, widths_length cs c)) (λ q. omega (arith, once q)) (λ q g. low q (omega arith)),
    )
widths_told (lit h b rest) c n l once low = widths_told rest c n l once low
widths_told (rec p s r rest) c n l once low =
    let a = widths_after r c in
    let b = set a p (width r) in
    let own : eqb p p ≡ true = eq-eqb p p refl in
    let alone : cond true 1 0 + count p r + count p rest ≤ 1 = rw own at (once p) in
    let other : (q : ℕ) → 1 ≤ count q r → q ≡ p → ⊥ = λ q g e. omega (arith, alone, ap (λ n. count n r) e) in (
      kept rest b p (omega (arith, alone)) ∙ get_or-set_same a p (width r) 0 (omega (arith, widths_length r c, low p (names_own p s r rest))),
      told_same a (widths_after rest b) r
          (λ q g. kept rest b q (omega (arith, once q)) ∙ get_or-set_other a p q (width r) 0 (other q g))
          (widths_told r c n l (λ q. omega (arith, once q)) (λ q g. low q (omega arith))),
      widths_told rest b n (omega (arith, length-set a p (width r), widths_length r c)) (λ q. omega (arith, once q)) (λ q g. low q (omega arith)),
    )
