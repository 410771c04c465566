-- Tables that are right for a row, and later ones for what comes of the row: each new record's entry is how many nodes it shows, and the pages in use before
-- keep theirs and stay in use.
use Rattle.std.specs.Prelude.{◌≡◌, refl, Bool, true, false, ℕ, ◌*◌, ◌+◌, ◌<◌, ◌≤◌, eqb, length, get_or, set}
use Rattle.std.proofs.Common.{sym, ap, ◌∙◌, true≢false, arith, get_or-set_same, get_or-set_other}
use Rattle.model.specs.Row.{Row, nil, rec, ◌⊹◌, count}
use Rattle.theory_rows.specs.Laws.{cond_case}
use Rattle.theory_rows.specs.Pages.{count-⊹}
use Rattle.theory_rows.specs.Population.{population, population-⊹, width_population}
use Rattle.theory_places.specs.Widths.{Told, told_same, told-⊹, told_parts, either}
use Rattle.theory_check.specs.Tests.{marked}
use Rattle.grow_map.specs.Map.{used_marked, marked_on}
use Rattle.grow_widths.specs.Tally.{most_entry, number_of, entry_is, tallied_told}
use Rattle.grow_groups.specs.Used.{Tables, tables, used_by}

-- The table is right for a row, the map marks the pages that the row names, and an entry takes the number of its nodes.
pub record Tabled (u : Tables) (r : Row) : Type 0 where
  pub told : Told u.widths r
  pub named : (q : ℕ) → 1 ≤ count q r → used_by u q ≡ true
  pub few : population r ≤ most_entry

-- What a page in use keeps: its entry and its mark.
abbrev pub Kept : (u later : Tables) → Type 0
Kept u later = (q : ℕ) → used_by u q ≡ true → (get_or later.widths q 0 ≡ get_or u.widths q 0) × (used_by later q ≡ true)

-- Later tables are right for a row and mark the pages that it names; the pages in use before are kept.
pub record Keeps (u later : Tables) (row : Row) : Type 0 where
  pub told : Told later.widths row
  pub named : (q : ℕ) → 1 ≤ count q row → used_by later q ≡ true
  pub frame : Kept u later

-- ── tables and rows ──

pub tabled_parts : (u : Tables) (a b : Row) → Tabled u (a ⊹ b) → Tabled u a × Tabled u b
tabled_parts u a b t =
    let k = told_parts u.widths a b t.told in
    let n = population-⊹ a b in (
      record { told = k.0; named = λ q h. t.named q (omega (arith, count-⊹ q a b)); few = omega (arith, t.few) },
      record { told = k.1; named = λ q h. t.named q (omega (arith, count-⊹ q a b)); few = omega (arith, t.few) },
    )

-- With the pages that the row names kept.
pub tabled_same : {u later : Tables} (r : Row) → Kept u later → Tabled u r → Tabled later r
tabled_same {u} {later} r f t = record {
  told = told_same u.widths later.widths r (λ q h. (f q (t.named q h)).0) t.told;
  named = λ q h. (f q (t.named q h)).1;
  few = t.few;
}

-- The same for later tables.
pub keeps_row : {u later : Tables} → Kept u later → (r : Row) → Tabled u r → Keeps u later r
keeps_row f r t =
    let m = tabled_same r f t in
    record { told = m.told; named = m.named; frame = f }

-- Two rows in one, the second kept by later tables than the first.
pub keeps_both : {u v w : Tables} (x y : Row) → Keeps u v x → Keeps v w y → Keeps u w (x ⊹ y)
keeps_both {u} {v} {w} x y a b = record {
  told = told-⊹ w.widths x y (told_same v.widths w.widths x (λ q h. (b.frame q (a.named q h)).0) a.told) b.told;
  named = λ q h. either (count q x) (count q y) (omega (arith, count-⊹ q x y)) (λ k. (b.frame q (a.named q k)).1) (b.named q);
  frame = λ q h. let k = a.frame q h in let l = b.frame q k.1 in (l.0 ∙ k.0, l.1);
}

-- ── a new record ──

-- A free page gets the number of the row that becomes its record.
pub own_keeps : (s : Bool) (u : Tables) (q : ℕ) (r : Row) → q < length u.widths → q < 8 * length u.map → used_by u q ≡ false → Tabled u r
    → Keeps u (tables (set u.widths q (number_of u.widths r)) (marked u.map q)) (rec q s r nil)
own_keeps s u q r h low free t =
    let n = number_of u.widths r in
    let tally = tallied_told u.widths r t.told in
    let z : number_of u.widths r ≡ _ = entry_is _ (omega (arith, tally, width_population r, t.few)) ∙ tally in
    let other : (x : ℕ) → used_by u x ≡ true → x ≡ q → ⊥ = λ x k i. true≢false (sym k ∙ ap (used_by u) i ∙ free) in
    let frame : Kept u (tables (set u.widths q n) (marked u.map q)) =
    λ x k. (get_or-set_other u.widths q x n 0 (other x k), marked_on u.map q low x (λ _. k)) in
    let m = keeps_row frame r t in
    record {
      told = (get_or-set_same u.widths q n 0 h ∙ z, m.told, tt);
      named = λ x k. used_marked u.map q low x ∙ cond_case (λ (b : Bool). b ≡ true) (eqb x q) (λ _. refl)
          (λ i. t.named x (let k' : 1 ≤ 0 + count x r + 0 = rw i at k in omega arith));
      frame = frame;
    }
