-- Pages are freed, one after another.
use Rattle.std.specs.Prelude.{◌≡◌, refl, Bool, true, false, cond, List, ℕ, ◌+◌, ◌*◌, ◌≤◌, ◌<◌, length, eqb}
use Rattle.std.proofs.Common.{ap, ◌∙◌, arith, eqb-true}
use Rattle.std.proofs.lemmas.List.{length-replicate}
use Rattle.model.specs.Limits.{page_size}
use Rattle.model.specs.Reading.{page_of}
use Rattle.theory_rows.specs.Pages.{bit}
use Rattle.theory_check.specs.Tests.{unmarked}
use Rattle.theory_check.specs.Marks.{length_unmark}
use Rattle.theory_page_memory.specs.Memory.{Mem, blank, set_mem}
use Rattle.theory_page_memory.specs.Links.{set_same, set_other}
use Rattle.grow_map.specs.Map.{used_by, used_unmarked}
use Rattle.grow_pages.specs.Write.{set_page}
use Rattle.grow_pages.specs.Paged.{length_set_page}
use Rattle.grow_pages.specs.Relinked.{mem_cleared}

-- From one map to another: `times` says how often a page came free.
pub record Unmarked (times : ℕ → ℕ) (m map : List ℕ) : Type 0 where
  pub long : length map ≡ length m
  pub gone : (q : ℕ) → 1 ≤ times q → used_by map q ≡ false
  pub other : (q : ℕ) → times q ≡ 0 → used_by map q ≡ used_by m q

-- One page more.
pub unmarked_page : {times : ℕ → ℕ} {m map : List ℕ} → Unmarked times m map → (p : ℕ) → p < 8 * length map
    → Unmarked (λ q. bit (eqb q p) + times q) m (unmarked map p)
unmarked_page {times} {m} {map} u p high = record {
  long = length_unmark map p ∙ u.long;
  gone = λ q h. used_unmarked map p high q ∙ gone q (eqb q p) h;
  other = λ q h. used_unmarked map p high q ∙ other q (eqb q p) h;
}
  where
    gone : (q : ℕ) (b : Bool) → 1 ≤ bit b + times q → cond b false (used_by map q) ≡ false
    gone q true h = refl
    gone q false h = u.gone q (omega arith)

    other : (q : ℕ) (b : Bool) → bit b + times q ≡ 0 → cond b false (used_by map q) ≡ used_by m q
    other q true h = absurd (omega arith)
    other q false h = u.other q (omega arith)

-- From the image and the map before to those after: `times` says how often a page was freed.
pub record Cleared (times : ℕ → ℕ) (img m after map : List ℕ) : Type 0 where
  pub long : length after ≡ length img
  pub gone : (q : ℕ) → 1 ≤ times q → page_of after q ≡ blank
  pub other : (q : ℕ) → times q ≡ 0 → page_of after q ≡ page_of img q
  pub marks : Unmarked times m map

pub cleared_none : (img m : List ℕ) → Cleared (λ q. 0) img m img m
cleared_none img m = record {
  long = refl;
  gone = λ q h. absurd (omega arith);
  other = λ q h. refl;
  marks = record { long = refl; gone = λ q h. absurd (omega arith); other = λ q h. refl };
}

-- The same pages, counted in another way.
pub cleared_same : {a b : ℕ → ℕ} {img m after map : List ℕ} → ((q : ℕ) → a q ≡ b q) → Cleared a img m after map → Cleared b img m after map
cleared_same e c = record {
  long = c.long;
  gone = λ q h. c.gone q (omega (arith, e q));
  other = λ q h. c.other q (omega (arith, e q));
  marks =
      record {
        long = c.marks.long;
        gone = λ q h. c.marks.gone q (omega (arith, e q));
        other = λ q h. c.marks.other q (omega (arith, e q));
      };
}

pub cleared_page : {times : ℕ → ℕ} {img m after map : List ℕ} → Cleared times img m after map → (p : ℕ) → page_size * p + page_size ≤ length after
    → p < 8 * length map → Cleared (λ q. bit (eqb q p) + times q) img m (set_page p blank after) (unmarked map p)
cleared_page {times} {img} {m} {after} {map} c p room high = record {
  long = length_set_page p blank after (length-replicate {A = ℕ} page_size 0) room ∙ c.long;
  gone = λ q h. gone q (eqb q p) refl h;
  other = λ q h. other q (eqb q p) refl h;
  marks = unmarked_page c.marks p high;
}
  where
    at : (q : ℕ) → page_of (set_page p blank after) q ≡ set_mem p blank (page_of after) q
    at q = ap (λ (m : Mem). m q) (mem_cleared p after room)

    -- Any other page is as it was.
    far : (q : ℕ) → eqb q p ≡ false → page_of (set_page p blank after) q ≡ page_of after q
    far q e = at q ∙ set_other p q blank (page_of after) (ap bit e)

    gone : (q : ℕ) (x : Bool) → eqb q p ≡ x → 1 ≤ bit x + times q → page_of (set_page p blank after) q ≡ blank
    gone q true e h = rw (eqb-true q p e) (at p ∙ set_same p blank (page_of after))
    gone q false e h = far q e ∙ c.gone q (omega arith)

    other : (q : ℕ) (x : Bool) → eqb q p ≡ x → bit x + times q ≡ 0 → page_of (set_page p blank after) q ≡ page_of img q
    other q true e h = absurd (omega arith)
    other q false e h = far q e ∙ c.other q (omega arith)
