-- The record pages ascending are an order of the record pages: each one time, and nothing else.
use Rattle.std.specs.Prelude.{◌≡◌, Bool, List, ◌∷◌, length, leb, ltb, eqb}
use Rattle.std.proofs.Math.Path.{refl}
use Rattle.std.proofs.Common.{sym, ap, ◌∙◌, arith, leb-true, leb-false, ltb-true, ltb-false, eq-eqb, ne_eqb}
use Rattle.std.proofs.Math.Bool.{true, false, cond}
use Prim.Native.Nat.{ℕ, zero, suc, ◌+◌, ◌-◌, ◌/◌, ◌≤◌, ◌<◌}
use Rattle.model.specs.Limits.{page_size}
use Rattle.model.specs.Row.{Row, Config}
use Rattle.model.specs.Reading.{Reads}
use Rattle.model.specs.Common.{record_pages}
use Rattle.model.specs.Calls.Records.{times, IsOrder}
use Rattle.theory_rows.specs.Fits.{Valid}
use Rattle.theory_decoding.specs.Steps.{named_inside}
use Rattle.theory_decoding.specs.Reading.{reads_valid, reads_length}
use Rattle.theory_places.specs.Pages.{pages_count, pages_once}
use Rattle.theory_places.specs.Marks.{mark, mark_times}
use Rattle.read_records.specs.Up.{up_from, up_pages}

-- ── how often a page is listed ──

module _ (img : List ℕ) where
  -- Another page than the first.
  other : (k p q : ℕ) → (q ≡ p → ⊥) → times q (up_from img (suc k) p) ≡ times q (up_from img k (suc p))
  unfolding up_from
  other k p q n = go (eqb (mark img p) 1)
    where
      go : (b : Bool) → times q (cond b (p ∷ up_from img k (suc p)) (up_from img k (suc p))) ≡ times q (up_from img k (suc p))
      go true = rw (ne_eqb q p n) (omega arith)
      go false = refl

  before : (k p q : ℕ) → q < p → times q (up_from img k p) ≡ 0
  unfolding up_from
  before zero p q h = refl
  before (suc k) p q h = other k p q (λ e. omega arith) ∙ before k (suc p) q (omega arith)

  past : (k p q : ℕ) → p + k ≤ q → times q (up_from img k p) ≡ 0
  unfolding up_from
  past zero p q h = refl
  past (suc k) p q h = other k p q (λ e. omega arith) ∙ past k (suc p) q (omega arith)

  first : (k q : ℕ) → times q (up_from img (suc k) q) ≡ cond (eqb (mark img q) 1) 1 0
  unfolding up_from
  first k q = go (eqb (mark img q) 1) (before k (suc q) q (omega arith))
    where
      go : (b : Bool) → times q (up_from img k (suc q)) ≡ 0 → times q (cond b (q ∷ up_from img k (suc q)) (up_from img k (suc q))) ≡ cond b 1 0
      go true e = rw (eq-eqb q q refl) (omega arith)
      go false e = e

  among : (k p q : ℕ) → p ≤ q → q < p + k → times q (up_from img k p) ≡ cond (eqb (mark img q) 1) 1 0
  among zero p q low high = absurd (omega arith)
  among (suc k) p q low high = go (ltb p q) refl (λ h. among k (suc p) q h (omega arith))
    where
      go : (t : Bool) → ltb p q ≡ t → (p < q → times q (up_from img k (suc p)) ≡ cond (eqb (mark img q) 1) 1 0)
          → times q (up_from img (suc k) p) ≡ cond (eqb (mark img q) 1) 1 0
      go true e ih = let h = ltb-true p q e in other k p q (λ d. omega arith) ∙ ih h
      go false e ih =
          let same : p ≡ q = omega (arith, ltb-false p q e) in
          ap (λ (z : ℕ). times q (up_from img (suc k) z)) same ∙ first k q

-- ── the order ──

nothing : (n : ℕ) → (1 ≤ n → ⊥) → n ≡ 0
nothing zero h = refl
nothing (suc n) h = absurd (h (omega arith))

bit_of : (n : ℕ) → n ≤ 1 → cond (eqb n 1) 1 0 ≡ n
bit_of zero h = refl
bit_of (suc zero) h = refl
bit_of (suc (suc n)) h = absurd (omega arith)

module _ (img : List ℕ) (st : Config) (root : Row) (r : Reads img st root) where
  v : Valid st root
  v = reads_valid img st root r

  outside : (q : ℕ) → ((1 ≤ q) × (q < st.pages) → ⊥) → times q (record_pages root) ≡ 0
  outside q h = nothing (times q (record_pages root)) (λ k. h (named_inside st root v q (rw (pages_count root q) at k)))

  inside : (q : ℕ) → 1 ≤ q → q < st.pages → cond (eqb (mark img q) 1) 1 0 ≡ times q (record_pages root)
  inside q low high = ap (λ (n : ℕ). cond (eqb n 1) 1 0) (mark_times img st root r q low high) ∙ bit_of (times q (record_pages root)) (pages_once st root v q)

-- On an image that passes the check, Records in this order is document 01's.
pub up_order : (img : List ℕ) (st : Config) (root : Row) → Reads img st root → IsOrder root (up_pages img)
unfolding up_pages
up_order img st root r q = go (leb 1 q) (ltb q st.pages) refl refl
  where
    n : length img / page_size - 1 ≡ st.pages - 1
    n = omega (arith, reads_length img st root r)

    go : (a b : Bool) → leb 1 q ≡ a → ltb q st.pages ≡ b → times q (up_from img (length img / page_size - 1) 1) ≡ times q (record_pages root)
    go true true e f =
        among img (length img / page_size - 1) 1 q (leb-true 1 q e) (omega (arith, n, ltb-true q st.pages f))
        ∙ inside img st root r q (leb-true 1 q e) (ltb-true q st.pages f)
    go true false e f =
        past img (length img / page_size - 1) 1 q (omega (arith, n, leb-true 1 q e, ltb-false q st.pages f))
        ∙ sym (outside img st root r q (λ h. omega (arith, ltb-false q st.pages f)))
    go false b e f =
        before img (length img / page_size - 1) 1 q (leb-false 1 q e)
        ∙ sym (outside img st root r q (λ h. omega (arith, leb-false 1 q e)))
