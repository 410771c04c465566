-- How many nodes the one at a byte shows.
use Rattle.std.specs.Prelude.{◌≡◌, List, ℕ, ◌+◌, ◌≤◌, ◌<◌, cond, length, get_or, eqb}
use Rattle.std.proofs.Common.{eq-eqb, ne_eqb}
use Rattle.model.specs.Reading.{name_at, kind_at}

-- A proxy as many as the table has for the page that it names, another node one.
abbrev pub shown_at : (img table : List ℕ) → (i : ℕ) → ℕ
shown_at img c i = cond (eqb (kind_at img i) 3) (get_or c (name_at img i) 0) 1

-- A node stands at byte i, and if it is a proxy, the table has an entry for the page that it names.
pub record Counts (img table : List ℕ) (i : ℕ) : Type 0 where
  pub inside : i < length img
  pub named : kind_at img i ≡ 3 → (i + 8 ≤ length img) × (name_at img i < length table)

pub shown_proxy : (img table : List ℕ) (i p : ℕ) → kind_at img i ≡ 3 → p ≡ name_at img i → shown_at img table i ≡ get_or table p 0
shown_proxy img c i p k e = rw (eq-eqb (kind_at img i) 3 k, e)

pub shown_plain : (img table : List ℕ) (i : ℕ) → (kind_at img i ≡ 3 → ⊥) → shown_at img table i ≡ 1
shown_plain img c i k = rw (ne_eqb (kind_at img i) 3 k)
