-- A level of a split as it stands in the bytes: its parts, and the level inside the chosen child.
use Rattle.std.specs.Prelude.{◌≡◌, refl, true, List, ℕ, ◌+◌, ◌-◌, ◌<◌, ◌≤◌, length, take, drop}
use Rattle.std.proofs.Common.{ap, subst, ◌∙◌, arith}
use Rattle.model.specs.Row.{Row, size, header, bytes, Config}
use Rattle.model.specs.Reading.{size_at}
use Rattle.theory_rows.specs.Laws.{size-⊹, size_some}
use Rattle.theory_rows.specs.Cut.{goes_into, into_agg, into_some}
use Rattle.theory_row_bytes.specs.RowAt.{RowAt, row_part, row_split}
use Rattle.grow_split_point.specs.Kids.{Kids, first, first_fits, n_is, within, kind_of, size_of, head_of, kids_of, rest_of}
use Rattle.grow_split_point.specs.Chosen.{Chosen}

pub kids_bytes : {l : List ℕ} {pos end : ℕ} (w : Kids l pos end) → take (end - pos) (drop pos l) ≡ bytes w.row
kids_bytes w = row_part w.stands w.ends

-- ── the parts of a level ──

module _ {l : List ℕ} {pos end : ℕ} (w : Kids l pos end) {st : Config} {p x : ℕ} (c : Chosen st p pos w.row x) where
  pub level_parts : RowAt l pos c.left × RowAt l (pos + size c.left) c.from
  level_parts = row_split l pos c.left c.from (subst (RowAt l pos) c.way.parts w.stands)

  -- The chosen child and those after it.
  abbrev pub chosen : Kids l x end
  chosen = record {
    row = c.from;
    stands = rw c.way.here level_parts.1;
    some = size_some c.from c.way.some;
    ends = omega (arith, w.ends, ap size c.way.parts, size-⊹ c.left c.from, c.way.here);
    small = w.small;
  }

  -- The group before it.
  pub left_bytes : take (x - pos) (drop pos l) ≡ bytes c.left
  left_bytes = row_part level_parts.0 c.way.here

  pub chosen_fits : (pos ≤ x) × ((x + 6 ≤ end) × (end ≤ length l))
  chosen_fits = omega (arith, c.way.here, first_fits chosen refl)

-- ── inside the chosen child ──

module _ {l : List ℕ} {x end : ℕ} (w : Kids l x end) (st : Config) (into : goes_into st w.row ≡ true) (n : ℕ) (is : n ≡ size_at l x) where
  pub inner_size : n ≡ 6 + size (kids_of w.row)
  inner_size = n_is w is ∙ ap size_of (into_agg st w.row into)

  pub inner_fits : (x + 6 < x + n) × ((x + n ≤ end) × (end ≤ length l))
  inner_fits = omega (arith, inner_size, size_some (kids_of w.row) (into_some st w.row into), first_fits w is)

  -- Its children.
  abbrev pub inner : Kids l (x + 6) (x + n)
  inner = within w is (ap kind_of (into_agg st w.row into)) (omega (arith, inner_fits))

  -- Its header.
  pub head_bytes : take (x + 6 - x) (drop x l) ≡ header 1 (head_of w.row) n
  head_bytes =
      let z : x + 6 - x ≡ 6 = omega arith in
      rw (z, n_is w is) ((first w).header_is ∙ ap (λ (r : Row). header (kind_of r) (head_of w.row) (size_of w.row)) (into_agg st w.row into))

  -- The group after it.
  pub after_bytes : take (end - (x + n)) (drop (x + n) l) ≡ bytes (rest_of w.row)
  after_bytes = rw (n_is w is) (row_part (first w).rest (omega (arith, (first w).total, w.ends)))
