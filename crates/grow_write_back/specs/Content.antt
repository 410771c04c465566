-- The content of a record: what the code that writes it to its page needs.
use Rattle.std.specs.Prelude.{◌≡◌, Bool, false, cond, List, ℕ, ◌-◌, ◌≤◌, length, take, drop}
use Rattle.std.proofs.Common.{ap, ◌∙◌, arith}
use Rattle.theory_row_bytes.specs.RowAt.{RecordIs, record_long, row_starts, row_part}
use Rattle.model.specs.Limits.{capacity}
use Rattle.model.specs.Row.{Row, is_nil, base, record_size, bytes}
use Rattle.theory_rows.specs.Laws.{size_some}
use Rattle.grow_pages.specs.Write.{set_page, page_bytes_of}
use Rattle.grow_pages.specs.Links.{Below, Linked, links}
use Rattle.grow_pages.specs.Relinked.{written}

-- The bytes l are a record that fits its page; its proxies name pages below n.
pub record Content (l : List ℕ) (n : ℕ) : Type 0 where
  pub row : Row
  pub is : RecordIs l row
  pub below : Below n row
  pub small : record_size row ≤ capacity
  pub some : is_nil row ≡ false

module _ {l : List ℕ} {n : ℕ} (w : Content l n) where
  pub content_fits : (1 ≤ length l) × (length l ≤ capacity)
  content_fits = omega (arith, record_long w.row w.is, w.small, size_some w.row w.some)

  pub start_inside : {from : ℕ} → from ≡ base w.row → from ≤ length l
  start_inside e = omega (arith, record_long w.row w.is)

  pub content_row : {from : ℕ} → from ≡ base w.row → take (length l - from) (drop from l) ≡ bytes w.row
  content_row e = rw e (row_part {a = w.row} (row_starts w.is) (record_long w.row w.is))

  -- Its row, without a helper's header.
  abbrev pub content_linked : {from : ℕ} → from ≡ base w.row → Linked (take (length l - from) (drop from l)) n
  content_linked e = record { row = w.row; is = content_row e; below = w.below; small = omega (arith, w.small) }

  -- The record's page, then the links.
  pub kept_is : (q holder : ℕ) (img : List ℕ) {settled : ℕ} {a b : List ℕ} (s : Bool) → settled ≡ cond s 1 0
      → a ≡ set_page q (page_bytes_of l settled holder) img → b ≡ links q w.row a
      → b ≡ written q s holder w.row img
  kept_is q holder img s e pa pb =
      pb ∙ ap (links q w.row) (pa ∙ (λ i. set_page q (page_bytes_of (w.is i) (e i) holder) img))
