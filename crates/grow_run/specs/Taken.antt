-- The new node goes into the bytes of the record that takes it.
use Rattle.std.specs.Prelude.{◌≡◌, Bool, List, ℕ, ◌+◌, ◌*◌, ◌-◌, ◌<◌, ◌≤◌, length, take, drop}
use Rattle.std.proofs.Common.{ap, ◌∙◌, true≢false, arith}
use Rattle.theory_row_bytes.specs.RowAt.{RowIs}
use Rattle.model.specs.Limits.{page_size, capacity, most_node}
use Rattle.model.specs.Row.{Row, ◌⊹◌, node_count, size, base, record_size, record_bytes, Held, record_page, record_on}
use Rattle.model.specs.Reading.{page_of, used_at}
use Rattle.base_layout.specs.Growing.{buffer_size}
use Rattle.theory_rows.specs.Laws.{length_bytes}
use Rattle.theory_rows.specs.Image.{length_record}
use Rattle.theory_layout.specs.Here.{PageIn}
use Rattle.model.specs.Spot.{Position, here, inside, fill}
use Rattle.theory_growth.specs.Gap.{Steady, steady_lone}
use Rattle.grow_splice.specs.Position.{at, parent}
use Rattle.grow_splice.specs.Splice.{KeepsRoot, Splicing, put_in}
use Rattle.grow_replace_proxy.specs.Lift.{page_used, page_part}

-- More nodes leave the record its kind of root: at the top of a record's row a spot is in a helper, since beside a record's only node its proxy is passed.
pub steady_keeps : (s : Position) (x y : Row) → node_count x < node_count y → Steady s x → KeepsRoot s x y
steady_keeps (here left) x y n o e = (o.1, steady_lone (here left) x y n o ∙ o.1)
steady_keeps (inside left h rest s) x y n o e = absurd (true≢false e)

-- A record stands on `page`; the bytes `new` of the row `put` go into it at `pos`, in the node at par, in front of `tail`.
pub record Taken (img : List ℕ) (page pos par : ℕ) (new : List ℕ) : Type 0 where
  pub position : Position
  pub tail : Row
  pub put : Row
  pub settled : Bool
  pub up : ℕ
  pub on : PageIn img page
  pub is : page_of img page ≡ record_page (record_on page settled up (fill position tail))
  pub small : record_size (fill position tail) ≤ capacity
  pub comes : RowIs new put
  pub most : size put ≤ most_node
  pub offset : pos ≡ at (base (fill position tail)) position
  pub holder : par ≡ parent 0 (base (fill position tail)) position
  pub root : KeepsRoot position tail (put ⊹ tail)

-- The record's row with the new node.
abbrev pub taken : {img : List ℕ} {page pos par : ℕ} {new : List ℕ} → Taken img page pos par new → Row
taken w = fill w.position (w.put ⊹ w.tail)

module _ {img : List ℕ} {page pos par : ℕ} {new : List ℕ} (w : Taken img page pos par new) where
  abbrev held : Held
  held = (record_on page w.settled w.up (fill w.position w.tail))

  pub taken_used : used_at img (page_size * page) ≡ record_size (fill w.position w.tail)
  taken_used = page_used img held w.is w.small

  pub taken_part : (n : ℕ) → n ≡ used_at img (page_size * page)
      → take (page_size * page + n - page_size * page) (drop (page_size * page) img) ≡ record_bytes (fill w.position w.tail)
  taken_part n e = page_part img held w.is w.small n e

  -- Where `splice` puts it.
  abbrev pub taken_place : (l : List ℕ) → l ≡ record_bytes (fill w.position w.tail) → Splicing l pos par 0 new
  taken_place l e = put_in w.position w.put w.tail l pos par new e w.offset w.holder w.comes w.root

  pub taken_fits : (l : List ℕ) → l ≡ record_bytes (fill w.position w.tail) → length l + length new ≤ buffer_size
  taken_fits l e = omega (arith, ap length e, length_record (fill w.position w.tail), w.small, ap length w.comes, length_bytes w.put, w.most)
