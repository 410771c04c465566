-- A row of one node or more that stands in bytes from one offset to another.
use Rattle.std.specs.Prelude.{◌≡◌, List, ℕ, ◌+◌, ◌<◌, ◌≤◌, length}
use Rattle.std.proofs.Common.{◌∙◌, arith}
use Rattle.model.specs.Row.{Row, nil, agg, lit, rec, size}
use Rattle.model.specs.Reading.{kind_at, size_at}
use Rattle.theory_row_bytes.specs.RowAt.{RowAt, agg_first}
pub use Rattle.theory_row_bytes.specs.RowAt.{FirstNode as Node, first_node as node, kind_of, head_of, size_of, kids_of, rest_of}

pub record Kids (l : List ℕ) (pos end : ℕ) : Type 0 where
  pub row : Row
  pub stands : RowAt l pos row
  pub some : 0 < size row
  pub ends : end ≡ pos + size row
  pub small : end < 65536

kind_low : (r : Row) → kind_of r < 5
kind_low nil = omega arith
kind_low (agg h cs rest) = omega arith
kind_low (lit h c rest) = omega arith
kind_low (rec p s r rest) = omega arith

module _ {l : List ℕ} {pos end : ℕ} (w : Kids l pos end) where
  pub first : Node l pos w.row
  first = node l pos w.row w.some (omega (arith, w.ends, w.small)) w.stands

  -- Its kind has an entry in the table.
  pub first_low : kind_at l pos < 5
  first_low = rw first.kind_is (kind_low w.row)

  module _ {n : ℕ} (is : n ≡ size_at l pos) where
    pub n_is : n ≡ size_of w.row
    n_is = is ∙ first.size_is

    pub first_fits : (pos + 6 ≤ length l) × ((6 ≤ n) × ((pos + n ≤ end) × (end ≤ length l)))
    first_fits = omega (arith, n_is, first.more, first.total, first.within, w.ends)

    -- The nodes behind it, and its children.
    abbrev pub behind : pos + n < end → Kids l (pos + n) end
    behind h = record {
      row = rest_of w.row;
      stands = rw n_is first.rest;
      some = omega (arith, n_is, first.total, w.ends);
      ends = omega (arith, n_is, first.total, w.ends);
      small = w.small;
    }

    abbrev pub within : kind_of w.row ≡ 1 → 6 < n → Kids l (pos + 6) (pos + n)
    within k h = record {
      row = kids_of w.row;
      stands = first.kids;
      some = omega (arith, n_is, (agg_first w.row k).1);
      ends = omega (arith, n_is, (agg_first w.row k).1);
      small = omega (arith, first_fits, w.small);
    }
