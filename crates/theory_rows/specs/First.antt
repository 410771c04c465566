-- The first node of a row, what stands in it and what behind it: the three kinds of nodes in one case.
use Rattle.std.specs.Prelude.{◌≡◌, refl, ℕ, ◌+◌, ◌<◌, false, length}
use Rattle.std.proofs.Common.{arith}
use Rattle.model.specs.Row.{Head, Row, nil, agg, lit, rec, ◌⊹◌, size, is_nil, no_head}

-- Its kind, what its header says besides, its size.
abbrev pub kind_of : Row → ℕ
kind_of nil = 0
kind_of (agg h cs rest) = 1
kind_of (lit h c rest) = 2
kind_of (rec p s r rest) = 3

abbrev pub head_of : Row → Head
head_of nil = no_head
head_of (agg h cs rest) = h
head_of (lit h c rest) = h
head_of (rec p s r rest) = no_head

abbrev pub size_of : Row → ℕ
size_of nil = 0
size_of (agg h cs rest) = 6 + size cs
size_of (lit h c rest) = 6 + length c
size_of (rec p s r rest) = 8

-- Its children, the nodes behind it, and it alone.
abbrev pub kids_of : Row → Row
kids_of nil = nil
kids_of (agg h cs rest) = cs
kids_of (lit h c rest) = nil
kids_of (rec p s r rest) = nil

abbrev pub rest_of : Row → Row
rest_of nil = nil
rest_of (agg h cs rest) = rest
rest_of (lit h c rest) = rest
rest_of (rec p s r rest) = rest

abbrev pub one_of : Row → Row
one_of nil = nil
one_of (agg h cs rest) = agg h cs nil
one_of (lit h c rest) = lit h c nil
one_of (rec p s r rest) = rec p s r nil

pub size_first : (r : Row) → size r ≡ size_of r + size (rest_of r)
size_first nil = refl
size_first (agg h cs rest) = refl
size_first (lit h c rest) = refl
size_first (rec p s r rest) = refl

pub size_one : (r : Row) → size (one_of r) ≡ size_of r
size_one nil = refl
size_one (agg h cs rest) = omega arith
size_one (lit h c rest) = omega arith
size_one (rec p s r rest) = refl

pub row_first : (r : Row) → r ≡ one_of r ⊹ rest_of r
row_first nil = refl
row_first (agg h cs rest) = refl
row_first (lit h c rest) = refl
row_first (rec p s r rest) = refl

-- An aggregate is its header and its children.
pub agg_first : (r : Row) → kind_of r ≡ 1 → (0 < size r) × (size_of r ≡ 6 + size (kids_of r))
agg_first nil e = absurd (omega arith)
agg_first (agg h cs rest) e = (omega arith, refl)
agg_first (lit h c rest) e = absurd (omega arith)
agg_first (rec p s r rest) e = absurd (omega arith)

-- What holds of no node, and of a row if it holds of its first node's children and of what is behind it, holds of every row.
pub by_first : (P : Row → Type 0) → P nil → ((r : Row) → is_nil r ≡ false → P (kids_of r) → P (rest_of r) → P r) → (r : Row) → P r
by_first P n f nil = n
by_first P n f (agg h cs rest) = f (agg h cs rest) refl (by_first P n f cs) (by_first P n f rest)
by_first P n f (lit h c rest) = f (lit h c rest) refl n (by_first P n f rest)
by_first P n f (rec p s r rest) = f (rec p s r rest) refl n (by_first P n f rest)
