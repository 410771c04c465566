-- The single tests of the check's walk, on the bytes.
use Rattle.std.specs.Prelude.{Bool, true, cond, not, ◌&&◌, List, ℕ, ◌+◌, ◌-◌, ◌*◌, length, take, drop, ltb, leb, eqb}
use Rattle.model.specs.Limits.{most_pages, page_size, capacity, most_node, most_origin}
use Rattle.model.specs.Row.{may_stand}
use Rattle.model.specs.Reading.{kind_at, head_at, size_at, state_at, settled_at, used_at, back_at}
use Rattle.model.specs.BeforeWalk.{all_zero}

-- ── nodes ──

-- The size of the node that some bytes start with, 0 where no whole node stands there.
unfoldable pub whole_size : List ℕ → ℕ
whole_size s = cond (leb 6 (length s) && leb 6 (size_at s 0) && leb (size_at s 0) (length s)) (size_at s 0) 0

-- A list of nodes starts with a whole node and goes on after it.
unfoldable pub two_children : List ℕ → Bool
two_children s = not (eqb (whole_size s) 0) && ltb (whole_size s) (length s)

-- The header of a proxy or a helper: a zero byte where the other kinds have their origin, and label 0.
unfoldable pub bare_head : List ℕ → Bool
bare_head s = eqb (head_at s 0).origin 0 && eqb (head_at s 0).label 0

-- What a kind asks of its node.
unfoldable pub shape_of : List ℕ → (kind : ℕ) → Bool
shape_of s kind =
    cond (eqb kind 3) (bare_head s)
    (cond (eqb kind 4) (bare_head s && two_children (drop 6 s))
    (cond (eqb kind 2) (leb (length s) most_node) true))

-- The kind of the node that some bytes are, 0 where it is not well formed by itself or may not stand in the holder.
unfoldable pub passing_kind : List ℕ → (holder : ℕ) → ℕ
passing_kind s holder =
    let kind = kind_at s 0 in
    let placed = leb 6 (length s) && leb kind 4 && may_stand holder kind in
    cond (placed && leb (head_at s 0).origin most_origin && eqb (size_at s 0) (length s) && shape_of s kind) kind 0

-- ── pages ──

-- By its trailer page p holds a record whose proxy stands in the record of a page. That its length fits is known before the walk, and said here so that
-- the walk ends for any bytes.
unfoldable pub names_of : List ℕ → (p page : ℕ) → Bool
names_of img p page =
    let at = page_size * p in
    let inside = leb 2 p && ltb p most_pages && leb (at + page_size) (length img) in
    inside && eqb (state_at img at) 1 && leb (used_at img at) capacity && eqb (back_at img at) page

-- A settled record's root is no helper.
unfoldable pub root_fits : List ℕ → (p : ℕ) → Bool
root_fits img p = cond (eqb (settled_at img (page_size * p)) 1) (not (eqb (kind_at img (page_size * p)) 4)) true

-- The bytes past the length used, up to the trailer, are zero.
unfoldable pub tail_zero : List ℕ → (p : ℕ) → Bool
tail_zero img p =
    let used = used_at img (page_size * p) in
    all_zero (take (capacity - used) (drop (page_size * p + used) img))

-- The bytes of the record on page p.
abbrev pub record_of : List ℕ → (p : ℕ) → List ℕ
record_of img p = take (used_at img (page_size * p)) (drop (page_size * p) img)
