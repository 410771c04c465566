-- What the bytes at a node's start say of it, where the walk can pass it over or go straight into it.
use Rattle.std.specs.Prelude.{◌≡◌, List, Bool, true, false, ◌&&◌, ℕ, ◌+◌, ◌-◌, ◌*◌, ◌<◌, length, drop, leb, eqb}
use Rattle.model.specs.Limits.{most_levels, most_node, most_origin}
use Rattle.model.specs.Row.{may_stand}
use Rattle.model.specs.Reading.{kind_at, head_at, size_at}

-- The bytes start with a node of the kind, as the first two say, at a level that may be, where such a node may stand.
unfoldable pub stands_of : List ℕ → (kind : ℕ) → (may : Bool) → (level : ℕ) → Bool
stands_of s kind may level = eqb (kind_at s 0) kind && leb (head_at s 0).origin most_origin && leb level most_levels && may

-- The bytes start with an aggregate of n bytes that may stand there.
unfoldable pub aggregate_of : List ℕ → (n : ℕ) → (may : Bool) → (level : ℕ) → Bool
aggregate_of s n may level = leb 6 (length s) && eqb (size_at s 0) n && stands_of s 1 may level

-- The bytes start with a literal of this size, not too long, that may stand there.
unfoldable pub literal_of : List ℕ → (size : ℕ) → (may : Bool) → (level : ℕ) → Bool
literal_of s size may level = leb size most_node && stands_of s 2 may level

-- After i + 1 headers the rest of the bytes is one aggregate that may stand in another, the level counted from the first header's child.
abbrev pub inner_of : List ℕ → (level i : ℕ) → Bool
inner_of s level i = aggregate_of (drop (6 * i + 6) s) (length s - (6 * i + 6)) (may_stand 1 1) (level + i)

-- Below the aggregate that the bytes are, just d more are each the only node that the last holds.
pub record Only (s : List ℕ) (level d : ℕ) : Type 0 where
  pub each : (i : ℕ) → i < d → inner_of s level i ≡ true
  pub last : inner_of s level d ≡ false
