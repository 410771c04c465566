-- Removal (E3): what taking a node out makes of a store.
use Rattle.std.specs.Prelude.{Bool, cond, List, ℕ}
use Rattle.std.proofs.Math.Option.{Option, none, some}
use Rattle.model.specs.Row.{Row, rec, ◌⊹◌, lone_rec}
use Rattle.model.specs.Spot.{fill, Chain, top, below, whole, Stand, stand_of}

-- ── what is left ──

-- What stands where the proxy of a record stood, now that the record has lost a node or a proxy and holds r; `rest` follows the proxy. A helper left with one
-- child is replaced: a proxy child is put where the helper's proxy was, and the helper's page is free; any other child is the root of the same record,
-- unsettled, since a helper's record is.
unfoldable pub replaced : (page : ℕ) → (settled : Bool) → (r rest : Row) → Row
replaced q b r rest = cond (lone_rec r) (r ⊹ rest) (rec q b r rest)

-- The root record, once the last record of a chain has lost a node or a proxy and holds `row`.
abbrev pub lost : Chain → (row : Row) → Row
lost top row = row
lost (below c s q b rest) row = whole c (fill s (replaced q b row rest))

abbrev pub without : Stand → Row
without t = lost t.chain (fill t.position t.rest)

abbrev pub from_stand : (root : Row) → Option Stand → Row
from_stand root none = root
from_stand root (some t) = without t

-- The root record without the node that the path names and all under it. No proxy names the records below it any more, so their pages are free.
unfoldable pub removed : (root : Row) → (path : List ℕ) → Row
removed root path = from_stand root (stand_of root path)
