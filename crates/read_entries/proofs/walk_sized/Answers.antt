-- `read_entries::walk_sized`: a new table has no way out yet.
use Rattle.std.proofs.Common.{rules}
use Rattle.base_ranges.specs.Tables.{zeros}
use Rattle.read_entries.proofs.walk_sized.Goals as goal

pub walk_records-requires : goal.walk_records-requires
walk_records-requires g c = let r = c.requires in (r.0, r.1, zeros g.row.N, search rules)
