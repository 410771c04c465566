-- The fixed table by its rows: what a holder takes.
use Rattle.std.specs.Prelude.{ℕ}
use Rattle.model.specs.Row.{may_stand}
use Rattle.base_node_kinds.specs.declared.Kinds.{Kinds}

-- What may stand in the row of nodes that a holder has.
abbrev pub kinds_in : (holder : ℕ) → Kinds
kinds_in h = record { aggregate = may_stand h 1; literal = may_stand h 2; proxy = may_stand h 3 }
