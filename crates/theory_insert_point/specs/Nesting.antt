-- How long a chain is: records are nested no further than the pages go.
use Rattle.std.specs.Prelude.{ℕ, suc, ◌+◌, ◌≤◌}
use Rattle.std.proofs.Common.{arith}
use Rattle.model.specs.Row.{Row, rec}
use Rattle.model.specs.Spot.{fill, Chain, top, below, whole}
use Rattle.theory_decoding.specs.Steps.{steps}
use Rattle.theory_layout.specs.Here.{nesting}
use Rattle.theory_growth.specs.Parts.{Part, part_fill}

pub nesting_part : Part nesting
nesting_part = record {
  children = λ h cs rest. omega arith;
  after_agg = λ h cs rest. omega arith;
  after_lit = λ h c rest. omega arith;
  under = λ p b r rest. omega arith;
  after_rec = λ p b r rest. omega arith;
}

pub steps_part : Part steps
steps_part = record {
  children = λ h cs rest. omega arith;
  after_agg = λ h cs rest. omega arith;
  after_lit = λ h c rest. omega arith;
  under = λ p b r rest. omega arith;
  after_rec = λ p b r rest. omega arith;
}

abbrev pub chain_length : Chain → ℕ
chain_length top = 0
chain_length (below c s q b rest) = suc (chain_length c)

pub chain_nesting : (c : Chain) (x : Row) → chain_length c + nesting x ≤ nesting (whole c x)
chain_nesting top x = omega arith
chain_nesting (below c s q b rest) x = omega (arith, chain_nesting c (fill s (rec q b x rest)), part_fill nesting nesting_part s (rec q b x rest))
