-- `lift` can be called on the record above the last of a chain, while its page is as it was.
use Rattle.std.specs.Prelude.{◌≡◌, Bool, List, ℕ, ◌≤◌}
use Rattle.std.proofs.Common.{subst, arith}
use Rattle.model.specs.Row.{Row, rec, count, Config}
use Rattle.model.specs.Reading.{Reads}
use Rattle.theory_rows.specs.Image.{once}
use Rattle.theory_decoding.specs.Reading.{reads_valid}
use Rattle.theory_layout.specs.Here.{OnPage}
use Rattle.model.specs.Spot.{Position, fill, Chain, below, last_page, whole, last_holder}
use Rattle.theory_insert_point.specs.Bytes.{chain_page}
use Rattle.theory_growth.specs.Parts.{part_whole, count_part}
use Rattle.grow_replace_proxy.specs.Seek.{count_position}

module _ (was : List ℕ) (st : Config) (root : Row) (r : Reads was st root) (c : Chain) (s : Position) (q : ℕ) (b : Bool) (rest row : Row)
    (e : whole (below c s q b rest) row ≡ root) where
  pub above_stands : OnPage was (last_page c) (last_holder c) (fill s (rec q b row rest))
  above_stands = chain_page was st root r c (fill s (rec q b row rest)) e

  pub above_once : count q (fill s (rec q b row rest)) ≡ 1
  above_once =
      let most : count q (fill s (rec q b row rest)) ≤ count q root =
      subst (λ (z : Row). count q (fill s (rec q b row rest)) ≤ count q z) e (part_whole (count q) (count_part q) c (fill s (rec q b row rest))) in
      omega (arith, most, once st root (reads_valid was st root r) q, count_position s q b row rest)
