-- Records in a list of calls.
use Rattle.std.specs.Prelude.{◌≡◌, refl, ◌*◌, ℕ, length}
use Rattle.std.proofs.Common.{ap, ◌∙◌, arith}
use mathlib.Core.List.{List, [], ◌∷◌}
use Rattle.model.specs.Row.{Row, Config}
use Rattle.model.specs.Tree.{shown}
use Rattle.model.specs.Reading.{Reads}
use Rattle.model.specs.Claims.{CallHolds, Orders}
use Rattle.theory_calls.specs.Open.{opens}
use Rattle.theory_calls.specs.Asking.{asked}
use Rattle.model.specs.Common.{record_pages}
use Rattle.model.specs.Calls.Records.{page_bytes, records_of, records_call}
use Rattle.model.specs.Answers.{WriteAnswer}
use Rattle.theory_calls.specs.FirstRefusal.{write_number}
use Rattle.theory_calls.specs.Pieces.{same_length}

pub length_page_bytes : (ps : List ℕ) → length (page_bytes ps) ≡ 2 * length ps
length_page_bytes [] = refl
length_page_bytes (p ∷ ps) = omega (arith, length_page_bytes ps)

module _ (order : (img buffer : List ℕ) → List ℕ) (o : Orders order) (img : List ℕ) (st : Config) (root : Row) (r : Reads img st root) (buffer : List ℕ) where
  abbrev pages : List ℕ
  pages = order img buffer

  many : length (page_bytes pages) ≡ 2 * length (record_pages root)
  many = length_page_bytes pages ∙ ap (λ (k : ℕ). 2 * k) (same_length pages (record_pages root) (o img buffer st root r))

  -- 12 is none of its numbers.
  never_full : (records_of pages img buffer).0.number ≡ 12 → ⊥
  unfolding records_of
  never_full z = omega (arith, write_number (page_bytes pages) buffer, rw (opens img st root r) at z)

  pub records_holds : CallHolds order img (shown root) (records_call order buffer)
  unfolding records_of
  records_holds =
      asked order img st root r (WriteAnswer × List ℕ) (λ a. a.0.number) (λ i. records_of (order i buffer) i buffer) _ (rw (opens img st root r, many))
      never_full
