-- The call on an image that passes the check.
use Rattle.std.specs.Prelude.{◌≡◌, ℕ, ◌*◌, ◌-◌, ◌/◌, ◌≤◌, ◌<◌}
use Rattle.std.proofs.Math.Path.{sym, ap}
use Rattle.std.proofs.Common.{◌∙◌, arith}
use mathlib.Core.List.{List, ◌++◌}
use Rattle.std.proofs.Math.ListN.{length, drop}
use Rattle.model.specs.Limits.{most_pages, page_size}
use Rattle.model.specs.Answers.{write_refused, short_buffer}
use Rattle.model.specs.Calls.Check.{check_of}
use Rattle.model.specs.Calls.Records.{page_bytes, records_of}
use Rattle.model.specs.Answers.{WriteAnswer}
use Rattle.base_numbers.specs.Over.{over, over_front}
use Rattle.theory_decoding.specs.Reading.{reads_valid, reads_length}
use Rattle.theory_calls.specs.Open.{passing}
use Rattle.theory_calls.specs.Records.{length_page_bytes}
use Rattle.theory_calls.specs.Navigate.{records_write, records_short}
use Rattle.read_records.specs.Up.{left, few_up, up_pages}

-- The answer and the buffer after Records with the pages ascending.
abbrev pub Answers : (img buffer : List ℕ) → WriteAnswer → (after : List ℕ) → Type 0
Answers img buffer a after = (a ≡ (records_of (up_pages img) img buffer).0) × (after ≡ (records_of (up_pages img) img buffer).1)

answers : (img buffer : List ℕ) (a : WriteAnswer) (after : List ℕ) → records_of (up_pages img) img buffer ≡ (a, after) → Answers img buffer a after
answers img buffer a after e = (sym (ap (λ (x : WriteAnswer × List ℕ). x.0) e), sym (ap (λ (x : WriteAnswer × List ℕ). x.1) e))

pub few_pages_lem : (img : List ℕ) → check_of img ≡ 0 → length img / page_size ≤ most_pages
few_pages_lem img z =
    let r = passing img z in
    omega (arith, reads_length img r.0.0 r.0.1 r.1, (reads_valid img r.0.0 r.0.1 r.1).ranges.many)

-- The count n of the record pages is small,
pub few_records : (img : List ℕ) (n : ℕ) → check_of img ≡ 0 → n ≡ length (left img (length img / page_size) 1) → n ≤ most_pages
few_records img n z e = omega (arith, few_up img (length img / page_size - 1) 1, few_pages_lem img z)

-- and it decides the way out.
module _ (img buffer : List ℕ) (n : ℕ) (z : check_of img ≡ 0) (e : n ≡ length (left img (length img / page_size) 1)) where
  pub short : length buffer < 2 * n → Answers img buffer (write_refused short_buffer) buffer
  unfolding up_pages
  short h =
      let r = passing img z in
      answers img buffer _ _ (records_short img r.0.0 r.0.1 r.1 (up_pages img) buffer (omega arith))

  pub written : (after : List ℕ) → 2 * n ≤ length buffer → after ≡ over 0 (page_bytes (left img (length img / page_size) 1)) buffer
      → Answers img buffer (record { number = 0; written = 2 * n }) after
  unfolding up_pages
  written after h q =
      let r = passing img z in
      let ps = up_pages img in
      let f = over_front (2 * length ps) (page_bytes ps) buffer (length_page_bytes ps) in
      answers img buffer _ _
      (records_write img r.0.0 r.0.1 r.1 ps buffer (omega arith)
      ∙ ap (λ (k : ℕ). (record { number = 0; written = 2 * k }, page_bytes ps ++ drop (2 * length ps) buffer)) (sym e)
      ∙ ap (λ (l : List ℕ). (record { number = 0; written = 2 * n }, l)) (f ∙ sym q))
