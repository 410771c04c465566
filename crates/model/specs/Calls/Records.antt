-- Records: all record pages, to the front of the lent buffer.
use Rattle.std.specs.Prelude.{◌≡◌, cond, List, [], ◌∷◌, ◌++◌, ℕ, ◌+◌, ◌*◌, drop, length, ltb, eqb}
use Rattle.model.specs.Row.{Row, two}
use Rattle.model.specs.Answers.{short_buffer, write_refused}
use Rattle.model.specs.Common.{write, opened, on_store, record_pages}
use Rattle.model.specs.Effect.{Effect, asking}
use Rattle.model.specs.Answers.{WriteAnswer}

-- How often a number stands in a list.
abbrev pub times : ℕ → List ℕ → ℕ
times q [] = 0
times q (p ∷ ps) = cond (eqb q p) 1 0 + times q ps

-- The free part of Records is the order of the pages: `order` has each record page one time, and nothing else.
abbrev pub IsOrder : Row → (order : List ℕ) → Type 0
IsOrder root order = (q : ℕ) → times q order ≡ times q (record_pages root)

abbrev pub page_bytes : List ℕ → List ℕ
page_bytes [] = []
page_bytes (q ∷ qs) = two q ++ page_bytes qs

unfoldable pub records_of : (order img buffer : List ℕ) → WriteAnswer × List ℕ
records_of order img buffer = on_store (opened img) (λ n. (write_refused n, buffer)) (λ st root. write (page_bytes order) buffer)

-- The plain tree is fed the number of record pages, and handed their order.
abbrev pub plain_records : (count : ℕ) → (pages buffer : List ℕ) → WriteAnswer × List ℕ
plain_records n pages buffer =
    let refused : WriteAnswer × List ℕ = (write_refused short_buffer, buffer) in
    let written : WriteAnswer × List ℕ = (record { number = 0; written = 2 * n }, page_bytes pages ++ drop (2 * n) buffer) in
    cond (ltb (length buffer) (2 * n)) refused written

abbrev pub records_call : (order : (img buffer : List ℕ) → List ℕ) → (buffer : List ℕ) → Effect
records_call order buffer = asking (WriteAnswer × List ℕ) (λ a. a.0.number)
    (λ img. records_of (order img buffer) img buffer)
    (λ f h t. plain_records f.record_count (h.order buffer) buffer)
