-- The walk over the bytes of a row whose records stand on their pages gives the row.
use Rattle.std.specs.Prelude.{◌≡◌, refl, Bool, true, cond, ◌&&◌, List, [], ℕ, ◌+◌, ◌-◌, ◌*◌, ◌≤◌, ◌<◌, length}
use Rattle.std.proofs.Common.{ap, ◌∙◌, arith}
use Rattle.model.specs.Limits.{most_pages, page_size, capacity, most_levels}
use Rattle.model.specs.Row.{Row, nil, agg, lit, rec, size, lone, two, bytes, Held, may_stand, by_table, height, record_on, no_head}
use Rattle.model.specs.Reading.{page_of}
use Rattle.theory_rows.specs.Fits.{Fits}
use Rattle.theory_rows.specs.Laws.{length_bytes}
use Rattle.theory_rows.specs.Image.{Stored}
use Rattle.theory_decoding.specs.Valid.{both, names_own}
use Rattle.theory_decoding.specs.Steps.{record_count}
use Rattle.theory_check.specs.Steps.{list_none}
use Rattle.theory_check.specs.Tests.{marked}
use Rattle.theory_check.specs.Walk.{state, Decoded, as_agg, as_rec, with_mark, list_of}
use Rattle.theory_check.specs.Nodes.{list_node, agg_node, lit_node, rec_node, record_node}
use Rattle.theory_check.specs.Pages.{proxy_of_lem}
use Rattle.theory_check.specs.Fresh.{marks_after, Unreached, fresh_after}

-- The row, with k pages left.
abbrev pub done : Row → (k : ℕ) → (m : List ℕ) → Decoded
done row k m = record { row = row; walk = state k (marks_after row m) }

three : (a b c : Bool) → a && b && c ≡ true → (a ≡ true) × (b ≡ true) × (c ≡ true)
three a b c e =
    let t = both (a && b) c e in
    let u = both a b t.0 in
    (u.0, u.1, t.1)

module _ (img : List ℕ) (pages : ℕ) (many : pages ≤ most_pages) (long : length img ≡ page_size * pages) where
  pub walked : (row : Row) (page holder level left k : ℕ) (m : List ℕ) → Fits row → size row ≤ capacity → by_table holder row ≡ true
      → Stored (page_of img) page row → page < 65536 → height row + level ≤ most_levels + 1 → Unreached pages m row → left ≡ record_count row + k → 1 ≤ k
      → list_of img (bytes row) page holder level (state left m) ≡ done row k m
  walked nil page holder level left k m f z t s p h u e l =
      let same : left ≡ k = omega arith in
      rw same (list_none img [] page holder level (state k m) refl)
  walked (agg d cs rest) page holder level left k m f z t s p h u e l =
      let c = three (may_stand holder 1) (by_table 1 cs) (by_table holder rest) t in
      let w = state left m in
      let n = length_bytes cs in
      list_node img page level w d (size cs) (bytes cs) n (omega arith) 1 holder (bytes rest)
      (as_agg d (done cs (record_count rest + k) m)) (done rest k (marks_after cs m)) (omega arith)
      (agg_node img page level w d (size cs) (bytes cs) n (omega arith) holder f.0 c.0 (omega arith)
      ∙ ap (as_agg d) (walked cs page 1 (level + 1) left (record_count rest + k) m f.1 (omega arith) c.1 s.0 p (omega arith)
      (fresh_after pages m (agg d cs rest) nil cs many u (λ q. omega arith)) (omega arith) (omega arith)))
      (walked rest page holder level (record_count rest + k) k (marks_after cs m) f.2 (omega arith) c.2 s.1 p (omega arith)
      (fresh_after pages m (agg d cs rest) cs rest many u (λ q. omega arith)) refl l)
  walked (lit d c rest) page holder level left k m f z t s p h u e l =
      let b = both (may_stand holder 2) (by_table holder rest) t in
      let w = state left m in
      list_node img page level w d (length c) c refl (omega arith) 2 holder (bytes rest)
      (record { row = lit d c nil; walk = w }) (done rest k m) (omega arith)
      (lit_node img page level w d (length c) c refl (omega arith) holder f.0 b.0 (omega arith) f.1)
      (walked rest page holder level left k m f.3 (omega arith) b.1 s p (omega arith)
      (fresh_after pages m (lit d c rest) nil rest many u (λ q. omega arith)) e l)
  walked (rec q b r rest) page holder level left k m f z t s p h u e l =
      let c = three (may_stand holder 3) (cond (lone r) (by_table 0 r) (may_stand 0 4 && by_table 4 r)) (by_table holder rest) t in
      let w = state left m in
      let held : Held = record_on q b page r in
      let own = names_own q b r rest in
      let range = u.range q own in
      list_node img page level w no_head 2 (two q) refl (omega arith) 3 holder (bytes rest)
      (as_rec q b (done r (record_count rest + k) (marked m q))) (done rest k (marks_after r (marked m q))) (omega arith)
      (rec_node img page level w q holder (omega arith) c.0
      ∙ proxy_of_lem img q held f.0 s.0 range.0 (omega arith) (omega arith) p level w (omega arith) (u.new q own)
      ∙ ap (as_rec q b) (record_node img q level (with_mark w q) (omega arith) b r (done r (record_count rest + k) (marked m q)) f.0 c.1
      (λ x y. walked r q x level (left - 1) (record_count rest + k) (marked m q) f.1 (omega (arith, f.0.fits)) y s.1 (omega arith) (omega arith)
      (fresh_after pages m (rec q b r rest) (rec q b nil nil) r many u (λ q. omega arith)) (omega arith) (omega arith))))
      (walked rest page holder level (record_count rest + k) k (marks_after r (marked m q)) f.2 (omega arith) c.2 s.2 p (omega arith)
      (fresh_after pages m (rec q b r rest) (rec q b r nil) rest many u (λ q. omega arith)) refl l)
