-- The tables of the check: how long that of the widths is, and what they are for an image that passes.
use Rattle.std.specs.Prelude.{◌≡◌, ◌&&◌, List, ℕ, ◌*◌, ◌≤◌, ◌<◌, get_or, replicate, ltb}
use Rattle.std.proofs.Common.{subst, sym, ◌∙◌, arith}
use Rattle.std.proofs.Math.Path.{ap}
use Rattle.std.proofs.Math.Bool.{true}
use Rattle.std.proofs.Math.ListN.{length}
use Rattle.std.proofs.Math.Dec.{eqb}
use borrow.Author.Tests.{eqb-true}
use Rattle.model.specs.Limits.{most_pages, mark_bytes, page_size}
use Rattle.model.specs.Row.{Row, Config, count}
use Rattle.model.specs.Reading.{length_ok, config_on, page_of, kind_at, Reads}
use Rattle.model.specs.BeforeWalk.{before_walk}
use Rattle.model.specs.WalkTests.{tail_zero, record_of}
use Rattle.base_ranges.specs.Tables.{few_pages, tables_for, tables_fit}
use Rattle.base_ranges.specs.declared.Tables.TheVariants.{Few, Many}
use Rattle.theory_decoding.specs.Valid as valid
use Rattle.theory_decoding.specs.Reading.{reads_length, reads_length_ok, unique}
use Rattle.theory_check.specs.Facts.{not_else}
use Rattle.theory_check.specs.Tests.{is_marked}
use Rattle.theory_check.specs.Marks.{marks_none}
use Rattle.theory_check.specs.Walk.{state, node}
use Rattle.theory_check.specs.Passes.{passes, record_bytes_lem}
use Rattle.theory_check.specs.Reached.{marks}
use Rattle.theory_check.specs.Check.{trailers_of, walk_of, walk_ok, check_by}
use Rattle.theory_check.specs.Widths.{widths_after}
use Rattle.theory_check.specs.Sound.{sound_row, sound_marks}
use Rattle.theory_check.specs.Told.{reads_table}
use Rattle.theory_layout.specs.Widths.{Widths, widths}

-- An entry for each page of an image of an allowed length.
abbrev pub Enough : (img table : List ℕ) → Type 0
Enough img c = length_ok (length img) ≡ true → length img ≤ page_size * length c

-- Tables of n entries are enough for an image, and no longer than the longest one takes.
abbrev pub Serves : (img : List ℕ) → (n : ℕ) → Type 0
Serves img n = (length_ok (length img) ≡ true → length img ≤ page_size * n) × (n ≤ most_pages)

-- The size chosen for an image serves it.
pub few_serve : (img : List ℕ) → Few ≡ tables_for (length img) → Serves img few_pages
few_serve img e = (tables_fit (length img) Few e, omega arith)

pub many_serve : (img : List ℕ) → Many ≡ tables_for (length img) → Serves img most_pages
many_serve img e = (tables_fit (length img) Many e, omega arith)

-- The marks are those of the pages that the store's records name.
abbrev pub Named : (img marks : List ℕ) → Type 0
Named img m = (st : Config) (root : Row) → Reads img st root → (q : ℕ) → q < most_pages → is_marked m q ≡ ltb 0 (count q root)

module _ (img : List ℕ) (all : (i : ℕ) → get_or img i 0 < 256) (e : check_by img ≡ 0) where
  abbrev row : Row
  row = (walk_of img (trailers_of img)).row

  read : Reads img (config_on (page_of img 0)) row
  read = sound_row img all e

  pub passes_length : length_ok (length img) ≡ true
  passes_length = reads_length_ok img _ _ read

  pub table : (old new : List ℕ) → Enough img old → new ≡ widths_after row old → Widths img new
  table old new enough z =
      let t = reads_table img _ _ read old (omega (arith, reads_length img _ _ read, enough passes_length)) in
      subst (Widths img) (sym z) (widths img _ _ _ read t)

  pub named : (marks : List ℕ) → marks ≡ (walk_of img (trailers_of img)).walk.marks → Named img marks
  named marks z a b y q h =
      ap (λ (m : List ℕ). is_marked m q) z ∙ sound_marks img all e q h
      ∙ ap (λ (p : Config × Row). ltb 0 (count q p.1)) (unique img (config_on (page_of img 0), row) (a, b) read y)

  -- They are as many as at the start.
  ended : (walk_of img (trailers_of img)).walk.left ≡ 0 → ⊥
  unfolding check_by walk_ok
  ended z =
      let before = (not_else (length_ok (length img)) (λ y. omega arith) e).1 in
      let walk = (not_else (before_walk img) (λ y. omega arith) before).1 in
      let last : eqb (walk_of img (trailers_of img)).walk.left 1 ≡ true = (valid.both (eqb (kind_at img page_size) 1 && tail_zero img 1) _ (not_else (walk_ok img (trailers_of img)) (λ y. omega arith) walk).0).1 in
      omega (arith, eqb-true (walk_of img (trailers_of img)).walk.left 1 last)

  pub marks_long : (marks : List ℕ) → marks ≡ (walk_of img (trailers_of img)).walk.marks → length marks ≡ mark_bytes
  unfolding walk_of
  marks_long m z =
      let j = node (record_of img 1) 1 0 1 (state (trailers_of img) (replicate mark_bytes 0)) in
      let p = passes img all j (record_bytes_lem img all 1) (λ y. ended y) in
      ap length z ∙ (marks p marks_none).kept.long
