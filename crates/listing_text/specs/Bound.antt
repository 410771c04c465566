-- How long a listing can be: 15 bytes for each 6 of its records.
use Rattle.std.specs.Prelude.{[], ◌++◌, ℕ, ◌+◌, ◌*◌, ◌≤◌, ◌<◌, length}
use Rattle.std.proofs.Common.{arith, length-append}
use Rattle.model.specs.Row.{Row, nil, agg, lit, rec, size, height}
use Rattle.theory_rows.specs.Fits.{Fits}
use Rattle.theory_decoding.specs.Steps.{steps, record_count}
use Rattle.listing_lines.specs.Text.{line_of, head_line}
use Rattle.listing_lines.specs.Digits.{two_digits, line_length, head_long}
use Rattle.listing_text.specs.Lined.{row_text, span}

-- Room for the longest one: a head line and 15 records.
abbrev pub listing_room : ℕ
listing_room = 155648

pub row_bound : (l : ℕ) (r : Row) → Fits r → l + height r ≤ 100 → 6 * length (row_text l r) ≤ 15 * size r + 61200 * record_count r
unfolding row_text
row_bound l nil f h = omega arith
row_bound l (agg k cs rest) f h =
    let own = line_of l 65 k.label [] k.origin in
    omega (
      arith,
      length-append (own ++ row_text (l + 1) cs) (row_text l rest),
      length-append own (row_text (l + 1) cs),
      line_length l 65 k.label [] k.origin (omega arith) f.0.label (omega (arith, f.0.origin)),
      row_bound (l + 1) cs f.1 (omega arith),
      row_bound l rest f.2 (omega arith),
    )
row_bound l (lit k c rest) f h =
    omega (
      arith,
      length-append (line_of l 76 k.label c k.origin) (row_text l rest),
      line_length l 76 k.label c k.origin (omega arith) f.0.label (omega (arith, f.0.origin)),
      row_bound l rest
          f.3 (omega arith),
    )
row_bound l (rec p s r rest) f h =
    omega (arith, length-append (row_text l r) (row_text l rest), row_bound l r f.1 (omega arith), f.0.fits, row_bound l rest f.2 (omega arith))

pub head_bound : (p f r : ℕ) → p < 100 → f < 100 → r < 100 → length (head_line p f r) ≤ 28
head_bound p f r a b c = omega (arith, head_long p f r, two_digits p a, two_digits f b, two_digits r c)

pub span_steps : (r : Row) → span r ≤ steps r
span_steps nil = omega arith
span_steps (agg h cs rest) = omega (arith, span_steps cs, span_steps rest)
span_steps (lit h c rest) = omega (arith, span_steps rest)
span_steps (rec p s r rest) = omega (arith, span_steps r, span_steps rest)
