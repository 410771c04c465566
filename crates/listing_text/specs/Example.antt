-- The listing that document 01 prints, with origin 0 at the end of each node's line, from the definitions of the calls and of the listing.
use Rattle.std.specs.Prelude.{◌≡◌, refl, List, [], ◌∷◌, ◌++◌, ℕ, ◌*◌, length}
use Rattle.std.proofs.Common.{ap, ◌∙◌}
use Rattle.model.specs.Limits.{page_size}
use Rattle.model.specs.Row.{Row, nil, agg, lit, Config, image, in_range, valid}
use Rattle.model.specs.Tree.{place_at}
use Rattle.model.specs.Spot.{stand_in, spot_in}
use Rattle.model.specs.Growth.{grow, rise, kept}
use Rattle.model.specs.Reading.{length_ok, two_at, nodes_in, same_bytes, reading}
use Rattle.model.specs.Answers.{usual_settings, usual_matrix}
use Rattle.model.specs.Common.{accept, opened}
use Rattle.model.specs.Calls.Format.{config, format_number, format_of}
use Rattle.model.specs.Calls.Insert.{insert_number, insert_of}
use Rattle.listing_lines.specs.Text.{decimal_by, decimal_of, hex_of, content_of, line_of, lines_of, head_line, listing_of, listing_on, printed}

-- Some bytes formatted as three pages with root label 7; then literal 9 with bytes 41 42 at child 0, then aggregate 300 at child 0,
-- both seen on the wire.
abbrev formatted : (bytes : List ℕ) → List ℕ
formatted b = (format_of b (usual_settings 3) usual_matrix 7).1

abbrev filled : (img : List ℕ) → List ℕ
filled img = (insert_of (insert_of img [] 0 2 0 9 (0x41 ∷ 0x42 ∷ [])).1 [] 0 1 0 300 []).1

-- The four lines.
abbrev pub text : List ℕ
text =
    (112 ∷ 97 ∷ 103 ∷ 101 ∷ 115 ∷ 32 ∷ 51 ∷ 32 ∷ 102 ∷ 114 ∷ 101 ∷ 101 ∷ 32 ∷ 49 ∷ 32 ∷ 114 ∷ 101 ∷ 99 ∷ 111 ∷ 114 ∷ 100 ∷ 115 ∷ 32 ∷ 49 ∷ 10 ∷ [])
    ++ (49 ∷ 32 ∷ 65 ∷ 32 ∷ 55 ∷ 32 ∷ 45 ∷ 32 ∷ 48 ∷ 10 ∷ [])
    ++ (50 ∷ 32 ∷ 65 ∷ 32 ∷ 51 ∷ 48 ∷ 48 ∷ 32 ∷ 45 ∷ 32 ∷ 48 ∷ 10 ∷ [])
    ++ (50 ∷ 32 ∷ 76 ∷ 32 ∷ 57 ∷ 32 ∷ 52 ∷ 49 ∷ 52 ∷ 50 ∷ 32 ∷ 48 ∷ 10 ∷ [])

-- ── the image, one call after another ──

abbrev settings : Config
settings = config (usual_settings 3) usual_matrix

abbrev root : Row
root = agg (record { origin = 0; label = 7 }) (agg (record { origin = 0; label = 300 }) nil (lit (record { origin = 0; label = 9 }) (0x41 ∷ 0x42 ∷ []) nil)) nil

abbrev alone : List ℕ
alone = image settings (agg (record { origin = 0; label = 7 }) nil nil)

formatted_is : (b : List ℕ) → length b ≡ page_size * 3 → formatted b ≡ alone
unfolding format_of format_number length_ok in_range
formatted_is b e = ap (λ (n : ℕ). (accept {A = ℕ × List ℕ} n (0, alone) (n, b)).1) (ap (λ (m : ℕ). format_number m settings) e)

filled_is : filled alone ≡ image settings root
unfolding image in_range valid place_at two_at grow stand_in spot_in rise kept length_ok nodes_in same_bytes reading insert_number opened insert_of
filled_is = refl

-- Naming this unfolds every definition that the text is made with.
worded : Unit {0}
unfolding decimal_by decimal_of hex_of content_of line_of lines_of head_line listing_of listing_on printed
worded = tt

printed_is : printed (image settings root) ≡ text
unfolding worded image in_range valid two_at length_ok nodes_in same_bytes reading opened
printed_is = refl

-- What is printed for the image that the calls leave.
pub listed : (b : List ℕ) → length b ≡ page_size * 3 → printed (filled (formatted b)) ≡ text
listed b e = ap (λ (img : List ℕ). printed (filled img)) (formatted_is b e) ∙ ap printed filled_is ∙ printed_is
