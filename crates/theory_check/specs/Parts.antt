-- The pages as parts of an image: their bytes, and a record on its page.
use Rattle.std.specs.Prelude.{◌≡◌, refl, false, List, [], ◌∷◌, ℕ, zero, suc, ◌+◌, ◌-◌, ◌*◌, ◌≤◌, ◌<◌, length, drop, get_or, eqb}
use Rattle.std.proofs.Common.{sym, ◌∙◌, arith, add_assoc, length-drop, length-take-le, drop-drop, get_or-take, get_or-drop, ne_eqb}
use Rattle.std.proofs.Math.Path.{ap, ap₂}
use Rattle.std.proofs.Math.Bool.{true}
use Rattle.std.proofs.Math.ListN.{take}
use Rattle.std.proofs.Math.Seq.{take-take}
use Rattle.model.specs.Limits.{page_size, capacity}
use Rattle.model.specs.Row.{Row, record_bytes, record_page, record_on}
use Rattle.model.specs.Reading.{two_at, page_of, state_at, used_at, back_at, settled_at}
use Rattle.model.specs.BeforeWalk.{all_zero, trailer_of, is_free}
use Rattle.model.specs.WalkTests.{tail_zero, record_of}
use Rattle.theory_check.specs.Heads.{AllBytes, all_take, all_drop}
use Rattle.theory_check.specs.Trailers.{TrailerIs, record_page_lem}

-- bytes of a part's front are bytes of the part
part_take : (u m n : ℕ) (l : List ℕ) → u + m ≤ n → take m (drop u (take n l)) ≡ take m (drop u l)
part_take zero m n l h = take-take m n l (omega arith)
part_take (suc u) m zero l h = absurd (omega arith)
part_take (suc u) m (suc n) [] h = refl
part_take (suc u) m (suc n) (x ∷ l) h = part_take u m n l (omega arith)

module _ (img : List ℕ) (p : ℕ) where
  pub page_bytes_lem : AllBytes img → AllBytes (page_of img p)
  page_bytes_lem whole = all_take page_size (drop (page_size * p) img) (all_drop (page_size * p) img whole)

  pub page_long : page_size * p + page_size ≤ length img → length (page_of img p) ≡ page_size
  page_long h = length-take-le page_size (drop (page_size * p) img) (omega (arith, length-drop (page_size * p) img))

  pub page_byte : (i : ℕ) → i < page_size → get_or (page_of img p) i 0 ≡ get_or img (page_size * p + i) 0
  page_byte i h = get_or-take page_size (drop (page_size * p) img) i 0 h ∙ get_or-drop (page_size * p) img i 0

  pub page_two : (i : ℕ) → i + 1 < page_size → two_at (page_of img p) i ≡ two_at img (page_size * p + i)
  unfolding two_at
  page_two i h = rw (page_byte i (omega arith), page_byte (i + 1) (omega arith), add_assoc)

  -- whether a page is free, by the first byte of its trailer; one whose trailer says that it has a record is in use
  pub page_free : is_free (trailer_of (page_of img p)) ≡ eqb (state_at img (page_size * p)) 0
  page_free = ap (λ (n : ℕ). eqb n 0) (get_or-drop capacity (page_of img p) 0 0 ∙ page_byte capacity (omega arith))

  pub in_use_lem : state_at img (page_size * p) ≡ 1 → is_free (trailer_of (page_of img p)) ≡ false
  in_use_lem k = page_free ∙ ne_eqb (state_at img (page_size * p)) 0 (λ z. omega arith)

  -- the bytes between the length used and the trailer
  pub tail_part : (u : ℕ) → u ≤ capacity → take (capacity - u) (drop (page_size * p + u) img) ≡ take (capacity - u) (drop u (page_of img p))
  tail_part u h =
      ap (take (capacity - u)) (sym (drop-drop u (page_size * p) img))
      ∙ sym (part_take u (capacity - u) page_size (drop (page_size * p) img) (omega arith))

  -- the record found on a page that keeps the rules by itself, with zeros after it, stands there as `record_page` says
  pub page_record : AllBytes img → page_size * p + page_size ≤ length img → (pages : ℕ) → TrailerIs pages p (page_of img p) → tail_zero img p ≡ true
      → (holder : ℕ) → back_at img (page_size * p) ≡ holder → (r : Row) → record_of img p ≡ record_bytes r
      → page_of img p ≡ record_page (record_on p (eqb (settled_at img (page_size * p)) 1) holder r)
  unfolding tail_zero
  page_record whole inside pages k tail holder h r e =
      let s = page_of img p in
      let long = page_long inside in
      let used : used_at s 0 ≡ used_at img (page_size * p) = page_two (capacity + 2) (omega arith) in
      let front : take (used_at s 0) s ≡ record_bytes r =
      take-take (used_at s 0) page_size (drop (page_size * p) img) (omega (arith, k.used)) ∙ ap (λ (n : ℕ). take n (drop (page_size * p) img)) used ∙ e in
      let zeros : all_zero (take (capacity - used_at s 0) (drop (used_at s 0) s)) ≡ true =
      ap all_zero (sym (tail_part (used_at s 0) k.used)) ∙ ap (λ (n : ℕ). all_zero (take (capacity - n) (drop (page_size * p + n) img))) used ∙ tail in
      record_page_lem pages p s (page_bytes_lem whole) long k zeros r front
      ∙ ap₂ (λ (b h : ℕ). record_page (record_on p (eqb b 1) h r))
      (page_byte (capacity + 1) (omega arith)) (page_two (capacity + 4) (omega arith) ∙ h)
