-- What an image's length is that passes; the image of a valid store has the length of its pages.
use Rattle.std.specs.Prelude.{◌≡◌, refl, true, List, ℕ, zero, suc, ◌*◌, ◌-◌, ◌/◌, ◌%◌, ◌≤◌}
use native.Mathlib.Omega.{arith}
use borrow.Author.Tests.{le-leb, eq-eqb, leb-true, eqb-true}
use Rattle.std.proofs.Math.ListN.{length, length-append}
use Rattle.model.specs.Limits.{most_pages, page_size}
use Rattle.model.specs.Row.{Row, store, Held, records, settings_page, page_at, pages_from, image, Config}
use Rattle.model.specs.Reading.{length_ok}
use Rattle.theory_rows.specs.Fits.{Valid}
use Rattle.theory_rows.specs.Image.{length_page_at, length_settings, all_fit}
use Rattle.theory_decoding.specs.Valid.{both}

pub record Long (n : ℕ) : Type 0 where
  pub whole : n % page_size ≡ 0
  pub few : 2 ≤ n / page_size
  pub many : n / page_size ≤ most_pages

pub length_says : (n : ℕ) → length_ok n ≡ true → Long n
unfolding length_ok
length_says n e =
    let h = both _ _ e in
    let k = both _ _ h.0 in
    record { whole = eqb-true _ _ k.0; few = leb-true _ _ k.1; many = leb-true _ _ h.1 }

length_pages : (hs : List Held) → ((q : ℕ) → length (page_at hs q) ≡ page_size) → (n q : ℕ) → length (pages_from hs n q) ≡ page_size * n
length_pages hs f zero q = refl
length_pages hs f (suc n) q = rw (length-append, f q, length_pages hs f n (suc q)) (omega arith)

module _ (st : Config) (root : Row) (v : Valid st root) where
  pub length_image : length (image st root) ≡ page_size * st.pages
  unfolding image
  length_image =
      let hs = records 0 (store root) in
      omega (
        arith,
        length-append (settings_page st) (pages_from hs (st.pages - 1) 1),
        length_settings st v.ranges.entries,
        length_pages hs (length_page_at hs (all_fit st root v)) (st.pages - 1) 1,
        v.ranges.few,
      )

  pub image_length_ok : length_ok (length (image st root)) ≡ true
  unfolding length_ok
  image_length_ok =
      let n = length (image st root) in
      let few : 2 ≤ n / page_size = omega (arith, length_image, v.ranges.few) in
      let many : n / page_size ≤ most_pages = omega (arith, length_image, v.ranges.many) in
      let whole : n % page_size ≡ 0 = omega (arith, length_image) in
      rw (eq-eqb (n % page_size) 0 whole, le-leb 2 (n / page_size) few, le-leb (n / page_size) most_pages many)
