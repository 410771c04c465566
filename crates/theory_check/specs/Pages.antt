-- What the tests on pages say of the pages of a valid store's image.
use Rattle.std.specs.Prelude.{◌≡◌, Bool, not, List, ◌∷◌, ◌++◌, ℕ, zero, suc, ◌+◌, ◌-◌, ◌*◌, ◌≤◌, ◌<◌, drop, replicate, eqb}
use Rattle.std.proofs.Math.Path.{refl, ap}
use Rattle.std.proofs.Common.{◌∙◌, append_assoc, arith, take_at, drop_at, take-take, get_or-take, get_or-drop}
use Rattle.std.proofs.Math.Bool.{true, false, cond}
use Rattle.std.proofs.lemmas.Bool.{false≢true}
use Rattle.std.proofs.Math.ListN.{length, take, get_or, length-append}
use Rattle.std.proofs.lemmas.List.{length-replicate}
use Rattle.std.proofs.Math.Seq.{drop-append-add}
use borrow.Author.Tests.{eq-eqb, ne_eqb, le-leb, lt-ltb}
use Rattle.model.specs.Limits.{most_pages, page_size, capacity, settings_size, matrix_entries}
use Rattle.model.specs.Row.{Row, nil, agg, lit, rec, lone, record_size, record_bytes, two, trailer, Held, record_page, Config, settings_page, is_agg, in_range}
use Rattle.model.specs.Reading.{two_at, page_of, back_at, settled_at, config_on}
use Rattle.model.specs.BeforeWalk.{all_zero, settings_ok, trailer_of, is_free, settled_fits, back_fits, record_trailer, trailer_fits, free_fits, page_fits}
use Rattle.theory_rows.specs.Fits.{Shape, RecordFits, Ranges}
use Rattle.theory_growth.specs.Store.{settled_lone}
use Rattle.theory_rows.specs.Image.{length_record}
use Rattle.theory_decoding.specs.Valid.{ranges_say}
use Rattle.theory_decoding.specs.Decode.{two_bytes, get_d_past, in_trailer, settled_page, used_page, take_page}
use Rattle.model.specs.WalkTests.{names_of, root_fits, tail_zero, record_of}
use Rattle.theory_check.specs.Tests.{is_marked}
use Rattle.theory_check.specs.Walk.{State, with_mark, as_rec, enters_of, proxy_step, proxy_of, node_of}
use Rattle.theory_check.specs.Parts.{tail_part}

zeros : (n : ℕ) → all_zero (replicate n 0) ≡ true
unfolding all_zero
zeros zero = refl
zeros (suc n) = zeros n

-- k bytes from byte n on
part : (a b c : List ℕ) (n k : ℕ) → length a ≡ n → length b ≡ k → take k (drop n (a ++ b ++ c)) ≡ b
part a b c n k e f = rw (append_assoc a b c, drop_at a (b ++ c) n e) (take_at b c k f)

drop_past : (a b : List ℕ) (n i : ℕ) → length a ≡ n → drop (n + i) (a ++ b) ≡ drop i b
drop_past a b n i e = rw (← e) (drop-append-add a b i)

-- ── page 0 ──

-- with any zeros behind the matrix, so that nothing has to count them
module _ (st : Config) (ok : in_range st ≡ true) (z : List ℕ) (many : length z ≡ (capacity - settings_size)) (none : all_zero z ≡ true) where
  abbrev last : List ℕ
  last = trailer 2 0 settings_size 0

  abbrev front : List ℕ
  front = two st.pages ++ (st.target ∷ 0 ∷ two st.tolerance) ++ two st.form ++ replicate 8 0 ++ st.matrix ++ z

  r : Ranges st
  r = ranges_say st ok

  config_with : config_on (front ++ last) ≡ st
  unfolding two_at
  config_with =
      let pages = two_bytes st.pages (omega (arith, r.many)) in
      let tolerance = two_bytes st.tolerance (omega (arith, r.tol)) in
      let form = two_bytes st.form (omega (arith, r.form)) in
      let matrix : take matrix_entries (st.matrix ++ z ++ last) ≡ st.matrix =
      rw (append_assoc st.matrix z last) (take_at st.matrix (z ++ last) matrix_entries r.entries) in
      λ i. record { pages = pages i; target = st.target; tolerance = tolerance i; form = form i; matrix = matrix i }

  settings_with : settings_ok (front ++ last) st.pages ≡ true
  unfolding settings_ok two_at
  settings_with =
      let s = front ++ last in
      let n = r.entries in
      let long : length front ≡ capacity = omega (arith, length-append st.matrix z) in
      let at : (i : ℕ) → get_or s (capacity + i) 0 ≡ get_or last i 0 = λ i. get_d_past front last capacity i long in
      let pages : two_at s 0 ≡ st.pages = ap (λ (c : Config). c.pages) config_with in
      let range : in_range (config_on s) ≡ true = ap in_range config_with ∙ ok in
      let rest : take (capacity - settings_size) (drop settings_size s) ≡ z = part st.matrix z last matrix_entries (capacity - settings_size) n many in
      rw (range, pages, eq-eqb st.pages st.pages refl, zeros 8, rest, none, at 0, at 1, at 2, at 3, drop_past front last capacity 4 long, zeros 12)

pub settings_ok_lem : (st : Config) → in_range st ≡ true → settings_ok (settings_page st) st.pages ≡ true
settings_ok_lem st ok =
    settings_with st ok (replicate (capacity - settings_size) 0) (length-replicate {A = ℕ} (capacity - settings_size) 0) (zeros (capacity - settings_size))

-- ── a free page ──

pub free_fits_lem : (pages p : ℕ) → (p ≡ 1 → ⊥) → page_fits pages p (replicate page_size 0) ≡ true
unfolding trailer_fits free_fits
free_fits_lem pages p h = rw (zeros page_size, ne_eqb p 1 h, zeros 16)

-- ── a record's page ──

not_four : (b : Bool) → eqb (cond b 1 2) 4 ≡ false
not_four true = refl
not_four false = refl

-- A record has at least a header.
least : (r : Row) → 6 ≤ record_size r
least nil = omega arith
least (agg h cs rest) = omega arith
least (lit h c rest) = omega arith
least (rec p s r rest) = omega arith

-- A record without a helper starts with its root's kind.
pub root_kind : (r : Row) (s t : List ℕ) → lone r ≡ true → get_or (record_bytes r ++ s ++ t) 0 0 ≡ cond (is_agg r) 1 2
root_kind nil s t e = absurd (false≢true e)
root_kind (agg h cs rest) s t e = rw e
root_kind (lit h c rest) s t e = rw e
root_kind (rec p b r rest) s t e = absurd (false≢true e)

module _ (h : Held) (f : record_size h.row ≤ capacity) where
  abbrev ending : List ℕ
  ending = trailer 1 (cond h.settled 1 0) (record_size h.row) h.holder

  trailer_page : trailer_of (record_page h) ≡ ending
  trailer_page =
      let free : List ℕ = replicate (capacity - record_size h.row) 0 in
      let long : length (record_bytes h.row ++ free) ≡ capacity = simp (length-append, length-replicate, length_record) (omega arith) in
      drop_past (record_bytes h.row ++ free) ending capacity 0 long

  pub record_used : is_free (trailer_of (record_page h)) ≡ false
  record_used = ap is_free trailer_page

  module _ (l : h.holder < 65536) where
    holder_page : back_at (record_page h) 0 ≡ h.holder
    unfolding two_at
    holder_page = rw (in_trailer h f 4, in_trailer h f 5) (two_bytes h.holder l)

    -- it keeps the rules by itself
    pub record_fits_lem : (pages : ℕ) → settled_fits h.page (cond h.settled 1 0) ≡ true → back_fits pages h.page h.holder ≡ true
        → page_fits pages h.page (record_page h) ≡ true
    unfolding trailer_fits record_trailer free_fits two_at
    record_fits_lem pages s b =
        let n = record_size h.row in
        rw (trailer_page, s, two_bytes n (omega arith), le-leb 6 n (least h.row), le-leb n capacity f, two_bytes h.holder l, b, zeros 10)

  -- the bytes past the length used
  tail_page : all_zero (take (capacity - record_size h.row) (drop (record_size h.row) (record_page h))) ≡ true
  tail_page =
      let n = record_size h.row in
      let free : List ℕ = replicate (capacity - n) 0 in
      rw (part (record_bytes h.row) free ending n (capacity - n) (length_record h.row) (length-replicate (capacity - n) 0)) (zeros (capacity - n))

-- ── the page in the image ──

module _ (img : List ℕ) (p : ℕ) (h : Held) (f : RecordFits h.settled h.row) (e : page_of img p ≡ record_page h) where
  pub on_page : (i j : ℕ) → j ≡ page_size * p + i → i < page_size → get_or img j 0 ≡ get_or (record_page h) i 0
  on_page i j a b = rw (a, ← e, get_or-take page_size (drop (page_size * p) img) i 0 b, get_or-drop (page_size * p) img i 0)

  two_on_page : (i j : ℕ) → j ≡ page_size * p + i → i + 1 < page_size → two_at img j ≡ two_at (record_page h) i
  unfolding two_at
  two_on_page i j a b = rw (on_page i j a (omega arith), on_page (i + 1) (j + 1) (omega arith) (omega arith))

  pub record_of_lem : record_of img p ≡ record_bytes h.row
  record_of_lem =
      rw (
        two_on_page (capacity + 2) (page_size * p + (capacity + 2)) refl (omega arith),
        used_page h f.fits,
        ← take-take (record_size h.row) page_size (drop (page_size * p) img) (omega (arith, f.fits)),
        e,
      ) (take_page h f.fits)

  settled_of : eqb (settled_at img (page_size * p)) 1 ≡ h.settled
  settled_of = rw (on_page (capacity + 1) (page_size * p + (capacity + 1)) refl (omega arith)) (settled_page h f.fits)

  -- the zeros past the length used
  pub tail_of : tail_zero img p ≡ true
  unfolding tail_zero
  tail_of =
      rw (
        two_on_page (capacity + 2) (page_size * p + (capacity + 2)) refl (omega arith),
        used_page h f.fits,
        tail_part img p (record_size h.row) f.fits,
        e,
      ) (tail_page h f.fits)

  root_fits_lem : root_fits img p ≡ true
  unfolding root_fits
  root_fits_lem = rw (settled_of, on_page 0 (page_size * p) (omega arith) (omega arith)) (go h.settled f.shape)
    where
      go : (b : Bool) → Shape b h.row → cond b (not (eqb (get_or (record_page h) 0 0) 4)) true ≡ true
      go true s = rw (root_kind h.row _ _ (settled_lone h.row s), not_four (is_agg h.row))
      go false s = refl

  module _ (few : 2 ≤ p) (many : p < most_pages) (inside : page_size * p + page_size ≤ length img) (l : h.holder < 65536) where
    names_of_lem : names_of img p h.holder ≡ true
    unfolding names_of
    names_of_lem =
        rw (
          le-leb 2 p few,
          lt-ltb p most_pages many,
          le-leb (page_size * p + page_size) (length img) inside,
          on_page capacity (page_size * p + capacity) refl (omega arith),
          in_trailer h f.fits 0,
          two_on_page (capacity + 2) (page_size * p + (capacity + 2)) refl (omega arith),
          used_page h f.fits,
          le-leb (record_size h.row) capacity f.fits,
          two_on_page (capacity + 4) (page_size * p + (capacity + 4)) refl (omega arith),
          holder_page h f.fits l,
          eq-eqb h.holder h.holder refl,
        )

    -- the walk goes on in the record
    pub proxy_of_lem : (level : ℕ) (w : State) → 2 ≤ w.left → is_marked w.marks p ≡ false
        → proxy_of img p h.holder level w ≡ as_rec p h.settled (node_of img (record_bytes h.row) p 0 level (with_mark w p))
    unfolding proxy_step enters_of
    proxy_of_lem level w a m = rw (names_of_lem, root_fits_lem, le-leb 2 w.left a, m, tail_of, settled_of, record_of_lem)
