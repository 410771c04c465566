-- The check is sound: an image that passes reads as a store.
use Rattle.std.specs.Prelude.{◌≡◌, refl, List, Bool, true, false, cond, not, ◌||◌, ℕ, ◌+◌, ◌-◌, ◌*◌, ◌%◌, ◌≤◌, ◌<◌, length, get_or, replicate, eqb, leb, ltb}
use Rattle.std.proofs.Math.Path.{sym}
use Rattle.std.proofs.Common.{ap, ◌∙◌, true≢false, arith}
use Rattle.std.proofs.Math.Bool.{and-false}
use borrow.Author.Tests.{eqb-true, ne_eqb, leb-false, lt-ltb, le-ltb}
use Rattle.model.specs.Limits.{most_pages, page_size, capacity, mark_bytes}
use Rattle.model.specs.Row.{Row, store, Config, count, outside, record_page, standing, may_stand, record_on}
use Rattle.model.specs.Reading.{Reads, length_ok, config_on, page_of, back_at, settled_at}
use Rattle.model.specs.BeforeWalk.{trailer_of, is_free, page_count, before_walk}
use Rattle.model.specs.Claims.{PagesKeep}
use Rattle.theory_rows.specs.Fits.{Fits, Placed, Valid}
use Rattle.theory_rows.specs.Image.{placed_once}
use Rattle.theory_decoding.specs.Valid as valid
use Rattle.theory_decoding.specs.Valid.{valid_holds}
use Rattle.theory_decoding.specs.Length.{length_says}
use Rattle.theory_check.specs.Facts.{bit_low, not_else}
use Rattle.model.specs.WalkTests.{tail_zero, record_of}
use Rattle.theory_check.specs.Tests.{is_marked}
use Rattle.theory_check.specs.Walk.{State, state, node}
use Rattle.theory_check.specs.Check.{in_use, trailers_of, walk_of, walk_ok, check_by}
use Rattle.theory_check.specs.Before.{before_says, first_used, used_fits_lem, trailers_are}
use Rattle.theory_check.specs.Marks.{marks_none, none_marked}
use Rattle.theory_check.specs.Heads.{AllBytes}
use Rattle.theory_check.specs.Trailers.{TrailerIs, trailer_says, blank_page, SettingsIs, settings_say}
use Rattle.theory_check.specs.Passes.{Passes, passes, record_bytes_lem}
use Rattle.theory_check.specs.Rows.{node_is, first_byte, record_fits_lem, fits, levels}
use Rattle.theory_check.specs.Parts.{page_bytes_lem, page_long, page_byte, page_two, page_record}
use Rattle.theory_check.specs.Sums.{sum, sum_add, only, sum_only, sum_tight}
use Rattle.theory_check.specs.Reached.{bit, marks, has_record, others, left, stored}
use Rattle.theory_check.specs.Images.{image_is}

-- ── what the check says ──

record Checked (img : List ℕ) : Type 0 where
  whole : length img % page_size ≡ 0
  few : 2 ≤ page_count img
  many : page_count img ≤ most_pages
  passed : before_walk img ≡ true
  tail : tail_zero img 1 ≡ true
  top : get_or img page_size 0 ≡ 1
  ended : (walk_of img (trailers_of img)).walk.left ≡ 1

check_says : (img : List ℕ) → check_by img ≡ 0 → Checked img
unfolding check_by walk_ok
check_says img e =
    let n = length img in
    let k = trailers_of img in
    let length-ok = not_else (length_ok n) (λ z. omega arith) e in
    let before-ok = not_else (before_walk img) (λ z. omega arith) length-ok.1 in
    let walk-ok = valid.both _ _ (not_else (walk_ok img k) (λ z. omega arith) before-ok.1).0 in
    let front = valid.both _ _ walk-ok.0 in
    let long = length_says n length-ok.0 in
    record {
      whole = long.whole;
      few = long.few;
      many = long.many;
      passed = before-ok.0;
      tail = front.1;
      top = eqb-true (get_or img page_size 0) 1 front.0;
      ended = eqb-true (walk_of img k).walk.left 1 walk-ok.1;
    }

-- ── the store ──

-- its settings, as page 0 has them
abbrev st : List ℕ → Config
st img = config_on (page_of img 0)

module _ (img : List ℕ) (bytes : AllBytes img) (c : Checked img) (root : Row) (v : State)
    (p : Passes img (node (record_of img 1) 1 0 1 (state (trailers_of img) (replicate mark_bytes 0))) root v) (ended : v.left ≡ 1) where
  abbrev pages : ℕ
  pages = page_count img

  keep : PagesKeep img
  keep = before_says img c.passed

  inside : (q : ℕ) → q < pages → page_size * q + page_size ≤ length img
  inside q h = omega arith

  settings : SettingsIs (page_of img 0) pages
  settings =
      settings_say (page_of img 0) pages (page_bytes_lem img 0 bytes) (page_long img 0 (inside 0 (omega (arith, c.few)))) keep.settings

  -- page 1 is in use
  one_used : is_free (trailer_of (page_of img 1)) ≡ false
  one_used = first_used img c.few c.passed

  first : TrailerIs pages 1 (page_of img 1)
  first = trailer_says pages 1 (page_of img 1) (keep.trailers 1 (omega arith) (omega (arith, c.few))) one_used

  -- a page that is free is not named
  unnamed : (q : ℕ) → has_record img q ≡ false → count q root ≡ 0
  unnamed = others img p

  -- no page is named twice, and none outside
  placed : Placed pages root
  placed q = go (leb q 1) (leb pages q) refl refl
    where
      go : (a b : Bool) → leb q 1 ≡ a → leb pages q ≡ b → count q root ≤ cond (a || b) 0 1
      go true b d e = omega (arith, unnamed q (rw d))
      go false true d e = omega (arith, unnamed q (rw (d, e)))
      go false false d e =
          omega (arith, (marks p marks_none).once q (omega (arith, leb-false pages q e, c.many)), bit_low (is_marked v.marks q))

  -- so each is named no more often than it is in use,
  named_low : (q : ℕ) → count q (store root) ≤ in_use img q
  named_low q = go (is_free (trailer_of (page_of img q))) refl
    where
      go : (b : Bool) → is_free (trailer_of (page_of img q)) ≡ b → count q (store root) ≤ cond b 0 1
      go true e =
          let other : eqb q 1 ≡ false =
          ne_eqb q 1 (λ d. true≢false (sym e ∙ ap (λ (n : ℕ). is_free (trailer_of (page_of img n))) d ∙ one_used)) in
          rw other (omega (arith, unnamed q (rw e (and-false (not (outside pages q))))))
      go false e = placed_once pages root placed q

  -- and as there are as many names as pages in use, every page in use is named.
  reached : (q : ℕ) → 1 ≤ q → q < pages → in_use img q ≤ count q (store root)
  reached q a b =
      let k = pages - 1 in
      let found : trailers_of img ≡ sum (in_use img) k 1 = trailers_are img c.passed in
      let all : sum (in_use img) k 1 ≤ sum (λ q. count q (store root)) k 1 =
      omega (
        arith,
        found,
        left img p,
        sum_add (λ q. only 1 q + count q root) (λ q. 0) k 1,
        sum_add (only 1) (λ q. count q root) k 1,
        sum_only 1 k 1 (omega arith) (omega (arith, c.few)),
      ) in
      sum_tight (λ q. count q (store root)) (in_use img) named_low k 1 all q a (omega arith)

  -- A page that is not named is zero.
  free : (q : ℕ) → 1 ≤ q → q < pages → count q (store root) ≡ 0 → page_of img q ≡ replicate page_size 0
  free q a b z = go (is_free (trailer_of (page_of img q))) refl (reached q a b)
    where
      go : (t : Bool) → is_free (trailer_of (page_of img q)) ≡ t → cond t 0 1 ≤ count q (store root) → page_of img q ≡ replicate page_size 0
      go true e l = blank_page (page_of img q) (page_long img q (inside q b)) (keep.free q a b e)
      go false e l = absurd (omega arith)

  on_one : page_of img 1 ≡ record_page (record_on 1 true 0 root)
  unfolding may_stand standing
  on_one =
      let settled : settled_at img (page_size * 1) ≡ 1 = sym (page_byte img 1 (capacity + 1) (omega arith)) ∙ eqb-true _ _ first.settled in
      let holder : back_at img (page_size * 1) ≡ 0 = sym (page_two img 1 (capacity + 4) (omega arith)) ∙ eqb-true _ _ first.back in
      let e = page_record img 1 bytes (inside 1 (omega (arith, c.few))) pages first c.tail 0 holder root ((node_is p).root refl) in
      rw settled at e

  rows : Fits (store root)
  rows =
      let used = used_fits_lem img 1 c.passed (omega arith) (omega (arith, c.few)) one_used in
      (record_fits_lem img 1 root (node_is p) used true (λ _ e. omega (arith, c.top)), fits p, tt)

  is_valid : Valid (st img) root
  is_valid = record {
    ranges = settings.ranges;
    rows = rows;
    top = (node_is p).top (first_byte img 1 (node_is p).long ∙ c.top);
    levels = levels p;
    placed = λ q. rw settings.pages (placed q);
  }

  is_read : Reads img (st img) root
  is_read = record {
    passes = valid_holds (st img) root is_valid;
    same =
        let n = settings.pages in
        image_is img (st img) root (omega (arith, c.few)) (omega (arith, c.whole)) settings.same
        (on_one, stored img bytes keep.trailers p, tt) (λ q a b. free q a (omega arith));
  }

-- What it reads as: the walk's row, with the settings of page 0.
pub sound_row : (img : List ℕ) → ((i : ℕ) → get_or img i 0 < 256) → check_by img ≡ 0 → Reads img (config_on (page_of img 0)) (walk_of img (trailers_of img)).row
unfolding walk_of
sound_row img bytes e =
    let c = check_says img e in
    let j = node (record_of img 1) 1 0 1 (state (trailers_of img) (replicate mark_bytes 0)) in
    let p = passes img bytes j (record_bytes_lem img bytes 1) (λ z. omega (arith, c.ended)) in
    is_read img bytes c _ _ p c.ended

-- Its marks are those of the pages that the row names.
pub sound_marks : (img : List ℕ) → ((i : ℕ) → get_or img i 0 < 256) → check_by img ≡ 0 → (q : ℕ) → q < most_pages
    → is_marked (walk_of img (trailers_of img)).walk.marks q ≡ ltb 0 (count q (walk_of img (trailers_of img)).row)
unfolding walk_of
sound_marks img bytes e q h =
    let c = check_says img e in
    let j = node (record_of img 1) 1 0 1 (state (trailers_of img) (replicate mark_bytes 0)) in
    let p = passes img bytes j (record_bytes_lem img bytes 1) (λ z. omega (arith, c.ended)) in
    named _ _ (rw (none_marked q) at ((marks p marks_none).once q h))
  where
    named : (b : Bool) (n : ℕ) → 0 + n ≡ bit b → b ≡ ltb 0 n
    named true n e = sym (lt-ltb 0 n (omega arith))
    named false n e = sym (le-ltb 0 n (omega arith))

pub sound : (img : List ℕ) → ((i : ℕ) → get_or img i 0 < 256) → check_by img ≡ 0 → (s : Config × Row) × Reads img s.0 s.1
sound img bytes e = ((st img, (walk_of img (trailers_of img)).row), sound_row img bytes e)
