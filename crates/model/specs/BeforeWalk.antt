-- The part of the check before the walk: what page 0, one trailer and one free page must be, each taken by itself, whatever bytes the records hold.
-- Left to the walk, since they speak of a record or of two pages: that the length used is the root's size, the zeros past it, that a settled root is no
-- helper, and that the back link names the record with the proxy.
use Rattle.std.specs.Prelude.{Bool, true, cond, not, ◌&&◌, List, ℕ, zero, suc, ◌+◌, ◌-◌, ◌/◌, length, get_or, take, drop, leb, ltb, eqb}
use Rattle.model.specs.Limits.{page_size, capacity, settings_size}
use Rattle.model.specs.Row.{every, in_range}
use Rattle.model.specs.Reading.{two_at, used_at, config_on, page_of}

unfoldable pub all_zero : List ℕ → Bool
all_zero s = every (λ x. eqb x 0) s

-- Page 0, whole, of an image of so many pages. Its trailer begins with 2 and 0: settings, not settled.
unfoldable pub settings_ok : (page : List ℕ) → (pages : ℕ) → Bool
settings_ok s pages =
    let numbers = eqb (two_at s 0) pages && in_range (config_on s) && eqb (get_or s 3 0) 0 && all_zero (take 8 (drop 8 s)) in
    let trailer = eqb (two_at s capacity) 2 && eqb (used_at s 0) settings_size && all_zero (take 12 (drop (capacity + 4) s)) in
    numbers && all_zero (take (capacity - settings_size) (drop settings_size s)) && trailer

-- ── one trailer: the 16 bytes t that end page p, from page 1 on ──

abbrev pub trailer_of : (page : List ℕ) → List ℕ
trailer_of s = drop capacity s

-- Byte 0 says that the page is free.
abbrev pub is_free : (t : List ℕ) → Bool
is_free t = eqb (get_or t 0 0) 0

-- The settled byte: on page 1 it is 1, elsewhere 0 or 1.
abbrev pub settled_fits : (p settled : ℕ) → Bool
settled_fits p n = cond (eqb p 1) (eqb n 1) (leb n 1)

-- The length used: from 6, since a root has at least its header, to 4,080.
abbrev pub used_fits : (used : ℕ) → Bool
used_fits n = leb 6 n && leb n capacity

-- The back link: 0 on page 1, elsewhere a page of the image other than 0 and page p itself.
abbrev pub back_fits : (pages p back : ℕ) → Bool
back_fits pages p n = cond (eqb p 1) (eqb n 0) (leb 1 n && ltb n pages && not (eqb n p))

-- A record's trailer, in an image of so many pages.
unfoldable pub record_trailer : (pages p : ℕ) → (t : List ℕ) → Bool
record_trailer pages p t =
    eqb (get_or t 0 0) 1 && settled_fits p (get_or t 1 0) && used_fits (two_at t 2) && back_fits pages p (two_at t 4) && all_zero (drop 6 t)

-- Free, except on page 1, or a record's.
unfoldable pub trailer_fits : (pages p : ℕ) → (t : List ℕ) → Bool
trailer_fits pages p t = cond (is_free t) (not (eqb p 1) && all_zero t) (record_trailer pages p t)

-- ── one free page ──

-- A page is all zero if its trailer says that it is free.
unfoldable pub free_fits : (page : List ℕ) → Bool
free_fits s = cond (is_free (trailer_of s)) (all_zero s) true

-- ── the part before the walk: page 0, then page by page ──

abbrev pub page_fits : (pages p : ℕ) → (page : List ℕ) → Bool
page_fits pages p s = trailer_fits pages p (trailer_of s) && free_fits s

-- The k pages from p on.
unfoldable pub pages_fit : (img : List ℕ) → (pages k p : ℕ) → Bool
pages_fit img pages zero p = true
pages_fit img pages (suc k) p = page_fits pages p (page_of img p) && pages_fit img pages k (suc p)

abbrev pub page_count : (img : List ℕ) → ℕ
page_count img = length img / page_size

unfoldable pub before_walk : (img : List ℕ) → Bool
before_walk img = settings_ok (page_of img 0) (page_count img) && pages_fit img (page_count img) (page_count img - 1) 1
