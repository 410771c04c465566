-- No place is listed two times: a row's own places stand in its record one after another, and each page has one record.
use Rattle.std.specs.Prelude.{◌≡◌, refl, Bool, true, false, cond, List, [], ◌∷◌, ◌++◌, ℕ, ◌+◌, ◌≤◌, length, ltb, eqb}
use Rattle.std.proofs.Common.{arith, ltb-true, ltb-false, eqb-true}
use Rattle.model.specs.Row.{Row, nil, agg, lit, rec, size, base, count, Config}
use Rattle.model.specs.Tree.{same_place, places}
use Rattle.model.specs.declared.Place.{Place}
use Rattle.theory_rows.specs.Fits.{Valid}
use Rattle.theory_rows.specs.Image.{once}

module _ (x : Place) where
  -- How often x is in a list.
  abbrev pub tally : List Place → ℕ
  tally [] = 0
  tally (y ∷ ys) = cond (same_place x y) 1 0 + tally ys

  tally-++ : (a b : List Place) → tally (a ++ b) ≡ tally a + tally b
  tally-++ [] b = omega arith
  tally-++ (y ∷ a) b = rw (tally-++ a b) (omega arith)

  -- 1 if x is before byte `at` of the page: places from byte a up to b have x at most `before b - before a` times.
  abbrev before : (page at : ℕ) → ℕ
  before page at = cond (eqb x.page page) (cond (ltb x.offset at) 1 0) 0

  before_one : (page at : ℕ) → before page at ≤ cond (eqb x.page page) 1 0
  before_one page at = go (eqb x.page page) (ltb x.offset at)
    where
      go : (b c : Bool) → cond b (cond c 1 0) 0 ≤ cond b 1 0
      go true true = omega arith
      go true false = omega arith
      go false c = omega arith

  before_later : (page a b : ℕ) → a ≤ b → before page a ≤ before page b
  before_later page a b h = go (eqb x.page page) (ltb x.offset a) (ltb x.offset b) refl refl
    where
      go : (e c d : Bool) → ltb x.offset a ≡ c → ltb x.offset b ≡ d → cond e (cond c 1 0) 0 ≤ cond e (cond d 1 0) 0
      go true true true p q = omega arith
      go true true false p q = omega (arith, ltb-true, ltb-false)
      go true false d p q = omega arith
      go false c d p q = omega arith

  before_next : (page at n : ℕ) → 1 ≤ n → cond (same_place x (record { page = page; offset = at })) 1 0 + before page at ≤ before page (at + n)
  before_next page at n h = go (eqb x.page page) (eqb x.offset at) (ltb x.offset at) (ltb x.offset (at + n)) refl refl refl
    where
      go : (e f c d : Bool) → eqb x.offset at ≡ f → ltb x.offset at ≡ c → ltb x.offset (at + n) ≡ d
          → cond (cond e f false) 1 0 + cond e (cond c 1 0) 0 ≤ cond e (cond d 1 0) 0
      go false f c d o p q = omega arith
      go true true true d o p q = absurd (omega (arith, eqb-true, ltb-true))
      go true true false true o p q = omega arith
      go true true false false o p q = absurd (omega (arith, eqb-true, ltb-false))
      go true false true true o p q = omega arith
      go true false true false o p q = absurd (omega (arith, ltb-true, ltb-false))
      go true false false d o p q = omega arith

  -- A row's own places are before its end and not before its start; the others are on pages that it names.
  tally_places : (page at : ℕ) (row : Row) → tally (places page at row) + before page at ≤ before page (at + size row) + count x.page row
  tally_places page at nil = omega (arith, before_later page at (at + 0) (omega arith))
  tally_places page at (agg h cs rest) =
      let joined = tally-++ (places page (at + 6) cs) (places page (at + 6 + size cs) rest) in
      let last = before_later page (at + 6 + size cs + size rest) (at + (6 + size cs + size rest)) (omega arith) in
      omega (arith, joined, before_next page at 6 (omega arith), tally_places page (at + 6) cs, tally_places page (at + 6 + size cs) rest, last)
  tally_places page at (lit h c rest) =
      let next = before_next page at (6 + length c) (omega arith) in
      let on = before_later page (at + (6 + length c)) (at + 6 + length c) (omega arith) in
      let last = before_later page (at + 6 + length c + size rest) (at + (6 + length c + size rest)) (omega arith) in
      omega (arith, next, on, tally_places page (at + 6 + length c) rest, last)
  tally_places page at (rec p s r rest) =
      let joined = tally-++ (places p (base r) r) (places page (at + 8) rest) in
      let on = before_later page at (at + 8) (omega arith) in
      let last = before_later page (at + 8 + size rest) (at + (8 + size rest)) (omega arith) in
      omega (arith, joined, tally_places p (base r) r, before_one p (base r + size r), on, tally_places page (at + 8) rest, last)

pub distinct_places : (st : Config) (root : Row) → Valid st root → (x : Place) → tally x (places 1 0 root) ≤ 1
distinct_places st root v x = omega (arith, tally_places x 1 0 root, before_one x 1 (0 + size root), once st root v x.page)
