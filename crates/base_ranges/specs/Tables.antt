-- The size of a table that has an entry for each page of an image.
use Rattle.std.specs.Prelude.{◌≡◌, refl, Bool, true, false, cond, List, ℕ, zero, suc, ◌*◌, ◌≤◌, get_or, replicate, leb}
use Rattle.std.proofs.Common.{arith, leb-true}
use Rattle.model.specs.Limits.{most_pages, page_size}
use Rattle.model.specs.Reading.{length_ok}
use Rattle.theory_decoding.specs.Length.{length_says}
use Rattle.base_ranges.specs.declared.Tables.{Tables}
use Rattle.base_ranges.specs.declared.Tables.TheVariants.{Few, Many}

-- The entries of a small one.
abbrev pub few_pages : ℕ
few_pages = 64

abbrev pub entries : Tables → ℕ
entries Few = few_pages
entries Many = most_pages

-- The size for an image of so many bytes.
abbrev pub takes_few : ℕ → Bool
takes_few n = leb n (page_size * few_pages)

unfoldable pub tables_for : ℕ → Tables
tables_for n = cond (takes_few n) Few Many

-- It is enough for an image of an allowed length.
pub tables_fit : (n : ℕ) (t : Tables) → t ≡ tables_for n → length_ok n ≡ true → n ≤ page_size * entries t
unfolding tables_for
tables_fit n t e ok = rw e (go (takes_few n) refl)
  where
    go : (b : Bool) → takes_few n ≡ b → n ≤ page_size * entries (cond b Few Many)
    go true q = omega (arith, leb-true n _ q)
    go false q = let l = length_says n ok in omega (arith, l.whole, l.many)

-- A table that has 0 for each page, as a new one has.
abbrev pub Zeros : List ℕ → Type 0
Zeros c = (q : ℕ) → get_or c q 0 ≡ 0

pub zeros : (n : ℕ) → Zeros (replicate n 0)
zeros zero q = refl
zeros (suc n) zero = refl
zeros (suc n) (suc q) = zeros n q
