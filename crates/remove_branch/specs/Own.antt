-- The records whose proxies stand in a row itself, in the row's order, and what a list of records names.
use Rattle.std.specs.Prelude.{◌≡◌, refl, List, [], ◌∷◌, ◌++◌, map, ℕ, ◌+◌, ◌≤◌, length, eqb}
use Rattle.std.proofs.Common.{ap₂, ◌∙◌, arith}
use Rattle.std.proofs.lemmas.List.{map-append}
use Rattle.model.specs.Limits.{capacity}
use Rattle.model.specs.Row.{Row, nil, agg, lit, rec, record_size, Held, record_on, record_page, count}
use Rattle.theory_rows.specs.Fits.{Fits}
use Rattle.theory_rows.specs.Image.{Stored}
use Rattle.theory_rows.specs.Pages.{bit}
use Rattle.theory_decoding.specs.Steps.{record_count}
use Rattle.theory_page_memory.specs.Memory.{Mem}

-- The pages that a row names itself.
abbrev pub names : Row → List ℕ
names nil = []
names (agg h cs rest) = names cs ++ names rest
names (lit h c rest) = names rest
names (rec p s r rest) = p ∷ names rest

-- The records on them; `holder` is the page of the row's own record.
abbrev pub own : (holder : ℕ) → Row → List Held
own h nil = []
own h (agg l cs rest) = own h cs ++ own h rest
own h (lit l c rest) = own h rest
own h (rec p s r rest) = record_on p s h r ∷ own h rest

abbrev pub pages : List Held → List ℕ
pages = map (λ (h : Held). h.page)

pub pages_own : (h : ℕ) (row : Row) → pages (own h row) ≡ names row
pages_own h nil = refl
pages_own h (agg l cs rest) = map-append (λ (h : Held). h.page) (own h cs) (own h rest) ∙ ap₂ (λ (a b : List ℕ). a ++ b) (pages_own h cs) (pages_own h rest)
pages_own h (lit l c rest) = pages_own h rest
pages_own h (rec p s r rest) = ap₂ (λ (a : ℕ) (b : List ℕ). a ∷ b) refl (pages_own h rest)

-- ── sums over records ──

abbrev pub total : (Held → ℕ) → List Held → ℕ
total f [] = 0
total f (h ∷ hs) = f h + total f hs

pub total-++ : (f : Held → ℕ) (a b : List Held) → total f (a ++ b) ≡ total f a + total f b
total-++ f [] b = omega arith
total-++ f (h ∷ a) b = omega (arith, total-++ f a b)

-- How often a record is on the page or names it, itself or further down.
abbrev pub has : (q : ℕ) → Held → ℕ
has q h = bit (eqb q h.page) + count q h.row

-- The record and those below it.
abbrev pub weight : Held → ℕ
weight h = 1 + record_count h.row

pub has_own : (q h : ℕ) (row : Row) → total (has q) (own h row) ≡ count q row
has_own q h nil = refl
has_own q h (agg l cs rest) = omega (arith, total-++ (has q) (own h cs) (own h rest), has_own q h cs, has_own q h rest)
has_own q h (lit l c rest) = has_own q h rest
has_own q h (rec p s r rest) = omega (arith, has_own q h rest)

pub weight_own : (h : ℕ) (row : Row) → total weight (own h row) ≡ record_count row
weight_own h nil = refl
weight_own h (agg l cs rest) = omega (arith, total-++ weight (own h cs) (own h rest), weight_own h cs, weight_own h rest)
weight_own h (lit l c rest) = weight_own h rest
weight_own h (rec p s r rest) = omega (arith, weight_own h rest)

pub length_weight : (hs : List Held) → length hs ≤ total weight hs
length_weight [] = omega arith
length_weight (h ∷ hs) = omega (arith, length_weight hs)

-- ── records that stand ──

-- The record stands on its page of a memory, and so do those below it.
pub record Stands (m : Mem) (h : Held) : Type 0 where
  pub is : m h.page ≡ record_page h
  pub small : record_size h.row ≤ capacity
  pub fits : Fits h.row
  pub stored : Stored m h.page h.row

abbrev pub AllStand : Mem → List Held → Type 0
AllStand m [] = Unit {0}
AllStand m (h ∷ hs) = Stands m h × AllStand m hs

pub stand-++ : (m : Mem) (a b : List Held) → AllStand m a → AllStand m b → AllStand m (a ++ b)
stand-++ m [] b k l = l
stand-++ m (h ∷ a) b k l = (k.0, stand-++ m a b k.1 l)

pub own_stand : (m : Mem) (h : ℕ) (row : Row) → Fits row → Stored m h row → AllStand m (own h row)
own_stand m h nil f k = tt
own_stand m h (agg l cs rest) f k = stand-++ m (own h cs) (own h rest) (own_stand m h cs f.1 k.0) (own_stand m h rest f.2 k.1)
own_stand m h (lit l c rest) f k = own_stand m h rest f.3 k
own_stand m h (rec p s r rest) f k =
    (record { is = k.0; small = f.0.fits; fits = f.1; stored = k.1 }, own_stand m h rest f.2 k.2)
