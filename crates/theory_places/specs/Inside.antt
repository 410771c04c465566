-- A place is on a page of the image, and a header fits there.
use Rattle.std.specs.Prelude.{◌≡◌, refl, Bool, true, false, cond, ◌||◌, leb, ltb}
use Rattle.std.proofs.Common.{subst, arith, leb-false, eq-eqb}
use mathlib.Core.List.{List, [], ◌∷◌}
use Rattle.std.proofs.Math.Option.{Option, some, some-injective, none-ne-some}
use Prim.Native.Nat.{ℕ, zero, suc, ◌+◌, ◌-◌, ◌≤◌, ◌<◌}
use Rattle.std.proofs.Math.ListN.{length}
use Rattle.model.specs.Limits.{capacity}
use Rattle.model.specs.Row.{Row, nil, agg, lit, rec, size, base, count, outside, Config}
use Rattle.model.specs.Tree.{width, place_at, place_of}
use Rattle.model.specs.declared.Place.{Place}
use Rattle.theory_rows.specs.Fits.{Fits, Placed, Valid}
use Rattle.theory_rows.specs.Laws.{cond_case}

-- Pages are numbered from 1 on, page 0 being the settings; a record has at most 4,080 bytes, and a header 6.
pub record Inside (st : Config) (x : Place) : Type 0 where
  pub low : 1 ≤ x.page
  pub high : x.page < st.pages
  pub fits : x.offset + 6 ≤ capacity

-- a page that a proxy names
pub named_page : (pages p n : ℕ) → 1 + n ≤ cond (outside pages p) 0 1 → (1 ≤ p) × (p < pages)
named_page pages p n h = go (leb p 1) (leb pages p) refl refl h
  where
    go : (b c : Bool) → leb p 1 ≡ b → leb pages p ≡ c → 1 + n ≤ cond (b || c) 0 1 → (1 ≤ p) × (p < pages)
    go true c d e h = absurd (omega arith)
    go false true d e h = absurd (omega arith)
    go false false d e h = omega (arith, leb-false)

module _ (st : Config) (x : Place) where
  here : (page at : ℕ) → 1 ≤ page → page < st.pages → at + 6 ≤ capacity → some (record { page = page; offset = at }) ≡ some x → Inside st x
  here page at low high f e =
      subst (Inside st) (some-injective (record { page = page; offset = at }) x e) (record { low = low; high = high; fits = f })

  inside_at : (page at i : ℕ) (path : List ℕ) (row : Row) → 1 ≤ page → page < st.pages → at + size row ≤ capacity → Fits row → Placed st.pages row
      → place_at page at i path row ≡ some x → Inside st x
  unfolding place_at
  inside_at page at i path nil low high n f d e = absurd (none-ne-some x e)
  inside_at page at zero [] (agg h cs rest) low high n f d e = here page at low high (omega arith) e
  inside_at page at zero (j ∷ path) (agg h cs rest) low high n f d e =
      inside_at page (at + 6) j path cs low high (omega arith) f.1 (λ q. omega (arith, d q)) e
  inside_at page at (suc i) path (agg h cs rest) low high n f d e =
      inside_at page (at + 6 + size cs) i path rest low high (omega arith) f.2 (λ q. omega (arith, d q)) e
  inside_at page at zero [] (lit h c rest) low high n f d e = here page at low high (omega arith) e
  inside_at page at zero (j ∷ path) (lit h c rest) low high n f d e = absurd (none-ne-some x e)
  inside_at page at (suc i) path (lit h c rest) low high n f d e =
      inside_at page (at + 6 + length c) i path rest low high (omega arith) f.3 d e
  inside_at page at i path (rec p s r rest) low high n f d e =
      let range = named_page st.pages p (count p r + count p rest) (omega (arith, rw (eq-eqb p p refl) at (d p))) in
      cond_case (λ (o : Option Place). o ≡ some x → Inside st x) (ltb i (width r))
      (λ _. inside_at p (base r) i path r range.0 range.1 f.0.fits f.1 (λ q. omega (arith, d q)))
      (λ _. inside_at page (at + 8) (i - width r) path rest low high (omega arith) f.2 (λ q. omega (arith, d q))) e

pub place_inside : (st : Config) (root : Row) → Valid st root → (path : List ℕ) (x : Place) → place_of root path ≡ some x → Inside st x
place_inside st root v path x e =
    inside_at st x 1 0 0 path root (omega arith) (omega (arith, v.ranges.few)) (omega (arith, v.rows.0.fits)) v.rows.1 v.placed e
