-- The pages in use by a store from which a node was taken out: those of its branch come free, and that of a helper whose one proxy takes its place.
use Rattle.std.specs.Prelude.{◌≡◌, Bool, true, false, cond, ◌||◌, ℕ, zero, suc, ◌+◌, ◌≤◌, ◌<◌, ltb, eqb}
use Rattle.std.proofs.Common.{sym, ap, ◌∙◌, arith}
use Rattle.model.specs.Row.{Row, rec, count, outside, Config}
use Rattle.model.specs.Tree.{Tree}
use Rattle.model.specs.Spot.{Position, fill, Chain, below, whole, Stand}
use Rattle.model.specs.Removal.{without}
use Rattle.model.specs.Growth.{at_rest}
use Rattle.theory_rows.specs.Fits.{Valid}
use Rattle.theory_rows.specs.Pages.{bit}
use Rattle.theory_growth.specs.Chain.{count_refill, count_chain, beside, along}
use Rattle.theory_removal.specs.Stand.{Leaves, stand_names}
use Rattle.theory_removal.specs.Keeps.{Proxy}

-- `gone` says how often a page is named no more. What says of each page below n whether it is in use, and says of those that they are free, is right again.
pub used_less : (st : Config) (root new : Row) → Valid st root → (gone : ℕ → ℕ) → ((q : ℕ) → count q new + gone q ≡ count q root)
    → (n : ℕ) (used later : ℕ → Bool) → ((q : ℕ) → q < n → used q ≡ (at_rest st root).used q)
    → ((q : ℕ) → q < n → 1 ≤ gone q → later q ≡ false) → ((q : ℕ) → q < n → gone q ≡ 0 → later q ≡ used q)
    → (q : ℕ) → q < n → later q ≡ (at_rest st new).used q
used_less st root new v gone sum n used later right free same q h = go (outside st.pages q) (gone q) (v.placed q) (right q h) (free q h) (same q h) (sum q)
  where
    go : (o : Bool) (g : ℕ) → count q root ≤ cond o 0 1 → used q ≡ (o || ltb 0 (count q root)) → (1 ≤ g → later q ≡ false)
        → (g ≡ 0 → later q ≡ used q) → count q new + g ≡ count q root → later q ≡ (o || ltb 0 (count q new))
    go true zero few r f s k = s (omega arith) ∙ r
    go true (suc g) few r f s k = absurd (omega arith)
    go false zero few r f s k =
        let z : count q root ≡ count q new = omega arith in
        s (omega arith) ∙ r ∙ ap (ltb 0) z
    go false (suc g) few r f s k =
        let z : count q new ≡ 0 = omega arith in
        f (omega arith) ∙ sym (ap (ltb 0) z)

module _ (root : Row) (new : Tree) (t : Stand) (l : Leaves root new t) where
  abbrev left : Row
  left = fill t.position t.rest

  -- The record stays on its page,
  pub names_stays : without t ≡ whole t.chain left → (q : ℕ) → count q (without t) + count q t.node ≡ count q root
  names_stays e q = omega (arith, ap (count q) e, count_chain q t.chain left, stand_names root new t l q)

  -- or its one proxy takes its place.
  pub names_goes : (c : Chain) (s : Position) (p : ℕ) (d : Bool) (rest : Row) (x : Proxy left) → t.chain ≡ below c s p d rest
      → without t ≡ whole c (fill s (rec x.page x.settled x.inside rest)) → (q : ℕ)
      → count q (without t) + (bit (eqb q p) + count q t.node) ≡ count q root
  names_goes c s p d rest x e is q =
      omega (
        arith,
        ap (count q) is,
        count_chain q c (fill s (rec x.page x.settled x.inside rest)),
        count_refill q s rest (rec x.page x.settled x.inside rest),
        ap (count q) x.is,
        stand_names root new t l q,
        ap (λ (c : Chain). beside c q) e,
        ap (λ (c : Chain). along c q) e,
      )
