-- A table of how many nodes the record on each page shows, for those who would pass a record without reading it.
use Rattle.std.specs.Prelude.{◌≡◌, refl, Bool, true, false, List, ℕ, ◌+◌, ◌≤◌, ◌<◌, length, get_or, leb}
use Rattle.std.proofs.Common.{◌∙◌, arith, leb-true, leb-false}
use Rattle.model.specs.Row.{Row, nil, agg, lit, rec, ◌⊹◌, count, Config, size}
use Rattle.model.specs.Tree.{width}
use Rattle.theory_rows.specs.Fits.{Fits, RecordFits}
use Rattle.theory_rows.specs.Shows.{shape_node_count, nodes_shown}
use Rattle.theory_decoding.specs.Valid.{names_own}

-- It is right for each record in a row.
abbrev pub Told : List ℕ → Row → Type 0
Told c nil = Unit {0}
Told c (agg h cs rest) = Told c cs × Told c rest
Told c (lit h b rest) = Told c rest
Told c (rec p s r rest) = (get_or c p 0 ≡ width r) × Told c r × Told c rest

-- The table of a store: an entry for each page, right for all records.
pub record Table (st : Config) (root : Row) (c : List ℕ) : Type 0 where
  pub long : st.pages ≤ length c
  pub told : Told c root

-- A table with the same entries on a row's pages is as right for it.
pub told_same : (a b : List ℕ) (row : Row) → ((q : ℕ) → 1 ≤ count q row → get_or b q 0 ≡ get_or a q 0) → Told a row → Told b row
told_same a b nil e t = tt
told_same a b (agg h cs rest) e t = (told_same a b cs (λ q g. e q (omega arith)) t.0, told_same a b rest (λ q g. e q (omega arith)) t.1)
told_same a b (lit h x rest) e t = told_same a b rest e t
told_same a b (rec p s r rest) e t =
    (e p (names_own p s r rest) ∙ t.0, told_same a b r (λ q g. e q (omega arith)) t.1, told_same a b rest (λ q g. e q (omega arith)) t.2)

-- It is right for a row exactly if it is right for the row's parts.
pub told-⊹ : (u : List ℕ) (a b : Row) → Told u a → Told u b → Told u (a ⊹ b)
told-⊹ u nil b t k = k
told-⊹ u (agg h cs rest) b t k = (t.0, told-⊹ u rest b t.1 k)
told-⊹ u (lit h x rest) b t k = told-⊹ u rest b t k
told-⊹ u (rec p s r rest) b t k = (t.0, t.1, told-⊹ u rest b t.2 k)

pub told_parts : (u : List ℕ) (a b : Row) → Told u (a ⊹ b) → Told u a × Told u b
told_parts u nil b t = (tt, t)
told_parts u (agg h cs rest) b t = let k = told_parts u rest b t.1 in ((t.0, k.0), k.1)
told_parts u (lit h x rest) b t = told_parts u rest b t
told_parts u (rec p s r rest) b t = let k = told_parts u rest b t.2 in ((t.0, t.1, k.0), k.1)

-- ── no record shows nothing ──

-- Each node of a row shows one node or more, and so does a record.
record_shown : (s : Bool) (r : Row) → RecordFits s r → Fits r → 1 ≤ width r
record_shown s r f g = omega (arith, shape_node_count f.shape, nodes_shown r g)

pub some_shown : (row : Row) → Fits row → 0 < size row → 1 ≤ width row
some_shown nil f h = absurd (omega arith)
some_shown (agg l cs rest) f h = omega arith
some_shown (lit l c rest) f h = omega arith
some_shown (rec p s r rest) f h = omega (arith, record_shown s r f.0 f.1)

-- What is counted in two parts is in one of them.
pub either : {A : Type 0} (x y : ℕ) → 1 ≤ x + y → (1 ≤ x → A) → (1 ≤ y → A) → A
either {A = A} x y h f g = go (leb 1 x) refl
  where
    go : (b : Bool) → leb 1 x ≡ b → A
    go true e = f (leb-true 1 x e)
    go false e = g (omega (arith, leb-false 1 x e))
