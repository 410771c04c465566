-- The tests of `valid` say what `Valid` says.
use Rattle.std.specs.Prelude.{◌≡◌, refl, Bool, true, false, cond, not, ◌&&◌, ◌||◌, List, [], ◌∷◌, ℕ, ◌≤◌, length, leb, ltb, eqb}
use Rattle.std.proofs.Common.{sym, ap, ◌∙◌, true≢false, arith, ltb-true, lt-ltb, leb-true, le-leb, eqb-true, eq-eqb, ne_eqb}
use Rattle.std.proofs.lemmas.Bool.{false≢true, not-true}
use Rattle.std.proofs.Math.Bool.{or-true}
use Rattle.model.specs.Limits.{most_pages, capacity, most_content, most_origin}
use Rattle.model.specs.Row.{Head, Row, nil, agg, lit, rec, store, lone, node_count, record_size, is_agg, height, count, outside, placed, Config, every, is_byte}
use Rattle.model.specs.Row.{is_entry, in_range, head_fits, record_fits, fits, valid, standing, may_stand, by_table}
use Rattle.theory_rows.specs.Fits.{IsByte, HeadFits, Shape, one, more, RecordFits, Fits, Ranges, Placed, Valid}
use Rattle.theory_rows.specs.Laws.{cond_case, is_nil_nil}

-- ── tests in a row ──

-- `a && b && ..`, for the tests a, b, ..
abbrev tests : Bool → List Bool → Bool
tests a [] = a
tests a (b ∷ bs) = tests (a && b) bs

abbrev Hold : List Bool → Type 0
Hold [] = Unit {0}
Hold (b ∷ bs) = (b ≡ true) × Hold bs

pub both : (a b : Bool) → a && b ≡ true → (a ≡ true) × (b ≡ true)
both true b e = (refl, e)
both false b e = absurd (false≢true e)

tests_hold : (a : Bool) (bs : List Bool) → tests a bs ≡ true → Hold (a ∷ bs)
tests_hold a [] e = (e, tt)
tests_hold a (b ∷ bs) e =
    let h = tests_hold (a && b) bs e in
    let p = both a b h.0 in
    (p.0, (p.1, h.1))

-- ── the settings ──

pub ranges_say : (st : Config) → in_range st ≡ true → Ranges st
unfolding in_range
ranges_say st e =
    let others =
    leb st.pages most_pages ∷ leb 64 st.target ∷ leb st.target 192 ∷ leb st.tolerance 512 ∷ eqb st.form 1
    ∷ eqb (length st.matrix) 256 ∷ every is_entry st.matrix ∷ [] in
    let h = tests_hold (leb 2 st.pages) others e in
    record {
      few = leb-true 2 st.pages h.0;
      many = leb-true st.pages most_pages h.1.0;
      low = leb-true 64 st.target h.1.1.0;
      high = leb-true st.target 192 h.1.1.1.0;
      tol = leb-true st.tolerance 512 h.1.1.1.1.0;
      form = eqb-true st.form 1 h.1.1.1.1.1.0;
      entries = eqb-true (length st.matrix) 256 h.1.1.1.1.1.1.0;
      each = h.1.1.1.1.1.1.1.0;
    }

ranges_hold : (st : Config) → Ranges st → in_range st ≡ true
unfolding in_range
ranges_hold st r =
    rw (
      le-leb 2 st.pages r.few,
      le-leb st.pages most_pages r.many,
      le-leb 64 st.target r.low,
      le-leb st.target 192 r.high,
      le-leb st.tolerance 512 r.tol,
      eq-eqb st.form 1 r.form,
      eq-eqb (length st.matrix) 256 r.entries,
    ) r.each

-- ── records ──

pub bytes_say : (c : List ℕ) → every is_byte c ≡ true → IsByte c
bytes_say [] e = tt
bytes_say (b ∷ c) e = let h = both (is_byte b) (every is_byte c) e in (ltb-true b 256 h.0, bytes_say c h.1)

pub bytes_hold : (c : List ℕ) → IsByte c → every is_byte c ≡ true
bytes_hold [] h = refl
bytes_hold (b ∷ c) h = rw (lt-ltb b 256 h.0) (bytes_hold c h.1)

shape_says : (s : Bool) (r : Row) → lone r || (not s && leb 2 (node_count r)) ≡ true → Shape s r
shape_says s r e = go (lone r) s refl e
  where
    go : (b s : Bool) → lone r ≡ b → b || (not s && leb 2 (node_count r)) ≡ true → Shape s r
    go true s e h = one e
    go false true e h = absurd (false≢true h)
    go false false e h = more r (leb-true 2 (node_count r) h)

shape_holds : {s : Bool} {r : Row} → Shape s r → lone r || (not s && leb 2 (node_count r)) ≡ true
shape_holds (one e) = rw e
shape_holds (more r h) = rw (le-leb 2 (node_count r) h) (or-true (lone r))

record_says : (s : Bool) (r : Row) → record_fits s r ≡ true → RecordFits s r
record_says s r e =
    let h = both (leb (record_size r) capacity) (lone r || (not s && leb 2 (node_count r))) e in
    record { fits = leb-true (record_size r) capacity h.0; shape = shape_says s r h.1 }

record_holds : (s : Bool) (r : Row) → RecordFits s r → record_fits s r ≡ true
record_holds s r f = rw (le-leb (record_size r) capacity f.fits) (shape_holds f.shape)

head_says : (h : Head) → head_fits h ≡ true → HeadFits h
head_says h e =
    let t = both (leb h.origin most_origin) (ltb h.label 65536) e in
    record { origin = leb-true h.origin most_origin t.0; label = ltb-true h.label 65536 t.1 }

head_holds : (h : Head) → HeadFits h → head_fits h ≡ true
head_holds h f = rw (le-leb h.origin most_origin f.origin) (lt-ltb h.label 65536 f.label)

pub fits_says : (r : Row) → fits r ≡ true → Fits r
fits_says nil e = tt
fits_says (agg h cs rest) e =
    let t = tests_hold (head_fits h) (fits cs ∷ fits rest ∷ []) e in
    (head_says h t.0, fits_says cs t.1.0, fits_says rest t.1.1.0)
fits_says (lit h c rest) e =
    let t = tests_hold (head_fits h) (leb (length c) most_content ∷ every is_byte c ∷ fits rest ∷ []) e in
    (head_says h t.0, leb-true (length c) most_content t.1.0, bytes_say c t.1.1.0, fits_says rest t.1.1.1.0)
fits_says (rec p s r rest) e =
    let t = tests_hold (record_fits s r) (fits r ∷ fits rest ∷ []) e in
    (record_says s r t.0, fits_says r t.1.0, fits_says rest t.1.1.0)

fits_holds : (r : Row) → Fits r → fits r ≡ true
fits_holds nil f = refl
fits_holds (agg h cs rest) f = rw (head_holds h f.0, fits_holds cs f.1) (fits_holds rest f.2)
fits_holds (lit h c rest) f = rw (head_holds h f.0, le-leb (length c) most_content f.1, bytes_hold c f.2) (fits_holds rest f.3)
fits_holds (rec p s r rest) f = rw (record_holds s r f.0, fits_holds r f.1) (fits_holds rest f.2)

-- ── pages ──

-- A row that starts with a proxy names the proxy's page.
pub names_own : (p : ℕ) (s : Bool) (r rest : Row) → 1 ≤ count p (rec p s r rest)
names_own p s r rest = rw (eq-eqb p p refl) (omega arith)

-- A proxy may name page q.
abbrev may_name : (pages : ℕ) → (whole : Row) → (q : ℕ) → Bool
may_name n whole q = not (outside n q) && eqb (count q whole) 1

-- a row that passes names no other page
none_else : (n : ℕ) (whole row : Row) → placed n whole row ≡ true → (q : ℕ) → may_name n whole q ≡ false → count q row ≡ 0
none_else n whole nil e q h = refl
none_else n whole (agg l cs rest) e q h =
    let t = both (placed n whole cs) (placed n whole rest) e in
    omega (arith, none_else n whole cs t.0 q h, none_else n whole rest t.1 q h)
none_else n whole (lit l c rest) e q h = none_else n whole rest e q h
none_else n whole (rec p s r rest) e q h =
    let t = tests_hold (may_name n whole p) (placed n whole r ∷ placed n whole rest ∷ []) e in
    let other : eqb q p ≡ false = ne_eqb q p (λ d. true≢false (sym t.0 ∙ ap (may_name n whole) (sym d) ∙ h)) in
    rw other (omega (arith, none_else n whole r t.1.0 q h, none_else n whole rest t.1.1.0 q h))

pub placed_says : (n : ℕ) (root : Row) → placed n root root ≡ true → Placed n root
placed_says n root e q = go (may_name n root q) refl
  where
    go : (b : Bool) → may_name n root q ≡ b → count q root ≤ cond (outside n q) 0 1
    go true h =
        let t = both (not (outside n q)) (eqb (count q root) 1) h in
        rw (not-true (outside n q) t.0) (omega (arith, eqb-true (count q root) 1 t.1))
    go false h = omega (arith, none_else n root root e q h)

-- a page that is named at most one time, and not at all if it is outside, and that is named
may_name_lem : (n : ℕ) (whole : Row) (q : ℕ) → Placed n whole → 1 ≤ count q whole → may_name n whole q ≡ true
may_name_lem n whole q h k = go (outside n q) (h q)
  where
    go : (b : Bool) → count q whole ≤ cond b 0 1 → not b && eqb (count q whole) 1 ≡ true
    go true l = absurd (omega arith)
    go false l = eq-eqb (count q whole) 1 (omega arith)

pub placed_holds : (n : ℕ) (whole row : Row) → Placed n whole → ((q : ℕ) → count q row ≤ count q whole) → placed n whole row ≡ true
placed_holds n whole nil h l = refl
placed_holds n whole (agg m cs rest) h l = rw (placed_holds n whole cs h (λ q. omega (arith, l q))) (placed_holds n whole rest h (λ q. omega (arith, l q)))
placed_holds n whole (lit m c rest) h l = placed_holds n whole rest h l
placed_holds n whole (rec p s r rest) h l =
    rw (may_name_lem n whole p h (omega (arith, l p, names_own p s r rest)), placed_holds n whole r h (λ q. omega (arith, l q)))
    (placed_holds n whole rest h (λ q. omega (arith, l q)))

-- ── the whole ──

pub valid_says : (st : Config) (root : Row) → valid st root ≡ true → Valid st root
unfolding valid
valid_says st root e =
    let t = tests_hold (in_range st) (fits (store root) ∷ is_agg root ∷ leb (height root) 24 ∷ placed st.pages root root ∷ []) e in
    record {
      ranges = ranges_say st t.0;
      rows = fits_says (store root) t.1.0;
      top = t.1.1.0;
      levels = leb-true (height root) 24 t.1.1.1.0;
      placed = placed_says st.pages root t.1.1.1.1.0;
    }

pub valid_holds : (st : Config) (root : Row) → Valid st root → valid st root ≡ true
unfolding valid
valid_holds st root v =
    rw (ranges_hold st v.ranges, fits_holds (store root) v.rows, v.top, le-leb (height root) 24 v.levels)
    (placed_holds st.pages root root v.placed (λ q. omega arith))

-- ── the table ──

-- a record's root alone stands on its page where it may stand in an aggregate
lone_table : (r : Row) → lone r ≡ true → by_table 1 r ≡ true → by_table 0 r ≡ true
unfolding may_stand standing
lone_table nil e t = absurd (false≢true e)
lone_table (agg h cs rest) e t = rw (is_nil_nil rest e, (both (by_table 1 cs) (by_table 1 rest) t).0)
lone_table (lit h c rest) e t = rw (is_nil_nil rest e)
lone_table (rec p s r rest) e t = absurd (false≢true e)

-- Whatever fits stands by the table where aggregates, literals and proxies may stand: in an aggregate (1) or a helper (4).
fits_table : (holder : ℕ) → may_stand holder 1 ≡ true → may_stand holder 2 ≡ true → may_stand holder 3 ≡ true → (r : Row) → Fits r
    → by_table holder r ≡ true
unfolding may_stand standing
fits_table k a b c nil f = refl
fits_table k a b c (agg h cs rest) f = rw (a, fits_table 1 refl refl refl cs f.1) (fits_table k a b c rest f.2)
fits_table k a b c (lit h x rest) f = rw b (fits_table k a b c rest f.3)
fits_table k a b c (rec p s r rest) f =
    let inside : cond (lone r) (by_table 0 r) (may_stand 0 4 && by_table 4 r) ≡ true =
    cond_case (λ t. t ≡ true) (lone r) (λ e. lone_table r e (fits_table 1 refl refl refl r f.1)) (λ _. fits_table 4 refl refl refl r f.1) in
    rw (c, inside) (fits_table k a b c rest f.2)

pub by_table_lem : (r : Row) → Fits r → by_table 1 r ≡ true
unfolding may_stand standing
by_table_lem r f = fits_table 1 refl refl refl r f
