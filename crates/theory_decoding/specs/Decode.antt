-- Decoding the image of a valid store gives the store back.
use Rattle.std.specs.Prelude.{◌≡◌, Bool, true, false, cond, List, [], ◌∷◌, ◌++◌, length, get_or, take, drop, replicate, eqb}
use Rattle.std.proofs.Math.Path.{refl, ap, ap₂}
use Rattle.std.proofs.Common.{◌∙◌, append_assoc, arith, length-append, take_at, drop_at, get_or-append-add}
use Rattle.std.proofs.lemmas.Bool.{false≢true}
use Prim.Native.Nat.{ℕ, zero, suc, ◌+◌, ◌*◌, ◌-◌, ◌/◌, ◌%◌, ◌≤◌, ◌<◌}
use Rattle.std.proofs.lemmas.List.{length-replicate}
use Rattle.std.proofs.Math.Seq.{take-append-add, drop-append-add}
use Rattle.model.specs.Limits.{capacity, settings_size}
use Rattle.model.specs.Row.{Head, Row, nil, agg, lit, rec, store, size, lone, record_size, header, two, bytes, record_bytes, trailer, Held, records, record_page}
use Rattle.model.specs.Row.{page_at, pages_from, image, count, Config, no_head, record_on}
use Rattle.model.specs.Reading.{two_at, config_on, page_of, row_on, nodes_in, used_at, settled_at}
use Rattle.theory_rows.specs.Fits.{Fits, HeadFits, Valid}
use Rattle.theory_rows.specs.Laws.{length_bytes}
use Rattle.theory_rows.specs.Image.{Stored, length_record, image_page, image_stored}
use Rattle.theory_decoding.specs.Valid.{names_own}
use Rattle.theory_decoding.specs.Length.{length_image}
use Rattle.theory_decoding.specs.Steps.{steps, named_inside, few_steps}

pub two_bytes : (n : ℕ) → n < 65536 → n % 256 + 256 * (n / 256 % 256) ≡ n
two_bytes n h = omega arith

-- and back, for any two bytes
pub two_is : (a b : ℕ) → a < 256 → b < 256 → two (a + 256 * b) ≡ a ∷ b ∷ []
two_is a b h k =
    let low : (a + 256 * b) % 256 ≡ a = omega arith in
    let high : (a + 256 * b) / 256 ≡ b = omega arith in
    let whole : b % 256 ≡ b = omega arith in
    rw (low, high, whole)

pub get_d_past : (p q : List ℕ) (n i : ℕ) → length p ≡ n → get_or (p ++ q) (n + i) 0 ≡ get_or q i 0
get_d_past p q n i e = rw (← e) (get_or-append-add p q i 0)

take_first : (p a b c : List ℕ) (n : ℕ) → length p ≡ n → take n (p ++ a ++ b ++ c) ≡ p
take_first p a b c n e = simp append_assoc (take_at p (a ++ (b ++ c)) n e)

-- ── the settings ──

pub config_image : (st : Config) (root : Row) → Valid st root → config_on (image st root) ≡ st
unfolding image two_at
config_image st root v =
    let p = two_bytes st.pages (omega (arith, v.ranges.many)) in
    let t = two_bytes st.tolerance (omega (arith, v.ranges.tol)) in
    let f = two_bytes st.form (omega (arith, v.ranges.form)) in
    let m : take 256 (drop 16 (image st root)) ≡ st.matrix =
    take_first st.matrix (replicate (capacity - settings_size) 0) (trailer 2 0 settings_size 0) (pages_from (records 0 (store root)) (st.pages - 1) 1) 256
    v.ranges.entries in
    λ i. record { pages = p i; target = st.target; tolerance = t i; form = f i; matrix = m i }

-- ── a record's page ──

module _ (h : Held) (f : record_size h.row ≤ capacity) where
  -- byte i of the trailer
  pub in_trailer : (i : ℕ) → get_or (record_page h) (capacity + i) 0 ≡ get_or (trailer 1 (cond h.settled 1 0) (record_size h.row) h.holder) i 0
  in_trailer i =
      let front = record_bytes h.row ++ replicate (capacity - record_size h.row) 0 in
      let n : length front ≡ capacity = simp (length-append, length-replicate, length_record) (omega arith) in
      get_d_past front (trailer 1 (cond h.settled 1 0) (record_size h.row) h.holder) capacity i n

  pub settled_page : eqb (settled_at (record_page h) 0) 1 ≡ h.settled
  settled_page = rw (in_trailer 1) (go h.settled)
    where
      go : (b : Bool) → eqb (cond b 1 0) 1 ≡ b
      go true = refl
      go false = refl

  pub used_page : used_at (record_page h) 0 ≡ record_size h.row
  unfolding two_at
  used_page = rw (in_trailer 2, in_trailer 3) (two_bytes (record_size h.row) (omega arith))

  pub take_page : take (record_size h.row) (record_page h) ≡ record_bytes h.row
  take_page = rw append_assoc (take_at (record_bytes h.row) _ (record_size h.row) (length_record h.row))

-- a helper's header is known by its kind, 4
without_helper : (r : Row) (b : Bool) → lone r ≡ b
    → let s = cond b (bytes r) (header 4 no_head (6 + size r) ++ bytes r) in cond (eqb (get_or s 0 0) 4) (drop 6 s) s ≡ bytes r
without_helper nil true e = absurd (false≢true e)
without_helper (agg l cs rest) true e = refl
without_helper (lit l c rest) true e = refl
without_helper (rec p s r rest) true e = absurd (false≢true e)
without_helper r false e = refl

row_on_page : (h : Held) → record_size h.row ≤ capacity → row_on (record_page h) ≡ bytes h.row
row_on_page h f = rw (used_page h f, take_page h f) (without_helper h.row (lone h.row) refl)

-- ── a row ──

module _ (img : List ℕ) where
  module _ (k : ℕ) (l : Head) (n : ℕ) (inside after : List ℕ) (f : HeadFits l) (h : n ≤ capacity) (e : length inside ≡ n) where
    abbrev first : (kind : ℕ) → List ℕ
    first b = header b l (6 + n)

    take_node : (b : ℕ) → take (6 + n) (first b ++ (inside ++ after)) ≡ first b ++ inside
    take_node b = take-append-add (first b) (inside ++ after) n ∙ ap (λ (x : List ℕ). first b ++ x) (take_at inside after n e)

    drop_node : (b : ℕ) → drop (6 + n) (first b ++ (inside ++ after)) ≡ after
    drop_node b = drop-append-add (first b) (inside ++ after) n ∙ drop_at inside after n e

    agg_in : nodes_in (suc k) img (first 1 ++ (inside ++ after)) ≡ agg l (nodes_in k img inside) (nodes_in k img after)
    unfolding nodes_in two_at
    agg_in = rw (two_bytes l.label f.label, two_bytes (6 + n) (omega arith), take_node 1, drop_node 1)

    lit_in : nodes_in (suc k) img (first 2 ++ (inside ++ after)) ≡ lit l inside (nodes_in k img after)
    unfolding nodes_in two_at
    lit_in = rw (two_bytes l.label f.label, two_bytes (6 + n) (omega arith), take_node 2, drop_node 2)

  rec_in : (k p : ℕ) (s : Bool) (r : Row) (page after : List ℕ) → p < 65536 → page_of img p ≡ page → eqb (settled_at page 0) 1 ≡ s
      → nodes_in k img (row_on page) ≡ r → nodes_in (suc k) img (header 3 no_head 8 ++ (two p ++ after)) ≡ rec p s r (nodes_in k img after)
  unfolding nodes_in two_at
  rec_in k p s r page after h e t i = rw (two_bytes p h, e, t, i)

  row_in : (k h : ℕ) (row : Row) → steps row ≤ k → size row ≤ capacity → Fits row → Stored (page_of img) h row
      → ((q : ℕ) → 1 ≤ count q row → q < 65536) → nodes_in k img (bytes row) ≡ row
  unfolding nodes_in
  row_in zero h nil a z f m q = refl
  row_in (suc k) h nil a z f m q = refl
  row_in zero h (agg l cs rest) a z f m q = absurd (omega arith)
  row_in (suc k) h (agg l cs rest) a z f m q =
      agg_in k l (size cs) (bytes cs) (bytes rest) f.0 (omega arith) (length_bytes cs)
      ∙ ap₂ (agg l)
      (row_in k h cs (omega arith) (omega arith) f.1 m.0 (λ p g. q p (omega arith)))
      (row_in k h rest (omega arith) (omega arith) f.2 m.1 (λ p g. q p (omega arith)))
  row_in zero h (lit l c rest) a z f m q = absurd (omega arith)
  row_in (suc k) h (lit l c rest) a z f m q =
      lit_in k l (length c) c (bytes rest) f.0 (omega arith) refl ∙ ap (lit l c) (row_in k h rest (omega arith) (omega arith) f.3 m q)
  row_in zero h (rec p s r rest) a z f m q = absurd (omega arith)
  row_in (suc k) h (rec p s r rest) a z f m q =
      let held : Held = record_on p s h r in
      let inside = row_in k p r (omega arith) (omega (arith, f.0.fits)) f.1 m.1 (λ p g. q p (omega arith)) in
      rec_in k p s r (record_page held) (bytes rest) (q p (names_own p s r rest)) m.0 (settled_page held f.0.fits)
      (ap (nodes_in k img) (row_on_page held f.0.fits) ∙ inside)
      ∙ ap (rec p s r) (row_in k h rest (omega arith) (omega arith) f.2 m.2 (λ p g. q p (omega arith)))

-- ── the store ──

-- pages that are the same where the row names them
pub stored_same : (a b : ℕ → List ℕ) (h : ℕ) (row : Row) → ((q : ℕ) → 1 ≤ count q row → b q ≡ a q) → Stored a h row → Stored b h row
stored_same a b h nil e m = tt
stored_same a b h (agg l cs rest) e m = (stored_same a b h cs (λ q g. e q (omega arith)) m.0, stored_same a b h rest (λ q g. e q (omega arith)) m.1)
stored_same a b h (lit l c rest) e m = stored_same a b h rest e m
stored_same a b h (rec p s r rest) e m =
    (e p (names_own p s r rest) ∙ m.0, stored_same a b p r (λ q g. e q (omega arith)) m.1, stored_same a b h rest (λ q g. e q (omega arith)) m.2)

module _ (st : Config) (root : Row) (v : Valid st root) where
  pub stored_image : Stored (page_of (image st root)) 0 (store root)
  stored_image =
      stored_same (page_at (records 0 (store root))) (page_of (image st root)) 0 (store root)
      (λ q h. let n = named_inside st root v q h in image_page st root v q n.0 n.1) (image_stored st root v)

  pub root_image : nodes_in (length (image st root)) (image st root) (row_on (page_of (image st root) 1)) ≡ root
  root_image =
      let img = image st root in
      let held : Held = record_on 1 true 0 root in
      let fit = v.rows.0.fits in
      ap (nodes_in (length img) img) (ap row_on stored_image.0 ∙ row_on_page held fit)
      ∙ row_in img (length img) 1 root (omega (arith, few_steps st root v, length_image st root v)) (omega arith) v.rows.1 stored_image.1
      (λ q h. omega (arith, (named_inside st root v q (omega arith)).1, v.ranges.many))
