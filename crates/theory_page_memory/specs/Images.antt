-- Inserts on images: the pages of a valid store's image are a memory that growth works on, and bytes whose pages are what growth leaves are the new
-- store's image.
use Rattle.std.specs.Prelude.{◌≡◌, refl, false, List, [], ◌++◌, ℕ, ◌-◌, ◌*◌, ◌≤◌, ◌<◌, length, eqb, leb, ltb}
use Rattle.std.proofs.Common.{sym, ap, subst, ◌∙◌, append_assoc, arith, ne_eqb, eq-eqb, leb-false, ltb-false}
use Rattle.std.proofs.lemmas.Bool.{lt-leb}
use Rattle.std.proofs.Math.Seq.{take_at}
use Rattle.model.specs.Limits.{page_size}
use Rattle.model.specs.Row.{Row, nil, agg, lit, rec, store, count, outside, Held, records, settings_page, page_at, pages_from, image, Config}
use Rattle.model.specs.Reading.{page_of}
use Rattle.model.specs.Tree.{New}
use Rattle.model.specs.Growth.{Out, at_rest, risen}
use Rattle.theory_growth.specs.Gap.{Gap}
use Rattle.theory_rows.specs.Fits.{Valid}
use Rattle.theory_rows.specs.Image.{Stored, image_page, length_settings}
use Rattle.theory_rows.specs.Pages.{bit, or_left, or_right}
use Rattle.theory_growth.specs.Store.{NewFits, received_grows}
use Rattle.theory_decoding.specs.Decode.{stored_image}
use Rattle.theory_check.specs.Images.{image_is}
use Rattle.model.specs.Spot.{last_page, Spot}
use Rattle.theory_page_memory.specs.Memory.{Mem, OutMem, blank, rise_mem}
use Rattle.theory_page_memory.specs.Links.{not_bit}
use Rattle.theory_page_memory.specs.Kept.{Done, place_m, insert_kept}

page_none : (h : ℕ) (r : Row) (post : List Held) (q : ℕ) → count q r ≡ 0 → page_at (records h r ++ post) q ≡ page_at post q
page_none h nil post q e = refl
page_none h (agg l cs rest) post q e =
    ap (λ (hs : List Held). page_at hs q) (append_assoc (records h cs) (records h rest) post)
    ∙ page_none h cs (records h rest ++ post) q (omega arith) ∙ page_none h rest post q (omega arith)
page_none h (lit l c rest) post q e = page_none h rest post q e
page_none h (rec p s r rest) post q e =
    let z : page_at ((records p r ++ records h rest) ++ post) q ≡ page_at post q =
    ap (λ (hs : List Held). page_at hs q) (append_assoc (records p r) (records h rest) post)
    ∙ page_none p r (records h rest ++ post) q (omega arith) ∙ page_none h rest post q (omega arith) in
    rw (not_bit (eqb q p) (omega arith)) z

-- ── the pages of an image ──

module _ (st : Config) (root : Row) (v : Valid st root) where
  -- The memory that an image is.
  abbrev pub before : Mem
  before = page_of (image st root)

  pub before_free : (q : ℕ) → (at_rest st root).used q ≡ false → before q ≡ blank
  before_free q z =
      let out = or_left (outside st.pages q) (ltb 0 (count q root)) z in
      let low = leb-false q 1 (or_left (leb q 1) (leb st.pages q) out) in
      let high = leb-false st.pages q (or_right (leb q 1) (leb st.pages q) out) in
      let far : q ≡ 1 → ⊥ = λ e. omega arith in
      let none : count q root ≡ 0 = omega (arith, ltb-false 0 (count q root) (or_right (outside st.pages q) (ltb 0 (count q root)) z)) in
      image_page st root v q (omega arith) (omega arith) ∙ rw (ne_eqb q 1 far) (page_none 1 root [] q none)

  pub before_settings : before 0 ≡ settings_page st
  unfolding image
  before_settings = take_at (settings_page st) (pages_from (records 0 (store root)) (st.pages - 1) 1) page_size (length_settings st v.ranges.entries)

-- ── the image after growth ──

pub inside_free : (n q : ℕ) → 1 < q → q < n → bit (outside n q) ≡ 0
inside_free n q a b = rw (lt-leb q 1 a, lt-leb n q b)

done_free : (st : Config) (first : List ℕ) (root : Row) (w : Out) (m : Mem) → Done st first root w.1 m
    → (q : ℕ) → 1 ≤ q → q < st.pages → count q (store root) ≡ 0 → m q ≡ blank
done_free st first root w m d q a b z =
    let far : q ≡ 1 → ⊥ = λ e. let y : bit (eqb q 1) ≡ 1 = rw (eq-eqb q 1 e) in omega (arith, z) in
    d.free q (not_bit _ (omega (arith, z, d.tally q, inside_free st.pages q (omega (arith, far)) b)))

module _ (st : Config) (x : New) (fits : NewFits x) (root : Row) (v : Valid st root) (path : List ℕ) (k : ℕ) (short : length path ≤ 22)
    (t : Spot) (g : Gap root path k t) where
  -- The state once the new node is at its spot, any of the gap,
  abbrev pub begun : OutMem
  begun = place_m st x t.parent (last_page t.chain) t.position t.rest (at_rest st root) (before st root v)

  -- and the memory once growth is done.
  abbrev pub after : Mem
  after = rise_mem st t.chain begun.0 begun.1.0 begun.1.1

  abbrev new : Out
  new = risen st x t (at_rest st root)

  pub insert_done : new.1.full ≡ false → Done st (before st root v 0) new.0 new.1 after
  insert_done full =
      insert_kept st root v (before st root v) (stored_image st root v) (before_free st root v) t.chain t.position t.rest g.held x t.parent
      (received_grows st x root path k t g fits v short) full

  -- Bytes with these pages are the image of the new store, if no page was taken where none was free.
  pub insert_image : (img : List ℕ) → length img ≡ page_size * st.pages → page_of img ≡ after → new.1.full ≡ false → img ≡ image st new.0
  insert_image img long same full =
      let d = insert_done full in
      image_is img st new.0 (omega (arith, v.ranges.few)) long (ap (λ (m : Mem). m 0) same ∙ d.settings ∙ before_settings st root v)
      (subst (λ (m : Mem). Stored m 0 (store new.0)) (sym same) d.stored)
      (λ q a b z. ap (λ (m : Mem). m q) same ∙ done_free st (before st root v 0) new.0 new after d q a b z)
