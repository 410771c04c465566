-- Images from before E1: without origins the definitions of today are the base's.
use Rattle.std.specs.Prelude.{◌≡◌, refl, true, cond, ◌&&◌, List, [], ◌∷◌, ◌++◌, ℕ, zero, suc, ◌+◌, ◌-◌, length, replicate, leb, ltb, eqb}
use Rattle.std.proofs.Common.{sym, ap, ◌∙◌, eqb-true}
use Rattle.model.specs.Limits.{capacity, most_levels, most_content, most_origin}
use Rattle.model.specs.Row.{Head, Row, nil, agg, lit, rec, store, size, lone, record_size, two, header, no_head, bytes, trailer, Held, records}
use Rattle.model.specs.Row.{record_page, page_at, pages_from, settings_page, image, Config, every, is_byte, in_range, record_fits, fits, is_agg, height, placed, valid}
use Rattle.model.specs.Tree.{shown, nodes}
use Rattle.model.specs.OldImages.{zero_origins, old_header, old_bytes, old_record_page, old_page_at, old_pages_from, old_image, old_fits, old_valid, ShowsZero, OldImages}
use Rattle.model.specs.OldImages.{OldExactly}
use Rattle.theory_decoding.specs.Valid.{both}
use Rattle.theory_places.specs.Member.{each_of}
use Rattle.theory_places.specs.Kinds.{Heads, OfNode, heads_nodes}
use Rattle.theory_places.specs.Named.{named_in_lem}
use Rattle.theory_calls.specs.Open.{opens, passes}

-- What `zero_origins` says of a row's parts.
record HeadZero (h : Head) (cs rest : Row) : Type 0 where
  head : h.origin ≡ 0
  inner : zero_origins cs ≡ true
  after : zero_origins rest ≡ true

zero_parts : (h : Head) (cs rest : Row) → (eqb h.origin 0 && zero_origins cs && zero_origins rest) ≡ true → HeadZero h cs rest
zero_parts h cs rest u =
    let t = both (eqb h.origin 0 && zero_origins cs) (zero_origins rest) u in
    let k = both (eqb h.origin 0) (zero_origins cs) t.0 in
    record { head = eqb-true h.origin 0 k.0; inner = k.1; after = t.1 }

zero_lit : (h : Head) (rest : Row) → (eqb h.origin 0 && zero_origins rest) ≡ true → HeadZero h nil rest
zero_lit h rest u = let t = both (eqb h.origin 0) (zero_origins rest) u in record { head = eqb-true h.origin 0 t.0; inner = refl; after = t.1 }

-- ── bytes ──

header_old : (k : ℕ) (h : Head) (n : ℕ) → h.origin ≡ 0 → header k h n ≡ old_header k h.label n
header_old k h n e = ap (λ (o : ℕ). k ∷ o ∷ two h.label ++ two n) e

bytes_old : (r : Row) → zero_origins r ≡ true → bytes r ≡ old_bytes r
bytes_old nil u = refl
bytes_old (agg h cs rest) u =
    let t = zero_parts h cs rest u in
    λ i. header_old 1 h (6 + size cs) t.head i ++ bytes_old cs t.inner i ++ bytes_old rest t.after i
bytes_old (lit h c rest) u =
    let t = zero_lit h rest u in
    λ i. header_old 2 h (6 + length c) t.head i ++ c ++ bytes_old rest t.after i
bytes_old (rec p s r rest) u =
    let t = both (zero_origins r) (zero_origins rest) u in
    λ i. old_header 3 0 8 ++ two p ++ bytes_old rest t.1 i

-- ── pages ──

abbrev AllOld : List Held → Type 0
AllOld [] = Unit {0}
AllOld (h ∷ hs) = (zero_origins h.row ≡ true) × AllOld hs

all-++ : (a b : List Held) → AllOld a → AllOld b → AllOld (a ++ b)
all-++ [] b f g = g
all-++ (h ∷ a) b f g = (f.0, all-++ a b f.1 g)

records_old : (q : ℕ) (r : Row) → zero_origins r ≡ true → AllOld (records q r)
records_old q nil u = tt
records_old q (agg h cs rest) u =
    let t = zero_parts h cs rest u in
    all-++ (records q cs) (records q rest) (records_old q cs t.inner) (records_old q rest t.after)
records_old q (lit h c rest) u = records_old q rest (zero_lit h rest u).after
records_old q (rec p s r rest) u =
    let t = both (zero_origins r) (zero_origins rest) u in
    (t.0, all-++ (records p r) (records q rest) (records_old p r t.0) (records_old q rest t.1))

page_old : (h : Held) → zero_origins h.row ≡ true → record_page h ≡ old_record_page h
page_old h u =
    let n = record_size h.row in
    ap (λ (l : List ℕ). cond (lone h.row) l (header 4 no_head (6 + size h.row) ++ l) ++ replicate (capacity - n) 0
    ++ trailer 1 (cond h.settled 1 0) n h.holder) (bytes_old h.row u)

page_at_old : (hs : List Held) (q : ℕ) → AllOld hs → page_at hs q ≡ old_page_at hs q
page_at_old [] q a = refl
page_at_old (h ∷ hs) q a = λ i. cond (eqb q h.page) (page_old h a.0 i) (page_at_old hs q a.1 i)

pages_old : (hs : List Held) (n q : ℕ) → AllOld hs → pages_from hs n q ≡ old_pages_from hs n q
pages_old hs zero q a = refl
pages_old hs (suc n) q a = λ i. page_at_old hs q a i ++ pages_old hs n (suc q) a i

image_old : (st : Config) (root : Row) → zero_origins root ≡ true → image st root ≡ old_image st root
unfolding image
image_old st root u =
    let a = records_old 0 (store root) (ap (λ b. b && true) u) in
    ap (λ (l : List ℕ). settings_page st ++ l) (pages_old (records 0 (store root)) (st.pages - 1) 1 a)

-- ── the check ──

fits_old : (r : Row) → zero_origins r ≡ true → fits r ≡ old_fits r
fits_old nil u = refl
fits_old (agg h cs rest) u =
    let t = zero_parts h cs rest u in
    λ i. leb (t.head i) most_origin && ltb h.label 65536 && fits_old cs t.inner i && fits_old rest t.after i
fits_old (lit h c rest) u =
    let t = zero_lit h rest u in
    λ i. leb (t.head i) most_origin && ltb h.label 65536 && leb (length c) most_content && every is_byte c && fits_old rest t.after i
fits_old (rec p s r rest) u =
    let t = both (zero_origins r) (zero_origins rest) u in
    λ i. record_fits s r && fits_old r t.0 i && fits_old rest t.1 i

valid_old : (st : Config) (root : Row) → zero_origins root ≡ true → valid st root ≡ old_valid st root
unfolding valid
valid_old st root u =
    ap (λ b. in_range st && (record_fits true root && b && true) && is_agg root && leb (height root) most_levels && placed st.pages root root) (fits_old root u)

pub old_exactly : OldExactly
old_exactly img st root = (
  λ o. (record { passes = valid_old st root o.origins ∙ o.passes; same = o.same ∙ sym (image_old st root o.origins) }, o.origins),
  λ r. record { origins = r.1; passes = sym (valid_old st root r.1) ∙ r.0.passes; same = r.0.same ∙ image_old st root r.1 },
)

-- ── the tree shown ──

abbrev OriginZero : (kind : ℕ) → Head → Type 0
OriginZero k h = h.origin ≡ 0

heads_zero : (r : Row) → zero_origins r ≡ true → Heads OriginZero r
heads_zero nil u = tt
heads_zero (agg h cs rest) u = let t = zero_parts h cs rest u in (t.head, heads_zero cs t.inner, heads_zero rest t.after)
heads_zero (lit h c rest) u = let t = zero_lit h rest u in (t.head, heads_zero rest t.after)
heads_zero (rec p s r rest) u = let t = both (zero_origins r) (zero_origins rest) u in (heads_zero r t.0, heads_zero rest t.1)

shows_zero : (root : Row) → zero_origins root ≡ true → ShowsZero (shown root)
shows_zero root u path n e =
    each_of (OfNode OriginZero) n (nodes (shown root)) (heads_nodes OriginZero root (heads_zero root u)) (named_in_lem (shown root) path n e).0

pub old_images : OldImages
old_images img st root o =
    let r = (old_exactly img st root).0 o in
    record { passes = passes img st root r.0; shows = rw (opens img st root r.0); origins = shows_zero root r.1 }
