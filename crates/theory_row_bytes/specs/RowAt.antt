-- A header, a row of nodes, a record that stands in bytes at a position: what is read there, and that its parts stand too.
-- How a header is laid out concerns nobody above this file.
use Rattle.std.specs.Prelude.{◌≡◌, refl, Bool, true, false, cond, List, [], ◌++◌, ℕ, ◌+◌, ◌*◌, ◌-◌, ◌/◌, ◌%◌, ◌<◌, ◌≤◌, length, get_or, take, drop, replicate, eqb}
use Rattle.std.proofs.Common.{sym, ap, ◌∙◌, append_assoc, append-nil, zero-add, length-append, length-drop, take-append-drop, get_or-drop, get_or-take, drop-drop, take_at, drop_at}
use Rattle.std.proofs.lemmas.Bool.{false≢true}
use native.Mathlib.Omega.{arith}
use Rattle.model.specs.Limits.{page_size, capacity}
use Rattle.model.specs.Row.{Head, Row, nil, agg, lit, rec, ◌⊹◌, size, lone, base, two, header, bytes, record_bytes, record_size, no_head, trailer, Held}
use Rattle.model.specs.Row.{record_page}
use Rattle.model.specs.Reading.{two_at, kind_at, head_at, size_at, name_at, back_at, page_of}
use Rattle.base_numbers.specs.Over.{over, over_right}
use Rattle.theory_rows.specs.Fits.{HeadFits}
use Rattle.theory_rows.specs.Laws.{length_bytes, bytes-⊹}
use Rattle.theory_rows.specs.Image.{length_record}
use Rattle.theory_decoding.specs.Decode.{two_bytes, in_trailer}
pub use Rattle.theory_rows.specs.First.{kind_of, head_of, size_of, kids_of, rest_of, size_first, agg_first}

-- The first bytes at pos are passed.
past : (l : List ℕ) (pos n : ℕ) (first rest : List ℕ) → length first ≡ n → drop pos l ≡ first ++ rest → drop (pos + n) l ≡ rest
past l pos n first rest k e = sym (drop-drop n pos l) ∙ ap (drop n) e ∙ drop_at first rest n k

-- ── a header ──

pub record HeaderAt (l : List ℕ) (pos kind : ℕ) (head : Head) (long : ℕ) : Type 0 where
  pub post : List ℕ
  pub is : drop pos l ≡ header kind head long ++ post

module _ {l : List ℕ} {pos k : ℕ} {h : Head} {n : ℕ} (v : HeaderAt l pos k h n) where
  byte_at : (i : ℕ) → get_or l (pos + i) 0 ≡ get_or (header k h n ++ v.post) i 0
  byte_at i = sym (get_or-drop pos l i 0) ∙ ap (λ (z : List ℕ). get_or z i 0) v.is

  -- a number whose two bytes stand i bytes further on
  number_at : (i m : ℕ) → m < 65536 → get_or (header k h n ++ v.post) i 0 ≡ m % 256 → get_or (header k h n ++ v.post) (i + 1) 0 ≡ m / 256 % 256
      → two_at l (pos + i) ≡ m
  unfolding two_at
  number_at i m f a b =
      let z : pos + i + 1 ≡ pos + (i + 1) = omega arith in
      rw (z, byte_at i, byte_at (i + 1), a, b) (two_bytes m f)

  pub header_kind : kind_at l pos ≡ k
  header_kind = let z : pos + 0 ≡ pos = omega arith in rw z at (byte_at 0)

  pub header_head : HeadFits h → head_at l pos ≡ h
  header_head f = let e = number_at 2 h.label f.label refl refl in λ i. record { origin = byte_at 1 i; label = e i }

  pub header_size : n < 65536 → size_at l pos ≡ n
  header_size f = number_at 4 n f refl refl

  pub header_past : drop (pos + 6) l ≡ v.post
  header_past = past l pos 6 (header k h n) v.post refl v.is

  pub header_inside : pos + 6 ≤ length l
  header_inside = omega (arith, sym (length-drop pos l) ∙ ap length v.is)

pub no_head_lem : HeadFits no_head
no_head_lem = record { origin = omega arith; label = omega arith }

-- A header in the middle of some bytes,
pub header_after : (l pre post : List ℕ) (pos k : ℕ) (h : Head) (n : ℕ) → l ≡ pre ++ (header k h n ++ post) → length pre ≡ pos → HeaderAt l pos k h n
header_after l pre post pos k h n e len = record { post = post; is = ap (drop pos) e ∙ drop_at pre (header k h n ++ post) pos len }

-- and its size written.
pub header_resized : (pre post : List ℕ) (pos k : ℕ) (h : Head) (n m : ℕ) → length pre ≡ pos
    → over (pos + 4) (two m) (pre ++ (header k h n ++ post)) ≡ pre ++ (header k h m ++ post)
unfolding over
header_resized pre post pos k h n m e =
    over_right (pos + 4) 4 (two m) pre (header k h n ++ post) (omega arith) ∙ ap (λ (z : List ℕ). pre ++ z) refl

-- ── the first node of a row ──

-- Its bytes past the header; for a proxy the page that it names.
abbrev pub body_of : Row → List ℕ
body_of nil = []
body_of (agg h cs rest) = bytes cs
body_of (lit h c rest) = c
body_of (rec p s r rest) = two p

abbrev pub name_of : Row → ℕ
name_of nil = 0
name_of (agg h cs rest) = 0
name_of (lit h c rest) = 0
name_of (rec p s r rest) = p

-- ── a row ──

-- The row stands in these bytes at this position.
pub record RowAt (l : List ℕ) (pos : ℕ) (row : Row) : Type 0 where
  pub post : List ℕ
  pub is : drop pos l ≡ bytes row ++ post

-- What is read at its first node, whatever its kind.
pub record FirstNode (l : List ℕ) (pos : ℕ) (r : Row) : Type 0 where
  pub header_is : take 6 (drop pos l) ≡ header (kind_of r) (head_of r) (size_of r)
  pub kind_is : kind_at l pos ≡ kind_of r
  pub head_is : HeadFits (head_of r) → head_at l pos ≡ head_of r
  pub size_is : size_at l pos ≡ size_of r
  pub name_is : kind_of r ≡ 3 → name_of r < 65536 → name_at l pos ≡ name_of r
  pub body_is : take (length (body_of r)) (drop (pos + 6) l) ≡ body_of r
  pub long : size_of r ≡ 6 + length (body_of r)
  pub more : 6 ≤ size_of r
  pub total : size r ≡ size_of r + size (rest_of r)
  pub within : pos + size r ≤ length l
  pub kids : RowAt l (pos + 6) (kids_of r)
  pub rest : RowAt l (pos + size_of r) (rest_of r)

bytes_first : (r : Row) → 0 < size r → bytes r ≡ header (kind_of r) (head_of r) (size_of r) ++ (body_of r ++ bytes (rest_of r))
bytes_first nil h = absurd (omega arith)
bytes_first (agg hd cs rest) h = refl
bytes_first (lit hd c rest) h = refl
bytes_first (rec p s r rest) h = refl

long_first : (r : Row) → 0 < size r → size_of r ≡ 6 + length (body_of r)
long_first nil h = absurd (omega arith)
long_first (agg hd cs rest) h = omega (arith, length_bytes cs)
long_first (lit hd c rest) h = refl
long_first (rec p s r rest) h = refl

-- A node alone.
pub one_bytes : (a : Row) → 0 < size a → rest_of a ≡ nil → bytes a ≡ header (kind_of a) (head_of a) (size a) ++ body_of a
one_bytes a h e =
    let z : size_of a ≡ size a = omega (arith, size_first a, ap size e) in
    bytes_first a h ∙ rw (z, e, append-nil)

name_first : {l : List ℕ} {pos : ℕ} (r : Row) (v : HeaderAt l pos (kind_of r) (head_of r) (size_of r)) (more : List ℕ) → v.post ≡ body_of r ++ more
    → kind_of r ≡ 3 → name_of r < 65536 → name_at l pos ≡ name_of r
name_first nil v more q k f = absurd (omega arith)
name_first (agg hd cs rest) v more q k f = absurd (omega arith)
name_first (lit hd c rest) v more q k f = absurd (omega arith)
name_first (rec p b x rest) v more q k f = number_at v 6 p f (ap (λ (z : List ℕ). get_or z 0 0) q) (ap (λ (z : List ℕ). get_or z 1 0) q)

kids_first : (l : List ℕ) (pos : ℕ) (r : Row) (more : List ℕ) → drop pos l ≡ body_of r ++ more → RowAt l pos (kids_of r)
kids_first l pos nil more q = record { post = drop pos l; is = refl }
kids_first l pos (agg hd cs rest) more q = record { post = more; is = q }
kids_first l pos (lit hd c rest) more q = record { post = drop pos l; is = refl }
kids_first l pos (rec p b x rest) more q = record { post = drop pos l; is = refl }

pub first_node : (l : List ℕ) (pos : ℕ) (r : Row) → 0 < size r → size r < 65536 → RowAt l pos r → FirstNode l pos r
first_node l pos r some small s =
    let head = header (kind_of r) (head_of r) (size_of r) in
    let after = bytes (rest_of r) ++ s.post in
    let e : drop pos l ≡ head ++ (body_of r ++ after) = s.is ∙ ap (λ (z : List ℕ). z ++ s.post) (bytes_first r some) ∙ simp append_assoc in
    let v : HeaderAt l pos (kind_of r) (head_of r) (size_of r) = record { post = body_of r ++ after; is = e } in
    let long = long_first r some in
    record {
      header_is = ap (take 6) e;
      kind_is = header_kind v;
      head_is = header_head v;
      size_is = header_size v (omega (arith, size_first r));
      name_is = name_first r v after refl;
      body_is = ap (take (length (body_of r))) (header_past v) ∙ take_at (body_of r) after (length (body_of r)) refl;
      long = long;
      more = omega arith;
      total = size_first r;
      within = omega (arith, sym (length-drop pos l) ∙ ap length s.is, length-append (bytes r) s.post, length_bytes r);
      kids = kids_first l (pos + 6) r after (header_past v);
      rest = record { post = s.post; is = past l pos (size_of r) (head ++ body_of r) after (omega arith) (e ∙ simp append_assoc) };
    }

-- The bytes of a row.
pub row_bytes : (l : List ℕ) (pos : ℕ) (a : Row) → RowAt l pos a → take (size a) (drop pos l) ≡ bytes a
row_bytes l pos a s = ap (take (size a)) s.is ∙ take_at (bytes a) s.post (size a) (length_bytes a)

pub row_part : {l : List ℕ} {pos end : ℕ} {a : Row} → RowAt l pos a → end ≡ pos + size a → take (end - pos) (drop pos l) ≡ bytes a
row_part {l} {pos} {end} {a} s e =
    let z : end - pos ≡ size a = omega arith in
    rw z (row_bytes l pos a s)

-- A row in two parts.
pub row_split : (l : List ℕ) (pos : ℕ) (a b : Row) → RowAt l pos (a ⊹ b) → RowAt l pos a × RowAt l (pos + size a) b
row_split l pos a b s =
    let e : drop pos l ≡ bytes a ++ (bytes b ++ s.post) = s.is ∙ simp (bytes-⊹, append_assoc) in
    (record { post = bytes b ++ s.post; is = e }, record { post = s.post; is = past l pos (size a) (bytes a) (bytes b ++ s.post) (length_bytes a) e })

-- An aggregate's children, and behind them the nodes behind it, as one row.
pub row_into : (l : List ℕ) (pos : ℕ) (h : Head) (cs rest : Row) → RowAt l pos (agg h cs rest) → RowAt l (pos + 6) (cs ⊹ rest)
row_into l pos h cs rest s = record {
  post = s.post;
  is = past l pos 6 (header 1 h (6 + size cs)) (bytes (cs ⊹ rest) ++ s.post) refl (s.is ∙ rw (bytes-⊹ cs rest));
}

-- ── a record ──

-- The bytes are those of the row and no others, or of the record that holds the row.
abbrev pub RowIs : List ℕ → Row → Type 0
RowIs l row = l ≡ bytes row

abbrev pub RecordIs : List ℕ → Row → Type 0
RecordIs l row = l ≡ record_bytes row

-- Such a record stands in these bytes at this position.
pub record RecordAt (l : List ℕ) (pos : ℕ) (row : Row) : Type 0 where
  pub post : List ℕ
  pub is : drop pos l ≡ record_bytes row ++ post

pub row_long : {l : List ℕ} (row : Row) → RowIs l row → length l ≡ size row
row_long row e = ap length e ∙ length_bytes row

pub record_long : {l : List ℕ} (row : Row) → RecordIs l row → length l ≡ record_size row
record_long row e = ap length e ∙ length_record row

-- Either stands at their start then.
pub row_whole : {l : List ℕ} {row : Row} → RowIs l row → RowAt l 0 row
row_whole {row = row} e = record { post = []; is = e ∙ sym (append-nil (bytes row)) }

pub record_whole : {l : List ℕ} {row : Row} → RecordIs l row → RecordAt l 0 row
record_whole {row = row} e = record { post = []; is = e ∙ sym (append-nil (record_bytes row)) }

module _ {l : List ℕ} {pos : ℕ} {row : Row} (s : RecordAt l pos row) where
  -- Its row stands past the helper's header, if there is a helper.
  pub record_row_lem : RowAt l (pos + base row) row
  record_row_lem = record { post = s.post; is = go (lone row) s.is }
    where
      go : (b : Bool) → drop pos l ≡ cond b (bytes row) (header 4 no_head (6 + size row) ++ bytes row) ++ s.post
          → drop (pos + cond b 0 6) l ≡ bytes row ++ s.post
      go true e = past l pos 0 [] (bytes row ++ s.post) refl e
      go false e = past l pos 6 (header 4 no_head (6 + size row)) (bytes row ++ s.post) refl e

  pub record_bytes_lem : take (record_size row) (drop pos l) ≡ record_bytes row
  record_bytes_lem = ap (take (record_size row)) s.is ∙ take_at (record_bytes row) s.post (record_size row) (length_record row)

  -- A helper is known by its kind.
  pub record_first : cond (eqb (kind_at l pos) 4) 6 0 ≡ base row
  record_first = go row (lone row) refl s.is
    where
      go : (r : Row) (b : Bool) → lone r ≡ b → drop pos l ≡ cond b (bytes r) (header 4 no_head (6 + size r) ++ bytes r) ++ s.post
          → cond {A = ℕ} (eqb (kind_at l pos) 4) 6 0 ≡ cond b 0 6
      go nil true q e = absurd (false≢true q)
      go (agg h cs rest) true q e = rw (header_kind {k = 1} {h = h} {n = 6 + size cs} (record { post = (bytes cs ++ bytes rest) ++ s.post; is = e }))
      go (lit h c rest) true q e = rw (header_kind {k = 2} {h = h} {n = 6 + length c} (record { post = (c ++ bytes rest) ++ s.post; is = e }))
      go (rec p t x rest) true q e = absurd (false≢true q)
      go r false q e = rw (header_kind {k = 4} {h = no_head} {n = 6 + size r} (record { post = bytes r ++ s.post; is = e }))

-- Where the row of such bytes stands.
pub row_starts : {l : List ℕ} {row : Row} → RecordIs l row → RowAt l (base row) row
row_starts {row = row} e = rw (zero-add (base row)) at (record_row_lem {row = row} (record_whole e))

-- ── a page ──

module _ (img : List ℕ) (p : ℕ) {s : List ℕ} (e : page_of img p ≡ s) where
  pub byte_on : (i : ℕ) → i < page_size → get_or img (page_size * p + i) 0 ≡ get_or s i 0
  byte_on i k =
      sym (get_or-drop (page_size * p) img i 0) ∙ sym (get_or-take page_size (drop (page_size * p) img) i 0 k) ∙ ap (λ (z : List ℕ). get_or z i 0) e

  pub number_on : (i : ℕ) → i < 4095 → two_at img (page_size * p + i) ≡ two_at s i
  unfolding two_at
  number_on i k =
      let z : page_size * p + i + 1 ≡ page_size * p + (i + 1) = omega arith in
      rw (z, byte_on i (omega arith), byte_on (i + 1) (omega arith))

-- The back link on a record's page.
pub back_on : (img : List ℕ) (h : Held) → page_of img h.page ≡ record_page h → record_size h.row ≤ capacity → h.holder < 65536
    → back_at img (page_size * h.page) ≡ h.holder
unfolding two_at
back_on img h e f small =
    number_on img h.page e (capacity + 4) (omega arith) ∙ rw (in_trailer h f 4, in_trailer h f 5) (two_bytes h.holder small)

-- The record of a page stands where its page starts.
pub page_record : (img : List ℕ) (h : Held) → page_of img h.page ≡ record_page h → RecordAt img (page_size * h.page) h.row
page_record img h e =
    let from = drop (page_size * h.page) img in
    let free = replicate {A = ℕ} (capacity - record_size h.row) 0 in
    let last = trailer 1 (cond h.settled 1 0) (record_size h.row) h.holder in
    record {
      post = free ++ (last ++ drop page_size from);
      is = sym (take-append-drop page_size from) ∙ ap (λ (l : List ℕ). l ++ drop page_size from) e ∙ simp append_assoc;
    }
