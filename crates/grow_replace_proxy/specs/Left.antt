-- What is left of a record's bytes on a walk: a row with a filling at a position, and the walk's steps over it.
use Rattle.std.specs.Prelude.{◌≡◌, refl, Bool, false, List, [], ℕ, ◌+◌, ◌<◌, ◌≤◌}
use Rattle.std.proofs.Common.{sym, ap, ◌∙◌, true≢false, append-nil, arith}
use Rattle.theory_row_bytes.specs.RowAt.{RowAt, FirstNode, first_node, row_split, row_into, RecordIs, HeaderAt, header_past}
use Rattle.model.specs.Limits.{capacity}
use Rattle.model.specs.Row.{Head, Row, nil, agg, lit, rec, ◌⊹◌, size, lone, bytes, record_size, count}
use Rattle.theory_rows.specs.Laws.{size-⊹, ⊹-assoc}
use Rattle.theory_rows.specs.Bound.{is_nil-⊹}
use Rattle.theory_rows.specs.Pages.{count-⊹}
use Rattle.model.specs.Spot.{Position, here, inside, fill}
use Rattle.grow_splice.specs.Position.{is_inside, push}
use Rattle.grow_splice.specs.Splice.{Whole, whole}

-- ── positions ──

pub fill_push : (a : Row) (s : Position) (x : Row) → fill (push a s) x ≡ a ⊹ fill s x
fill_push a (here left) x = ⊹-assoc a left x
fill_push a (inside left h rest s) x = ⊹-assoc a left (agg h (fill s x) rest)

pub count_push : (q : ℕ) (a : Row) (s : Position) (x : Row) → count q (fill (push a s) x) ≡ count q a + count q (fill s x)
count_push q a s x = ap (count q) (fill_push a s x) ∙ count-⊹ q a (fill s x)

-- A row with a proxy at its top is no lone aggregate or literal.
proxy_apart : (left : Row) (q : ℕ) (b : Bool) (old rest : Row) → lone (left ⊹ rec q b old rest) ≡ false
proxy_apart nil q b old rest = refl
proxy_apart (agg h cs left) q b old rest = is_nil-⊹ left (rec q b old rest) refl
proxy_apart (lit h c left) q b old rest = is_nil-⊹ left (rec q b old rest) refl
proxy_apart (rec p s r left) q b old rest = refl

pub proxy_root : (s : Position) (q : ℕ) (b : Bool) (old rest : Row) → is_inside s ≡ false → lone (fill s (rec q b old rest)) ≡ false
proxy_root (here left) q b old rest e = proxy_apart left q b old rest
proxy_root (inside left h right s) q b old rest e = absurd (true≢false e)

-- ── what is left ──

pub record Left (l : List ℕ) (pos : ℕ) (s : Position) (x : Row) : Type 0 where
  pub stands : RowAt l pos (fill s x)
  pub small : size (fill s x) < 65536

-- Its first node.
pub left_first : {l : List ℕ} {pos : ℕ} {s : Position} {x : Row} → Left l pos s x → 0 < size (fill s x) → FirstNode l pos (fill s x)
left_first {l} {pos} {s} {x} v h = first_node l pos (fill s x) h v.small v.stands

module _ {l : List ℕ} {pos : ℕ} (x : Row) where
  -- behind whole nodes
  left_push : (a : Row) (t : Position) → Left l pos (push a t) x → RowAt l pos (a ⊹ fill t x) × (size (a ⊹ fill t x) < 65536)
  left_push a t v = rw (← fill_push a t x) (v.stands, v.small)

  pub push_first : (a : Row) (t : Position) → Left l pos (push a t) x → 0 < size a → FirstNode l pos (a ⊹ fill t x)
  push_first a t v h =
      let w = left_push a t v in
      first_node l pos (a ⊹ fill t x) (omega (arith, size-⊹ a (fill t x))) w.1 w.0

  -- past them
  pub left_past : (a : Row) (t : Position) → Left l pos (push a t) x → Left l (pos + size a) t x
  left_past a t v =
      let w = left_push a t v in
      record { stands = (row_split l pos a (fill t x) w.0).1; small = omega (arith, w.1, size-⊹ a (fill t x)) }

  -- into an aggregate that ends before the position
  pub left_through : (h : Head) (cs : Row) (t : Position) → Left l pos (push (agg h cs nil) t) x → Left l (pos + 6) (push cs t) x
  left_through h cs t v =
      let w = left_push (agg h cs nil) t v in
      record {
        stands = rw (fill_push cs t x) (row_into l pos h cs (fill t x) w.0);
        small = omega (arith, w.1, ap size (fill_push cs t x), size-⊹ cs (fill t x));
      }

  -- into the aggregate that holds the position
  pub left_into : (h : Head) (rest : Row) (s : Position) → Left l pos (inside nil h rest s) x → Left l (pos + 6) s x
  left_into h rest s v = record { stands = (left_first v (omega arith)).kids; small = omega (arith, v.small) }

-- ── the start ──

-- The record's root is an aggregate or a helper.
abbrev pub opened : (s : Position) (q : ℕ) (b : Bool) (old rest : Row) → Whole s (rec q b old rest) (rec q b old rest)
opened s q b old rest = whole s (rec q b old rest) (rec q b old rest) (λ e. (proxy_root s q b old rest e, proxy_root s q b old rest e))

-- Past its header the walk starts.
pub left_start : (l : List ℕ) (s : Position) (q : ℕ) (b : Bool) (old rest : Row) → RecordIs l (fill s (rec q b old rest))
    → record_size (fill s (rec q b old rest)) ≤ capacity → Left l 6 (opened s q b old rest).position (rec q b old rest)
left_start l s q b old rest e h =
    let v = opened s q b old rest in
    let row = fill v.position (rec q b old rest) in
    let w : HeaderAt l 0 v.kind v.head (6 + size row) = record { post = bytes row; is = e ∙ v.was } in
    record { stands = record { post = []; is = header_past w ∙ sym (append-nil (bytes row)) }; small = omega (arith, v.size_was) }
