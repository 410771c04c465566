-- The bytes of a record with another filling at a place.
use Rattle.std.specs.Prelude.{◌≡◌, refl, Bool, false, take}
use Rattle.std.proofs.Math.Path.{sym, ap}
use Rattle.std.proofs.Common.{◌∙◌, true≢false, arith, length-drop, take_at, drop_at, length-take-le, take_all}
use mathlib.Core.List.{List, [], ◌++◌, append_assoc, append-nil}
use Prim.Native.Nat.{ℕ, ◌+◌, ◌-◌, ◌<◌, ◌≤◌}
use Rattle.std.proofs.Math.ListN.{length, drop, length-append, length-take}
use Rattle.theory_row_bytes.specs.RowAt.{RecordIs, RowIs}
use Rattle.model.specs.Row.{Head, Row, nil, agg, lit, rec, ◌⊹◌, size, node_count, lone, base, header, bytes, record_size, record_bytes, count, no_head}
use Rattle.base_numbers.specs.Over.{over, over_then, over_front, over_again, take_over}
use Rattle.theory_rows.specs.Laws.{two_nodes, length_bytes, size-⊹, bytes-⊹}
use Rattle.theory_rows.specs.Bound.{is_nil-⊹}
use Rattle.model.specs.Spot.{Position, here, inside, fill}
use Rattle.grow_splice.specs.Position.{at, parent, is_inside, around, before, beyond, size_around, bytes_fill, length_before}
use Rattle.grow_splice.specs.Resize.{Cut, resized}

-- ── the root ──

-- The record keeps its kind of root: a place at the top of its row is in a helper, before and after. A place among a node's children leaves the root as it is.
abbrev pub KeepsRoot : Position → (was is : Row) → Type 0
KeepsRoot s a b = is_inside s ≡ false → (lone (fill s a) ≡ false) × (lone (fill s b) ≡ false)

pub inside_keeps : (left : Row) (h : Head) (rest : Row) (s : Position) (a b : Row) → KeepsRoot (inside left h rest s) a b
inside_keeps left h rest s a b e = absurd (true≢false e)

pub many_keeps : (s : Position) (a b : Row) → 2 ≤ node_count (fill s a) → 2 ≤ node_count (fill s b) → KeepsRoot s a b
many_keeps s a b h k e = (two_nodes (fill s a) h, two_nodes (fill s b) k)

-- A record's bytes with either filling are a header and a row, with a place in that row: the root's children, or a helper's.
pub record Whole (s : Position) (a b : Row) : Type 0 where
  pub kind : ℕ
  pub head : Head
  pub position : Position
  pub was : record_bytes (fill s a) ≡ header kind head (6 + size (fill position a)) ++ bytes (fill position a)
  pub is : record_bytes (fill s b) ≡ header kind head (6 + size (fill position b)) ++ bytes (fill position b)
  pub size_was : record_size (fill s a) ≡ 6 + size (fill position a)
  pub size_is : record_size (fill s b) ≡ 6 + size (fill position b)
  pub at_is : at (base (fill s a)) s ≡ at 6 position
  pub par_is : parent 0 (base (fill s a)) s ≡ parent 0 6 position
  pub names : (q : ℕ) → count q (fill position a) ≡ count q (fill s a)

whole_apart : (s : Position) (a b : Row) → lone (fill s a) ≡ false → lone (fill s b) ≡ false → Whole s a b
whole_apart s a b p q = record {
  kind = 4;
  head = no_head;
  position = s;
  was = rw p;
  is = rw q;
  size_was = rw p;
  size_is = rw q;
  at_is = rw p;
  par_is = rw p;
  names = λ q. refl;
}

whole_lone : (h : Head) (s : Position) (a b : Row) → Whole (inside nil h nil s) a b
whole_lone h s a b = record {
  kind = 1;
  head = h;
  position = s;
  was = rw append-nil;
  is = rw append-nil;
  size_was = omega arith;
  size_is = omega arith;
  at_is = refl;
  par_is = refl;
  names = λ q. omega arith;
}

pub whole : (s : Position) (a b : Row) → KeepsRoot s a b → Whole s a b
whole (here left) a b k = whole_apart (here left) a b (k refl).0 (k refl).1
whole (inside nil h nil s) a b k = whole_lone h s a b
whole (inside nil h (agg l cs rest) s) a b k = whole_apart (inside nil h (agg l cs rest) s) a b refl refl
whole (inside nil h (lit l c rest) s) a b k = whole_apart (inside nil h (lit l c rest) s) a b refl refl
whole (inside nil h (rec p t r rest) s) a b k = whole_apart (inside nil h (rec p t r rest) s) a b refl refl
whole (inside (agg l cs left) h rest s) a b k =
    whole_apart (inside (agg l cs left) h rest s) a b (is_nil-⊹ left (agg h (fill s a) rest) refl) (is_nil-⊹ left (agg h (fill s b) rest) refl)
whole (inside (lit l c left) h rest s) a b k =
    whole_apart (inside (lit l c left) h rest s) a b (is_nil-⊹ left (agg h (fill s a) rest) refl) (is_nil-⊹ left (agg h (fill s b) rest) refl)
whole (inside (rec p t r left) h rest s) a b k = whole_apart (inside (rec p t r left) h rest s) a b refl refl

-- ── the place ──

-- A record l; the row `old`, of `gone` bytes, stands in it at the byte pos, in the node at par, and `tail` after it; the row `put`, whose bytes are new,
-- is to take its place.
pub record Splicing (l : List ℕ) (pos par gone : ℕ) (new : List ℕ) : Type 0 where
  pub position : Position
  pub old : Row
  pub tail : Row
  pub put : Row
  pub is : RecordIs l (fill position (old ⊹ tail))
  pub goes : size old ≡ gone
  pub comes : RowIs new put
  pub offset : pos ≡ at (base (fill position (old ⊹ tail))) position
  pub holder : par ≡ parent 0 (base (fill position (old ⊹ tail))) position
  pub root : KeepsRoot position (old ⊹ tail) (put ⊹ tail)

-- The record's row once `put` has taken the place of `old`.
abbrev pub spliced : (l : List ℕ) (pos par gone : ℕ) (new : List ℕ) → Splicing l pos par gone new → Row
spliced l pos par gone new w = fill w.position (w.put ⊹ w.tail)

-- the bytes of a record up to a filling of m bytes
abbrev fore : (kind : ℕ) (head : Head) (s : Position) (m : ℕ) → List ℕ
fore k n s m = header k n (6 + (around s + m)) ++ before s m

apart : (k : ℕ) (n : Head) (s : Position) (x y : Row)
    → header k n (6 + size (fill s (x ⊹ y))) ++ bytes (fill s (x ⊹ y)) ≡ fore k n s (size (x ⊹ y)) ++ (bytes x ++ (bytes y ++ beyond s))
apart k n s x y =
    (λ i. header k n (6 + size_around s (x ⊹ y) i) ++ bytes_fill s (x ⊹ y) i)
    ∙ ap (λ (z : List ℕ). header k n (6 + (around s + size (x ⊹ y))) ++ (before s (size (x ⊹ y)) ++ z))
    (ap (λ (z : List ℕ). z ++ beyond s) (bytes-⊹ x y) ∙ append_assoc (bytes x) (bytes y) (beyond s))

module _ (l : List ℕ) (pos par gone : ℕ) (new : List ℕ) (w : Splicing l pos par gone new) where
  seen : Whole w.position (w.old ⊹ w.tail) (w.put ⊹ w.tail)
  seen = whole w.position (w.old ⊹ w.tail) (w.put ⊹ w.tail) w.root

  -- what stands in the record before the place, and past what goes
  front_bytes : List ℕ
  front_bytes = fore seen.kind seen.head seen.position (size (w.old ⊹ w.tail))

  back_bytes : List ℕ
  back_bytes = bytes w.tail ++ beyond seen.position

  parts : l ≡ front_bytes ++ (bytes w.old ++ back_bytes)
  unfolding front_bytes back_bytes
  parts = w.is ∙ seen.was ∙ apart seen.kind seen.head seen.position w.old w.tail

  front_length : length front_bytes ≡ pos
  unfolding front_bytes
  front_length = omega (arith, length_before 6 (size (w.old ⊹ w.tail)) seen.position, seen.at_is, w.offset)

  front : take pos l ≡ front_bytes
  front = ap (take pos) parts ∙ take_at front_bytes (bytes w.old ++ back_bytes) pos front_length

  back : drop (pos + gone) l ≡ back_bytes
  back =
      ap (drop (pos + gone)) (parts ∙ sym (append_assoc front_bytes (bytes w.old) back_bytes))
      ∙ drop_at (front_bytes ++ bytes w.old) back_bytes (pos + gone) (simp (length-append, length_bytes) (omega (arith, front_length, w.goes)))

  pub within : pos + gone ≤ length l
  within = omega (arith, front_length, w.goes, length_bytes w.old, simp length-append at (ap length parts))

  -- the record's length, and its new one
  long : length l ≡ 6 + around seen.position + size (w.old ⊹ w.tail)
  long = ap length (w.is ∙ seen.was) ∙ rw length_bytes (omega (arith, size_around seen.position (w.old ⊹ w.tail)))

  goes_in : gone ≤ size (w.old ⊹ w.tail)
  goes_in = omega (arith, size-⊹ w.old w.tail, w.goes)

  size_after : size (w.put ⊹ w.tail) ≡ size (w.old ⊹ w.tail) - gone + length new
  size_after = omega (arith, size-⊹ w.put w.tail, size-⊹ w.old w.tail, w.goes, length_bytes w.put, ap length w.comes)

  pub spliced_size : record_size (spliced l pos par gone new w) ≡ length l - gone + length new
  spliced_size = omega (arith, seen.size_is, size_around seen.position (w.put ⊹ w.tail), size_after, long, goes_in)

  -- the witness of `resize`
  pub cut : (m : List ℕ) (n : ℕ) → m ≡ take pos l → length l + n < 65536 → Cut m par gone n
  unfolding front_bytes
  cut m n e h = record {
    kind = seen.kind;
    head = seen.head;
    position = seen.position;
    filled = size (w.old ⊹ w.tail);
    is = e ∙ front;
    at = w.holder ∙ seen.par_is;
    least = goes_in;
    small = omega (arith, long);
  }

  -- the four writes of a splice
  pub steps : (o a g b d : List ℕ) (n : ℕ) (e : take pos a ≡ take pos l) (h : length l + n < 65536) → n ≡ length new
      → length l + n ≤ length o + gone
      → a ≡ over 0 (take pos l) o → g ≡ resized (take pos a) par gone n (cut (take pos a) n e h) → length g ≡ pos
      → b ≡ over pos new (g ++ drop pos a)
      → d ≡ over (pos + n) (drop (pos + gone) l) b → d ≡ over 0 (record_bytes (spliced l pos par gone new w)) o
  unfolding cut back_bytes
  steps o a g b d n e h k room pa pg len pb pd =
      let i : pos + gone ≤ length l = within in
      let t = seen.position in
      let m : ℕ = size (w.old ⊹ w.tail) - gone + n in
      let f : g ++ drop pos a ≡ over 0 g o =
      over_front pos g a len ∙ ap (over 0 g) pa ∙ over_again 0 (take pos l) g o (simp length-take (omega arith)) (simp length-take (omega arith)) in
      let w1 : b ≡ over 0 (g ++ new) o = over_then _ _ _ _ _ _ _ f pb (omega arith) (omega arith) in
      let w2 : d ≡ over 0 ((g ++ new) ++ drop (pos + gone) l) o =
      over_then _ _ _ _ _ _ _ w1 pd (simp length-append (omega arith)) (simp (length-append, length-drop) (omega arith)) in
      let z : m ≡ size (w.put ⊹ w.tail) = omega (arith, size_after) in
      let x : (g ++ new) ++ drop (pos + gone) l ≡ (fore seen.kind seen.head t m ++ bytes w.put) ++ (bytes w.tail ++ beyond t) =
      λ j. (pg j ++ w.comes j) ++ back j in
      let r : List ℕ = record_bytes (spliced l pos par gone new w) in
      let y : (fore seen.kind seen.head t m ++ bytes w.put) ++ (bytes w.tail ++ beyond t) ≡ r =
      ap (λ (v : ℕ). (fore seen.kind seen.head t v ++ bytes w.put) ++ (bytes w.tail ++ beyond t)) z
      ∙ append_assoc (fore seen.kind seen.head t (size (w.put ⊹ w.tail))) (bytes w.put) (bytes w.tail ++ beyond t)
      ∙ sym (seen.is ∙ apart seen.kind seen.head t w.put w.tail) in
      w2 ∙ ap (λ (v : List ℕ). over 0 v o) (x ∙ y)

-- the front, once copied, is the record's
pub copied_front : (l o a : List ℕ) (pos : ℕ) → pos ≤ length l → a ≡ over 0 (take pos l) o → take pos a ≡ take pos l
copied_front l o a pos h e = ap (take pos) e ∙ take_over pos (take pos l) o (length-take-le pos l h)

pub part_end : (l : List ℕ) (pos : ℕ) → take (length l - pos) (drop pos l) ≡ drop pos l
part_end l pos = take_all (length l - pos) (drop pos l) (simp length-drop (omega arith))

-- ── the three uses ──

-- A row put in, in front of `tail`.
abbrev pub put_in : (s : Position) (put tail : Row) (l : List ℕ) (pos par : ℕ) (new : List ℕ) → RecordIs l (fill s tail) → pos ≡ at (base (fill s tail)) s
    → par ≡ parent 0 (base (fill s tail)) s → new ≡ bytes put → KeepsRoot s tail (put ⊹ tail) → Splicing l pos par 0 new
put_in s put tail l pos par new e a p n k =
    record { position = s; old = nil; tail = tail; put = put; is = e; goes = refl; comes = n; offset = a; holder = p; root = k }

-- A row in the place of a proxy.
abbrev pub put_for : (s : Position) (page : ℕ) (settled : Bool) (row put tail : Row) (l : List ℕ) (pos par : ℕ) (new : List ℕ)
    → let r = fill s (rec page settled row tail) in RecordIs l r → pos ≡ at (base r) s → par ≡ parent 0 (base r) s → new ≡ bytes put
    → KeepsRoot s (rec page settled row tail) (put ⊹ tail) → Splicing l pos par 8 new
put_for s q t r put tail l pos par new e a p n k = record {
  position = s;
  old = rec q t r nil;
  tail = tail;
  put = put;
  is = e;
  goes = refl;
  comes = n;
  offset = a;
  holder = p;
  root = k;
}

-- A row taken out.
abbrev pub take_out : (s : Position) (old tail : Row) (l : List ℕ) (pos par gone : ℕ) (new : List ℕ) → let r = fill s (old ⊹ tail) in RecordIs l r
    → size old ≡ gone → pos ≡ at (base r) s → par ≡ parent 0 (base r) s → new ≡ [] → KeepsRoot s (old ⊹ tail) tail → Splicing l pos par gone new
take_out s old tail l pos par gone new e g a p n k =
    record { position = s; old = old; tail = tail; put = nil; is = e; goes = g; comes = n; offset = a; holder = p; root = k }
