-- What the code reads of a row, and what that says of the split.
use Rattle.std.specs.Prelude.{◌≡◌, refl, Bool, true, false, not, ◌&&◌, ◌||◌, List, ℕ, ◌+◌, ◌<◌, ◌≤◌, ltb, leb, length}
use Rattle.std.proofs.Common.{sym, ap, arith, lt-ltb, le-ltb, le-leb, ltb-true, ltb-false}
use Rattle.std.proofs.lemmas.Bool.{lt-leb}
use Rattle.model.specs.Row.{Row, nil, agg, lit, rec, ◌⊹◌, size, is_nil, lone_rec, bytes, standing, may_stand, Config}
use Rattle.model.specs.Reading.{size_at, kind_at}
use Rattle.model.specs.Growth.{go_on}
use Rattle.theory_rows.specs.Laws.{length_bytes, is_nil_nil, not_nil, size_some, size_nil}
use Rattle.theory_rows.specs.First.{one_of}
use Rattle.theory_rows.specs.Cut.{goes_into, Choosing, choose_on}
use Rattle.theory_row_bytes.specs.RowAt.{row_whole}
use Rattle.grow_split_point.specs.Kids.{Kids, first, n_is, behind, kind_of, size_of, rest_of}

-- ── the chosen child ──

-- The search for it, in a row that starts at `start`, has come to pos; the nodes from there on end at `end`.
pub record Seeks (l : List ℕ) (p start : ℕ) (row : Row) (pos end : ℕ) : Type 0 where
  pub kids : Kids l pos end
  pub left : Row
  pub way : (st : Config) → Choosing st p start row pos left kids.row

module _ {l : List ℕ} {p start pos end n : ℕ} {row : Row} (s : Seeks l p start row pos end) (is : n ≡ size_at l pos) where
  abbrev on : Bool
  on = go_on p pos (size_of s.kids.row) (rest_of s.kids.row)

  pub seek_on : pos + n < end → pos + n ≤ p → Seeks l p start row (pos + n) end
  seek_on h i =
      let k = behind s.kids is h in
      let e : on ≡ true = rw (not_nil (rest_of s.kids.row) k.some, ← n_is s.kids is) (le-leb (pos + n) p i) in
      record { kids = k; left = s.left ⊹ one_of s.kids.row; way = λ st. rw (n_is s.kids is) (choose_on st p (s.way st) e) }

  -- It is the chosen one: the last, or the next starts past p.
  pub last_ends : end ≤ pos + n → on ≡ false
  last_ends h = rw (size_nil (rest_of s.kids.row) (omega (arith, n_is s.kids is, (first s.kids).total, s.kids.ends)))

  pub last_past : pos + n < end → p < pos + n → on ≡ false
  last_past h i = rw (not_nil (rest_of s.kids.row) (behind s.kids is h).some, ← n_is s.kids is) (lt-leb (pos + n) p i)

-- ── whether the split goes on inside it ──

stops_read : (tol : ℕ) (cs : Row) (b t : Bool) → is_nil cs ≡ b → ltb (6 + size cs) tol ≡ t → not (b || t) ≡ ltb 6 (6 + size cs) && leb tol (6 + size cs)
stops_read tol cs true t e q = rw (le-ltb 6 (6 + size cs) (omega (arith, ap size (is_nil_nil cs e))))
stops_read tol cs false true e q = rw (lt-ltb 6 (6 + size cs) (omega (arith, size_some cs e)), lt-leb tol (6 + size cs) (ltb-true _ _ q))
stops_read tol cs false false e q = rw (lt-ltb 6 (6 + size cs) (omega (arith, size_some cs e)), le-leb tol (6 + size cs) (ltb-false _ _ q))

-- By the table an aggregate may stand only in an aggregate, of the nodes that a row can hold.
into_read : (st : Config) (r : Row) → 0 < size r → goes_into st r ≡ may_stand (kind_of r) 1 && (ltb 6 (size_of r) && leb st.tolerance (size_of r))
unfolding may_stand standing
into_read st nil k = absurd (omega arith)
into_read st (agg h cs rest) k = stops_read st.tolerance cs _ _ refl refl
into_read st (lit h c rest) k = refl
into_read st (rec p s r rest) k = refl

pub into_is : {l : List ℕ} {x end n : ℕ} (w : Kids l x end) (st : Config) → n ≡ size_at l x
    → goes_into st w.row ≡ may_stand (kind_at l x) 1 && (ltb 6 n && leb st.tolerance n)
into_is w st is = rw (n_is w is, (first w).kind_is) (into_read st w.row w.some)

-- ── whether a group stays ──

pub stays_not : (g : Row) (n : ℕ) → n ≡ size g → (n ≡ 0 → ⊥) → (n ≡ 8 → ⊥) → false ≡ (is_nil g || lone_rec g)
stays_not nil n e z k = absurd (z e)
stays_not (agg h cs rest) n e z k = refl
stays_not (lit h c rest) n e z k = refl
stays_not (rec p s r rest) n e z k = sym (not_nil rest (omega arith))

-- Of the nodes that a row can hold only a proxy may not be a record's root.
pub stays_kind : (g : Row) → size g ≡ 8 → not (may_stand 0 (kind_of g)) ≡ (is_nil g || lone_rec g)
unfolding may_stand standing
stays_kind nil z = absurd (omega arith)
stays_kind (agg h cs rest) z = refl
stays_kind (lit h c rest) z = refl
stays_kind (rec p s r rest) z = sym (size_nil rest (omega arith))

-- A group of 8 bytes.
abbrev pub eight : (g : Row) {l : List ℕ} → l ≡ bytes g → length l ≡ 8 → Kids l 0 8
eight g e z =
    let n : size g ≡ 8 = omega (arith, length_bytes g, ap length e) in
    record { row = g; stands = row_whole e; some = omega arith; ends = omega arith; small = omega arith }
