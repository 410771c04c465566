-- The bytes around a place in a row, whatever fills it: the new node, or a separator where a proxy was.
use Rattle.std.specs.Prelude.{◌≡◌, refl, Bool, true, false, List, [], ◌++◌, ℕ, ◌+◌, ◌≤◌, ◌<◌, ◌⊎◌, length}
use Rattle.std.proofs.Common.{sym, ap, ◌∙◌, append_assoc, append-nil, arith, inl, inr, ⊎_elim, length-append}
use Rattle.model.specs.Row.{Row, nil, agg, lit, rec, ◌⊹◌, size, header, bytes, Head}
use Rattle.theory_rows.specs.Laws.{length_bytes, size-⊹, bytes-⊹}
use Rattle.model.specs.Spot.{Position, here, inside, fill}

-- The byte where the filling starts: the row starts at pos.
abbrev pub at : (pos : ℕ) → Position → ℕ
at pos (here left) = pos + size left
at pos (inside left h rest s) = at (pos + size left + 6) s

-- The byte where the node starts that holds the filling: the row starts at pos, in the node at outer.
abbrev pub parent : (outer pos : ℕ) → Position → ℕ
parent outer pos (here left) = outer
parent outer pos (inside left h rest s) = parent (pos + size left) (pos + size left + 6) s

abbrev pub is_inside : Position → Bool
is_inside (here left) = false
is_inside (inside left h rest s) = true

-- The bytes of the row besides the filling's.
abbrev pub around : Position → ℕ
around (here left) = size left
around (inside left h rest s) = size left + (6 + around s + size rest)

-- The bytes before a filling of m bytes, and those past its level.
abbrev pub before : Position → (m : ℕ) → List ℕ
before (here left) m = bytes left
before (inside left h rest s) m = bytes left ++ (header 1 h (6 + (around s + m)) ++ before s m)

abbrev pub beyond : Position → List ℕ
beyond (here left) = []
beyond (inside left h rest s) = beyond s ++ bytes rest

-- ── fillings ──

pub size_around : (s : Position) (x : Row) → size (fill s x) ≡ around s + size x
size_around (here left) x = size-⊹ left x
size_around (inside left h rest s) x = omega (arith, size-⊹ left (agg h (fill s x) rest), size_around s x)

pub bytes_fill : (s : Position) (x : Row) → bytes (fill s x) ≡ before s (size x) ++ (bytes x ++ beyond s)
bytes_fill (here left) x = bytes-⊹ left x ∙ ap (λ (z : List ℕ). bytes left ++ z) (sym (append-nil (bytes x)))
bytes_fill (inside left h rest s) x = simp (bytes-⊹ left (agg h (fill s x) rest), size_around s x, bytes_fill s x, append_assoc)

pub length_before : (pos m : ℕ) (s : Position) → pos + length (before s m) ≡ at pos s
length_before pos m (here left) = ap (λ (n : ℕ). pos + n) (length_bytes left)
length_before pos m (inside left h rest s) =
    simp (length-append, length_bytes left) (omega (arith, length_before (pos + size left + 6) m s))

-- ── a position one row further left ──

abbrev pub push : Row → Position → Position
push a (here left) = here (a ⊹ left)
push a (inside left h rest s) = inside (a ⊹ left) h rest s

-- A position by the first node of its row.
pub position_case : (P : Position → Type 0) → P (here nil) → ((h : Head) (rest : Row) (s : Position) → P (inside nil h rest s))
    → ((h : Head) (cs : Row) (t : Position) → P (push (agg h cs nil) t)) → ((h : Head) (c : List ℕ) (t : Position) → P (push (lit h c nil) t))
    → ((p : ℕ) (b : Bool) (r : Row) (t : Position) → P (push (rec p b r nil) t)) → (s : Position) → P s
position_case P n i a l p (here nil) = n
position_case P n i a l p (here (agg h cs left)) = a h cs (here left)
position_case P n i a l p (here (lit h c left)) = l h c (here left)
position_case P n i a l p (here (rec q b r left)) = p q b r (here left)
position_case P n i a l p (inside nil k rest s) = i k rest s
position_case P n i a l p (inside (agg h cs left) k rest s) = a h cs (inside left k rest s)
position_case P n i a l p (inside (lit h c left) k rest s) = l h c (inside left k rest s)
position_case P n i a l p (inside (rec q b r left) k rest s) = p q b r (inside left k rest s)

pub before_push : (a : Row) (s : Position) (m : ℕ) → before (push a s) m ≡ bytes a ++ before s m
before_push a (here left) m = bytes-⊹ a left
before_push a (inside left h rest s) m = simp (bytes-⊹ a left, append_assoc)

pub around_push : (a : Row) (s : Position) → around (push a s) ≡ size a + around s
around_push a (here left) = size-⊹ a left
around_push a (inside left h rest s) = omega (arith, size-⊹ a left)

pub parent_push : (a : Row) (s : Position) (outer pos : ℕ) → parent outer pos (push a s) ≡ parent outer (pos + size a) s
parent_push a (here left) outer pos = refl
parent_push a (inside left h rest s) outer pos =
    let e : pos + size (a ⊹ left) ≡ pos + size a + size left = omega (arith, size-⊹ a left) in
    ap (λ (k : ℕ). parent k (k + 6) s) e

pub at_push : (a : Row) (s : Position) (pos : ℕ) → at pos (push a s) ≡ at (pos + size a) s
at_push a (here left) pos = omega (arith, size-⊹ a left)
at_push a (inside left h rest s) pos =
    let e : pos + size (a ⊹ left) ≡ pos + size a + size left = omega (arith, size-⊹ a left) in
    ap (λ (k : ℕ). at (k + 6) s) e

-- ── where the parent stands ──

pub parent_in : (s : Position) (outer pos : ℕ) → outer < pos
    → (parent outer pos s ≡ outer) ⊎ ((pos ≤ parent outer pos s) × (parent outer pos s < pos + around s))
parent_in (here left) outer pos h = inl refl
parent_in (inside left k rest s) outer pos h =
    ⊎_elim (λ e. inr (omega arith)) (λ e. inr (omega arith)) (parent_in s (pos + size left) (pos + size left + 6) (omega arith))

-- The filling starts within the row, past its parent's header.
pub at_in : (s : Position) (pos : ℕ) → (pos ≤ at pos s) × (at pos s ≤ pos + around s)
at_in (here left) pos = omega arith
at_in (inside left k rest s) pos = omega (arith, at_in s (pos + size left + 6))

-- Where the parent is outside the row, no node of the row holds the filling.
pub before_plain : (s : Position) (outer pos m n : ℕ) → outer < pos → parent outer pos s < pos → before s m ≡ before s n
before_plain (here left) outer pos m n h k = refl
before_plain (inside left l rest s) outer pos m n h k =
    absurd (⊎_elim (λ e. omega arith) (λ e. omega arith) (parent_in s (pos + size left) (pos + size left + 6) (omega arith)))
