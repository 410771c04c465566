-- Writes to a list of bytes, and their laws. Every write of the store is one `over`.
use Rattle.std.specs.Prelude.{◌≡◌, refl, List, [], ◌∷◌, ◌++◌, ℕ, suc, ◌+◌, ◌/◌, ◌%◌, ◌<◌, ◌≤◌, length, take, drop, get_or, set, replicate}
use Rattle.std.proofs.Common.{sym, ap, ◌∙◌, append_assoc, append-nil, arith, add-zero, zero-add, add_assoc, add-one, length-append, length-take, length-drop, drop_of_length-le, take-append-drop, take_at, drop_at, drop-cons, take-suc, take_all, length-take-le, drop-drop}
use Rattle.std.proofs.Math.Numerals.{add-two, add-three}
use Rattle.std.proofs.lemmas.List.{length-replicate, replicate-append-replicate, take-append-le, drop-append-le, set_at}
use Rattle.std.proofs.Math.Seq.{take-append-add, drop-append-add}
use Rattle.std.proofs.lemmas.List.Edits.{sets-eq}
use Rattle.model.specs.Row.{two}

-- l with the elements from index at replaced by xs
unfoldable pub over : ℕ → List ℕ → List ℕ → List ℕ
over at xs l = take at l ++ (xs ++ drop (at + length xs) l)

pub over_is : (at : ℕ) (xs l : List ℕ) → over at xs l ≡ take at l ++ (xs ++ drop (at + length xs) l)
unfolding over
over_is at xs l = refl

pub length_over : (at : ℕ) (xs l : List ℕ) → at + length xs ≤ length l → length (over at xs l) ≡ length l
unfolding over
length_over at xs l h = simp (length-append, length-take, length-drop) (omega arith)

-- one element more: the turn of a loop that writes from the front
pub over_snoc : (at : ℕ) (xs l : List ℕ) (x : ℕ) → at + length xs < length l → set (over at xs l) (at + length xs) x ≡ over at (xs ++ (x ∷ [])) l
unfolding over
over_snoc at xs l x h =
    let p : List ℕ = take at l ++ xs in
    let k : ℕ = at + length xs in
    let n : length p ≡ k = simp (length-append, length-take) (omega arith) in
    let e : at + length (xs ++ (x ∷ [])) ≡ suc k = simp length-append (omega arith) in
    ap (λ (r : List ℕ). set r k x) (sym (append_assoc (take at l) xs (drop k l)) ∙ ap (λ (r : List ℕ). p ++ r) (drop-cons l k 0 h))
    ∙ set_at p (get_or l k 0) (drop (suc k) l) x k n
    ∙ append_assoc (take at l) xs (x ∷ drop (suc k) l)
    ∙ ap (λ (r : List ℕ). take at l ++ r) (sym (append_assoc xs (x ∷ []) (drop (suc k) l)))
    ∙ ap (λ (i : ℕ). take at l ++ ((xs ++ (x ∷ [])) ++ drop i l)) (sym e)

-- nothing written
pub over_nil : (at : ℕ) (l : List ℕ) → over at [] l ≡ l
unfolding over
over_nil at l = rw add-zero (take-append-drop at l)

-- the next piece, right after the last
pub over_next : (at k : ℕ) (xs ys l : List ℕ) → k ≡ at + length xs → at + (length xs + length ys) ≤ length l → over k ys (over at xs l) ≡ over at (xs ++ ys) l
unfolding over
over_next at k xs ys l q h =
    let p : List ℕ = take at l ++ xs in
    let r : List ℕ = drop (at + length xs) l in
    let n : length p ≡ k = simp (length-append, length-take) (omega arith) in
    let e : at + length xs + length ys ≡ at + length (xs ++ ys) = simp length-append (omega arith) in
    let a : take at l ++ (xs ++ r) ≡ p ++ r = sym (append_assoc (take at l) xs r) in
    ap (λ (z : List ℕ). take k z ++ (ys ++ drop (k + length ys) z)) a
    ∙ ap (λ (z : List ℕ). z ++ (ys ++ drop (k + length ys) (p ++ r))) (take_at p r k n)
    ∙ ap (λ (z : List ℕ). p ++ (ys ++ z))
    (sym (drop-drop (length ys) k (p ++ r)) ∙ ap (λ (z : List ℕ). drop (length ys) z) (drop_at p r k n) ∙ drop-drop (length ys) (at + length xs) l)
    ∙ ap (λ (i : ℕ). p ++ (ys ++ drop i l)) e
    ∙ append_assoc (take at l) xs (ys ++ drop (at + length (xs ++ ys)) l)
    ∙ ap (λ (z : List ℕ). take at l ++ z) (sym (append_assoc xs ys (drop (at + length (xs ++ ys)) l)))

-- the loop that copies: a turn, and the end
pub copy_turn : (at : ℕ) (src l d : List ℕ) (j : ℕ) → d ≡ over at (take j src) l → at + length src ≤ length l → j < length src
    → set d (at + j) (get_or src j 0) ≡ over at (take (j + 1) src) l
copy_turn at src l d j q h k =
    let n : length (take j src) ≡ j = length-take-le j src (omega arith) in
    let s : at + length (take j src) < length l = omega arith in
    rw (q, add-one, take-suc src j 0) (rw n at (over_snoc at (take j src) l (get_or src j 0) s))

pub copy_end : (at : ℕ) (src l d : List ℕ) (j : ℕ) → d ≡ over at (take j src) l → length src ≤ j → d ≡ over at src l
copy_end at src l d j q h = rw take_all at q

-- the loop that clears: a turn
pub clear_turn : (at n : ℕ) (l d : List ℕ) (j : ℕ) → d ≡ over at (replicate j 0) l → at + n ≤ length l → j < n
    → set d (at + j) 0 ≡ over at (replicate (j + 1) 0) l
clear_turn at n l d j q h k =
    let z : List ℕ = replicate j 0 in
    let e : length z ≡ j = length-replicate j 0 in
    let s : at + length z < length l = omega arith in
    rw (q, ← replicate-append-replicate) (rw e at (over_snoc at z l 0 s))

-- two stores
pub two_sets : (at x y : ℕ) (l : List ℕ) → at + 1 < length l → set (set l at x) (at + 1) y ≡ over at (x ∷ y ∷ []) l
unfolding over
two_sets at x y l h = rw add-one (sets-eq (x ∷ y ∷ []) l at (omega arith) ∙ append_assoc (take at l) (x ∷ y ∷ []) (drop (at + 2) l))

-- a two-byte number
pub two_at_lem : (at v : ℕ) (l : List ℕ) → at + 1 < length l → v < 65536 → set (set l at (v % 256)) (at + 1) (v / 256) ≡ over at (two v) l
two_at_lem at v l h k =
    let e : v / 256 ≡ v / 256 % 256 = omega arith in
    ap (set (set l at (v % 256)) (at + 1)) e ∙ two_sets at (v % 256) (v / 256 % 256) l h

-- four stores
pub four_sets : (at a b c d : ℕ) (l : List ℕ) → at + 3 < length l
    → set (set (set (set l at a) (at + 1) b) (at + 2) c) (at + 3) d ≡ over at (a ∷ b ∷ c ∷ d ∷ []) l
unfolding over
four_sets at a b c d l h =
    rw (add-one, add-two, add-three) (sets-eq (a ∷ b ∷ c ∷ d ∷ []) l at (omega arith) ∙ append_assoc (take at l) (a ∷ b ∷ c ∷ d ∷ []) (drop (at + 4) l))

-- two writes in a row, of adjacent pieces, are one
pub over_then : (at k : ℕ) (xs ys l m n : List ℕ) → m ≡ over at xs l → n ≡ over k ys m → k ≡ at + length xs → at + (length xs + length ys) ≤ length l
    → n ≡ over at (xs ++ ys) l
over_then at k xs ys l m n p q e h = q ∙ ap (λ (z : List ℕ). over k ys z) p ∙ over_next at k xs ys l e h

-- a write in the first part, and one in the second
pub over_left : (a : ℕ) (xs p q : List ℕ) → a + length xs ≤ length p → over a xs (p ++ q) ≡ over a xs p ++ q
unfolding over
over_left a xs p q h =
    let h' : a ≤ length p = omega arith in
    rw (take-append-le, drop-append-le) (simp append_assoc)

pub over_right : (a m : ℕ) (xs p q : List ℕ) → a ≡ length p + m → over a xs (p ++ q) ≡ p ++ over m xs q
unfolding over
over_right a m xs p q e =
    rw (e, add_assoc, take-append-add, drop-append-add) (append_assoc p (take m q) (xs ++ drop (m + length xs) q))

-- a write at the whole
pub over_all : (xs l : List ℕ) → length xs ≡ length l → over 0 xs l ≡ xs
unfolding over
over_all xs l e = rw (drop_of_length-le l {i = 0 + length xs} (omega arith)) (append-nil xs)

-- a front that is replaced
pub over_front : (n : ℕ) (ys l : List ℕ) → length ys ≡ n → ys ++ drop n l ≡ over 0 ys l
unfolding over
over_front n ys l e = rw (← e, zero-add)

-- a write over a write
pub over_again : (a : ℕ) (xs ys l : List ℕ) → length ys ≡ length xs → a + length xs ≤ length l → over a ys (over a xs l) ≡ over a ys l
unfolding over
over_again a xs ys l e h =
    let t : length (take a l) ≡ a = length-take-le a l (omega arith) in
    let r : List ℕ = drop (a + length xs) l in
    let n : length (take a l ++ xs) ≡ a + length xs = simp length-append (omega arith) in
    rw (e, take_at (take a l) (xs ++ r) a t)
    (ap (λ (z : List ℕ). take a l ++ (ys ++ z)) (rw (← append_assoc (take a l) xs r) (drop_at (take a l ++ xs) r (a + length xs) n)))

-- the front that was written
pub take_over : (n : ℕ) (xs l : List ℕ) → length xs ≡ n → take n (over 0 xs l) ≡ xs
unfolding over
take_over n xs l e = take_at xs (drop (0 + length xs) l) n e

-- a write within what was written
pub over_inside : (a k : ℕ) (xs ys l : List ℕ) → k + length ys ≤ length xs → a + length xs ≤ length l
    → over (a + k) ys (over a xs l) ≡ over a (over k ys xs) l
over_inside a k xs ys l h room =
    let t : length (take a l) ≡ a = length-take-le a l (omega arith) in
    let r : List ℕ = drop (a + length xs) l in
    let n : length (over k ys xs) ≡ length xs = length_over k ys xs h in
    ap (λ (z : List ℕ). over (a + k) ys z) (over_is a xs l) ∙ over_right (a + k) k ys (take a l) (xs ++ r) (omega arith)
    ∙ ap (λ (z : List ℕ). take a l ++ z) (over_left k ys xs r h)
    ∙ ap (λ (z : ℕ). take a l ++ (over k ys xs ++ drop (a + z) l)) (sym n) ∙ sym (over_is a (over k ys xs) l)
