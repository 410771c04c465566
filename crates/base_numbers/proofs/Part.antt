-- A write to a part of a slice is an `over`.
use Rattle.std.specs.Prelude.{◌≡◌, List, ◌++◌, ℕ, ◌+◌, ◌≤◌, length, take, drop, replicate}
use Rattle.std.proofs.Common.{sym, ap, ◌∙◌, arith, length-take, length-drop, drop-drop}
use Rattle.std.proofs.lemmas.List.{length-replicate}
use borrow.Rule.Slice.PartMut.{put_mid}
use Rattle.base_numbers.specs.Over.{over}

pub part_over : (at k : ℕ) (l ys xs : List ℕ) → ys ≡ xs → k ≡ length xs → put_mid at k l ys ≡ over at xs l
unfolding over
part_over at k l ys xs e n = rw (e, n) (ap (λ (z : List ℕ). take at l ++ (xs ++ z)) (drop-drop (length xs) at l))

-- The part that `fill` writes has n bytes.
pub zeros_over : (at k n : ℕ) (l ys : List ℕ) → ys ≡ replicate (length (take k (drop at l))) 0 → k ≡ n → at + n ≤ length l
    → put_mid at k l ys ≡ over at (replicate n 0) l
zeros_over at k n l ys e q h =
    let m : length (take k (drop at l)) ≡ n = simp (length-take, length-drop) (omega arith) in
    part_over at k l ys (replicate n 0) (e ∙ ap (λ (i : ℕ). replicate i 0) m) (q ∙ sym (length-replicate n 0))
