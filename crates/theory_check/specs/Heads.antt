-- What a header that passes says of its node's bytes.
use Rattle.std.specs.Prelude.{◌≡◌, refl, List, [], ◌∷◌, ◌++◌, ℕ, zero, suc, ◌+◌, ◌≤◌, ◌<◌, length, take, drop, get_or}
use Rattle.std.proofs.Common.{sym, ap, ap₂, ◌∙◌, arith, get_or-drop}
use Rattle.model.specs.Row.{two, header}
use Rattle.model.specs.Reading.{two_at, head_at}
use Rattle.theory_rows.specs.Fits.{IsByte}
use Rattle.theory_decoding.specs.Decode.{two_is}
use Rattle.theory_check.specs.Steps.{Passing}

-- ── bytes ──

-- Every number of a list is a byte.
abbrev pub AllBytes : List ℕ → Type 0
AllBytes s = (i : ℕ) → get_or s i 0 < 256

pub all_drop : (n : ℕ) (s : List ℕ) → AllBytes s → AllBytes (drop n s)
all_drop n s h i = rw get_or-drop (h (n + i))

pub all_take : (n : ℕ) (s : List ℕ) → AllBytes s → AllBytes (take n s)
all_take zero s h i = omega arith
all_take (suc n) [] h i = omega arith
all_take (suc n) (x ∷ xs) h zero = h zero
all_take (suc n) (x ∷ xs) h (suc i) = all_take n xs (λ j. h (suc j)) i

pub is_byte_lem : (s : List ℕ) → AllBytes s → IsByte s
is_byte_lem [] h = tt
is_byte_lem (x ∷ s) h = (h 0, is_byte_lem s (λ i. h (suc i)))

pub two_at_lem : (s : List ℕ) (i : ℕ) → AllBytes s → two (two_at s i) ≡ get_or s i 0 ∷ get_or s (i + 1) 0 ∷ []
unfolding two_at
two_at_lem s i all = two_is (get_or s i 0) (get_or s (i + 1) 0) (all i) (all (i + 1))

pub two_low : (s : List ℕ) (i : ℕ) → AllBytes s → two_at s i < 65536
unfolding two_at
two_low s i all = omega (arith, all i, all (i + 1))

six : (s : List ℕ) → 6 ≤ length s → s ≡ get_or s 0 0 ∷ get_or s 1 0 ∷ get_or s 2 0 ∷ get_or s 3 0 ∷ get_or s 4 0 ∷ get_or s 5 0 ∷ drop 6 s
six [] h = absurd (omega arith)
six (a ∷ []) h = absurd (omega arith)
six (a ∷ b ∷ []) h = absurd (omega arith)
six (a ∷ b ∷ d ∷ []) h = absurd (omega arith)
six (a ∷ b ∷ d ∷ e ∷ []) h = absurd (omega arith)
six (a ∷ b ∷ d ∷ e ∷ f ∷ []) h = absurd (omega arith)
six (a ∷ b ∷ d ∷ e ∷ f ∷ g ∷ r) h = refl

-- ── heads ──

-- A node of bytes that passes.
pub record PassingNode (s : List ℕ) (holder kind : ℕ) : Type 0 where
  pub all : AllBytes s
  pub node : Passing s holder kind

-- The bytes are the header and what follows it.
pub header_is : (s : List ℕ) (holder kind : ℕ) → PassingNode s holder kind → s ≡ header kind (head_at s 0) (length s) ++ drop 6 s
header_is s holder kind h =
    let label = two_at_lem s 2 h.all in
    let size : two (length s) ≡ get_or s 4 0 ∷ get_or s 5 0 ∷ [] = ap two (sym h.node.size) ∙ two_at_lem s 4 h.all in
    six s h.node.long
    ∙ ap (λ (k : ℕ). k ∷ get_or s 1 0 ∷ get_or s 2 0 ∷ get_or s 3 0 ∷ get_or s 4 0 ∷ get_or s 5 0 ∷ drop 6 s) h.node.first
    ∙ sym (ap₂ (λ (x y : List ℕ). (kind ∷ get_or s 1 0 ∷ x ++ y) ++ drop 6 s) label size)
