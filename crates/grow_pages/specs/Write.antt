-- Pages written.
use Rattle.std.specs.Prelude.{◌≡◌, refl, cond, List, [], ◌∷◌, ◌++◌, ℕ, zero, suc, ◌+◌, ◌-◌, ◌*◌, ◌≤◌, length, replicate}
use Rattle.std.proofs.Common.{◌∙◌, append_assoc, arith, length-append}
use Rattle.std.proofs.lemmas.List.{length-replicate}
use Rattle.model.specs.Limits.{page_size, capacity}
use Rattle.model.specs.Row.{two, trailer, Held, record_bytes, record_page}
use Rattle.theory_rows.specs.Image.{length_record}
use Rattle.base_numbers.specs.Over.{over, over_then}

-- The image with page p replaced.
unfoldable pub set_page : (page : ℕ) → (bytes image : List ℕ) → List ℕ
set_page p s l = over (page_size * p) s l

-- What follows a record of n bytes on its page: zeros, and the trailer; settled is 0 or 1.
abbrev pub end_bytes : (n settled holder : ℕ) → List ℕ
end_bytes n s h = replicate (capacity - n) 0 ++ trailer 1 s n h

-- A record's page: its bytes, and what follows.
unfoldable pub page_bytes_of : (content : List ℕ) → (settled holder : ℕ) → List ℕ
page_bytes_of c s h = c ++ end_bytes (length c) s h

pub record_page_is : (h : Held) → record_page h ≡ page_bytes_of (record_bytes h.row) (cond h.settled 1 0) h.holder
unfolding page_bytes_of
record_page_is h = rw (length_record h.row) (simp append_assoc)

pub length_page_bytes_of : (c : List ℕ) (s h : ℕ) → length c ≤ capacity → length (page_bytes_of c s h) ≡ page_size
unfolding page_bytes_of
length_page_bytes_of c s h k = simp (length-append, length-replicate) (omega arith)

state : (s : ℕ) → s ≤ 1 → two (1 + 256 * s) ≡ 1 ∷ s ∷ []
state zero h = refl
state (suc zero) h = refl
state (suc (suc s)) h = absurd (omega arith)

-- The five writes after a record of n bytes.
pub end_written : (p n s h : ℕ) (l b d e f g : List ℕ) → page_size * p + page_size ≤ length l → n ≤ capacity → s ≤ 1
    → b ≡ over (page_size * p + n) (replicate (capacity - n) 0) l
    → d ≡ over (page_size * p + capacity) (two (1 + 256 * s)) b
    → e ≡ over (page_size * p + capacity + 2) (two n) d
    → f ≡ over (page_size * p + capacity + 4) (two h) e
    → g ≡ over (page_size * p + capacity + 6) (replicate 10 0) f
    → g ≡ over (page_size * p + n) (end_bytes n s h) l
end_written p n s h l b d e f g room k t qb qd qe qf qg =
    let at = page_size * p + n in
    let z : List ℕ = replicate (capacity - n) 0 in
    let nz : length z ≡ capacity - n = length-replicate _ _ in
    let qd' : d ≡ over (page_size * p + capacity) (1 ∷ s ∷ []) b = rw (state s t) at qd in
    let w2 : d ≡ over at (z ++ (1 ∷ s ∷ [])) l = over_then _ _ _ _ _ _ _ qb qd' (omega arith) (omega arith) in
    let w3 : e ≡ over at ((z ++ (1 ∷ s ∷ [])) ++ two n) l =
    over_then _ _ _ _ _ _ _ w2 qe (simp length-append (omega arith)) (simp length-append (omega arith)) in
    let w4 : f ≡ over at (((z ++ (1 ∷ s ∷ [])) ++ two n) ++ two h) l =
    over_then _ _ _ _ _ _ _ w3 qf (simp length-append (omega arith)) (simp length-append (omega arith)) in
    over_then _ _ _ _ _ _ _ w4 qg (simp length-append (omega arith)) (simp length-append (omega arith)) ∙ simp append_assoc

-- A record written, and what follows it.
pub record_written : (p s h : ℕ) (c l a b : List ℕ) → page_size * p + page_size ≤ length l → length c ≤ capacity → a ≡ over (page_size * p) c l
    → b ≡ over (page_size * p + length c) (end_bytes (length c) s h) a → b ≡ set_page p (page_bytes_of c s h) l
unfolding set_page page_bytes_of
record_written p s h c l a b room k qa qb = over_then _ _ _ _ _ _ _ qa qb refl (simp (length-append, length-replicate) (omega arith))

-- A page written whole.
pub page_written : (p : ℕ) (s l m : List ℕ) → m ≡ over (page_size * p) s l → m ≡ set_page p s l
unfolding set_page
page_written p s l m e = e
