-- A loop that tests every element without an early exit: the flag so far, and the rest of the list.
use Rattle.std.specs.Prelude.{◌≡◌, refl, List, Bool, true, false, ◌&&◌, ℕ, ◌+◌, ◌≤◌, ◌<◌, length, drop, get_or}
use Rattle.std.proofs.Common.{sym, ap, ◌∙◌, true≢false, add-one, arith, drop-cons}
use Rattle.std.proofs.Math.Seq.{drop-length}
use Rattle.model.specs.Row.{every}

module _ (f : ℕ → Bool) (s : List ℕ) where
  abbrev pub Rest : ℕ → Bool → Type 0
  Rest i ok = (ok && every f (drop i s)) ≡ every f s

  split : (i : ℕ) → i < length s → every f (drop i s) ≡ (f (get_or s i 0) && every f (drop (i + 1) s))
  split i h = rw (add-one, drop-cons s i 0 h)

  turn : (i : ℕ) (ok b : Bool) → i < length s → f (get_or s i 0) ≡ b → Rest i ok → (ok && (b && every f (drop (i + 1) s))) ≡ every f s
  turn i ok b h e r = sym (ap (λ (x : Bool). ok && x) (split i h ∙ ap (λ (x : Bool). x && every f (drop (i + 1) s)) e)) ∙ r

  -- The element at i passes.
  pub keeps : (i : ℕ) (ok : Bool) → i < length s → f (get_or s i 0) ≡ true → Rest i ok → Rest (i + 1) ok
  keeps i ok h e r = turn i ok true h e r

  -- The element at i fails.
  pub fails : (i : ℕ) (ok : Bool) → i < length s → f (get_or s i 0) ≡ false → Rest i ok → Rest (i + 1) false
  fails i ok h e r = go ok (turn i ok false h e r)
    where
      go : (b : Bool) → (b && false) ≡ every f s → false ≡ every f s
      go true q = q
      go false q = q

  -- What passes by the largest element, each by a number that is kept: `ok` is lost with a larger one alone.
  module _ (ok : ℕ → Bool) (less : (a b : ℕ) → a ≤ b → ok b ≡ true → ok a ≡ true) (i x most : ℕ) (h : i < length s) (is : f (get_or s i 0) ≡ ok x)
      (r : Rest i (ok most)) where
    pub larger : most < x → Rest (i + 1) (ok x)
    larger l = go (ok x) refl
      where
        go : (b : Bool) → ok x ≡ b → Rest (i + 1) (ok x)
        go true e = rw e (keeps i true h (is ∙ e) (rw (less most x (omega arith) e) at r))
        go false e = rw e (fails i (ok most) h (is ∙ e) r)

    pub as_large : x ≤ most → Rest (i + 1) (ok most)
    as_large l = go (ok x) (ok most) refl refl
      where
        go : (b m : Bool) → ok x ≡ b → ok most ≡ m → Rest (i + 1) (ok most)
        go true m e q = keeps i (ok most) h (is ∙ e) r
        go false true e q = absurd (true≢false (sym (less x most l q) ∙ e))
        go false false e q = rw q (fails i (ok most) h (is ∙ e) r)

  pub done : (i : ℕ) (ok : Bool) → i ≡ length s → Rest i ok → ok ≡ every f s
  done i ok e r = go ok (ap (λ (l : List ℕ). ok && every f l) (sym (ap (λ (k : ℕ). drop k s) e ∙ drop-length s)) ∙ r)
    where
      go : (b : Bool) → (b && true) ≡ every f s → b ≡ every f s
      go true q = q
      go false q = q
