-- A text written to a buffer, and texts written one after another.
use Rattle.std.specs.Prelude.{◌≡◌, refl, List, [], ◌∷◌, ◌++◌, ℕ, ◌+◌, ◌≤◌, ◌<◌, length, set}
use Rattle.std.proofs.Common.{sym, ap, subst, ◌∙◌, arith, length-append}
use Rattle.base_numbers.specs.Over.{over, over_nil, over_next, over_snoc, length_over}

-- The text fits the buffer from `at` on.
pub record Room (text : List ℕ) (at : ℕ) (out : List ℕ) : Type 0 where
  pub fits : at + length text ≤ length out

-- The text stands in the buffer from `at` to `end`, and the rest is as before.
pub record Wrote (text : List ℕ) (at : ℕ) (before after : List ℕ) (end : ℕ) : Type 0 where
  pub bytes : after ≡ over at text before
  pub ends : end ≡ at + length text
  pub fits : end ≤ length after
  pub same : length after ≡ length before

pub wrote : {text : List ℕ} {at : ℕ} {before : List ℕ} → Room text at before → (after : List ℕ) (end : ℕ) → after ≡ over at text before
    → end ≡ at + length text → Wrote text at before after end
wrote {text} {at} {before} r after end b e =
    let s : length after ≡ length before = ap length b ∙ length_over at text before r.fits in
    record { bytes = b; ends = e; fits = omega (arith, r.fits); same = s }

pub nothing : (at : ℕ) (out : List ℕ) → at ≤ length out → Wrote [] at out out at
nothing at out h = record { bytes = sym (over_nil at out); ends = omega arith; fits = h; same = refl }

-- ── one after another ──

pub then : {xs ys : List ℕ} {at k m : ℕ} {a b c : List ℕ} → Wrote xs at a b k → Wrote ys k b c m → Wrote (xs ++ ys) at a c m
then {xs} {ys} {at} {k} {m} {a} {b} {c} v w =
    let h : at + (length xs + length ys) ≤ length a = omega (arith, v.ends, v.same, w.ends, w.same, w.fits) in
    record {
      bytes = w.bytes ∙ ap (over k ys) v.bytes ∙ over_next at k xs ys a v.ends h;
      ends = omega (arith, v.ends, w.ends, length-append xs ys);
      fits = w.fits;
      same = w.same ∙ v.same;
    }

pub one_byte : {b at : ℕ} {out : List ℕ} → Room (b ∷ []) at out → Wrote (b ∷ []) at out (set out at b) (at + 1)
one_byte {b} {at} {out} r =
    let h : at + 0 < length out = omega (arith, r.fits) in
    let z : at + 0 ≡ at = omega arith in
    wrote r (set out at b) (at + 1) (subst (λ (n : ℕ). set out n b ≡ over at (b ∷ []) out) z
    (ap (λ (l : List ℕ). set l (at + 0) b) (sym (over_nil at out)) ∙ over_snoc at [] out b h)) refl

pub same_text : {xs ys : List ℕ} {at m : ℕ} {a b : List ℕ} → xs ≡ ys → Wrote xs at a b m → Wrote ys at a b m
same_text {xs} {ys} {at} {m} {a} {b} e w = subst (λ (t : List ℕ). Wrote t at a b m) e w

pub same_room : {xs ys : List ℕ} {at : ℕ} {a : List ℕ} → xs ≡ ys → Room xs at a → Room ys at a
same_room {xs} {ys} {at} {a} e r = subst (λ (t : List ℕ). Room t at a) e r
