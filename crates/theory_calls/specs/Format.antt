-- Format in a list of calls.
use Rattle.std.specs.Prelude.{◌≡◌, Bool, cond, ◌&&◌, List, [], ◌∷◌, length, eqb}
use Rattle.std.proofs.Math.Path.{refl, sym}
use Rattle.std.proofs.Common.{◌∙◌, eqb-true, lt-ltb}
use Rattle.std.proofs.Math.Bool.{true, false, not}
use Rattle.std.proofs.lemmas.Bool.{false≢true}
use Prim.Native.Nat.{ℕ, ◌/◌, ◌<◌}
use native.Mathlib.Omega.{arith}
use Rattle.model.specs.Limits.{page_size}
use Rattle.model.specs.Row.{Row, nil, agg, Config, image, in_range, valid}
use Rattle.model.specs.Tree.{end, branch, shown}
use Rattle.model.specs.Reading.{Reads, length_ok}
use Rattle.model.specs.Claims.{Matches, CallHolds}
use Rattle.model.specs.Calls.Format.{config, format_number, root_head, format_of, format_call}
use Rattle.model.specs.declared.Settings.{Settings}
use Rattle.theory_calls.specs.FirstRefusal.{first_clear, first_given}
use Rattle.theory_calls.specs.Matches.{image_matches}

-- A root aggregate alone is a valid store.
first_reads : (st : Config) (label : ℕ) → in_range st ≡ true → label < 65536
    → Reads (image st (agg (root_head label) nil nil)) st (agg (root_head label) nil nil)
unfolding valid
first_reads st label e h = record { passes = rw (e, lt-ltb label 65536 h); same = refl }

module _ (n : ℕ) (st : Config) where
  abbrev tests : List (ℕ × Bool)
  tests = (1, not (length_ok n)) ∷ (2, not (in_range st && eqb st.pages (n / page_size))) ∷ []

  in_range_lem : format_number n st ≡ 0 → in_range st ≡ true
  unfolding format_number
  in_range_lem z = go (in_range st) (eqb st.pages (n / page_size)) (first_clear tests (omega arith, (omega arith, tt)) z).1.0
    where
      go : (a b : Bool) → not (a && b) ≡ false → a ≡ true
      go true b e = refl
      go false b e = sym e

  -- 12 is none of its numbers.
  never_full : format_number n st ≡ 12 → ⊥
  unfolding format_number
  never_full = first_given 12 tests (omega arith) (omega arith, (omega arith, tt))

module _ (order : (img buffer : List ℕ) → List ℕ) (img : List ℕ) (st : Config) (root : Row) (r : Reads img st root)
    (s : Settings) (m : List ℕ) (label : ℕ) (h : label < 65536) where
  pub format_holds : CallHolds order img (shown root) (format_call s m label)
  unfolding format_of
  format_holds = record {
    answer = number (eqb n 0) refl;
    full = (λ z. absurd (never_full (length img) (config s m) (sym (number (eqb n 0) refl) ∙ z)), λ z. absurd (false≢true z.1));
    after = then (eqb n 0) refl;
  }
    where
      n : ℕ
      n = format_number (length img) (config s m)

      first : List ℕ
      first = image (config s m) (agg (root_head label) nil nil)

      number : (b : Bool) → eqb n 0 ≡ b → (cond {A = ℕ × List ℕ} b (0, first) (n, img)).0 ≡ n
      number true e = sym (eqb-true n 0 e)
      number false e = refl

      then : (b : Bool) → eqb n 0 ≡ b → Matches (cond {A = ℕ × List ℕ} b (0, first) (n, img)).1 (cond b (branch (root_head label) end end) (shown root))
      then true e = image_matches first (config s m) _ (first_reads (config s m) label (in_range_lem (length img) (config s m) (eqb-true n 0 e)) h)
      then false e = image_matches img st root r
