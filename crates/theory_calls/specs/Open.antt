-- Opening an image: what the check says, and the store that a passing image holds.
use Rattle.std.specs.Prelude.{◌≡◌, refl, Bool, true, false, cond, List, ℕ, length}
use Rattle.std.proofs.Common.{sym, ap, ◌∙◌, arith}
use Rattle.std.proofs.Math.Option.{Option, none, some}
use Rattle.model.specs.Row.{Row, Config}
use Rattle.model.specs.Reading.{Reads, length_ok, reading}
use Rattle.model.specs.Common.{Opened, refused, holds, as_opened, opened, on_store}
use Rattle.model.specs.Calls.Check.{check_of}
use Rattle.model.specs.Claims.{CheckExact}
use Rattle.theory_decoding.specs.Reading.{sound, complete, reads_length_ok}

pub opens : (img : List ℕ) (st : Config) (root : Row) → Reads img st root → opened img ≡ holds st root
unfolding opened
opens img st root r = rw (reads_length_ok img st root r, complete img st root r)

-- The number that an opened image gives.
abbrev code : Opened → ℕ
code (refused n) = n
code (holds st root) = 0

abbrev opening : Bool → Option (Config × Row) → Opened
opening b r = cond b (as_opened r) (refused 1)

check_is : (img : List ℕ) → check_of img ≡ code (opening (length_ok (length img)) (reading img))
unfolding check_of opened
check_is img = go (length_ok (length img)) (reading img)
  where
    go : (b : Bool) (r : Option (Config × Row)) → on_store (opening b r) (λ n. n) (λ st root. 0) ≡ code (opening b r)
    go true none = refl
    go true (some s) = refl
    go false r = refl

read_of_lem : (img : List ℕ) (s : Config × Row) → reading img ≡ some s → Reads img s.0 s.1
read_of_lem img s e = sound img s.0 s.1 e

-- The check passes exactly where there is a reading.
pub passing : (img : List ℕ) → check_of img ≡ 0 → (s : Config × Row) × Reads img s.0 s.1
passing img z = go (length_ok (length img)) (reading img) refl (sym (check_is img) ∙ z)
  where
    go : (b : Bool) (r : Option (Config × Row)) → reading img ≡ r → code (opening b r) ≡ 0 → (s : Config × Row) × Reads img s.0 s.1
    go true none e z = absurd (omega arith)
    go true (some s) e z = (s, read_of_lem img s e)
    go false r e z = absurd (omega arith)

pub passes : (img : List ℕ) (st : Config) (root : Row) → Reads img st root → check_of img ≡ 0
passes img st root r = check_is img ∙ rw (reads_length_ok img st root r, complete img st root r)

pub check_exact : (img : List ℕ) → CheckExact img
check_exact img = record {
  passes = (passing img, λ s. passes img s.0.0 s.0.1 s.1);
  misfit = (λ z. short (length_ok (length img)) (reading img) (sym (check_is img) ∙ z), λ e. check_is img ∙ rw e);
  broken = (λ z. neither (length_ok (length img)) (reading img) (sym (check_is img) ∙ z), λ e. check_is img ∙ rw (e.0, e.1));
}
  where
    short : (b : Bool) (r : Option (Config × Row)) → code (opening b r) ≡ 1 → b ≡ false
    short true none z = absurd (omega arith)
    short true (some s) z = absurd (omega arith)
    short false r z = refl

    neither : (b : Bool) (r : Option (Config × Row)) → code (opening b r) ≡ 3 → (b ≡ true) × (r ≡ none)
    neither true none z = (refl, refl)
    neither true (some s) z = absurd (omega arith)
    neither false r z = absurd (omega arith)

-- An image that does not pass is refused by the check's number, whatever the call.
pub refuses : (img : List ℕ) (n : ℕ) → check_of img ≡ n → (n ≡ 0 → ⊥) → opened img ≡ refused n
unfolding check_of
refuses img n e z = go (opened img) e
  where
    go : (o : Opened) → on_store o (λ n. n) (λ st root. 0) ≡ n → o ≡ refused n
    go (refused m) e = ap refused e
    go (holds st root) e = absurd (z (sym e))

-- What does not pass is refused by its length or as broken.
pub not_passing : (img : List ℕ) → (check_of img ≡ 0 → ⊥) → check_of img ≡ cond {A = ℕ} (length_ok (length img)) 3 1
not_passing img z = check_is img ∙ go (length_ok (length img)) (reading img) (λ e. z (check_is img ∙ e))
  where
    go : (b : Bool) (r : Option (Config × Row)) → (code (opening b r) ≡ 0 → ⊥) → code (opening b r) ≡ cond {A = ℕ} b 3 1
    go true none z = refl
    go true (some s) z = absurd (z refl)
    go false r z = refl
