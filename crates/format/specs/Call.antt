-- The call's ways out.
use Rattle.std.specs.Prelude.{◌≡◌, true, false, ◌&&◌, List, ℕ, ◌*◌, ◌/◌, length, eqb}
use Rattle.std.proofs.Common.{sym, ap, arith, eqb-true}
use Rattle.model.specs.Limits.{page_size}
use Rattle.model.specs.Row.{in_range, image}
use Rattle.model.specs.Reading.{length_ok}
use Rattle.model.specs.Calls.Format.{config, format_number, format_of}
use Rattle.model.specs.declared.Settings.{Settings}
use Rattle.theory_decoding.specs.Valid.{both}
use Rattle.theory_decoding.specs.Length.{length_says}
use Rattle.format.specs.First.{first_root}

module _ (img : List ℕ) (s : Settings) (m : List ℕ) (label : ℕ) where
  -- The answer and the image of the call, from the call.
  pub outcome : (number : ℕ) (after : List ℕ) → format_of img s m label ≡ (number, after)
      → (number ≡ (format_of img s m label).0) × (after ≡ (format_of img s m label).1)
  outcome number after e = (sym (ap (λ (a : ℕ × List ℕ). a.0) e), sym (ap (λ (a : ℕ × List ℕ). a.1) e))

  pub refused_1 : length_ok (length img) ≡ false → format_of img s m label ≡ (1, img)
  unfolding format_of format_number
  refused_1 e = rw e

  module _ (e : length_ok (length img) ≡ true) where
    pub refused_2 : (in_range (config s m) && eqb s.pages (length img / page_size)) ≡ false → format_of img s m label ≡ (2, img)
    unfolding format_of format_number
    refused_2 f = rw (e, f)

    pub accepted : (in_range (config s m) && eqb s.pages (length img / page_size)) ≡ true
        → format_of img s m label ≡ (0, image (config s m) (first_root label))
    unfolding format_of format_number
    accepted f = rw (e, f)

-- What write_first asks.
pub ready : (n : ℕ) (s : Settings) (m : List ℕ) → length_ok n ≡ true → (in_range (config s m) && eqb s.pages (n / page_size)) ≡ true
    → (n ≡ page_size * s.pages) × (in_range (config s m) ≡ true)
ready n s m e f =
    let h = both (in_range (config s m)) (eqb s.pages (n / page_size)) f in
    let l = length_says n e in
    (omega (arith, eqb-true s.pages (n / page_size) h.1), h.0)
