-- What a writer writes.
use Rattle.std.specs.Prelude.{◌≡◌, refl, List, [], ◌++◌, ℕ, ◌≤◌, length}
use Rattle.std.proofs.Common.{◌∙◌, subst}
use Rattle.listing_lines.specs.Wrote.{Room, Wrote, nothing, then}
use Rattle.listing_lines.specs.declared.Writer.{Writer}

-- The text fits behind what is written.
abbrev pub Fits : (xs : List ℕ) → Writer → Type 0
Fits xs w = Room xs w.at w.out.now

-- The text is written next, to the same buffer.
pub record Writes (xs : List ℕ) (before after : Writer) : Type 0 where
  pub text : Wrote xs before.at before.out.now after.out.now after.at
  pub same_buffer : after.out.ghost_name ≡ before.out.ghost_name

pub writes_none : (w : Writer) → w.at ≤ length w.out.now → Writes [] w w
writes_none w h = record { text = nothing w.at w.out.now h; same_buffer = refl }

pub writes_then : {xs ys : List ℕ} {a b c : Writer} → Writes xs a b → Writes ys b c → Writes (xs ++ ys) a c
writes_then v w = record { text = then v.text w.text; same_buffer = w.same_buffer ∙ v.same_buffer }

pub writes_as : {xs ys : List ℕ} {a b : Writer} → xs ≡ ys → Writes xs a b → Writes ys a b
writes_as {xs} {ys} {a} {b} e w = subst (λ (t : List ℕ). Writes t a b) e w
