-- Literals that a walk passes one after another.
use Rattle.std.specs.Prelude.{◌≡◌, refl, Bool, true, false, not, ◌&&◌, List, ℕ, ◌-◌, ◌≤◌, ◌<◌, eqb, leb, ltb}
use Rattle.std.proofs.Common.{sym, ◌∙◌, true≢false, arith, eqb-true, leb-true, ltb-true, ltb-false, eq-eqb, ne_eqb, le-leb}
use Rattle.std.proofs.lemmas.Bool.{eqb-false, not-true}
use Rattle.model.specs.Reading.{kind_at}
use Rattle.theory_decoding.specs.Valid.{both}
use Rattle.read_cursor.specs.Going.{Roomy}
use Rattle.read_cursor.specs.declared.Cursor.{Cursor}

-- A literal is next, and there is room for its entry.
abbrev pub literal_next : (image : List ℕ) → Cursor → (room : ℕ) → Bool
literal_next img c room = not (eqb c.i c.end) && eqb (kind_at img c.i) 2 && leb 9 (room - (c.at - 1))

pub record LiteralNext (img : List ℕ) (c : Cursor) (room : ℕ) : Type 0 where
  pub some : c.i ≡ c.end → ⊥
  pub kind : kind_at img c.i ≡ 2
  pub roomy : Roomy c room

pub literal_next_lem : (img : List ℕ) (c : Cursor) (room : ℕ) → 1 ≤ c.at → c.next ≡ 0 → literal_next img c room ≡ true → LiteralNext img c room
literal_next_lem img c room begun calm e =
    let fits = both _ _ e in
    let kind = both _ _ fits.0 in
    record {
      some = eqb-false c.i c.end (not-true _ kind.0);
      kind = eqb-true (kind_at img c.i) 2 kind.1;
      roomy = record { begun = begun; calm = calm; fits = omega (arith, leb-true 9 (room - (c.at - 1)) fits.1) };
    }

pub next_literal : (img : List ℕ) (c : Cursor) (room : ℕ) → LiteralNext img c room → literal_next img c room ≡ true
next_literal img c room n =
    λ j. not (ne_eqb c.i c.end n.some j)
    && eq-eqb (kind_at img c.i) 2 n.kind j
    && le-leb 9 (room - (c.at - 1)) (omega (arith, n.roomy.begun, n.roomy.fits)) j

-- A walk that could go on from a and cannot at b has come further.
pub further : (a b : ℕ) (could can : Bool) → a ≤ b → (b ≡ a → can ≡ could) → can ≡ false → could ≡ true → a < b
further a b x y h same not-now before = go (ltb a b) refl
  where
    go : (d : Bool) → ltb a b ≡ d → a < b
    go true e = ltb-true a b e
    go false e = absurd (true≢false (sym before ∙ sym (same (omega (arith, ltb-false a b e))) ∙ not-now))

-- Of the kinds of a node, the other one.
pub aggregate : (kind : ℕ) → ((kind ≡ 1 → ⊥) → kind ≡ 2) → (kind ≡ 2 → ⊥) → kind ≡ 1
aggregate k two other = go (eqb k 1) refl
  where
    go : (b : Bool) → eqb k 1 ≡ b → k ≡ 1
    go true e = eqb-true k 1 e
    go false e = absurd (other (two (eqb-false k 1 e)))
