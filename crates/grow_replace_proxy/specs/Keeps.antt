-- With one node or more in a proxy's place the record keeps its kind of root.
use Rattle.std.specs.Prelude.{◌≡◌, refl, Bool, true, ◌⊎◌, ℕ, ◌≤◌}
use Rattle.std.proofs.Common.{sym, ◌∙◌, true≢false, inl, inr, arith}
use Rattle.std.proofs.lemmas.Bool.{false≢true}
use Rattle.model.specs.Row.{Row, rec, ◌⊹◌, node_count}
use Rattle.theory_rows.specs.Fits.{Shape, one, more}
use Rattle.theory_rows.specs.Keeps.{node_count-⊹}
use Rattle.model.specs.Spot.{Position, here, inside, fill}
use Rattle.grow_splice.specs.Position.{is_inside}
use Rattle.grow_splice.specs.Splice.{KeepsRoot, inside_keeps, many_keeps}
use Rattle.grow_replace_proxy.specs.Left.{proxy_root}

-- A proxy at the top of a row has another node beside it.
pub proxy_keeps : (s : Position) (q : ℕ) (b : Bool) (old rest put : Row) → (is_inside s ≡ true) ⊎ (2 ≤ node_count (fill s (rec q b old rest))) → 1 ≤ node_count put
    → KeepsRoot s (rec q b old rest) (put ⊹ rest)
proxy_keeps (inside left h right s) q b old rest put f k = inside_keeps left h right s (rec q b old rest) (put ⊹ rest)
proxy_keeps (here left) q b old rest put (inl e) k = absurd (false≢true e)
proxy_keeps (here left) q b old rest put (inr n) k =
    many_keeps (here left) (rec q b old rest) (put ⊹ rest) n
    (omega (arith, node_count-⊹ left (rec q b old rest), node_count-⊹ left (put ⊹ rest), node_count-⊹ put rest))

-- So it is in a record that fits.
pub shape_keeps : {t : Bool} (s : Position) (q : ℕ) (b : Bool) (old rest put : Row) → Shape t (fill s (rec q b old rest)) → 1 ≤ node_count put
    → KeepsRoot s (rec q b old rest) (put ⊹ rest)
shape_keeps s q b old rest put v k = proxy_keeps s q b old rest put (beside s v) k
  where
    beside : {t : Bool} (s : Position) → Shape t (fill s (rec q b old rest)) → (is_inside s ≡ true) ⊎ (2 ≤ node_count (fill s (rec q b old rest)))
    beside (inside left h right s) v = inl refl
    beside (here left) v = inr (many v)
      where
        many : {t : Bool} → Shape t (left ⊹ rec q b old rest) → 2 ≤ node_count (left ⊹ rec q b old rest)
        many (one e) = absurd (true≢false (sym e ∙ proxy_root (here left) q b old rest refl))
        many (more r n) = n
