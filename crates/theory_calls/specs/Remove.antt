-- Remove in a list of calls.
use Rattle.std.specs.Prelude.{◌≡◌, Bool, cond, List, [], ◌∷◌, ℕ, ◌+◌, ◌*◌, ◌≤◌, length, ltb, eqb}
use Rattle.std.proofs.Math.Path.{refl, sym, subst}
use Rattle.std.proofs.Common.{ap, ◌∙◌, true≢false, arith}
use Rattle.std.proofs.Math.Bool.{true, false}
use Rattle.std.proofs.lemmas.Bool.{false≢true}
use Rattle.std.proofs.Math.Option.{Option, none, some, map, some-injective, none-ne-some}
use borrow.Author.Tests.{eqb-true, eqb-false, ne_eqb, ltb-false}
use Rattle.model.specs.Limits.{longest_path}
use Rattle.model.specs.Row.{Row, Config, image, valid}
use Rattle.model.specs.Tree.{Tree, shown, Node, named, remove_at}
use Rattle.model.specs.Reading.{Reads}
use Rattle.model.specs.Spot.{Stand, stand_of}
use Rattle.model.specs.Removal.{removed}
use Rattle.model.specs.Common.{entries, named_if, named_by, or_empty, path_of, is_none}
use Rattle.model.specs.Claims.{Matches, CallHolds, Removal}
use Rattle.model.specs.Calls.Remove.{remove_number, remove_of, remove_call}
use Rattle.theory_decoding.specs.Valid.{valid_holds, valid_says}
use Rattle.theory_removal.specs.Keeps.{removed_shows, removed_valid}
use Rattle.theory_removal.specs.Found.{stand_found}
use Rattle.theory_calls.specs.Open.{opens}
use Rattle.theory_calls.specs.FirstRefusal.{first_clear, first_given}
use Rattle.theory_calls.specs.Matches.{image_matches}

-- ── the tests ──

abbrev pub remove_tests : Tree → (path : List ℕ) → List (ℕ × Bool)
remove_tests t path = (4, ltb longest_path (length path)) ∷ (14, eqb (length path) 0) ∷ (7, is_none (named_by t path)) ∷ []

-- 12 is none of its numbers.
never_full : (t : Tree) (path : List ℕ) → remove_number t path ≡ 12 → ⊥
unfolding remove_number
never_full t path = first_given 12 (remove_tests t path) (omega arith) (omega arith, (omega arith, (omega arith, tt)))

-- Only a path of no bytes has no entries.
no_entries : (path : List ℕ) → entries path ≡ some [] → length path ≡ 0
no_entries [] e = refl
no_entries (a ∷ []) e = absurd (none-ne-some _ e)
no_entries (a ∷ b ∷ []) e = absurd (none-ne-some _ e)
no_entries (a ∷ b ∷ c ∷ []) e = absurd (none-ne-some _ e)
no_entries (a ∷ b ∷ c ∷ d ∷ s) e = absurd (go (entries s) e)
  where
    n : ℕ
    n = a + 256 * b + 65536 * c + 16777216 * d

    go : (r : Option (List ℕ)) → map (λ ns. n ∷ ns) r ≡ some [] → ⊥
    go none e = none-ne-some _ e
    go (some ns) e = let z = ap {B = ℕ} length (some-injective (n ∷ ns) [] e) in omega arith

-- An accepted removal: its path has an entry, and the node stands in the records.
pub record Removable (root : Row) (path : List ℕ) : Type 0 where
  pub short : length path ≤ longest_path
  pub first : ℕ
  pub more : List ℕ
  pub is : path_of path ≡ first ∷ more
  pub stand : Stand
  pub stands : stand_of root (first ∷ more) ≡ some stand

pub removable : (root : Row) (path : List ℕ) → remove_number (shown root) path ≡ 0 → Removable root path
unfolding remove_number
removable root path z =
    let u = first_clear (remove_tests (shown root) path) (omega arith, (omega arith, (omega arith, tt))) z in
    go (ltb-false _ _ u.0) (eqb-false _ _ u.1.0) (entries path) refl u.1.1.0
  where
    at : length path ≤ longest_path → (p : List ℕ) → entries path ≡ some p → (o : Option Node) → named (shown root) p ≡ o → is_none o ≡ false
        → (length path ≡ 0 → ⊥) → Removable root path
    at short p e none n f z = absurd (true≢false f)
    at short [] e (some n) g f z = absurd (z (no_entries path e))
    at short (j ∷ p) e (some n) g f z =
        let (t, s) = stand_found root (j ∷ p) n g in
        record { short = short; first = j; more = p; is = ap or_empty e; stand = t; stands = s }

    go : length path ≤ longest_path → (length path ≡ 0 → ⊥) → (o : Option (List ℕ)) → entries path ≡ o → is_none (named_if (shown root) o) ≡ false
        → Removable root path
    go short z none e f = absurd (true≢false f)
    go short z (some p) e f = at short p e (named (shown root) p) refl f z

-- ── what an accepted removal leaves ──

pub removal : Removal
removal st root path v z =
    let r = removable root path z in
    let k = subst (λ (p : List ℕ). (valid st (removed root p) ≡ true) × (shown (removed root p) ≡ remove_at 0 p (shown root))) (sym r.is) (
      valid_holds st _ (removed_valid st root r.first r.more r.stand r.stands (valid_says st root v)),
      removed_shows st root r.first r.more r.stand r.stands,
    ) in
    record { keeps = k.0; shows = k.1 }

-- ── on an image ──

module _ (img : List ℕ) (st : Config) (root : Row) (r : Reads img st root) (path : List ℕ) where
  n : ℕ
  n = remove_number (shown root) path

  new : Row
  new = removed root (path_of path)

  outcome : Bool → ℕ × List ℕ
  outcome b = cond b (0, image st new) (n, img)

  remove_is : remove_of img path ≡ outcome (eqb n 0)
  unfolding remove_of outcome n new
  remove_is = rw (opens img st root r)

  -- Accepted, and refused.
  pub remove_accepted : remove_number (shown root) path ≡ 0 → remove_of img path ≡ (0, image st (removed root (path_of path)))
  unfolding outcome n new
  remove_accepted z = remove_is ∙ rw z

  pub remove_refused : (k : ℕ) → remove_number (shown root) path ≡ k → (k ≡ 0 → ⊥) → remove_of img path ≡ (k, img)
  unfolding outcome n new
  remove_refused k e z = remove_is ∙ rw (e, ne_eqb k 0 z)

  number : (b : Bool) → eqb n 0 ≡ b → (outcome b).0 ≡ n
  unfolding outcome
  number true e = sym (eqb-true n 0 e)
  number false e = refl

  same_number : (remove_of img path).0 ≡ n
  same_number = ap (λ (z : ℕ × List ℕ). z.0) remove_is ∙ number (eqb n 0) refl

  after : (b : Bool) → eqb n 0 ≡ b → Matches (outcome b).1 (cond b (remove_at 0 (path_of path) (shown root)) (shown root))
  unfolding outcome n new
  after true e =
      let k = removal st root path r.passes (eqb-true n 0 e) in
      subst (Matches (image st new)) k.shows (image_matches (image st new) st new (record { passes = k.keeps; same = refl }))
  after false e = image_matches img st root r

  pub remove_holds : (order : (img buffer : List ℕ) → List ℕ) → CallHolds order img (shown root) (remove_call path)
  unfolding n
  remove_holds order = record {
    answer = same_number;
    full = (λ z. absurd (never_full (shown root) path (sym same_number ∙ z)), λ z. absurd (false≢true z.1));
    after = rw remove_is (after (eqb n 0) refl);
  }
