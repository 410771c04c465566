-- A removal's number, image, table and map: from its tests and what it took out to the definition.
use Rattle.std.specs.Prelude.{◌≡◌, refl, true, false, not, length, None, Some}
use Rattle.std.proofs.Math.Path.{sym, ap, subst}
use Rattle.std.proofs.Common.{◌∙◌, true≢false, arith}
use Rattle.std.proofs.Math.Bool.{not-eq-not}
use mathlib.Core.List.{List}
use Prim.Native.Nat.{ℕ, ◌≤◌, ◌<◌}
use borrow.Author.Tests.{le-ltb, lt-ltb, eq-eqb, ne_eqb}
use Rattle.model.specs.Limits.{longest_path}
use Rattle.model.specs.Row.{Row, Config, image, valid}
use Rattle.model.specs.Tree.{Tree, shown}
use Rattle.model.specs.Reading.{Reads}
use Rattle.model.specs.Spot.{stand_of}
use Rattle.model.specs.Removal.{without, removed}
use Rattle.model.specs.Common.{named_by, path_of, is_none}
use Rattle.model.specs.Calls.Remove.{remove_number, remove_of}
use Rattle.theory_decoding.specs.Reading.{reads_length}
use Rattle.theory_layout.specs.Widths.{Widths, widths}
use Rattle.theory_removal.specs.Stand.{stand_leaves}
use Rattle.theory_removal.specs.Keeps.{removed_is}
use Rattle.theory_calls.specs.Remove.{Removable, removable, removal, remove_accepted, remove_refused}
use Rattle.grow_map.specs.Mapped.{Mapped, mapped}
use Rattle.remove_locate.specs.declared.Standing.{Standing}
use Rattle.remove_locate.specs.Leave.{standing_of}
use Rattle.remove_path.specs.Locate.{Locates}
use Rattle.remove_node.specs.Going.{Going}
use Rattle.remove_node.specs.Gone.{Gone}

-- The number, and the image, the table and the map that are left.
pub record Answers (img path : List ℕ) (n : ℕ) (after entries next : List ℕ) : Type 0 where
  pub number : n ≡ (remove_of img path).0
  pub image : after ≡ (remove_of img path).1
  pub table : Widths after entries
  pub map : Mapped after next

-- ── the tests ──

module _ (t : Tree) (path : List ℕ) where
  too_long : longest_path < length path → remove_number t path ≡ 4
  unfolding remove_number
  too_long h = rw (lt-ltb longest_path (length path) h)

  module _ (short : length path ≤ longest_path) where
    no_bytes : length path ≡ 0 → remove_number t path ≡ 14
    unfolding remove_number
    no_bytes e = rw (le-ltb longest_path (length path) short, eq-eqb (length path) 0 e)

    no_node_lem : (length path ≡ 0 → ⊥) → is_none (named_by t path) ≡ true → remove_number t path ≡ 7
    unfolding remove_number
    no_node_lem z e = rw (le-ltb longest_path (length path) short, ne_eqb (length path) 0 z, e)

    no_refusal : (length path ≡ 0 → ⊥) → is_none (named_by t path) ≡ false → remove_number t path ≡ 0
    unfolding remove_number
    no_refusal z e = rw (le-ltb longest_path (length path) short, ne_eqb (length path) 0 z, e)

-- ── refused ──

module _ {img u m : List ℕ} {st : Config} {root : Row} (r : Reads img st root) (table : Widths img u) (map : Mapped img m) (path : List ℕ) where
  refused : (n : ℕ) → remove_number (shown root) path ≡ n → (n ≡ 0 → ⊥) → Answers img path n img u m
  refused n e z =
      let o = remove_refused img st root r path n e z in
      record { number = sym (ap (λ (o : ℕ × List ℕ). o.0) o); image = sym (ap (λ (o : ℕ × List ℕ). o.1) o); table = table; map = map }

  pub refused_long : longest_path < length path → Answers img path 4 img u m
  refused_long h = refused 4 (too_long (shown root) path h) (λ e. omega arith)

  module _ (short : length path ≤ longest_path) where
    pub refused_empty : length path ≡ 0 → Answers img path 14 img u m
    refused_empty e = refused 14 (no_bytes (shown root) path short e) (λ e. omega arith)

    module _ (z : length path ≡ 0 → ⊥) where
      pub refused_absent : Locates root path None → Answers img path 7 img u m
      refused_absent l =
          let none = (not-eq-not {b = true}).0 (λ f. true≢false (sym (ap not f) ∙ sym l.found)) in
          refused 7 (no_node_lem (shown root) path short z none) (λ e. omega arith)

      -- ── accepted ──

      module _ (s : Standing) (l : Locates root path (Some s)) where
        number_is : remove_number (shown root) path ≡ 0
        number_is = no_refusal (shown root) path short z ((not-eq-not {b = false}).0 (λ f. true≢false (l.found ∙ ap not f)))

        able : Removable root path
        able = removable root path number_is

        pub going : Going img u m s
        going = record {
          st = st;
          root = root;
          reads = r;
          new = _;
          t = able.stand;
          leaves = stand_leaves root able.first able.more able.stand able.stands;
          found = let is : Some s ≡ Some (standing_of able.stand) = l.stands refl able.stand (ap (stand_of root) able.is ∙ able.stands) in cc;
          table = table.store st root r;
          map = map;
        }

        pub accepted : (after entries next : List ℕ) → Gone going after entries next → Answers img path 0 after entries next
        unfolding going
        accepted after entries next g =
            let o = remove_accepted img st root r path number_is in
            let is : removed root (path_of path) ≡ without able.stand =
            ap (removed root) able.is ∙ removed_is st root able.first able.more able.stand able.stands in
            let passes = subst (λ (x : Row). valid st x ≡ true) is (removal st root path r.passes number_is).keeps in
            let reads : Reads after st (without able.stand) = record { passes = passes; same = g.image } in
            record {
              number = sym (ap (λ (o : ℕ × List ℕ). o.0) o);
              image = g.image ∙ ap (image st) (sym is) ∙ sym (ap (λ (o : ℕ × List ℕ). o.1) o);
              table = widths after entries st (without able.stand) reads g.table;
              map = mapped after next st (without able.stand) reads (omega (arith, map.long, g.map_long, reads_length img st root r))
                  (omega (arith, map.small, g.map_long)) g.right;
            }
