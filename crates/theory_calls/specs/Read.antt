-- Read in a list of calls.
use Rattle.std.specs.Prelude.{◌≡◌, Bool, true, false, cond, ◌+◌, ◌*◌, ℕ, length, take, drop, eqb}
use Rattle.std.proofs.Math.Path.{refl}
use Rattle.std.proofs.Common.{sym, ap, ◌∙◌, eqb-true}
use Rattle.std.proofs.Math.Option.{some}
use Rattle.std.proofs.lemmas.Bool.{eqb-false}
use mathlib.Core.List.{List, [], ◌∷◌}
use native.Mathlib.Omega.{arith}
use Rattle.model.specs.Row.{Row, Config}
use Rattle.model.specs.Tree.{shown, Node, nodes, place_of, from_place}
use Rattle.model.specs.Reading.{Reads}
use Rattle.model.specs.Claims.{CallHolds}
use Rattle.theory_calls.specs.Open.{opens}
use Rattle.theory_calls.specs.Asking.{asked}
use Rattle.model.specs.Limits.{page_size}
use Rattle.model.specs.Calls.Read.{ReadValue, read_from, read_in, as_read, read_of, value_of, read_call}
use Rattle.model.specs.declared.Place.{Place}
use Rattle.theory_decoding.specs.Reading.{reads_valid}
use Rattle.theory_places.specs.Member.{Mem}
use Rattle.theory_places.specs.Order.{one_root}
use Rattle.theory_places.specs.Named.{in_tree}
use Rattle.theory_places.specs.From.{from_stands}
use Rattle.theory_places.specs.Content.{content_at}
use Rattle.theory_calls.specs.Pieces.{literal_content}

-- ── the content that Read hands over ──

module _ (img : List ℕ) (st : Config) (root : Row) (r : Reads img st root) (x : Place) where
  -- A node's content stands where its place says.
  pub part : (n : Node) → Mem n (nodes (shown root)) → place_of root n.path ≡ some x
      → take (length n.content) (drop (cond (eqb (length n.content) 0) 0 (page_size * x.page + x.offset + 6)) img) ≡ n.content
  part n m e = go (eqb (length n.content) 0) refl
    where
      none_there : (c : List ℕ) → length c ≡ 0 → c ≡ []
      none_there [] z = refl
      none_there (b ∷ c) z = absurd (omega arith)

      go : (b : Bool) → eqb (length n.content) 0 ≡ b → take (length n.content) (drop (cond b 0 (page_size * x.page + x.offset + 6)) img) ≡ n.content
      go true z = rw (none_there n.content (eqb-true _ _ z))
      go false z =
          let v = reads_valid img st root r in
          let kind = literal_content (shown root) n m (λ k. eqb-false (length n.content) 0 z (ap length k)) in
          rw r.same (content_at st root v n.path n x (in_tree (shown root) n (one_root st root v) m) e kind)

  same_value : value_of img (as_read x (read_in (shown root) (place_of root) x)) ≡ read_in (shown root) (place_of root) x
  unfolding read_in
  same_value = go (from_place (place_of root) x (nodes (shown root))) refl
    where
      v : ReadValue → ReadValue
      v a = value_of img (as_read x a)

      go : (ns : List Node) → from_place (place_of root) x (nodes (shown root)) ≡ ns
          → v (read_from ns) ≡ read_from ns
      go [] e = refl
      go (n ∷ ns) e =
          let m = from_stands (place_of root) x (nodes (shown root)) ns n e in
          λ i. record { number = 0; kind = n.kind; origin = n.head.origin; label = n.head.label; children = n.children; content = part n m.0 m.1 i }

module _ (order : (img buffer : List ℕ) → List ℕ) (img : List ℕ) (st : Config) (root : Row) (r : Reads img st root) where
  module _ (x : Place) where
    told : value_of img (read_of img x) ≡ read_in (shown root) (place_of root) x
    unfolding read_of
    told = rw (opens img st root r) (same_value img st root r x)

    -- 12 is none of its numbers.
    never_full : (value_of img (read_of img x)).number ≡ 12 → ⊥
    unfolding read_in
    never_full z = go (from_place (place_of root) x (nodes (shown root))) (sym (ap (λ (a : ReadValue). a.number) told) ∙ z)
      where
        go : (ns : List Node) → (read_from ns).number ≡ 12 → ⊥
        go [] e = omega arith
        go (n ∷ ns) e = omega arith

    pub read_holds : CallHolds order img (shown root) (read_call x)
    unfolding read_of
    read_holds =
        asked order img st root r ReadValue (λ a. a.number) (λ i. value_of i (read_of i x)) _ (rw (opens img st root r) (same_value img st root r x))
        never_full
