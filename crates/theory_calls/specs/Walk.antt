-- Walk in a list of calls.
use Rattle.std.specs.Prelude.{◌≡◌, take}
use Rattle.std.proofs.Math.Path.{refl}
use Rattle.std.proofs.Common.{ap}
use mathlib.Core.List.Memᴰ
use mathlib.Core.List.{List, [], ◌∷◌, ◌++◌, map}
use Rattle.std.proofs.Math.Option.{Option}
use Prim.Native.Nat.{ℕ, zero, suc, ◌/◌}
use native.Mathlib.Omega.{arith}
use Rattle.std.proofs.Math.ListN.{length, drop}
use Rattle.model.specs.Row.{Row, Config}
use Rattle.model.specs.Tree.{shown, Node, nodes, place_of, from_place}
use Rattle.model.specs.Reading.{Reads}
use Rattle.model.specs.Claims.{CallHolds}
use Rattle.model.specs.Calls.Walk.{entries_of, walk_answer, walk_from, walk_in, walk_of, parts_in, contents_of, walk_call}
use Rattle.model.specs.declared.Place.{Place}
use Rattle.model.specs.Answers.{WalkAnswer}
use Rattle.theory_decoding.specs.Reading.{reads_valid}
use Rattle.theory_places.specs.Member.{Mem}
use Rattle.theory_places.specs.Named.{in_place}
use Rattle.theory_calls.specs.Open.{opens}
use Rattle.theory_calls.specs.Asking.{asked}
use Rattle.theory_calls.specs.Read.{part}
use Rattle.theory_calls.specs.Navigate.{from_suffix}

-- What is taken once is taken again.
take_again : {A : Type 0} (k : ℕ) (l : List A) → take (length (take k l)) l ≡ take k l
take_again zero l = refl
take_again (suc k) [] = refl
take_again (suc k) (x ∷ l) = ap (◌∷◌ x) (take_again k l)

answer_number : (place : List ℕ → Option Place) (k : ℕ) (ns : List Node) → (walk_answer place k ns).number ≡ 0
answer_number place k [] = refl
answer_number place k (n ∷ ns) = refl

answer_written : (place : List ℕ → Option Place) (k : ℕ) (ns : List Node) → (walk_answer place k ns).written ≡ k
answer_written place k [] = refl
answer_written place k (n ∷ ns) = refl

module _ (order : (img buffer : List ℕ) → List ℕ) (img : List ℕ) (st : Config) (root : Row) (r : Reads img st root) where
  -- The parts that entries name are the contents of their nodes.
  parts : (k : ℕ) (ns : List Node) (rest : List ℕ) → ((n : Node) → Mem n ns → Mem n (nodes (shown root)))
      → parts_in img (length (take k ns)) (entries_of (place_of root) (take k ns) ++ rest) ≡ map (λ (n : Node). n.content) (take k ns)
  parts zero ns rest m = refl
  parts (suc k) [] rest m = refl
  parts (suc k) (n ∷ ns) rest m =
      let own = m n (Memᴰ.head refl) in
      let p = in_place st root (reads_valid img st root r) n own in
      let one = part img st root r p.0 n own p.1 in
      let more = parts k ns rest (λ o i. m o (Memᴰ.tail i)) in
      rw (p.1, one, more)

  module _ (x : Place) (buffer : List ℕ) where
    abbrev found : List Node
    found = from_place (place_of root) x (nodes (shown root))

    all_nodes : (n : Node) → Mem n found → Mem n (nodes (shown root))
    all_nodes n m =
        let s = from_suffix (place_of root) x (nodes (shown root)) found refl in
        rw s.1 (Memᴰ.append_right s.0 m)

    abbrev answered : WalkAnswer × List ℕ
    answered = walk_in (shown root) (place_of root) x buffer

    same_parts : parts_in img answered.0.written answered.1 ≡ contents_of answered.0.written found
    unfolding walk_in
    same_parts = go found all_nodes
      where
        go : (ns : List Node) → ((n : Node) → Mem n ns → Mem n (nodes (shown root)))
            → parts_in img (walk_from (place_of root) ns buffer).0.written (walk_from (place_of root) ns buffer).1
            ≡ contents_of (walk_from (place_of root) ns buffer).0.written ns
        go [] m = refl
        go (n ∷ ns) m =
            let room = length buffer / 9 in
            let rest = drop (length (entries_of (place_of root) (take room (n ∷ ns)))) buffer in
            rw (answer_written (place_of root) (length (take room (n ∷ ns))) (drop room (n ∷ ns)), take_again room (n ∷ ns)) (parts room (n ∷ ns) rest m)

    -- The answer with its buffer and the contents.
    abbrev with : List (List ℕ) → WalkAnswer × (List ℕ × List (List ℕ))
    with c = (answered.0, (answered.1, c))

    same : with (parts_in img answered.0.written answered.1) ≡ with (contents_of answered.0.written found)
    same = ap with same_parts

    -- 12 is none of its numbers.
    never_full : (walk_of img x buffer).0.number ≡ 12 → ⊥
    unfolding walk_of walk_in
    never_full z = go found (rw (opens img st root r) at z)
      where
        go : (ns : List Node) → (walk_from (place_of root) ns buffer).0.number ≡ 12 → ⊥
        go [] e = omega arith
        go (n ∷ ns) e =
            let room = length buffer / 9 in
            omega (arith, answer_number (place_of root) (length (take room (n ∷ ns))) (drop room (n ∷ ns)))

    pub walk_holds : CallHolds order img (shown root) (walk_call x buffer)
    unfolding walk_of
    walk_holds = asked order img st root r (WalkAnswer × (List ℕ × List (List ℕ))) (λ a. a.0.number) _ _ (rw (opens img st root r) same) never_full
