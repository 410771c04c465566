-- Climb: the path of the node at a place, to the front of the lent buffer.
use Rattle.std.specs.Prelude.{List, [], ◌∷◌, ℕ}
use Rattle.std.proofs.Math.Option.{Option}
use Rattle.model.specs.Tree.{Tree, shown, Node, nodes, place_of, from_place}
use Rattle.model.specs.Answers.{no_place_there, write_refused}
use Rattle.model.specs.Common.{path_bytes, write, opened, on_store}
use Rattle.model.specs.Effect.{Effect, asking}
use Rattle.model.specs.declared.Place.{Place}
use Rattle.model.specs.Answers.{WriteAnswer}

-- From the nodes in document order, from the one at the place on; none if no node has the place.
abbrev pub climb_from : List Node → (buffer : List ℕ) → WriteAnswer × List ℕ
climb_from [] buffer = (write_refused no_place_there, buffer)
climb_from (n ∷ ns) buffer = write (path_bytes n.path) buffer

-- In a tree whose nodes have places.
unfoldable pub climb_in : Tree → (place : List ℕ → Option Place) → Place → (buffer : List ℕ) → WriteAnswer × List ℕ
climb_in t place x buffer = climb_from (from_place place x (nodes t)) buffer

unfoldable pub climb_of : (img : List ℕ) → Place → (buffer : List ℕ) → WriteAnswer × List ℕ
climb_of img x buffer = on_store (opened img) (λ n. (write_refused n, buffer)) (λ st root. climb_in (shown root) (place_of root) x buffer)

-- The answer, and the buffer.
abbrev pub climb_call : Place → (buffer : List ℕ) → Effect
climb_call x buffer = asking (WriteAnswer × List ℕ) (λ a. a.0.number) (λ img. climb_of img x buffer) (λ f h t. climb_in t f.place x buffer)
