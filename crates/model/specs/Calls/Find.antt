-- Find: the place of the node that a path names.
use Rattle.std.specs.Prelude.{List, [], ◌∷◌, ℕ, length, ltb}
use Rattle.std.proofs.Math.Option.{Option}
use Rattle.model.specs.Limits.{longest_path}
use Rattle.model.specs.Tree.{Tree, shown, place_of}
use Rattle.model.specs.Answers.{long_path, no_node, first_refusal, find_refused}
use Rattle.model.specs.Common.{named_by, path_of, accept, is_none, place_or, opened, on_store}
use Rattle.model.specs.Effect.{Effect, asking}
use Rattle.model.specs.declared.Place.{Place}
use Rattle.model.specs.Answers.{FindAnswer}

-- In a tree whose nodes have places.
unfoldable pub find_in : Tree → (place : List ℕ → Option Place) → (path : List ℕ) → FindAnswer
find_in t place path =
    let n = first_refusal ((long_path, ltb longest_path (length path)) ∷ (no_node, is_none (named_by t path)) ∷ []) in
    accept n (record { number = 0; place = place_or (place (path_of path)) }) (find_refused n)

unfoldable pub find_of : (img path : List ℕ) → FindAnswer
find_of img path = on_store (opened img) find_refused (λ st root. find_in (shown root) (place_of root) path)

abbrev pub find_call : (path : List ℕ) → Effect
find_call path = asking FindAnswer (λ a. a.number) (λ img. find_of img path) (λ f h t. find_in t f.place path)
