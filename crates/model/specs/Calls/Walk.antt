-- Walk: the nodes from a place on, in document order, an entry of nine numbers each, to the front of the lent buffer.
use Rattle.std.specs.Prelude.{List, [], ◌∷◌, ◌++◌, map, ℕ, zero, suc, ◌+◌, ◌/◌, length, take, drop, get_or}
use Rattle.std.proofs.Math.Option.{Option}
use Rattle.model.specs.Tree.{Tree, shown, Node, nodes, place_of, from_place}
use Rattle.model.specs.Answers.{no_place_there, no_place, walk_refused}
use Rattle.model.specs.Common.{place_or, opened, on_store}
use Rattle.model.specs.Effect.{Effect, asking}
use Rattle.model.specs.Calls.Read.{read_from, as_read}
use Rattle.model.specs.declared.Place.{Place}
use Rattle.model.specs.Answers.{ReadNode}
use Rattle.model.specs.Answers.{WalkAnswer}

-- An entry: level, page, offset, kind, origin, label, children, start of the content in the image, its length; from kind on as Read gives them.
abbrev pub entry : (level : ℕ) → Place → ReadNode → List ℕ
entry level x r = level ∷ x.page ∷ x.offset ∷ r.kind ∷ r.origin ∷ r.label ∷ r.children ∷ r.start ∷ r.len ∷ []

-- Of a node: the root has level 1; `place` gives the place of a path.
abbrev pub entry_of : (place : List ℕ → Option Place) → Node → List ℕ
entry_of place n =
    let x = place_or (place n.path) in
    entry (1 + length n.path) x (as_read x (read_from (n ∷ [])))

abbrev pub joined : List (List ℕ) → List ℕ
joined [] = []
joined (e ∷ es) = e ++ joined es

abbrev pub entries_of : (place : List ℕ → Option Place) → List Node → List ℕ
entries_of place ns = joined (map (entry_of place) ns)

-- The answer once so many entries are written, and these nodes are left.
abbrev pub walk_answer : (place : List ℕ → Option Place) → (written : ℕ) → (left : List Node) → WalkAnswer
walk_answer place k [] = record { number = 0; written = k; more = 0; next = no_place }
walk_answer place k (n ∷ ns) = record { number = 0; written = k; more = 1; next = place_or (place n.path) }

-- From the nodes in document order, from the one at the place on: as many whole entries as the buffer takes; the rest of it is unchanged.
abbrev pub walk_from : (place : List ℕ → Option Place) → List Node → (buffer : List ℕ) → WalkAnswer × List ℕ
walk_from place [] buffer = (walk_refused no_place_there, buffer)
walk_from place (n ∷ ns) buffer =
    let room = length buffer / 9 in
    let told = take room (n ∷ ns) in
    let written = entries_of place told in
    (walk_answer place (length told) (drop room (n ∷ ns)), written ++ drop (length written) buffer)

-- In a tree whose nodes have places.
unfoldable pub walk_in : Tree → (place : List ℕ → Option Place) → Place → (buffer : List ℕ) → WalkAnswer × List ℕ
walk_in t place x buffer = walk_from place (from_place place x (nodes t)) buffer

unfoldable pub walk_of : (img : List ℕ) → Place → (buffer : List ℕ) → WalkAnswer × List ℕ
walk_of img x buffer = on_store (opened img) (λ n. (walk_refused n, buffer)) (λ st root. walk_in (shown root) (place_of root) x buffer)

-- ── in a list of calls ──

-- The contents are compared as bytes: on the image those parts of it that the first k entries of the buffer name,
abbrev pub parts_in : (img : List ℕ) → (k : ℕ) → (buffer : List ℕ) → List (List ℕ)
parts_in img zero b = []
parts_in img (suc k) b = take (get_or b 8 0) (drop (get_or b 7 0) img) ∷ parts_in img k (drop 9 b)

-- and in the plain tree those of the first k nodes.
abbrev pub contents_of : (k : ℕ) → List Node → List (List ℕ)
contents_of k ns = map (λ (n : Node). n.content) (take k ns)

-- The answer, the buffer, and the contents that the entries name.
abbrev pub walk_call : Place → (buffer : List ℕ) → Effect
walk_call x buffer = asking (WalkAnswer × (List ℕ × List (List ℕ))) (λ a. a.0.number)
    (λ img.
    let a = walk_of img x buffer in
    (a.0, (a.1, parts_in img a.0.written a.1)))
    (λ f h t.
    let a = walk_in t f.place x buffer in
    (a.0, (a.1, contents_of a.0.written (from_place f.place x (nodes t)))))
