-- Next: the place, kind and origin of the following node in document order, or the end.
use Rattle.std.specs.Prelude.{cond, List, [], ◌∷◌, ℕ, eqb}
use Rattle.std.proofs.Math.Option.{Option}
use Rattle.model.specs.Tree.{Tree, shown, Node, nodes, place_of, from_place}
use Rattle.model.specs.Answers.{no_place_there, next_refused}
use Rattle.model.specs.Common.{place_or, opened, on_store}
use Rattle.model.specs.Effect.{Effect, asking}
use Rattle.model.specs.declared.Place.{Place}
use Rattle.model.specs.declared.Kind.{Kind}
use Rattle.model.specs.declared.Kind.TheVariants.{Aggregate, Literal}
use Rattle.model.specs.declared.Origin.{Origin}
use Rattle.model.specs.declared.Origin.TheVariants.{Wire, Stored, TypedIn, Derived}
use Rattle.model.specs.declared.NextNode.{NextNode}
use Rattle.model.specs.declared.Next.TheVariants as next_is
use Rattle.model.specs.Answers.{NextAnswer}

abbrev pub kind_of : (number : ℕ) → Kind
kind_of k = cond (eqb k 1) Aggregate Literal

abbrev pub origin_of : (number : ℕ) → Origin
origin_of k = cond (eqb k 0) Wire (cond (eqb k 1) Stored (cond (eqb k 2) TypedIn Derived))

-- What Next tells of a node; `place` gives the place of a path.
abbrev pub as_next : (place : List ℕ → Option Place) → Node → NextNode
as_next place n = record { place = place_or (place n.path); kind = kind_of n.kind; origin = origin_of n.head.origin }

-- From the nodes in document order, from the one at the place on.
abbrev pub next_from : (place : List ℕ → Option Place) → List Node → NextAnswer
next_from place [] = next_refused no_place_there
next_from place (n ∷ []) = record { number = 0; next = next_is.End }
next_from place (n ∷ m ∷ ns) = record { number = 0; next = next_is.Node (as_next place m) }

unfoldable pub next_in : Tree → (place : List ℕ → Option Place) → Place → NextAnswer
next_in t place x = next_from place (from_place place x (nodes t))

unfoldable pub next_of : (img : List ℕ) → Place → NextAnswer
next_of img x = on_store (opened img) next_refused (λ st root. next_in (shown root) (place_of root) x)

abbrev pub next_call : Place → Effect
next_call x = asking NextAnswer (λ a. a.number) (λ img. next_of img x) (λ f h t. next_in t f.place x)
