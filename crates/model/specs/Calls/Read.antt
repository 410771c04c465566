-- Read: what the node at a place is, and its content as a part of the image.
use Rattle.std.specs.Prelude.{cond, List, [], ◌∷◌, ℕ, ◌+◌, ◌*◌, length, take, drop, eqb}
use Rattle.std.proofs.Math.Option.{Option}
use Rattle.model.specs.Limits.{page_size}
use Rattle.model.specs.Tree.{Tree, shown, Node, nodes, place_of, from_place}
use Rattle.model.specs.Answers.{no_place_there, read_refused}
use Rattle.model.specs.Common.{opened, on_store}
use Rattle.model.specs.Effect.{Effect, asking}
use Rattle.model.specs.declared.Place.{Place}
use Rattle.model.specs.Answers.{ReadNode}

-- What Read tells of a node, with its content as bytes.
pub record ReadValue : Type 0 where
  pub number : ℕ
  pub kind : ℕ
  pub origin : ℕ
  pub label : ℕ
  pub children : ℕ
  pub content : List ℕ

-- Of the first of some nodes.
abbrev pub read_from : List Node → ReadValue
read_from [] = record { number = no_place_there; kind = 0; origin = 0; label = 0; children = 0; content = [] }
read_from (n ∷ ns) = record { number = 0; kind = n.kind; origin = n.head.origin; label = n.head.label; children = n.children; content = n.content }

-- In a tree whose nodes have places.
unfoldable pub read_in : Tree → (place : List ℕ → Option Place) → Place → ReadValue
read_in t place x = read_from (from_place place x (nodes t))

-- The content is the part of the image six bytes past the node's place; an empty one starts at 0.
abbrev pub as_read : Place → ReadValue → ReadNode
as_read x v = record {
  number = v.number;
  kind = v.kind;
  origin = v.origin;
  label = v.label;
  children = v.children;
  start = cond (eqb (length v.content) 0) 0 (page_size * x.page + x.offset + 6);
  len = length v.content;
}

unfoldable pub read_of : (img : List ℕ) → Place → ReadNode
read_of img x = on_store (opened img) read_refused (λ st root. as_read x (read_in (shown root) (place_of root) x))

-- The part of the image that Read hands over.
abbrev pub part_of : (img : List ℕ) → ReadNode → List ℕ
part_of img r = take r.len (drop r.start img)

abbrev pub value_of : (img : List ℕ) → ReadNode → ReadValue
value_of img r = record { number = r.number; kind = r.kind; origin = r.origin; label = r.label; children = r.children; content = part_of img r }

-- The content is compared as bytes.
abbrev pub read_call : Place → Effect
read_call x = asking ReadValue (λ a. a.number) (λ img. value_of img (read_of img x)) (λ f h t. read_in t f.place x)
