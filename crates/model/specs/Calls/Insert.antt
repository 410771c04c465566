-- Insert: a new node as child k of the node that the path names.
use Rattle.std.specs.Prelude.{Bool, true, false, not, ◌&&◌, ◌||◌, List, [], ◌∷◌, ◌++◌, ◌≡◌, ℕ, ◌<◌, length, ltb, eqb}
use Rattle.std.proofs.Math.Option.{Option, none, some}
use Rattle.model.specs.Limits.{most_content, most_origin, longest_parent}
use Rattle.model.specs.Row.{Row, Config, image, every, is_byte}
use Rattle.model.specs.Tree.{Tree, shown, Node, New, insert_at, place_of}
use Rattle.model.specs.Growth.{Work, no_work, Out, grow}
use Rattle.model.specs.Answers.{long_path, wrong_kind, wrong_origin, long_content, no_node, literal_parent, past_children, no_free_page, first_refusal}
use Rattle.model.specs.Answers.{insert_refused}
use Rattle.model.specs.Common.{named_by, path_of, accept, is_none, place_or, opened, on_store}
use Rattle.model.specs.Effect.{Effect}
use Rattle.model.specs.Answers.{InsertAnswer}

-- Kind not 1 or 2, or an aggregate with content.
abbrev pub kind_bad : New → Bool
kind_bad x = not (eqb x.kind 1 || eqb x.kind 2) || (eqb x.kind 1 && not (eqb (length x.content) 0))

abbrev pub is_literal : Option Node → Bool
is_literal none = false
is_literal (some n) = eqb n.kind 2

abbrev pub children_below : (child : ℕ) → Option Node → Bool
children_below k none = false
children_below k (some n) = ltb n.children k

-- The number of an insert as child k of the node that the path names; `full`: growth takes a page and none is free. 13 is tested directly after 5.
unfoldable pub insert_number : Tree → (path : List ℕ) → (k : ℕ) → New → (full : Bool) → ℕ
insert_number t path k x full =
    let parent = named_by t path in
    first_refusal ((long_path, ltb longest_parent (length path)) ∷ (wrong_kind, kind_bad x) ∷ (wrong_origin, ltb most_origin x.head.origin)
    ∷ (long_content, ltb most_content (length x.content)) ∷ (no_node, is_none parent) ∷ (literal_parent, is_literal parent)
    ∷ (past_children, children_below k parent) ∷ (no_free_page, full) ∷ [])

abbrev pub new_of : (kind origin label : ℕ) → (content : List ℕ) → New
new_of kind origin label content = record { kind = kind; head = record { origin = origin; label = label }; content = content }

-- What growth makes of an insert.
abbrev pub grown : Config → Row → (path : List ℕ) → (child : ℕ) → New → Out
grown st root path child x = grow st root (path_of path) child x

unfoldable pub insert_of : (img path : List ℕ) → (child kind origin label : ℕ) → (content : List ℕ) → InsertAnswer × List ℕ
insert_of img path child kind origin label content = on_store (opened img) (λ n. (insert_refused n, img)) (λ st root.
    let x = new_of kind origin label content in
    let o = grown st root path child x in
    let n = insert_number (shown root) path child x o.1.full in
    accept n (record { number = 0; place = place_or (place_of o.0 (path_of path ++ child ∷ [])); splits = o.1.splits; lean = o.1.lean }, image st o.0)
    (insert_refused n, img))

-- What growth carried along for it.
abbrev pub insert_work : (img path : List ℕ) → (child : ℕ) → New → Work
insert_work img path child x = on_store (opened img) (λ n. no_work) (λ st root. (grown st root path child x).1)

-- The plain tree: the new node, without children, becomes the child of the given number. Its place is where it stands after the call; split count and lean are
-- the growth rules'.
abbrev pub insert_call : (path : List ℕ) → (child kind origin label : ℕ) → (content : List ℕ) → Effect
insert_call path child kind origin label content = record {
  Typed = (label < 65536) × (every is_byte content ≡ true);
  Answer = InsertAnswer;
  number = λ a. a.number;
  growth = λ img. insert_work img path child (new_of kind origin label content);
  on_image = λ img. insert_of img path child kind origin label content;
  on_tree = λ f h t.
      let x = new_of kind origin label content in
      let n = insert_number t path child x f.full in
      let new : InsertAnswer = record { number = 0; place = place_or (f.place_after (path_of path ++ child ∷ [])); splits = h.splits; lean = h.lean } in
      (accept n new (insert_refused n), accept n (insert_at x child 0 (path_of path) t) t);
}
