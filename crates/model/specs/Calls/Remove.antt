-- Remove (E3): the node that a path names is gone with all under it.
use Rattle.std.specs.Prelude.{List, [], ◌∷◌, ℕ, length, ltb, eqb}
use Rattle.model.specs.Limits.{longest_path}
use Rattle.model.specs.Row.{image}
use Rattle.model.specs.Tree.{Tree, shown, remove_at}
use Rattle.model.specs.Removal.{removed}
use Rattle.model.specs.Growth.{no_work}
use Rattle.model.specs.Answers.{long_path, empty_path, no_node, first_refusal}
use Rattle.model.specs.Common.{named_by, path_of, accept, is_none, opened, on_store}
use Rattle.model.specs.Effect.{Effect}

-- 14 is tested directly after 4.
unfoldable pub remove_number : Tree → (path : List ℕ) → ℕ
remove_number t path =
    first_refusal ((long_path, ltb longest_path (length path)) ∷ (empty_path, eqb (length path) 0) ∷ (no_node, is_none (named_by t path)) ∷ [])

unfoldable pub remove_of : (img path : List ℕ) → ℕ × List ℕ
remove_of img path = on_store (opened img) (λ n. (n, img)) (λ st root.
    let n = remove_number (shown root) path in
    accept n (0, image st (removed root (path_of path))) (n, img))

-- The plain tree: the node and all under it are gone, later children move down by one. No page is taken, so it is never full.
abbrev pub remove_call : (path : List ℕ) → Effect
remove_call path = record {
  Typed = Unit {0};
  Answer = ℕ;
  number = λ n. n;
  growth = λ img. no_work;
  on_image = λ img. remove_of img path;
  on_tree = λ f h t.
      let n = remove_number t path in
      (n, accept n (remove_at 0 (path_of path) t) t);
}
