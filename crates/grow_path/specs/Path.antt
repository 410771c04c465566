-- A path with one entry more, as bytes, and the place that find gives for it.
use Rattle.std.specs.Prelude.{◌≡◌, List, [], ◌∷◌, ◌++◌, ℕ, ◌+◌, ◌≤◌, ◌<◌, length, take}
use Rattle.std.proofs.Common.{ap, ◌∙◌, arith, le-ltb, length-append}
use Rattle.std.proofs.Math.Option.{some}
use Rattle.model.specs.Limits.{longest_path, longest_parent}
use Rattle.model.specs.Row.{Row, Config}
use Rattle.model.specs.Reading.{Reads}
use Rattle.model.specs.Tree.{shown, Node, named, place_of}
use Rattle.model.specs.Answers.{FindAnswer}
use Rattle.model.specs.Common.{four, entries, path_of, place_or}
use Rattle.model.specs.Calls.Find.{find_in, find_of}
use Rattle.base_numbers.specs.Over.{over, over_then, take_over}
use Rattle.theory_calls.specs.Open.{opens}
use Rattle.theory_calls.specs.Paths.{entries_more}

-- Find gives the place of the node that the longer path names.
pub find_all : (img : List ℕ) (st : Config) (root : Row) → Reads img st root → (path : List ℕ) (k : ℕ) → length path ≤ longest_parent → k < 4294967296
    → entries path ≡ some (path_of path) → (n : Node) → named (shown root) (path_of path ++ k ∷ []) ≡ some n
    → find_of img (path ++ four k) ≡ record { number = 0; place = place_or (place_of root (path_of path ++ k ∷ [])) }
unfolding find_of find_in
find_all img st root r path k long small whole n e =
    let short : length (path ++ four k) ≤ longest_path = omega (arith, length-append path (four k)) in
    rw (opens img st root r, le-ltb longest_path (length (path ++ four k)) short, entries_more path (path_of path) k small whole, e)

pub find_more : (img : List ℕ) (st : Config) (root : Row) → Reads img st root → (path : List ℕ) (k : ℕ) → length path ≤ longest_parent → k < 4294967296
    → entries path ≡ some (path_of path) → (n : Node) → named (shown root) (path_of path ++ k ∷ []) ≡ some n
    → (find_of img (path ++ four k)).place ≡ place_or (place_of root (path_of path ++ k ∷ []))
find_more img st root r path k long small whole n e = ap (λ (a : FindAnswer). a.place) (find_all img st root r path k long small whole n e)

-- The path's bytes and the entry's, one behind the other in a buffer.
pub spelled : (path a b c : List ℕ) (k : ℕ) → length a ≡ longest_path → length path ≤ longest_parent → b ≡ over 0 path a → c ≡ over (length path) (four k) b
    → take (length path + 4) c ≡ path ++ four k
spelled path a b c k l h p q =
    let w : c ≡ over 0 (path ++ four k) a = over_then 0 (length path) path (four k) a b c p q (omega arith) (omega arith) in
    let n : length (path ++ four k) ≡ length path + 4 = length-append path (four k) in
    ap (take (length path + 4)) w ∙ take_over (length path + 4) (path ++ four k) a n
