-- The part of the image that Read hands over: within the image, so that a slice can name it.
use Rattle.std.specs.Prelude.{◌≡◌, Result, Ok, Err, Bool, ℕ, ◌+◌, ◌*◌, ◌-◌, ◌≤◌, take, drop, leb}
use Rattle.std.proofs.Math.Path.{refl}
use Rattle.std.proofs.Common.{ap, leb-true}
use Rattle.std.proofs.Math.Bool.{true, false, cond}
use mathlib.Core.List.{List, [], ◌∷◌}
use native.Mathlib.Omega.{arith}
use borrow.Author.Tests.{eqb-true, eqb-false, le-leb}
use Rattle.std.proofs.Math.ListN.{length}
use Rattle.std.proofs.Math.Dec.{eqb}
use Rattle.std.specs.Borrow.{Bor}
use Rattle.model.specs.Limits.{page_size}
use Rattle.model.specs.Row.{Row, Config}
use Rattle.model.specs.Tree.{shown, Node, nodes, place_of, from_place}
use Rattle.model.specs.Reading.{Reads}
use Rattle.model.specs.Calls.Check.{check_of}
use Rattle.model.specs.Calls.Read.{read_in, read_from, as_read, read_of, part_of}
use Rattle.model.specs.declared.Place.{Place}
use Rattle.model.specs.declared.Details.{Details}
use Rattle.model.specs.declared.Refusal.{Refusal}
use Rattle.store.specs.declared.ReadAnswer.{ReadAnswer}
use Rattle.theory_decoding.specs.Reading.{reads_valid}
use Rattle.theory_places.specs.Order.{one_root}
use Rattle.theory_places.specs.Named.{in_tree}
use Rattle.theory_places.specs.From.{from_stands}
use Rattle.theory_places.specs.Content.{content_inside}
use Rattle.theory_calls.specs.Open.{opens, passing, refuses}
use Rattle.theory_calls.specs.Pieces.{literal_content}

-- So many bytes from a start on, or none where they do not lie in the image.
unfoldable pub slice : (img : List ℕ) → (start len : ℕ) → List ℕ
slice img a n = cond (leb a (length img)) (cond (leb n (length img - a)) (take n (drop a img)) []) []

-- Where they start; where there are none, at 0.
unfoldable pub start_in : (img : List ℕ) → (start len : ℕ) → ℕ
start_in img a n = cond (leb a (length img)) (cond (leb n (length img - a)) a 0) 0

-- Where byte k of the image stands in memory: so many bytes past the first, in the image's own block.
abbrev pub byte_of : (image : Bor (List ℕ)) → (k : ℕ) → ℕ × ℕ
byte_of image k = (image.ref_ptr.0, k + image.ref_ptr.1)

-- The numbers of an answer of read, without its content.
abbrev pub node_of : Result ReadAnswer Refusal → Result Details Refusal
node_of (Ok a) = Ok a.node
node_of (Err r) = Err r

pub inside_slice : (img : List ℕ) (a n : ℕ) → a + n ≤ length img → slice img a n ≡ take n (drop a img)
unfolding slice
inside_slice img a n h = rw (le-leb a (length img) (omega arith), le-leb n (length img - a) (omega arith))

module _ (img : List ℕ) (st : Config) (root : Row) (r : Reads img st root) (x : Place) where
  read_inside : (read_of img x).start + (read_of img x).len ≤ length img
  unfolding read_of read_in
  read_inside = rw (opens img st root r) (go (from_place (place_of root) x (nodes (shown root))) refl)
    where
      go : (ns : List Node) → from_place (place_of root) x (nodes (shown root)) ≡ ns
          → (as_read x (read_from ns)).start + (as_read x (read_from ns)).len ≤ length img
      go [] e = omega arith
      go (n ∷ ns) e = by (eqb (length n.content) 0) refl
        where
          by : (b : Bool) → eqb (length n.content) 0 ≡ b → cond b 0 (page_size * x.page + x.offset + 6) + length n.content ≤ length img
          by true z = omega (arith, eqb-true (length n.content) 0 z)
          by false z =
              let v = reads_valid img st root r in
              let m = from_stands (place_of root) x (nodes (shown root)) ns n e in
              let kind = literal_content (shown root) n m.0 (λ k. eqb-false (length n.content) 0 z (ap length k)) in
              rw r.same (content_inside st root v n.path n x (in_tree (shown root) n (one_root st root v) m.0) m.1 kind)

refused_inside : (img : List ℕ) (x : Place) (n : ℕ) → check_of img ≡ n → (n ≡ 0 → ⊥) → (read_of img x).start + (read_of img x).len ≤ length img
unfolding read_of
refused_inside img x n e z = rw (refuses img n e z) (omega arith)

-- What Read answers lies in the image.
pub part_inside : (img : List ℕ) (x : Place) → (read_of img x).start + (read_of img x).len ≤ length img
part_inside img x = go (eqb (check_of img) 0) refl
  where
    go : (b : Bool) → eqb (check_of img) 0 ≡ b → (read_of img x).start + (read_of img x).len ≤ length img
    go true e = let p = passing img (eqb-true (check_of img) 0 e) in read_inside img p.0.0 p.0.1 p.1 x
    go false e = refused_inside img x (check_of img) refl (eqb-false (check_of img) 0 e)

pub inside_start : (img : List ℕ) (a n : ℕ) → a + n ≤ length img → start_in img a n ≡ a
unfolding start_in
inside_start img a n h = rw (le-leb a (length img) (omega arith), le-leb n (length img - a) (omega arith))

-- There are none that do not lie in the image.
pub outside : (img : List ℕ) (a n : ℕ) → (a + n ≤ length img → ⊥) → (slice img a n ≡ []) × (start_in img a n ≡ 0)
unfolding slice start_in
outside img a n h = go (leb a (length img)) (leb n (length img - a)) refl refl
  where
    go : (b d : Bool) → leb a (length img) ≡ b → leb n (length img - a) ≡ d
        → (cond b (cond d (take n (drop a img)) []) [] ≡ []) × (cond b (cond d a 0) 0 ≡ 0)
    go true true p q = absurd (h (omega (arith, leb-true a _ p, leb-true n _ q)))
    go true false p q = (refl, refl)
    go false d p q = (refl, refl)

pub part_is : (img : List ℕ) (x : Place) → slice img (read_of img x).start (read_of img x).len ≡ part_of img (read_of img x)
part_is img x = inside_slice img (read_of img x).start (read_of img x).len (part_inside img x)

pub part_starts : (img : List ℕ) (x : Place) → start_in img (read_of img x).start (read_of img x).len ≡ (read_of img x).start
part_starts img x = inside_start img (read_of img x).start (read_of img x).len (part_inside img x)
