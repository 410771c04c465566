-- What places and document order mean for the calls that move about: Climb, Read, Next and Records, on any image that reads.
use Rattle.std.proofs.Math.Path.{◌≡◌, refl, ap}
use Rattle.std.proofs.Common.{◌∙◌, arith}
use Rattle.std.specs.Prelude.{Bool, true, false, cond, ℕ, zero, suc, ◌*◌, ◌≤◌, ◌<◌, drop, ltb}
use mathlib.Core.List.Memᴰ
use mathlib.Core.List.{List, [], ◌∷◌, ◌++◌}
use Rattle.std.proofs.Math.Option.{Option, some}
use borrow.Author.Tests.{le-ltb, lt-ltb}
use Rattle.std.proofs.Math.ListN.{length}
use Rattle.model.specs.Limits.{most_origin}
use Rattle.model.specs.Row.{Row, store, count, Config}
use Rattle.model.specs.Tree.{Tree, shown, Node, nodes, place_of, is_place, from_place}
use Rattle.model.specs.Reading.{Reads}
use Rattle.model.specs.Answers.{kind_number, origin_number, no_place_there, short_buffer, write_refused, read_refused, next_refused}
use Rattle.model.specs.Common.{write, path_bytes, record_pages}
use Rattle.model.specs.Calls.Climb.{climb_in, climb_of}
use Rattle.model.specs.Calls.Read.{read_in, read_of}
use Rattle.model.specs.Calls.Next.{kind_of, origin_of, as_next, next_in, next_from, next_of}
use Rattle.model.specs.Calls.Records.{page_bytes, times, IsOrder, records_of}
use Rattle.model.specs.declared.Place.{Place}
use Rattle.model.specs.declared.Next.TheVariants as next_is
use Rattle.model.specs.Answers.{NextAnswer}
use Rattle.model.specs.Answers.{WriteAnswer}
use Rattle.theory_rows.specs.Fits.{Valid}
use Rattle.theory_rows.specs.Laws.{cond_case}
use Rattle.theory_decoding.specs.Reading.{reads_valid}
use Rattle.theory_places.specs.Member.{Mem, each_of}
use Rattle.theory_places.specs.Kinds.{OfNode, KindFits, nodes_fit}
use Rattle.theory_places.specs.Named.{in_place}
use Rattle.theory_places.specs.From.{from_none, from_stands, from_split, from_found, places_differ}
use Rattle.theory_places.specs.Pages.{pages_count, pages_once}
use Rattle.theory_calls.specs.Open.{opens}
use Rattle.theory_calls.specs.Records.{length_page_bytes}

-- No node of the tree that a root record shows stands at x.
abbrev pub NoNode : Row → Place → Type 0
NoNode root x = (n : Node) → Mem n (nodes (shown root)) → place_of root n.path ≡ some x → ⊥

-- What a place finds is the end of the list.
pub from_suffix : (place : List ℕ → Option Place) (x : Place) (ns ms : List Node) → from_place place x ns ≡ ms → (before : List Node) × (ns ≡ before ++ ms)
unfolding from_place
from_suffix place x [] ms e = ([], e)
from_suffix place x (n ∷ ns) ms e = go (is_place x (place n.path)) e (from_suffix place x ns ms)
  where
    go : (t : Bool) → cond t (n ∷ ns) (from_place place x ns) ≡ ms → (from_place place x ns ≡ ms → (before : List Node) × (ns ≡ before ++ ms))
        → (before : List Node) × (n ∷ ns ≡ before ++ ms)
    go true e ih = ([], e)
    go false e ih =
        let s = ih e in
        (n ∷ s.0, ap (◌∷◌ n) s.1)

-- A write answers 0 or 11, and Next 0, where a node is found: never 10.
write_not_10 : (bytes buffer : List ℕ) → (write bytes buffer).0.number ≡ 10 → ⊥
write_not_10 bytes buffer =
    cond_case (λ (a : WriteAnswer × List ℕ). a.0.number ≡ 10 → ⊥) (ltb (length buffer) (length bytes)) (λ b e. omega arith) (λ b e. omega arith)

next_not_10 : (t : Tree) (place : List ℕ → Option Place) (n : Node) (ns : List Node) → (next_from place (n ∷ ns)).number ≡ 10 → ⊥
next_not_10 t place n [] e = omega arith
next_not_10 t place n (m ∷ ns) e = omega arith

-- The values of Next name the numbers.
kind_numbered : (k : ℕ) → 1 ≤ k → k ≤ 2 → kind_number (kind_of k) ≡ k
kind_numbered zero a b = absurd (omega arith)
kind_numbered (suc zero) a b = refl
kind_numbered (suc (suc zero)) a b = refl
kind_numbered (suc (suc (suc k))) a b = absurd (omega arith)

origin_numbered : (o : ℕ) → o ≤ most_origin → origin_number (origin_of o) ≡ o
origin_numbered zero h = refl
origin_numbered (suc zero) h = refl
origin_numbered (suc (suc zero)) h = refl
origin_numbered (suc (suc (suc zero))) h = refl
origin_numbered (suc (suc (suc (suc o)))) h = absurd (omega arith)

module _ (img : List ℕ) (st : Config) (root : Row) (r : Reads img st root) where
  v : Valid st root
  v = reads_valid img st root r

  pub distinct_nodes : (m n : Node) (x : Place) → Mem m (nodes (shown root)) → Mem n (nodes (shown root))
      → place_of root m.path ≡ some x → place_of root n.path ≡ some x → m ≡ n
  distinct_nodes = places_differ st root v

  -- ── a place without a node ──

  module _ (x : Place) where
    nothing : NoNode root x → from_place (place_of root) x (nodes (shown root)) ≡ []
    nothing = from_none (place_of root) x (nodes (shown root))

    pub climb_stray : (buffer : List ℕ) → NoNode root x → climb_of img x buffer ≡ (write_refused no_place_there, buffer)
    unfolding climb_of climb_in
    climb_stray buffer f = rw (opens img st root r, nothing f)

    pub read_stray : NoNode root x → read_of img x ≡ read_refused no_place_there
    unfolding read_of read_in
    read_stray f = rw (opens img st root r, nothing f)

    pub next_stray : NoNode root x → next_of img x ≡ next_refused no_place_there
    unfolding next_of next_in
    next_stray f = rw (opens img st root r, nothing f)

    -- Only there do the calls answer 10.
    pub stray_climb : (buffer : List ℕ) → (climb_of img x buffer).0.number ≡ no_place_there → NoNode root x
    unfolding climb_of climb_in
    stray_climb buffer e n m p = write_not_10 (path_bytes n.path) buffer (rw (opens img st root r, (from_found st root v x n m p).1) at e)

    pub stray_read : (read_of img x).number ≡ no_place_there → NoNode root x
    unfolding read_of read_in
    stray_read e n m p = omega (arith, rw (opens img st root r, (from_found st root v x n m p).1) at e)

    pub stray_next : (next_of img x).number ≡ no_place_there → NoNode root x
    unfolding next_of next_in
    stray_next e n m p =
        let f = from_found st root v x n m p in
        next_not_10 (shown root) (place_of root) n f.0 (rw (opens img st root r, f.1) at e)

  -- ── Next goes through the document order ──

  pub next_follows : (before after : List Node) (n m : Node) (x : Place) → nodes (shown root) ≡ before ++ n ∷ m ∷ after → place_of root n.path ≡ some x
      → (y : Place) × (place_of root m.path ≡ some y)
      × (next_of img x ≡ record { number = 0; next = next_is.Node (as_next (place_of root) m) })
  unfolding next_of next_in
  next_follows before after n m x e p =
      let i : Mem m (nodes (shown root)) = rw e (Memᴰ.append_right before (Memᴰ.tail (Memᴰ.head refl))) in
      let y = in_place st root v m i in
      (y.0, y.1, rw (opens img st root r, from_split st root v x before (m ∷ after) n e p))

  -- Its kind and origin are those of the node.
  pub next_numbered : (m : Node) → Mem m (nodes (shown root))
      → (kind_number (as_next (place_of root) m).kind ≡ m.kind) × (origin_number (as_next (place_of root) m).origin ≡ m.head.origin)
  next_numbered m i =
      let f = each_of (OfNode KindFits) m (nodes (shown root)) (nodes_fit root v.rows.1) i in
      (kind_numbered m.kind f.some f.few, origin_numbered m.head.origin f.fits.origin)

  pub next_last : (before : List Node) (n : Node) (x : Place) → nodes (shown root) ≡ before ++ n ∷ [] → place_of root n.path ≡ some x
      → next_of img x ≡ record { number = 0; next = next_is.End }
  unfolding next_of next_in
  next_last before n x e p = rw (opens img st root r, from_split st root v x before [] n e p)

  -- The end comes at the last node only.
  pub end_last : (x : Place) → next_of img x ≡ record { number = 0; next = next_is.End }
      → (before : List Node) × (n : Node) × (nodes (shown root) ≡ before ++ n ∷ []) × (place_of root n.path ≡ some x)
  unfolding next_of next_in
  end_last x e = go (from_place (place_of root) x (nodes (shown root))) refl (rw (opens img st root r) at e)
    where
      go : (ns : List Node) → from_place (place_of root) x (nodes (shown root)) ≡ ns
          → next_from (place_of root) ns ≡ record { number = 0; next = next_is.End }
          → (before : List Node) × (n : Node) × (nodes (shown root) ≡ before ++ n ∷ []) × (place_of root n.path ≡ some x)
      go [] f e = absurd (omega (arith, ap (λ (a : NextAnswer). a.number) e))
      go (n ∷ []) f e =
          let s = from_suffix (place_of root) x (nodes (shown root)) (n ∷ []) f in
          (s.0, n, s.1, (from_stands (place_of root) x (nodes (shown root)) [] n f).1)
      go (n ∷ m ∷ ns) f e = let z : ◌≡◌ {A = ℕ} 0 1 = cc (ap (λ (a : NextAnswer). a.next) e) in absurd (omega arith)

  -- ── Records ──

  -- There is an order,
  pub some_order : IsOrder root (record_pages root)
  some_order q = refl

  -- and each has a page as often as proxies name it, at most one time.
  pub records_once : (order : List ℕ) → IsOrder root order → (q : ℕ) → (times q order ≡ count q (store root)) × (times q order ≤ 1)
  records_once order o q = (o q ∙ pages_count root q, rw (o q) (pages_once st root v q))

  pub records_write : (order buffer : List ℕ) → 2 * length order ≤ length buffer
      → records_of order img buffer ≡ (record { number = 0; written = 2 * length order }, page_bytes order ++ drop (2 * length order) buffer)
  unfolding records_of
  records_write order buffer room = rw (opens img st root r, length_page_bytes order, le-ltb (length buffer) (2 * length order) room)

  pub records_short : (order buffer : List ℕ) → length buffer < 2 * length order → records_of order img buffer ≡ (write_refused short_buffer, buffer)
  unfolding records_of
  records_short order buffer short = rw (opens img st root r, length_page_bytes order, lt-ltb (length buffer) (2 * length order) short)
