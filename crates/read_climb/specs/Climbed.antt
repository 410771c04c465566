-- The answer of Climb, from the path of the place's node.
use Rattle.std.specs.Prelude.{◌≡◌, refl, None, List, ℕ, ◌*◌, ◌-◌, ◌/◌, ◌≤◌, ◌<◌, length, take, drop}
use Rattle.std.proofs.Common.{sym, ap, ◌∙◌, arith, lt-ltb, le-ltb, length-drop, take_all}
use Rattle.std.proofs.Math.Option.{Option, none, some}
use Rattle.model.specs.Limits.{page_size, longest_path}
use Rattle.model.specs.Row.{Row, Config}
use Rattle.model.specs.Tree.{shown, Node, named, place_of}
use Rattle.model.specs.Reading.{Reads}
use Rattle.model.specs.Answers.{write_refused}
use Rattle.model.specs.Common.{path_bytes, write}
use Rattle.model.specs.Calls.Check.{check_of}
use Rattle.model.specs.Calls.Climb.{climb_in, climb_of}
use Rattle.model.specs.declared.Place.{Place}
use Rattle.model.specs.Answers.{WriteAnswer}
use Rattle.theory_decoding.specs.Reading.{reads_valid}
use Rattle.theory_places.specs.Named.{named_in_lem, unnamed_place}
use Rattle.theory_places.specs.From.{from_found}
use Rattle.theory_calls.specs.Open.{opens, passing}
use Rattle.theory_calls.specs.Navigate.{climb_stray}
use Rattle.base_numbers.specs.Over.{over, over_front}
use Rattle.read_next.specs.Scan.{NodeAt, NodeOf, Located}
use Rattle.read_climb.specs.Rise.{Rose, place_at_byte}

-- A path that finds a place is what Climb writes for it.
climbs : (img : List ℕ) (st : Config) (root : Row) → Reads img st root → (x : Place) (path buffer : List ℕ) → place_of root path ≡ some x
    → climb_of img x buffer ≡ write (path_bytes path) buffer
unfolding climb_of climb_in
climbs img st root r x path buffer f = go (named (shown root) path) refl
  where
    go : (o : Option Node) → named (shown root) path ≡ o → climb_of img x buffer ≡ write (path_bytes path) buffer
    go none e = let z : ◌≡◌ {A = ℕ} 0 1 = cc (unnamed_place root path e) in absurd (omega arith)
    go (some n) e =
        let i = named_in_lem (shown root) path n e in
        let g = from_found st root (reads_valid img st root r) x n i.0 (ap (place_of root) i.1 ∙ f) in
        let same : path_bytes n.path ≡ path_bytes path = ap path_bytes i.1 in
        rw (opens img st root r, g.1, same)

-- What a call answers, and the buffer after it.
abbrev pub Answers : (img : List ℕ) → Place → (buffer : List ℕ) → WriteAnswer → (new : List ℕ) → Type 0
Answers img x buffer r new = (r ≡ (climb_of img x buffer).0) × (new ≡ (climb_of img x buffer).1)

answers : (img : List ℕ) (x : Place) (buffer : List ℕ) (a : WriteAnswer) (new : List ℕ) → climb_of img x buffer ≡ (a, new) → Answers img x buffer a new
answers img x buffer a new e = (ap (λ (o : WriteAnswer × List ℕ). o.0) (sym e), ap (λ (o : WriteAnswer × List ℕ). o.1) (sym e))

-- No node stands at the place.
pub climb_none : (img : List ℕ) (x : Place) (buffer : List ℕ) → check_of img ≡ 0 → Located img x.page x.offset None
    → Answers img x buffer (write_refused 10) buffer
climb_none img x buffer ok l =
    let s = passing img ok in
    answers img x buffer (write_refused 10) buffer (climb_stray img s.0.0 s.0.1 s.1 x buffer (l s.0.0 s.0.1 s.1))

pub room : (img : List ℕ) (pos at : ℕ) (path : List ℕ) → NodeAt img pos
    → ((w : NodeAt img pos) → Rose w.root (place_at_byte pos) at path) × (length path ≡ longest_path) → at ≤ longest_path
room img pos at path w r = omega (arith, (r.0 w).ends)

module _ (img : List ℕ) (x : Place) (buffer : List ℕ) (pos : ℕ) (n : NodeOf img x.page x.offset pos) (at : ℕ) (path : List ℕ)
    (r : ((w : NodeAt img pos) → Rose w.root (place_at_byte pos) at path) × (length path ≡ longest_path)) where
  rose : Rose n.node.root (place_at_byte pos) at path
  rose = r.0 n.node

  place_is : place_at_byte pos ≡ x
  place_is =
      let a : pos / page_size ≡ x.page = omega (arith, n.is, n.short) in
      let b : pos - page_size * (pos / page_size) ≡ x.offset = omega (arith, n.is, n.short) in
      λ i. record { page = a i; offset = b i }

  writes : climb_of img x buffer ≡ write (drop at path) buffer
  writes =
      let w = n.node in
      climbs img w.settings w.root w.reads x rose.names buffer (rose.finds ∙ ap some place_is)
      ∙ ap (λ (b : List ℕ). write b buffer) (sym rose.bytes)

  size_is : length (drop at path) ≡ longest_path - at
  size_is = length-drop at path ∙ ap (λ (k : ℕ). k - at) r.1

  pub climb_short : length buffer < longest_path - at → Answers img x buffer (write_refused 11) buffer
  climb_short h = answers img x buffer (write_refused 11) buffer (writes ∙ rw (size_is, lt-ltb (length buffer) (longest_path - at) h))

  pub climb_done : (new : List ℕ) → longest_path - at ≤ length buffer → new ≡ over 0 (take (longest_path - at) (drop at path)) buffer
      → Answers img x buffer (record { number = 0; written = longest_path - at }) new
  climb_done new h e =
      let whole : take (longest_path - at) (drop at path) ≡ drop at path = take_all (longest_path - at) (drop at path) (omega (arith, size_is)) in
      let same : new ≡ over 0 (drop at path) buffer = e ∙ ap (λ (b : List ℕ). over 0 b buffer) whole in
      answers img x buffer (record { number = 0; written = longest_path - at }) new
      (writes ∙ rw (size_is, le-ltb (length buffer) (longest_path - at) h, over_front (longest_path - at) (drop at path) buffer size_is, same))
