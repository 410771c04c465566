-- A walk in steps: one that stops and one that goes on from there are one walk.
use Rattle.std.specs.Prelude.{◌≡◌, refl, Bool, true, false, List, [], ◌∷◌, ◌++◌, map, ℕ, ◌+◌, ◌*◌, ◌/◌, ◌≤◌, length, take, drop, eqb}
use Rattle.std.proofs.Common.{sym, ap, subst, ◌∙◌, append_assoc, append-nil, arith, length-drop, length-append, take-append-drop, drop_of_length-le, length-take-le, take-add, drop-drop, eqb-true}
use mathlib.Core.List.Memᴰ
use Rattle.std.proofs.lemmas.List.{map-append}
use Rattle.std.proofs.Math.Option.{Option}
use Rattle.std.proofs.Math.Seq.{drop-append-add}
use Rattle.std.proofs.lemmas.Bool.{eqb-false}
use Rattle.model.specs.Row.{Row, Config}
use Rattle.model.specs.Tree.{shown, Node, nodes, place_of, from_place}
use Rattle.model.specs.Reading.{Reads}
use Rattle.model.specs.Common.{place_or}
use Rattle.model.specs.Calls.Check.{check_of}
use Rattle.model.specs.Calls.Walk.{entry_of, joined, entries_of, walk_answer, walk_from, walk_in, walk_of}
use Rattle.model.specs.Claims.{WalkSteps}
use Rattle.model.specs.declared.Place.{Place}
use Rattle.model.specs.Answers.{WalkAnswer}
use Rattle.theory_decoding.specs.Reading.{reads_valid}
use Rattle.theory_places.specs.Named.{in_place}
use Rattle.theory_places.specs.From.{from_split}
use Rattle.theory_calls.specs.Open.{opens, passing, refuses}
use Rattle.theory_calls.specs.Navigate.{from_suffix}

-- ── entries ──

joined-++ : (a b : List (List ℕ)) → joined (a ++ b) ≡ joined a ++ joined b
joined-++ [] b = refl
joined-++ (e ∷ a) b = ap (λ (l : List ℕ). e ++ l) (joined-++ a b) ∙ sym (append_assoc e (joined a) (joined b))

module _ (place : List ℕ → Option Place) where
  -- Nine numbers an entry.
  pub length_entries : (ns : List Node) → length (entries_of place ns) ≡ 9 * length ns
  length_entries [] = refl
  length_entries (n ∷ ns) = omega (arith, length_entries ns)

  entries-++ : (a b : List Node) → entries_of place (a ++ b) ≡ entries_of place a ++ entries_of place b
  entries-++ a b = ap joined (map-append (entry_of place) a b) ∙ joined-++ (map (entry_of place) a) (map (entry_of place) b)

-- ── a walk that stops before the node m ──

-- k entries more are written.
abbrev further : (k : ℕ) → WalkAnswer → WalkAnswer
further k a = record { number = a.number; written = k + a.written; more = a.more; next = a.next }

further_is : (place : List ℕ → Option Place) (k j : ℕ) (ns : List Node) → walk_answer place (k + j) ns ≡ further k (walk_answer place j ns)
further_is place k j [] = refl
further_is place k j (n ∷ ns) = refl

-- Where no node is left it answers so.
ends : (place : List ℕ → Option Place) (n : Node) (ns : List Node) (k : ℕ) → drop k (n ∷ ns) ≡ [] → (buffer : List ℕ) → length buffer ≡ 9 * k
    → (walk_from place (n ∷ ns) buffer).0.more ≡ 0
ends place n ns k left buffer long =
    let room : length buffer / 9 ≡ k = omega arith in
    rw (room, left)

module _ (place : List ℕ → Option Place) (n : Node) (ns : List Node) (m : Node) (ms : List Node) (k : ℕ) (left : drop k (n ∷ ns) ≡ m ∷ ms)
    (buffer : List ℕ) (long : length buffer ≡ 9 * k) where
  abbrev told : List Node
  told = take k (n ∷ ns)

  many : length told ≡ k
  many = length-take-le k (n ∷ ns) (omega (arith, length-drop k (n ∷ ns), ap length left))

  full : length (entries_of place told) ≡ length buffer
  full = omega (arith, length_entries place told, many)

  -- The buffer is full,
  stops : walk_from place (n ∷ ns) buffer ≡ (record { number = 0; written = k; more = 1; next = place_or (place m.path) }, entries_of place told)
  stops =
      let room : length buffer / 9 ≡ k = omega arith in
      let all : length buffer ≤ length (entries_of place told) = omega (arith, full) in
      let rest : drop (length (entries_of place told)) buffer ≡ [] = drop_of_length-le buffer all in
      rw (room, left, many, rest, append-nil (entries_of place told))

  -- and with more behind it the walk goes on with m.
  goes_on : (room : List ℕ)
      → let second = walk_from place (m ∷ ms) room in
      walk_from place (n ∷ ns) (buffer ++ room) ≡ (further k second.0, entries_of place told ++ second.1)
  goes_on room =
      let j = length room / 9 in
      let both : length (buffer ++ room) / 9 ≡ k + j = omega (arith, length-append buffer room) in
      let more = take j (m ∷ ms) in
      let es = entries_of place told in
      let fs = entries_of place more in
      let taken : take (k + j) (n ∷ ns) ≡ told ++ more = take-add k j (n ∷ ns) ∙ ap (λ (l : List Node). told ++ take j l) left in
      let dropped : drop (k + j) (n ∷ ns) ≡ drop j (m ∷ ms) = sym (drop-drop j k (n ∷ ns)) ∙ ap (drop j) left in
      let count : length (told ++ more) ≡ k + length more = omega (arith, length-append told more, many) in
      let far : length (es ++ fs) ≡ length buffer + length fs = omega (arith, length-append es fs, full) in
      rw (both, taken, dropped, count, entries-++ place told more, far, drop-append-add buffer room (length fs), append_assoc es fs (drop (length fs) room))
      (λ i. (further_is place k (length more) (drop j (m ∷ ms)) i, es ++ (fs ++ drop (length fs) room)))

-- ── an image that passes ──

module _ (img : List ℕ) (st : Config) (root : Row) (r : Reads img st root) (x : Place) (k : ℕ) (buffer room : List ℕ) (long : length buffer ≡ 9 * k) where
  abbrev place : List ℕ → Option Place
  place = place_of root

  abbrev after : Place → List Node
  after y = from_place place y (nodes (shown root))

  -- The place of a node that follows finds it and those after it.
  follows : (ns ms : List Node) (m : Node) → after x ≡ ns → drop k ns ≡ m ∷ ms → after (place_or (place m.path)) ≡ m ∷ ms
  follows ns ms m e d =
      let s = from_suffix place x (nodes (shown root)) ns e in
      let whole : nodes (shown root) ≡ (s.0 ++ take k ns) ++ m ∷ ms =
      s.1 ∙ ap (λ (l : List Node). s.0 ++ l) (sym (take-append-drop k ns) ∙ ap (λ (l : List Node). take k ns ++ l) d) ∙ sym (append_assoc s.0 (take k ns) (m ∷ ms)) in
      let p = in_place st root (reads_valid img st root r) m (rw whole (Memᴰ.append_right (s.0 ++ take k ns) (Memᴰ.head refl))) in
      rw p.1 (from_split st root (reads_valid img st root r) p.0 (s.0 ++ take k ns) ms m whole p.1)

  abbrev Joined : (ns : List Node) → (first : WalkAnswer × List ℕ) → Type 0
  Joined ns first =
      let second = walk_from place (after first.0.next) room in
      walk_from place ns (buffer ++ room) ≡ (further k second.0, first.1 ++ second.1)

  both_walks : (ns : List Node) → after x ≡ ns → (walk_from place ns buffer).0.more ≡ 1 → Joined ns (walk_from place ns buffer)
  both_walks [] e z = absurd (omega arith)
  both_walks (n ∷ ns) e z = go (drop k (n ∷ ns)) refl
    where
      go : (left : List Node) → drop k (n ∷ ns) ≡ left → Joined (n ∷ ns) (walk_from place (n ∷ ns) buffer)
      go [] d = absurd (omega (arith, z, ends place n ns k d buffer long))
      go (m ∷ ms) d =
          let told = entries_of place (take k (n ∷ ns)) in
          let f = follows (n ∷ ns) ms m e d in
          let g = goes_on place n ns m ms k d buffer long room in
          subst (Joined (n ∷ ns)) (sym (stops place n ns m ms k d buffer long))
          (subst (λ (l : List Node). walk_from place (n ∷ ns) (buffer ++ room) ≡ (further k (walk_from place l room).0, told ++ (walk_from place l room).1)) (sym f) g)

  in_steps : (walk_of img x buffer).0.more ≡ 1
      → let first = walk_of img x buffer in
      let second = walk_of img first.0.next room in
      walk_of img x (buffer ++ room) ≡ (further k second.0, first.1 ++ second.1)
  unfolding walk_of walk_in
  in_steps = rw (opens img st root r) (both_walks (after x) refl)

-- A refused walk answers that none follow.
refused_none : (img : List ℕ) (x : Place) (buffer : List ℕ) → (check_of img ≡ 0 → ⊥) → (walk_of img x buffer).0.more ≡ 0
unfolding walk_of
refused_none img x buffer z = rw (refuses img (check_of img) refl z)

pub walk_steps : WalkSteps
walk_steps img x k buffer room long more = go (eqb (check_of img) 0) refl
  where
    go : (b : Bool) → eqb (check_of img) 0 ≡ b
        → let first = walk_of img x buffer in
        let second = walk_of img first.0.next room in
        walk_of img x (buffer ++ room) ≡ (further k second.0, first.1 ++ second.1)
    go true e = let p = passing img (eqb-true (check_of img) 0 e) in in_steps img p.0.0 p.0.1 p.1 x k buffer room long more
    go false e = absurd (omega (arith, more, refused_none img x buffer (eqb-false (check_of img) 0 e)))
