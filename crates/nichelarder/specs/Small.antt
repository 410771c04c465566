-- Every number that a call answers has 32 bits.
use Rattle.std.specs.Prelude.{◌≡◌, Bool, true, false, cond, ℕ, ◌+◌, ◌*◌, ◌/◌, ◌≤◌, ◌<◌, take, drop, eqb}
use Rattle.std.proofs.Math.Path.{refl, ap}
use mathlib.Core.List.{List, [], ◌∷◌, ◌++◌, map}
use Rattle.std.proofs.Math.Option.{Option, none, some}
use native.Mathlib.Omega.{arith}
use Rattle.std.proofs.Common.{eqb-true, length-take}
use Rattle.std.proofs.lemmas.Bool.{eqb-false}
use Rattle.std.proofs.Math.ListN.{length, length-append}
use Rattle.std.proofs.lemmas.List.{length-map}
use Rattle.std.proofs.Math.Dec.{ltb}
use Rattle.model.specs.Limits.{most_pages, page_size, most_bytes, longest_path}
use Rattle.model.specs.Row.{Row, image, Config}
use Rattle.model.specs.Tree.{Tree, end, branch, leaf, shown, New, Node, below, further, nodes, place_of, from_place}
use Rattle.model.specs.Reading.{Reads}
use Rattle.model.specs.Answers.{first_refusal, insert_refused}
use Rattle.model.specs.Common.{is_none, named_by, place_or, path_of, path_bytes, write, record_pages}
use Rattle.model.specs.Calls.Check.{check_of}
use Rattle.model.specs.Calls.Insert.{insert_number, new_of, grown, insert_of}
use Rattle.model.specs.Calls.Find.{find_in, find_of}
use Rattle.model.specs.Calls.Climb.{climb_in, climb_from, climb_of}
use Rattle.model.specs.Calls.Read.{read_of}
use Rattle.model.specs.Calls.Next.{next_in, next_from, next_of}
use Rattle.model.specs.Calls.Records.{page_bytes, records_of}
use Rattle.model.specs.Calls.Walk.{walk_answer, walk_from, walk_in, walk_of}
use Rattle.model.specs.declared.Place.{Place}
use Rattle.model.specs.declared.Next.{Next}
use Rattle.model.specs.declared.Next.TheVariants as next_is
use Rattle.model.specs.Answers.{FindAnswer}
use Rattle.model.specs.Answers.{WriteAnswer}
use Rattle.model.specs.Growth.{Out}
use Rattle.model.specs.Claims.{InLean}
use Rattle.model.specs.Answers.{InsertAnswer}
use Rattle.model.specs.Answers.{WalkAnswer}
use Rattle.theory_rows.specs.Fits.{IsByte}
use Rattle.theory_decoding.specs.Valid.{bytes_hold}
use Rattle.theory_rows.specs.Population.{tree_population, population_shown}
use Rattle.theory_decoding.specs.Steps.{few_nodes}
use Rattle.theory_calls.specs.Growth.{growth}
use Rattle.theory_rows.specs.Laws.{cond_case}
use Rattle.theory_rows.specs.Keeps.{height_shown}
use Rattle.theory_decoding.specs.Reading.{reads_valid, reads_length}
use Rattle.theory_places.specs.Inside.{place_inside}
use Rattle.theory_places.specs.Order.{one_root}
use Rattle.theory_places.specs.Named.{in_tree}
use Rattle.theory_places.specs.From.{from_stands}
use Rattle.theory_places.specs.Pages.{pages_few}
use Rattle.theory_calls.specs.Open.{opens, passing, refuses}
use Rattle.theory_calls.specs.Paths.{path_levels}
use Rattle.theory_calls.specs.Navigate.{from_suffix}
use Rattle.theory_calls.specs.Pieces.{same_length}
use Rattle.theory_calls.specs.Records.{length_page_bytes}
use Rattle.read_records.specs.Up.{up_pages}
use Rattle.read_records.specs.Order.{up_order}
use Rattle.store.specs.Part.{part_inside}

-- A page below 1,024 and an offset below 4,096.
pub record SmallPlace (x : Place) : Type 0 where
  pub page : x.page < most_pages
  pub offset : x.offset < page_size

abbrev pub SmallNext : Next → Type 0
SmallNext (next_is.Node n) = SmallPlace n.place
SmallNext next_is.End = Unit {0}

no_place_lem : SmallPlace (record { page = 0; offset = 0 })
no_place_lem = record { page = omega arith; offset = omega arith }

-- What holds of a refused answer and of an answer on a store holds of every answer.
by_store : (P : Type 0) (img : List ℕ) → ((n : ℕ) → (n ≡ 0 → ⊥) → check_of img ≡ n → P) → ((st : Config) (root : Row) → Reads img st root → P) → P
by_store P img f g = go (eqb (check_of img) 0) refl
  where
    go : (b : Bool) → eqb (check_of img) 0 ≡ b → P
    go true e = let p = passing img (eqb-true (check_of img) 0 e) in g p.0.0 p.0.1 p.1
    go false e = f (check_of img) (eqb-false (check_of img) 0 e) refl

length_path : (p : List ℕ) → length (path_bytes p) ≡ 4 * length p
length_path [] = refl
length_path (n ∷ p) = omega (arith, length_path p)

write_small : (b buffer : List ℕ) (n : ℕ) → length b ≤ n → (write b buffer).0.written ≤ n
write_small b buffer n h =
    cond_case (λ (o : WriteAnswer × List ℕ). o.0.written ≤ n) (ltb (length buffer) (length b)) (λ _. omega arith) (λ _. h)

module _ (img : List ℕ) (st : Config) (root : Row) (r : Reads img st root) where
  small_place : (path : List ℕ) → SmallPlace (place_or (place_of root path))
  small_place path = go (place_of root path) refl
    where
      go : (o : Option Place) → place_of root path ≡ o → SmallPlace (place_or o)
      go none e = no_place_lem
      go (some x) e =
          let v = reads_valid img st root r in
          let i = place_inside st root v path x e in
          record { page = omega (arith, i.high, v.ranges.many); offset = omega (arith, i.fits) }

  found_small : (path : List ℕ) → SmallPlace (find_of img path).place
  unfolding find_of find_in
  found_small path =
      rw (opens img st root r)
      (cond_case (λ (a : FindAnswer). SmallPlace a.place)
      (eqb (first_refusal ((4, ltb longest_path (length path)) ∷ (7, is_none (named_by (shown root) path)) ∷ [])) 0) (λ _. small_place (path_of path))
      (λ _. no_place_lem))

  next_node_small : (x : Place) → SmallNext (next_of img x).next
  unfolding next_of next_in
  next_node_small x = rw (opens img st root r) (go (from_place (place_of root) x (nodes (shown root))))
    where
      go : (ns : List Node) → SmallNext (next_from (place_of root) ns).next
      go [] = tt
      go (n ∷ []) = tt
      go (n ∷ m ∷ ns) = small_place m.path

  climbed_small : (x : Place) (buffer : List ℕ) → (climb_of img x buffer).0.written ≤ longest_path
  unfolding climb_of climb_in
  climbed_small x buffer = rw (opens img st root r) (go (from_place (place_of root) x (nodes (shown root))) refl)
    where
      go : (ns : List Node) → from_place (place_of root) x (nodes (shown root)) ≡ ns → (climb_from ns buffer).0.written ≤ longest_path
      go [] e = omega arith
      go (n ∷ ns) e =
          let v = reads_valid img st root r in
          let m = from_stands (place_of root) x (nodes (shown root)) ns n e in
          let l = path_levels 0 n.path (shown root) n (in_tree (shown root) n (one_root st root v) m.0) in
          write_small (path_bytes n.path) buffer longest_path (omega (arith, length_path n.path, height_shown root, v.levels))

  listed_small : (buffer : List ℕ) → (records_of (up_pages img) img buffer).0.written ≤ 2 * most_pages
  unfolding records_of
  listed_small buffer =
      let v = reads_valid img st root r in
      let n = same_length (up_pages img) (record_pages root) (up_order img st root r) in
      rw (opens img st root r) (write_small (page_bytes (up_pages img)) buffer (2 * most_pages)
      (omega (arith, length_page_bytes (up_pages img), pages_few st root v, v.ranges.many)))

  read_start_small : (x : Place) → (read_of img x).start + (read_of img x).len ≤ most_bytes
  read_start_small x = omega (arith, part_inside img x, reads_length img st root r, (reads_valid img st root r).ranges.many)

module _ (img : List ℕ) (n : ℕ) (z : n ≡ 0 → ⊥) (e : check_of img ≡ n) where
  find_zero : (path : List ℕ) → SmallPlace (find_of img path).place
  unfolding find_of
  find_zero path = rw (refuses img n e z) no_place_lem

  next_zero : (x : Place) → SmallNext (next_of img x).next
  unfolding next_of
  next_zero x = rw (refuses img n e z) tt

  climb_zero : (x : Place) (buffer : List ℕ) → (climb_of img x buffer).0.written ≤ longest_path
  unfolding climb_of
  climb_zero x buffer = rw (refuses img n e z) (omega arith)

  records_zero : (order buffer : List ℕ) → (records_of order img buffer).0.written ≤ 2 * most_pages
  unfolding records_of
  records_zero order buffer = rw (refuses img n e z) (omega arith)

  read_zero : (x : Place) → (read_of img x).start + (read_of img x).len ≤ most_bytes
  unfolding read_of
  read_zero x = rw (refuses img n e z) (omega arith)

pub find_small : (img path : List ℕ) → SmallPlace (find_of img path).place
find_small img path = by_store _ img (λ n z e. find_zero img n z e path) (λ st root r. found_small img st root r path)

pub next_small : (img : List ℕ) (x : Place) → SmallNext (next_of img x).next
next_small img x = by_store _ img (λ n z e. next_zero img n z e x) (λ st root r. next_node_small img st root r x)

pub climb_small : (img : List ℕ) (x : Place) (buffer : List ℕ) → (climb_of img x buffer).0.written ≤ longest_path
climb_small img x buffer = by_store _ img (λ n z e. climb_zero img n z e x buffer) (λ st root r. climbed_small img st root r x buffer)

pub records_small : (img buffer : List ℕ) → (records_of (up_pages img) img buffer).0.written ≤ 2 * most_pages
records_small img buffer = by_store _ img (λ n z e. records_zero img n z e (up_pages img) buffer) (λ st root r. listed_small img st root r buffer)

pub read_small : (img : List ℕ) (x : Place) → (read_of img x).start + (read_of img x).len ≤ most_bytes
read_small img x = by_store _ img (λ n z e. read_zero img n z e x) (λ st root r. read_start_small img st root r x)

-- ── walk ──

-- The nodes of a tree in document order are as many as it has.
nodes_count : (t : Tree) → length (nodes t) ≡ tree_population t
nodes_count end = refl
nodes_count (branch h cs rest) =
    let a = map below (nodes cs) in
    let b = map (further 1) (nodes rest) in
    omega (arith, length-append a b, length-map (nodes cs) below, length-map (nodes rest) (further 1), nodes_count cs, nodes_count rest)
nodes_count (leaf h c rest) = omega (arith, length-map (nodes rest) (further 1), nodes_count rest)

take_fewer : {A : Type 0} (k : ℕ) (l : List A) → length (take k l) ≤ length l
take_fewer k l = omega (arith, length-take k l)

pub record SmallWalk (a : WalkAnswer) : Type 0 where
  pub written : a.written ≤ most_bytes
  pub next : SmallPlace a.next

module _ (img : List ℕ) (x : Place) (buffer : List ℕ) where
  walked_small : (st : Config) (root : Row) → Reads img st root → SmallWalk (walk_of img x buffer).0
  unfolding walk_of walk_in
  walked_small st root r =
      let v = reads_valid img st root r in
      let s = from_suffix (place_of root) x (nodes (shown root)) (from_place (place_of root) x (nodes (shown root))) refl in
      let few : length (from_place (place_of root) x (nodes (shown root))) ≤ most_bytes =
      omega (
        arith,
        ap length s.1,
        length-append s.0 (from_place (place_of root) x (nodes (shown root))),
        nodes_count (shown root),
        population_shown root,
        few_nodes st root v,
        v.ranges.many,
      ) in
      rw (opens img st root r) (go (from_place (place_of root) x (nodes (shown root))) few)
    where
      left : (k : ℕ) → k ≤ most_bytes → (ns : List Node) → SmallWalk (walk_answer (place_of root) k ns)
      left k h [] = record { written = h; next = no_place_lem }
      left k h (n ∷ ns) = record { written = h; next = small_place img st root r n.path }

      go : (ns : List Node) → length ns ≤ most_bytes → SmallWalk (walk_from (place_of root) ns buffer).0
      go [] h = record { written = omega arith; next = no_place_lem }
      go (n ∷ ns) h =
          let k = length buffer / 9 in
          left (length (take k (n ∷ ns))) (omega (arith, take_fewer k (n ∷ ns))) (drop k (n ∷ ns))

  walk_zero : (n : ℕ) → (n ≡ 0 → ⊥) → check_of img ≡ n → SmallWalk (walk_of img x buffer).0
  unfolding walk_of
  walk_zero n z e = rw (refuses img n e z) (record { written = omega arith; next = no_place_lem })

  pub walk_small : SmallWalk (walk_of img x buffer).0
  walk_small = by_store _ img walk_zero walked_small

-- ── insert ──

-- A place that fits, and a lean in its range.
pub record SmallInsert (a : InsertAnswer) : Type 0 where
  pub place : SmallPlace a.place
  pub lean : InLean a.lean

zero_insert : (n : ℕ) → SmallInsert (insert_refused n)
zero_insert n = record { place = no_place_lem; lean = omega arith }

module _ (img path : List ℕ) (child kind origin label : ℕ) (content : List ℕ) (small : label < 65536) (byte : IsByte content) where
  inserted_small : (st : Config) (root : Row) → Reads img st root → SmallInsert (insert_of img path child kind origin label content).0
  unfolding insert_of
  inserted_small st root r = rw (opens img st root r) (go (eqb n 0) refl)
    where
      x : New
      x = new_of kind origin label content

      o : Out
      o = grown st root path child x

      n : ℕ
      n = insert_number (shown root) path child x o.1.full

      answer : InsertAnswer
      answer = record { number = 0; place = place_or (place_of o.0 (path_of path ++ child ∷ [])); splits = o.1.splits; lean = o.1.lean }

      accepted : n ≡ 0 → SmallInsert answer
      accepted e =
          let v = growth st root path child x r.passes small (bytes_hold content byte) e in
          record { place = small_place (image st o.0) st o.0 (record { passes = v.keeps; same = refl }) (path_of path ++ child ∷ []); lean = v.lean }

      go : (b : Bool) → eqb n 0 ≡ b → SmallInsert (cond {A = InsertAnswer × List ℕ} b (answer, image st o.0) (insert_refused n, img)).0
      go true e = accepted (eqb-true n 0 e)
      go false e = zero_insert n

  insert_zero : (n : ℕ) → (n ≡ 0 → ⊥) → check_of img ≡ n → SmallInsert (insert_of img path child kind origin label content).0
  unfolding insert_of
  insert_zero n z e = rw (refuses img n e z) (zero_insert n)

  pub insert_small : SmallInsert (insert_of img path child kind origin label content).0
  insert_small = by_store _ img insert_zero inserted_small
