-- What a walk over the root's record leaves is what Walk answers.
use Rattle.std.specs.Prelude.{◌≡◌, None, refl, Bool, true, false, cond, List, [], ◌∷◌, ◌++◌, map, ℕ, zero, suc, ◌+◌, ◌*◌, ◌-◌, ◌/◌, ◌≤◌, take, drop, eqb}
use Rattle.std.proofs.Common.{sym, subst, ◌∙◌, append_assoc, arith, ne_eqb, length-append, length-drop, take_at, drop-drop}
use Rattle.std.proofs.Math.Path.{ap}
use Rattle.std.proofs.Math.ListN.{length}
use Rattle.std.proofs.lemmas.List.Edits.{sets, sets-eq}
use Rattle.std.proofs.Math.Seq.{drop-append-add, take-nil, drop-nil}
use Rattle.model.specs.Limits.{page_size, most_pages}
use Rattle.model.specs.Row.{Row, size, base, Config}
use Rattle.model.specs.Reading.{Reads}
use Rattle.model.specs.Tree.{shown, Node, nodes, place_of, from_place}
use Rattle.model.specs.Answers.{no_place, walk_refused}
use Rattle.model.specs.Calls.Check.{check_of}
use Rattle.model.specs.Calls.Walk.{joined, entries_of, walk_answer, walk_from, walk_in, walk_of}
use Rattle.model.specs.declared.Place.{Place}
use Rattle.model.specs.Answers.{WalkAnswer}
use Rattle.theory_rows.specs.Image.{once}
use Rattle.theory_decoding.specs.Reading.{reads_valid}
use Rattle.theory_decoding.specs.Steps.{few_steps}
use Rattle.theory_places.specs.Order.{lone_root}
use Rattle.theory_places.specs.From.{from_none}
use Rattle.theory_calls.specs.Open.{opens}
use Rattle.theory_layout.specs.Here.{Here, root_page_lem, root_nesting}
use Rattle.read_find.specs.Rowed.{Rowed, start_on, end_on}
use Rattle.read_next.specs.Scan.{NodeOf, Located, store_of}
use Rattle.read_next.specs.Read.{some_from}
use Rattle.read_cursor.specs.Way.{Met, Way, way, begin, begin_on, told, told_written, told_full, visit, visits, visits_keeps, visits_stopped}
use Rattle.read_cursor.specs.Meets.{meets}
use Rattle.read_entries.specs.Records.{Rooted}
use Rattle.read_entries.specs.Told.{placed, Each, Tells, tells_all, from_pos, tells_from, each_take, each_drop, each_length, entries_of_lem}

abbrev entry_list : List Met → List ℕ
entry_list ms = joined (map (λ (m : Met). m.entry) ms)

-- Where the first of some nodes stands, 0 if there is none.
abbrev first_pos : List Met → ℕ
first_pos [] = 0
first_pos (m ∷ ms) = m.pos

-- ── seeking ──

abbrev begun : List Met → ℕ
begun [] = 0
begun (m ∷ ms) = 1

-- Nothing is written before the node at the target.
sought : (t : ℕ) (out : List ℕ) (ms : List Met) → visits t (way 0 0 out) ms ≡ visits t (way (begun (from_pos t ms)) 0 out) (from_pos t ms)
unfolding visits from_pos told
sought t out [] = refl
sought t out (m ∷ ms) = go (eqb m.pos t) refl (sought t out ms)
  where
    go : (b : Bool) → eqb m.pos t ≡ b → visits t (way 0 0 out) ms ≡ visits t (way (begun (from_pos t ms)) 0 out) (from_pos t ms)
        → visits t (told (cond (eqb m.pos t) 1 0) m.pos m.entry 0 out) ms
        ≡ visits t (way (begun (cond b (m ∷ ms) (from_pos t ms))) 0 out) (cond b (m ∷ ms) (from_pos t ms))
    go true e on = rw e
    go false e on = rw e on

-- ── writing ──

-- The nodes have entries of nine numbers, and stand past the image's first byte.
abbrev Whole : List Met → Type 0
Whole [] = Unit {0}
Whole (m ∷ ms) = ((length m.entry ≡ 9) × (1 ≤ m.pos)) × Whole ms

-- As many whole entries as there is room for, behind those that are written.
record Written (t j : ℕ) (E D : List ℕ) (ms : List Met) (k : ℕ) : Type 0 where
  is : visits t (way (9 * j + 1) 0 (E ++ D)) ms
      ≡ way (9 * (j + length (take k ms)) + 1) (first_pos (drop k ms)) (E ++ (entry_list (take k ms) ++ drop (9 * length (take k ms)) D))

one_more : (j : ℕ) (E D e : List ℕ) → length E ≡ 9 * j → length e ≡ 9 → 9 ≤ length D → sets (E ++ D) (9 * j) e ≡ (E ++ e) ++ drop 9 D
one_more j E D e a b c =
    let n : 9 * j + length e ≡ length E + 9 = omega arith in
    sets-eq e (E ++ D) (9 * j) (omega (arith, length-append E D))
    ∙ rw (take_at E D (9 * j) a, n, drop-append-add E D 9)

written : (t j : ℕ) (E D : List ℕ) (ms : List Met) (k : ℕ) → length E ≡ 9 * j → k ≡ length D / 9 → Whole ms → Written t j E D ms k
unfolding visits
written t j E D [] k a q w =
    record {
      is = rw (take-nil {A = Met} k, drop-nil {A = Met} k) (ap (λ (n : ℕ). way (9 * n + 1) 0 (E ++ D)) (let z : j ≡ j + 0 = omega arith in z));
    }
written t j E D (m ∷ ms) zero a q w =
    let on : begin t (9 * j + 1) m.pos ≡ 9 * j + 1 = begin_on t (9 * j + 1) m.pos (omega arith) in
    let full = told_full (9 * j + 1) m.pos m.entry 0 (E ++ D) (omega arith) refl (omega (arith, length-append E D)) in
    let stop = visits_stopped t (way (9 * j + 1) m.pos (E ++ D)) ms (omega arith) (λ z. omega (arith, w.0.1)) in
    record {
      is =
          rw (on, full) stop
          ∙ ap (λ (n : ℕ). way (9 * n + 1) m.pos (E ++ D)) (let z : j ≡ j + 0 = omega arith in z);
    }
written t j E D (m ∷ ms) (suc k) a q w =
    let long : 9 ≤ length D = omega arith in
    let on : begin t (9 * j + 1) m.pos ≡ 9 * j + 1 = begin_on t (9 * j + 1) m.pos (omega arith) in
    let put = told_written (9 * j + 1) m.pos m.entry 0 (E ++ D) (omega arith) refl (omega (arith, length-append E D)) in
    let at : 9 * j + 1 - 1 ≡ 9 * j = omega arith in
    let more : 9 * j + 1 + 9 ≡ 9 * suc j + 1 = omega arith in
    let stores : sets (E ++ D) (9 * j + 1 - 1) m.entry ≡ (E ++ m.entry) ++ drop 9 D =
    ap (λ (n : ℕ). sets (E ++ D) n m.entry) at ∙ one_more j E D m.entry a w.0.0 long in
    let one : visit t (way (9 * j + 1) 0 (E ++ D)) m ≡ way (9 * suc j + 1) 0 ((E ++ m.entry) ++ drop 9 D) =
    ap (λ (n : ℕ). told n m.pos m.entry 0 (E ++ D)) on ∙ put ∙ (λ i. way (more i) 0 (stores i)) in
    let next = written t (suc j) (E ++ m.entry) (drop 9 D) ms k (omega (arith, length-append E m.entry, w.0.0)) (omega (arith, length-drop 9 D)) w.1 in
    let n = length (take k ms) in
    let count : suc j + n ≡ j + suc n = omega arith in
    let far : 9 + 9 * n ≡ 9 * suc n = omega arith in
    let rest : drop (9 * n) (drop 9 D) ≡ drop (9 * suc n) D = drop-drop (9 * n) 9 D ∙ ap (λ (n : ℕ). drop n D) far in
    let es = entry_list (take k ms) in
    let whole : (E ++ m.entry) ++ (es ++ drop (9 * n) (drop 9 D)) ≡ E ++ ((m.entry ++ es) ++ drop (9 * suc n) D) =
    append_assoc E m.entry (es ++ drop (9 * n) (drop 9 D))
    ∙ ap (λ (l : List ℕ). E ++ l) (sym (append_assoc m.entry es (drop (9 * n) (drop 9 D))))
    ∙ ap (λ (l : List ℕ). E ++ ((m.entry ++ es) ++ l)) rest in
    record { is = ap (λ (v : Way). visits t v ms) one ∙ next.is ∙ (λ i. way (9 * count i + 1) (first_pos (drop k ms)) (whole i)) }

-- ── the answer ──

-- By what a walk leaves.
abbrev pub answer_of : (at next : ℕ) → WalkAnswer
answer_of k x = record { number = 0; written = (k - 1) / 9; more = cond (eqb x 0) 0 1; next = placed x }

whole_told : (root : Row) (ns : List Node) (ms : List Met) → Each (Tells root) ns ms → Whole ms
whole_told root [] [] a = tt
whole_told root [] (m ∷ ms) a = absurd a
whole_told root (n ∷ ns) [] a = absurd a
whole_told root (n ∷ ns) (m ∷ ms) a = ((a.0.nine, a.0.some), whole_told root ns ms a.1)

long_told : (root : Row) (ns : List Node) (ms : List Met) → Each (Tells root) ns ms → length (entry_list ms) ≡ 9 * length ms
long_told root [] [] a = refl
long_told root [] (m ∷ ms) a = absurd a
long_told root (n ∷ ns) [] a = absurd a
long_told root (n ∷ ns) (m ∷ ms) a = omega (arith, length-append m.entry (entry_list ms), a.0.nine, long_told root ns ms a.1)

-- The nodes that are left, by the first of them.
left_told : (root : Row) (c : ℕ) (ns : List Node) (ms : List Met) → Each (Tells root) ns ms → answer_of (9 * (0 + c) + 1) (first_pos ms) ≡ walk_answer (place_of root) c ns
left_told root c [] [] a =
    let z : (9 * (0 + c) + 1 - 1) / 9 ≡ c = omega arith in
    ap (λ (n : ℕ). record { number = 0; written = n; more = 0; next = no_place }) z
left_told root c [] (m ∷ ms) a = absurd a
left_told root c (n ∷ ns) [] a = absurd a
left_told root c (n ∷ ns) (m ∷ ms) a =
    let z : (9 * (0 + c) + 1 - 1) / 9 ≡ c = omega arith in
    rw (ne_eqb m.pos 0 (λ y. omega (arith, a.0.some)), a.0.place_is, z)

module _ (root : Row) (t : ℕ) (out : List ℕ) where
  -- From the nodes at and after the place.
  told_from : (ns : List Node) (ms : List Met) → Each (Tells root) ns ms → (1 ≤ length ns) → (k x : ℕ) (after : List ℕ)
      → way k x after ≡ visits t (way (begun ms) 0 out) ms → (answer_of k x, after) ≡ walk_from (place_of root) ns out
  told_from [] ms a h k x after e = absurd (omega arith)
  told_from (n ∷ ns) [] a h k x after e = absurd a
  told_from (n ∷ ns) (m ∷ ms) a h k x after e =
      let room = length out / 9 in
      let taken = each_take (Tells root) room (n ∷ ns) (m ∷ ms) a in
      let us = take room (n ∷ ns) in
      let vs = take room (m ∷ ms) in
      let w = e ∙ (written t 0 [] out (m ∷ ms) room refl refl (whole_told root (n ∷ ns) (m ∷ ms) a)).is in
      let c : length us ≡ length vs = each_length (Tells root) us vs taken in
      let es : entries_of (place_of root) us ≡ entry_list vs = entries_of_lem root us vs taken in
      let long : 9 * length vs ≡ length (entries_of (place_of root) us) = sym (ap length es ∙ long_told root us vs taken) in
      let one : answer_of k x ≡ walk_answer (place_of root) (length us) (drop room (n ∷ ns)) =
      (λ i. answer_of (w i).at (w i).next) ∙ left_told root (length vs) (drop room (n ∷ ns)) (drop room (m ∷ ms)) (each_drop (Tells root) room (n ∷ ns) (m ∷ ms) a)
      ∙ ap (λ (j : ℕ). walk_answer (place_of root) j (drop room (n ∷ ns))) (sym c) in
      let two : after ≡ entries_of (place_of root) us ++ drop (length (entries_of (place_of root) us)) out =
      (λ i. (w i).out) ∙ (λ i. sym es i ++ drop (long i) out) in
      λ i. (one i, two i)

-- ── the root's record ──

pub root_recorded : (img : List ℕ) (st : Config) (root : Row) → Reads img st root
    → (w : Rooted img) × ((start_on img 1 ≡ page_size) × (w.recorded.rowed.row ≡ root))
root_recorded img st root r =
    let v = reads_valid img st root r in
    let o = root_page_lem img st root r in
    let z : base root ≡ 0 = base_none in
    let a : page_size * 1 + base root ≡ start_on img 1 = sym (ap (λ (k : ℕ). page_size * 1 + k) o.first) in
    let b : end_on img 1 ≡ page_size * 1 + (base root + size root) = ap (λ (k : ℕ). page_size * 1 + k) o.used in
    let rowed : Rowed img (start_on img 1) (end_on img 1) most_pages = record {
      page = 1;
      row = root;
      here = subst (λ (k : ℕ). Here img 1 k root) a o.here;
      ends = omega arith;
      deep = root_nesting img st root r;
      few = omega (arith, few_steps st root v, v.ranges.many);
    } in (
      record { recorded = record { on = o.here.on; rowed = rowed; tall = omega (arith, v.levels) }; once = λ q. omega (arith, once st root v q) },
      (omega arith, refl),
    )
  where
    base_none : base root ≡ 0
    base_none = rw (lone_root st root (reads_valid img st root r))

-- A walk over it.
pub root_met : (img : List ℕ) (st : Config) (root : Row) (r : Reads img st root) (t : ℕ) (w v : Way)
    → v ≡ visits t w (meets 1 (start_on img 1) (root_recorded img st root r).0.recorded.rowed.row) → v ≡ visits t w (meets 1 page_size root)
root_met img st root r t w v e =
    let p = (root_recorded img st root r).1 in
    e ∙ (λ i. visits t w (meets 1 (p.0 i) (p.1 i)))

-- ── the call ──

module _ (img : List ℕ) (x : Place) (out : List ℕ) where
  pub walk_stray : check_of img ≡ 0 → Located img x.page x.offset None → (walk_refused 10, out) ≡ walk_of img x out
  unfolding walk_of walk_in
  walk_stray z l =
      let s = store_of img z in
      let none = from_none (place_of s.root) x (nodes (shown s.root)) (l s.settings s.root s.reads) in
      rw (opens img s.settings s.root s.reads, none)

  -- Of the record on page 1, as any reading of it.
  pub walk_told : (t : ℕ) → NodeOf img x.page x.offset t → (st : Config) (root : Row) (r : Reads img st root) → (k y : ℕ) (after : List ℕ)
      → way k y after ≡ visits t (way 0 0 out) (meets 1 page_size root) → (answer_of k y, after) ≡ walk_of img x out
  unfolding walk_of walk_in
  walk_told t a st root r k y after e =
      let f = some_from img x t a st root r in
      let ns = from_place (place_of root) x (nodes (shown root)) in
      let all = tells_from root x t a.is a.short (nodes (shown root)) (meets 1 page_size root) (tells_all img st root r) in
      rw (opens img st root r)
      (told_from root t out ns (from_pos t (meets 1 page_size root)) all (omega (arith, ap length f.2)) k y after (e ∙ sought t out (meets 1 page_size root)))

  -- A node is found, so the walk has begun.
  pub walk_on : (t : ℕ) → NodeOf img x.page x.offset t → (st : Config) (root : Row) (r : Reads img st root) → (k y : ℕ) (after : List ℕ)
      → way k y after ≡ visits t (way 0 0 out) (meets 1 page_size root) → 1 ≤ k
  walk_on t a st root r k y after e =
      let f = some_from img x t a st root r in
      let all = tells_from root x t a.is a.short (nodes (shown root)) (meets 1 page_size root) (tells_all img st root r) in
      let n = each_length (Tells root) (from_place (place_of root) x (nodes (shown root))) (from_pos t (meets 1 page_size root)) all in
      go (from_pos t (meets 1 page_size root)) (omega (arith, n, ap length f.2)) (e ∙ sought t out (meets 1 page_size root))
    where
      go : (ms : List Met) → 1 ≤ length ms → way k y after ≡ visits t (way (begun ms) 0 out) ms → 1 ≤ k
      go [] h q = absurd (omega arith)
      go (m ∷ ms) h q =
          omega (
            arith,
            (visits_keeps t (way 1 0 out) (m ∷ ms) (record { low = omega arith; begun = λ z. omega arith })).on,
            ap (λ (w : Way). w.at) q,
          )
