-- What is claimed, as statements; the crates above prove them.
use Rattle.std.specs.Prelude.{◌≡◌, ◌↔◌, Bool, true, false, ◌&&◌, ◌||◌, List, [], ◌∷◌, ◌++◌, map, ℕ, suc, ◌+◌, ◌-◌, ◌*◌, ◌%◌, ◌≤◌, ◌<◌, max, length, take, drop, ltb, eqb, ℤ, pos, negsuc}
use Rattle.std.proofs.Math.Option.{none, some}
use Rattle.model.specs.Limits.{capacity}
use Rattle.model.specs.Row.{Row, nil, agg, lit, rec, store, size, base, lone, lone_rec, Held, records, record_size, Config, every, is_byte, in_range, fits, height, count, valid}
use Rattle.model.specs.Tree.{Tree, shown, Node, nodes, named, New, insert_at, remove_at, place_of}
use Rattle.model.specs.Spot.{fill, last_page, last_holder, Stand, stand_of, Spot, spot_after, spot_before, unused, spot_of}
use Rattle.model.specs.Removal.{removed}
use Rattle.model.specs.Growth.{Work, split_point, lean_of, separator, risen, at_rest}
use Rattle.model.specs.Reading.{Reads, length_ok, reading, page_of}
use Rattle.model.specs.BeforeWalk.{all_zero, settings_ok, trailer_of, is_free, trailer_fits, page_fits, page_count, before_walk}
use Rattle.model.specs.Answers.{not_passed, wrong_length, no_free_page, no_place}
use Rattle.model.specs.Common.{four, path_bytes, path_of, named_by, opened, on_store, tree_on}
use Rattle.model.specs.Effect.{Effect, roomy, feed_of, handed_of}
use Rattle.model.specs.Calls.Check.{check_of}
use Rattle.model.specs.Calls.Insert.{insert_number, grown, insert_of, insert_call}
use Rattle.model.specs.Calls.Remove.{remove_number, remove_of}
use Rattle.model.specs.Calls.Find.{find_of}
use Rattle.model.specs.Calls.Climb.{climb_of}
use Rattle.model.specs.Calls.Read.{read_of}
use Rattle.model.specs.Calls.Records.{IsOrder}
use Rattle.model.specs.Calls.Walk.{entry, joined, walk_of}
use Rattle.model.specs.Calls.Diagnose.{no_fault, fault_of, diagnosis, diagnose_of}
use Rattle.model.specs.Calls.{Call}
use Rattle.model.specs.declared.Place.{Place}

-- ── one reading ──

-- The check gives 0 exactly where there is a reading, 1 exactly where the length is wrong, 3 otherwise.
pub record CheckExact (img : List ℕ) : Type 0 where
  pub passes : (check_of img ≡ 0) ↔ ((s : Config × Row) × Reads img s.0 s.1)
  pub misfit : (check_of img ≡ wrong_length) ↔ (length_ok (length img) ≡ false)
  pub broken : (check_of img ≡ not_passed) ↔ ((length_ok (length img) ≡ true) × (reading img ≡ none))

-- ── before the walk ──

-- Page 0, each trailer and each free page, taken by themselves, keep the rules.
pub record PagesKeep (img : List ℕ) : Type 0 where
  pub settings : settings_ok (page_of img 0) (page_count img) ≡ true
  pub trailers : (p : ℕ) → 1 ≤ p → p < page_count img → trailer_fits (page_count img) p (trailer_of (page_of img p)) ≡ true
  pub free : (p : ℕ) → 1 ≤ p → p < page_count img → is_free (trailer_of (page_of img p)) ≡ true → all_zero (page_of img p) ≡ true

-- Two images agree on page 0, on all trailers and on all free pages; of a record's page they may have any bytes before its trailer.
pub record AlikeBefore (a b : List ℕ) : Type 0 where
  pub pages : page_count a ≡ page_count b
  pub settings : page_of a 0 ≡ page_of b 0
  pub trailers : (p : ℕ) → 1 ≤ p → p < page_count a → trailer_of (page_of a p) ≡ trailer_of (page_of b p)
  pub free : (p : ℕ) → 1 ≤ p → p < page_count a → is_free (trailer_of (page_of a p)) ≡ true → page_of a p ≡ page_of b p

-- The part before the walk passes exactly when they keep the rules, gives such images the same answer, and has passed wherever the check passes.
pub record BeforeWalkExact (img : List ℕ) : Type 0 where
  pub exactly : (before_walk img ≡ true) ↔ PagesKeep img
  pub alone : (other : List ℕ) → AlikeBefore img other → before_walk img ≡ before_walk other
  pub needed : check_of img ≡ 0 → before_walk img ≡ true

-- ── diagnose ──

-- Page p is the first after page 0 that is against the rules by itself.
pub record FirstAgainst (img : List ℕ) (p : ℕ) : Type 0 where
  pub past : 1 ≤ p
  pub inside : p < page_count img
  pub against : page_fits (page_count img) p (page_of img p) ≡ false
  pub before : (q : ℕ) → 1 ≤ q → q < p → page_fits (page_count img) q (page_of img q) ≡ true

-- Of an image of bytes: a fault is found exactly where the check does not pass. The number is the check's; the stage is 0 exactly where that is not 3, and then
-- all is zero. The stage is page 0's exactly where that does not hold settings, and the walk's exactly where the part before the walk passes; stage 2 names the
-- first page against the rules.
pub record DiagnoseExact (img : List ℕ) : Type 0 where
  pub found : length_ok (length img) ≡ true → ((fault_of img).stage ≡ 0) ↔ (check_of img ≡ 0)
  pub number : (diagnose_of img).number ≡ check_of img
  pub stage : ((diagnose_of img).stage ≡ 0) ↔ (check_of img ≡ not_passed → ⊥)
  pub zeros : (check_of img ≡ not_passed → ⊥) → diagnose_of img ≡ diagnosis (check_of img) no_fault
  pub settings : check_of img ≡ not_passed → ((diagnose_of img).stage ≡ 1) ↔ (settings_ok (page_of img 0) (page_count img) ≡ false)
  pub pages : (diagnose_of img).stage ≡ 2 → FirstAgainst img (diagnose_of img).page
  pub walk : check_of img ≡ not_passed → ((diagnose_of img).stage ≡ 3) ↔ (before_walk img ≡ true)

-- ── walk ──

-- A node's entry by Find and Read: its level, the place that Find gives for its path, and what Read gives there.
abbrev pub entry_by : (img : List ℕ) → Node → List ℕ
entry_by img n =
    let x = (find_of img (path_bytes n.path)).place in
    entry (1 + length n.path) x (read_of img x)

-- A walk from the root with a buffer that takes all entries: the nodes of the tree in document order, each as Find and Read give it.
abbrev pub WalkWhole : Type 0
WalkWhole = (img : List ℕ) (t : Tree) (buffer : List ℕ) → tree_on img ≡ some t
    → let all = joined (map (entry_by img) (nodes t)) in
    length all ≤ length buffer
    → walk_of img (record { page = 1; offset = 0 }) buffer
    ≡ (record { number = 0; written = length (nodes t); more = 0; next = no_place }, all ++ drop (length all) buffer)

-- A walk into room for k entries after which nodes follow, and one that goes on from the place that it answers, are one walk into both buffers, one behind
-- the other: steps make up the whole.
abbrev pub WalkSteps : Type 0
WalkSteps = (img : List ℕ) (x : Place) (k : ℕ) (buffer room : List ℕ) → length buffer ≡ 9 * k
    → let first = walk_of img x buffer in
    let second = walk_of img first.0.next room in
    let a = second.0 in
    first.0.more ≡ 1
    → walk_of img x (buffer ++ room) ≡ (record { number = a.number; written = k + a.written; more = a.more; next = a.next }, first.1 ++ second.1)

-- ── step 1 ──

-- Between siblings that stand at l and r, children i and i + 1, there are two spots. The one whose record has more bytes unused is taken, the left one if they
-- have as many; and the tree shown does not depend on it: from either it is the plain tree's insert.
pub record TwoSpots (st : Config) (root : Row) (path : List ℕ) (i : ℕ) (l r : Stand) (t : Spot) : Type 0 where
  pub right : unused (spot_after t.parent l) < unused (spot_before t.parent r) → t ≡ spot_before t.parent r
  pub left : unused (spot_before t.parent r) ≤ unused (spot_after t.parent l) → t ≡ spot_after t.parent l
  pub after : (x : New) → shown (risen st x (spot_after t.parent l) (at_rest st root)).0 ≡ insert_at x (suc i) 0 path (shown root)
  pub before : (x : New) → shown (risen st x (spot_before t.parent r) (at_rest st root)).0 ≡ insert_at x (suc i) 0 path (shown root)

-- The spot t of a child, by the stands of the children that are its siblings: with both, with the left one alone, with the right one alone, and with
-- none, where the parent's own record takes it; and the header that step 2 asks, which is the parent's. (That an accepted insert has a spot is in `Growth`: the
-- node is there after it.)
pub record StepOne (root : Row) (path : List ℕ) (t : Spot) : Type 0 where
  pub both : (st : Config) (i : ℕ) (l r : Stand) → spot_of root path (suc i) ≡ some t → stand_of root (path ++ i ∷ []) ≡ some l
      → stand_of root (path ++ suc i ∷ []) ≡ some r → TwoSpots st root path i l r t
  pub left_only : (i : ℕ) (l : Stand) → spot_of root path (suc i) ≡ some t → stand_of root (path ++ i ∷ []) ≡ some l
      → stand_of root (path ++ suc i ∷ []) ≡ none → t ≡ spot_after t.parent l
  pub right_only : (r : Stand) → spot_of root path 0 ≡ some t → stand_of root (path ++ 0 ∷ []) ≡ some r → t ≡ spot_before t.parent r
  pub alone : (y : Place) → spot_of root path 0 ≡ some t → stand_of root (path ++ 0 ∷ []) ≡ none → place_of root path ≡ some y
      → last_page t.chain ≡ y.page
  pub parent : (k : ℕ) (n : Node) → spot_of root path k ≡ some t → named (shown root) path ≡ some n → t.parent ≡ n.head

-- ── growth ──

-- The size of the largest of some records.
abbrev pub largest : List Held → ℕ
largest [] = 0
largest (h ∷ hs) = max (record_size h.row) (largest hs)

-- How far apart two numbers are.
abbrev pub distance : ℕ → ℕ → ℕ
distance a b = (a - b) + (b - a)

-- The nearest whole number to n / 256, as one says it: 256 p is at most 128 from n, and where it is exactly 128 from it, p is even.
pub record Nearest (n p : ℕ) : Type 0 where
  pub at_most : distance (256 * p) n ≤ 128
  pub even : distance (256 * p) n ≡ 128 → p % 2 ≡ 0

-- The split point is that number and no other, for every target and S.
abbrev pub SplitPoint : Type 0
SplitPoint = (st : Config) (S p : ℕ) → (p ≡ split_point st S) ↔ Nearest (st.target * S) p

-- From -525 to 132.
abbrev pub InLean : ℤ → Type 0
InLean (pos n) = n ≤ 132
InLean (negsuc n) = n < 525

-- A split of a record r: the separator with its root's header is at most 506 bytes (`base`: that of a helper root, which is dropped from the row), each record
-- that it holds at most 4,080, and the lean is in range.
pub record SplitHolds (st : Config) (near : ℕ) (r : Row) (w : Work) : Type 0 where
  pub separated : base r + size (separator st near r w).0 ≤ 506
  pub records : largest (records near (separator st near r w).0) ≤ capacity
  pub lean : InLean (lean_of st r)

-- The children of a record's root, which is an aggregate (a lone node) or a helper.
abbrev pub root_row : (lone : Bool) → Row → Row
root_row false r = r
root_row true nil = nil
root_row true (agg h cs rest) = cs
root_row true (lit h c rest) = nil
root_row true (rec p s r rest) = nil

-- For every target and tolerance together: of each record that growth can make too large, since an insert adds at most 526 bytes and
-- a tree has at most 24 levels. So one split of a record suffices.
abbrev pub Split : Type 0
Split = (st : Config) (near : ℕ) (r : Row) (w : Work) → in_range st ≡ true → fits r ≡ true → capacity < record_size r → record_size r ≤ capacity + 526
    → height (root_row (lone r) r) ≤ 23 → SplitHolds st near r w

-- What a node is, wherever it stands.
abbrev pub look : Node → New
look n = record { kind = n.kind; head = n.head; content = n.content }

-- The nodes b in document order are the nodes a with one more.
pub record OneMore (x : New) (a b : List Node) : Type 0 where
  pub before : List New
  pub after : List New
  pub old : map look a ≡ before ++ after
  pub new : map look b ≡ before ++ x ∷ after

-- An accepted insert: the store stays valid and shows the plain tree's insert; the path of the new node names it and gives its place;
-- no other node's kind, origin, label, content or order changes; the lean is in range, and 0 without a split.
pub record GrowthHolds (st : Config) (root : Row) (path : List ℕ) (k : ℕ) (x : New) : Type 0 where
  pub keeps : valid st (grown st root path k x).0 ≡ true
  pub shows : shown (grown st root path k x).0 ≡ insert_at x k 0 (path_of path) (shown root)
  pub named : (n : Node) × (named (shown (grown st root path k x).0) (path_of path ++ k ∷ []) ≡ some n) × (look n ≡ x) × (n.children ≡ 0)
  pub placed : (y : Place) × (place_of (grown st root path k x).0 (path_of path ++ k ∷ []) ≡ some y)
  pub others : OneMore x (nodes (shown root)) (nodes (shown (grown st root path k x).0))
  pub lean : InLean (grown st root path k x).1.lean
  pub unsplit : (grown st root path k x).1.splits ≡ 0 → (grown st root path k x).1.lean ≡ pos 0

abbrev pub Growth : Type 0
Growth = (st : Config) (root : Row) (path : List ℕ) (k : ℕ) (x : New) → valid st root ≡ true → x.head.label < 65536 → every is_byte x.content ≡ true
    → insert_number (shown root) path k x (grown st root path k x).1.full ≡ 0 → GrowthHolds st root path k x

-- ── removal ──

-- An accepted removal: the store stays valid and shows the plain tree's removal.
pub record RemovalHolds (st : Config) (root : Row) (path : List ℕ) : Type 0 where
  pub keeps : valid st (removed root (path_of path)) ≡ true
  pub shows : shown (removed root (path_of path)) ≡ remove_at 0 (path_of path) (shown root)

abbrev pub Removal : Type 0
Removal = (st : Config) (root : Row) (path : List ℕ) → valid st root ≡ true → remove_number (shown root) path ≡ 0 → RemovalHolds st root path

-- The pages of the branch's records, of the record that held the node or its proxy, and, where a helper is replaced by a proxy child, of the helper's holder.
abbrev pub touched : Stand → ℕ → Bool
touched t q =
    ltb 0 (count q t.node) || eqb q (last_page t.chain) || (lone_rec (fill t.position t.rest) && eqb q (last_holder t.chain))

-- Two pages with the same bytes but trailer bytes 4-5, the back link.
pub record SameButLink (a b : List ℕ) : Type 0 where
  pub front : take (capacity + 4) a ≡ take (capacity + 4) b
  pub back : drop (capacity + 6) a ≡ drop (capacity + 6) b

-- No other record changes except back links.
abbrev pub OthersStay : Type 0
OthersStay = (img : List ℕ) (st : Config) (root : Row) (path : List ℕ) (t : Stand) → Reads img st root → remove_number (shown root) path ≡ 0
    → stand_of root (path_of path) ≡ some t → (q : ℕ) → q < st.pages → touched t q ≡ false → SameButLink (page_of (remove_of img path).1 q) (page_of img q)

-- ── put in and taken out ──

-- A node put in below a node: what, as which child, of which node; the path goes on from there.
pub record Put : Type 0 where
  pub new : New
  pub path : List ℕ
  pub child : ℕ

-- The tree once nodes have been put in below the node that the path names, one after another.
abbrev pub put_below : (path : List ℕ) → List Put → Tree → Tree
put_below path [] t = t
put_below path (p ∷ ps) t = put_below path ps (insert_at p.new p.child 0 (path ++ p.path) t)

-- A branch put in and taken out again leaves the former tree: the first insert puts its top, as child k of the node that the path names, the others go
-- under it.
abbrev pub PutInTakenOut : Type 0
PutInTakenOut = (t : Tree) (path : List ℕ) (k : ℕ) (x : New) (ps : List Put) (n : Node) → named t path ≡ some n → n.kind ≡ 1 → k ≤ n.children
    → remove_at 0 (path ++ k ∷ []) (put_below (path ++ k ∷ []) ps (insert_at x k 0 path t)) ≡ t

-- ── demand 3 ──

-- The size of an image's largest record.
abbrev pub largest_on : (img : List ℕ) → ℕ
largest_on img = on_store (opened img) (λ n. 0) (λ st root. largest (records 0 (store root)))

-- Find then climb gives the path back, byte for byte, into any buffer at least as long.
pub record ClimbsBack (img path buffer : List ℕ) : Type 0 where
  pub found : (find_of img path).number ≡ 0
  pub back : climb_of img (find_of img path).place buffer ≡ (record { number = 0; written = length path }, path ++ drop (length path) buffer)

-- What holds of the image and the plain tree between calls.
pub record Matches (img : List ℕ) (t : Tree) : Type 0 where
  pub passes : check_of img ≡ 0
  pub shows : tree_on img ≡ some t
  pub fits : largest_on img ≤ capacity
  pub climbs : (path buffer : List ℕ) (n : Node) → every is_byte path ≡ true → named_by t path ≡ some n → length path ≤ length buffer
      → ClimbsBack img path buffer

module _ (order : (img buffer : List ℕ) → List ℕ) where
  -- What holds of one call in a list. `full`: 12 comes exactly when, with no other refusal, growth takes a page and none is free.
  pub record CallHolds (img : List ℕ) (t : Tree) (c : Effect) : Type 0 where
    pub answer : (c.on_image img).0 ≡ (c.on_tree (feed_of img c) (handed_of order img c) t).0
    pub full : (c.number (c.on_image img).0 ≡ no_free_page)
        ↔ ((c.number (c.on_tree (roomy (feed_of img c)) (handed_of order img c) t).0 ≡ 0) × ((feed_of img c).full ≡ true))
    pub after : Matches (c.on_image img).1 (c.on_tree (feed_of img c) (handed_of order img c) t).1

  -- A list of calls, whose arguments are of their types.
  abbrev pub Calls : Type 1
  Calls = List ((c : Effect) × (Call order c × c.Typed))

  -- What holds of each call of a list, one after the other.
  abbrev pub Agrees : (img : List ℕ) → Tree → Calls → Type 0
  Agrees img t [] = Unit {0}
  Agrees img t (x ∷ xs) =
      let c = x.0 in
      CallHolds img t c × Agrees (c.on_image img).1 (c.on_tree (feed_of img c) (handed_of order img c) t).1 xs

-- The pages that Records writes are those of the image's records, each one time.
abbrev pub Orders : (order : (img buffer : List ℕ) → List ℕ) → Type 0
Orders order = (img buffer : List ℕ) (st : Config) (root : Row) → Reads img st root → IsOrder root (order img buffer)

-- Demand 3, whole: on any image that passes the check, for every list of calls, with any order of Records.
abbrev pub Demand3 : Type 1
Demand3 = (order : (img buffer : List ℕ) → List ℕ) → Orders order → (img : List ℕ) → check_of img ≡ 0 → (calls : Calls order)
    → (t : Tree) × Matches img t × Agrees order img t calls

-- ── put in and taken out, in a list of calls ──

module _ (order : (img buffer : List ℕ) → List ℕ) where
  -- The image that a list of calls leaves.
  abbrev pub image_after : (img : List ℕ) → Calls order → List ℕ
  image_after img [] = img
  image_after img (x ∷ xs) = image_after (x.0.on_image img).1 xs

  -- A call between the insert of a branch's top and its removal: it changes nothing, or puts a node in below the top, which the path names.
  pub data Between (path img : List ℕ) : Effect → Type 1 where
    changes_nothing : (c : Effect) → (c.on_image img).1 ≡ img → Between path img c
    puts_below : (parent more : List ℕ) (child kind origin label : ℕ) (content : List ℕ) → path_of parent ≡ path ++ more
        → Between path img (insert_call parent child kind origin label content)

  abbrev pub AllBetween : (path img : List ℕ) → Calls order → Type 1
  AllBetween path img [] = Unit {1}
  AllBetween path img (x ∷ xs) = Between path img x.0 × AllBetween path (x.0.on_image img).1 xs

-- The removal is accepted, and the image shows the tree that it showed at first.
pub record FormerTree (img : List ℕ) (out : ℕ × List ℕ) : Type 0 where
  pub accepted : out.0 ≡ 0
  pub shows : tree_on out.1 ≡ tree_on img

-- For any image that passes the check, any accepted insert and any such calls after it, the removal of what it put in leaves the former tree.
abbrev pub TakenOut : Type 1
TakenOut = (order : (img buffer : List ℕ) → List ℕ) → Orders order → (img : List ℕ) → check_of img ≡ 0
    → (parent : List ℕ) (child kind origin label : ℕ) (content : List ℕ) → (insert_call parent child kind origin label content).Typed → child < 4294967296
    → let first = insert_of img parent child kind origin label content in
    first.0.number ≡ 0 → (calls : Calls order) → AllBetween order (path_of parent ++ child ∷ []) first.1 calls
    → FormerTree img (remove_of (image_after order first.1 calls) (parent ++ four child))
