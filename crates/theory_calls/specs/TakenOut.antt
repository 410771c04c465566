-- A branch put in and taken out again leaves the former tree.
use Rattle.std.specs.Prelude.{◌≡◌, refl, Bool, true, false, cond, List, [], ◌∷◌, ◌++◌, ℕ, zero, suc, ◌+◌, ◌≤◌, length, eqb}
use Rattle.std.proofs.Common.{sym, ap, subst, ◌∙◌, true≢false, arith, ne_eqb, le-ltb, length-append}
use Rattle.std.proofs.Math.Option.{Option, none, some, map}
use Rattle.model.specs.Limits.{longest_path}
use Rattle.model.specs.Tree.{Tree, end, branch, leaf, breadth, Node, below, further, node_at, named, New, new_node, put_at, insert_at, remove_at, shown}
use Rattle.model.specs.Common.{four, entries, named_by, or_empty, is_none, path_of, accept}
use Rattle.model.specs.Effect.{Effect, feed_of}
use Rattle.model.specs.Calls.{Call, insert, remove}
use Rattle.model.specs.Calls.Insert.{insert_number, new_of, insert_of, insert_call}
use Rattle.model.specs.Calls.Remove.{remove_number, remove_of, remove_call}
use Rattle.model.specs.Claims.{Put, put_below, PutInTakenOut, Matches, Calls, Orders, image_after, Between, changes_nothing, puts_below, AllBetween}
use Rattle.model.specs.Claims.{TakenOut}
use Rattle.model.specs.Answers.{InsertAnswer}
use Rattle.theory_rows.specs.Laws.{cond_case}
use Rattle.theory_calls.specs.Open.{passing}
use Rattle.theory_calls.specs.Paths.{entries_more, whole_path}
use Rattle.theory_calls.specs.FirstRefusal.{accept_number}
use Rattle.theory_calls.specs.Tests.{accepted}
use Rattle.theory_calls.specs.Added.{Names, Parent, Added, insert_named}
use Rattle.theory_calls.specs.Growth.{parent_says, by_entries}
use Rattle.theory_calls.specs.Matches.{image_matches}
use Rattle.theory_calls.specs.Demand.{call_holds}

-- ── the plain tree ──

new_out : (x : New) (t : Tree) → remove_at 0 [] (new_node x t) ≡ t
new_out x t = cond_case (λ (u : Tree). remove_at 0 [] u ≡ t) (eqb x.kind 1) (λ _. refl) (λ _. refl)

put_out : (x : New) (k : ℕ) (t : Tree) → k ≤ breadth t → remove_at k [] (put_at x k t) ≡ t
put_out x zero t h = new_out x t
put_out x (suc k) end h = absurd (omega arith)
put_out x (suc k) (branch l cs rest) h = ap (branch l cs) (put_out x k rest (omega arith))
put_out x (suc k) (leaf l c rest) h = ap (leaf l c) (put_out x k rest (omega arith))

unnamed : (P : Node → Type 0) (f : Node → Node) (o : Option Node) → ((n : Node) → P (f n) → P n) → Names P (map f o) → Names P o
unnamed P f none k h = h
unnamed P f (some n) k h = k n h

-- The node just put in.
top_out : (x : New) (k i : ℕ) (path : List ℕ) (t : Tree) → Names (Parent k) (node_at i path t) → remove_at i (path ++ k ∷ []) (insert_at x k i path t) ≡ t
top_out x k i path end h = absurd h
top_out x k zero [] (branch l cs rest) h = ap (λ (u : Tree). branch l u rest) (put_out x k cs h.1)
top_out x k zero (j ∷ path) (branch l cs rest) h =
    ap (λ (u : Tree). branch l u rest) (top_out x k j path cs (unnamed (Parent k) below (node_at j path cs) (λ n p. p) h))
top_out x k (suc i) path (branch l cs rest) h = ap (branch l cs) (top_out x k i path rest (unnamed (Parent k) (further 1) (node_at i path rest) (λ n p. p) h))
top_out x k zero [] (leaf l c rest) h = absurd (true≢false h.0)
top_out x k zero (j ∷ path) (leaf l c rest) h = absurd h
top_out x k (suc i) path (leaf l c rest) h = ap (leaf l c) (top_out x k i path rest (unnamed (Parent k) (further 1) (node_at i path rest) (λ n p. p) h))

-- What is put in below the node goes with it,
below_out : (y : New) (k i : ℕ) (path more : List ℕ) (t : Tree) → remove_at i path (insert_at y k i (path ++ more) t) ≡ remove_at i path t
below_out y k i path more end = refl
below_out y k zero [] [] (branch l cs rest) = refl
below_out y k zero [] (j ∷ more) (branch l cs rest) = refl
below_out y k zero (j ∷ path) more (branch l cs rest) = ap (λ (u : Tree). branch l u rest) (below_out y k j path more cs)
below_out y k (suc i) path more (branch l cs rest) = ap (branch l cs) (below_out y k i path more rest)
below_out y k zero [] more (leaf l c rest) = refl
below_out y k zero (j ∷ path) more (leaf l c rest) = refl
below_out y k (suc i) path more (leaf l c rest) = ap (leaf l c) (below_out y k i path more rest)

belows_out : (path : List ℕ) (ps : List Put) (t : Tree) → remove_at 0 path (put_below path ps t) ≡ remove_at 0 path t
belows_out path [] t = refl
belows_out path (p ∷ ps) t = belows_out path ps _ ∙ below_out p.new p.child 0 path p.path t

-- and the node stays named.
abbrev Any : Node → Type 0
Any n = Unit {0}

any_map : (f : Node → Node) (o u : Option Node) → (Names Any o → Names Any u) → Names Any (map f o) → Names Any (map f u)
any_map f none none k h = h
any_map f none (some n) k h = tt
any_map f (some m) none k h = k h
any_map f (some m) (some n) k h = tt

still_named : (y : New) (k i : ℕ) (path more : List ℕ) (t : Tree) → Names Any (node_at i path t) → Names Any (node_at i path (insert_at y k i (path ++ more) t))
still_named y k i path more end h = h
still_named y k zero [] [] (branch l cs rest) h = tt
still_named y k zero [] (j ∷ more) (branch l cs rest) h = tt
still_named y k zero (j ∷ path) more (branch l cs rest) h =
    any_map below (node_at j path cs) (node_at j path (insert_at y k j (path ++ more) cs)) (still_named y k j path more cs) h
still_named y k (suc i) path more (branch l cs rest) h =
    any_map (further 1) (node_at i path rest) (node_at i path (insert_at y k i (path ++ more) rest)) (still_named y k i path more rest) h
still_named y k zero [] more (leaf l c rest) h = tt
still_named y k zero (j ∷ path) more (leaf l c rest) h = h
still_named y k (suc i) path more (leaf l c rest) h =
    any_map (further 1) (node_at i path rest) (node_at i path (insert_at y k i (path ++ more) rest)) (still_named y k i path more rest) h

pub put_in_taken_out : PutInTakenOut
put_in_taken_out t path k x ps n e kind many =
    belows_out (path ++ k ∷ []) ps (insert_at x k 0 path t)
    ∙ top_out x k 0 path t (subst (Names (Parent k)) (sym e) (ap (λ (j : ℕ). eqb j 2) kind, many))

-- ── in a list of calls ──

-- The tree without the node that the path names is t, and the path names a node.
record Without (t : Tree) (path : List ℕ) (u : Tree) : Type 0 where
  out : remove_at 0 path u ≡ t
  node : Names Any (named u path)

module _ (order : (img buffer : List ℕ) → List ℕ) (o : Orders order) (t : Tree) (path : List ℕ) where
  -- The image shows such a tree.
  abbrev Holds : (img : List ℕ) → Type 0
  Holds img = (u : Tree) × Matches img u × Without t path u

  by_number : (img : List ℕ) (n : ℕ) (a b : Tree) → Without t path a → Without t path b → Matches img (accept n a b) → Holds img
  by_number img n a b f g m = go (eqb n 0) m
    where
      go : (z : Bool) → Matches img (cond z a b) → Holds img
      go true m = (a, m, f)
      go false m = (b, m, g)

  one_between : (img : List ℕ) (c : Effect) → Call order c → c.Typed → Between order path img c → Holds img → Holds (c.on_image img).1
  one_between img c call y (changes_nothing c₁ e) h = subst Holds (sym e) h
  one_between img c call y (puts_below parent more child kind origin label content e) (u, m, w) =
      let x = new_of kind origin label content in
      by_number _ (insert_number u parent child x (feed_of img c).full) (insert_at x child 0 (path_of parent) u) u
      (subst (λ (p : List ℕ). Without t path (insert_at x child 0 p u)) (sym e) (record {
        out = below_out x child 0 path more u ∙ w.out;
        node = still_named x child 0 path more u w.node;
      })) w (call_holds order o img u m c call y).after

  all_between : (calls : Calls order) (img : List ℕ) → AllBetween order path img calls → Holds img → Holds (image_after order img calls)
  all_between [] img b h = h
  all_between (x ∷ xs) img b h = all_between xs (x.0.on_image img).1 b.1 (one_between img x.0 x.1.0 x.1.1 b.0 h)

-- The tests of a removal whose path names a node.
free_number : (u : Tree) (q path : List ℕ) → length q ≤ longest_path → (length q ≡ 0 → ⊥) → entries q ≡ some path → Names Any (named u path)
    → remove_number u q ≡ 0
unfolding remove_number
free_number u q path short some_bytes e h = rw (le-ltb longest_path (length q) short, ne_eqb (length q) 0 some_bytes, e, there (named u path) h)
  where
    there : (o : Option Node) → Names Any o → is_none o ≡ false
    there none h = absurd h
    there (some n) h = refl

any_named : (x : New) (o : Option Node) → Names (Added x) o → Names Any o
any_named x none h = h
any_named x (some n) h = tt

pub taken_out : TakenOut
taken_out order o img z parent child kind origin label content y small passed calls b =
    let p = passing img z in
    let t = shown p.0.1 in
    let m = image_matches img p.0.0 p.0.1 p.1 in
    let c = insert_call parent child kind origin label content in
    let a = call_holds order o img t m c (insert parent child kind origin label content) y in
    let x = new_of kind origin label content in
    let entry = path_of parent in
    let first = (insert_of img parent child kind origin label content).1 in
    let number : insert_number t parent child x (feed_of img c).full ≡ 0 =
    sym (accept_number (λ (a : InsertAnswer). a.number) _ _ _ refl refl) ∙ ap (λ (a : InsertAnswer). a.number) (sym a.answer) ∙ passed in
    let f = accepted t parent child x (feed_of img c).full number in
    let names = by_entries (Parent child) t (entries parent) (parent_says child (named_by t parent) f.named f.aggregate f.within) in
    let u = insert_at x child 0 entry t in
    let path = entry ++ child ∷ [] in
    let begun : Holds order o t path first = (
      u,
      subst (λ (n : ℕ). Matches first (accept n u t)) number a.after,
      record {
        out = top_out x child 0 entry t names;
        node = any_named x (named u path) (insert_named x f.kind child 0 entry t names);
      },
    ) in
    let (v, matches, w) = all_between order o t path calls first b begun in
    let q = parent ++ four child in
    let last = image_after order first calls in
    let long : length q ≡ length parent + 4 = length-append parent (four child) in
    let whole = entries_more parent entry child small (whole_path t (entries parent) f.named) in
    let clear = free_number v q path (omega (arith, f.short)) (λ e. omega arith) whole w.node in
    let r = call_holds order o last v matches (remove_call q) (remove q) tt in
    let left : Matches (remove_of last q).1 (remove_at 0 path v) =
    subst (λ (p : List ℕ). Matches (remove_of last q).1 (remove_at 0 p v)) (ap or_empty whole)
    (subst (λ (n : ℕ). Matches (remove_of last q).1 (accept n (remove_at 0 (path_of q) v) v)) clear r.after) in
    record { accepted = r.answer ∙ clear; shows = left.shows ∙ ap some w.out ∙ sym m.shows }
