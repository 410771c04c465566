-- The walk that finds a fault is the check's walk: step for step it stops exactly where that refuses, and goes on in the same state.
use Rattle.std.specs.Prelude.{◌≡◌, refl, Bool, true, false, cond, not, ◌&&◌, List, [], ◌∷◌, length, take, drop, ltb, leb, eqb}
use Rattle.std.proofs.Common.{ap, arith}
use Prim.Native.Nat.{ℕ, zero, suc, ◌+◌, ◌-◌, ◌*◌, ◌≤◌, ◌<◌}
use Rattle.std.proofs.Math.ListN.{length-drop}
use Rattle.std.proofs.Math.Seq.{length-take-le}
use borrow.Author.Tests.{eqb-true, eqb-false, ne_eqb, leb-true}
use Rattle.model.specs.Limits.{most_pages, page_size, most_levels}
use Rattle.model.specs.Reading.{name_at, used_at, settled_at}
use Rattle.model.specs.WalkTests.{whole_size, passing_kind, names_of, root_fits, tail_zero, record_of}
use Rattle.model.specs.Calls.Diagnose.{bad_node, bad_proxy, Been, been, Walk, on, stopped, contains, Inside, row, stops, record_row, inside, onward, into, row_walk}
use Rattle.theory_decoding.specs.Valid.{both as and_both}
use Rattle.theory_growth.specs.Chain.{both as pair}
use Rattle.theory_check.specs.Tests.{is_marked}
use Rattle.theory_check.specs.Walk.{State, with_mark, enters_of, Decoded, node, list, measure, stop, as_rec, proxy_step, node_step, more_step, list_step}
use Rattle.theory_check.specs.Walk.{decode, node_of, list_of, proxy_of}
use Rattle.theory_check.specs.Nodes.{alone}
use Rattle.theory_check.specs.Steps.{named, less, node_eq, list_eq, list_none, head_long, size_long}
use Rattle.theory_faults.specs.Facts.{other, after}
use Rattle.theory_faults.specs.Tests.{not_whole, refused, record_long}
use Rattle.theory_faults.specs.Reached.{Matches, matches_more}

-- ── states ──

-- The same state of both walks, and not refused.
pub record Alike (w : State) (b : Been) : Type 0 where
  pub some : 1 ≤ w.left
  pub left : b.left ≡ w.left
  pub reached : Matches w.marks b.reached

-- It goes on where the check's does, in the same state, and has stopped where that is refused.
abbrev pub Agree : Walk → State → Type 0
Agree (on b) w = Alike w b
Agree (stopped p r) w = w.left ≡ 0

abbrev Walks : Walk → Decoded → Type 0
Walks x d = Agree x d.walk

-- The record of a page that a proxy may name has some bytes, as the part before the walk finds. The check's walk refuses an empty record, and a row of no nodes
-- would pass.
abbrev pub SomeBytes : (img : List ℕ) → Type 0
SomeBytes img = (p page : ℕ) → names_of img p page ≡ true → 1 ≤ used_at img (page_size * p)

-- A page is reached by its proxy.
abbrev reaching : Been → (p : ℕ) → Been
reaching b p = been (b.left - 1) (p ∷ b.reached)

enter : (w : State) (b : Been) (p : ℕ) → Alike w b → 2 ≤ w.left → p < most_pages → Alike (with_mark w p) (reaching b p)
enter w b p a room low = record { some = omega arith; left = ap (λ (n : ℕ). n - 1) a.left; reached = matches_more a.reached p low }

-- ── the test of a proxy's page ──

abbrev fresh : (img : List ℕ) → (p page : ℕ) → Been → Bool
fresh img p page b = names_of img p page && leb 2 b.left && not (contains b.reached p)

order : (r l m t : Bool) → ((r && l) && m) && t ≡ (l && m) && (r && t)
order true l m t = refl
order false true true t = refl
order false true false t = refl
order false false m t = refl

enters_is : (img : List ℕ) (p page : ℕ) (w : State) (b : Been) → Alike w b
    → enters_of img p page w ≡ fresh img p page b && (root_fits img p && tail_zero img p)
unfolding enters_of
enters_is img p page w b a = go (names_of img p page) refl
  where
    go : (n : Bool) → names_of img p page ≡ n
        → (n && root_fits img p && leb 2 w.left && not (is_marked w.marks p) && tail_zero img p)
        ≡ ((n && leb 2 b.left && not (contains b.reached p)) && (root_fits img p && tail_zero img p))
    go false e = refl
    go true e =
        rw (a.left, ← a.reached.same p (named img p page e).low) (order (root_fits img p) (leb 2 w.left) (not (is_marked w.marks p)) (tail_zero img p))

-- ── one node, where the rows inside it agree ──

module _ (F : List ℕ → (page holder level : ℕ) → Been → Walk) where
  abbrev Rows : Inside → Decoded → Type 0
  Rows x d = Walks (into x F) d

  -- a record, if its root may be one
  root_agrees : (img : List ℕ) (rootOk : Bool) (p level : ℕ) (b : Been) (d : Decoded) (v : State)
      → let s = record_of img p in
      Rows (cond (eqb (whole_size s) (length s)) (row s p 0 level b) (stops p bad_node)) d
      → Rows (record_row img rootOk p level b) (cond (rootOk && tail_zero img p) d (stop v))
  root_agrees img rootOk p level b d v h = after Rows rootOk (tail_zero img p) d (λ _. other Rows (tail_zero img p) (λ _. h) (λ _. refl)) refl

  module _ (img : List ℕ) (some : SomeBytes img) (k : ℕ)
      (ih : (s : List ℕ) (page holder level : ℕ) (w : State) (b : Been) → Alike w b → measure (list s page holder level w) ≤ k
      → Agree (F s page holder level b) (list_of img s page holder level w).walk) where
    -- the record itself, whose root is whole or not
    whole_agrees : (p level : ℕ) (w : State) (b : Been) → Alike w b → 1 ≤ length (record_of img p)
        → measure (list (record_of img p) p 0 level w) ≤ k
        → let s = record_of img p in
        Rows (cond (eqb (whole_size s) (length s)) (row s p 0 level b) (stops p bad_node)) (node_of img s p 0 level w)
    whole_agrees p level w b a long small = go (eqb (whole_size s) (length s)) refl
      where
        s : List ℕ
        s = record_of img p

        go : (c : Bool) → eqb (whole_size s) (length s) ≡ c → Rows (cond c (row s p 0 level b) (stops p bad_node)) (node_of img s p 0 level w)
        go true e = rw (← alone img p level w a.some 0 s long (eqb-true (whole_size s) (length s) e)) (ih s p 0 level w b a small)
        go false e = ap (λ (d : Decoded). d.walk.left) (refused img s p 0 level w (not_whole s 0 (eqb-false (whole_size s) (length s) e)))

    -- a proxy in the record of `page`
    proxy_agrees : (p page level : ℕ) (w : State) (b : Been) → Alike w b → 16384 * w.left ≤ k
        → Rows (cond (not (fresh img p page b)) (stops page bad_proxy) (record_row img (root_fits img p) p level (reaching b p)))
        (proxy_of img p page level w)
    unfolding proxy_step
    proxy_agrees p page level w b a small =
        rw (enters_is img p page w b a) (after Rows (fresh img p page b) (root_fits img p && tail_zero img p) d tested refl)
      where
        d : Decoded
        d = as_rec p (eqb (settled_at img (page_size * p)) 1) (node_of img (record_of img p) p 0 level (with_mark w p))

        tested : fresh img p page b ≡ true
            → Rows (record_row img (root_fits img p) p level (reaching b p)) (cond (root_fits img p && tail_zero img p) d (stop w))
        tested f =
            let room = and_both _ _ (and_both _ _ f).0 in
            let n = named img p page room.0 in
            let r : 2 ≤ w.left = omega (arith, leb-true 2 b.left room.1) in
            let long = record_long img p n.inside n.used in
            let u = some p page room.0 in
            root_agrees img (root_fits img p) p level (reaching b p) d w
            (whole_agrees p level (with_mark w p) (reaching b p) (enter w b p a r n.low) (omega arith) (omega (arith, n.used)))

    node_agrees : (s : List ℕ) (page holder level : ℕ) (w : State) (b : Been) → Alike w b → measure (node s page holder level w) ≤ k
        → Rows (inside img s page holder level b) (node_of img s page holder level w)
    unfolding inside node_step
    node_agrees s page holder level w b a small =
        rw (node_eq img s page holder level w)
        (pair Rows (eqb kind 0) (λ _. refl) (λ z.
        let long = head_long s holder z in
        let cut = length-drop 6 s in
        pair Rows (eqb kind 3) (λ _. other Rows (eqb (length s) 8) (λ _. proxy_agrees (name_at s 0) page level w b a (omega arith)) (λ _. refl)) (λ _.
        pair Rows (eqb kind 4) (λ _. ih (drop 6 s) page 4 level w b a (omega arith)) (λ _.
        pair Rows (ltb most_levels level) (λ _. refl) (λ _.
        pair Rows (eqb kind 2) (λ _. empty (omega arith)) (λ _. ih (drop 6 s) page 1 (level + 1) w b a (omega arith)))))))
      where
        kind : ℕ
        kind = passing_kind s holder

        empty : 16384 * w.left + 1 ≤ k → Agree (F [] page 2 level b) w
        empty h = rw (list_none img [] page 2 level w refl) at (ih [] page 2 level w b a (omega arith))

-- ── a row ──

module _ (img : List ℕ) (some : SomeBytes img) where
  -- on with the list after a node
  onward_agrees : (x : Walk) (f : Been → Walk) (s : List ℕ) (page holder level : ℕ) (w : State) → Agree x w
      → ((b : Been) → Alike w b → Agree (f b) (list_of img s page holder level w).walk) → Agree (onward x f) (list_of img s page holder level w).walk
  onward_agrees (on b) f s page holder level w a h = h b a
  onward_agrees (stopped p r) f s page holder level w a h = omega (arith, less img (list s page holder level w))

  -- a row is the check's list
  pub row_agrees : (k : ℕ) (s : List ℕ) (page holder level : ℕ) (w : State) (b : Been) → Alike w b → measure (list s page holder level w) ≤ k
      → Agree (row_walk k img s page holder level b) (list_of img s page holder level w).walk
  unfolding row_walk list_step more_step
  row_agrees zero s page holder level w b a h = absurd (omega arith)
  row_agrees (suc k) s page holder level w b a h =
      rw (list_eq img s page holder level w, ne_eqb w.left 0 (λ z. omega (arith, a.some)))
      (pair Walks (eqb (length s) 0) (λ _. a) (λ _. pair Walks (eqb (whole_size s) 0) (λ _. refl) (λ z.
      let n = whole_size s in
      let long = size_long s z in
      let first = node (take n s) page holder level w in
      let front = length-take-le n s long.1 in
      onward_agrees (into (inside img (take n s) page holder level b) (row_walk k img)) (row_walk k img (drop n s) page holder level)
      (drop n s) page holder level (decode img first).walk
      (node_agrees (row_walk k img) img some k (row_agrees k) (take n s) page holder level w b a (omega arith))
      (λ c d. row_agrees k (drop n s) page holder level (decode img first).walk c d (omega (arith, less img first, length-drop n s))))))

  -- the record of page p, if its root may be one
  pub record_agrees : (k : ℕ) (rootOk : Bool) (p level : ℕ) (w : State) (b : Been) → Alike w b → 1 ≤ length (record_of img p)
      → measure (list (record_of img p) p 0 level w) ≤ k
      → Agree (into (record_row img rootOk p level b) (row_walk k img)) (cond (rootOk && tail_zero img p) (node_of img (record_of img p) p 0 level w) (stop w)).walk
  record_agrees k rootOk p level w b a long small =
      root_agrees (row_walk k img) img rootOk p level b (node_of img (record_of img p) p 0 level w) w
      (whole_agrees (row_walk k img) img some k (row_agrees k) p level w b a long small)
