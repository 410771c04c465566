-- The jobs that pass, case by case: what the proofs about a walk recurse on.
use Rattle.std.specs.Prelude.{◌≡◌, refl, List, false, ℕ, zero, suc, ◌+◌, ◌*◌, ◌≤◌, ◌<◌, length, take, drop, eqb, ltb}
use Rattle.std.proofs.Common.{◌∙◌, arith}
use Rattle.std.proofs.Math.ListN.{length-drop}
use Rattle.std.proofs.Math.Seq.{length-take-le}
use borrow.Author.Tests.{eqb-true, eqb-false, ltb-false}
use Rattle.model.specs.Limits.{page_size, most_levels}
use Rattle.model.specs.Row.{Row, nil, agg, lit, rec, ◌⊹◌}
use Rattle.model.specs.Reading.{used_at, settled_at, head_at, name_at}
use Rattle.theory_rows.specs.Laws.{cond_case}
use Rattle.model.specs.WalkTests.{whole_size, passing_kind, record_of}
use Rattle.theory_check.specs.Walk.{State, with_mark, enters_of, Decoded, Job, node, list, measure, stop, proxy_step, node_step, more_step}
use Rattle.theory_check.specs.Walk.{list_step, decode, list_of, proxy_of}
use Rattle.theory_check.specs.Steps.{Entered, entered, length_part, less, size_long, node_eq, list_eq, passing}
use Rattle.theory_check.specs.Heads.{AllBytes, all_drop, all_take, PassingNode}

-- A job that passes, with its row and the walk after it.
pub data Passes (img : List ℕ) : Job → Row → State → Type 0 where
  proxy : {s : List ℕ} {page holder level : ℕ} {w v : State} {r : Row} → PassingNode s holder 3 → length s ≡ 8 → Entered img (name_at s 0) page w
      → Passes img (node (record_of img (name_at s 0)) (name_at s 0) 0 level (with_mark w (name_at s 0))) r v
      → Passes img (node s page holder level w) (rec (name_at s 0) (eqb (settled_at img (page_size * name_at s 0)) 1) r nil) v
  helper : {s : List ℕ} {page holder level : ℕ} {w v : State} {r : Row} → PassingNode s holder 4
      → Passes img (list (drop 6 s) page 4 level w) r v → Passes img (node s page holder level w) r v
  literal : {s : List ℕ} {page holder level : ℕ} {w : State} → PassingNode s holder 2 → level ≤ most_levels
      → Passes img (node s page holder level w) (lit (head_at s 0) (drop 6 s) nil) w
  aggregate : {s : List ℕ} {page holder level : ℕ} {w v : State} {r : Row} → PassingNode s holder 1 → level ≤ most_levels
      → Passes img (list (drop 6 s) page 1 (level + 1) w) r v
      → Passes img (node s page holder level w) (agg (head_at s 0) r nil) v
  empty : {s : List ℕ} {page holder level : ℕ} {w : State} → length s ≡ 0 → Passes img (list s page holder level w) nil w
  next : {s : List ℕ} {page holder level : ℕ} {w u v : State} {a r : Row} → 6 ≤ whole_size s → whole_size s ≤ length s
      → Passes img (node (take (whole_size s) s) page holder level w) a u
      → Passes img (list (drop (whole_size s) s) page holder level u) r v
      → Passes img (list s page holder level w) (a ⊹ r) v

-- ── every job that leaves pages passes ──

-- induction on the measure of a job
module _ (P : Job → Type 0) (method : (j : Job) → ((k : Job) → measure k < measure j → P k) → P j) where
  below : (n : ℕ) (j : Job) → measure j < n → P j
  below zero j h = absurd (omega arith)
  below (suc n) j h = method j (λ k l. below n k (omega arith))

  by_measure : (j : Job) → P j
  by_measure j = below (suc (measure j)) j (omega arith)

abbrev pub bytes_of : Job → List ℕ
bytes_of (node s page holder level w) = s
bytes_of (list s page holder level w) = s

module _ (img : List ℕ) (whole : AllBytes img) where
  pub record_bytes_lem : (p : ℕ) → AllBytes (record_of img p)
  record_bytes_lem p = all_take (used_at img (page_size * p)) (drop (page_size * p) img) (all_drop (page_size * p) img whole)

  -- what is to be shown of a job's outcome
  abbrev Good : Job → Decoded → Type 0
  Good j d = (d.walk.left ≡ 0 → ⊥) → Passes img j d.row d.walk

  abbrev Sound : Job → Type 0
  Sound j = AllBytes (bytes_of j) → Good j (decode img j)

  module _ (s : List ℕ) (page holder level : ℕ) (w : State) (all : AllBytes s) where
    abbrev here : Job
    here = node s page holder level w

    module _ (hyp : (k : Job) → measure k < measure here → Sound k) where
      refuse : Good here (stop w)
      refuse o = absurd (o refl)

      head : (kind : ℕ) → passing_kind s holder ≡ kind → (kind ≡ 0 → ⊥) → PassingNode s holder kind
      head kind e z = record { all = all; node = passing s holder kind e z }

      inner : (k l : ℕ) → 6 ≤ length s → Good (list (drop 6 s) page k l w) (list_of img (drop 6 s) page k l w)
      inner k l h = hyp (list (drop 6 s) page k l w) (omega (arith, length-drop 6 s)) (all_drop 6 s all)

      at_proxy : passing_kind s holder ≡ 3 → length s ≡ 8 → Good here (proxy_of img (name_at s 0) page level w)
      unfolding proxy_step
      at_proxy e n =
          let p = name_at s 0 in
          cond_case (Good here) (enters_of img p page w)
          (λ f o.
          let g = entered img p page w f in
          let falls : measure (node (record_of img p) p 0 level (with_mark w p)) < measure here =
          omega (arith, g.room, g.names.used, length_part img (page_size * p) (used_at img (page_size * p))) in
          proxy (head 3 e (λ z. omega arith)) n g (hyp (node (record_of img p) p 0 level (with_mark w p)) falls (record_bytes_lem p) o))
          (λ _. refuse)

      one : (kind : ℕ) → passing_kind s holder ≡ kind → eqb kind 0 ≡ false → eqb kind 3 ≡ false → eqb kind 4 ≡ false → eqb kind 2 ≡ false → kind ≡ 1
      one kind e a b c d =
          let z = eqb-false kind 0 a in
          omega (arith, (head kind e z).node.small, z, eqb-false kind 3 b, eqb-false kind 4 c, eqb-false kind 2 d)

      at_node : (kind : ℕ) → passing_kind s holder ≡ kind → Good here (node_step img (decode img) s page holder level w kind)
      unfolding node_step
      at_node kind e =
          cond_case (Good here) (eqb kind 0) (λ _. refuse) (λ a.
          cond_case (Good here) (eqb kind 3)
          (λ b. cond_case (Good here) (eqb (length s) 8) (λ n. at_proxy (e ∙ eqb-true kind 3 b) (eqb-true (length s) 8 n)) (λ _. refuse)) (λ b.
          cond_case (Good here) (eqb kind 4)
          (λ c o. let h = head 4 (e ∙ eqb-true kind 4 c) (λ z. omega arith) in helper h (inner 4 level h.node.long o)) (λ c.
          cond_case (Good here) (ltb most_levels level) (λ _. refuse) (λ l.
          cond_case (Good here) (eqb kind 2)
          (λ d o. literal (head 2 (e ∙ eqb-true kind 2 d) (λ z. omega arith)) (ltb-false most_levels level l))
          (λ d o.
          let h = head 1 (e ∙ one kind e a b c d) (λ z. omega arith) in
          aggregate h (ltb-false most_levels level l) (inner 1 (level + 1) h.node.long o))))))

    abbrev row : Job
    row = list s page holder level w

    module _ (hyp : (k : Job) → measure k < measure row → Sound k) where
      at_more : eqb (whole_size s) 0 ≡ false → Good row (more_step img (decode img) s page holder level w (whole_size s))
      unfolding more_step
      at_more z o =
          let n = whole_size s in
          let h = size_long s z in
          let first = node (take n s) page holder level w in
          let rest = list (drop n s) page holder level (decode img first).walk in
          let l = less img first in
          next h.0 h.1
          (hyp first (omega (arith, length-take-le n s h.1)) (all_take n s all) (λ q. o (omega (arith, less img rest))))
          (hyp rest (omega (arith, length-drop n s)) (all_drop n s all) o)

      at_list : Good row (list_step img (decode img) s page holder level w)
      unfolding list_step
      at_list =
          cond_case (Good row) (eqb (length s) 0) (λ e _. empty (eqb-true (length s) 0 e)) (λ _.
          cond_case (Good row) (eqb w.left 0) (λ e o. absurd (o (eqb-true w.left 0 e))) (λ _.
          cond_case (Good row) (eqb (whole_size s) 0) (λ _ o. absurd (o refl)) at_more))

  pub passes : (j : Job) → Sound j
  passes = by_measure Sound method
    where
      method : (j : Job) → ((k : Job) → measure k < measure j → Sound k) → Sound j
      method (node s page holder level w) hyp all = rw (node_eq img s page holder level w) (at_node s page holder level w all hyp (passing_kind s holder) refl)
      method (list s page holder level w) hyp all = rw (list_eq img s page holder level w) (at_list s page holder level w all hyp)
