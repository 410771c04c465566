-- The walk from page 1: its record's root, and the row below it.
use Rattle.std.specs.Prelude.{Result, Ok, Err}
use Rattle.std.specs.Prelude.{◌≡◌, refl, Bool, true, false, List, ℕ, ◌+◌, ◌-◌, ◌/◌, ◌≤◌, ◌<◌, drop, eqb}
use Rattle.std.proofs.Common.{sym, ap, ◌∙◌, arith, get_or-take, get_or-drop, eqb-true, eq-eqb, ne_eqb}
use Rattle.std.proofs.lemmas.Bool.{eqb-false}
use Rattle.model.specs.Limits.{page_size}
use Rattle.model.specs.Reading.{kind_at, used_at}
use Rattle.model.specs.WalkTests.{whole_size, passing_kind}
use Rattle.model.specs.Calls.Diagnose.{Inside, stops, bad_node, into}
use Rattle.theory_check.specs.Steps.{passing}
use Rattle.theory_faults.specs.Fuel.{walk, walk_none}
use Rattle.read_fault_nodes.specs.declared.Inner.{Inner}
use Rattle.read_fault_nodes.specs.declared.Stop.{Stop}
use Rattle.model.specs.declared.Reason.TheVariants.{BadNode}
use Rattle.read_fault_nodes.specs.Rows.{part, Within, Holds, holder_number, inner_of, Rooted, LeadsTo, record_on, inside_of, next_of, first_of, stop_at, walk_of, record_walk, Ends}
use Rattle.read_fault_nodes.specs.Nodes.{length_part, no_part, within_rest, within_long, record_within, record_root, inside_none, inside_aggregate, first_some}
use Rattle.read_fault_walk.specs.Steps.{onward_none, walk_first, stop_ends}

-- no aggregate
pub root_other : (img : List ℕ) (left : ℕ) → (kind_at img page_size ≡ 1 → ⊥) → {stop : Stop} {m u : List ℕ} → stop ≡ stop_at 1 BadNode
    → Ends (record_walk img left) m u (Err stop)
root_other img left d e ps k =
    rw e (stop_ends (stop_at 1 BadNode)
    (ap (λ (w : Inside). into w (walk img)) (record_root img (eqb (kind_at img page_size) 1) 1 1 left (ne_eqb (kind_at img page_size) 1 d) ps)) ps)

module _ {img : List ℕ} {left : ℕ} {r : Result Inner Stop} (l : LeadsTo img (record_on img true 1 1 left) (Rooted img 1 1 left) r) (root : kind_at img page_size ≡ 1) where
  row_of : (ps : List ℕ) → record_walk img left ps ≡ into (inner_of img r ps) (walk img)
  row_of ps = rw (eq-eqb (kind_at img page_size) 1 root) (ap (λ (w : Inside). into w (walk img)) (l.same ps))

pub root_stops : {img : List ℕ} {left : ℕ} {stop : Stop} {m u : List ℕ} → LeadsTo img (record_on img true 1 1 left) (Rooted img 1 1 left) (Err stop)
    → kind_at img page_size ≡ 1 → Ends (record_walk img left) m u (Err stop)
root_stops {stop = stop} l root ps k = stop_ends stop (row_of l root ps) ps

module _ {img : List ℕ} {left : ℕ} {x : Inner} (l : LeadsTo img (record_on img true 1 1 left) (Rooted img 1 1 left) (Ok x)) (root : kind_at img page_size ≡ 1) where
  module _ (h : Holds img 1) (some : 1 ≤ used_at img page_size) where
    pub root_row_lem : Within img x.start x.stop 0 1 × (x.start < x.stop)
    root_row_lem = rw l.says.is (record_within h (omega arith), omega arith)

    abbrev s : List ℕ
    s = part img x.start x.stop

    -- the root is the record's only node
    root_only : next_of img x.start x.stop ≡ x.stop
    root_only = rw l.says.is (omega (arith, l.says.whole))

    root_walk : (ps : List ℕ) → record_walk img left ps ≡ into (inside_of img x.start x.stop 0 1 left ps) (walk img)
    root_walk ps =
        let is = l.says.is in
        let next = next_of img x.start x.stop in
        let first = first_of img x.start x.stop 0 1 left ps in
        row_of l root ps
        ∙ (λ i. walk img s (x.start / page_size) (holder_number (is i).holder) (is i).level (record { left = (is i).left; reached = ps }))
        ∙ walk_first root_row_lem.0 root_row_lem.1 left ps
        ∙ onward_none (into first (walk img)) (walk img (part img next x.stop) (x.start / page_size) 0 1)
        (λ b. walk_none img (part img next x.stop) (x.start / page_size) 0 1 b (no_part img next x.stop (omega (arith, root_only))))
        ∙ ap (λ (w : Inside). into w (walk img))
        (first_some img x.start x.stop 0 1 left (whole_size s) refl (λ e. omega (arith, root_only, root_row_lem.1)) ps
        ∙ ap (λ (e : ℕ). inside_of img x.start e 0 1 left ps) root_only)

    module _ (kind : ℕ) (is : kind ≡ passing_kind s 0) where
      root_byte : kind_at s 0 ≡ 1
      root_byte =
          let on : x.start + 0 ≡ page_size = rw l.says.is in
          get_or-take (x.stop - x.start) (drop x.start img) 0 0 (omega (arith, root_row_lem.1)) ∙ get_or-drop x.start img 0 0 ∙ ap (kind_at img) on ∙ root

      -- it is no other node, so not well formed
      root_none : (kind ≡ 1 → ⊥) → kind ≡ 0
      root_none d = go (eqb kind 0) refl
        where
          go : (c : Bool) → eqb kind 0 ≡ c → kind ≡ 0
          go true e = eqb-true kind 0 e
          go false e = absurd (d (sym (passing s 0 kind (sym is) (eqb-false kind 0 e)).first ∙ root_byte))

      pub root_bad : (kind ≡ 1 → ⊥) → {stop : Stop} {m u : List ℕ} → stop ≡ stop_at 1 BadNode → Ends (record_walk img left) m u (Err stop)
      root_bad d e ps k =
          let on : x.start / page_size ≡ 1 = rw l.says.is in
          rw e (stop_ends (stop_at 1 BadNode)
          (root_walk ps
          ∙ ap (λ (w : Inside). into w (walk img))
          (inside_none img x.start x.stop 0 1 left kind is (root_none d) ps ∙ ap (λ (p : ℕ). stops p bad_node) on)) ps)

      module _ (one : kind ≡ 1) where
        pub root_long : x.start + 6 ≤ x.stop
        root_long = omega (arith, (passing s 0 kind (sym is) (λ e. omega arith)).long, length_part img x.start x.stop (within_long root_row_lem.0))

        -- what the walk of its row asks for
        pub root_inner : Within img (x.start + 6) x.stop 1 2
        root_inner = within_rest root_row_lem.0 {j = x.start + 6} (omega arith) root_long 1 2 (omega arith) (omega arith)

        pub root_walks : {r : Result ℕ Stop} {m u : List ℕ} → Ends (walk_of img (x.start + 6) x.stop 1 2 left) m u r → Ends (record_walk img left) m u r
        root_walks e ps k =
            let t = e ps k in
            record {
              reached = t.reached;
              matches = t.matches;
              same =
                  root_walk ps
                  ∙ ap (λ (w : Inside). into w (walk img))
                  (inside_aggregate img x.start x.stop 0 1 left kind is root_row_lem.0 root_long (λ i. omega arith) (λ i. omega arith) (λ i. omega arith) (omega arith)
                  (λ i. omega arith) ps)
                  ∙ t.same;
            }
