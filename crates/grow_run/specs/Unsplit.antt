-- Growth that splits nothing and takes no page: the record with the node fits, and the matrix does not set the node apart.
use Rattle.std.specs.Prelude.{◌≡◌, refl, Bool, true, false, cond, ◌||◌, List, ℕ, ◌+◌, ◌*◌, ◌<◌, ◌≤◌, length, ltb}
use Rattle.std.proofs.Common.{sym, ap, ◌∙◌, true≢false, arith, ltb-false}
use Rattle.model.specs.Limits.{page_size, capacity}
use Rattle.model.specs.Row.{nil, ◌⊹◌, node_count, size, lone, record_size}
use Rattle.model.specs.Reading.{used_at}
use Rattle.model.specs.Spot.{fill, last_page}
use Rattle.model.specs.Growth.{Out, apart, as_row}
use Rattle.theory_rows.specs.Laws.{length_bytes, size-⊹}
use Rattle.theory_rows.specs.Keeps.{node_count-⊹}
use Rattle.theory_growth.specs.Store.{placed_some}
use Rattle.theory_growth.specs.Gap.{steady_lone}
use Rattle.theory_page_memory.specs.Around.{rise_fits}
use Rattle.grow_groups.specs.Used.{Tables}
use Rattle.grow_locate.specs.declared.Receiver.{Receiver}
use Rattle.grow_splice.specs.Position.{size_around}
use Rattle.grow_run.specs.Begin.{Begin, st, c, s, rest, h, W, new, gap, stands, P, O, row, row_is, goal_is, grows}

module _ {dry : Bool} {img : List ℕ} {u : Tables} {above : ℕ} {t : Receiver} {label : ℕ} {node : List ℕ} (w : Begin dry img u above t label node) where
  -- The record is larger by what stands for the node.
  longer : record_size (row w) ≡ record_size (fill (s w) (rest w)) + size (P w)
  longer =
      let new = P w ⊹ rest w in
      let more : node_count (rest w) < node_count new = omega (arith, node_count-⊹ (P w) (rest w), placed_some (st w) w.x (h w) (last_page (c w)) (W w)) in
      let same : lone (fill (s w) new) ≡ lone (fill (s w) (rest w)) = steady_lone (s w) (rest w) new more (gap w).steady in
      ap record_size (row_is w) ∙ ap (λ (b : Bool). cond b 0 6 + size (fill (s w) new)) same
      ∙ omega (arith, size_around (s w) new, size_around (s w) (rest w), size-⊹ (P w) (rest w))

  module _ (e : apart (st w) (h w) w.x.head ≡ false) (fits : used_at img (page_size * t.page) + length node ≤ capacity) where
    small : record_size (row w) ≤ capacity
    small =
        let one : P w ≡ as_row (st w) w.x nil = rw e refl in
        let page = ap (λ (r : Receiver). r.page) w.receiver in
        omega (
          arith,
          longer,
          ap size one,
          ap length w.is,
          length_bytes (as_row (st w) w.x nil),
          ap (λ (n : ℕ). used_at img (page_size * n)) page,
          (stands w).used,
        )

    quiet_growth : false ≡ (new w).1.full
    quiet_growth =
        let quiet : (O w).1.full ≡ false = rw e refl in
        sym (ap (λ (o : Out). o.1.full) (sym (goal_is w) ∙ rise_fits (st w) (c w) (fill (s w) (rest w)) (row w, (O w).1) (grows w).fits small) ∙ quiet)

  -- Whether growth wants a page: the matrix sets the node apart, or the record does not fit with it.
  abbrev pub wanted : Bool
  wanted = apart (st w) (h w) w.x.head || ltb capacity (used_at img (page_size * t.page) + length node)

  pub by_matrix : {b : Bool} → apart (st w) (h w) w.x.head ≡ b → b || ltb capacity (used_at img (page_size * t.page) + length node) ≡ wanted
  by_matrix e = sym (ap (λ (b : Bool). b || ltb capacity (used_at img (page_size * t.page) + length node)) e)

  pub takes_none : wanted ≡ false → false ≡ (new w).1.full
  takes_none = go (apart (st w) (h w) w.x.head) refl
    where
      go : (b : Bool) → apart (st w) (h w) w.x.head ≡ b → b || ltb capacity (used_at img (page_size * t.page) + length node) ≡ false → false ≡ (new w).1.full
      go true _ e = absurd (true≢false e)
      go false a e = quiet_growth a (ltb-false capacity (used_at img (page_size * t.page) + length node) e)
