-- `grow_run::once`: the node is placed, goes into the record that takes it, and growth goes on from there.
-- In each answer w is what once requires.
use mathlib.Core.Path.{◌≡◌, refl, sym, ap, ◌∙◌}
use mathlib.Core.List.{List}
use Prim.Native.Nat.{ℕ, ◌≤◌}
use native.Mathlib.Omega.{arith}
use lib.ListN.{length, replicate}
use lib.Seq.{length-take-le}
use Rattle.model.specs.Limits.{most_node}
use Rattle.model.specs.Row.{nil, ◌⊹◌, record_size, record_bytes}
use Rattle.model.specs.Growth.{as_row}
use Rattle.theory_rows.specs.Laws.{length_bytes}
use Rattle.model.specs.Spot.{fill}
use Rattle.base_numbers.specs.Over.{over}
use Rattle.base_layout.specs.declared.Growing.{Growing}
use Rattle.base_layout.specs.Setup.{setup_of}
use Rattle.base_layout.specs.Growing.{buffer_size, matrix_of}
use Rattle.grow_locate.proofs.Aim.{parent_label}
use Rattle.grow_groups.specs.Used.{tables}
use Rattle.grow_new_node.specs.Placed.{NodePlaced}
use Rattle.grow_run.specs.Begin.{Begin, node_most, st, root, h, W, long, valid, setup_is, start_env, placed_size, into_record}
use Rattle.grow_run.specs.Begin.{cascade_ready, once_done, s as position, rest, P}
use Rattle.grow_run.proofs.once.Goals as goal
use Rattle.grow_run.proofs.once.Goals.{After-place_node-f, After-take_in-len, Start}

-- what once requires
abbrev Given : (c : Start) → Type 0
Given c =
    let a = c.args in Begin a.dry a.image.now (tables a.widths.now a.map.now) a.parent a.t a.label a.node.now

pub label_at-above-requires : goal.label_at-above-requires
label_at-above-requires c = (parent_label c.requires.0.aim).0

pub place_node-f-requires : goal.place_node-f-requires
place_node-f-requires c =
    let w = c.requires.0 in
    let f = setup_is w c.requires.1 in
    let z : length c.args.node.now ≤ most_node =
    omega (arith, ap length w.is, length_bytes (as_row (st w) w.x nil), node_most (st w) w.x w.fits) in
    (start_env w f, (omega (arith, matrix_of f, long w, (valid w).ranges.few), (omega arith, (z, omega arith))))

-- what page 0 says, and what placing the node leaves
setup_here : (c : After-place_node-f) → (w : Given (goal.at.After-place_node-f c).Start) → setup_of (st w) ≡ c.args.setup
setup_here c w =
    setup_is w c.requires.1

placed_is : (c : After-place_node-f) → (w : Given (goal.at.After-place_node-f c).Start)
    → let z = c.place_node-f.new in
    let g : Growing = record { setup = c.args.setup; near = c.args.t.page; dry = c.args.dry } in
    NodePlaced (st w) w.x (h w) g (W w)
    (tables c.args.widths.now c.args.map.now) c.args.image.now (replicate most_node 0) c.place_node-f.result
    (tables z.widths z.map) z.image z.out
placed_is c w =
    c.place_node-f.ensures (st w) (root w) w.aim.reads (setup_here c w) (W w) w.marked w.x (h w)
    (sym (c.label_at-above.ensures.0 ∙ (parent_label w.aim).1)) w.named w.is

fits_new : (c : After-place_node-f) → c.place_node-f.result.size ≤ length c.place_node-f.new.out
fits_new c =
    let w = c.requires.0 in
    let z = placed_size w (setup_here c w) (placed_is c w) in
    omega (arith, z, c.place_node-f.auto.out)

pub slice_bounds-new-end : goal.slice_bounds-new-end
slice_bounds-new-end c = fits_new (goal.at.slice_bounds-new-end c).After-place_node-f

pub slice_bounds-take_in-end : goal.slice_bounds-take_in-end
slice_bounds-take_in-end c = sym (length-take-le _ _ (fits_new (goal.at.slice_bounds-take_in-end c).After-place_node-f))

pub take_in-len-requires : goal.take_in-len-requires
take_in-len-requires c =
    let w = c.requires.0 in
    (into_record w (setup_here (goal.at.take_in-len-requires c).After-place_node-f w) (placed_is (goal.at.take_in-len-requires c).After-place_node-f w), refl)

-- the record with the node
taken_is : (c : After-take_in-len) → (w : Given (goal.at.After-take_in-len c).Start)
    → let r = fill (position w) (P w ⊹ rest w) in
    (c.take_in-len.result ≡ record_size r) × (c.take_in-len.new.buf ≡ over 0 (record_bytes r) (replicate buffer_size 0))
taken_is c w =
    c.take_in-len.ensures (into_record w (setup_here (goal.at.After-take_in-len c).After-place_node-f w) (placed_is (goal.at.After-take_in-len c).After-place_node-f w))

pub cascade-requires : goal.cascade-requires
cascade-requires c =
    let w = c.requires.0 in
    let t = taken_is (goal.at.cascade-requires c).After-take_in-len w in
    (c.take_in-len.auto.buf, cascade_ready w (setup_here (goal.at.cascade-requires c).After-place_node-f w) (placed_is (goal.at.cascade-requires c).After-place_node-f w) (replicate buffer_size 0) t.0 t.1)

pub returns : goal.returns
returns c =
    λ w.
    let f = setup_here (goal.at.returns c).After-place_node-f w in
    let z = placed_is (goal.at.returns c).After-place_node-f w in
    let b : List ℕ = replicate buffer_size 0 in
    let t = taken_is (goal.at.returns c).After-take_in-len w in
    once_done w f z b t.0 t.1 (c.cascade.ensures (cascade_ready w f z b t.0 t.1))
