-- In each answer w is the row that stands at the start, v what the left group leaves, i what the inner level leaves.
use mathlib.Core.Path.{◌≡◌, sym, ◌∙◌}
use mathlib.Core.Bool.{true, false}
use native.Mathlib.Omega.{arith}
use lib.ListN.{length, length-take}
use Prim.Native.Nat.{ℕ, ◌+◌, ◌-◌, ◌<◌, ◌≤◌}
use Rattle.base_layout.specs.Growing.{tolerance_of}
use Rattle.grow_split_point.specs.Kids.{first_low}
use Rattle.grow_split_point.specs.Level.{chosen_fits, inner_fits}
use Rattle.theory_rows.specs.Cut.{goes_into}
use Rattle.grow_groups.specs.Used.{tables}
use Rattle.grow_split.specs.Separate.{Sep, Left, at_x, left_group, left_end, env_left, right_group, done_apart}
use Rattle.grow_split.specs.Separate.{header_room, inner_sep, Inside, inner_room, env_inner, rest_group, done_inside}
use Rattle.grow_split.proofs.+separate.Goals as goal
use Rattle.grow_split.proofs.+separate.Goals.{After-child-x, After-put_group-a, After-separate-b, After-size_at, Else-enters, Start}

-- what separate requires of the row
abbrev Given : (t : ℕ) (c : Start t) → Type 0
Given t c =
    let a = c.args in Sep a.g a.row a.buf.now (tables a.widths.now a.map.now) a.image.now (length a.out.now - a.at)

-- the chosen child is in the row
x_in : (t : ℕ) (c : After-child-x t) → let a = c.args in
    (a.row.pos ≤ c.child-x.result) × ((c.child-x.result + 6 ≤ a.row.end) × (a.row.end ≤ length a.buf.now))
x_in t c =
    let w = c.requires.1.1.1 in chosen_fits w.kids (c.child-x.ensures w.kids w.st)

pub child-x-requires : goal.child-x-requires
child-x-requires t c = c.requires.1.1.1.kids

pub put_group-a-requires : goal.put_group-a-requires
put_group-a-requires t c =
    let w = c.requires.1.1.1 in
    (c.requires.0, (c.requires.1.0, left_group w (c.child-x.ensures w.kids w.st)))

-- what the left group leaves
left : (t : ℕ) (c : After-put_group-a t) → let a = c.args in let z = c.put_group-a.new in (w : Given t (goal.at.After-put_group-a t c).Start)
    → Left w a.at c.child-x.result c.put_group-a.result (tables z.widths z.map) z.image z.out a.out.now
left t c w =
    let is = c.child-x.ensures w.kids w.st in
    record {
      is = is;
      enough = omega (arith, c.requires.1.0);
      done = c.put_group-a.ensures (left_group w is);
      same = c.put_group-a.auto.out;
    }

pub enters-requires : goal.enters-requires
enters-requires t c =
    let w = c.requires.1.1.1 in
    (omega (arith, x_in t (goal.at.enters-requires t c).After-child-x), first_low (at_x w (c.child-x.ensures w.kids w.st)))

-- the split goes on in the chosen child,
into : (t : ℕ) (c : After-size_at t) → (w : Given t (goal.at.After-size_at t c).Start)
    → goes_into w.st (left t (goal.at.After-size_at t c).After-put_group-a w).is.from ≡ true
into t c w =
    sym (c.enters.ensures _ (at_x w (left t (goal.at.After-size_at t c).After-put_group-a w).is) w.st (tolerance_of w.setup)) ∙ c.if-enters.true

-- which is in the row
inner_in : (t : ℕ) (c : After-size_at t) → let x = c.child-x.result in
    let a = c.args in let k = c.size_at.result in
    (x + 6 < x + k) × ((x + k ≤ a.row.end) × (a.row.end ≤ length a.buf.now))
inner_in t c =
    let w = c.requires.1.1.1 in
    inner_fits (at_x w (left t (goal.at.After-size_at t c).After-put_group-a w).is) w.st (into t c w) _ c.size_at.ensures.0

-- its header has room in out
header_in : (t : ℕ) (c : After-size_at t) → let z = c.put_group-a in
    let n = length c.args.out.now in
    (z.result.end + 6 ≤ n) × ((length z.new.out ≡ n) × (n < 65536))
header_in t c =
    let v = left t (goal.at.After-size_at t c).After-put_group-a c.requires.1.1.1 in
    omega (arith, header_room v (into t c c.requires.1.1.1), v.same, c.requires.1.1.0)

pub copy_in-requires : goal.copy_in-requires
copy_in-requires t c = simp length-take (omega (arith, header_in t (goal.at.copy_in-requires t c).After-size_at))

pub separate-b-requires : goal.separate-b-requires
separate-b-requires t c =
    let w = c.requires.1.1.1 in
    let v = left t (goal.at.separate-b-requires t c).After-put_group-a w in
    let n = header_in t (goal.at.separate-b-requires t c).After-size_at in
    let k = c.copy_in.auto.dst in (
      omega (arith, c.decreases, x_in t (goal.at.separate-b-requires t c).After-child-x, inner_in t (goal.at.separate-b-requires t c).After-size_at),
      (env_left v c.requires.0, (omega arith, (omega arith, inner_sep v (into t (goal.at.separate-b-requires t c).After-size_at w) c.size_at.ensures.0 c.copy_in.ensures))),
    )

-- what the inner level leaves
inside : (t : ℕ) (c : After-separate-b t) → let z = c.separate-b.new in (w : Given t (goal.at.After-separate-b t c).Start)
    → Inside (left t (goal.at.After-separate-b t c).After-put_group-a w) c.size_at.result c.separate-b.result c.copy_in.new.dst (tables z.widths z.map) z.image z.out
inside t c w =
    record {
      into = into t (goal.at.After-separate-b t c).After-size_at w;
      is = c.size_at.ensures.0;
      head = c.copy_in.ensures;
      done = c.separate-b.ensures (inner_sep (left t (goal.at.After-separate-b t c).After-put_group-a w) (into t (goal.at.After-separate-b t c).After-size_at w) c.size_at.ensures.0 c.copy_in.ensures);
      same = c.separate-b.auto.out ∙ c.copy_in.auto.dst;
    }

-- it is in out
inner_out : (t : ℕ) (c : After-separate-b t) → let n = length c.args.out.now in (c.put_group-a.result.end + 6 ≤ c.separate-b.result.end) × ((c.separate-b.result.end ≤ n)
    × ((length c.separate-b.new.out ≡ n) × (n < 65536)))
inner_out t c =
    let i = inside t c c.requires.1.1.1 in
    omega (arith, inner_room _ i, i.same, header_in t (goal.at.After-separate-b t c).After-size_at)

pub put_group-c-requires : goal.put_group-c-requires
put_group-c-requires t c =
    let i = inside t (goal.at.put_group-c-requires t c).After-separate-b c.requires.1.1.1 in
    (env_inner _ i c.requires.0, (omega (arith, inner_out t (goal.at.put_group-c-requires t c).After-separate-b, c.put16.auto.s), rest_group _ i c.put16.auto.s))

pub shape_of-image-then-enters : goal.shape_of-image-then-enters
shape_of-image-then-enters t c =
    c.put_group-c.auto.image ∙ c.separate-b.auto.image ∙ c.put_group-a.auto.image

pub shape_of-widths-then-enters : goal.shape_of-widths-then-enters
shape_of-widths-then-enters t c =
    c.put_group-c.auto.widths ∙ c.separate-b.auto.widths ∙ c.put_group-a.auto.widths

pub shape_of-map-then-enters : goal.shape_of-map-then-enters
shape_of-map-then-enters t c =
    c.put_group-c.auto.map ∙ c.separate-b.auto.map ∙ c.put_group-a.auto.map

pub shape_of-out-then-enters : goal.shape_of-out-then-enters
shape_of-out-then-enters t c =
    c.put_group-c.auto.out ∙ c.put16.auto.s ∙ (inner_out t (goal.at.shape_of-out-then-enters t c).After-separate-b).1.1.0

pub returns-then-enters : goal.returns-then-enters
returns-then-enters t c w =
    let i = inside t (goal.at.returns-then-enters t c).After-separate-b w in
    done_inside _ i c.put16.ensures (c.put_group-c.ensures (rest_group _ i c.put16.auto.s))

-- the chosen child is d
stops : (t : ℕ) (c : Else-enters t) → (w : Given t (goal.at.Else-enters t c).Start)
    → goes_into w.st (left t (goal.at.Else-enters t c).After-put_group-a w).is.from ≡ false
stops t c w =
    sym (c.enters.ensures _ (at_x w (left t (goal.at.Else-enters t c).After-put_group-a w).is) w.st (tolerance_of w.setup)) ∙ c.if-enters.false

pub put_group-b-requires : goal.put_group-b-requires
put_group-b-requires t c =
    let v = left t (goal.at.put_group-b-requires t c).After-put_group-a c.requires.1.1.1 in
    (env_left v c.requires.0, (left_end v, right_group v (stops t (goal.at.put_group-b-requires t c).Else-enters c.requires.1.1.1)))

pub returns : goal.returns
returns t c w =
    done_apart (left t (goal.at.returns t c).After-put_group-a w) (stops t (goal.at.returns t c).Else-enters w) (c.put_group-b.ensures (right_group (left t (goal.at.returns t c).After-put_group-a w) (stops t (goal.at.returns t c).Else-enters w)))

pub slice_bounds-put_group-count : goal.slice_bounds-put_group-count
slice_bounds-put_group-count t c = omega (arith, x_in t (goal.at.slice_bounds-put_group-count t c).After-child-x)

pub slice_bounds-put_group-start : goal.slice_bounds-put_group-start
slice_bounds-put_group-start t c = omega (arith, x_in t (goal.at.slice_bounds-put_group-start t c).After-child-x)

pub slice_bounds-put_group-end : goal.slice_bounds-put_group-end
slice_bounds-put_group-end t c = omega (arith, x_in t (goal.at.slice_bounds-put_group-end t c).After-child-x)

pub overflow_add-inner : goal.overflow_add-inner
overflow_add-inner t c = omega (arith, x_in t (goal.at.overflow_add-inner t c).After-child-x)

pub size_at-requires : goal.size_at-requires
size_at-requires t c = omega (arith, x_in t (goal.at.size_at-requires t c).After-child-x)

pub overflow_add-next : goal.overflow_add-next
overflow_add-next t c = omega (arith, inner_in t (goal.at.overflow_add-next t c).After-size_at)

pub slice_bounds-copy_in-end : goal.slice_bounds-copy_in-end
slice_bounds-copy_in-end t c = omega (arith, x_in t (goal.at.slice_bounds-copy_in-end t c).After-child-x)

pub overflow_add-a : goal.overflow_add-a
overflow_add-a t c = omega (arith, header_in t (goal.at.overflow_add-a t c).After-size_at)

pub overflow_add-a-then-enters : goal.overflow_add-a-then-enters
overflow_add-a-then-enters t c = omega (arith, inner_out t (goal.at.overflow_add-a-then-enters t c).After-separate-b)

pub overflow_sub-b : goal.overflow_sub-b
overflow_sub-b t c = omega (arith, inner_out t (goal.at.overflow_sub-b t c).After-separate-b)

pub put16-requires : goal.put16-requires
put16-requires t c = omega (arith, inner_out t (goal.at.put16-requires t c).After-separate-b)

pub slice_bounds-put_group-count-then-enters : goal.slice_bounds-put_group-count-then-enters
slice_bounds-put_group-count-then-enters t c = omega (arith, inner_in t (goal.at.slice_bounds-put_group-count-then-enters t c).After-size_at)

pub slice_bounds-put_group-start-then-enters : goal.slice_bounds-put_group-start-then-enters
slice_bounds-put_group-start-then-enters t c = omega (arith, inner_in t (goal.at.slice_bounds-put_group-start-then-enters t c).After-size_at)

pub slice_bounds-put_group-end-then-enters : goal.slice_bounds-put_group-end-then-enters
slice_bounds-put_group-end-then-enters t c = omega (arith, inner_in t (goal.at.slice_bounds-put_group-end-then-enters t c).After-size_at)

pub slice_bounds-put_group-count-2 : goal.slice_bounds-put_group-count-2
slice_bounds-put_group-count-2 t c = omega (arith, x_in t (goal.at.slice_bounds-put_group-count-2 t c).After-child-x)

pub slice_bounds-put_group-start-2 : goal.slice_bounds-put_group-start-2
slice_bounds-put_group-start-2 t c = omega (arith, x_in t (goal.at.slice_bounds-put_group-start-2 t c).After-child-x)

pub slice_bounds-put_group-end-2 : goal.slice_bounds-put_group-end-2
slice_bounds-put_group-end-2 t c = omega (arith, x_in t (goal.at.slice_bounds-put_group-end-2 t c).After-child-x)
