-- In each answer l is the loop's variables, w what cascade requires, o and k what the loop goes by, r the record that it is at.
use mathlib.Core.Path.{◌≡◌, refl, sym, ap, subst, ◌∙◌}
use mathlib.Core.Bool.{true, ◌||◌, cond}
use Prim.Native.Nat.{◌+◌, ◌≤◌, ◌<◌}
use native.Mathlib.Omega.{arith}
use lib.ListN.{length, take, replicate}
use lib.Seq.{length-take-le}
use lib.IntN.{pos}
use mir.Syntax.{w32}
use mir.Val.{to_z, of_z}
use mir.Facts.{to_z-of_z}
use Rattle.model.specs.Limits.{most_pages, capacity}
use Rattle.model.specs.Row.{record_size}
use Rattle.model.specs.Claims.{InLean}
use Rattle.base_layout.specs.Growing.{separator_size, near_to}
use Rattle.grow_split_point.specs.Lean.{lean_signed, lean_now, lean_in}
use Rattle.theory_growth.specs.Chain.{last_settled}
use Rattle.grow_groups.specs.Step.{front_end}
use Rattle.model.specs.Growth.{lean_of}
use Rattle.grow_write_back.specs.Off.{leaves, SplitOff}
use Rattle.grow_cascade.specs.Rising.{inside, long_image, settled_is, settled_most, holder_is, holder_high, able, range, env, good, off, bit_one, bit_other}
use Rattle.grow_cascade.specs.Stops.{content, low_done, severed_long, severed_content, settled_done}
use Rattle.grow_groups.specs.Used.{tables}
use Rattle.grow_cascade.specs.Cascade.{Cascade, goal_of, mem_of, Onward, onward_start, onward_end, Upward, upward}
use Rattle.grow_cascade.proofs.cascade.Goals as goal
use Rattle.grow_cascade.proofs.cascade.Goals.{After-back_at-holder, After-lean_now-lean, After-split_off-s, At-loop-len, Start}

pub loop-len-init : goal.loop-len-init
loop-len-init c = (λ w. onward_start w, c.requires.0)

-- what cascade requires
abbrev Given : (c : Start) → Type 0
Given c =
    let a = c.args in
    Cascade a.start a.len a.full 0 (pos 0) a.buf.now (tables a.widths.now a.map.now) a.image.now

-- the record that the loop is at
here : (c : At-loop-len) → let w = c.requires.1 in let l = c.loop-len in
    Onward (goal_of w) (mem_of w) c.args.image.now (tables c.args.widths.now c.args.map.now) (near_to c.args.start l.near) l.len l.full l.splits (to_z w32 l.lean-bits)
    l.buf (tables l.widths l.map) l.image
here c =
    c.loop-len.invariant.0 c.requires.1

pub overflow_mul-near : goal.overflow_mul-near
overflow_mul-near c = omega (arith, inside (here (goal.at.overflow_mul-near c).At-loop-len).now.rising)

pub settled_at-settled-requires : goal.settled_at-settled-requires
settled_at-settled-requires c = omega (arith, inside (here (goal.at.settled_at-settled-requires c).At-loop-len).now.rising)

pub overflow_mul-near-in-loop-len : goal.overflow_mul-near-in-loop-len
overflow_mul-near-in-loop-len c = omega (arith, inside (here (goal.at.overflow_mul-near-in-loop-len c).At-loop-len).now.rising)

pub back_at-holder-requires : goal.back_at-holder-requires
back_at-holder-requires c = omega (arith, inside (here (goal.at.back_at-holder-requires c).At-loop-len).now.rising)

-- the length of the new content
fits_buffer : (c : At-loop-len) → c.loop-len.len ≤ length c.loop-len.buf
fits_buffer c =
    let r = (here c).now.rising in omega (arith, r.long, (able r).most, c.loop-len.invariant.1)

taken_length : (c : At-loop-len) → c.loop-len.len ≡ length (take c.loop-len.len c.loop-len.buf)
taken_length c =
    sym (length-take-le c.loop-len.len c.loop-len.buf (fits_buffer c))

pub slice_bounds-keep-end : goal.slice_bounds-keep-end
slice_bounds-keep-end c = fits_buffer (goal.at.slice_bounds-keep-end c).At-loop-len

pub slice_bounds-keep-end-then-len-le-CAPACITY : goal.slice_bounds-keep-end-then-len-le-CAPACITY
slice_bounds-keep-end-then-len-le-CAPACITY c = taken_length (goal.at.slice_bounds-keep-end-then-len-le-CAPACITY c).At-loop-len

-- the trailer of its page
settled_in : (c : After-back_at-holder) → (c.settled_at-settled.result ≤ 1) × (c.back_at-holder.result < most_pages)
settled_in c =
    let r = (here (goal.at.After-back_at-holder c).At-loop-len).now.rising in
    omega (arith, c.settled_at-settled.ensures.0, settled_most r, c.back_at-holder.ensures.0, holder_is r, holder_high r)

bit_of : (c : After-back_at-holder) → (w : Given (goal.at.After-back_at-holder c).Start)
    → c.settled_at-settled.result ≡ cond (last_settled (c.loop-len.invariant.0 w).now.chain) 1 0
bit_of c w =
    c.settled_at-settled.ensures.0 ∙ settled_is (c.loop-len.invariant.0 w).now.rising

pub keep-requires : goal.keep-requires
keep-requires c =
    let r = (here (goal.at.keep-requires c).At-loop-len).now.rising in
    let i = inside r in (
      i.1.1.0,
      (
        omega (arith, long_image r),
        (
          i.1.0,
          ((settled_in (goal.at.keep-requires c).After-back_at-holder).0, ((settled_in (goal.at.keep-requires c).After-back_at-holder).1, content r (omega (arith, r.long, c.if-len-le-CAPACITY.true)))),
        ),
      ),
    )

pub shape_of-image-then-len-le-CAPACITY : goal.shape_of-image-then-len-le-CAPACITY
shape_of-image-then-len-le-CAPACITY c = c.keep.auto.image ∙ (here (goal.at.shape_of-image-then-len-le-CAPACITY c).At-loop-len).same

pub shape_of-widths-then-len-le-CAPACITY : goal.shape_of-widths-then-len-le-CAPACITY
shape_of-widths-then-len-le-CAPACITY c = (here (goal.at.shape_of-widths-then-len-le-CAPACITY c).At-loop-len).as_long.widths

pub shape_of-map-then-len-le-CAPACITY : goal.shape_of-map-then-len-le-CAPACITY
shape_of-map-then-len-le-CAPACITY c = (here (goal.at.shape_of-map-then-len-le-CAPACITY c).At-loop-len).as_long.map

pub returns-then-len-le-CAPACITY : goal.returns-then-len-le-CAPACITY
returns-then-len-le-CAPACITY c =
    λ w.
    let o = c.loop-len.invariant.0 w in
    let r = o.now.rising in
    let fit : record_size o.now.row ≤ capacity = omega (arith, r.long, c.if-len-le-CAPACITY.true) in
    onward_end o (low_done r fit (c.back_at-holder.ensures.0 ∙ holder_is r)
    (c.keep.ensures (content r fit) (last_settled o.now.chain) (bit_of (goal.at.returns-then-len-le-CAPACITY c).After-back_at-holder w)))

pub slice_bounds-split_off-end : goal.slice_bounds-split_off-end
slice_bounds-split_off-end c = fits_buffer (goal.at.slice_bounds-split_off-end c).At-loop-len

pub slice_bounds-split_off-end-in-loop-len : goal.slice_bounds-split_off-end-in-loop-len
slice_bounds-split_off-end-in-loop-len c = taken_length (goal.at.slice_bounds-split_off-end-in-loop-len c).At-loop-len

pub split_off-s-requires : goal.split_off-s-requires
split_off-s-requires c =
    let d = c.args.start.dry in
    let r = (c.loop-len.invariant.0 c.requires.1).now.rising in
    (env r d, (refl, off r (omega (arith, r.long, c.if-len-le-CAPACITY.false)) d _ (bit_of (goal.at.split_off-s-requires c).After-back_at-holder c.requires.1)))

large : (c : After-split_off-s) → (w : Given (goal.at.After-split_off-s c).Start) → capacity < record_size (c.loop-len.invariant.0 w).now.row
large c w =
    omega (arith, (c.loop-len.invariant.0 w).now.rising.long, c.if-len-le-CAPACITY.false)

cut_of : (c : After-split_off-s) → (w : Given (goal.at.After-split_off-s c).Start)
    → let k = (c.loop-len.invariant.0 w).now in let z = c.split_off-s.new in let r = c.split_off-s.result in
    SplitOff k.st (near_to c.args.start c.loop-len.near) k.row k.work (last_settled k.chain) r.end r.full
    (tables c.loop-len.widths c.loop-len.map) (tables z.widths z.map) c.loop-len.image z.image (replicate separator_size 0) z.out × (r.lean ≡ lean_of k.st k.row)
cut_of c w =
    c.split_off-s.ensures (off (c.loop-len.invariant.0 w).now.rising (large c w) c.args.start.dry _ (bit_of (goal.at.After-split_off-s c).After-back_at-holder w))

-- its lean
lean_last : (c : After-split_off-s) → let z = c.split_off-s.result.lean in InLean z × (to_z w32 (of_z w32 z) ≡ z)
lean_last c =
    let w = c.requires.1 in
    let k = (c.loop-len.invariant.0 w).now in
    let y = subst InLean (sym (cut_of c w).1) (good k.rising (large c w) k.work).leans in
    (y, to_z-of_z {w = w32} (lean_signed _ y))

pub lean_now-lean-requires : goal.lean_now-lean-requires
lean_now-lean-requires c =
    (range (here (goal.at.lean_now-lean-requires c).At-loop-len).now.rising, subst InLean (sym (lean_last (goal.at.lean_now-lean-requires c).After-split_off-s).1) (lean_last (goal.at.lean_now-lean-requires c).After-split_off-s).0)

lean_here : (c : After-lean_now-lean) → let l = c.loop-len in (w : Given (goal.at.After-lean_now-lean c).Start)
    → let k = (l.invariant.0 w).now in to_z w32 (of_z w32 c.lean_now-lean.result) ≡ lean_now l.splits (to_z w32 l.lean-bits) (lean_of k.st k.row)
lean_here c w =
    let l = c.loop-len in
    let now = lean_now l.splits (to_z w32 l.lean-bits) in
    let e : c.lean_now-lean.result ≡ now c.split_off-s.result.lean = c.lean_now-lean.ensures ∙ ap now (lean_last (goal.at.After-lean_now-lean c).After-split_off-s).1 in
    to_z-of_z {w = w32} (lean_signed _ (subst InLean (sym e) (lean_in l.splits _ _ (range (l.invariant.0 w).now.rising) (lean_last (goal.at.After-lean_now-lean c).After-split_off-s).0))) ∙ e
    ∙ ap now (cut_of (goal.at.After-lean_now-lean c).After-split_off-s w).1

pub overflow_add-splits : goal.overflow_add-splits
overflow_add-splits c = omega (arith, (here (goal.at.overflow_add-splits c).At-loop-len).now.rising.short)

-- the separator is within its array
ends : (c : After-split_off-s) → c.split_off-s.result.end ≤ length c.split_off-s.new.out
ends c =
    let w = c.requires.1 in
    let k = (c.loop-len.invariant.0 w).now in
    let v = leaves k.st (last_settled k.chain) c.loop-len.near k.row k.work in
    front_end (cut_of c w).0 (omega (arith, (good k.rising (large c w) v).small))

taken_end : (c : After-split_off-s) → let r = c.split_off-s.result.end in r ≡ length (take r c.split_off-s.new.out)
taken_end c =
    sym (length-take-le _ _ (ends c))

pub slice_bounds-sep-end : goal.slice_bounds-sep-end
slice_bounds-sep-end c = ends (goal.at.slice_bounds-sep-end c).After-split_off-s

pub slice_bounds-keep-end-then-settled-eq1 : goal.slice_bounds-keep-end-then-settled-eq1
slice_bounds-keep-end-then-settled-eq1 c = taken_end (goal.at.slice_bounds-keep-end-then-settled-eq1 c).After-split_off-s

-- the split record is settled
stays_of : (c : After-split_off-s) → c.settled_at-settled.result ≡ 1 → (w : Given (goal.at.After-split_off-s c).Start)
    → last_settled (c.loop-len.invariant.0 w).now.chain ≡ true
stays_of c e w =
    bit_one (last_settled (c.loop-len.invariant.0 w).now.chain) (bit_of (goal.at.After-split_off-s c).After-back_at-holder w) e

pub keep-requires-then-settled-eq1 : goal.keep-requires-then-settled-eq1
keep-requires-then-settled-eq1 c =
    let w = c.requires.1 in
    let r = (c.loop-len.invariant.0 w).now.rising in
    let i = inside r in
    let y = stays_of (goal.at.keep-requires-then-settled-eq1 c).After-split_off-s c.if-settled-eq1.true w in
    let v = (cut_of (goal.at.keep-requires-then-settled-eq1 c).After-split_off-s w).0 in (
      i.1.1.0,
      (omega (arith, long_image r, severed_long r (large (goal.at.keep-requires-then-settled-eq1 c).After-split_off-s w) y v), (i.1.0, ((settled_in (goal.at.keep-requires-then-settled-eq1 c).After-back_at-holder).0, ((settled_in (goal.at.keep-requires-then-settled-eq1 c).After-back_at-holder).1, severed_content r (large (goal.at.keep-requires-then-settled-eq1 c).After-split_off-s w) y v)))),
    )

pub shape_of-image-then-settled-eq1 : goal.shape_of-image-then-settled-eq1
shape_of-image-then-settled-eq1 c =
    c.keep-then-settled-eq1.auto.image ∙ c.split_off-s.auto.image ∙ (here (goal.at.shape_of-image-then-settled-eq1 c).At-loop-len).same

pub shape_of-widths-then-settled-eq1 : goal.shape_of-widths-then-settled-eq1
shape_of-widths-then-settled-eq1 c = c.split_off-s.auto.widths ∙ (here (goal.at.shape_of-widths-then-settled-eq1 c).At-loop-len).as_long.widths

pub shape_of-map-then-settled-eq1 : goal.shape_of-map-then-settled-eq1
shape_of-map-then-settled-eq1 c = c.split_off-s.auto.map ∙ (here (goal.at.shape_of-map-then-settled-eq1 c).At-loop-len).as_long.map

pub shape_of-buf-then-settled-eq1 : goal.shape_of-buf-then-settled-eq1
shape_of-buf-then-settled-eq1 c = c.loop-len.invariant.1 ∙ sym c.requires.0

pub returns-then-settled-eq1 : goal.returns-then-settled-eq1
returns-then-settled-eq1 c =
    λ w.
    let o = c.loop-len.invariant.0 w in
    let r = o.now.rising in
    let y = stays_of (goal.at.returns-then-settled-eq1 c).After-split_off-s c.if-settled-eq1.true w in
    let v = (cut_of (goal.at.returns-then-settled-eq1 c).After-split_off-s w).0 in
    onward_end o (settled_done r (large (goal.at.returns-then-settled-eq1 c).After-split_off-s w) y v (lean_here (goal.at.returns-then-settled-eq1 c).After-lean_now-lean w) (c.back_at-holder.ensures.0 ∙ holder_is r)
    (c.keep-then-settled-eq1.ensures (severed_content r (large (goal.at.returns-then-settled-eq1 c).After-split_off-s w) y v) (last_settled o.now.chain) (bit_of (goal.at.returns-then-settled-eq1 c).After-back_at-holder w)))

pub slice_bounds-sep-end-in-loop-len : goal.slice_bounds-sep-end-in-loop-len
slice_bounds-sep-end-in-loop-len c = ends (goal.at.slice_bounds-sep-end-in-loop-len c).After-split_off-s

pub slice_bounds-lift-end : goal.slice_bounds-lift-end
slice_bounds-lift-end c = taken_end (goal.at.slice_bounds-lift-end c).After-split_off-s

-- the record above
above : (c : After-lean_now-lean) → let l = c.loop-len in let z = c.split_off-s.new in let q = c.split_off-s.result in (c.settled_at-settled.result ≡ 1 → ⊥) → (w : Given (goal.at.After-lean_now-lean c).Start)
    → Upward (goal_of w) (mem_of w) c.args.image.now (tables c.args.widths.now c.args.map.now) (near_to c.args.start l.near) c.back_at-holder.result q.end (l.full || q.full) (l.splits + 1)
    (to_z w32 (of_z w32 c.lean_now-lean.result)) l.buf (tables z.widths z.map) z.image z.out
above c e w =
    let o = c.loop-len.invariant.0 w in
    upward o (large (goal.at.After-lean_now-lean c).After-split_off-s w) (bit_other (last_settled o.now.chain) (bit_of (goal.at.After-lean_now-lean c).After-back_at-holder w) e) (c.back_at-holder.ensures.0 ∙ holder_is o.now.rising)
    (cut_of (goal.at.After-lean_now-lean c).After-split_off-s w).0 (lean_here c w)

pub lift-len-requires : goal.lift-len-requires
lift-len-requires c =
    ((above (goal.at.lift-len-requires c).After-lean_now-lean c.if-settled-eq1.false c.requires.1).lift, omega (arith, c.loop-len.invariant.1))

pub loop-len-smaller : goal.loop-len-smaller
loop-len-smaller c =
    let a = above (goal.at.loop-len-smaller c).After-lean_now-lean c.if-settled-eq1.false c.requires.1 in
    let e = c.lift-len.ensures a.lift in
    omega (arith, (a.next _ _ e.0 e.1).now.rising.short)

pub loop-len-preserved : goal.loop-len-preserved
loop-len-preserved c =
    let t = c.lift-len in
    let n = c.if-settled-eq1.false in
    (λ w. let a = above (goal.at.loop-len-preserved c).After-lean_now-lean n w in let e = t.ensures a.lift in a.next _ _ e.0 e.1, t.auto.buf ∙ c.loop-len.invariant.1)
