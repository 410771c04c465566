use Rattle.std.specs.Prelude.{List, ◌≡◌, ℕ, ◌+◌, ◌-◌, ◌*◌, ◌<◌, ◌≤◌, length}
use Rattle.std.proofs.Common.{arith, refl}
use Rattle.model.specs.Limits.{most_pages, page_size}
use Rattle.grow_widths.specs.Raised.{Raising, page_of_lem, change_step, change_end}
use Rattle.grow_widths.proofs.change.Goals as goal

-- The page is the table's and the image's.
fits : {img u : List ℕ} {page deep : ℕ} → Raising img u page deep → (page < most_pages) × ((page < length u) × (page_size * page + page_size ≤ length img))
fits r = let o = (page_of_lem r).here.on in omega (arith, r.last, o.high, o.inside, r.long)

pub loop-init : goal.loop-init
loop-init g c = λ w m.
    let e : c.args.deep - 0 ≡ c.args.deep = omega arith in
    rw e (record { now = w; goes = refl })

pub offset_bounds-widths-q : goal.offset_bounds-widths-q
offset_bounds-widths-q g c = omega (arith, fits (c.loop.invariant c.requires.way c.requires.makes).now)

pub bounds-widths-q : goal.bounds-widths-q
bounds-widths-q g c = (fits (c.loop.invariant c.requires.way c.requires.makes).now).1.0

pub offset_bounds-widths-q-in-loop : goal.offset_bounds-widths-q-in-loop
offset_bounds-widths-q-in-loop g c = omega (arith, fits (c.loop.invariant c.requires.way c.requires.makes).now)

pub bounds-widths-q-in-loop : goal.bounds-widths-q-in-loop
bounds-widths-q-in-loop g c = (fits (c.loop.invariant c.requires.way c.requires.makes).now).1.0

pub overflow_mul-q : goal.overflow_mul-q
overflow_mul-q g c = omega (arith, fits (c.loop.invariant c.requires.way c.requires.makes).now)

pub back_at-q-requires : goal.back_at-q-requires
back_at-q-requires g c = (fits (c.loop.invariant c.requires.way c.requires.makes).now).1.1

pub loop-preserved : goal.loop-preserved
loop-preserved g c = λ w m.
    let n = c.args.deep - c.loop.counter in
    let e : c.args.deep - (c.loop.counter + 1) ≡ n - 1 = omega arith in
    rw e (change_step n (c.loop.invariant w m) (omega arith) _ _ c.back_at-q.ensures.0 (m.is _ _ c.step.ensures))

pub returns : goal.returns
returns g c = λ w m. change_end (c.args.deep - c.loop.counter) (c.loop.invariant w m) (omega arith)
