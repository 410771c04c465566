use Rattle.std.proofs.Common.{arith, sym, ◌∙◌}
use Rattle.read_pages.specs.declared.PageState.TheVariants.{Broken, Free, Record}
use Rattle.read_pages.proofs.Scans.{count_end, count_turn, scan_counted}
use Rattle.read_pages.proofs.scan_pages.Goals as goal
use Rattle.read_pages.proofs.scan_pages.Goals.{in-Free, in-Record}

pub returns-in-Broken : goal.returns-in-Broken
returns-in-Broken c =
    let l = c.loop-p in
    let e = sym (l.invariant.1 ∙ count_turn c.args.image.now c.args.pages l.p l.n Broken c.in-Broken.ensures c.loop-p-test.true) in
    record { count = e; scan = scan_counted c.args.image.now c.args.pages _ 1 0 _ e }

pub loop-p-preserved : goal.loop-p-preserved
loop-p-preserved c =
    let l = c.loop-p in
    elim c.match-page_state.branch [
      | in-Free w ↦ (omega arith, l.invariant.1 ∙ rw w.n-is (count_turn c.args.image.now c.args.pages l.p l.n Free w.in-Free.ensures c.loop-p-test.true))
      | in-Record w ↦ (omega arith, l.invariant.1 ∙ rw w.n-is (count_turn c.args.image.now c.args.pages l.p l.n Record w.in-Record.ensures c.loop-p-test.true))
    ]

pub returns : goal.returns
returns c =
    let l = c.loop-p in
    let e = count_end c.args.image.now c.args.pages l.p l.n c.loop-p-test.false ∙ sym l.invariant.1 in
    record { count = e; scan = scan_counted c.args.image.now c.args.pages _ 1 0 _ e }
