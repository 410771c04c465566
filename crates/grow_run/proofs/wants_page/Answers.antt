-- `grow_run::wants_page`: by the matrix, and by the length of the record with the node.
use mathlib.Core.Path.{◌≡◌, sym, ap, ◌∙◌}
use mathlib.Core.Bool.{true}
use Prim.Native.Nat.{ℕ, ◌+◌, ◌*◌, ◌<◌, ◌≤◌}
use native.Mathlib.Omega.{arith}
use lib.ListN.{length}
use lib.Dec.{ltb}
use Rattle.model.specs.Limits.{most_pages, page_size, capacity}
use Rattle.model.specs.Growth.{apart}
use Rattle.base_layout.specs.Growing.{matrix_of}
use Rattle.grow_groups.specs.Used.{Tables}
use Rattle.grow_locate.specs.declared.Receiver.{Receiver}
use Rattle.grow_locate.proofs.Aim.{parent_label}
use Rattle.grow_run.specs.Begin.{Begin, st, root, h, long, valid, setup_is, stands}
use Rattle.grow_run.specs.Unsplit.{by_matrix}
use Rattle.grow_run.proofs.wants_page.Goals as goal
use Rattle.grow_run.proofs.wants_page.Goals.{After-is_apart, Start}

pub label_at-requires : goal.label_at-requires
label_at-requires c = (parent_label c.requires.0.1.aim).0

pub is_apart-requires : goal.is_apart-requires
is_apart-requires c =
    let (w, e) = c.requires in
    omega (arith, matrix_of (setup_is w.1 e), long w.1, (valid w.1).ranges.few)

-- what is_apart says is what the matrix says of the two heads
apart_is : (c : After-is_apart) → {u : Tables} → let a = c.args in
    (w : Begin true a.image.now u a.parent a.t a.label a.node.now) → c.is_apart.result ≡ apart (st w) (h w) w.x.head
apart_is c w =
    let label = sym (c.label_at.ensures.0 ∙ (parent_label w.aim).1) in
    c.is_apart.ensures (st w) (root w) w.aim.reads (setup_is w c.requires.1) (h w) w.x.head label w.named

pub returns-then-is_apart : goal.returns-then-is_apart
returns-then-is_apart c = λ u w. by_matrix w (sym (apart_is (goal.at.returns-then-is_apart c).After-is_apart w) ∙ c.if-is_apart.true)

-- the record's page is one of the image's
inside : (c : Start) → (c.args.t.page < most_pages) × (page_size * c.args.t.page + page_size ≤ length c.args.image.now)
inside c =
    let w = c.requires.0.1 in
    let o = (stands w).here.on in
    omega (arith, ap (λ (r : Receiver). r.page) w.receiver, o.high, o.inside)

pub overflow_mul-t : goal.overflow_mul-t
overflow_mul-t c = omega (arith, inside (goal.at.overflow_mul-t c).Start)

pub used_at-requires : goal.used_at-requires
used_at-requires c = omega (arith, inside (goal.at.used_at-requires c).Start)

pub returns : goal.returns
returns c = λ u w.
    let no = sym (apart_is (goal.at.returns c).After-is_apart w) ∙ c.if-is_apart.false in
    ap (λ (n : ℕ). ltb capacity (n + length c.args.node.now)) c.used_at.ensures.0 ∙ by_matrix w no
