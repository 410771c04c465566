-- `grow_refusals::admit`: each test in the order of the refusal table, with the tests before it passed.
use Rattle.std.specs.Prelude.{Ok}
use Rattle.std.proofs.lemmas.Result.{err_from_is_err_and}
use Rattle.std.proofs.Common.{◌≡◌, refl, sym, ◌∙◌, ◌+◌, ◌*◌, arith}
use Rattle.model.specs.Limits.{page_size}
use Rattle.model.specs.Tree.{Node}
use Rattle.model.specs.Answers.{find_result, refusal_number}
use Rattle.model.specs.Calls.Find.{find_of}
use Rattle.model.specs.declared.Place.{Place}
use Rattle.theory_layout.specs.Nodes.{ReadAt}
use Rattle.theory_calls.specs.Open.{passing}
use Rattle.theory_calls.specs.Refusals.{some_number}
use Rattle.grow_refusals.specs.Admit.{read_room, Formed, found_at, too_long, wrong_kind_lem, wrong_origin_lem, long_content_lem, not_found}
use Rattle.grow_refusals.specs.Admit.{parent_is, parent_read, by_parent}
use Rattle.grow_refusals.proofs.admit.Goals as goal
use Rattle.grow_refusals.proofs.admit.Goals.{Else-content-gt-CONTENT}

-- The arguments alone pass.
formed : (c : Else-content-gt-CONTENT) → Formed c.args.path.now c.args.kind c.args.origin c.args.content.now
formed c =
    record {
      short = c.if-path-gt-PARENT_PATH.false;
      good = sym c.kind_bad.ensures ∙ c.if-kind_bad.false;
      known = c.if-origin-gt-MOST_ORIGIN.false;
      small = c.if-content-gt-CONTENT.false;
    }

pub returns-then-path-gt-PARENT_PATH-clause-number : goal.returns-then-path-gt-PARENT_PATH-clause-number
returns-then-path-gt-PARENT_PATH-clause-number c =
    let a = c.args in too_long a.image.now a.path.now a.child a.kind a.origin a.content.now c.if-path-gt-PARENT_PATH.true

pub returns-then-kind_bad-clause-number : goal.returns-then-kind_bad-clause-number
returns-then-kind_bad-clause-number c =
    let a = c.args in
    wrong_kind_lem a.image.now a.path.now a.child a.kind a.origin a.content.now c.if-path-gt-PARENT_PATH.false (sym c.kind_bad.ensures ∙ c.if-kind_bad.true)

pub returns-then-origin-gt-MOST_ORIGIN-clause-number : goal.returns-then-origin-gt-MOST_ORIGIN-clause-number
returns-then-origin-gt-MOST_ORIGIN-clause-number c =
    let a = c.args in
    wrong_origin_lem a.image.now a.path.now a.child a.kind a.origin a.content.now c.if-path-gt-PARENT_PATH.false
    (sym c.kind_bad.ensures ∙ c.if-kind_bad.false) c.if-origin-gt-MOST_ORIGIN.true

pub returns-then-content-gt-CONTENT-clause-number : goal.returns-then-content-gt-CONTENT-clause-number
returns-then-content-gt-CONTENT-clause-number c =
    let a = c.args in
    long_content_lem a.image.now a.path.now a.child a.kind a.origin a.content.now c.if-path-gt-PARENT_PATH.false
    (sym c.kind_bad.ensures ∙ c.if-kind_bad.false) c.if-origin-gt-MOST_ORIGIN.false c.if-content-gt-CONTENT.true

pub returns-in_err-place-clause-number : goal.returns-in_err-place-clause-number
returns-in_err-place-clause-number c =
    let a = c.args in
    let r = c.in_err-place.field-0.0 in
    let p = err_from_is_err_and c.from_residual.result c.from_residual.ensures.1 in
    rw (p.1, p.2) (not_found a.image.now _ a.child _ _ _ (formed (goal.at.returns-in_err-place-clause-number c).Else-content-gt-CONTENT) _ c.in_err-place.ensures
    (refusal_number r) refl (some_number r))

-- The place that find gives is the parent's,
parent_at : (c : Else-content-gt-CONTENT) (x : Place) → find_result (Ok x) ≡ find_of c.args.image.now c.args.path.now
    → page_size * x.page + x.offset ≡ found_at c.args.image.now c.args.path.now
parent_at c x is = parent_is _ _ c.args.child _ _ _ (formed c) _ is refl refl

-- and there is a node there.
parent_node : (c : Else-content-gt-CONTENT) (x : Place) → find_result (Ok x) ≡ find_of c.args.image.now c.args.path.now
    → (n : Node) × ReadAt c.args.image.now n (page_size * x.page + x.offset)
parent_node c x is =
    let (t, r) = passing c.args.image.now c.requires.0 in
    parent_read _ _ c.args.child _ _ _ (formed c) _ is refl t.0 t.1 r (parent_at c x is)

pub overflow_mul-parent : goal.overflow_mul-parent
overflow_mul-parent c =
    omega (arith, read_room (parent_node (goal.at.overflow_mul-parent c).Else-content-gt-CONTENT c.in_ok-place.place c.in_ok-place.ensures).1)

pub overflow_add-parent : goal.overflow_add-parent
overflow_add-parent c =
    omega (arith, read_room (parent_node (goal.at.overflow_add-parent c).Else-content-gt-CONTENT c.in_ok-place.place c.in_ok-place.ensures).1)

pub try_parent-requires : goal.try_parent-requires
try_parent-requires c = (parent_node (goal.at.try_parent-requires c).Else-content-gt-CONTENT c.in_ok-place.place c.in_ok-place.ensures, c.requires.1)

pub returns-clause-number : goal.returns-clause-number
returns-clause-number c =
    let a = c.args in
    let i = (goal.at.returns-clause-number c).Else-content-gt-CONTENT in
    by_parent a.image.now _ a.child _ _ _ (formed i) _ c.in_ok-place.ensures refl _ (parent_at i c.in_ok-place.place c.in_ok-place.ensures) c.try_parent.ensures.number
