-- `read_fault_nodes::inside`: by the kind of the node.
use Rattle.std.proofs.Common.{refl, ap, ◌∙◌, arith}
use Rattle.model.specs.WalkTests.{passing_kind}
use Rattle.read_fault_nodes.specs.Rows.{literal, aggregate}
use Rattle.read_fault_nodes.specs.Nodes.{leads_stop, leads_row, leads_same, inside_none, inside_size, inside_proxy, into_proxy, inside_helper, into_helper}
use Rattle.read_fault_nodes.specs.Nodes.{inside_deep, inside_literal, inside_aggregate}
use Rattle.read_fault_nodes.proofs.inside.Goals as goal

pub returns-in-0 : goal.returns-in-0
returns-in-0 c =
    let is = c.head-kind.ensures ∙ ap (passing_kind _) c.number.ensures in
    leads_stop _ _ c.new.ensures (λ ps k. inside_none _ _ _ _ _ _ _ is c.in-0.is ps)

pub returns-then-part-ne-PROXY : goal.returns-then-part-ne-PROXY
returns-then-part-ne-PROXY c =
    let is = c.head-kind.ensures ∙ ap (passing_kind _) c.number.ensures in
    leads_stop _ _ c.new-then-part-ne-PROXY.ensures (λ ps k. inside_size _ _ _ _ _ _ _ is c.in-3.is c.if-part-ne-PROXY.true ps)

pub returns-else-part-ne-PROXY : goal.returns-else-part-ne-PROXY
returns-else-part-ne-PROXY c =
    let w = c.requires in
    let is = c.head-kind.ensures ∙ ap (passing_kind _) c.number.ensures in
    let eight = c.if-part-ne-PROXY.false in
    leads_same (inside_proxy _ _ _ _ _ _ _ is c.in-3.is eight _ c.name_at.ensures.0)
    (λ x. into_proxy _ _ _ _ _ _ _ is w.1 w.2 _ c.in-3.is eight) c.proxy_row.ensures

pub returns-in-4 : goal.returns-in-4
returns-in-4 c =
    let w = c.requires in
    let is = c.head-kind.ensures ∙ ap (passing_kind _) c.number.ensures in
    leads_row (into_helper _ _ _ _ _ _ _ is w.1 w.2 c.in-4.is refl) (inside_helper _ _ _ _ _ _ _ is w.1 w.2 c.in-4.is)

pub returns-then-level-gt-LEVELS : goal.returns-then-level-gt-LEVELS
returns-then-level-gt-LEVELS c =
    let w = c.requires in
    let is = c.head-kind.ensures ∙ ap (passing_kind _) c.number.ensures in
    leads_stop _ _ c.new-then-level-gt-LEVELS.ensures
    (λ ps k. inside_deep _ _ _ _ _ _ _ is w.1 w.2 (λ z. omega arith) (λ z. omega arith) (λ z. omega arith) c.if-level-gt-LEVELS.true ps)

pub returns-then-kind-eq2 : goal.returns-then-kind-eq2
returns-then-kind-eq2 c =
    let w = c.requires in
    let is = c.head-kind.ensures ∙ ap (passing_kind _) c.number.ensures in
    leads_row (literal refl refl)
    (inside_literal _ _ _ _ _ _ _ is w.1 w.2 (λ z. omega arith) (λ z. omega arith) (λ z. omega arith) c.if-level-gt-LEVELS.false c.if-kind-eq2.true)

pub returns-else-kind-eq2 : goal.returns-else-kind-eq2
returns-else-kind-eq2 c =
    let w = c.requires in
    let is = c.head-kind.ensures ∙ ap (passing_kind _) c.number.ensures in
    let low = c.if-level-gt-LEVELS.false in
    leads_row (aggregate refl low refl)
    (inside_aggregate _ _ _ _ _ _ _ is w.1 w.2 (λ z. omega arith) (λ z. omega arith) (λ z. omega arith) low c.if-kind-eq2.false)
