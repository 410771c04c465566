-- `read_fault_nodes::record_row`: test by test.
use Rattle.std.proofs.Common.{sym, ◌∙◌}
use Rattle.read_fault_nodes.specs.Nodes.{to_stop, record_root, record_tail, record_part, record_leads}
use Rattle.read_fault_nodes.proofs.record_row.Goals as goal

pub returns-then-not-root_ok : goal.returns-then-not-root_ok
returns-then-not-root_ok c = to_stop _ _ c.new.ensures (record_root _ _ _ _ _ c.if-not-root_ok.true)

pub returns-then-not-tail_zero : goal.returns-then-not-tail_zero
returns-then-not-tail_zero c =
    to_stop _ _ c.new-then-not-tail_zero.ensures (record_tail _ _ _ _ _ c.if-not-root_ok.false (sym c.tail_zero.ensures ∙ c.if-not-tail_zero.true))

pub returns-then-size_of-n : goal.returns-then-size_of-n
returns-then-size_of-n c =
    to_stop _ _ c.new-then-size_of-n.ensures
    (record_part _ _ _ _ _ c.requires.0 c.if-not-root_ok.false (sym c.tail_zero.ensures ∙ c.if-not-tail_zero.false) _ _
    c.used_at-n.ensures.0 c.size_of.ensures c.if-size_of-n.true)

pub returns : goal.returns
returns c =
    record_leads _ _ _ _ _ c.requires.0 c.if-not-root_ok.false (sym c.tail_zero.ensures ∙ c.if-not-tail_zero.false) _ _
    c.used_at-n.ensures.0 c.size_of.ensures c.if-size_of-n.false
