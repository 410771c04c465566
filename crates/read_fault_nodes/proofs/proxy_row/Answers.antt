-- `read_fault_nodes::proxy_row`: test by test; the page that is entered is marked.
use Rattle.std.proofs.Common.{arith, sym, ◌∙◌}
use Rattle.read_fault_nodes.specs.Nodes.{leads_stop, holds, proxy_names, proxy_left, proxy_again, proxy_leads}
use Rattle.read_fault_nodes.proofs.proxy_row.Goals as goal
use Rattle.read_fault_nodes.proofs.proxy_row.Goals.{then-not-names-via-then-not-names, then-not-names-via-else-not-names+then-left-lt2}
use Rattle.read_fault_nodes.proofs.proxy_row.Goals.{then-not-names-via-else-not-names+else-left-lt2+then-is_marked}

pub is_marked-requires : goal.is_marked-requires
is_marked-requires c = omega (arith, (holds _ _ _ (sym c.names.ensures ∙ c.if-not-names.false)).few)

pub returns-then-not-names : goal.returns-then-not-names
returns-then-not-names c =
    leads_stop _ _ c.new.ensures
    (elim c.then-not-names.branch [
      | then-not-names-via-then-not-names w ↦ λ ps k. proxy_names _ _ _ _ _ (sym c.names.ensures ∙ w.if-not-names.true) ps
      | then-not-names-via-else-not-names+then-left-lt2 w ↦ λ ps k. proxy_left _ _ _ _ _ w.if-left-lt2.true ps
      | then-not-names-via-else-not-names+else-left-lt2+then-is_marked w ↦
          proxy_again _ _ _ _ _ _ (sym c.names.ensures ∙ w.if-not-names.false) (sym w.is_marked.ensures ∙ w.if-is_marked.true)
    ])

pub set_mark-requires : goal.set_mark-requires
set_mark-requires c = omega (arith, (holds _ _ _ (sym c.names.ensures ∙ c.if-not-names.false)).few)

pub root_fits-requires : goal.root_fits-requires
root_fits-requires c =
    let h = holds _ _ _ (sym c.names.ensures ∙ c.if-not-names.false) in
    (h.few, h.on)

pub record_row-requires : goal.record_row-requires
record_row-requires c =
    (holds _ _ _ (sym c.names.ensures ∙ c.if-not-names.false), c.requires.1)

pub returns : goal.returns
returns c =
    proxy_leads _ _ _ _ _ _ (sym c.names.ensures ∙ c.if-not-names.false) c.if-left-lt2.false
    (sym c.is_marked.ensures ∙ c.if-is_marked.false) c.set_mark.ensures c.root_fits.ensures c.record_row.ensures
