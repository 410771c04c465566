-- `store::read`: the part that the numbers name is the content, and it stands where they say.
use Rattle.std.proofs.Common.{ap, ◌∙◌}
use Rattle.std.proofs.lemmas.Result.{err_from_is_err_and}
use Rattle.model.specs.Answers.{ReadNode}
use Rattle.store.specs.Part.{slice, start_in, byte_of, part_is, part_starts}
use Rattle.store.proofs.read.Goals as goal

pub returns-in_err-node : goal.returns-in_err-node
returns-in_err-node c =
    let p = err_from_is_err_and c.from_residual.result c.from_residual.ensures.1 in
    rw (p.1, p.2) (record { node = c.in_err-node.ensures; content = tt })

pub returns : goal.returns
returns c =
    let s = c.args.image in
    let e = c.in_ok-node.ensures in
    let p = c.part_of.ensures in
    record {
      node = e;
      content = (
        p.0 ∙ ap (λ (n : ReadNode). slice s.now n.start n.len) e ∙ part_is s.now c.args.place,
        p.1 ∙ ap (λ (n : ReadNode). byte_of s (start_in s.now n.start n.len)) e
            ∙ ap (byte_of s) (part_starts s.now c.args.place),
      );
    }
