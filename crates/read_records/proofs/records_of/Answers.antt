-- `read_records::records_of`: the count decides whether the buffer is short, and the pages are written if it is not.
use Rattle.std.proofs.Common.{arith}
use Rattle.read_records.specs.Call.{few_pages_lem, few_records, short, written}
use Rattle.read_records.proofs.records_of.Goals as goal

pub overflow_mul-n : goal.overflow_mul-n
overflow_mul-n c =
    omega (
      arith,
      few_records c.args.image.now c.count_pages-n.result c.requires
          c.count_pages-n.ensures,
    )

pub returns-then-buffer-n : goal.returns-then-buffer-n
returns-then-buffer-n c =
    let a = short c.args.image.now _ _ c.requires c.count_pages-n.ensures c.if-buffer-n.true in
    record { answer = a.0; buffer = a.1 }

pub put_pages-requires : goal.put_pages-requires
put_pages-requires c = record { inside = omega (arith, few_pages_lem c.args.image.now c.requires); room = omega (arith, c.count_pages-n.ensures) }

pub returns : goal.returns
returns c =
    let a = written c.args.image.now _ _ c.requires c.count_pages-n.ensures _ c.if-buffer-n.false c.put_pages.ensures in
    record { answer = a.0; buffer = a.1 }
