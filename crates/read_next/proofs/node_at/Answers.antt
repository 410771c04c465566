-- node_at
use Rattle.std.proofs.Common.{arith}
use Rattle.read_next.specs.Scan.{no_page, past_pages, no_record, past_end, its_page_in, no_node, located}
use Rattle.read_next.proofs.node_at.Goals as goal

pub returns-then-x-eq0 : goal.returns-then-x-eq0
returns-then-x-eq0 c = no_page _ _ _ c.if-x-eq0.true

pub returns-then-image-x : goal.returns-then-image-x
returns-then-image-x c = past_pages c.args.image.now _ _ c.if-image-x.true

pub returns-then-image-a-ne1 : goal.returns-then-image-a-ne1
returns-then-image-a-ne1 c = no_record c.args.image.now c.args.x.page _ c.if-image-a-ne1.true

pub returns-then-used_at-x : goal.returns-then-used_at-x
returns-then-used_at-x c =
    past_end c.args.image.now c.args.x.page _ (omega (arith, c.used_at.ensures.0, c.if-used_at-x.true))

pub stands-requires : goal.stands-requires
stands-requires c =
    let w = its_page_in c.args.image.now c.args.x.page c.args.x.offset c.requires (omega arith) c.if-image-x.false in
    (w c.if-image-a-ne1.false, omega (arith, c.used_at.ensures.0, c.if-used_at-x.false))

pub returns-then-stands : goal.returns-then-stands
returns-then-stands c = located c.args.image.now c.args.x.page c.args.x.offset c.requires (omega arith) c.if-image-x.false c.if-image-a-ne1.false c.if-stands.ensures

pub returns-else-stands : goal.returns-else-stands
returns-else-stands c = no_node c.args.image.now c.args.x.page c.args.x.offset c.requires (omega arith) c.if-image-x.false c.if-image-a-ne1.false c.if-stands.ensures
