use Rattle.grow_locate.specs.Seek.{plain_first, proxy_first, proxy_helper}
use Rattle.grow_locate.proofs.leads_on.Goals as goal

pub returns-then-image-pos-ne3 : goal.returns-then-image-pos-ne3
returns-then-image-pos-ne3 c = λ w. (plain_first w c.if-image-pos-ne3.true).1

pub row_start-start-requires : goal.row_start-start-requires
row_start-start-requires c = (proxy_first c.requires c.if-image-pos-ne3.false c.name_at.ensures.0).on

pub returns : goal.returns
returns c = λ w. proxy_helper w c.if-image-pos-ne3.false c.name_at.ensures.0 c.row_start-start.ensures
