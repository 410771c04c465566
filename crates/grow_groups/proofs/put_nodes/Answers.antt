-- `grow_groups::put_nodes`: the record, then the links.
use mathlib.Core.Path.{ap, ◌∙◌}
use native.Mathlib.Omega.{arith}
use Rattle.grow_pages.specs.Links.{links}
use Rattle.grow_groups.specs.Group.{part_linked}
use Rattle.grow_groups.proofs.put_nodes.Goals as goal

pub relink-requires : goal.relink-requires
relink-requires c =
    (c.requires.0, (omega (arith, c.put_content.auto.image, c.requires.1.0), (c.requires.1.1.0, part_linked _ _ c.requires.1.1.1)))

pub returns : goal.returns
returns c =
    λ w. c.relink.ensures (part_linked _ _ w) ∙ ap (links _ w.row)
    (c.put_content.ensures w)
