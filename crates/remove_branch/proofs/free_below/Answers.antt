-- `remove_branch::free_below`: the pages that the node names itself are listed, and the list's are freed.
use Rattle.std.proofs.Common.{rules}
use Rattle.remove_branch.specs.Branch.{listing, freeing, branch_freed}
use Rattle.remove_branch.proofs.free_below.Goals as goal

pub list_direct-requires : goal.list_direct-requires
list_direct-requires g c = let (w, wide, small) = c.requires in (search rules, listing w _ wide small _ c.new-list.ensures)

pub free_listed-requires : goal.free_listed-requires
free_listed-requires g c =
    let (w, wide, small) = c.requires in
    let none = c.new-list.ensures in
    (search rules, freeing w _ wide small _ none _ (c.list_direct.ensures (listing w _ wide small _ none)))

pub returns : goal.returns
returns g c =
    let (_, wide, small) = c.requires in
    let none = c.new-list.ensures in
    λ w.
    let l = c.list_direct.ensures (listing w _ wide small _ none) in
    branch_freed w _ wide small _ none _ l _ _ (c.free_listed.ensures (freeing w _ wide small _ none _ l))
