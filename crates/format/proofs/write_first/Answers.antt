-- `format::write_first`: the image is cleared, and its first two pages are written.
use mathlib.Core.Path.{◌≡◌, ◌∙◌}
use Prim.Native.Nat.{◌*◌}
use native.Mathlib.Omega.{arith}
use lib.ListN.{length}
use Rattle.model.specs.Limits.{page_size}
use Rattle.format.specs.First.{zeros}
use Rattle.format.specs.Store.{whole, cleared, numbers_of, room, page_0, room_1, page_1, all_written}
use Rattle.format.proofs.write_first.Goals as goal
use Rattle.format.proofs.write_first.Goals.{After-clear, After-put_settings}

-- After the call of clear the image is zero,
zeroed : (c : After-clear) → c.clear.new.s ≡ zeros (page_size * c.args.settings.pages)
zeroed c = cleared c.args.image.now c.clear.new.s _ c.clear.ensures c.requires.0

-- and what put_settings leaves is a page.
paged : (c : After-put_settings) → length c.put_settings.new.page ≡ page_size
paged c = c.put_settings.auto.page ∙ whole (page_0 _ _ c.requires.1 ((cleared c.args.image.now c.clear.new.s _ c.clear.ensures c.requires.0)))

pub slice_bounds-put_settings-end : goal.slice_bounds-put_settings-end
slice_bounds-put_settings-end c = omega (arith, room _ _ c.requires.1 (zeroed (goal.at.slice_bounds-put_settings-end c).After-clear))

pub put_settings-requires : goal.put_settings-requires
put_settings-requires c =
    let ok = c.requires.1 in
    (page_0 _ _ ok (zeroed (goal.at.put_settings-requires c).After-clear), numbers_of _ ok)

pub slice_bounds-put_root-end : goal.slice_bounds-put_root-end
slice_bounds-put_root-end c =
    room_1 _ _ c.requires.1 (zeroed (goal.at.slice_bounds-put_root-end c).After-clear) c.put_settings.new.page (paged (goal.at.slice_bounds-put_root-end c).After-put_settings)

pub put_root-requires : goal.put_root-requires
put_root-requires c =
    page_1 _ _ c.requires.1 (zeroed (goal.at.put_root-requires c).After-clear) c.put_settings.new.page (paged (goal.at.put_root-requires c).After-put_settings)

pub returns : goal.returns
returns c =
    all_written _ _ c.requires.1 (zeroed (goal.at.returns c).After-clear) _ (paged (goal.at.returns c).After-put_settings) _ _ c.put_settings.ensures c.put_root.ensures
