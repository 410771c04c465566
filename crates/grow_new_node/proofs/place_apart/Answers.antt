-- `grow_new_node::place_apart`: the record on the page that was found, or in a dry run none, and the proxy.
use mathlib.Core.Path.{refl, ◌∙◌}
use Prim.Native.Nat.{◌<◌}
use native.Mathlib.Omega.{arith}
use Rattle.grow_groups.specs.Used.{found_inside}
use Rattle.grow_new_node.proofs.place_apart.Goals as goal
use Rattle.grow_new_node.proofs.place_apart.Goals.{After-first_free-q}

-- the page is one of the image's
inside : (c : After-first_free-q) → c.first_free-q.result < c.args.g.setup.pages
inside c =
    found_inside c.requires.0 _ c.first_free-q.ensures

pub set_mark-requires : goal.set_mark-requires
set_mark-requires c = let v = c.requires.0 in omega (arith, v.holds.map, inside (goal.at.set_mark-requires c).After-first_free-q)

pub put_own-requires : goal.put_own-requires
put_own-requires c =
    let v = c.requires.0 in
    omega (arith, v.few, v.image, v.start, v.holds.widths, c.requires.1.0, inside (goal.at.put_own-requires c).After-first_free-q)

pub put_proxy-requires : goal.put_proxy-requires
put_proxy-requires c =
    omega (arith, c.requires.0.few, c.requires.1.1, inside (goal.at.put_proxy-requires c).After-first_free-q)

pub returns : goal.returns
returns c row l b =
    let v = c.args in
    let e = c.put_own.ensures in
    record {
      page = c.first_free-q.result;
      found = c.first_free-q.ensures;
      map = c.set_mark.ensures;
      widths = e.widths;
      image = e.image ∙ rw (l, b);
      out = c.put_proxy.ensures;
      full = refl;
    }
