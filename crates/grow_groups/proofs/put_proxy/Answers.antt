-- `grow_groups::put_proxy`: four two-byte numbers in a row.
use Rattle.grow_groups.specs.Group.{proxy_written}
use Rattle.grow_groups.proofs.put_proxy.Goals as goal

pub returns : goal.returns
returns c =
    proxy_written _ _ _ _ _ _ _ c.requires.0 c.put16.ensures c.put16-2.ensures c.put16-3.ensures c.put16-4.ensures
