-- Where a new node goes, as the code says it: the record that takes it, and the byte of it where it goes. That the code finds this is proofs/Aim.antt.
use Rattle.std.specs.Prelude.{◌≡◌, List, ℕ, ◌+◌, ◌*◌}
use Rattle.std.proofs.Math.Option.{some}
use Rattle.model.specs.Limits.{page_size}
use Rattle.model.specs.Row.{Row, Config}
use Rattle.model.specs.Tree.{place_of}
use Rattle.model.specs.declared.Place.{Place}
use Rattle.model.specs.Reading.{Reads}
use Rattle.model.specs.Spot.{last_page, Spot, spot_of}
use Rattle.theory_growth.specs.Chain.{offset_in, hang}
use Rattle.grow_locate.specs.declared.Receiver.{Receiver}
use Rattle.grow_locate.specs.Parent.{holder_in}

-- A new node is to be child k of the aggregate that stands at the byte `parent` of the image.
pub record Aimed (img : List ℕ) (parent k : ℕ) : Type 0 where
  pub st : Config
  pub root : Row
  pub reads : Reads img st root
  pub path : List ℕ
  pub t : Spot
  pub taken : spot_of root path k ≡ some t
  pub y : Place
  pub names : place_of root path ≡ some y
  pub at : parent ≡ page_size * y.page + y.offset

abbrev pub receiver_of : Spot → Receiver
receiver_of t = record {
  page = last_page t.chain;
  at = offset_in t.position t.rest;
  par = holder_in t.position t.rest;
  deep = hang t.chain t.position;
}
