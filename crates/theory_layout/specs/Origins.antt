-- A node's origin is the second byte of its header.
use Rattle.std.specs.Prelude.{◌≡◌, List, ℕ}
use Rattle.std.proofs.Common.{sym, ap, ◌∙◌}
use Rattle.std.proofs.Math.Option.{some}
use Rattle.model.specs.Row.{Head, Row, Config}
use Rattle.model.specs.Reading.{Reads}
use Rattle.model.specs.Tree.{Node, shown, named, place_of}
use Rattle.model.specs.OldImages.{second_byte, Origins}
use Rattle.model.specs.declared.Place.{Place}
use Rattle.theory_places.specs.Named.{named_in_lem, named_place}
use Rattle.theory_layout.specs.Order.{addr}
use Rattle.theory_layout.specs.Nodes.{node_read, read_head}

module _ (img : List ℕ) (st : Config) (root : Row) (r : Reads img st root) where
  origin_read : (path : List ℕ) (n : Node) (x : Place) → named (shown root) path ≡ some n → place_of root path ≡ some x → n.head.origin ≡ second_byte img x
  origin_read path n x e p =
      let (m, same) = named_in_lem (shown root) path n e in
      sym (ap (λ (h : Head). h.origin) (read_head img n (addr x) (node_read img st root r n m x (ap (place_of root) same ∙ p))))

pub origins : Origins
origins img st root r = record {
  each = origin_read img st root r;
  all = λ zero path n e. let (x, p) = named_place root path n e in origin_read img st root r path n x e p ∙ zero path x p;
}
