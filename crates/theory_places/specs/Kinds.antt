-- What holds of the kind and head of each node in a row holds of every node that the row shows; so each is an aggregate or a literal whose head fits.
use Rattle.std.specs.Prelude.{map, ℕ, ◌≤◌}
use Rattle.std.proofs.Common.{arith}
use Rattle.model.specs.Row.{Head, Row, nil, agg, lit, rec}
use Rattle.model.specs.Tree.{Node, shown, nodes, below, further, breadth}
use Rattle.theory_rows.specs.Fits.{HeadFits, Fits}
use Rattle.theory_places.specs.Member.{Each, each-++, each_map}
use Rattle.theory_places.specs.Order.{nodes-⊞}

module _ (P : (kind : ℕ) → Head → Type 0) where
  -- Of each aggregate and literal of a row and of the records below it.
  abbrev pub Heads : Row → Type 0
  Heads nil = Unit {0}
  Heads (agg h cs rest) = P 1 h × Heads cs × Heads rest
  Heads (lit h c rest) = P 2 h × Heads rest
  Heads (rec p s r rest) = Heads r × Heads rest

  abbrev pub OfNode : Node → Type 0
  OfNode n = P n.kind n.head

  pub heads_nodes : (r : Row) → Heads r → Each OfNode (nodes (shown r))
  heads_nodes nil f = tt
  heads_nodes (agg h cs rest) f =
      let a = nodes (shown cs) in
      let b = nodes (shown rest) in (
        f.0,
        each-++ OfNode (map below a) (map (further 1) b) (each_map OfNode OfNode below a (λ n e. e) (heads_nodes cs f.1))
            (each_map OfNode OfNode (further 1) b (λ n e. e) (heads_nodes rest f.2)),
      )
  heads_nodes (lit h c rest) f = (f.0, each_map OfNode OfNode (further 1) (nodes (shown rest)) (λ n e. e) (heads_nodes rest f.1))
  heads_nodes (rec p s r rest) f =
      let k = breadth (shown r) in
      let b = nodes (shown rest) in
      rw (nodes-⊞ (shown r) (shown rest))
      (each-++ OfNode (nodes (shown r)) (map (further k) b) (heads_nodes r f.0)
      (each_map OfNode OfNode (further k) b (λ n e. e) (heads_nodes rest f.1)))

pub record KindFits (kind : ℕ) (head : Head) : Type 0 where
  pub some : 1 ≤ kind
  pub few : kind ≤ 2
  pub fits : HeadFits head

heads_fit : (r : Row) → Fits r → Heads KindFits r
heads_fit nil f = tt
heads_fit (agg h cs rest) f = (record { some = omega arith; few = omega arith; fits = f.0 }, heads_fit cs f.1, heads_fit rest f.2)
heads_fit (lit h c rest) f = (record { some = omega arith; few = omega arith; fits = f.0 }, heads_fit rest f.3)
heads_fit (rec p s r rest) f = (heads_fit r f.1, heads_fit rest f.2)

pub nodes_fit : (r : Row) → Fits r → Each (OfNode KindFits) (nodes (shown r))
nodes_fit r f = heads_nodes KindFits r (heads_fit r f)
