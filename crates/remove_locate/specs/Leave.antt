-- What the code finds: the record that a node leaves, the bytes of it that go, and the node's parent there.
use Rattle.std.specs.Option.{option_map}
use Rattle.std.specs.Prelude.{Option, Some, None, is_some, refl, ◌≡◌, List, [], ◌∷◌, ◌++◌, ℕ, ◌+◌, ◌*◌, ◌-◌, ◌/◌, ◌%◌, ltb}
use Rattle.std.proofs.Common.{sym, ap, ◌∙◌, arith}
use Rattle.std.proofs.Math.Path.{subst}
use Rattle.std.proofs.Math.Option.{some}
use Rattle.model.specs.Limits.{most_pages, page_size}
use Rattle.model.specs.Row.{Row, nil, ◌⊹◌, size, base, Config}
use Rattle.model.specs.Tree.{shown, width, remove_at, place_of}
use Rattle.model.specs.declared.Place.{Place}
use Rattle.model.specs.Reading.{Reads, size_at}
use Rattle.model.specs.Spot.{here, fill, into, top, last_page, Stand, stand_in, stand_of}
use Rattle.theory_layout.specs.Here.{Here}
use Rattle.theory_growth.specs.Chain.{before, offset_in, hang}
use Rattle.theory_growth.specs.Path.{stand_below, stand_along, AtPath, at_path}
use Rattle.theory_removal.specs.Stand.{Leaves, stand_leaves}
use Rattle.theory_insert_point.specs.Bytes.{chain_fill}
use Rattle.read_find.specs.Rowed.{Rowed}
use Rattle.grow_locate.specs.declared.Located.{Located}
use Rattle.grow_locate.specs.declared.Span.{Span}
use Rattle.grow_locate.specs.Seek.{seek_span, children_span, seek_found}
use Rattle.grow_locate.specs.Parent.{holder_in, IsStand, stand_hits}
use Rattle.grow_locate.specs.Children.{kids, kids_go}
use Rattle.remove_locate.specs.declared.Standing.{Standing}

-- A removal takes out child k of the aggregate that stands at the byte `parent` of the image.
pub record Leaving (img : List ℕ) (parent k : ℕ) : Type 0 where
  pub st : Config
  pub root : Row
  pub reads : Reads img st root
  pub path : List ℕ
  pub t : Stand
  pub stands : stand_of root (path ++ k ∷ []) ≡ some t
  pub y : Place
  pub names : place_of root path ≡ some y
  pub at : parent ≡ page_size * y.page + y.offset

-- By the byte of the image, and in the records.
abbrev pub standing_at : Located → Standing
standing_at l = record { page = l.at / page_size; at = l.at % page_size; gone = l.past - l.at; par = l.par; deep = l.deep }

abbrev pub standing_of : Stand → Standing
standing_of t =
    let row = t.node ⊹ t.rest in
    record {
      page = last_page t.chain;
      at = offset_in t.position row;
      gone = size t.node;
      par = holder_in t.position row;
      deep = hang t.chain t.position;
    }

some_map : {A B : Type 0} (f : A → B) (o : Option A) → is_some (option_map f o) ≡ is_some o
some_map f None = refl
some_map f (Some x) = refl

-- It is found exactly if the parent has such a child.
pub standing_found : (s : Option Standing) (span : Span) (k : ℕ) (row : Row) → s ≡ option_map standing_at (seek_span span row k)
    → is_some s ≡ ltb k (width row)
standing_found s span k row e =
    ap (λ (s : Option Standing). is_some s) e ∙ some_map standing_at (seek_span span row k) ∙ seek_found span.pos span.par span.deep row k

-- ── what the code finds ──

module _ {img : List ℕ} {above k : ℕ} (w : Leaving img above k) where
  abbrev t : Stand
  t = w.t

  abbrev row : Row
  row = t.node ⊹ t.rest

  -- The root record around it, and the tree without it.
  pub leaves : Leaves w.root (remove_at 0 (w.path ++ k ∷ []) (shown w.root)) t
  leaves = go w.path w.stands
    where
      go : (path : List ℕ) → stand_of w.root (path ++ k ∷ []) ≡ some t → Leaves w.root (remove_at 0 (path ++ k ∷ []) (shown w.root)) t
      go [] e = stand_leaves w.root k [] t e
      go (j ∷ path) e = stand_leaves w.root j (path ++ k ∷ []) t e

  -- The node stands there, or its proxy, and what follows it.
  pub stand_here : Here img (last_page t.chain) (page_size * last_page t.chain + base (fill t.position row) + before t.position) row
  stand_here = chain_fill img w.st w.root w.reads t.chain t.position row leaves.held

  -- Its parent, in the records.
  found : AtPath top (here nil) 0 w.path w.root
  found = at_path (stand_below k) (stand_along k) t top (here nil) 0 w.path w.root w.stands

  -- What the search finds among the parent's children.
  abbrev sought : Option Located
  sought = seek_span (children_span img above) found.children k

  hits : IsStand sought (some t)
  unfolding stand_in
  hits =
      let p = found in
      subst (IsStand sought) (sym (p.along Stand (stand_below k) (stand_along k)) ∙ w.stands)
      (stand_hits p.chain (into p.position p.head p.rest) k p.children (kids_go w.reads p w.names w.at))

  stood : (o : Option Located) → IsStand o (some t) → option_map standing_at o ≡ Some (standing_of t)
  stood None g = absurd g
  stood (Some l) m =
      let h = stand_here in
      let g = m.goes in
      let a : l.at / page_size ≡ last_page t.chain = omega (arith, g.at, h.room) in
      let b : l.at % page_size ≡ offset_in t.position row = omega (arith, g.at, h.room) in
      let e : l.past - l.at ≡ size t.node = omega (arith, m.ends) in
      λ i. Some (record { page = a i; at = b i; gone = e i; par = g.holder i; deep = g.hangs i })

  pub standing_is : (s : Option Standing)
      → ((r : Rowed img (above + 6) (above + size_at img above) most_pages) → s ≡ option_map standing_at (seek_span (children_span img above) r.row k))
      → s ≡ Some (standing_of t)
  standing_is s f = f (kids w.reads found w.names w.at) ∙ stood sought hits
