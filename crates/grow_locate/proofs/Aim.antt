-- What the code finds: the record that takes the new node, the byte of it where the node goes, and its parent there.
use Rattle.std.specs.Prelude.{◌≡◌, List, ℕ, ◌+◌, ◌/◌, ◌%◌, ◌≤◌, length, Some}
use Rattle.std.proofs.Math.Path.{sym, ap}
use Rattle.std.proofs.Common.{◌∙◌, arith}
use Rattle.model.specs.Limits.{most_pages, page_size}
use Rattle.model.specs.Row.{Head, nil}
use Rattle.model.specs.Reading.{size_at, head_at}
use Rattle.theory_layout.specs.Here.{view}
use Rattle.read_find.specs.Rowed.{Rowed}
use Rattle.model.specs.Spot.{here, top, last_page, Spot, spot_in, whole}
use Rattle.theory_growth.specs.Chain.{fill_into, offset_in}
use Rattle.theory_growth.specs.Path.{spot_along, AtPath, at_path}
use Rattle.theory_insert_point.specs.Bytes.{spot_here}
use Rattle.grow_locate.specs.declared.Receiver.{Receiver}
use Rattle.grow_locate.specs.declared.Span.{Span}
use Rattle.grow_locate.specs.Seek.{children_span}
use Rattle.grow_locate.specs.Choose.{sight_at, sight_child}
use Rattle.grow_locate.specs.Parent.{Sights}
use Rattle.grow_locate.specs.Children.{parent_here, kids, kids_go}
use Rattle.grow_locate.proofs.Siblings.{child_sights}
use Rattle.grow_locate.specs.Aim.{Aimed, receiver_of}

-- ── what the code finds ──

module _ {img : List ℕ} {above k : ℕ} (w : Aimed img above k) where
  -- The parent, in the records.
  found : AtPath top (here nil) 0 w.path w.root
  found = at_path (spot_in k) (spot_along k) w.t top (here nil) 0 w.path w.root w.taken

  abbrev span : Span
  span = children_span img above

  aims : Sights found.head (sight_child img span found.children k) w.t
  unfolding spot_in
  aims =
      let p = found in
      let held = ap (whole p.chain) (fill_into p.position p.head p.rest p.children) ∙ p.held in
      let spot = sym (p.along Spot (spot_in k) (spot_along k)) ∙ w.taken in
      child_sights w.reads p.head p.chain p.position p.rest k p.children w.t span held (kids_go w.reads p w.names w.at) spot

  pub received : (s : Receiver) → ((r : Rowed img (above + 6) (above + size_at img above) most_pages) → Some s ≡ sight_child img span r.row k)
      → s ≡ receiver_of w.t
  received s f =
      let t = w.t in
      let h = spot_here img w.st w.root w.reads w.path k t w.taken in
      let g = aims.goes in
      let a : aims.pos / page_size ≡ last_page t.chain = omega (arith, g.at, h.room) in
      let b : aims.pos % page_size ≡ offset_in t.position t.rest = omega (arith, g.at, h.room) in
      let e : Some s ≡ Some (sight_at aims.pos aims.par aims.deep) = f (kids w.reads found w.names w.at) ∙ aims.is in
      let z : s ≡ sight_at aims.pos aims.par aims.deep = cc in
      z
      ∙ (λ i. record { page = a i; at = b i; par = g.holder i; deep = g.hangs i })

  -- The parent's header has the label of the spot's parent.
  pub parent_label : (above + 6 ≤ length img) × ((head_at img above).label ≡ w.t.parent.label)
  parent_label =
      let h = parent_here w.reads found w.names w.at in
      (omega (arith, h.room, h.on.inside), ap (λ (h : Head). h.label) ((view h (omega arith)).head_is ∙ sym aims.parent))
