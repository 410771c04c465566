-- The children of a parent in the records, as the row that stands behind its header.
use Rattle.std.specs.Prelude.{◌≡◌, refl, List, ℕ, ◌+◌, ◌*◌, ◌%◌, ◌≤◌}
use Rattle.std.proofs.Common.{sym, ap, subst, arith}
use Rattle.std.proofs.Math.Option.{some}
use Rattle.model.specs.Limits.{most_pages, page_size}
use Rattle.model.specs.Row.{Row, nil, agg, base, Config}
use Rattle.model.specs.Tree.{place_of}
use Rattle.model.specs.declared.Place.{Place}
use Rattle.model.specs.Reading.{Reads, size_at}
use Rattle.model.specs.Spot.{here, fill, into, top, last_page}
use Rattle.theory_rows.specs.Fits.{Valid}
use Rattle.theory_decoding.specs.Steps.{steps, few_steps}
use Rattle.theory_decoding.specs.Reading.{reads_valid}
use Rattle.theory_places.specs.Order.{lone_root}
use Rattle.theory_layout.specs.Here.{nesting, Here, root_nesting}
use Rattle.theory_growth.specs.Chain.{before, offset_in, offset_into, hang_into}
use Rattle.theory_growth.specs.Path.{AtPath}
use Rattle.theory_growth.specs.Parts.{Part, part_fill, part_whole}
use Rattle.theory_insert_point.specs.Bytes.{here_fill, chain_page}
use Rattle.theory_insert_point.specs.Nesting.{nesting_part, steps_part}
use Rattle.read_find.specs.Rowed.{Rowed, children_of}
use Rattle.grow_locate.specs.Parent.{holder_into, Goes}

module _ {img : List ℕ} {st : Config} {root : Row} (reads : Reads img st root) {path : List ℕ} (p : AtPath top (here nil) 0 path root) {y : Place}
    (names : place_of root path ≡ some y) {above : ℕ} (at : above ≡ page_size * y.page + y.offset) where
  abbrev row : Row
  row = agg p.head p.children p.rest

  its_place : (last_page p.chain ≡ y.page) × (offset_in p.position row ≡ y.offset)
  its_place = let z = p.place y 0 names in (z.0, z.1 (rw (lone_root st root (reads_valid img st root reads))))

  -- The parent stands at its byte.
  pub parent_here : Here img (last_page p.chain) above row
  parent_here =
      let n : ℕ = page_size * last_page p.chain + base (fill p.position row) in
      let z : n + before p.position ≡ above = omega (arith, at, its_place) in
      subst (λ (n : ℕ). Here img (last_page p.chain) n row) z
      (here_fill img (last_page p.chain) n p.position row (chain_page img st root reads p.chain (fill p.position row) p.held).here)

  pub part_of_lem : (f : Row → ℕ) → Part f → f row ≤ f root
  part_of_lem f q = omega (arith, ap f p.held, part_fill f q p.position row, part_whole f q p.chain (fill p.position row))

  -- Its children, as the code takes them,
  abbrev pub kids : Rowed img (above + 6) (above + size_at img above) most_pages
  kids =
      let v : Valid st root = reads_valid img st root reads in
      children_of parent_here refl (omega (arith, part_of_lem nesting nesting_part, root_nesting img st root reads))
      (omega (arith, part_of_lem steps steps_part, few_steps st root v, v.ranges.many)) (size_at img above) refl

  -- and in the records.
  pub kids_go : Goes p.chain (into p.position p.head p.rest) p.children (above + 6) (above % page_size) 0
  kids_go = record {
    at = omega (arith, at, its_place, offset_into p.position p.head p.rest p.children);
    holder = omega (arith, at, its_place, parent_here.room, holder_into p.position p.head p.rest p.children);
    hangs = sym (hang_into p.chain p.position p.head p.rest);
  }
