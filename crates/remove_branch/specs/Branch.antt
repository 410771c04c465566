-- A branch whose records are freed.
use Rattle.std.specs.Prelude.{◌≡◌, List, [], ◌++◌, ℕ, ◌+◌, ◌*◌, ◌-◌, ◌≤◌, length, take, drop}
use Rattle.std.proofs.Math.Path.{sym}
use Rattle.std.proofs.Common.{ap, ◌∙◌, arith}
use Rattle.std.proofs.lemmas.List.{length-map}
use Rattle.model.specs.Limits.{most_pages, page_size}
use Rattle.model.specs.Row.{Row, nil, agg, lit, rec, ◌⊹◌, size, node_count, Held, count, Config}
use Rattle.model.specs.Tree.{Tree}
use Rattle.model.specs.Reading.{Reads, page_of, kind_at}
use Rattle.model.specs.Spot.{fill, Stand}
use Rattle.theory_rows.specs.Fits.{Valid}
use Rattle.theory_rows.specs.Laws.{nodes_nil, nodes_size}
use Rattle.theory_decoding.specs.Reading.{reads_length, reads_valid}
use Rattle.theory_decoding.specs.Steps.{record_count, few_records}
use Rattle.theory_row_bytes.specs.RowAt.{kind_of, row_part}
use Rattle.theory_layout.specs.Here.{Here, view}
use Rattle.theory_growth.specs.Parts.{Part, part_fill, part_whole}
use Rattle.theory_removal.specs.Stand.{Leaves, stand_once}
use Rattle.grow_pages.specs.Links.{below_count}
use Rattle.remove_branch.specs.Own.{names, own, pages_own, has_own, weight_own, length_weight, own_stand}
use Rattle.remove_branch.specs.Listed.{Listing, Listed}
use Rattle.remove_branch.specs.Cleared.{Cleared, cleared_none, cleared_same}
use Rattle.remove_branch.specs.Freeing.{Freeing, Emptied}

-- A store, and a node of it that goes.
pub record Branched (img : List ℕ) : Type 0 where
  pub st : Config
  pub root : Row
  pub reads : Reads img st root
  pub new : Tree
  pub t : Stand
  pub leaves : Leaves root new t

-- The node that goes stands from start to end, in the record of a page.
pub record Branch (img m : List ℕ) (start end : ℕ) : Type 0 where
  pub b : Branched img
  pub page : ℕ
  pub here : Here img page start b.t.node
  pub ends : end ≡ start + size b.t.node
  pub map_long : length img ≤ page_size * (8 * length m)

-- The pages of the node's records are blank and free in the map; all else is as it was.
abbrev pub Freed : {img m : List ℕ} {start end : ℕ} → Branch img m start end → (after map : List ℕ) → Type 0
Freed {img} {m} w after map = Cleared (λ q. count q w.b.t.node) img m after map

-- A literal names no page.
bare : (q : ℕ) (r : Row) → node_count r ≡ 1 → kind_of r ≡ 2 → count q r ≡ 0
bare q nil e k = absurd (omega arith)
bare q (agg h cs rest) e k = absurd (omega arith)
bare q (lit h c rest) e k = ap (count q) (nodes_nil rest (omega arith))
bare q (rec p s r rest) e k = absurd (omega arith)

-- ── no more records than pages ──

count_part : Part record_count
count_part = record {
  children = λ h cs rest. omega arith;
  after_agg = λ h cs rest. omega arith;
  after_lit = λ h c rest. omega arith;
  under = λ p b r rest. omega arith;
  after_rec = λ p b r rest. omega arith;
}

count_front : (a b : Row) → record_count a ≤ record_count (a ⊹ b)
count_front nil b = omega arith
count_front (agg h cs rest) b = omega (arith, count_front rest b)
count_front (lit h c rest) b = count_front rest b
count_front (rec p s r rest) b = omega (arith, count_front rest b)

module _ {img m : List ℕ} {start end : ℕ} (w : Branch img m start end) where
  abbrev node : Row
  node = w.b.t.node

  abbrev page : ℕ
  page = w.page

  v : Valid w.b.st w.b.root
  v = reads_valid img w.b.st w.b.root w.b.reads

  -- A literal has no records below it.
  pub literal_freed : kind_at img start ≡ 2 → Freed w img m
  literal_freed e =
      let one = w.b.leaves.one in
      let is : kind_of node ≡ 2 = sym (view w.here (omega (arith, nodes_size node (omega (arith, one))))).kind_is ∙ e in
      cleared_same (λ q. sym (bare q node one is)) (cleared_none img m)

  few : record_count node ≤ w.b.st.pages
  few =
      let t = w.b.t in
      omega (
        arith,
        count_front node t.rest,
        part_fill record_count count_part t.position (node ⊹ t.rest),
        part_whole record_count count_part t.chain (fill t.position (node ⊹ t.rest)),
        ap record_count w.b.leaves.held,
        few_records w.b.st w.b.root v,
      )

  names_long : length (names node) ≡ length (own page node)
  names_long = ap length (sym (pages_own page node)) ∙ length-map (own page node) (λ (h : Held). h.page)

  -- The list begins with the pages that the node names itself.
  module _ (most : ℕ) (wide : length img ≤ page_size * most) (small : most ≤ most_pages) (list : List ℕ) (none : list ≡ []) where
    list_long : record_count node ≤ most
    list_long = omega (arith, few, reads_length img w.b.st w.b.root w.b.reads)

    pub listing : Listing (take (end - start) (drop start img)) list most
    listing = record {
      linked =
          record {
            row = node;
            is = row_part w.here.at w.ends;
            below = below_count most_pages node (λ q k. (w.here.names q k).high);
            small = omega (arith, w.here.room);
          };
      room = omega (arith, ap length none, names_long, length_weight (own page node), weight_own page node, list_long);
      small = small;
    }

    module _ (now : List ℕ) (l : Listed listing now) where
      pub freeing : Freeing img m now most
      unfolding listing
      freeing = record {
        records = own page node;
        stand = own_stand (page_of img) page node w.here.fits w.here.stored;
        inside = λ q h. w.here.names q (omega (arith, has_own q page node));
        once = λ q. omega (arith, has_own q page node, stand_once w.b.root w.b.new w.b.t w.b.leaves q w.b.st v);
        few = omega (arith, weight_own page node, list_long);
        is = l ∙ ap (λ (a : List ℕ). a ++ names node) none ∙ sym (pages_own page node);
        small = small;
        map_long = w.map_long;
      }

      pub branch_freed : (after map : List ℕ) → Emptied freeing after map → Freed w after map
      unfolding freeing
      branch_freed after map c = cleared_same (λ q. has_own q page node) c
