-- The new node as it is put in a row, in the bytes: the model's `place`.
use Rattle.std.specs.Prelude.{◌≡◌, refl, Bool, true, false, cond, List, ℕ, ◌≤◌, eqb, length, set}
use Rattle.std.proofs.Common.{ap, ◌∙◌, arith}
use Rattle.model.specs.Limits.{capacity}
use Rattle.model.specs.Row.{Head, Row, nil, agg, lit, rec, bytes, record_size, record_bytes, Config}
use Rattle.model.specs.Reading.{page_of}
use Rattle.model.specs.Tree.{New}
use Rattle.model.specs.Growth.{Work, apart, as_row, place}
use Rattle.base_numbers.specs.Over.{over}
use Rattle.theory_rows.specs.Laws.{length_bytes, cond_case}
use Rattle.theory_rows.specs.Keeps.{as_row_lone}
use Rattle.theory_page_memory.specs.Memory.{place_mem}
use Rattle.theory_check.specs.Tests.{marked}
use Rattle.grow_pages.specs.Write.{set_page, page_bytes_of}
use Rattle.grow_pages.specs.Links.{Below, links}
use Rattle.grow_widths.specs.Tally.{number_of}
use Rattle.theory_growth.specs.Store.{as_placed}
use Rattle.base_layout.specs.declared.Growing.{Growing}
use Rattle.base_layout.specs.Setup.{setup_of}
use Rattle.grow_groups.specs.Used.{Tables, tables, InUse, Env, Searched}
use Rattle.grow_groups.specs.Tells.{Tabled}
use Rattle.grow_groups.specs.Step.{Step}
use Rattle.grow_groups.specs.Group.{own_step, stay_step}
use Rattle.grow_new_node.specs.declared.Fresh.{Fresh}

-- What the node's own record leaves: the page that the search finds marked, the record on it and its entry unless the run is dry, the proxy, and whether no
-- page was free. The table of widths is v, the map m.
pub record Own (g : Growing) (row : Row) (v₀ m₀ img₀ o₀ : List ℕ) (r : Bool) (v m img o : List ℕ) : Type 0 where
  pub page : ℕ
  pub found : Searched g m₀ page
  pub map : m ≡ marked m₀ page
  pub widths : v ≡ cond g.dry v₀ (set v₀ page 1)
  pub image : img ≡ cond g.dry img₀ (set_page page (page_bytes_of (record_bytes row) 1 g.near) img₀)
  pub out : o ≡ over 0 (bytes (rec page true row nil)) o₀
  pub full : r ≡ eqb page 0

module _ (st : Config) (x : New) where
  abbrev node : Row
  node = as_row st x nil

  -- The new node is one node, and holds no record.
  by_kind : (P : Row → Type 0) → P (agg x.head nil nil) → P (lit x.head x.content nil) → P node
  by_kind P a l = cond_case P (eqb x.kind 1) (λ _. a) (λ _. l)

  node_below : (n : ℕ) → Below n node
  node_below n = by_kind (Below n) (tt, tt) tt

  node_links : (q : ℕ) (img : List ℕ) → img ≡ links q node img
  node_links q img = by_kind (λ r. img ≡ links q r img) refl refl

  node_number : (u : List ℕ) → 1 ≡ number_of u node
  node_number u = by_kind (λ r. 1 ≡ number_of u r) refl refl

  pub node_tabled : (u : Tables) → Tabled u node
  node_tabled u =
      by_kind (Tabled u) (record { told = (tt, tt); named = λ q h. absurd (omega arith); few = omega arith })
      (record { told = tt; named = λ q h. absurd (omega arith); few = omega arith })

module _ (st : Config) (x : New) (parent : Head) where
  -- What placing the node leaves, as a step of which the model's is this: the node or its proxy, the work, the memory.
  abbrev pub NodePlaced : (g : Growing) → (w : Work) → (u₀ : Tables) → (img₀ o₀ : List ℕ) → Fresh → (u : Tables) → (img o : List ℕ) → Type 0
  NodePlaced g w u₀ img₀ o₀ r u img o =
      Step g (as_row st x nil) (w, page_of img₀)
      (as_placed st x parent g.near w, ((place st x parent g.near nil w).1, place_mem st x parent g.near w (page_of img₀)))
      0 r.size r.full u₀ img₀ o₀ u img o

  module _ {g : Growing} {w : Work} {u₀ : Tables} {img₀ : List ℕ} (o₀ : List ℕ) (se : setup_of st ≡ g.setup) (env : Env g u₀ img₀) (t : InUse u₀ w) (node : List ℕ)
      (is : node ≡ bytes (as_row st x nil)) where
    pub placed_apart : (r : Bool) (v m img o : List ℕ) → length node ≤ capacity → apart st parent x.head ≡ true
        → Own g (as_row st x nil) u₀.widths u₀.map img₀ o₀ r v m img o
        → NodePlaced g w u₀ img₀ o₀ (record { size = 8; full = r }) (tables v m) img o
    placed_apart r v m img o k e own =
        let row = as_row st x nil in
        let small : record_size row ≤ capacity = rw (as_row_lone st x) (omega (arith, ap length is, length_bytes row)) in
        let q = own.page in
        let new = set_page q (page_bytes_of (record_bytes row) 1 g.near) img₀ in
        rw (e, own.full) (own_step env st se true g.near row (node_below st x _) small (w, page_of img₀)
        (record { used = t; pages = λ _. refl }) q 0 v m img o₀ o own.found own.map
        (own.widths ∙ ap (λ (n : ℕ). cond g.dry u₀.widths (set u₀.widths q n)) (node_number st x u₀.widths))
        (own.image ∙ ap (cond g.dry img₀) (node_links st x q new)) own.out)

    pub placed_within : (o : List ℕ) → apart st parent x.head ≡ false → o ≡ over 0 node o₀
        → NodePlaced g w u₀ img₀ o₀ (record { size = length node; full = false }) u₀ img₀ o
    placed_within o e po =
        rw e (stay_step env (as_row st x nil) (node_below st x _) (w, page_of img₀) (record { used = t; pages = λ _. refl }) 0 _ node o₀ o is po (omega arith))
