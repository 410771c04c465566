-- A group that a split sets apart: what the code of its record and of its proxy needs.
use Rattle.std.specs.Prelude.{◌≡◌, refl, Bool, true, cond, not, ◌||◌, List, ◌++◌, ℕ, ◌+◌, ◌*◌, ◌<◌, ◌≤◌, eqb, length, set}
use Rattle.std.proofs.Common.{sym, ap, subst, ◌∙◌, true≢false, length-set}
use Rattle.std.proofs.Math.Bool.{false, or-false}
use Rattle.std.proofs.lemmas.Bool.{false≢true}
use native.Mathlib.Omega.{arith}
use Rattle.theory_row_bytes.specs.RowAt.{RowIs, row_long, row_whole}
use Rattle.model.specs.Limits.{most_pages, page_size, capacity}
use Rattle.model.specs.Row.{Row, nil, agg, lit, rec, size, is_nil, lone, lone_rec, record_size, two, header, record_bytes, Config, no_head}
use Rattle.model.specs.Reading.{two_at}
use Rattle.model.specs.Growth.{free_from, taken, grouped}
use Rattle.theory_rows.specs.Laws.{cond_case, is_nil_nil, size_some, size_nil}
use Rattle.theory_rows.specs.Fits.{Fits}
use Rattle.theory_rows.specs.Pages.{or_left, free_found}
use Rattle.theory_page_memory.specs.Memory.{WorkMem, OutMem, put_mem, group_m}
use Rattle.base_numbers.specs.Over.{over, over_then}
use Rattle.base_layout.specs.declared.Growing.{Growing}
use Rattle.base_layout.specs.Setup.{setup_of}
use Rattle.base_layout.specs.Growing.{pages_of_lem}
use Rattle.theory_check.specs.Tests.{marked}
use Rattle.theory_check.specs.Marks.{length_mark}
use Rattle.grow_map.specs.Map.{used_marked}
use Rattle.grow_map.specs.Search.{free_same}
use Rattle.grow_pages.specs.Write.{set_page, end_bytes, page_bytes_of, record_written}
use Rattle.grow_pages.specs.Links.{Below, Linked}
use Rattle.grow_pages.specs.Relinked.{written, after_written}
use Rattle.grow_widths.specs.Tally.{number_of}
use Rattle.grow_widths.specs.Tallying.{Counting, counting}
use Rattle.grow_split_point.specs.Kids.{Node, node, size_of}
use Rattle.grow_groups.specs.Used.{Tables, tables, used_by, Env, Searched, found_is, found_inside, past_marked}
use Rattle.grow_groups.specs.Tells.{Keeps, keeps_row, own_keeps}
use Rattle.grow_groups.specs.Step.{InStep, Step}

-- ── a proxy, and a helper ──

abbrev pub proxy_bytes : ℕ → List ℕ
proxy_bytes q = header 3 no_head 8 ++ two q

-- A helper with the nodes l.
abbrev pub helper_bytes : List ℕ → List ℕ
helper_bytes l = header 4 no_head (length l + 6) ++ l

-- The header of a node, and what stands behind it.
node_written : (at k n : ℕ) (t o a b c d : List ℕ) → at + (6 + length t) ≤ length o → a ≡ over at (two k) o → b ≡ over (at + 2) (two 0) a
    → c ≡ over (at + 4) (two n) b → d ≡ over (at + 6) t c
    → d ≡ over at (two k ++ two 0 ++ two n ++ t) o
node_written at k n t o a b c d h pa pb pc pd =
    let w1 : b ≡ over at (two k ++ two 0) o = over_then at (at + 2) (two k) (two 0) o a b pa pb refl (omega arith) in
    let w2 : c ≡ over at (two k ++ two 0 ++ two n) o = over_then at (at + 4) (two k ++ two 0) (two n) o b c w1 pc refl (omega arith) in
    over_then at (at + 6) (two k ++ two 0 ++ two n) t o c d w2 pd refl (omega arith)

pub proxy_written : (at q : ℕ) (o a b c d : List ℕ) → at + 8 ≤ length o → a ≡ over at (two 3) o → b ≡ over (at + 2) (two 0) a → c ≡ over (at + 4) (two 8) b
    → d ≡ over (at + 6) (two q) c
    → d ≡ over at (proxy_bytes q) o
proxy_written at q o a b c d h pa pb pc pd = node_written at 3 8 (two q) o a b c d (omega arith) pa pb pc pd

pub helper_written : (q : ℕ) (l o a b c d e : List ℕ) → page_size * q + page_size ≤ length o → length l + 6 ≤ capacity
    → a ≡ over (page_size * q) (two 4) o → b ≡ over (page_size * q + 2) (two 0) a → c ≡ over (page_size * q + 4) (two (length l + 6)) b
    → d ≡ over (page_size * q + 6) l c → e ≡ over (page_size * q + (length l + 6)) (end_bytes (length l + 6) 0 0) d
    → e ≡ set_page q (page_bytes_of (helper_bytes l) 0 0) o
helper_written q l o a b c d e h k pa pb pc pd pe =
    let n : length l + 6 ≡ length (helper_bytes l) = omega arith in
    record_written q 0 0 (helper_bytes l) o d e h (omega arith) (node_written (page_size * q) 4 (length l + 6) l o a b c d (omega arith) pa pb pc pd)
    (pe ∙ ap (λ (i : ℕ). over (page_size * q + i) (end_bytes i 0 0) d) n)

-- ── the record of a group ──

-- The bytes are those of a row that becomes a record: neither no node nor one proxy, and the record fits its page.
pub record NewRecord (l : List ℕ) (n : ℕ) : Type 0 where
  pub row : Row
  pub is : RowIs l row
  pub below : Below n row
  pub moves : (is_nil row || lone_rec row) ≡ false
  pub small : record_size row ≤ capacity

size_lone : (r : Row) → (is_nil r || lone_rec r) ≡ false → size_of r ≡ size r → lone r ≡ true
size_lone nil e k = absurd (true≢false e)
size_lone (agg h cs rest) e k = size_nil rest (omega arith)
size_lone (lit h c rest) e k = size_nil rest (omega arith)
size_lone (rec p s r rest) e k = absurd (true≢false (sym (size_nil rest (omega arith)) ∙ e))

lone_size : (r : Row) → lone r ≡ true → size_of r ≡ size r
lone_size nil e = absurd (false≢true e)
lone_size (agg h cs rest) e = omega (arith, ap size (is_nil_nil rest e))
lone_size (lit h c rest) e = omega (arith, ap size (is_nil_nil rest e))
lone_size (rec p s r rest) e = absurd (false≢true e)

module _ (l : List ℕ) (n : ℕ) (w : NewRecord l n) where
  pub part_length : length l ≡ size w.row
  part_length = row_long w.row w.is

  part_node : Node l 0 w.row
  part_node =
      node l 0 w.row (size_some w.row (or_left (is_nil w.row) (lone_rec w.row) w.moves)) (omega (arith, w.small, part_length))
      (row_whole w.is)

  part_size : two_at l 4 ≡ size_of w.row
  part_size = part_node.size_is

  pub part_fits : (6 ≤ length l) × (length l ≤ capacity)
  part_fits = omega (arith, part_length, part_node.more, part_node.total, w.small)

  pub one_node : (k : ℕ) → k ≡ two_at l 4 → k ≡ length l → l ≡ record_bytes w.row
  one_node k e h = rw (size_lone w.row w.moves (sym part_size ∙ sym e ∙ h ∙ part_length)) w.is

  not_lone : (k : ℕ) → k ≡ two_at l 4 → (k ≡ length l → ⊥) → lone w.row ≡ false
  not_lone k e h = go (lone w.row) refl
    where
      go : (b : Bool) → lone w.row ≡ b → b ≡ false
      go true q = absurd (h (e ∙ part_size ∙ lone_size w.row q ∙ sym part_length))
      go false q = refl

  pub part_room : (k : ℕ) → k ≡ two_at l 4 → (k ≡ length l → ⊥) → 6 + length l ≤ capacity
  part_room k e h =
      let z : 6 + size w.row ≤ capacity = rw (not_lone k e h) at w.small in
      omega (arith, part_length)

  pub more_nodes : (k : ℕ) → k ≡ two_at l 4 → (k ≡ length l → ⊥) → helper_bytes l ≡ record_bytes w.row
  more_nodes k e h =
      let s : 6 + size w.row ≡ length l + 6 = omega (arith, part_length) in
      rw (not_lone k e h, s) (ap (λ (y : List ℕ). header 4 no_head (length l + 6) ++ y) w.is)

  abbrev pub part_linked : Linked l n
  part_linked = record { row = w.row; is = w.is; below = w.below; small = omega (arith, part_length, part_fits) }

  -- Its nodes can be counted by a table of n entries.
  abbrev pub part_counting : (u : List ℕ) → n ≤ most_pages → n ≤ length u → Counting l u
  part_counting u few h = counting few h part_linked

-- Other content, the same.
pub page_with : (q : ℕ) (x y img out : List ℕ) → out ≡ set_page q (page_bytes_of x 0 0) img → x ≡ y → out ≡ set_page q (page_bytes_of y 0 0) img
page_with q x y img out e k = e ∙ ap (λ (z : List ℕ). set_page q (page_bytes_of z 0 0) img) k

-- ── a record of its own ──

-- A row becomes a record on the first free page, which the map m has, and its proxy stands at `at`. The widths v and the image b are as before in a dry run.
pub own_step : {g : Growing} {u : Tables} {img : List ℕ} → Env g u img → (st : Config) → setup_of st ≡ g.setup → (settled : Bool) (holder : ℕ) (row : Row)
    → Below g.setup.pages row → record_size row ≤ capacity → (s : WorkMem) → InStep g u img s
    → (k at : ℕ) (v m b out o : List ℕ) → Searched g u.map k → m ≡ marked u.map k
    → v ≡ cond g.dry u.widths (set u.widths k (number_of u.widths row))
    → b ≡ cond g.dry img (written k settled holder row img) → o ≡ over at (proxy_bytes k) out
    → let q = free_from st st.pages s.0.used g.near in
    Step g row s (rec q settled row nil, (taken st q s.0, put_mem q settled holder row s.1)) at (at + 8) (eqb k 0) u img out (tables v m) b o
own_step {g} {u} {img} env st setup settled holder row below small s same k at v m b out o found em ev pb po =
    let pages = pages_of_lem setup in
    let at-k = found_is env k found st pages in
    let z : k ≡ free_from st st.pages s.0.used g.near =
    at-k ∙ free_same st (8 * length u.map) (omega (arith, pages, env.holds.map)) (omega (arith, env.holds.map, env.low, env.start))
    (used_by u) s.0.used same.used.same st.pages g.near (omega (arith, env.start, env.holds.map)) in
    let inside = found_inside env k found in
    let low : k < 8 * length u.map = omega (arith, env.holds.map) in
    let put = after_written g.setup.pages k holder settled row img below small env.image inside g.dry in
    rw (← z, pb, em) (record {
      used = record {
        same = λ x i. used_marked u.map k low x ∙ ap (λ (y : Bool). cond (eqb x k) true y) (same.used.same x (omega (arith, length_mark u.map k)));
      };
      full = refl;
      past = past_marked g.setup.pages k u.map low env.past;
      as_long = record {
        widths = ap length ev ∙ cond_case (λ (l : List ℕ). length l ≡ length u.widths) g.dry (λ _. refl) (λ _. length-set u.widths k _);
        map = length_mark u.map k;
      };
      after = record { long = put.long; same = put.same; pages = λ d. put.pages d ∙ ap (put_mem k settled holder row) (same.pages d) };
      below = (inside, tt);
      written = po;
      next = omega arith;
      tells = λ d t f.
          let is : set u.widths k (number_of u.widths row) ≡ v = sym (rw d at ev) in
          subst (λ (l : List ℕ). Keeps u (tables l (marked u.map k)) (rec k settled row nil)) is
          (own_keeps settled u k row (omega (arith, env.holds.widths)) low
          (ap (used_by u) at-k ∙ free_found st st.pages (used_by u) g.near (ap (λ (i : ℕ). eqb i 0) (sym at-k) ∙ f)) t);
      rests = λ d. rw d at ev;
    })

-- ── a row that stays ──

pub stay_step : {g : Growing} {u : Tables} {img : List ℕ} → Env g u img → (row : Row) → Below g.setup.pages row → (s : WorkMem) → InStep g u img s
    → (at end : ℕ) (l out o : List ℕ) → RowIs l row → o ≡ over at l out → end ≡ at + length l → Step g row s (row, s) at end false u img out u img o
stay_step env row below s same at end l out o is e z = record {
  used = same.used;
  full = or-false s.0.full;
  past = env.past;
  as_long = record { widths = refl; map = refl };
  after = record { long = refl; same = λ _. refl; pages = same.pages };
  below = below;
  written = e ∙ ap (λ (v : List ℕ). over at v out) is;
  next = omega (arith, row_long row is);
  tells = λ _ t _. keeps_row (λ _ h. (refl, h)) row t;
  rests = λ _. refl;
}

-- ── a group ──

-- The image of a run that writes, and of a dry one.
pub wet : (dry : Bool) (b img x : List ℕ) → not dry ≡ true → b ≡ x → b ≡ cond dry img x
wet true b img x e q = absurd (false≢true e)
wet false b img x e q = q

pub still : (dry : Bool) (b img x : List ℕ) → not dry ≡ false → b ≡ img → b ≡ cond dry img x
still true b img x e q = q
still false b img x e q = absurd (true≢false e)

-- The bytes l are a group, whose record fits a page, and for whose row or proxy there is room in the separator; `state` is what the model carries along.
pub record Grouping (g : Growing) (l : List ℕ) (u : Tables) (img : List ℕ) (room : ℕ) : Type 0 where
  pub st : Config
  pub setup : setup_of st ≡ g.setup
  pub row : Row
  pub is : RowIs l row
  pub below : Below g.setup.pages row
  pub state : WorkMem
  pub same : InStep g u img state
  pub fits : Fits (group_m st g.near row state).0
  pub within : size (group_m st g.near row state).0 ≤ room

module _ {g : Growing} {l : List ℕ} {u : Tables} {img : List ℕ} {room : ℕ} (env : Env g u img) (w : Grouping g l u img room) where
  abbrev q : ℕ
  q = free_from w.st w.st.pages w.state.0.used g.near

  -- What the model does.
  abbrev put : OutMem
  put = group_m w.st g.near w.row w.state

  module _ (h : true ≡ (is_nil w.row || lone_rec w.row)) where
    pub kept_room : length l ≤ room
    unfolding grouped
    kept_room =
        let z : size w.row ≤ room = rw (sym h) at w.within in
        omega (arith, row_long w.row w.is)

    pub group_kept : (at : ℕ) (out o : List ℕ) → o ≡ over at l out → Step g w.row w.state put at (at + length l) false u img out u img o
    unfolding grouped
    group_kept at out o e = rw (sym h) (stay_step env w.row w.below w.state w.same at _ l out o w.is e refl)

  module _ (h : false ≡ (is_nil w.row || lone_rec w.row)) where
    pub fits_own : Fits (rec q false w.row nil)
    unfolding grouped
    fits_own = rw (sym h) at w.fits

    abbrev pub group_record : NewRecord l g.setup.pages
    group_record = record { row = w.row; is = w.is; below = w.below; moves = sym h; small = fits_own.0.fits }

    pub proxy_room : 8 ≤ room
    unfolding grouped
    proxy_room = let z : 8 + 0 ≤ room = rw (sym h) at w.within in omega arith

    pub group_moved : (k at : ℕ) (v m b out o : List ℕ) → Searched g u.map k → m ≡ marked u.map k
        → v ≡ cond g.dry u.widths (set u.widths k (number_of u.widths w.row))
        → b ≡ cond g.dry img (written k false 0 w.row img) → o ≡ over at (proxy_bytes k) out
        → Step g w.row w.state put at (at + 8) (eqb k 0) u img out (tables v m) b o
    unfolding grouped
    group_moved k at v m b out o e em ev pb po =
        rw (sym h) (own_step env w.st w.setup false 0 w.row w.below fits_own.0.fits w.state w.same k at v m b out o e em ev pb po)
