-- An insert once its tests are passed: from the tree's place to growth's start.
use Rattle.std.specs.Prelude.{◌≡◌, refl, Bool, true, false, List, ℕ, ◌+◌, ◌*◌, ◌<◌, ◌≤◌, eqb, leb, length, get_or, take, pos}
use Rattle.std.proofs.Common.{sym, ap, subst, ◌∙◌, arith, lt-ltb, le-leb}
use Rattle.std.proofs.Math.Bool.{or-true}
use Rattle.theory_row_bytes.specs.RowAt.{RowIs}
use Rattle.model.specs.Limits.{page_size, most_node}
use Rattle.model.specs.Row.{Head, Row, nil, store, ◌⊹◌, size, base, record_size, record_bytes, record_page, count, outside, image, Config, record_on}
use Rattle.model.specs.Reading.{page_of}
use Rattle.model.specs.Tree.{width, New}
use Rattle.model.specs.Growth.{Work, Out, apart, as_row, place, at_rest, grow, rise}
use Rattle.theory_rows.specs.Fits.{Valid}
use Rattle.theory_rows.specs.Laws.{cond_case, width-⊹}
use Rattle.theory_rows.specs.Keeps.{node_count-⊹}
use Rattle.model.specs.Claims.{InLean}
use Rattle.theory_growth.specs.Store.{NewFits, received_grows, grow_good, grow_valid, grow_rises, as_placed, place_row, placed_some, placed_width}
use Rattle.theory_growth.specs.Told.{Awaits, ToldAlong, told_whole, around_same, along_same, told_parted}
use Rattle.theory_rows.specs.Population.{population}
use Rattle.theory_places.specs.Widths.{Told, told_same}
use Rattle.theory_decoding.specs.Steps.{named_inside, few_nodes}
use Rattle.theory_decoding.specs.Decode.{stored_image}
use Rattle.theory_decoding.specs.Reading.{reads_valid, reads_length}
use Rattle.theory_layout.specs.Here.{nesting, OnPage, root_nesting}
use Rattle.theory_rows.specs.Image.{Stored, length_record}
use Rattle.theory_growth.specs.Full.{full_rise}
use Rattle.base_numbers.specs.Over.{over, take_over}
use Rattle.model.specs.Spot.{Position, fill, Chain, last_page, whole, last_holder}
use Rattle.theory_growth.specs.Chain.{both, fill_more, last_settled, beside, along, count_chain}
use Rattle.theory_growth.specs.Keeps.{Grows}
use Rattle.theory_growth.specs.Gap.{Gap, spot_gap}
use Rattle.theory_insert_point.specs.Bytes.{last_held, chain_page, chain_bytes}
use Rattle.theory_insert_point.specs.Nesting.{chain_nesting}
use Rattle.theory_page_memory.specs.Memory.{Mem, place_mem, rise_mem}
use Rattle.theory_page_memory.specs.Kept.{Ready, ready_place}
use Rattle.theory_page_memory.specs.Images as images
use Rattle.grow_pages.specs.Links.{Below, below_count, below_parted}
use Rattle.base_layout.specs.declared.Setup.{Setup}
use Rattle.base_layout.specs.declared.Growing.{Growing}
use Rattle.base_layout.specs.Setup.{setup_on, setup_of, reads_setup}
use Rattle.base_layout.specs.Growing.{near_to, pages_of_lem}
use Rattle.grow_groups.specs.Used.{Tables, tables, InUse, Past, AsLong, Holds, holds_still, Env}
use Rattle.grow_locate.specs.declared.Receiver.{Receiver}
use Rattle.grow_new_node.specs.declared.Fresh.{Fresh}
use Rattle.grow_cascade.specs.declared.Grown.{Grown}
use Rattle.grow_locate.specs.Aim.{Aimed, receiver_of}
use Rattle.grow_locate.specs.Parent.{at_before}
use Rattle.grow_new_node.specs.Placed.{NodePlaced, node_tabled}
use Rattle.grow_groups.specs.Step.{front_is}
use Rattle.grow_groups.specs.Tells.{Keeps}
use Rattle.grow_cascade.specs.Rising.{Rising, LeftTables, Risen}
use Rattle.grow_cascade.specs.Cascade.{Cascade, goal_of, mem_of}
use Rattle.grow_run.specs.Taken as into

-- The node x, whose bytes are `node`, is to be child k of the aggregate at the byte `above`, and t is where it goes; the map of u₀ has the pages in
-- use. A run that writes finds all its pages, and the table is right with one node more.
pub record Begin (dry : Bool) (img : List ℕ) (u₀ : Tables) (above : ℕ) (t : Receiver) (label : ℕ) (node : List ℕ) : Type 0 where
  pub k : ℕ
  pub aim : Aimed img above k
  pub receiver : t ≡ receiver_of aim.t
  pub x : New
  pub fits : NewFits x
  pub named : x.head.label ≡ label
  pub is : RowIs node (as_row aim.st x nil)
  pub short : length aim.path ≤ 22
  pub holds : Holds aim.st.pages u₀
  pub marked : InUse u₀ (at_rest aim.st aim.root)
  pub room : dry ≡ false → (grow aim.st aim.root aim.path k x).1.full ≡ false
  pub told : dry ≡ false → Awaits u₀.widths aim.t

-- The same on a copy of the map.
abbrev pub with_map : {dry : Bool} {img v m : List ℕ} {above : ℕ} {t : Receiver} {label : ℕ} {node : List ℕ} (copy : List ℕ) → copy ≡ m
    → Begin dry img (tables v m) above t label node → Begin dry img (tables v copy) above t label node
with_map {v = v} copy e w = record {
  k = w.k;
  aim = w.aim;
  receiver = w.receiver;
  x = w.x;
  fits = w.fits;
  named = w.named;
  is = w.is;
  short = w.short;
  holds = subst (λ (m : List ℕ). Holds w.aim.st.pages (tables v m)) (sym e) w.holds;
  marked = subst (λ (m : List ℕ). InUse (tables v m) (at_rest w.aim.st w.aim.root)) (sym e) w.marked;
  room = w.room;
  told = w.told;
}

-- ── the new node ──

module _ (st : Config) (x : New) (fits : NewFits x) where
  pub node_most : size (as_row st x nil) ≤ most_node
  node_most = cond_case (λ (r : Row). size r ≤ most_node) (eqb x.kind 1) (λ _. omega arith) (λ _. omega (arith, fits.long))

  module _ (h : Head) (page : ℕ) (w : Work) where
    pub placed_most : size (as_placed st x h page w) ≤ most_node
    placed_most = cond_case (λ (r : Row). size r ≤ most_node) (apart st h x.head) (λ _. omega arith) (λ _. node_most)

    place_work : (rest : Row) → (place st x h page rest w).1 ≡ (place st x h page nil w).1
    place_work rest = both (λ (o u : Out). o.1 ≡ u.1) (apart st h x.head) (λ _. refl) (λ _. refl)

    place_counts : (rest : Row) → ((place st x h page rest w).1.splits ≡ w.splits) × ((place st x h page rest w).1.lean ≡ w.lean)
    place_counts rest =
        cond_case (λ (o : Out). (o.1.splits ≡ w.splits) × (o.1.lean ≡ w.lean)) (apart st h x.head) (λ _. (refl, refl)) (λ _. (refl, refl))

-- ── the store and the record that takes the node ──

module _ {dry : Bool} {img : List ℕ} {u₀ : Tables} {above : ℕ} {t : Receiver} {label : ℕ} {node : List ℕ} (w : Begin dry img u₀ above t label node) where
  abbrev pub st : Config
  st = w.aim.st

  abbrev pub root : Row
  root = w.aim.root

  abbrev pub c : Chain
  c = w.aim.t.chain

  abbrev pub s : Position
  s = w.aim.t.position

  abbrev pub rest : Row
  rest = w.aim.t.rest

  abbrev pub h : Head
  h = w.aim.t.parent

  -- The pages in use before.
  abbrev pub W : Work
  W = at_rest st root

  -- What growth gives.
  abbrev pub new : Out
  new = grow st root w.aim.path w.k w.x

  -- What a run gives: what growth counted; a dry run leaves the image and the widths, another one leaves the image of what growth made, and its tables.
  pub record Inserted (r : Grown) (after : List ℕ) (u : Tables) : Type 0 where
    pub full : r.full ≡ new.1.full
    pub splits : r.splits ≡ new.1.splits
    pub lean : r.lean ≡ new.1.lean
    pub still : dry ≡ true → after ≡ img
    pub writes : dry ≡ false → after ≡ image st new.0
    pub table : dry ≡ false → LeftTables new u
    pub as_long : AsLong u₀ u
    pub rests : dry ≡ true → u.widths ≡ u₀.widths

  pub valid : Valid st root
  valid = reads_valid img st root w.aim.reads

  pub long : length img ≡ page_size * st.pages
  long = reads_length img st root w.aim.reads

  pub setup_is : {se : Setup} → se ≡ setup_on img → setup_of st ≡ se
  setup_is e = sym (e ∙ reads_setup img st root w.aim.reads)

  -- The spot is in the gap.
  pub gap : Gap root w.aim.path w.k w.aim.t
  gap = spot_gap root w.aim.path w.k w.aim.t w.aim.taken

  pub held : whole c (fill s rest) ≡ root
  held = gap.held

  pub stands : OnPage img (last_page c) (last_holder c) (fill s rest)
  stands = chain_page img st root w.aim.reads c (fill s rest) held

  pub inside : (1 ≤ last_page c) × (last_page c < st.pages)
  inside = omega (arith, stands.here.on.low, stands.here.on.inside, long)

  -- The new node as it stands in the record's row.
  abbrev pub P : Row
  P = as_placed st w.x h (last_page c) W

  abbrev pub O : Out
  O = place st w.x h (last_page c) rest W

  abbrev pub row : Row
  row = fill s O.0

  pub row_is : row ≡ fill s (P ⊹ rest)
  row_is = ap (fill s) (place_row st w.x h (last_page c) W rest)

  pub goal_is : rise st c (row, O.1) ≡ new
  goal_is = sym (grow_rises st w.x root w.aim.path w.k w.aim.t w.aim.taken)

  pub grows : Grows c (fill s rest) (row, O.1)
  grows = received_grows st w.x root w.aim.path w.k w.aim.t gap w.fits valid w.short

  pub new_lean : InLean new.1.lean
  new_lean = (grow_good st w.x root w.aim.path w.k w.aim.t w.aim.taken w.fits valid w.short).2.0

  -- What growth leaves is valid, in a run that writes.
  pub new_valid : dry ≡ false → Valid st new.0
  new_valid e = grow_valid st w.x root w.aim.path w.k w.aim.t w.aim.taken w.fits valid w.short (w.room e)

  -- ── the node is placed ──

  module _ {se : Setup} (setup : setup_of st ≡ se) where
    -- What the run hands on.
    abbrev pub g : Growing
    g = record { setup = se; near = t.page; dry = dry }

    pub at_page : t.page ≡ last_page c
    at_page = ap (λ (r : Receiver). r.page) w.receiver

    pub start_env : Env g u₀ img
    start_env = record {
      few = omega (arith, valid.ranges.many, pages_of_lem setup);
      image = omega (arith, long, pages_of_lem setup);
      low = omega (arith, inside, at_page);
      start = omega (arith, inside, at_page, pages_of_lem setup);
      holds = subst (λ (i : ℕ). Holds i u₀) (pages_of_lem setup) w.holds;
      past = subst (λ (i : ℕ). Past i u₀) (pages_of_lem setup) (λ q a b. w.marked.same q b ∙ rw (le-leb st.pages q a, or-true (leb q 1)));
    }

    module _ {o₀ : List ℕ} {u : Tables} {img₁ out : List ℕ} {f : Fresh} (placed : NodePlaced st w.x h g W u₀ img o₀ f u img₁ out) where
      pub put : NodePlaced st w.x h (near_to g (last_page c)) W u₀ img o₀ f u img₁ out
      put = subst (λ (i : ℕ). NodePlaced st w.x h (near_to g i) W u₀ img o₀ f u img₁ out) at_page placed

      pub placed_size : f.size ≤ most_node
      placed_size = omega (arith, put.next, placed_most st w.x w.fits h (last_page c) W)

      -- What growth carries along does not depend on what follows the node.
      work_is : O.1 ≡ (place st w.x h (last_page c) nil W).1
      work_is = place_work st w.x w.fits h (last_page c) W rest

      -- a run that writes
      wet_room : dry ≡ false → (rise st c (row, O.1)).1.full ≡ false
      wet_room e = ap (λ (o : Out). o.1.full) goal_is ∙ w.room e

      readied : dry ≡ false → Ready st (page_of img 0) c (fill s rest) row O.1 (page_of img₁) × (page_of img₁ (last_page c) ≡ page_of img (last_page c))
      readied e =
          let same = w.aim.reads.same in
          let z = ready_place st root valid (page_of img) (subst (λ (l : List ℕ). Stored (page_of l) 0 (store root)) (sym same) (stored_image st root valid))
          (λ q f. ap (λ (l : List ℕ). page_of l q) same ∙ images.before_free st root valid q f) c s rest held w.x h grows.grew.fits
          (full_rise st c (row, O.1) (wet_room e)) in
          subst (λ (m : Mem). Ready st (page_of img 0) c (fill s rest) row O.1 m × (m (last_page c) ≡ page_of img (last_page c))) (sym (put.after.pages e)) z

      pub page_same : page_of img₁ (last_page c) ≡ record_page (last_held c (fill s rest))
      page_same = go dry refl ∙ chain_bytes img st root w.aim.reads c (fill s rest) held
        where
          go : (b : Bool) → dry ≡ b → page_of img₁ (last_page c) ≡ page_of img (last_page c)
          go true e = ap (λ (l : List ℕ). page_of l (last_page c)) (put.after.same e)
          go false e = (readied e).1

      -- ── the table ──

      module _ (e : dry ≡ false) where
        not_full : f.full ≡ false
        not_full = put.full ∙ ap (λ (v : Work). v.full) (sym work_is) ∙ full_rise st c (row, O.1) (wet_room e)

        kept : Keeps u₀ u P
        kept = put.tells e (node_tabled st w.x u₀) not_full

        -- The pages that the store names are in use, so their entries stay.
        named_same : (q : ℕ) → 1 ≤ beside c q + along c q + count q (fill s rest) → get_or u.widths q 0 ≡ get_or u₀.widths q 0
        named_same q z =
            let k : 1 ≤ count q root = omega (arith, ap (count q) held, count_chain q c (fill s rest)) in
            let i = named_inside st root valid q (omega arith) in
            let e = w.marked.same q (omega (arith, i.1, w.holds.map)) in
            (kept.frame q (e ∙ rw (lt-ltb 0 (count q root) k) (or-true (outside st.pages q)))).0

        -- So the table is right for the store with the node in it.
        row_told : Told u.widths (whole c row)
        row_told =
            let a = w.told e in
            let v₀ = u₀.widths in
            let v = u.widths in
            let n : width (P ⊹ rest) ≡ width rest + 1 = omega (arith, width-⊹ P rest, placed_width st w.x h (last_page c) W) in
            let old = told_same v₀ v (fill s rest) (λ q z. named_same q (omega arith)) a.told in
            told_whole v c row (around_same v₀ v c (λ q z. named_same q (omega arith)) a.around)
            (subst (Told v) (sym row_is) (fill_more (told_parted v) s P rest old kept.told))
            (along_same v₀ v c row (λ q z. named_same q (omega arith)) (subst (ToldAlong v₀ c) (sym row_is) (a.along (P ⊹ rest) n)))

      -- ── the node goes into the record ──

      -- What the code that puts it there requires.
      abbrev pub into_record : into.Taken img₁ t.page t.at t.par (take f.size out)
      into_record = record {
        position = s;
        tail = rest;
        put = P;
        settled = last_settled c;
        up = last_holder c;
        on =
            let o = stands.here.on in
            record { low = omega (arith, o.low, at_page); high = omega (arith, o.high, at_page); inside = omega (arith, o.inside, at_page, put.after.long) };
        is = ap (page_of img₁) at_page ∙ page_same ∙ ap (λ (i : ℕ). record_page (record_on i (last_settled c) (last_holder c) (fill s rest))) (sym at_page);
        small = stands.fits;
        comes = front_is put;
        most = placed_most st w.x w.fits h (last_page c) W;
        offset = ap (λ (r : Receiver). r.at) w.receiver ∙ sym (at_before s (base (fill s rest)));
        holder = ap (λ (r : Receiver). r.par) w.receiver;
        root = into.steady_keeps s rest (P ⊹ rest) (omega (arith, node_count-⊹ P rest, placed_some st w.x h (last_page c) W)) gap.steady;
      }

      below_row : Below se.pages row
      below_row =
          let old = below_count se.pages (fill s rest) (λ q z. omega (arith, (stands.here.names q z).inside, long, pages_of_lem setup)) in
          subst (Below se.pages) (sym row_is) (fill_more (below_parted se.pages) s P rest old put.below)

      module _ {len : ℕ} {l : List ℕ} (buf : List ℕ) (len_is : len ≡ record_size (fill s (P ⊹ rest)))
          (l-is : l ≡ over 0 (record_bytes (fill s (P ⊹ rest))) buf) where
        pub begun : Rising st img root c (fill s rest) row O.1 g len f.full 0 (pos 0) l u img₁
        begun = record {
          setup = setup;
          reads = w.aim.reads;
          held = held;
          at = at_page;
          is = (λ i. take (len_is i) (l-is i)) ∙ take_over (record_size (fill s (P ⊹ rest))) (record_bytes (fill s (P ⊹ rest))) buf
              (length_record (fill s (P ⊹ rest))) ∙ ap record_bytes (sym row_is);
          long = len_is ∙ ap record_size (sym row_is);
          grows = grows;
          below = below_row;
          marked = subst (InUse u) (sym work_is) put.used;
          past = put.past;
          holds = holds_still start_env.holds put.as_long;
          full = put.full ∙ ap (λ (v : Work). v.full) (sym work_is);
          splits = sym (place_counts st w.x w.fits h (last_page c) W rest).0;
          lean = sym (place_counts st w.x w.fits h (last_page c) W rest).1;
          short = omega (arith, chain_nesting c (fill s rest), ap nesting held, root_nesting img st root w.aim.reads);
          same = put.after.long;
          still = put.after.same;
          wet = λ e. record {
            room = wet_room e;
            first = page_of img 0;
            ready = (readied e).0;
            own = page_same;
            told = row_told e;
            few = omega (arith, ap (λ (o : Out). population o.0) goal_is, few_nodes st new.0 (new_valid e), valid.ranges.many);
          };
        }

        -- What growth from this record requires.
        abbrev pub cascade_ready : Cascade g len f.full 0 (pos 0) l u img₁
        cascade_ready = record { st = st; was = img; root = root; chain = c; old = fill s rest; row = row; work = O.1; rising = begun }

        pub once_done : {r : Grown} {img₂ : List ℕ} {u₂ : Tables} → Risen (goal_of cascade_ready) (mem_of cascade_ready) dry r img₁ img₂ u u₂ → Inserted r img₂ u₂
        once_done {img₂ = img₂} {u₂ = u₂} r = record {
          full = r.full ∙ ap (λ (o : Out). o.1.full) goal_is;
          splits = r.splits ∙ ap (λ (o : Out). o.1.splits) goal_is;
          lean = r.lean ∙ ap (λ (o : Out). o.1.lean) goal_is;
          still = λ d. r.still d ∙ put.after.same d;
          writes = λ d.
              images.insert_image st w.x w.fits root valid w.aim.path w.k w.short w.aim.t gap img₂ (r.same ∙ put.after.long ∙ long)
              (r.pages d ∙ ap (rise_mem st c row O.1) (put.after.pages d ∙ ap (λ (l : List ℕ). place_mem st w.x h (last_page c) W (page_of l)) w.aim.reads.same))
              (wet_room d)
              ∙ ap (λ (o : Out). image st o.0) goal_is;
          table = λ d. subst (λ (o : Out). LeftTables o u₂) goal_is (r.table d);
          as_long = record { widths = r.as_long.widths ∙ put.as_long.widths; map = r.as_long.map ∙ put.as_long.map };
          rests = λ d. r.rests d ∙ put.rests d;
        }
