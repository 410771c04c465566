-- Growth on its way up: the last record of a chain has a new row, which is not written yet.
use Rattle.std.specs.Prelude.{◌≡◌, refl, Bool, true, false, cond, List, ℕ, ◌+◌, ◌*◌, ◌<◌, ◌≤◌, leb, length, take, ℤ}
use Rattle.std.proofs.Common.{sym, ap, subst, ◌∙◌, arith, leb-false}
use Rattle.theory_row_bytes.specs.RowAt.{RecordIs, back_on}
use Rattle.model.specs.Limits.{most_pages, page_size, capacity}
use Rattle.model.specs.Row.{Row, is_nil, record_size, record_page, count, outside, Config}
use Rattle.model.specs.Reading.{Reads, page_of, back_at, settled_at}
use Rattle.model.specs.Growth.{lean_of, Work, Out, separator, rise}
use Rattle.model.specs.Claims.{InLean}
use Rattle.theory_rows.specs.Fits.{Valid}
use Rattle.theory_rows.specs.Bound.{SplitGood, p_high}
use Rattle.theory_rows.specs.Lean.{Splittable}
use Rattle.theory_rows.specs.Pages.{bit, or_right, reserved}
use Rattle.theory_decoding.specs.Decode.{in_trailer}
use Rattle.theory_decoding.specs.Reading.{reads_valid, reads_length}
use Rattle.theory_layout.specs.Here.{PageIn, OnPage, page_byte}
use Rattle.model.specs.Spot.{Chain, top, below, last_page, whole, last_holder}
use Rattle.theory_rows.specs.Population.{population}
use Rattle.theory_places.specs.Widths.{Told}
use Rattle.theory_growth.specs.Told.{told_chain, population_whole}
use Rattle.grow_widths.specs.Tally.{most_entry}
use Rattle.theory_growth.specs.Chain.{last_settled, count_chain}
use Rattle.theory_growth.specs.Keeps.{Grows, grows_splits, grows_some, split_able}
use Rattle.theory_growth.specs.Shown.{population_rise}
use Rattle.theory_insert_point.specs.Bytes.{last_held, chain_page, chain_bytes}
use Rattle.theory_insert_point.specs.Nesting.{chain_length}
use Rattle.theory_page_memory.specs.Memory.{Mem}
use Rattle.theory_page_memory.specs.Links.{not_bit}
use Rattle.theory_page_memory.specs.Steps.{bit_le}
use Rattle.theory_page_memory.specs.Kept.{Ready}
use Rattle.grow_pages.specs.Links.{Below}
use Rattle.base_layout.specs.declared.Growing.{Growing}
use Rattle.base_layout.specs.Setup.{setup_of}
use Rattle.base_layout.specs.Growing.{pages_of_lem, target_of}
use Rattle.grow_groups.specs.Used.{Tables, used_by, InUse, Past, AsLong, Holds, Env}
use Rattle.grow_groups.specs.Tells.{Tabled}
use Rattle.grow_write_back.specs.Off.{Off, leaves}
use Rattle.grow_cascade.specs.declared.Grown.{Grown}

-- A run that writes: no page is missing in the end, what stands around the last record stands on its pages, and its own page is as it was; the table is right
-- for the store with the new row.
pub record Wet (st : Config) (c : Chain) (old row : Row) (work : Work) (u : Tables) (m : Mem) : Type 0 where
  pub room : (rise st c (row, work)).1.full ≡ false
  pub first : List ℕ
  pub ready : Ready st first c old row work m
  pub own : m (last_page c) ≡ record_page (last_held c old)
  pub told : Told u.widths (whole c row)
  pub few : population (rise st c (row, work)).0 ≤ most_entry

-- The store read as `root` from the image `was`; its record at the end of the chain c held `old` and is to hold `row`, with `work` done so far.
-- The rest are the code's: the record's length, what was counted, the buffer l, the tables u, and the image.
pub record Rising (st : Config) (was : List ℕ) (root : Row) (c : Chain) (old row : Row) (work : Work)
    (g : Growing) (len : ℕ) (filled : Bool) (count : ℕ) (leans : ℤ) (l : List ℕ) (u : Tables) (img : List ℕ) : Type 0 where
  pub setup : setup_of st ≡ g.setup
  pub reads : Reads was st root
  pub held : whole c old ≡ root
  pub at : g.near ≡ last_page c
  pub is : RecordIs (take len l) row
  pub long : len ≡ record_size row
  pub grows : Grows c old (row, work)
  pub below : Below g.setup.pages row
  pub marked : InUse u work
  pub past : Past g.setup.pages u
  pub holds : Holds g.setup.pages u
  pub full : filled ≡ work.full
  pub splits : count ≡ work.splits
  pub lean : leans ≡ work.lean
  pub short : chain_length c + count ≤ most_pages
  pub same : length img ≡ length was
  pub still : g.dry ≡ true → img ≡ was
  pub wet : g.dry ≡ false → Wet st c old row work u (page_of img)

-- What growth leaves of the tables: the widths are right, and the map has the pages in use.
pub record LeftTables (goal : Out) (u : Tables) : Type 0 where
  pub told : Told u.widths goal.0
  pub marked : InUse u goal.1

-- What growth gives in the end: what was counted, the image, and the tables, of which a dry run leaves the widths.
pub record Risen (goal : Out) (mem : Mem) (dry : Bool) (r : Grown) (img new : List ℕ) (u₀ u : Tables) : Type 0 where
  pub full : r.full ≡ goal.1.full
  pub splits : r.splits ≡ goal.1.splits
  pub lean : r.lean ≡ goal.1.lean
  pub same : length new ≡ length img
  pub still : dry ≡ true → new ≡ img
  pub pages : dry ≡ false → page_of new ≡ mem
  pub table : dry ≡ false → LeftTables goal u
  pub as_long : AsLong u₀ u
  pub rests : dry ≡ true → u.widths ≡ u₀.widths

pub risen_by : {o o' : Out} {mem : Mem} {dry : Bool} {r : Grown} {img new : List ℕ} {u₀ u : Tables} → o ≡ o' → Risen o mem dry r img new u₀ u
    → Risen o' mem dry r img new u₀ u
risen_by {mem = mem} {dry} {r} {img} {new} {u₀} {u} = subst (λ (o : Out). Risen o mem dry r img new u₀ u)

is_bit : (b : Bool) → 1 ≤ bit b → b ≡ true
is_bit true h = refl
is_bit false h = absurd (omega arith)

-- A settled byte says whether its record is settled.
pub bit_one : (b : Bool) {k : ℕ} → k ≡ cond b 1 0 → k ≡ 1 → b ≡ true
bit_one true q e = refl
bit_one false q e = absurd (omega arith)

pub bit_other : (b : Bool) {k : ℕ} → k ≡ cond b 1 0 → (k ≡ 1 → ⊥) → b ≡ false
bit_other true q e = absurd (e q)
bit_other false q e = refl

module _ {st : Config} {was : List ℕ} {root : Row} {c : Chain} {old row : Row} {work : Work}
    {g : Growing} {len : ℕ} {filled : Bool} {counts : ℕ} {leans : ℤ} {l : List ℕ} {u : Tables} {img : List ℕ}
    (w : Rising st was root c old row work g len filled counts leans l u img) where
  -- ── the record and its page ──

  pub valid : Valid st root
  valid = reads_valid was st root w.reads

  pub stands : OnPage was (last_page c) (last_holder c) old
  stands = chain_page was st root w.reads c old w.held

  pub long_image : length img ≡ page_size * g.setup.pages
  long_image = w.same ∙ reads_length was st root w.reads ∙ ap (λ (i : ℕ). page_size * i) (pages_of_lem w.setup)

  pub inside : (1 ≤ g.near) × ((g.near < g.setup.pages) × ((g.setup.pages ≤ most_pages) × (page_size * g.near + page_size ≤ length img)))
  inside =
      let p = stands.here.on in
      omega (arith, p.low, p.inside, w.at, w.same, long_image, pages_of_lem w.setup, valid.ranges.many)

  own_page : page_of img (last_page c) ≡ record_page (last_held c old)
  own_page = go g.dry refl
    where
      go : (b : Bool) → g.dry ≡ b → page_of img (last_page c) ≡ record_page (last_held c old)
      go true e = ap (λ (i : List ℕ). page_of i (last_page c)) (w.still e) ∙ chain_bytes was st root w.reads c old w.held
      go false e = (w.wet e).own

  -- A chain's holder is a page.
  pub holder_high : last_holder c < most_pages
  holder_high = go c w.held
    where
      go : (c : Chain) → whole c old ≡ root → last_holder c < most_pages
      go top e = omega arith
      go (below c s q b rest) e = (chain_page was st root w.reads c _ e).here.on.high

  on_page : PageIn img (last_page c)
  on_page = let p = stands.here.on in record { low = p.low; high = p.high; inside = omega (arith, p.inside, w.same) }

  pub settled_is : settled_at img (page_size * g.near) ≡ cond (last_settled c) 1 0
  settled_is =
      ap (λ (i : ℕ). settled_at img (page_size * i)) w.at ∙ page_byte img (last_held c old) on_page own_page stands.fits holder_high 4081 (omega arith)
      ∙ in_trailer (last_held c old) stands.fits 1

  pub settled_most : settled_at img (page_size * g.near) ≤ 1
  settled_most = omega (arith, settled_is, bit_le (last_settled c))

  pub holder_is : back_at img (page_size * g.near) ≡ last_holder c
  holder_is =
      ap (λ (i : ℕ). back_at img (page_size * i)) w.at ∙ back_on img (last_held c old) own_page stands.fits (omega (arith, holder_high))

  -- ── the new row ──

  pub able : Splittable st row
  able = (grows_splits st valid.ranges c old (row, work) w.grows).1

  pub some : is_nil row ≡ false
  some = grows_some st valid.ranges c old (row, work) w.grows

  pub range : InLean leans
  range = subst InLean (sym w.lean) w.grows.lean.0

  -- The tables and the image for a split, in a dry run or not.
  module _ (d : Bool) where
    abbrev pub at_page : Growing
    at_page = record { setup = g.setup; near = g.near; dry = d }

    abbrev pub env : Env at_page u img
    env = record { few = inside.1.1.0; image = omega (arith, long_image); low = inside.0; start = inside.1.0; holds = w.holds; past = w.past }

  module _ (big : capacity < record_size row) where
    pub good : (v : Work) → SplitGood (separator st g.near row v).0 (lean_of st row)
    good v = split_able st valid.ranges g.near row v able big

    -- What the split of the record requires.
    abbrev pub off : (d : Bool) → (settled : ℕ) → settled ≡ cond (last_settled c) 1 0 → Off (at_page d) settled (take len l) u
    off d settled e =
        let y = good (leaves st (last_settled c) g.near row work) in
        record {
          st = st;
          row = row;
          stays = last_settled c;
          bit = e;
          work = work;
          marked = w.marked;
          over = record {
            setup = w.setup;
            is = w.is;
            big = big;
            small = omega (arith, able.most);
            below = w.below;
            good = y.fits;
            most = omega (arith, y.small);
          };
          range = omega (arith, target_of w.setup, valid.ranges.high);
          small = omega (arith, able.most);
          leans = y.leans;
          low = omega (arith, p_high st valid.ranges (record_size row) big able.most);
        }

  -- ── the table ──

  module _ (wet : g.dry ≡ false) where
    -- Each page is named as often as it is used, but for those outside.
    tally : (q : ℕ) → reserved st q + count q (whole c row) ≡ bit (work.used q)
    tally q = omega (arith, count_chain q c row, (w.wet wet).ready.now.tally q)

    pub named_once : (q : ℕ) → count q (whole c row) ≤ 1
    named_once q = omega (arith, tally q, bit_le (work.used q))

    -- What is named is in use.
    pub named_used : (q : ℕ) → 1 ≤ count q (whole c row) → used_by u q ≡ true
    named_used q h =
        let out : outside st.pages q ≡ false = not_bit _ (omega (arith, tally q, bit_le (work.used q))) in
        let low : q < st.pages = leb-false st.pages q (or_right (leb q 1) (leb st.pages q) out) in
        w.marked.same q (omega (arith, low, pages_of_lem w.setup, w.holds.map)) ∙ is_bit (work.used q) (omega (arith, tally q))

    -- The table is right for the row.
    pub tabled : Tabled u row
    tabled = record {
      told = (told_chain u.widths c row (w.wet wet).told).1;
      named = λ q h. named_used q (omega (arith, count_chain q c row));
      few = omega (arith, population_whole c row, population_rise st c (row, work), (w.wet wet).few);
    }
