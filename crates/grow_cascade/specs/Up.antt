-- The record is not settled and too large: it leaves its page, and its separator takes its proxy's place in the record above, which goes on.
use Rattle.std.specs.Prelude.{◌≡◌, refl, Bool, true, ◌||◌, List, ℕ, suc, ◌+◌, ◌*◌, ◌<◌, ◌≤◌, eqb, leb, length, take, ℤ}
use Rattle.std.proofs.Common.{sym, subst, ◌∙◌, add-one, eq-eqb}
use Rattle.std.proofs.Math.Path.{ap}
use Rattle.std.proofs.Math.Bool.{false, cond}
use native.Mathlib.Omega.{arith}
use Rattle.std.proofs.lemmas.Bool.{lt-leb}
use Rattle.std.proofs.Math.ListN.{get_or}
use Rattle.model.specs.Limits.{page_size, capacity}
use Rattle.model.specs.Row.{Row, rec, ◌⊹◌, size, bytes, record_size, record_bytes, record_page, count, Config}
use Rattle.model.specs.Reading.{page_of}
use Rattle.model.specs.Growth.{lean_of, Work, Out, separator, counted, freed, rise}
use Rattle.theory_rows.specs.Bound.{SplitGood}
use Rattle.theory_rows.specs.Lean.{split_counts}
use Rattle.theory_rows.specs.Shows.{node_count_some, separator_width}
use Rattle.theory_rows.specs.Pages.{count-⊹, or_right}
use Rattle.model.specs.Tree.{width}
use Rattle.grow_split_point.specs.Lean.{lean_now}
use Rattle.theory_rows.specs.Laws.{width-⊹}
use Rattle.theory_rows.specs.Image.{length_record}
use Rattle.base_numbers.specs.Over.{over, take_over}
use Rattle.theory_layout.specs.Here.{PageIn, OnPage}
use Rattle.model.specs.Spot.{Position, fill, Chain, below, last_page, whole, last_holder}
use Rattle.theory_growth.specs.Chain.{in_fill, refill, fill_more, fill_less, last_settled, chain_fits, count_refill, count_chain}
use Rattle.theory_growth.specs.Keeps.{grows_goes}
use Rattle.theory_insert_point.specs.Bytes.{last_held, chain_bytes}
use Rattle.theory_growth.specs.Full.{full_rise}
use Rattle.theory_page_memory.specs.Memory.{Mem, blank, set_mem, separator_mem, rise_mem}
use Rattle.theory_page_memory.specs.Around.{rise_goes, mem_goes}
use Rattle.theory_page_memory.specs.Kept.{Ready, goes_up}
use Rattle.grow_pages.specs.Links.{Below, below_count, below_parted}
use Rattle.grow_pages.specs.Relinked.{After, after_then, mem_cleared}
use Rattle.base_layout.specs.declared.Growing.{Growing}
use Rattle.base_layout.specs.Growing.{separator_size, near_to}
use Rattle.grow_splice.specs.Splice.{KeepsRoot}
use Rattle.grow_replace_proxy.specs.Above.{above_stands, above_once}
use Rattle.grow_replace_proxy.specs.Keeps.{shape_keeps}
use Rattle.grow_replace_proxy.specs.Lift.{Lift}
use Rattle.grow_map.specs.Map.{unmarked_other}
use Rattle.grow_write_back.specs.Off.{left_image, length_left, left_tables, left_as_long, SplitOff}
use Rattle.theory_rows.specs.Population.{population}
use Rattle.theory_places.specs.Widths.{Told, told_same}
use Rattle.theory_growth.specs.Told.{told_parted, told_chain, told_swap, width_fill, along_own}
use Rattle.grow_widths.specs.Tally.{most_entry}
use Rattle.grow_groups.specs.Used.{Tables, used_by, AsLong, holds_still}
use Rattle.grow_groups.specs.Tells.{Keeps}
use Rattle.grow_groups.specs.Step.{front_is}
use Rattle.grow_cascade.specs.Rising.{Rising, valid, inside as page_inside, long_image, good, named_once, named_used, tabled}

-- ── the page that is left ──

left_after : (g : Growing) (img : List ℕ) → page_size * g.near + page_size ≤ length img
    → After g.dry (left_image g false img) img (set_mem g.near blank (page_of img))
left_after g img h = record { long = length_left g false img h; same = λ e. rw e; pages = λ e. rw e (mem_cleared g.near img h) }

-- ── one step up ──

-- The record is on page q, whose proxy stands in the record above.
module _ {st : Config} {was : List ℕ} {root : Row} {c : Chain} {s : Position} {q : ℕ} {rest old row : Row} {work : Work}
    (g : Growing) {len : ℕ} {filled : Bool} {counts : ℕ} {leans : ℤ} {l : List ℕ} {u : Tables} {img : List ℕ}
    (w : Rising st was root (below c s q false rest) old row work (near_to g q) len filled counts leans l u img) (big : capacity < record_size row)
    {end : ℕ} {full : Bool} {u' : Tables} {img₁ out₀ out₁ : List ℕ}
    (cut : SplitOff st (near_to g q) row work false end full u u' img img₁ out₀ out₁) where
  abbrev v : Work
  v = freed st q (counted st row work)

  -- The separator of the record, and the row of the record above with it.
  abbrev pub S : Out
  S = separator st q row v

  abbrev pub above : Row
  above = fill s (rec q false old rest)

  abbrev pub next : Row
  next = fill s (S.0 ⊹ rest)

  split : SplitGood S.0 (lean_of st row)
  split = good w big v

  too_large : leb (record_size row) capacity ≡ false
  too_large = lt-leb (record_size row) capacity big

  pub next_goal : rise st c (next, S.1) ≡ rise st (below c s q false rest) (row, work)
  next_goal = sym (rise_goes st c s q false rest row work too_large)

  pub split_after : After g.dry img₁ img (separator_mem st q row v (set_mem q blank (page_of img)))
  split_after = after_then (separator_mem st q row v) (left_after (near_to g q) img (omega (arith, page_inside w))) cut.after

  pub next_mem : g.dry ≡ false → rise_mem st c next S.1 (page_of img₁) ≡ rise_mem st (below c s q false rest) row work (page_of img)
  next_mem z = ap (rise_mem st c next S.1) (split_after.pages z) ∙ sym (mem_goes st c s q false rest row work too_large (page_of img))

  -- ── the image ──

  next_same : length img₁ ≡ length was
  next_same = split_after.long ∙ w.same

  next_still : g.dry ≡ true → img₁ ≡ was
  next_still z = split_after.same z ∙ w.still z

  full_goal : g.dry ≡ false → (rise st c (next, S.1)).1.full ≡ false
  full_goal z = ap (λ (o : Out). o.1.full) next_goal ∙ (w.wet z).room

  went : (z : g.dry ≡ false) → Ready st (w.wet z).first c above next S.1 (page_of img₁) × (page_of img₁ (last_page c) ≡ record_page (last_held c above))
  went z =
      let k = w.wet z in
      subst (λ (m : Mem). Ready st k.first c above next S.1 m × (m (last_page c) ≡ record_page (last_held c above))) (sym (split_after.pages z))
      (goes_up st k.first c s q false rest old row work (page_of img) (λ _. k.ready) split.fits (full_rise st c (next, S.1) (full_goal z)))

  pub above_page : page_of img₁ (last_page c) ≡ page_of was (last_page c)
  above_page = go g.dry refl
    where
      go : (b : Bool) → g.dry ≡ b → page_of img₁ (last_page c) ≡ page_of was (last_page c)
      go true z = ap (λ (i : List ℕ). page_of i (last_page c)) (next_still z)
      go false z = (went z).1 ∙ sym (chain_bytes was st root w.reads c above w.held)

  -- ── the table ──

  module _ (z : g.dry ≡ false) where
    -- The page that is left is named by its proxy alone,
    left_unnamed : count q row ≡ 0
    left_unnamed = omega (arith, named_once w z q, count_chain q (below c s q false rest) row, along_own c s q false rest)

    -- the table is right for the separator,
    left : Tables
    left = left_tables (near_to g q) false u

    low : q < 8 * length u.map
    low = omega (arith, page_inside w, w.holds.map)

    -- the other pages are as they were
    kept : (p : ℕ) → (p ≡ q → ⊥) → used_by u p ≡ true → used_by left p ≡ true
    unfolding left
    kept p h e = unmarked_other u.map q low p h ∙ e

    sep_table : Keeps left u' S.0
    unfolding left
    sep_table =
        let t = tabled w z in
        cut.tells z (record { told = t.told; named = λ p h. kept p (λ e. omega (arith, left_unnamed, ap (λ (i : ℕ). count i row) e)) (t.named p h); few = t.few })
        (or_right v.full full (cut.full ∙ full_rise st c (next, S.1) (full_goal z)))

    -- and as it was for the store with the record's nodes in place of its proxy, which shows as many,
    inlined : Row
    inlined = fill s (row ⊹ rest)

    inlined_names : (p : ℕ) → cond (eqb p q) 1 0 + count p (whole c inlined) ≡ count p (whole (below c s q false rest) row)
    unfolding inlined
    inlined_names p =
        omega (
          arith,
          count_chain p c inlined,
          count_chain p c (fill s (rec q false row rest)),
          count_refill p s (row ⊹ rest) (rec q false row rest),
          count-⊹ p row rest,
        )

    inlined_told : Told u.widths (whole c inlined)
    unfolding inlined
    inlined_told =
        let k = told_chain u.widths (below c s q false rest) row (w.wet z).told in
        told_swap u.widths c (fill s (rec q false row rest)) inlined (width_fill s (rec q false row rest) (row ⊹ rest) (sym (width-⊹ row rest))) (w.wet z).told
        (fill_more (told_parted u.widths) s row rest k.0.0 k.1)

    inlined_same : Told u'.widths (whole c inlined)
    unfolding left
    inlined_same = told_same u.widths u'.widths (whole c inlined) (λ p h. same p h) inlined_told
      where
        same : (p : ℕ) → 1 ≤ count p (whole c inlined) → get_or u'.widths p 0 ≡ get_or u.widths p 0
        same p h =
            let other : p ≡ q → ⊥ = λ e. omega (arith, inlined_names p, named_once w z p, ap {B = ℕ} (λ b. cond b 1 0) (eq-eqb p q e)) in
            (sep_table.frame p (kept p other (named_used w z p (omega (arith, inlined_names p))))).0

    -- and so for the store with the separator there.
    next_told : Told u'.widths (whole c next)
    unfolding inlined
    next_told =
        let k = (told_chain u'.widths c inlined inlined_same).1 in
        let n : width (row ⊹ rest) ≡ width (S.0 ⊹ rest) = omega (arith, width-⊹ row rest, width-⊹ S.0 rest, separator_width st q row v) in
        told_swap u'.widths c inlined next (width_fill s (row ⊹ rest) (S.0 ⊹ rest) n) inlined_same
        (fill_more (told_parted u'.widths) s S.0 rest (fill_less (told_parted u'.widths) s row rest k).0 sep_table.told)

  pub split_long : AsLong u u'
  split_long =
      let l = left_as_long (near_to g q) false u in
      record { widths = cut.as_long.widths ∙ l.widths; map = cut.as_long.map ∙ l.map }

  -- ── the record above ──

  pub on_above : OnPage was (last_page c) (last_holder c) above
  on_above = above_stands was st root w.reads c s q false rest old w.held

  pub lift_on : PageIn img₁ (last_page c)
  lift_on = let o = on_above.here.on in record { low = o.low; high = o.high; inside = omega (arith, o.inside, next_same) }

  pub keeps_root : KeepsRoot s (rec q false old rest) (S.0 ⊹ rest)
  keeps_root = shape_keeps s q false old rest S.0 (chain_fits c above w.grows.fits).0.shape (node_count_some S.0 split.some)

  pub sep_is : take end out₁ ≡ bytes S.0
  sep_is = front_is cut

  pub sep_most : size S.0 ≤ separator_size
  sep_most = omega (arith, split.small)

  -- What the code that puts the separator in it requires.
  abbrev pub up_lift : Lift img₁ (last_page c) q (take end out₁)
  up_lift = record {
    position = s;
    settled = false;
    old = old;
    rest = rest;
    put = S.0;
    above = last_settled c;
    up = last_holder c;
    on = lift_on;
    is = above_page ∙ chain_bytes was st root w.reads c above w.held;
    small = on_above.fits;
    once = above_once was st root w.reads c s q false rest old w.held;
    names = λ m h. omega (arith, (on_above.here.names m h).high);
    comes = sep_is;
    most = sep_most;
    root = keeps_root;
  }

  next_below : Below g.setup.pages next
  next_below =
      let n = g.setup.pages in
      let k : Below n above = below_count n above (λ p h. omega (arith, (on_above.here.names p h).inside, w.same, long_image w)) in
      refill (below_parted n) s (rec q false old rest) (S.0 ⊹ rest) k
      ((below_parted n).join S.0 rest cut.below (in_fill (below_parted n) s (rec q false old rest) k).1)

  -- The record above goes on.
  pub up_rising : {leans' : ℤ} {len' : ℕ} {l' : List ℕ} → leans' ≡ lean_now counts leans (lean_of st row)
      → len' ≡ record_size next → l' ≡ over 0 (record_bytes next) l
      → Rising st was root c above next S.1 (near_to g (last_page c)) len' (filled || full) (counts + 1) leans' l' u' img₁
  up_rising {leans'} {len'} {l'} le e k =
      record {
        setup = w.setup;
        reads = w.reads;
        held = w.held;
        at = refl;
        is = (λ i. take (e i) (k i)) ∙ take_over (record_size next) (record_bytes next) l (length_record next);
        long = e;
        grows = grows_goes st (valid w).ranges c s q false rest old (row, work) too_large w.grows;
        below = next_below;
        marked = cut.used;
        past = cut.past;
        holds = holds_still w.holds split_long;
        full = ap (λ (b : Bool). b || full) w.full ∙ cut.full;
        splits = add-one counts ∙ ap suc w.splits ∙ sym (split_counts st q row v).0;
        lean = le ∙ (λ i. lean_now (w.splits i) (w.lean i) (lean_of st row)) ∙ sym (split_counts st q row v).1;
        short = omega (arith, w.short);
        same = next_same;
        still = next_still;
        wet = λ z. record {
          room = full_goal z;
          first = (w.wet z).first;
          ready = (went z).0;
          own = (went z).1;
          told = next_told z;
          few = subst (λ (o : Out). population o.0 ≤ most_entry) (sym next_goal) (w.wet z).few;
        };
      }
