-- The record stays on its page, because it fits or is settled: its new row, or the separator of it, is written there, and growth stops.
use Rattle.std.specs.Prelude.{◌≡◌, refl, Bool, true, false, cond, ◌||◌, List, ℕ, suc, ◌+◌, ◌<◌, ◌≤◌, length, take, ℤ}
use Rattle.std.proofs.Common.{sym, subst, ◌∙◌, arith, add-one}
use Rattle.std.proofs.Math.Path.{ap}
use Rattle.std.proofs.Math.Bool.{or-true}
use borrow.Author.Tests.{le-leb, lt-leb}
use Rattle.std.proofs.Math.Dec.{leb}
use Rattle.model.specs.Limits.{capacity}
use Rattle.model.specs.Row.{Row, size, lone, bytes, record_size, record_bytes, Config}
use Rattle.model.specs.Reading.{page_of}
use Rattle.theory_rows.specs.Lean.{split_counts}
use Rattle.model.specs.Growth.{lean_of, Work, Out, on_row, separator, counted, kept, rise}
use Rattle.theory_rows.specs.Fits.{Shape}
use Rattle.theory_rows.specs.Shows.{separator_width}
use Rattle.theory_rows.specs.Keeps.{separator_lone}
use Rattle.theory_growth.specs.Store.{settled_lone}
use Rattle.model.specs.Spot.{Chain, last_page, whole, last_holder}
use Rattle.theory_growth.specs.Chain.{last_settled}
use Rattle.theory_growth.specs.Keeps.{grows_splits}
use Rattle.theory_places.specs.Widths.{told_same}
use Rattle.theory_growth.specs.Told.{told_swap}
use Rattle.theory_page_memory.specs.Memory.{Mem, put_mem, separator_mem, kept_mem, rise_mem}
use Rattle.theory_page_memory.specs.Around.{rise_stays, rise_fits, mem_stays}
use Rattle.grow_pages.specs.Links.{Below}
use Rattle.grow_pages.specs.Relinked.{After, after_then, written, after_written}
use Rattle.base_layout.specs.declared.Growing.{Growing}
use Rattle.grow_split.specs.Severed.{Severed}
use Rattle.grow_split_point.specs.Lean.{lean_now}
use Rattle.grow_write_back.specs.Content.{Content}
use Rattle.grow_write_back.specs.Off.{left_image, SplitOff}
use Rattle.theory_rows.specs.Pages.{or_right}
use Rattle.grow_groups.specs.Used.{Tables}
use Rattle.grow_groups.specs.Tells.{Keeps}
use Rattle.grow_groups.specs.Step.{front_is}
use Rattle.grow_cascade.specs.Rising.{Rising, Risen, risen_by, valid, inside, long_image, some, good, named_used, tabled}

left_stays : (g : Growing) (img : List ℕ) → left_image g true img ≡ img
left_stays g img = rw or-true

lone_bytes : (r : Row) → lone r ≡ true → record_bytes r ≡ bytes r
lone_bytes r e = rw e

lone_size : (r : Row) → lone r ≡ true → record_size r ≡ size r
lone_size r e = ap (λ (b : Bool). cond b 0 6 + size r) e ∙ omega arith

-- The split of a record that stays on its page.
kept_big : (st : Config) (q : ℕ) (o : Out) → capacity < record_size o.0 → kept st q o ≡ separator st q o.0 (counted st o.0 o.1)
unfolding kept
kept_big st q o k = rw (lt-leb (record_size o.0) capacity k)

module _ {st : Config} {was : List ℕ} {root : Row} {c : Chain} {old row : Row} {work : Work}
    {g : Growing} {len : ℕ} {filled : Bool} {count : ℕ} {leans : ℤ} {l : List ℕ} {u : Tables} {img : List ℕ}
    (w : Rising st was root c old row work g len filled count leans l u img) where
  -- ── it fits ──

  module _ (fit : record_size row ≤ capacity) where
    -- What the code that writes it requires.
    abbrev pub content : Content (take len l) g.setup.pages
    content = record { row = row; is = w.is; below = w.below; small = fit; some = some w }

    stays : last_settled c || leb (record_size row) capacity ≡ true
    stays = ap (λ (b : Bool). last_settled c || b) (le-leb (record_size row) capacity fit) ∙ or-true (last_settled c)

    low_goal : rise st c (row, work) ≡ on_row (whole c) (row, work)
    low_goal = rise_fits st c old (row, work) w.grows.fits fit

    low_mem : (m : Mem) → put_mem g.near (last_settled c) (last_holder c) row m ≡ rise_mem st c row work m
    unfolding kept_mem
    low_mem m = rw (w.at, mem_stays st c row work m stays, le-leb (record_size row) capacity fit)

    pub low_done : {holder : ℕ} {new : List ℕ} → holder ≡ last_holder c → new ≡ cond g.dry img (written g.near (last_settled c) holder row img)
        → Risen (rise st c (row, work)) (rise_mem st c row work (page_of img)) g.dry
        (record { full = filled; splits = count; lean = leans }) img new u u
    low_done {holder} {new} h e =
        let p : After g.dry new img (put_mem g.near (last_settled c) (last_holder c) row (page_of img)) =
        rw (e, h)
        (after_written g.setup.pages g.near (last_holder c) (last_settled c) row img w.below fit (omega (arith, long_image w)) (inside w).1.0 _) in
        risen_by (sym low_goal) (record {
          full = w.full;
          splits = w.splits;
          lean = w.lean;
          same = p.long;
          still = p.same;
          pages = λ z. p.pages z ∙ low_mem (page_of img);
          table = λ z. record { told = (w.wet z).told; marked = w.marked };
          as_long = record { widths = refl; map = refl };
          rests = λ _. refl;
        })

  -- ── it is settled, and split ──

  module _ (big : capacity < record_size row) (settled : last_settled c ≡ true) where
    abbrev v : Work
    v = counted st row work

    abbrev S : Out
    S = separator st g.near row v

    S-lone : lone S.0 ≡ true
    S-lone =
        separator_lone st (valid w).ranges.tol g.near row v w.grows.grew.fits big
        (settled_lone row (subst (λ (b : Bool). Shape b row) settled (grows_splits st (valid w).ranges c old (row, work) w.grows).0))

    goal_is : rise st c (row, work) ≡ on_row (whole c) S
    goal_is =
        rise_stays st c old (row, work) w.grows.fits (ap (λ (b : Bool). b || leb (record_size row) capacity) settled)
        ∙ ap (on_row (whole c)) (kept_big st (last_page c) (row, work) big ∙ ap (λ (q : ℕ). separator st q row v) (sym w.at))

    mem_is : (m : Mem) → put_mem g.near (last_settled c) (last_holder c) S.0 (separator_mem st g.near row v m) ≡ rise_mem st c row work m
    unfolding kept_mem
    mem_is m =
        ap (λ (q : ℕ). put_mem q (last_settled c) (last_holder c) (separator st q row v).0 (separator_mem st q row v m)) w.at
        ∙ rw (mem_stays st c row work m (ap (λ (b : Bool). b || leb (record_size row) capacity) settled), lt-leb (record_size row) capacity big)

    module _ {end : ℕ} {full : Bool} {u' : Tables} {img₁ out₀ out₁ : List ℕ}
        (sev : SplitOff st g row work (last_settled c) end full u u' img img₁ out₀ out₁) where
      cut : Severed st g row v end full u u' img img₁ out₀ out₁
      cut =
          subst (λ (i : List ℕ). Severed st g row (counted st row work) end full u u' i img₁ out₀ out₁) (left_stays g img)
          (subst (λ (b : Bool). SplitOff st g row work b end full u u' img img₁ out₀ out₁) settled sev)

      pub severed_long : length img₁ ≡ length img
      severed_long = cut.after.long

      pub severed_is : take end out₁ ≡ record_bytes S.0
      severed_is = front_is cut ∙ sym (lone_bytes S.0 S-lone)

      pub severed_below : Below g.setup.pages S.0
      severed_below = cut.below

      pub severed_small : record_size S.0 ≤ capacity
      severed_small = omega (arith, lone_size S.0 S-lone, (good w big v).small)

      -- What the code that writes the separator requires.
      abbrev pub severed_content : Content (take end out₁) g.setup.pages
      severed_content = record { row = S.0; is = severed_is; below = severed_below; small = severed_small; some = (good w big v).some }

      -- The table is right for the separator.
      kept_table : g.dry ≡ false → Keeps u u' S.0
      kept_table z =
          cut.tells z (tabled w z) (or_right v.full full (cut.full ∙ ap (λ (o : Out). o.1.full) (sym goal_is) ∙ (w.wet z).room))

      pub settled_done : {leans' : ℤ} {holder : ℕ} {new : List ℕ} → leans' ≡ lean_now count leans (lean_of st row) → holder ≡ last_holder c
          → new ≡ cond g.dry img₁ (written g.near (last_settled c) holder severed_content.row img₁)
          → Risen (rise st c (row, work)) (rise_mem st c row work (page_of img)) g.dry
          (record { full = filled || full; splits = count + 1; lean = leans' }) img new u u'
      settled_done {leans'} {holder} {new} le h e =
          let put : After g.dry new img₁ (put_mem g.near (last_settled c) (last_holder c) S.0 (page_of img₁)) =
          rw (e, h) (after_written g.setup.pages g.near (last_holder c) (last_settled c) S.0 img₁ severed_below severed_small
          (omega (arith, long_image w, cut.after.long)) (inside w).1.0 _) in
          let p = after_then (put_mem g.near (last_settled c) (last_holder c) S.0) cut.after put in
          risen_by (sym goal_is) (record {
            full = ap (λ (b : Bool). b || full) w.full ∙ cut.full;
            splits = add-one count ∙ ap suc w.splits ∙ sym (split_counts st g.near row v).0;
            lean = le ∙ (λ i. lean_now (w.splits i) (w.lean i) (lean_of st row)) ∙ sym (split_counts st g.near row v).1;
            same = p.long;
            still = p.same;
            pages = λ z. p.pages z ∙ mem_is (page_of img);
            table = λ z.
                let k = kept_table z in
                let same = told_same u.widths u'.widths (whole c row) (λ q h. (k.frame q (named_used w z q h)).0) (w.wet z).told in
                record { told = told_swap u'.widths c row S.0 (separator_width st g.near row v) same k.told; marked = cut.used };
            as_long = cut.as_long;
            rests = cut.rests;
          })
