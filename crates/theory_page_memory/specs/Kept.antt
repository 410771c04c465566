-- After growth every record of the new store stands on its page, and the free pages are blank.
use Rattle.std.specs.Prelude.{◌≡◌, Bool, true, false, cond, ◌||◌, List, eqb, leb}
use Rattle.std.proofs.Math.Path.{refl}
use Rattle.std.proofs.Common.{sym, ap, subst, ◌∙◌, arith, leb-false}
use Prim.Native.Nat.{ℕ, ◌+◌, ◌≤◌, ◌<◌}
use Rattle.model.specs.Limits.{capacity}
use Rattle.model.specs.Row.{Head, Row, nil, agg, lit, rec, store, ◌⊹◌, record_size, record_page, count, Config}
use Rattle.model.specs.Tree.{New}
use Rattle.model.specs.Growth.{Work, Out, on_row, mark, free_from, taken, separator, counted, freed, kept, apart, place, at_rest, rise}
use Rattle.theory_rows.specs.Fits.{Ranges, Fits, Valid}
use Rattle.theory_rows.specs.Image.{Stored}
use Rattle.theory_rows.specs.Lean.{Splittable}
use Rattle.theory_rows.specs.Pages.{bit, or_right, reserved, tally_freed, tally_rest}
use Rattle.model.specs.Spot.{Position, fill, Chain, top, below, last_page, whole, last_holder}
use Rattle.theory_growth.specs.Chain.{last_settled, fits_fill, count_chain}
use Rattle.theory_growth.specs.Keeps.{Grows, grows_splits, split_able, grows_goes}
use Rattle.theory_page_memory.specs.Memory.{Mem, blank, set_mem, put_mem, separator_mem, kept_mem, rise_mem, place_mem, OutMem, separator_m}
use Rattle.theory_page_memory.specs.Links.{self, stored_loose, loose_agree, set_other, put_other, put_same, put_stored}
use Rattle.theory_page_memory.specs.Steps.{Now, StepLeaves, StepKeeps, bit_le, bit_false, now_in, stay, step_own, step_separator}
use Rattle.theory_insert_point.specs.Bytes.{last_held}
use Rattle.theory_page_memory.specs.Around.{Around, assemble, disassemble, elsewhere, beyond, beyond_own, own_first, around_agree, rise_stays}
use Rattle.theory_page_memory.specs.Around.{mem_stays, rise_goes, mem_goes}

-- A page that is left is blank.
cleared : (p q : ℕ) (used : ℕ → Bool) (m : Mem) → ((p : ℕ) → used p ≡ false → m p ≡ blank) → mark false q used p ≡ false → set_mem q blank m p ≡ blank
cleared p q used m free = go (eqb p q)
  where
    go : (b : Bool) → cond b false (used p) ≡ false → cond b blank (m p) ≡ blank
    go true z = refl
    go false z = free p z

module _ (st : Config) (first : List ℕ) where
  -- The last record of the chain, which held `old`, has a new row that is not written yet: its records stand on their pages, with whatever holders.
  pub record Ready (c : Chain) (old : Row) (r : Row) (w : Work) (m : Mem) : Type 0 where
    pub around : Around m c old
    pub now : Now (elsewhere st c) r w m
    pub settings : m 0 ≡ first

  -- Every record of the store stands on its page; a page is used if it is named or outside, and blank if not; page 0 is as it was.
  pub record Done (root : Row) (w : Work) (m : Mem) : Type 0 where
    pub stored : Stored m 0 (store root)
    pub tally : (q : ℕ) → reserved st q + count q root ≡ bit (w.used q)
    pub free : (q : ℕ) → w.used q ≡ false → m q ≡ blank
    pub settings : m 0 ≡ first

  -- the last write
  finish : (c : Chain) (old r : Row) (w : Work) (m : Mem) → Fits r → Ready c old r w m
      → Done (whole c r) w (put_mem (last_page c) (last_settled c) (last_holder c) r m)
  finish c old r w m f k =
      let q = last_page c in
      let t : (p : ℕ) → (beyond st c p + bit (eqb p q) + count p r ≤ bit (w.used p)) × (bit (w.used p) ≤ 1) =
      λ p. (omega (arith, k.now.tally p, beyond_own st c p), bit_le (w.used p)) in
      let m' = put_mem q (last_settled c) (last_holder c) r m in
      let other : (p : ℕ) → bit (eqb p q) + count p r ≡ 0 → m' p ≡ m p = put_other q (last_settled c) (last_holder c) r m in
      record {
        stored =
            assemble m' c old r (around_agree st m m' c old (λ p z. other p (omega (arith, t p))) k.around)
            (put_same q (last_settled c) (last_holder c) r m (omega (arith, t q, self q)))
            (put_stored q (last_settled c) (last_holder c) r m (λ p. omega (arith, t p)) f k.now.loose);
        tally = λ p. omega (arith, k.now.tally p, count_chain p c r);
        free = λ p z. other p (omega (arith, t p, bit_false (w.used p) z)) ∙ k.now.free p z;
        settings = other 0 (omega (arith, k.now.tally 0, t 0, own_first st c)) ∙ k.settings;
      }

  done_by : {o u : Out} {m n : Mem} → o ≡ u → m ≡ n → Done o.0 o.1 m → Done u.0 u.1 n
  done_by e f d = subst (λ (z : Out × Mem). Done z.0.0 z.0.1 z.1) (λ i. (e i, f i)) d

  -- a record that stays on its page
  kept_done : (c : Chain) (old r : Row) (w : Work) (m : Mem) → Ranges st → Splittable st r → (w.full ≡ false → Ready c old r w m)
      → let o = kept st (last_page c) (r, w) in
      o.1.full ≡ false → Done (whole c o.0) o.1 (kept_mem st (last_page c) (last_settled c) (last_holder c) r w m)
  unfolding kept kept_mem
  kept_done c old r w m range able ready = go (leb (record_size r) capacity) refl
    where
      q : ℕ
      q = last_page c

      v : Work
      v = counted st r w

      sep : OutMem
      sep = separator_m st q r (v, m)

      go : (b : Bool) → leb (record_size r) capacity ≡ b → let o = cond {A = Out} b (r, w) (separator st q r v) in
          o.1.full ≡ false → Done (whole c o.0) o.1
          (cond b (put_mem q (last_settled c) (last_holder c) r m) (put_mem q (last_settled c) (last_holder c) sep.0 sep.1.1))
      go true z full = finish c old r w m able.fits (ready full)
      go false z full =
          let f = (split_able st range q r v able (leb-false (record_size r) capacity z)).fits in
          let k = step_separator st q (elsewhere st c) r (v, m) f
          (λ z. record { tally = (ready z).now.tally; free = (ready z).now.free; loose = (ready z).now.loose }) full in
          let a = ready k.was in
          finish c old sep.0 sep.1.0 sep.1.1 f (record {
            around = around_agree st m sep.1.1 c old (λ p z. k.frame p (omega (arith, beyond_own st c p))) a.around;
            now = k.now;
            settings = k.frame 0 (omega arith) ∙ a.settings;
          })

  stays_done : (c : Chain) (old r : Row) (w : Work) (m : Mem) → Ranges st → Grows c old (r, w) → (w.full ≡ false → Ready c old r w m)
      → last_settled c || leb (record_size r) capacity ≡ true → (rise st c (r, w)).1.full ≡ false
      → Done (rise st c (r, w)).0 (rise st c (r, w)).1 (rise_mem st c r w m)
  stays_done c old r w m range g ready e full =
      let y = rise_stays st c old (r, w) g.fits e in
      done_by (sym y) (sym (mem_stays st c r w m e))
      (kept_done c old r w m range (grows_splits st range c old (r, w) g).1 ready (subst (λ (o : Out). o.1.full ≡ false) y full))

  -- An unsettled record leaves its page, and the record above is ready; its page is as it was.
  pub goes_up : (c : Chain) (s : Position) (q : ℕ) (b : Bool) (rest old r : Row) (w : Work) (m : Mem) → (w.full ≡ false → Ready (below c s q b rest) old r w m)
      → let sep = separator_m st q r (freed st q (counted st r w), set_mem q blank m) in
      Fits sep.0 → sep.1.0.full ≡ false
      → Ready c (fill s (rec q b old rest)) (fill s (sep.0 ⊹ rest)) sep.1.0 sep.1.1 ×
      (sep.1.1 (last_page c) ≡ record_page (last_held c (fill s (rec q b old rest))))
  goes_up c s q b rest old r w m ready f full =
      let c' = below c s q b rest in
      let m₁ = set_mem q blank m in
      let w₁ = freed st q (counted st r w) in
      let sep = separator_m st q r (w₁, m₁) in
      let clear : (p : ℕ) → bit (eqb p q) ≡ 0 → m₁ p ≡ m p = λ p z. set_other q p blank m z in
      let now₁ : w.full ≡ false → Now (beyond st c') r w₁ m₁ =
      λ z.
      let n = (ready z).now in
      record {
        tally = tally_freed st (beyond st c') (λ p. count p r) q (counted st r w) (λ _ p. omega (arith, n.tally p)) z;
        free = λ p y. cleared p q w.used m n.free y;
        loose = loose_agree m m₁ r (λ p y. clear p (omega (arith, n.tally p, bit_le (w.used p)))) n.loose;
      } in
      let k = step_separator st q (beyond st c') r (w₁, m₁) f now₁ full in
      let a = ready k.was in
      let t = a.now.tally in
      let same : (p : ℕ) → 0 < beyond st c' p → sep.1.1 p ≡ m p = λ p z. k.frame p z ∙ clear p (omega (arith, t p, bit_le (w.used p))) in
      let around = around_agree st m sep.1.1 c' old same a.around in (
        record {
          around = around.2;
          now = now_in (elsewhere st c) s sep.0 rest sep.1.0 sep.1.1 k.now (stored_loose sep.1.1 (last_page c) (fill s rest) around.0);
          settings = same 0 (omega arith) ∙ a.settings;
        },
        around.1,
      )

  -- Growth from the last record of a chain upwards.
  pub rise_done : (c : Chain) (old r : Row) (w : Work) (m : Mem) → Ranges st → Grows c old (r, w) → (w.full ≡ false → Ready c old r w m)
      → (rise st c (r, w)).1.full ≡ false → Done (rise st c (r, w)).0 (rise st c (r, w)).1 (rise_mem st c r w m)
  rise_done top old r w m range g ready full = stays_done top old r w m range g ready refl full
  rise_done (below c s q b rest) old r w m range g ready full = go (b || leb (record_size r) capacity) refl (rise_done c)
    where
      up : Out
      up = on_row (λ x. fill s (x ⊹ rest)) (separator st q r (freed st q (counted st r w)))

      mem : Mem
      mem = separator_mem st q r (freed st q (counted st r w)) (set_mem q blank m)

      go : (x : Bool) → b || leb (record_size r) capacity ≡ x
          → ((old r : Row) (w : Work) (m : Mem) → Ranges st → Grows c old (r, w) → (w.full ≡ false → Ready c old r w m)
          → (rise st c (r, w)).1.full ≡ false → Done (rise st c (r, w)).0 (rise st c (r, w)).1 (rise_mem st c r w m))
          → let o = rise st (below c s q b rest) (r, w) in
          Done o.0 o.1 (rise_mem st (below c s q b rest) r w m)
      go true e ih = stays_done (below c s q b rest) old r w m range g ready e full
      go false e ih =
          let k = (grows_splits st range (below c s q b rest) old (r, w) g).1 in
          let y = rise_goes st c s q b rest r w e in
          let f = (split_able st range q r (freed st q (counted st r w)) k (leb-false (record_size r) capacity (or_right b _ e))).fits in
          done_by (sym y) (sym (mem_goes st c s q b rest r w e m))
          (ih (fill s (rec q b old rest)) up.0 up.1 mem range (grows_goes st range c s q b rest old (r, w) e g)
          (λ z. (goes_up c s q b rest old r w m ready f z).0) (subst (λ (o : Out). o.1.full ≡ false) y full))

-- ── the new node ──

module _ (st : Config) (x : New) (parent : Head) (page : ℕ) (s : Position) (rest : Row) where
  -- The new node at a position, itself or in a record of its own.
  abbrev pub place_m : Work → Mem → OutMem
  place_m w m = let o = place st x parent page rest w in (fill s o.0, (o.1, place_mem st x parent page w m))

  pub step_place : (e : ℕ → ℕ) (w : Work) (m : Mem) → Fits (place_m w m).0 → StepKeeps e (fill s rest) (w, m) (place_m w m)
  step_place e w m = go (apart st parent x.head) (eqb x.kind 1)
    where
      q : ℕ
      q = free_from st st.pages w.used page

      new : Bool → Row → Row
      new k rest = cond k (agg x.head nil rest) (lit x.head x.content rest)

      out : Bool → Bool → Out
      out a k = cond {A = Out} a (rec q true (new k nil) rest, taken st q w) (new k rest, w)

      -- The new node holds no record.
      bare : (k : Bool) → (w.full ≡ false → Now e (fill s rest) w m) → w.full ≡ false → Now (λ p. e p + count p (fill s rest)) (new k nil) w m
      bare true now z = let n = now z in record { tally = λ p. omega (arith, n.tally p); free = n.free; loose = (tt, tt) }
      bare false now z = let n = now z in record { tally = λ p. omega (arith, n.tally p); free = n.free; loose = tt }

      put : (y : OutMem) → (w.full ≡ false → Now e (fill s rest) w m) → StepLeaves (λ p. e p + count p (fill s rest)) (w, m) y
          → StepLeaves e (w, m) (fill s (y.0 ⊹ rest), y.1)
      put y now l = record {
        was = l.was;
        now = now_in e s y.0 rest y.1.0 y.1.1 l.now
            (loose_agree m y.1.1 (fill s rest) (λ p z. l.frame p (omega arith)) (now l.was).loose);
        frame = λ p z. l.frame p (omega arith);
      }

      go : (a k : Bool) → Fits (fill s (out a k).0)
          → StepKeeps e (fill s rest) (w, m) (fill s (out a k).0, ((out a k).1, cond a (put_mem q true page (new k nil) m) m))
      go true k f now full =
          put (rec q true (new k nil) nil, (taken st q w, put_mem q true page (new k nil) m)) now
          (step_own st page _ true page (new k nil) w m (fits_fill s (rec q true (new k nil) rest) f).1 (bare k now) full)
      go false true f now full = put (new true nil, (w, m)) now (stay _ (new true nil) (w, m) (bare true now) full)
      go false false f now full = put (new false nil, (w, m)) now (stay _ (new false nil) (w, m) (bare false now) full)

-- ── an insert ──

module _ (st : Config) (root : Row) (v : Valid st root) (m : Mem) (stored : Stored m 0 (store root))
    (free : (q : ℕ) → (at_rest st root).used q ≡ false → m q ≡ blank) where
  pub at_rest_lem : (c : Chain) (old : Row) → whole c old ≡ root → Ready st (m 0) c old old (at_rest st root) m
  at_rest_lem c old e =
      let z = disassemble m c old (subst (λ (r : Row). Stored m 0 (store r)) (sym e) stored) in
      record {
        around = z.0;
        now = record {
          tally = λ q. omega (arith, count_chain q c old, ap (count q) e, tally_rest st root v.placed refl q);
          free = free;
          loose = stored_loose m (last_page c) old z.2;
        };
        settings = refl;
      }

  -- The new node at a position of the last record of a chain: the record is ready, and its page is as it was.
  pub ready_place : (c : Chain) (s : Position) (rest : Row) → whole c (fill s rest) ≡ root → (x : New) (parent : Head)
      → let o = place_m st x parent (last_page c) s rest (at_rest st root) m in
      Fits o.0 → o.1.0.full ≡ false → Ready st (m 0) c (fill s rest) o.0 o.1.0 o.1.1 × (o.1.1 (last_page c) ≡ m (last_page c))
  ready_place c s rest e x parent f full =
      let w = at_rest st root in
      let o = place_m st x parent (last_page c) s rest w m in
      let r = at_rest_lem c (fill s rest) e in
      let k = step_place st x parent (last_page c) s rest (elsewhere st c) w m f (λ _. r.now) full in (
        record {
          around = around_agree st m o.1.1 c (fill s rest) (λ q y. k.frame q (omega (arith, beyond_own st c q))) r.around;
          now = k.now;
          settings = k.frame 0 (omega arith) ∙ r.settings;
        },
        k.frame (last_page c) (omega (arith, self (last_page c), beyond_own st c (last_page c))),
      )

  -- The new node at a position of the last record of a chain, and growth from there upwards.
  pub insert_kept : (c : Chain) (s : Position) (rest : Row) → whole c (fill s rest) ≡ root → (x : New) (parent : Head)
      → let o = place_m st x parent (last_page c) s rest (at_rest st root) m in
      let u = rise st c (o.0, o.1.0) in
      Grows c (fill s rest) (o.0, o.1.0) → u.1.full ≡ false → Done st (m 0) u.0 u.1 (rise_mem st c o.0 o.1.0 o.1.1)
  insert_kept c s rest e x parent g full =
      let o = place_m st x parent (last_page c) s rest (at_rest st root) m in
      rise_done st (m 0) c (fill s rest) o.0 o.1.0 o.1.1 v.ranges g (λ z. (ready_place c s rest e x parent g.grew.fits z).0) full
