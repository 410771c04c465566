-- A split keeps a memory good: the records of the separator stand on their pages, free pages stay blank, and what is elsewhere stays.
use Rattle.std.specs.Prelude.{◌≡◌, Bool, ◌||◌, ℕ, ◌+◌, ◌≤◌, ◌<◌, eqb}
use Rattle.std.proofs.Math.Path.{refl}
use Rattle.std.proofs.Common.{ap, subst, ◌∙◌, true≢false, arith}
use Rattle.std.proofs.Math.Bool.{true, false, cond}
use Rattle.model.specs.Row.{Head, Row, nil, agg, rec, ◌⊹◌, is_nil, lone_rec, count, Config}
use Rattle.model.specs.Growth.{Work, Out, on_row, separate, cut_of, free_from, taken, own_record, grouped, group, separator}
use Rattle.model.specs.Spot.{Position, fill}
use Rattle.theory_growth.specs.Chain.{fill_more, count_refill}
use Rattle.theory_rows.specs.Bound.{fits_parts}
use Rattle.theory_rows.specs.Fits.{Fits}
use Rattle.theory_rows.specs.Pages.{bit, count-⊹, or_left, or_right, free_found, tally_own}
use Rattle.theory_page_memory.specs.Memory.{Mem, WorkMem, OutMem, blank, put_mem, own_mem, group_m, separator_mem, separator_m}
use Rattle.theory_rows.specs.Cut.{split_related, split_keeps, grouped_by}
use Rattle.theory_page_memory.specs.Links.{Loose, not_bit, all_parted, loose_agree, put_other, put_same, put_stored}

-- A row, a work and a memory that go together: `e q` times is page q named elsewhere.
pub record Now (e : ℕ → ℕ) (r : Row) (w : Work) (m : Mem) : Type 0 where
  pub tally : (q : ℕ) → e q + count q r ≡ bit (w.used q)
  pub free : (q : ℕ) → w.used q ≡ false → m q ≡ blank
  pub loose : Loose m r

-- A step from s makes o: pages were left then too, row, work and memory go together, and the pages named elsewhere are as they were.
pub record StepLeaves (e : ℕ → ℕ) (s : WorkMem) (o : OutMem) : Type 0 where
  pub was : s.0.full ≡ false
  pub now : Now e o.0 o.1.0 o.1.1
  pub frame : (q : ℕ) → 0 < e q → o.1.1 q ≡ s.1 q

abbrev pub StepKeeps : (e : ℕ → ℕ) → Row → WorkMem → OutMem → Type 0
StepKeeps e r s o = (s.0.full ≡ false → Now e r s.0 s.1) → o.1.0.full ≡ false → StepLeaves e s o

pub bit_le : (b : Bool) → bit b ≤ 1
bit_le true = omega arith
bit_le false = omega arith

pub bit_false : (b : Bool) → b ≡ false → bit b ≡ 0
bit_false true e = absurd (true≢false e)
bit_false false e = refl

-- Two steps, on a row and on the one behind it.
step_both : (e : ℕ → ℕ) (a b : Row) (s : WorkMem) (x y : OutMem)
    → StepKeeps (λ q. e q + count q b) a s x → StepKeeps (λ q. e q + count q x.0) b x.1 y
    → StepKeeps e (a ⊹ b) s (x.0 ⊹ y.0, y.1)
step_both e a b s x y f g now full =
    let now₁ : s.0.full ≡ false → Now (λ q. e q + count q b) a s.0 s.1 =
    λ z.
    let n = now z in
    record { tally = λ q. omega (arith, n.tally q, count-⊹ q a b); free = n.free; loose = ((all_parted _).parts a b n.loose).0 } in
    let now₂ : x.1.0.full ≡ false → Now (λ q. e q + count q x.0) b x.1.0 x.1.1 =
    λ z.
    let k = f now₁ z in
    record {
      tally = λ q. omega (arith, k.now.tally q);
      free = k.now.free;
      loose = loose_agree s.1 x.1.1 b (λ p c. k.frame p (omega arith)) ((all_parted _).parts a b (now k.was).loose).1;
    } in
    let l = g now₂ full in
    let k = f now₁ l.was in
    record {
      was = k.was;
      now = record {
        tally = λ q. omega (arith, l.now.tally q, count-⊹ q x.0 y.0);
        free = l.now.free;
        loose = (all_parted _).join x.0 y.0
            (loose_agree x.1.1 y.1.1 x.0 (λ p c. l.frame p (omega arith)) k.now.loose) l.now.loose;
      };
      frame = λ q c. l.frame q (omega arith) ∙ k.frame q (omega arith);
    }

-- A step on the children of an aggregate.
step_under : (e : ℕ → ℕ) (h : Head) (r : Row) (s : WorkMem) (x : OutMem) → StepKeeps e r s x → StepKeeps e (agg h r nil) s (agg h x.0 nil, x.1)
step_under e h r s x f now full =
    let k = f (λ z. let n = now z in record { tally = λ q. omega (arith, n.tally q); free = n.free; loose = n.loose.0 }) full in
    record {
      was = k.was;
      now = record { tally = λ q. omega (arith, k.now.tally q); free = k.now.free; loose = (k.now.loose, tt) };
      frame = k.frame;
    }

-- The row at a position, in front of what stands there.
pub now_in : (e : ℕ → ℕ) (s : Position) (x rest : Row) (w : Work) (m : Mem) → Now (λ q. e q + count q (fill s rest)) x w m → Loose m (fill s rest)
    → Now e (fill s (x ⊹ rest)) w m
now_in e s x rest w m n l = record {
  tally = λ q. omega (arith, n.tally q, count_refill q s rest (x ⊹ rest), count-⊹ q x rest);
  free = n.free;
  loose = fill_more (all_parted _) s x rest l n.loose;
}

-- No step.
pub stay : (e : ℕ → ℕ) (r : Row) (s : WorkMem) → StepKeeps e r s (r, s)
stay e r s now full = record { was = full; now = now full; frame = λ q z. refl }

module _ (st : Config) (near : ℕ) where
  -- A row becomes a record on a free page.
  pub step_own : (e : ℕ → ℕ) (s : Bool) (h : ℕ) (g : Row) (w : Work) (m : Mem) → Fits g
      → let q = free_from st st.pages w.used near in StepKeeps e g (w, m) (rec q s g nil, (taken st q w, put_mem q s h g m))
  step_own e s h g w m f now full =
      let q = free_from st st.pages w.used near in
      let was = or_left w.full (eqb q 0) full in
      let n = now was in
      let empty : e q + count q g ≡ 0 = n.tally q ∙ bit_false (w.used q) (free_found st st.pages w.used near (or_right w.full (eqb q 0) full)) in
      let tally : (p : ℕ) → e p + (bit (eqb p q) + count p g + 0) ≡ bit ((taken st q w).used p) =
      tally_own st e near s g nil w (λ full p. omega (arith, n.tally p)) full in
      let one : (p : ℕ) → e p + (bit (eqb p q) + count p g) ≤ 1 = λ p. omega (arith, tally p, bit_le ((taken st q w).used p)) in
      record {
        was = was;
        now = record {
          tally = tally;
          free = λ p z.
              let c : e p + (bit (eqb p q) + count p g + 0) ≡ 0 = tally p ∙ bit_false ((taken st q w).used p) z in
              put_other q s h g m p (omega arith) ∙ n.free p (not_bit (w.used p) (omega (arith, n.tally p)));
          loose = (((h, put_same q s h g m (omega arith)), put_stored q s h g m (λ p. omega (arith, one p)) f n.loose), tt);
        };
        frame = λ p z. put_other q s h g m p (omega (arith, one p));
      }

  -- A group stays, or becomes a record.
  step_group : (r : Row) (s : WorkMem) (e : ℕ → ℕ) → Fits (group_m st near r s).0 → StepKeeps e r s (group_m st near r s)
  step_group r s e =
      grouped_by _ (λ o. Fits o.0 → StepKeeps e r s o) r s (λ _ _. stay e r s) (λ _ f. step_own e false 0 r s.0 s.1 f.1)

  -- Rows and works are the model's.
  pub split_same : (r : Row) (s : WorkMem) → separate (group_m st near) (cut_of st r) s ≡ separator_m st near r s
  unfolding separator separator_mem grouped
  split_same r s = λ n. ((same n).0, ((same n).1, separator_mem st near r s.0 s.1))
    where
      go : (r : Row) (s : WorkMem) (b : Bool) → let o = cond b (r, s) (own_mem st near r s) in (o.0, o.1.0) ≡ cond b (r, s.0) (own_record st near false r nil s.0)
      go r s true = refl
      go r s false = refl

      same : let o = separate (group_m st near) (cut_of st r) s in (o.0, o.1.0) ≡ separate (group st near) (cut_of st r) s.0
      same =
          split_related st (group_m st near) (group st near) (λ r s w o u. s.0 ≡ w → (o.0, o.1.0) ≡ u)
          (record {
            both = λ a b s w x y x' y' i j e.
                let k = i e in
                let l = j (ap (λ (o : Out). o.1) k) in
                λ n. ((k n).0 ⊹ (l n).0, (l n).1);
            under = λ h r s w x x' i e. ap (on_row (λ r. agg h r nil)) (i e);
          }) (λ r s w e. go r s (is_nil r || lone_rec r) ∙ ap (group st near r) e) r s s.0 refl

  -- A split: if the records that it makes fit, they stand on their pages.
  pub step_separator : (e : ℕ → ℕ) (r : Row) (s : WorkMem) → Fits (separator st near r s.0).0 → StepKeeps e r s (separator_m st near r s)
  step_separator e r s =
      subst (λ (o : OutMem). Fits o.0 → StepKeeps e r s o) (split_same r s)
      (split_keeps st (group_m st near) (λ r s o. (e : ℕ → ℕ) → Fits o.0 → StepKeeps e r s o)
      (λ a b s x y i j e f.
      let fs = fits_parts x.0 y.0 f in
      step_both e a b s x y (i (λ q. e q + count q b) fs.0) (j (λ q. e q + count q x.0) fs.1))
      (λ h r s x i e f. step_under e h r s x (i e f.1)) step_group r s e)
