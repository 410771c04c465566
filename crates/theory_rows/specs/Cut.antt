-- A split: the choice of the children on its path, and what holds of it because it holds of each group.
use Rattle.std.specs.Prelude.{◌≡◌, Bool, true, cond, not, ◌&&◌, ◌||◌, ℕ, ◌+◌, ◌≤◌, ◌<◌, max, leb, ltb}
use Rattle.std.proofs.Math.Path.{refl, ap}
use Rattle.std.proofs.Common.{sym, subst, ◌∙◌, arith, ltb-true, leb-true, leb-false, le-ltb}
use Rattle.std.proofs.Math.Bool.{false}
use Rattle.std.proofs.lemmas.Bool.{false≢true, not-false}
use Rattle.model.specs.Limits.{capacity, most_node}
use Rattle.model.specs.Row.{Head, Row, nil, agg, lit, rec, ◌⊹◌, size, is_nil, is_agg, lone, lone_rec, base, record_size, Config}
use Rattle.model.specs.Growth.{Cut, at_d, through, separate, grouped, go_on, stops, cut_from, cut_of, split_point}
use Rattle.theory_rows.specs.Fits.{Fits}
use Rattle.theory_rows.specs.Laws.{⊹-assoc, size-⊹, is_nil_nil, not_nil, cond_case}
use Rattle.theory_rows.specs.First.{head_of, size_of, kids_of, rest_of, one_of, size_first, size_one, row_first, by_first}

-- The row that is cut.
abbrev pub cut_row : Cut → Row
cut_row (at_d left right) = left ⊹ right
cut_row (through left h inner right) = left ⊹ agg h (cut_row inner) right

-- ── the groups and the whole ──

-- What is so of two steps, on a row each, is so of one after the other, and of a step on the children of a node.
pub record Joins {S T : Type 0} (R : Row → S → T → Row × S → Row × T → Type 0) : Type 0 where
  pub both : (a b : Row) (s : S) (t : T) (x y : Row × S) (x' y' : Row × T)
      → R a s t x x' → R b x.1 x'.1 y y' → R (a ⊹ b) s t (x.0 ⊹ y.0, y.1) (x'.0 ⊹ y'.0, y'.1)
  pub under : (h : Head) (r : Row) (s : S) (t : T) (x : Row × S) (x' : Row × T)
      → R r s t x x' → R (agg h r nil) s t (agg h x.0 nil, x.1) (agg h x'.0 nil, x'.1)

-- Where what is put for each group is related, so are the two splits.
pub separate_related : {S T : Type 0} (f : Row → S → Row × S) (g : Row → T → Row × T) (R : Row → S → T → Row × S → Row × T → Type 0) → Joins R
    → ((r : Row) (s : S) (t : T) → R r s t (f r s) (g r t)) → (c : Cut) (s : S) (t : T) → R (cut_row c) s t (separate f c s) (separate g c t)
unfolding separate
separate_related f g R j e (at_d left right) s t = j.both left right s t _ _ _ _ (e left s t) (e right (f left s).1 (g left t).1)
separate_related f g R j e (through left h inner right) s t =
    let s₁ = (f left s).1 in
    let t₁ = (g left t).1 in
    let a = separate f inner s₁ in
    let b = separate g inner t₁ in
    j.both left (agg h (cut_row inner) right) s t _ _ _ _ (e left s t)
    (j.both (agg h (cut_row inner) nil) right s₁ t₁ _ _ _ _ (j.under h (cut_row inner) s₁ t₁ a b (separate_related f g R j e inner s₁ t₁))
    (e right a.1 b.1))

-- What is so of a group that stays, and of one that becomes a record, is so of what stands for it.
pub grouped_by : {S : Type 0} (own : Row → S → Row × S) (P : Row × S → Type 0) (g : Row) (s : S) → (is_nil g || lone_rec g ≡ true → P (g, s))
    → (is_nil g || lone_rec g ≡ false → P (own g s)) → P (grouped own g s)
unfolding grouped
grouped_by own P g s = cond_case P (is_nil g || lone_rec g)

-- ── the choice ──

-- The split goes on inside the row's first node: an aggregate that is not d.
abbrev pub goes_into : Config → Row → Bool
goes_into st r = is_agg r && not (stops st (kids_of r))

pub into_agg : (st : Config) (r : Row) → goes_into st r ≡ true → r ≡ agg (head_of r) (kids_of r) (rest_of r)
into_agg st nil e = absurd (false≢true e)
into_agg st (agg h cs rest) e = refl
into_agg st (lit h c rest) e = absurd (false≢true e)
into_agg st (rec q s r rest) e = absurd (false≢true e)

pub into_some : (st : Config) (r : Row) → goes_into st r ≡ true → is_nil (kids_of r) ≡ false
into_some st r e = go (is_agg r) (is_nil (kids_of r)) e
  where
    go : (a b : Bool) → a && not (b || ltb (6 + size (kids_of r)) st.tolerance) ≡ true → b ≡ false
    go true true e = absurd (false≢true e)
    go true false e = refl
    go false b e = absurd (false≢true e)

module _ (st : Config) (p : ℕ) where
  -- The cut at the chosen child, the first node of `row`, at `at`.
  abbrev pub cut_at : (at : ℕ) → (left row : Row) → Cut
  cut_at at left row = cond (goes_into st row) (through left (head_of row) (cut_from st p (at + 6) nil (kids_of row)) (rest_of row)) (at_d left row)

  flip : {A : Type 0} (b : Bool) (x y : A) → cond b x y ≡ cond (not b) y x
  flip true x y = refl
  flip false x y = refl

  -- A later child is chosen, or this one.
  pub cut_step : (at : ℕ) (left row : Row) → is_nil row ≡ false → cut_from st p at left row
      ≡ cond (go_on p at (size_of row) (rest_of row)) (cut_from st p (at + size_of row) (left ⊹ one_of row) (rest_of row)) (cut_at at left row)
  unfolding cut_from
  cut_step at left nil e = absurd (false≢true (sym e))
  cut_step at left (agg h cs rest) e =
      ap (cond (go_on p at (6 + size cs) rest) (cut_from st p (at + (6 + size cs)) (left ⊹ agg h cs nil) rest)) (flip (stops st cs) _ _)
  cut_step at left (lit h c rest) e = refl
  cut_step at left (rec q s r rest) e = refl

  pub cut_row_lem : (row : Row) (at : ℕ) (left : Row) → cut_row (cut_from st p at left row) ≡ left ⊹ row
  unfolding cut_from
  cut_row_lem = by_first (λ row. (at : ℕ) (left : Row) → cut_row (cut_from st p at left row) ≡ left ⊹ row) (λ at left. refl) step
    where
      step : (r : Row) → is_nil r ≡ false → ((at : ℕ) (left : Row) → cut_row (cut_from st p at left (kids_of r)) ≡ left ⊹ kids_of r)
          → ((at : ℕ) (left : Row) → cut_row (cut_from st p at left (rest_of r)) ≡ left ⊹ rest_of r) → (at : ℕ) (left : Row)
          → cut_row (cut_from st p at left r) ≡ left ⊹ r
      step r e kids rest at left =
          ap cut_row (cut_step at left r e)
          ∙ cond_case (λ (c : Cut). cut_row c ≡ left ⊹ r) (go_on p at (size_of r) (rest_of r))
          (λ _. rest (at + size_of r) (left ⊹ one_of r) ∙ ⊹-assoc left (one_of r) (rest_of r) ∙ ap (λ (x : Row). left ⊹ x) (sym (row_first r)))
          (λ _. cond_case (λ (c : Cut). cut_row c ≡ left ⊹ r) (goes_into st r)
          (λ i. ap (λ (x : Row). left ⊹ agg (head_of r) x (rest_of r)) (kids (at + 6) nil) ∙ ap (λ (x : Row). left ⊹ x) (sym (into_agg st r i)))
          (λ _. refl))

  -- On the way to the chosen child of `row`, which starts at `start`: at `at` stands the first node of `from`, and `left` was passed.
  pub record Choosing (start : ℕ) (row : Row) (at : ℕ) (left from : Row) : Type 0 where
    pub parts : row ≡ left ⊹ from
    pub here : at ≡ start + size left
    pub low : at ≤ max p start
    pub some : is_nil from ≡ false
    pub same : cut_from st p start nil row ≡ cut_from st p at left from

  pub choosing : (start : ℕ) (row : Row) → is_nil row ≡ false → Choosing start row start nil row
  choosing start row e = record { parts = refl; here = omega arith; low = omega arith; some = e; same = refl }

  module _ {start : ℕ} {row : Row} {at : ℕ} {left from : Row} (k : Choosing start row at left from) where
    go_on_lem : go_on p at (size_of from) (rest_of from) ≡ true → (is_nil (rest_of from) ≡ false) × (at + size_of from ≤ p)
    go_on_lem e = go (is_nil (rest_of from)) e
      where
        go : (b : Bool) → not b && leb (at + size_of from) p ≡ true → (b ≡ false) × (at + size_of from ≤ p)
        go true e = absurd (false≢true e)
        go false e = (refl, leb-true (at + size_of from) p e)

    pub choose_on : go_on p at (size_of from) (rest_of from) ≡ true → Choosing start row (at + size_of from) (left ⊹ one_of from) (rest_of from)
    choose_on e = record {
      parts = k.parts ∙ ap (λ (x : Row). left ⊹ x) (row_first from) ∙ sym (⊹-assoc left (one_of from) (rest_of from));
      here = omega (arith, k.here, size-⊹ left (one_of from), size_one from);
      low = omega (arith, go_on_lem e);
      some = (go_on_lem e).0;
      same = k.same ∙ cut_step at left from k.some ∙ rw e;
    }

    -- It is chosen,
    pub choose_here : go_on p at (size_of from) (rest_of from) ≡ false → cut_from st p start nil row ≡ cut_at at left from
    choose_here e = k.same ∙ cut_step at left from k.some ∙ rw e

    -- and then ends past p, if the row does.
    pub choose_past : go_on p at (size_of from) (rest_of from) ≡ false → p < start + size row → p < at + size_of from
    choose_past e h = go (is_nil (rest_of from)) refl e
      where
        z : start + size row ≡ at + (size_of from + size (rest_of from))
        z = omega (arith, ap size k.parts, size-⊹ left from, size_first from, k.here)

        go : (b : Bool) → is_nil (rest_of from) ≡ b → not b && leb (at + size_of from) p ≡ false → p < at + size_of from
        go true n e = omega (arith, z, ap size (is_nil_nil (rest_of from) n))
        go false n e = leb-false (at + size_of from) p e

-- ── what step 3 says of a cut ──

-- The cut of a row that starts at `at`: at each level the chosen child starts at or before p, or is the first; it ends past p, if the row does. d is small.
abbrev pub Follows : (p at : ℕ) → Cut → Type 0
Follows p at (at_d left right) =
    (at + size left ≤ max p at) × (is_nil right ≡ false) × (Fits right → size_of right ≤ most_node)
    × (p < at + (size left + size right) → p < at + size left + size_of right)
Follows p at (through left h inner right) =
    let n = 6 + size (cut_row inner) in
    (at + size left ≤ max p at) × (p < at + (size left + (n + size right)) → p < at + size left + n) × Follows p (at + size left + 6) inner

module _ (st : Config) (p : ℕ) (tol : st.tolerance ≤ 512) where
  d_small : (r : Row) → goes_into st r ≡ false → Fits r → size_of r ≤ most_node
  d_small nil e f = omega arith
  d_small (agg h cs rest) e f = go (is_nil cs) refl e
    where
      go : (b : Bool) → is_nil cs ≡ b → not (b || ltb (6 + size cs) st.tolerance) ≡ false → 6 + size cs ≤ most_node
      go true n e = omega (arith, ap size (is_nil_nil cs n))
      go false n e = omega (arith, ltb-true (6 + size cs) st.tolerance (not-false _ e))
  d_small (lit h c rest) e f = omega (arith, f.1)
  d_small (rec q s r rest) e f = omega arith

  pub cut_follows : (start : ℕ) (row : Row) → is_nil row ≡ false → Follows p start (cut_from st p start nil row)
  cut_follows start row e = by_first Followed (λ start row at left k. absurd (false≢true (sym k.some))) step row start row start nil (choosing st p start row e)
    where
      Followed : Row → Type 0
      Followed from = (start : ℕ) (row : Row) (at : ℕ) (left : Row) → Choosing st p start row at left from → Follows p start (cut_from st p at left from)

      step : (r : Row) → is_nil r ≡ false → Followed (kids_of r) → Followed (rest_of r) → Followed r
      step r e kids rest start row at left k =
          let z : size row ≡ size left + (size_of r + size (rest_of r)) = omega (arith, ap size k.parts, size-⊹ left r, size_first r) in
          subst (Follows p start) (sym (cut_step st p at left r e)) (cond_case (Follows p start) (go_on p at (size_of r) (rest_of r))
          (λ g. rest start row (at + size_of r) (left ⊹ one_of r) (choose_on st p k g))
          (λ g. cond_case (Follows p start) (goes_into st r)
          (λ i.
          let n = ap size (cut_row_lem st p (kids_of r) (at + 6) nil) in
          let m = ap size_of (into_agg st r i) in (
            omega (arith, k.here, k.low),
            (λ h. omega (arith, n, m, k.here, choose_past st p k g (omega arith))),
            subst (λ (x : ℕ). Follows p (x + 6) (cut_from st p (at + 6) nil (kids_of r))) k.here
                (kids (at + 6) (kids_of r) (at + 6) nil (choosing st p (at + 6) (kids_of r) (into_some st r i))),
          ))
          (λ i. (omega (arith, k.here, k.low), e, d_small r i, λ h. omega (arith, k.here, choose_past st p k g (omega (arith, size_first r)))))))

-- ── a record ──

-- A record that is too large has a helper, or is one aggregate: what is so of both.
pub by_root : (P : Bool → Row → Type 0) → ((r : Row) → P false r) → ((h : Head) (cs : Row) → capacity < 6 + size cs → P true (agg h cs nil)) → (r : Row) → Fits r
    → capacity < record_size r → P (lone r) r
by_root P f g r = go (lone r) r refl
  where
    go : (b : Bool) (r : Row) → lone r ≡ b → Fits r → capacity < cond b 0 6 + size r → P b r
    go false r e k h = f r
    go true nil e k h = absurd (false≢true e)
    go true (agg l cs rest) e k h =
        let z = is_nil_nil rest e in
        subst (λ (x : Row). P true (agg l cs x)) (sym z) (g l cs (omega (arith, ap size z)))
    go true (lit l c rest) e k h = absurd (omega (arith, ap size (is_nil_nil rest e), k.1))
    go true (rec p s x rest) e k h = absurd (false≢true e)

-- The cut of such an aggregate goes through it.
pub cut_through : (st : Config) → st.tolerance ≤ 512 → (p : ℕ) (h : Head) (cs : Row) → capacity < 6 + size cs
    → cut_from st p 0 nil (agg h cs nil) ≡ through nil h (cut_from st p 6 nil cs) nil
unfolding cut_from
cut_through st tol p h cs big = rw (not_nil cs (omega arith), le-ltb (6 + size cs) st.tolerance (omega arith))

module _ (st : Config) {S : Type 0} (f : Row → S → Row × S) where
  -- Where what is put for each group is related, so are the splits of a record.
  pub split_related : {T : Type 0} (g : Row → T → Row × T) (R : Row → S → T → Row × S → Row × T → Type 0) → Joins R
      → ((r : Row) (s : S) (t : T) → R r s t (f r s) (g r t)) → (r : Row) (s : S) (t : T) → R r s t (separate f (cut_of st r) s) (separate g (cut_of st r) t)
  split_related g R j e r s t =
      subst (λ (x : Row). R x s t (separate f (cut_of st r) s) (separate g (cut_of st r) t)) (cut_row_lem st (split_point st (record_size r)) r (base r) nil)
      (separate_related f g R j e (cut_of st r) s t)

  -- The same of one split,
  pub split_keeps : (R : Row → S → Row × S → Type 0)
      → ((a b : Row) (s : S) (x y : Row × S) → R a s x → R b x.1 y → R (a ⊹ b) s (x.0 ⊹ y.0, y.1))
      → ((h : Head) (r : Row) (s : S) (x : Row × S) → R r s x → R (agg h r nil) s (agg h x.0 nil, x.1))
      → ((r : Row) (s : S) → R r s (f r s)) → (r : Row) (s : S) → R r s (separate f (cut_of st r) s)
  split_keeps R both under each r s =
      split_related (λ r (t : Unit {0}). (r, t)) (λ r s t o u. R r s o)
      (record { both = λ a b s t x y x' y'. both a b s x y; under = λ h r s t x x'. under h r s x }) (λ r s t. each r s) r s tt

  -- and of what is carried along.
  pub split_carries : (Q : S → Type 0) → ((r : Row) (s : S) → Q s → Q (f r s).1) → (r : Row) (s : S) → Q s → Q (separate f (cut_of st r) s).1
  split_carries Q each = split_keeps (λ r s o. Q s → Q o.1) (λ a b s x y i j q. j (i q)) (λ h r s x i. i) each
