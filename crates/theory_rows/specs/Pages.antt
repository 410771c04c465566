-- Growth names each page at most one time: what it carries along as used is what the rows name.
use Rattle.std.specs.Prelude.{◌≡◌, Bool, ◌||◌, leb, ltb, eqb}
use Rattle.std.proofs.Math.Path.{refl}
use Rattle.std.proofs.Common.{ap, ◌∙◌, true≢false, arith, eqb-true, lt-ltb}
use Rattle.std.proofs.Math.Bool.{true, false, cond}
use Prim.Native.Nat.{ℕ, zero, suc, ◌+◌, ◌≤◌}
use Rattle.model.specs.Limits.{capacity}
use Rattle.model.specs.Row.{Head, Row, nil, agg, lit, rec, ◌⊹◌, record_size, count, outside, Config}
use Rattle.model.specs.Tree.{New}
use Rattle.model.specs.Growth.{Work, Out, free_from, taken, own_record, group, separator, kept, close, counted, freed, as_row, place, apart, at_rest}
use Rattle.theory_rows.specs.Laws.{cond_case}
use Rattle.theory_rows.specs.Cut.{split_keeps, grouped_by}

pub count-⊹ : (q : ℕ) (a b : Row) → count q (a ⊹ b) ≡ count q a + count q b
count-⊹ q nil b = omega arith
count-⊹ q (agg l cs rest) b = rw (count-⊹ q rest b) (omega arith)
count-⊹ q (lit l c rest) b = count-⊹ q rest b
count-⊹ q (rec p s r rest) b = rw (count-⊹ q rest b) (omega arith)

abbrev pub bit : Bool → ℕ
bit b = cond b 1 0

-- Unless growth ran out of pages, a page is used exactly if it is named: `n q` times in the rows at hand, `e q` times elsewhere.
abbrev pub Tally : (e n : ℕ → ℕ) → Work → Type 0
Tally e n w = w.full ≡ false → (q : ℕ) → e q + n q ≡ bit (w.used q)

abbrev pub names : Row → ℕ → ℕ
names r q = count q r

pub or_left : (a b : Bool) → a || b ≡ false → a ≡ false
or_left true b e = absurd (true≢false e)
or_left false b e = refl

pub or_right : (a b : Bool) → a || b ≡ false → b ≡ false
or_right true b e = absurd (true≢false e)
or_right false b e = e

module _ (st : Config) where
  -- a page that is found is free
  pub free_found : (tries : ℕ) (used : ℕ → Bool) (q : ℕ) → eqb (free_from st tries used q) 0 ≡ false → used (free_from st tries used q) ≡ false
  unfolding free_from
  free_found zero used q e = absurd (true≢false e)
  free_found (suc k) used q h = go (used q) refl (free_found k used (cond (ltb (suc q) st.pages) (suc q) 2)) h
    where
      r : ℕ
      r = free_from st k used (cond (ltb (suc q) st.pages) (suc q) 2)

      go : (b : Bool) → used q ≡ b → (eqb r 0 ≡ false → used r ≡ false) → eqb (cond b r q) 0 ≡ false → used (cond b r q) ≡ false
      go true e ih h = ih h
      go false e ih h = e

  tally_taken : (e n : ℕ → ℕ) (p : ℕ) (w : Work) → Tally e n w → (eqb p 0 ≡ false → w.used p ≡ false)
      → Tally e (λ q. cond (eqb q p) 1 0 + n q) (taken st p w)
  tally_taken e n p w t free full q = go (eqb q p) refl
    where
      go : (b : Bool) → eqb q p ≡ b → e q + (cond b 1 0 + n q) ≡ bit (cond b true (w.used q))
      go true h = omega (arith, t (or_left w.full (eqb p 0) full) q, ap bit (ap w.used (eqb-true q p h) ∙ free (or_right w.full (eqb p 0) full)))
      go false h = omega (arith, t (or_left w.full (eqb p 0) full) q)

  pub tally_freed : (e n : ℕ → ℕ) (p : ℕ) (w : Work) → Tally e (λ q. cond (eqb q p) 1 0 + n q) w → Tally e n (freed st p w)
  tally_freed e n p w t full q = go (eqb q p) (t full q)
    where
      go : (b : Bool) → e q + (cond b 1 0 + n q) ≡ bit (w.used q) → e q + n q ≡ bit (cond b false (w.used q))
      go true h = omega (arith, h, cond_case (λ m. m ≤ 1) (w.used q) {x = 1} {y = 0} (λ _. omega arith) (λ _. omega arith))
      go false h = omega (arith, h)

  pub tally_own : (e : ℕ → ℕ) (near : ℕ) (s : Bool) (r rest : Row) (w : Work) → Tally e (λ q. count q r + count q rest) w
      → Tally e (names (own_record st near s r rest w).0) (own_record st near s r rest w).1
  tally_own e near s r rest w t full q =
      omega (arith, tally_taken e (λ q. count q r + count q rest) (free_from st st.pages w.used near) w t (free_found st.pages w.used near) full q)

  abbrev pub Tallies : (ℕ → ℕ) → Out → Type 0
  Tallies e o = Tally e (names o.0) o.1

  tally_separator : (e : ℕ → ℕ) (near : ℕ) (r : Row) (w : Work) → Tally e (names r) w → Tallies e (separator st near r w)
  unfolding separator
  tally_separator e near r w =
      split_keeps st (group st near) (λ r w o. (e : ℕ → ℕ) → Tally e (names r) w → Tallies e o)
      (λ a b w x y i j e t.
      let u = i (λ q. e q + count q b) (λ full q. omega (arith, t full q, count-⊹ q a b)) in
      let v = j (λ q. e q + count q x.0) (λ full q. omega (arith, u full q)) in
      λ full q. omega (arith, v full q, count-⊹ q x.0 y.0))
      (λ h r w x i e t. let u = i e (λ full q. omega (arith, t full q)) in λ full q. omega (arith, u full q))
      (λ r w e t.
      grouped_by _ (Tallies e) r w (λ _. t) (λ _. tally_own e near false r nil w (λ full q. omega (arith, t full q)))) r w e

  pub tally_kept : (e : ℕ → ℕ) (q : ℕ) (o : Out) → Tallies e o → Tallies e (kept st q o)
  unfolding kept
  tally_kept e q o t = cond_case (Tallies e) (leb (record_size o.0) capacity) (λ _. t) (λ _. tally_separator e q o.0 (counted st o.0 o.1) t)

  -- e counts the record's own page, which its proxy names
  pub tally_close : (e : ℕ → ℕ) (k : ℕ) (s : Bool) (rest : Row) (o : Out) → Tally e (λ q. cond (eqb q k) 1 0 + (count q o.0 + count q rest)) o.1
      → Tallies e (close st k s rest o)
  unfolding close
  tally_close e k true rest o t =
      let u = tally_kept (λ q. e q + cond (eqb q k) 1 0 + count q rest) k o (λ full q. omega (arith, t full q)) in
      λ full q. omega (arith, u full q)
  tally_close e k false rest o t =
      cond_case (Tallies e) (leb (record_size o.0) capacity)
      (λ _ full q. omega (arith, t full q))
      (λ _.
      let w = freed st k (counted st o.0 o.1) in
      let f = tally_freed e (λ q. count q o.0 + count q rest) k (counted st o.0 o.1) t in
      let u = tally_separator (λ q. e q + count q rest) k o.0 w (λ full q. omega (arith, f full q)) in
      λ full q. omega (arith, u full q, count-⊹ q (separator st k o.0 w).0 rest))

  module _ (x : New) where
    count_as_row : (q : ℕ) (rest : Row) → count q (as_row st x rest) ≡ count q rest
    count_as_row q rest = cond_case (λ r. count q r ≡ count q rest) (eqb x.kind 1) (λ _. omega arith) (λ _. refl)

    pub tally_place : (e : ℕ → ℕ) (l : Head) (page : ℕ) (rest : Row) (w : Work) → Tally e (names rest) w → Tallies e (place st x l page rest w)
    tally_place e l page rest w t =
        cond_case (Tallies e) (apart st l x.head)
        (λ _. tally_own e page true (as_row st x nil) rest w (λ full q. omega (arith, t full q, count_as_row q nil)))
        (λ _ full q. omega (arith, t full q, count_as_row q rest))

  abbrev pub reserved : ℕ → ℕ
  reserved q = bit (outside st.pages q)

  pub tally_rest : (root : Row) → ((q : ℕ) → count q root ≤ cond (outside st.pages q) 0 1) → Tally reserved (names root) (at_rest st root)
  tally_rest root h full q = go (outside st.pages q) (count q root) (h q)
    where
      go : (b : Bool) (n : ℕ) → n ≤ cond b 0 1 → bit b + n ≡ bit (b || ltb 0 n)
      go true n h = omega arith
      go false zero h = refl
      go false (suc n) h = rw (lt-ltb 0 (suc n) (omega arith)) (omega arith)
