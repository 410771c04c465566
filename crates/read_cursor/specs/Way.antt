-- A walk over nodes in document order: which of them it writes, and where.
use Rattle.std.specs.Prelude.{◌≡◌, Bool, cond, List, [], ◌∷◌, ◌++◌, ℕ, zero, suc, ◌+◌, ◌-◌, ◌≤◌, ◌<◌, length, set, eqb}
use Rattle.std.proofs.Math.Path.{refl}
use Rattle.std.proofs.Common.{sym, ap, ◌∙◌, add-zero, add-suc, suc-add, arith, length-set, set-set}
use Rattle.std.proofs.Math.Bool.{true, false}
use Rattle.std.proofs.lemmas.List.Edits.{sets}
use Rattle.std.proofs.Math.Seq.{length-sets}
use Rattle.std.proofs.lemmas.List.{set_comm}
use Rattle.std.proofs.Math.Dec.{leb}
use borrow.Author.Tests.{eqb-true, eqb-false, leb-true, leb-false, eq-eqb, ne_eqb, le-leb, lt-leb}

-- A node that a walk meets: where it stands, and its entry of nine numbers.
pub record Met : Type 0 where
  pub pos : ℕ
  pub entry : List ℕ

abbrev pub met : (pos : ℕ) → (entry : List ℕ) → Met
met i e = record { pos = i; entry = e }

-- `at` is 0 while the node is sought with which the entries begin, else one more than the numbers written; `next` is where the first node stands for which
-- there was no room, 0 while there is none; `out` is the buffer.
pub record Way : Type 0 where
  pub at : ℕ
  pub next : ℕ
  pub out : List ℕ

abbrev pub way : (at next : ℕ) → (out : List ℕ) → Way
way k x out = record { at = k; next = x; out = out }

-- The entries begin with the node at the target.
abbrev pub begin : (target at pos : ℕ) → ℕ
begin t k i = cond (eqb k 0) (cond (eqb i t) 1 0) k

-- The entry of the node at i is written where there is room for it; a walk has stopped where there was none.
unfoldable pub told : (at i : ℕ) → (entry : List ℕ) → (next : ℕ) → (out : List ℕ) → Way
told k i e x out =
    let more = cond (leb (k + 8) (length out)) (way (k + 9) x (sets out (k - 1) e)) (way k i out) in
    cond (eqb k 0) (way 0 x out) (cond (eqb x 0) more (way k x out))

abbrev pub visit : (target : ℕ) → Way → Met → Way
visit t w m = told (begin t w.at m.pos) m.pos m.entry w.next w.out

unfoldable pub visits : (target : ℕ) → Way → List Met → Way
visits t w [] = w
visits t w (m ∷ ms) = visits t (visit t w m) ms

pub visits-++ : (t : ℕ) (w : Way) (ms ns : List Met) → visits t w (ms ++ ns) ≡ visits t (visits t w ms) ns
unfolding visits
visits-++ t w [] ns = refl
visits-++ t w (m ∷ ms) ns = visits-++ t (visit t w m) ms ns

-- ── the cases of a node ──

module _ (k i : ℕ) (e : List ℕ) (x : ℕ) (out : List ℕ) where
  pub told_sought : k ≡ 0 → told k i e x out ≡ way 0 x out
  unfolding told
  told_sought z = rw (eq-eqb k 0 z)

  pub told_stopped : 1 ≤ k → (x ≡ 0 → ⊥) → told k i e x out ≡ way k x out
  unfolding told
  told_stopped a z = rw (ne_eqb k 0 (λ y. omega arith), ne_eqb x 0 z)

  pub told_written : 1 ≤ k → x ≡ 0 → k + 8 ≤ length out → told k i e x out ≡ way (k + 9) x (sets out (k - 1) e)
  unfolding told
  told_written a z b = rw (ne_eqb k 0 (λ y. omega arith), eq-eqb x 0 z, le-leb (k + 8) (length out) b)

  pub told_full : 1 ≤ k → x ≡ 0 → length out < k + 8 → told k i e x out ≡ way k i out
  unfolding told
  told_full a z b = rw (ne_eqb k 0 (λ y. omega arith), eq-eqb x 0 z, lt-leb (k + 8) (length out) b)

  -- All of them.
  pub told_case : (P : Way → Type 0) → (k ≡ 0 → P (way 0 x out)) → (1 ≤ k → (x ≡ 0 → ⊥) → P (way k x out))
      → (1 ≤ k → x ≡ 0 → k + 8 ≤ length out → P (way (k + 9) x (sets out (k - 1) e))) → (1 ≤ k → x ≡ 0 → length out < k + 8 → P (way k i out))
      → P (told k i e x out)
  unfolding told
  told_case P a b c d = first (eqb k 0) refl
    where
      third : (u : Bool) → leb (k + 8) (length out) ≡ u → 1 ≤ k → x ≡ 0 → P (cond u (way (k + 9) x (sets out (k - 1) e)) (way k i out))
      third true h l z = c l z (leb-true _ _ h)
      third false h l z = d l z (leb-false _ _ h)

      more : Way
      more = cond (leb (k + 8) (length out)) (way (k + 9) x (sets out (k - 1) e)) (way k i out)

      second : (u : Bool) → eqb x 0 ≡ u → 1 ≤ k → P (cond u more (way k x out))
      second true h l = third (leb (k + 8) (length out)) refl l (eqb-true x 0 h)
      second false h l = b l (eqb-false x 0 h)

      first : (u : Bool) → eqb k 0 ≡ u → P (cond u (way 0 x out) (cond (eqb x 0) more (way k x out)))
      first true h = a (eqb-true k 0 h)
      first false h = let z = eqb-false k 0 h in second (eqb x 0) refl (omega arith)

pub begin_case : (P : ℕ → Type 0) (t k i : ℕ) → (k ≡ 0 → P 0) → (k ≡ 0 → P 1) → (1 ≤ k → P k) → P (begin t k i)
begin_case P t k i a b c = first (eqb k 0) refl
  where
    second : (u : Bool) → k ≡ 0 → P (cond u 1 0)
    second true z = b z
    second false z = a z

    first : (u : Bool) → eqb k 0 ≡ u → P (cond u (cond (eqb i t) 1 0) k)
    first true h = second (eqb i t) (eqb-true k 0 h)
    first false h = let z = eqb-false k 0 h in c (omega arith)

pub begin_on : (t k i : ℕ) → 1 ≤ k → begin t k i ≡ k
begin_on t k i h = rw (ne_eqb k 0 (λ z. omega arith))

-- ── what a walk keeps ──

-- No more is written than the buffer takes, and what is found is not lost; a walk that has stopped has begun.
pub record Keeps (w v : Way) : Type 0 where
  pub low : v.at ≤ length v.out + 1
  pub long : length v.out ≡ length w.out
  pub on : w.at ≤ v.at
  pub begun : (v.next ≡ 0 → ⊥) → 1 ≤ v.at

-- What a walk may start with.
pub record Fair (w : Way) : Type 0 where
  pub low : w.at ≤ length w.out + 1
  pub begun : (w.next ≡ 0 → ⊥) → 1 ≤ w.at

abbrev pub kept_fair : {w v : Way} → Keeps w v → Fair v
kept_fair k = record { low = k.low; begun = k.begun }

told_keeps : (k i : ℕ) (e : List ℕ) (x : ℕ) (out : List ℕ) → k ≤ length out + 1 → ((x ≡ 0 → ⊥) → 1 ≤ k) → Keeps (way k x out) (told k i e x out)
told_keeps k i e x out h b =
    told_case k i e x out (Keeps (way k x out))
    (λ z. record { low = omega arith; long = refl; on = omega arith; begun = λ y. omega (arith, b y) })
    (λ a z. record { low = h; long = refl; on = omega arith; begun = λ y. a })
    (λ a z r. record { low = omega (arith, length-sets out (k - 1) e); long = length-sets out (k - 1) e; on = omega arith; begun = λ y. omega arith })
    (λ a z r. record { low = h; long = refl; on = omega arith; begun = λ y. a })

pub visit_keeps : (t : ℕ) (w : Way) (m : Met) → Fair w → Keeps w (visit t w m)
visit_keeps t w m h =
    begin_case (λ (k : ℕ). Keeps w (told k m.pos m.entry w.next w.out)) t w.at m.pos
    (λ z. from 0 (omega arith) (omega arith) (λ y. omega (arith, h.begun y)))
    (λ z. from 1 (omega arith) (omega arith) (λ y. omega arith))
    (λ a. from w.at (omega arith) h.low h.begun)
  where
    from : (k : ℕ) → w.at ≤ k → k ≤ length w.out + 1 → ((w.next ≡ 0 → ⊥) → 1 ≤ k) → Keeps w (told k m.pos m.entry w.next w.out)
    from k a b c =
        let s = told_keeps k m.pos m.entry w.next w.out b c in
        record { low = s.low; long = s.long; on = omega (arith, s.on); begun = s.begun }

pub visits_keeps : (t : ℕ) (w : Way) (ms : List Met) → Fair w → Keeps w (visits t w ms)
unfolding visits
visits_keeps t w [] h = record { low = h.low; long = refl; on = omega arith; begun = h.begun }
visits_keeps t w (m ∷ ms) h =
    let a = visit_keeps t w m h in
    let b = visits_keeps t (visit t w m) ms (kept_fair a) in
    record { low = b.low; long = b.long ∙ a.long; on = omega (arith, a.on, b.on); begun = b.begun }

-- A walk that has stopped leaves all as it is.
pub visits_stopped : (t : ℕ) (w : Way) (ms : List Met) → 1 ≤ w.at → (w.next ≡ 0 → ⊥) → visits t w ms ≡ w
unfolding visits
visits_stopped t w [] a b = refl
visits_stopped t w (m ∷ ms) a b =
    let e : visit t w m ≡ w =
    ap (λ (k : ℕ). told k m.pos m.entry w.next w.out) (begin_on t w.at m.pos a)
    ∙ told_stopped w.at m.pos m.entry w.next w.out a b in
    ap (λ (v : Way). visits t v ms) e ∙ visits_stopped t w ms a b

-- ── a number written later ──

sets_set : (e l : List ℕ) (i j v : ℕ) → j < i → sets (set l j v) i e ≡ set (sets l i e) j v
sets_set [] l i j v h = refl
sets_set (x ∷ e) l i j v h = ap (λ (m : List ℕ). sets m (suc i) e) (set_comm l j i v x (λ z. omega arith)) ∙ sets_set e (set l i x) (suc i) j v (omega arith)

-- A number of an entry that was written is as one of an entry to be written.
sets_inner : (e l : List ℕ) (i j v : ℕ) → j < length e → set (sets l i e) (i + j) v ≡ sets l i (set e j v)
sets_inner [] l i j v h = absurd (omega arith)
sets_inner (x ∷ e) l i zero v h =
    ap (λ (n : ℕ). set (sets (set l i x) (suc i) e) n v) (add-zero i) ∙ sym (sets_set e (set l i x) (suc i) i v (omega arith))
    ∙ ap (λ (m : List ℕ). sets m (suc i) e) (set-set l i x v)
sets_inner (x ∷ e) l i (suc j) v h =
    ap (λ (n : ℕ). set (sets (set l i x) (suc i) e) n v) (add-suc i j ∙ sym (suc-add i j)) ∙ sets_inner e (set l i x) (suc i) j v (omega arith)

-- A number before those that are still to be written.
abbrev pub put : (j v : ℕ) → Way → Way
put j v w = way w.at w.next (set w.out j v)

told_put : (k i j v : ℕ) (e : List ℕ) (x : ℕ) (out : List ℕ) → j + 1 < k → told k i e x (set out j v) ≡ put j v (told k i e x out)
unfolding told
told_put k i j v e x out h =
    let z : eqb k 0 ≡ false = ne_eqb k 0 (λ y. omega arith) in
    rw (z, length-set out j v) (go (eqb x 0) (leb (k + 8) (length out)))
  where
    go : (a b : Bool)
        → cond a (cond b (way (k + 9) x (sets (set out j v) (k - 1) e)) (way k i (set out j v))) (way k x (set out j v))
        ≡ put j v (cond a (cond b (way (k + 9) x (sets out (k - 1) e)) (way k i out)) (way k x out))
    go true true = ap (way (k + 9) x) (sets_set e out (k - 1) j v (omega arith))
    go true false = refl
    go false b = refl

visits_put : (t j v : ℕ) (w : Way) (ms : List Met) → j + 1 < w.at → Fair w → visits t (put j v w) ms ≡ put j v (visits t w ms)
unfolding visits
visits_put t j v w [] h l = refl
visits_put t j v w (m ∷ ms) h l =
    let k : begin t w.at m.pos ≡ w.at = begin_on t w.at m.pos (omega arith) in
    let s = visit_keeps t w m l in
    let e : visit t (put j v w) m ≡ put j v (visit t w m) = rw k (told_put w.at m.pos j v m.entry w.next w.out h) in
    ap (λ (x : Way). visits t x ms) e ∙ visits_put t j v (visit t w m) ms (omega (arith, s.on)) (kept_fair s)

-- The number of children, written into the entry of an aggregate once they are counted; 0: there is no entry.
abbrev pub patch : (here n : ℕ) → Way → Way
patch here n w = cond (eqb here 0) w (put (here + 5) n w)

-- An aggregate's entry with its children counted at first, or later: where it is not written, or there was room for it.
pub visits_patch : (t k i n : ℕ) (e : List ℕ) (x : ℕ) (out : List ℕ) (ms : List Met) → length e ≡ 9 → k ≤ length out + 1 → x ≡ 0 → (1 ≤ k → k + 8 ≤ length out)
    → visits t (told k i (set e 6 n) x out) ms ≡ patch k n (visits t (told k i e x out) ms)
visits_patch t k i n e x out ms nine low calm room = go (eqb k 0) refl
  where
    go : (u : Bool) → eqb k 0 ≡ u
        → visits t (told k i (set e 6 n) x out) ms ≡ cond u (visits t (told k i e x out) ms) (put (k + 5) n (visits t (told k i e x out) ms))
    go true z =
        let y = eqb-true k 0 z in
        ap (λ (w : Way). visits t w ms) (told_sought k i (set e 6 n) x out y ∙ sym (told_sought k i e x out y))
    go false z =
        let a : 1 ≤ k = let y = eqb-false k 0 z in omega arith in
        let w = way (k + 9) x (sets out (k - 1) e) in
        let q : k - 1 + 6 ≡ k + 5 = omega arith in
        let i₁ : sets out (k - 1) (set e 6 n) ≡ set (sets out (k - 1) e) (k + 5) n =
        sym (sets_inner e out (k - 1) 6 n (omega arith)) ∙ ap (λ (m : ℕ). set (sets out (k - 1) e) m n) q in
        let b : told k i (set e 6 n) x out ≡ put (k + 5) n w = told_written k i (set e 6 n) x out a calm (room a) ∙ ap (way (k + 9) x) i₁ in
        let c : told k i e x out ≡ w = told_written k i e x out a calm (room a) in
        let fair : Fair w = record { low = omega (arith, room a, length-sets out (k - 1) e); begun = λ y. omega arith } in
        rw (b, c) (visits_put t (k + 5) n w ms (omega arith) fair)

-- ── the stores ──

-- Nine numbers, one after another.
pub nine_sets : (a b c d e f g h i j : ℕ) (l : List ℕ)
    → set (set (set (set (set (set (set (set (set l a b) (a + 1) c) (a + 2) d) (a + 3) e) (a + 4) f) (a + 5) g) (a + 6) h) (a + 7) i) (a + 8) j
    ≡ sets l a (b ∷ c ∷ d ∷ e ∷ f ∷ g ∷ h ∷ i ∷ j ∷ [])
nine_sets a b c d e f g h i j l =
    let s₁ : a + 1 ≡ suc a = omega arith in
    let s₂ : a + 2 ≡ suc (suc a) = omega arith in
    let s₃ : a + 3 ≡ suc (suc (suc a)) = omega arith in
    let s₄ : a + 4 ≡ suc (suc (suc (suc a))) = omega arith in
    let s₅ : a + 5 ≡ suc (suc (suc (suc (suc a)))) = omega arith in
    let s₆ : a + 6 ≡ suc (suc (suc (suc (suc (suc a))))) = omega arith in
    let s₇ : a + 7 ≡ suc (suc (suc (suc (suc (suc (suc a)))))) = omega arith in
    let s₈ : a + 8 ≡ suc (suc (suc (suc (suc (suc (suc (suc a))))))) = omega arith in
    λ k. set (set (set (set (set (set (set (set (set l a b) (s₁ k) c) (s₂ k) d) (s₃ k) e) (s₄ k) f) (s₅ k) g) (s₆ k) h) (s₇ k) i) (s₈ k) j
