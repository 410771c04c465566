-- The walk of a diagnosis with fuel enough: what it comes to does not hang on how much there is.
use Rattle.std.specs.Prelude.{◌≡◌, refl, Bool, not, ◌&&◌, List, ◌∷◌, length, take, drop, ltb, leb, eqb}
use Rattle.std.proofs.Math.Path.{sym}
use Rattle.std.proofs.Common.{ap, ◌∙◌, length-take}
use Prim.Native.Nat.{ℕ, zero, suc, ◌+◌, ◌-◌, ◌*◌, ◌≤◌, ◌<◌}
use native.Mathlib.Omega.{arith}
use Rattle.std.proofs.Math.ListN.{length-drop}
use Rattle.std.proofs.Math.Seq.{length-take-le}
use borrow.Author.Tests.{leb-true, eq-eqb, ne_eqb, not-false}
use Rattle.model.specs.Limits.{page_size, most_levels}
use Rattle.model.specs.Reading.{name_at, used_at}
use Rattle.model.specs.WalkTests.{whole_size, passing_kind, names_of, root_fits, tail_zero, record_of}
use Rattle.model.specs.Calls.Diagnose.{Been, been, Walk, on, stopped, bad_node, contains, Inside, row, stops, record_row, proxy_row, inside, onward, into, row_walk}
use Rattle.theory_rows.specs.Laws.{cond_case}
use Rattle.theory_decoding.specs.Valid.{both as and_both}
use Rattle.theory_growth.specs.Chain.{both as pair}
use Rattle.theory_check.specs.Steps.{named, head_long, size_long}

-- A page that is reached is worth more than the bytes of its record.
abbrev pub enough : (s : List ℕ) → Been → ℕ
enough s b = 4096 * b.left + length s

-- The nodes of a row, each followed by the row that it leads into.
unfoldable pub walk : (img s : List ℕ) → (page holder level : ℕ) → Been → Walk
walk img s page holder level b = row_walk (enough s b) img s page holder level b

-- ── what a node leads into needs less than the node ──

-- At most `most` pages are left there.
abbrev Lower : (need most : ℕ) → Inside → Type 0
Lower n m (row s page holder level b) = (enough s b < n) × (b.left ≤ m)
Lower n m (stops p r) = Unit {0}

record_lower : (img : List ℕ) (ok : Bool) (p level : ℕ) (b : Been) (n m : ℕ) → enough (record_of img p) b < n → b.left ≤ m
    → Lower n m (record_row img ok p level b)
record_lower img ok p level b n m h l =
    cond_case (Lower n m) (not ok) (λ _. tt)
    (λ _. cond_case (Lower n m) (not (tail_zero img p)) (λ _. tt)
    (λ _. cond_case (Lower n m) (eqb (whole_size (record_of img p)) (length (record_of img p))) (λ _. (h, l)) (λ _. tt)))

proxy_lower : (img s : List ℕ) (page level : ℕ) (b : Been) → Lower (4096 * b.left) b.left (proxy_row img s page level b)
proxy_lower img s page level b =
    let p = name_at s 0 in
    let n = 4096 * b.left in
    let fresh = names_of img p page && leb 2 b.left && not (contains b.reached p) in
    cond_case (Lower n b.left) (not (eqb (length s) 8)) (λ _. tt)
    (λ _. cond_case (Lower n b.left) (not fresh) (λ _. tt)
    (λ e.
    let t = and_both (names_of img p page) _ (and_both (names_of img p page && leb 2 b.left) _ (not-false fresh e)).0 in
    let room = leb-true 2 b.left t.1 in
    let used = (named img p page t.0).used in
    let long = length-take (used_at img (page_size * p)) (drop (page_size * p) img) in
    record_lower img (root_fits img p) p level (been (b.left - 1) (p ∷ b.reached)) n b.left (omega arith) (omega arith)))

inside_lower : (img s : List ℕ) (page holder level : ℕ) (b : Been) → Lower (enough s b) b.left (inside img s page holder level b)
unfolding inside
inside_lower img s page holder level b =
    cond_case L (eqb kind 0) (λ _. tt) (λ z.
    let long = head_long s holder z in
    let cut = length-drop 6 s in
    cond_case L (eqb kind 3) (λ _. more (proxy_row img s page level b) (proxy_lower img s page level b))
    (λ _. cond_case L (eqb kind 4) (λ _. (omega arith, omega arith))
    (λ _. cond_case L (ltb most_levels level) (λ _. tt)
    (λ _. cond_case L (eqb kind 2) (λ _. (omega arith, omega arith)) (λ _. (omega arith, omega arith))))))
  where
    kind : ℕ
    kind = passing_kind s holder

    L : Inside → Type 0
    L = Lower (enough s b) b.left

    more : (x : Inside) → Lower (4096 * b.left) b.left x → L x
    more (row t p h l c) k = (omega (arith, k.0), k.1)
    more (stops p r) k = tt

-- ── no more pages are left than there were ──

abbrev Fewer : (most : ℕ) → Walk → Type 0
Fewer m (on b) = b.left ≤ m
Fewer m (stopped p r) = Unit {0}

onward_fewer : (m : ℕ) (w : Walk) (f : Been → Walk) → Fewer m w → ((b : Been) → b.left ≤ m → Fewer m (f b)) → Fewer m (onward w f)
onward_fewer m (on b) f h g = g b h
onward_fewer m (stopped p r) f h g = tt

into_fewer : (n m : ℕ) (x : Inside) (f : List ℕ → (page holder level : ℕ) → Been → Walk) → Lower n m x
    → ((s : List ℕ) (page holder level : ℕ) (b : Been) → Fewer b.left (f s page holder level b)) → Fewer m (into x f)
into_fewer n m (row s page holder level b) f h g = more (f s page holder level b) (g s page holder level b)
  where
    more : (w : Walk) → Fewer b.left w → Fewer m w
    more (on c) k = omega (arith, h.1)
    more (stopped p r) k = tt
into_fewer n m (stops p r) f h g = tt

fuel_fewer : (k : ℕ) (img s : List ℕ) (page holder level : ℕ) (b : Been) → Fewer b.left (row_walk k img s page holder level b)
unfolding row_walk
fuel_fewer zero img s page holder level b = cond_case (Fewer b.left) (eqb (length s) 0) (λ _. omega arith) (λ _. tt)
fuel_fewer (suc k) img s page holder level b =
    let n = whole_size s in
    let x = inside img (take n s) page holder level b in
    cond_case (Fewer b.left) (eqb (length s) 0) (λ _. omega arith)
    (λ _. cond_case (Fewer b.left) (eqb n 0) (λ _. tt)
    (λ _. onward_fewer b.left (into x (row_walk k img)) (row_walk k img (drop n s) page holder level)
    (into_fewer (enough (take n s) b) b.left x (row_walk k img) (inside_lower img (take n s) page holder level b) (fuel_fewer k img))
    (λ c h. below c h (row_walk k img (drop n s) page holder level c) (fuel_fewer k img (drop n s) page holder level c))))
  where
    below : (c : Been) → c.left ≤ b.left → (w : Walk) → Fewer c.left w → Fewer b.left w
    below c h (on d) l = omega arith
    below c h (stopped p r) l = tt

-- ── fuel ──

onward_as : (x y : Walk) (f g : Been → Walk) → x ≡ y → ((b : Been) → x ≡ on b → f b ≡ g b) → onward x f ≡ onward y g
onward_as x y f g e h = go x refl ∙ ap (λ (w : Walk). onward w g) e
  where
    go : (w : Walk) → x ≡ w → onward w f ≡ onward w g
    go (on b) q = h b q
    go (stopped p r) q = refl

into_as : (n m : ℕ) (x : Inside) (f g : List ℕ → (page holder level : ℕ) → Been → Walk) → Lower n m x
    → ((s : List ℕ) (page holder level : ℕ) (b : Been) → enough s b < n → f s page holder level b ≡ g s page holder level b) → into x f ≡ into x g
into_as n m (row s page holder level b) f g h k = k s page holder level b h.0
into_as n m (stops p r) f g h k = refl

module _ (img s : List ℕ) (page holder level : ℕ) (b : Been) where
  fuel_none : (k : ℕ) → length s ≡ 0 → row_walk k img s page holder level b ≡ on b
  unfolding row_walk
  fuel_none zero e = rw (eq-eqb (length s) 0 e)
  fuel_none (suc k) e = rw (eq-eqb (length s) 0 e)

same_fuel : (k j : ℕ) (img s : List ℕ) (page holder level : ℕ) (b : Been) → enough s b ≤ k → enough s b ≤ j
    → row_walk k img s page holder level b ≡ row_walk j img s page holder level b
unfolding row_walk
same_fuel zero j img s page holder level b h i =
    let e : length s ≡ 0 = omega arith in
    rw (fuel_none img s page holder level b zero e, fuel_none img s page holder level b j e)
same_fuel (suc k) zero img s page holder level b h i =
    let e : length s ≡ 0 = omega arith in
    rw (fuel_none img s page holder level b (suc k) e, fuel_none img s page holder level b zero e)
same_fuel (suc k) (suc j) img s page holder level b h i =
    pair (λ (x y : Walk). x ≡ y) (eqb (length s) 0) (λ _. refl) (λ _. pair (λ (x y : Walk). x ≡ y) (eqb (whole_size s) 0) (λ _. refl) (λ z.
    let n = whole_size s in
    let long = size_long s z in
    let front = length-take-le n s long.1 in
    let cut = length-drop n s in
    let x = inside img (take n s) page holder level b in
    onward_as (into x (row_walk k img)) (into x (row_walk j img)) (row_walk k img (drop n s) page holder level) (row_walk j img (drop n s) page holder level)
    (into_as (enough (take n s) b) b.left x (row_walk k img) (row_walk j img) (inside_lower img (take n s) page holder level b)
    (λ t p l v c m. same_fuel k j img t p l v c (omega arith) (omega arith)))
    (λ c e.
    let f = into_fewer (enough (take n s) b) b.left x (row_walk k img) (inside_lower img (take n s) page holder level b) (fuel_fewer k img) in
    let less : c.left ≤ b.left = rw e at f in
    same_fuel k j img (drop n s) page holder level c (omega arith) (omega arith))))

module _ (img s : List ℕ) (page holder level : ℕ) (b : Been) where
  pub walk_fuel : (k : ℕ) → enough s b ≤ k → row_walk k img s page holder level b ≡ walk img s page holder level b
  unfolding walk
  walk_fuel k h = same_fuel k (enough s b) img s page holder level b h (omega arith)

  -- ── a row's first node ──

  pub walk_none : length s ≡ 0 → walk img s page holder level b ≡ on b
  unfolding walk
  walk_none = fuel_none img s page holder level b (enough s b)

  module _ (some : length s ≡ 0 → ⊥) where
    pub walk_bad : whole_size s ≡ 0 → walk img s page holder level b ≡ stopped page bad_node
    unfolding walk row_walk
    walk_bad z =
        let k : enough s b ≡ suc (enough s b - 1) = omega arith in
        rw (k, ne_eqb (length s) 0 some, eq-eqb (whole_size s) 0 z)

    pub walk_more : (whole_size s ≡ 0 → ⊥) → let n = whole_size s in
        walk img s page holder level b ≡ onward (into (inside img (take n s) page holder level b) (walk img)) (walk img (drop n s) page holder level)
    unfolding walk row_walk
    walk_more z =
        let n = whole_size s in
        let k = enough s b in
        let t = size_long s (ne_eqb n 0 z) in
        let front = length-take-le n s t.1 in
        let cut = length-drop n s in
        let x = inside img (take n s) page holder level b in
        sym (walk_fuel (suc k) (omega arith))
        ∙ rw (ne_eqb (length s) 0 some, ne_eqb n 0 z)
        (onward_as (into x (row_walk k img)) (into x (walk img)) (row_walk k img (drop n s) page holder level) (walk img (drop n s) page holder level)
        (into_as (enough (take n s) b) b.left x (row_walk k img) (walk img) (inside_lower img (take n s) page holder level b)
        (λ u p l v c m. same_fuel k (enough u c) img u p l v c (omega arith) (omega arith)))
        (λ c e.
        let f = into_fewer (enough (take n s) b) b.left x (row_walk k img) (inside_lower img (take n s) page holder level b) (fuel_fewer k img) in
        let less : c.left ≤ b.left = rw e at f in
        same_fuel k (enough (drop n s) c) img (drop n s) page holder level c (omega arith) (omega arith)))

-- ── a record ──

pub record_fuel : (k : ℕ) (img : List ℕ) (rootOk : Bool) (p level : ℕ) (b : Been) → enough (record_of img p) b ≤ k
    → into (record_row img rootOk p level b) (row_walk k img) ≡ into (record_row img rootOk p level b) (walk img)
record_fuel k img rootOk p level b h =
    into_as (suc k) b.left (record_row img rootOk p level b) (row_walk k img) (walk img)
    (record_lower img rootOk p level b (suc k) b.left (omega arith) (omega arith)) (λ s q o l c m. walk_fuel img s q o l c k (omega arith))
