-- The laws of a memory's writes: which pages they leave alone, and how a record and its back links make a row stand.
use Rattle.std.specs.Prelude.{◌≡◌, refl, Bool, true, false, cond, List, ◌∷◌, ◌++◌, ℕ, ◌+◌, ◌-◌, ◌≤◌, ◌<◌, length, drop, replicate, eqb}
use Rattle.std.proofs.Common.{sym, ap, ap₂, ◌∙◌, append_assoc, arith, eq-eqb, length-append, take_at, drop_at}
use Rattle.std.proofs.lemmas.List.{length-replicate}
use Rattle.model.specs.Limits.{capacity}
use Rattle.model.specs.Row.{Row, nil, agg, lit, rec, ◌⊹◌, record_size, record_bytes, two, record_page, count, record_on}
use Rattle.theory_rows.specs.Fits.{Fits}
use Rattle.theory_rows.specs.Image.{Stored, length_record}
use Rattle.theory_rows.specs.Pages.{bit}
use Rattle.theory_decoding.specs.Decode.{stored_same}
use Rattle.theory_rows.specs.Laws.{Parted}
use Rattle.theory_page_memory.specs.Memory.{Mem, set_mem, relink, link_mem, put_mem}

-- ── what holds of each proxy that stands in the row itself ──

abbrev pub All : (P : ℕ → Bool → Row → Type 0) → Row → Type 0
All P nil = Unit {0}
All P (agg h cs rest) = All P cs × All P rest
All P (lit h c rest) = All P rest
All P (rec p s r rest) = P p s r × All P rest

module _ (P : ℕ → Bool → Row → Type 0) where
  all-⊹ : (a b : Row) → All P a → All P b → All P (a ⊹ b)
  all-⊹ nil b k l = l
  all-⊹ (agg h cs rest) b k l = (k.0, all-⊹ rest b k.1 l)
  all-⊹ (lit h c rest) b k l = all-⊹ rest b k l
  all-⊹ (rec p s r rest) b k l = (k.0, all-⊹ rest b k.1 l)

  all_parts : (a b : Row) → All P (a ⊹ b) → All P a × All P b
  all_parts nil b k = (tt, k)
  all_parts (agg h cs rest) b k = let z = all_parts rest b k.1 in ((k.0, z.0), z.1)
  all_parts (lit h c rest) b k = all_parts rest b k
  all_parts (rec p s r rest) b k = let z = all_parts rest b k.1 in ((k.0, z.0), z.1)

  pub all_parted : Parted (All P)
  all_parted = record { join = all-⊹; parts = all_parts; children = λ h cs rest k. k.0; anew = λ h cs cs' rest k l. (l, k.1) }

-- Its record stands on its page, with whatever holder, and so does what it holds.
abbrev pub Loose : Mem → Row → Type 0
Loose m = All (λ p s r. ((h : ℕ) × (m p ≡ record_page (record_on p s h r))) × Stored m p r)

pub stored_loose : (m : Mem) (h : ℕ) (r : Row) → Stored m h r → Loose m r
stored_loose m h nil k = tt
stored_loose m h (agg l cs rest) k = (stored_loose m h cs k.0, stored_loose m h rest k.1)
stored_loose m h (lit l c rest) k = stored_loose m h rest k
stored_loose m h (rec p s r rest) k = (((h, k.0), k.1), stored_loose m h rest k.2)

-- ── two rows ──

stored-⊹ : (m : Mem) (h : ℕ) (a b : Row) → Stored m h a → Stored m h b → Stored m h (a ⊹ b)
stored-⊹ m h nil b k l = l
stored-⊹ m h (agg x cs rest) b k l = (k.0, stored-⊹ m h rest b k.1 l)
stored-⊹ m h (lit x c rest) b k l = stored-⊹ m h rest b k l
stored-⊹ m h (rec p s r rest) b k l = (k.0, k.1, stored-⊹ m h rest b k.2 l)

stored_parts : (m : Mem) (h : ℕ) (a b : Row) → Stored m h (a ⊹ b) → Stored m h a × Stored m h b
stored_parts m h nil b k = (tt, k)
stored_parts m h (agg x cs rest) b k = let z = stored_parts m h rest b k.1 in ((k.0, z.0), z.1)
stored_parts m h (lit x c rest) b k = stored_parts m h rest b k
stored_parts m h (rec p s r rest) b k = let z = stored_parts m h rest b k.2 in ((k.0, k.1, z.0), z.1)

pub stored_parted : (m : Mem) (h : ℕ) → Parted (Stored m h)
stored_parted m h = record { join = stored-⊹ m h; parts = stored_parts m h; children = λ x cs rest k. k.0; anew = λ x cs cs' rest k l. (l, k.1) }

-- ── memories that agree on the pages that a row names ──

pub self : (p : ℕ) → bit (eqb p p) ≡ 1
self p = rw (eq-eqb p p refl)

pub loose_agree : (m m' : Mem) (r : Row) → ((p : ℕ) → 0 < count p r → m' p ≡ m p) → Loose m r → Loose m' r
loose_agree m m' nil g k = tt
loose_agree m m' (agg x cs rest) g k =
    (loose_agree m m' cs (λ p z. g p (omega arith)) k.0, loose_agree m m' rest (λ p z. g p (omega arith)) k.1)
loose_agree m m' (lit x c rest) g k = loose_agree m m' rest g k
loose_agree m m' (rec p s r rest) g k = (
  ((k.0.0.0, g p (omega (arith, self p)) ∙ k.0.0.1), stored_same m m' p r (λ p z. g p (omega arith)) k.0.1),
  loose_agree m m' rest (λ p z. g p (omega arith)) k.1,
)

-- ── one page ──

pub set_same : (q : ℕ) (s : List ℕ) (m : Mem) → set_mem q s m q ≡ s
set_same q s m = rw (eq-eqb q q refl)

pub not_bit : (b : Bool) → bit b ≡ 0 → b ≡ false
not_bit true e = absurd (omega arith)
not_bit false e = refl

pub set_other : (q p : ℕ) (s : List ℕ) (m : Mem) → bit (eqb p q) ≡ 0 → set_mem q s m p ≡ m p
set_other q p s m e = rw (not_bit (eqb p q) e)

-- ── back links ──

relink_parts : (a t z : List ℕ) (q : ℕ) → length a ≡ 4084 → length t ≡ 2 → relink q (a ++ (t ++ z)) ≡ a ++ (two q ++ z)
relink_parts a t z q e f =
    let g : length (a ++ t) ≡ 4086 = simp length-append (omega arith) in
    ap₂ (λ (x y : List ℕ). x ++ (two q ++ y)) (take_at a (t ++ z) 4084 e)
    (ap (drop 4086) (sym (append_assoc a t z)) ∙ drop_at (a ++ t) z 4086 g)

-- A record's page with another holder.
pub relink_page : (p : ℕ) (s : Bool) (h q : ℕ) (r : Row) → record_size r ≤ capacity
    → relink q (record_page (record_on p s h r)) ≡ record_page (record_on p s q r)
relink_page p s h q r f =
    let z : List ℕ = replicate (capacity - record_size r) 0 in
    let t : List ℕ = 1 ∷ cond s 1 0 ∷ two (record_size r) in
    let a : List ℕ = record_bytes r ++ (z ++ t) in
    let n : length a ≡ 4084 = simp (length-append, length-replicate, length_record) (omega arith) in
    let e : (x : ℕ) → record_page (record_on p s x r) ≡ a ++ (two x ++ replicate 10 0) = λ x. simp append_assoc in
    ap (relink q) (e h) ∙ relink_parts a (two h) (replicate 10 0) q n refl ∙ sym (e q)

pub link_other : (q : ℕ) (r : Row) (m : Mem) (p : ℕ) → count p r ≡ 0 → link_mem q r m p ≡ m p
unfolding link_mem
link_other q nil m p e = refl
link_other q (agg h cs rest) m p e = link_other q rest (link_mem q cs m) p (omega arith) ∙ link_other q cs m p (omega arith)
link_other q (lit h c rest) m p e = link_other q rest m p e
link_other q (rec k s r rest) m p e = link_other q rest (set_mem k (relink q (m k)) m) p (omega arith) ∙ set_other k p (relink q (m k)) m (omega arith)

-- With its back links the row stands in the record of page q.
pub link_stored : (q : ℕ) (r : Row) (m : Mem) → ((p : ℕ) → count p r ≤ 1) → Fits r → Loose m r → Stored (link_mem q r m) q r
unfolding link_mem
link_stored q nil m d f k = tt
link_stored q (agg h cs rest) m d f k =
    let m₁ = link_mem q cs m in (
      stored_same m₁ (link_mem q rest m₁) q cs (λ p z. link_other q rest m₁ p (omega (arith, d p)))
          (link_stored q cs m (λ p. omega (arith, d p)) f.1 k.0),
      link_stored q rest m₁ (λ p. omega (arith, d p)) f.2 (loose_agree m m₁ rest (λ p z. link_other q cs m p (omega (arith, d p))) k.1),
    )
link_stored q (lit h c rest) m d f k = link_stored q rest m d f.3 k
link_stored q (rec p s r rest) m d f k =
    let v = relink q (m p) in
    let m₁ : Mem = set_mem p v m in
    let once = d p in (
      link_other q rest m₁ p (omega (arith, self p)) ∙ set_same p v m ∙ ap (relink q) k.0.0.1 ∙ relink_page p s k.0.0.0 q r f.0.fits,
      stored_same m (link_mem q rest m₁) p r (λ x z. link_other q rest m₁ x (omega (arith, d x)) ∙ set_other p x v m (omega (arith, d x))) k.0.1,
      link_stored q rest m₁ (λ x. omega (arith, d x)) f.2 (loose_agree m m₁ rest (λ x z. set_other p x v m (omega (arith, d x))) k.1),
    )

-- ── a record ──

module _ (q : ℕ) (s : Bool) (h : ℕ) (r : Row) (m : Mem) where
  abbrev page : List ℕ
  page = record_page (record_on q s h r)

  pub put_other : (p : ℕ) → bit (eqb p q) + count p r ≡ 0 → put_mem q s h r m p ≡ m p
  put_other p e = link_other q r (set_mem q page m) p (omega arith) ∙ set_other q p page m (omega arith)

  pub put_same : count q r ≡ 0 → put_mem q s h r m q ≡ page
  put_same e = link_other q r (set_mem q page m) q e ∙ set_same q page m

  pub put_stored : ((p : ℕ) → bit (eqb p q) + count p r ≤ 1) → Fits r → Loose m r → Stored (put_mem q s h r m) q r
  put_stored d f k =
      link_stored q r (set_mem q page m) (λ p. omega (arith, d p)) f
      (loose_agree m (set_mem q page m) r (λ p z. set_other q p page m (omega (arith, d p))) k)
