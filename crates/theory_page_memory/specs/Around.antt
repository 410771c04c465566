-- The records of a chain: what stands around the last one, and the whole store put together from it.
use Rattle.std.specs.Prelude.{◌≡◌, Bool, true, false, cond, ◌||◌, List, ◌++◌, ℕ, ◌+◌, ◌-◌, ◌≤◌, ◌<◌, replicate, eqb, leb}
use Rattle.std.proofs.Math.Path.{refl, ap}
use Rattle.std.proofs.Common.{sym, ap₂, ◌∙◌, arith, eqb-true, le-leb}
use Rattle.std.proofs.Math.Bool.{or-true}
use Rattle.model.specs.Limits.{capacity}
use Rattle.model.specs.Row.{Row, nil, agg, rec, store, ◌⊹◌, size, lone, record_size, header, bytes, trailer, record_page, count, Config, no_head, record_on}
use Rattle.model.specs.Growth.{Work, Out, on_row, separator, counted, freed, kept, rise}
use Rattle.theory_rows.specs.Fits.{Fits}
use Rattle.theory_rows.specs.Image.{Stored}
use Rattle.theory_rows.specs.Laws.{bytes-⊹, cond_case}
use Rattle.theory_rows.specs.Pages.{bit, reserved}
use Rattle.model.specs.Spot.{Position, here, inside, fill, Chain, top, below, last_page, whole, last_holder}
use Rattle.theory_growth.specs.Chain.{last_settled, fill_more, fill_less, size_fill, chain_fits, lone_inside, proxy_beside, beside, along}
use Rattle.theory_growth.specs.Keeps.{close_stays, close_goes}
use Rattle.theory_page_memory.specs.Memory.{Mem, blank, set_mem, kept_mem, rise_mem, separator_m}
use Rattle.theory_decoding.specs.Decode.{stored_same}
use Rattle.theory_page_memory.specs.Links.{self, stored_parted}

-- ── a proxy ──

-- Another proxy in its place leaves the record's kind of root and its size.
module _ (q k : ℕ) (b c : Bool) (x y rest : Row) where
  pub proxy_lone : (s : Position) → lone (fill s (rec q b x rest)) ≡ lone (fill s (rec k c y rest))
  proxy_lone (here left) = proxy_beside left q b x rest ∙ sym (proxy_beside left k c y rest)
  proxy_lone (inside left h right s) = lone_inside left h right (fill s (rec q b x rest)) (fill s (rec k c y rest))

  pub proxy_long : (s : Position) → size (fill s (rec q b x rest)) ≡ size (fill s (rec k c y rest))
  proxy_long s = omega (arith, size_fill s (rec q b x rest) (rec k c y rest))

-- Its bytes do not tell what it stands for.
module _ (q : ℕ) (b : Bool) (x y rest : Row) where
  same_lone : (s : Position) → lone (fill s (rec q b x rest)) ≡ lone (fill s (rec q b y rest))
  same_lone = proxy_lone q q b b x y rest

  same_long : (s : Position) → size (fill s (rec q b x rest)) ≡ size (fill s (rec q b y rest))
  same_long = proxy_long q q b b x y rest

  proxy_bytes_lem : (s : Position) → bytes (fill s (rec q b x rest)) ≡ bytes (fill s (rec q b y rest))
  proxy_bytes_lem (here left) = bytes-⊹ left (rec q b x rest) ∙ sym (bytes-⊹ left (rec q b y rest))
  proxy_bytes_lem (inside left h right s) =
      bytes-⊹ left (agg h (fill s (rec q b x rest)) right)
      ∙ ap₂ (λ (n : ℕ) (l : List ℕ). bytes left ++ (header 1 h (6 + n) ++ (l ++ bytes right))) (same_long s) (proxy_bytes_lem s)
      ∙ sym (bytes-⊹ left (agg h (fill s (rec q b y rest)) right))

  proxy_size : (s : Position) → record_size (fill s (rec q b x rest)) ≡ record_size (fill s (rec q b y rest))
  proxy_size s = ap₂ (λ (l : Bool) (n : ℕ). cond l 0 6 + n) (same_lone s) (same_long s)

  proxy_page : (p : ℕ) (t : Bool) (h : ℕ) (s : Position)
      → record_page (record_on p t h (fill s (rec q b x rest))) ≡ record_page (record_on p t h (fill s (rec q b y rest)))
  proxy_page p t h s = λ i. page (same_lone s i) (same_long s i) (proxy_bytes_lem s i)
    where
      page : Bool → ℕ → List ℕ → List ℕ
      page l n bs = cond l bs (header 4 no_head (6 + n) ++ bs) ++ replicate (capacity - (cond l 0 6 + n)) 0 ++ trailer 1 (cond t 1 0) (cond l 0 6 + n) h

-- ── around the last record of a chain ──

-- The records above the last one of the chain, which held r, stand on their pages, and so does what they hold besides.
abbrev pub Around : Mem → Chain → Row → Type 0
Around m top r = Unit {0}
Around m (below c s q b rest) r =
    Stored m (last_page c) (fill s rest)
    × (m (last_page c) ≡ record_page (record_on (last_page c) (last_settled c) (last_holder c) (fill s (rec q b r rest))))
    × Around m c (fill s (rec q b r rest))

-- The whole store, if the last record stands with another row.
pub assemble : (m : Mem) (c : Chain) (old r : Row) → Around m c old
    → m (last_page c) ≡ record_page (record_on (last_page c) (last_settled c) (last_holder c) r)
    → Stored m (last_page c) r → Stored m 0 (store (whole c r))
assemble m top old r a e k = (e, k, tt)
assemble m (below c s q b rest) old r a e k =
    assemble m c (fill s (rec q b old rest)) (fill s (rec q b r rest)) a.2
    (a.1 ∙ proxy_page q b old r rest (last_page c) (last_settled c) (last_holder c) s)
    (fill_more (stored_parted m (last_page c)) s (rec q b r nil) rest a.0 (e, k, tt))

pub disassemble : (m : Mem) (c : Chain) (r : Row) → Stored m 0 (store (whole c r))
    → Around m c r × (m (last_page c) ≡ record_page (record_on (last_page c) (last_settled c) (last_holder c) r)) × Stored m (last_page c) r
disassemble m top r k = (tt, k.0, k.1)
disassemble m (below c s q b rest) r k =
    let z = disassemble m c (fill s (rec q b r rest)) k in
    let y = fill_less (stored_parted m (last_page c)) s (rec q b r nil) rest z.2 in
    ((y.0, z.1, z.0), y.1.0, y.1.1)

-- ── the pages that are named around it ──

module _ (st : Config) where
  -- How often page q is named, or is outside, but for what the last record holds,
  abbrev pub elsewhere : Chain → ℕ → ℕ
  elsewhere c q = reserved st q + beside c q + along c q

  -- and but for its page too.
  abbrev pub beyond : Chain → ℕ → ℕ
  beyond top q = 0
  beyond (below c s k b rest) q = elsewhere c q + count q (fill s rest)

  pub beyond_own : (c : Chain) (q : ℕ) → beyond c q + bit (eqb q (last_page c)) ≤ elsewhere c q
  beyond_own top q =
      cond_case (λ (n : ℕ). 0 + n ≤ reserved st q + 0 + 0) (eqb q 1) (λ e. omega (arith, ap (reserved st) (eqb-true q 1 e))) (λ _. omega arith)
  beyond_own (below c s k b rest) q = omega arith

  pub own_first : (c : Chain) → 1 + bit (eqb 0 (last_page c)) ≤ elsewhere c 0
  own_first top = omega arith
  own_first (below c s k b rest) = omega arith

  pub around_agree : (m m' : Mem) (c : Chain) (r : Row) → ((q : ℕ) → 0 < beyond c q → m' q ≡ m q) → Around m c r → Around m' c r
  around_agree m m' top r g a = tt
  around_agree m m' (below c s k b rest) r g a = (
    stored_same m m' (last_page c) (fill s rest) (λ q z. g q (omega arith)) a.0,
    g (last_page c) (omega (arith, self (last_page c), beyond_own c (last_page c))) ∙ a.1,
    around_agree m m' c (fill s (rec k b r rest)) (λ q z. g q (omega (arith, beyond_own c q))) a.2,
  )

  -- ── growth stops, or goes on ──

  kept_low : (q : ℕ) (o : Out) → record_size o.0 ≤ capacity → kept st q o ≡ o
  unfolding kept
  kept_low q o z = rw (le-leb (record_size o.0) capacity z)

  -- Growth changes no record above one that stays on its page, because it is settled or fits.
  pub rise_stays : (c : Chain) (old : Row) (o : Out) → Fits (store (whole c old)) → last_settled c || leb (record_size o.0) capacity ≡ true
      → rise st c o ≡ on_row (whole c) (kept st (last_page c) o)
  unfolding rise
  rise_stays top old o f e = refl
  rise_stays (below c s q b rest) old o f e =
      let up = fill s (rec q b old rest) in
      let u = kept st q o in
      let n : Out = (fill s (rec q b u.0 rest), u.1) in
      let small : record_size n.0 ≤ capacity = omega (arith, proxy_size q b u.0 old rest s, (chain_fits c up f).0.fits) in
      ap (λ (y : Out). rise st c (on_row (fill s) y)) (close_stays st q b rest o e)
      ∙ rise_stays c up n f (ap (λ (x : Bool). last_settled c || x) (le-leb (record_size n.0) capacity small) ∙ or-true (last_settled c))
      ∙ ap (on_row (whole c)) (kept_low (last_page c) n small)

  -- So growth from a record that fits changes nothing else, and takes no page.
  pub rise_fits : (c : Chain) (old : Row) (o : Out) → Fits (store (whole c old)) → record_size o.0 ≤ capacity → rise st c o ≡ on_row (whole c) o
  rise_fits c old o f h =
      rise_stays c old o f (ap (λ (b : Bool). last_settled c || b) (le-leb (record_size o.0) capacity h) ∙ or-true (last_settled c))
      ∙ ap (on_row (whole c)) (kept_low (last_page c) o h)

  pub mem_stays : (c : Chain) (r : Row) (w : Work) (m : Mem) → last_settled c || leb (record_size r) capacity ≡ true
      → rise_mem st c r w m ≡ kept_mem st (last_page c) (last_settled c) (last_holder c) r w m
  unfolding rise_mem
  mem_stays top r w m e = refl
  mem_stays (below c s q b rest) r w m e = rw e

  -- One that is not settled and too large goes on.
  module _ (c : Chain) (s : Position) (q : ℕ) (b : Bool) (rest r : Row) (w : Work) (e : b || leb (record_size r) capacity ≡ false) where
    pub rise_goes : rise st (below c s q b rest) (r, w) ≡ rise st c (on_row (λ r. fill s (r ⊹ rest)) (separator st q r (freed st q (counted st r w))))
    unfolding rise
    rise_goes = ap (λ (y : Out). rise st c (on_row (fill s) y)) (close_goes st q b rest (r, w) e)

    pub mem_goes : (m : Mem) → let o = separator_m st q r (freed st q (counted st r w), set_mem q blank m) in
        rise_mem st (below c s q b rest) r w m ≡ rise_mem st c (fill s (o.0 ⊹ rest)) o.1.0 o.1.1
    unfolding rise_mem
    mem_goes m = rw e
