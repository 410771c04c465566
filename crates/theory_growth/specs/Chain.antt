-- The laws of positions and chains: what stands around what is put there.
use Rattle.std.specs.Prelude.{◌≡◌, refl, Bool, true, false, cond, ℕ, suc, ◌+◌, ◌≤◌, eqb}
use Rattle.std.proofs.Common.{sym, ap, ◌∙◌, true≢false, arith}
use Rattle.model.specs.Row.{Head, Row, nil, agg, lit, rec, ◌⊹◌, store, size, lone, node_count, base, count}
use Rattle.model.specs.Spot.{Position, here, inside, fill, past, into, Chain, top, below, Spot, whole}
use Rattle.theory_rows.specs.Laws.{Parted, ⊹-assoc, size-⊹}
use Rattle.theory_rows.specs.Fits.{Fits, RecordFits}
use Rattle.theory_rows.specs.Bound.{Fits-⊹, fits_parts, is_nil-⊹}
use Rattle.theory_rows.specs.Keeps.{node_count-⊹}
use Rattle.theory_rows.specs.Pages.{count-⊹}

-- Two choices by one test.
pub both : {A B : Type 0} (P : A → B → Type 0) (u : Bool) {x y : A} {a b : B} → (u ≡ true → P x a) → (u ≡ false → P y b) → P (cond u x y) (cond u a b)
both P true f g = f refl
both P false f g = g refl

-- The bytes of the row that stand before the position.
abbrev pub before : Position → ℕ
before (here left) = size left
before (inside left h rest s) = size left + 6 + before s

-- Whether the last record is settled.
abbrev pub last_settled : Chain → Bool
last_settled top = true
last_settled (below c s q b rest) = b

-- The root record that has this spot.
abbrev pub whole_of : Spot → Row
whole_of t = whole t.chain (fill t.position t.rest)

pub fill_past : (s : Position) (more x : Row) → fill (past s more) x ≡ fill s (more ⊹ x)
fill_past (here left) more x = ⊹-assoc left more x
fill_past (inside left h rest s) more x = ap (λ r. left ⊹ agg h r rest) (fill_past s more x)

pub fill_into : (s : Position) (h : Head) (rest x : Row) → fill (into s h rest) x ≡ fill s (agg h x rest)
fill_into (here left) h rest x = refl
fill_into (inside left g right s) h rest x = ap (λ r. left ⊹ agg g r right) (fill_into s h rest x)

-- ── offsets in a record ──

before_past : (s : Position) (more : Row) → before (past s more) ≡ before s + size more
before_past (here left) more = size-⊹ left more
before_past (inside left h rest s) more = omega (arith, before_past s more)

before_into : (s : Position) (h : Head) (rest : Row) → before (into s h rest) ≡ before s + 6
before_into (here left) h rest = omega arith
before_into (inside left g right s) h rest = omega (arith, before_into s h rest)

-- Of what fills a position of a record: its offset in the page.
abbrev pub offset_in : Position → (x : Row) → ℕ
offset_in s x = base (fill s x) + before s

pub offset_past : (s : Position) (one rest : Row) (n : ℕ) → size one ≡ n → offset_in s (one ⊹ rest) + n ≡ offset_in (past s one) rest
offset_past s one rest n e = omega (arith, ap base (fill_past s one rest), before_past s one)

pub offset_into : (s : Position) (h : Head) (rest x : Row) → offset_in s (agg h x rest) + 6 ≡ offset_in (into s h rest) x
offset_into s h rest x = omega (arith, ap base (fill_into s h rest x), before_into s h rest)

-- ── rules of rows ──

module _ {P : Row → Type 0} (k : Parted P) where
  pub in_fill : (s : Position) (x : Row) → P (fill s x) → P x
  in_fill (here left) x f = (k.parts left x f).1
  in_fill (inside left h rest s) x f = in_fill s x (k.children h (fill s x) rest (k.parts left (agg h (fill s x) rest) f).1)

  pub refill : (s : Position) (x y : Row) → P (fill s x) → P y → P (fill s y)
  refill (here left) x y f g = k.join left y (k.parts left x f).0 g
  refill (inside left h rest s) x y f g =
      let z = k.parts left (agg h (fill s x) rest) f in
      k.join left (agg h (fill s y) rest) z.0
      (k.anew h (fill s x) (fill s y) rest z.1 (refill s x y (k.children h (fill s x) rest z.1) g))

  -- One row more in front of what fills the position, and one less.
  pub fill_more : (s : Position) (x rest : Row) → P (fill s rest) → P x → P (fill s (x ⊹ rest))
  fill_more s x rest f g = refill s rest (x ⊹ rest) f (k.join x rest g (in_fill s rest f))

  pub fill_less : (s : Position) (x rest : Row) → P (fill s (x ⊹ rest)) → P (fill s rest) × P x
  fill_less s x rest f = let z = k.parts x rest (in_fill s (x ⊹ rest) f) in (refill s (x ⊹ rest) rest f z.1, z.0)

-- ── sizes ──

-- What else stands in the row has one size, whatever is put in.
pub size_fill : (s : Position) (x y : Row) → size (fill s y) + size x ≡ size (fill s x) + size y
size_fill (here left) x y = omega (arith, size-⊹ left x, size-⊹ left y)
size_fill (inside left h rest s) x y =
    omega (arith, size-⊹ left (agg h (fill s x) rest), size-⊹ left (agg h (fill s y) rest), size_fill s x y)

pub nodes_fill : (s : Position) (x y : Row) → node_count x ≤ node_count y → node_count (fill s x) ≤ node_count (fill s y)
nodes_fill (here left) x y k = omega (arith, node_count-⊹ left x, node_count-⊹ left y)
nodes_fill (inside left h rest s) x y k = omega (arith, node_count-⊹ left (agg h (fill s x) rest), node_count-⊹ left (agg h (fill s y) rest))

-- ── rows that fit ──

pub fits_parted : Parted Fits
fits_parted = record { join = Fits-⊹; parts = fits_parts; children = λ h cs rest f. f.1; anew = λ h cs cs' rest f g. (f.0, g, f.2) }

pub fits_fill : (s : Position) (x : Row) → Fits (fill s x) → Fits x
fits_fill = in_fill fits_parted

pub fits_refill : (s : Position) (x y : Row) → Fits (fill s x) → Fits y → Fits (fill s y)
fits_refill = refill fits_parted

-- The last record of a chain fits, and its row.
pub chain_fits : (c : Chain) (row : Row) → Fits (store (whole c row)) → RecordFits (last_settled c) row × Fits row
chain_fits top row f = (f.0, f.1)
chain_fits (below c s q b rest) row f =
    let g = fits_fill s (rec q b row rest) (chain_fits c (fill s (rec q b row rest)) f).1 in
    (g.0, g.1)

-- ── a record of one node ──

-- What stands in an aggregate does not change whether its row is one node.
pub lone_inside : (left : Row) (h : Head) (rest x y : Row) → lone (left ⊹ agg h x rest) ≡ lone (left ⊹ agg h y rest)
lone_inside nil h rest x y = refl
lone_inside (agg l cs left) h rest x y = is_nil-⊹ left (agg h x rest) refl ∙ sym (is_nil-⊹ left (agg h y rest) refl)
lone_inside (lit l c left) h rest x y = is_nil-⊹ left (agg h x rest) refl ∙ sym (is_nil-⊹ left (agg h y rest) refl)
lone_inside (rec p s r left) h rest x y = refl

-- A proxy is not a record's only node.
pub proxy_beside : (left : Row) (q : ℕ) (b : Bool) (r rest : Row) → lone (left ⊹ rec q b r rest) ≡ false
proxy_beside nil q b r rest = refl
proxy_beside (agg h cs left) q b r rest = is_nil-⊹ left (rec q b r rest) refl
proxy_beside (lit h c left) q b r rest = is_nil-⊹ left (rec q b r rest) refl
proxy_beside (rec p s x left) q b r rest = refl

-- So in a record of one node it stands inside it, and the record stays one of one node whatever takes its place.
pub lone_proxy : (s : Position) (q : ℕ) (b : Bool) (r rest : Row) → lone (fill s (rec q b r rest)) ≡ true → (y : Row) → lone (fill s y) ≡ true
lone_proxy (here left) q b r rest e y = absurd (true≢false (sym e ∙ proxy_beside left q b r rest))
lone_proxy (inside left h right s) q b r rest e y = lone_inside left h right (fill s y) (fill s (rec q b r rest)) ∙ e

-- ── the pages that are named ──

pub count_refill : (q : ℕ) (s : Position) (x y : Row) → count q (fill s y) + count q x ≡ count q (fill s x) + count q y
count_refill q (here left) x y = omega (arith, count-⊹ q left x, count-⊹ q left y)
count_refill q (inside left h rest s) x y =
    omega (arith, count-⊹ q left (agg h (fill s x) rest), count-⊹ q left (agg h (fill s y) rest), count_refill q s x y)

-- How often a page is named beside the proxies of a chain, and by them.
abbrev pub beside : Chain → ℕ → ℕ
beside top q = 0
beside (below c s k b rest) q = count q (fill s rest) + beside c q

abbrev pub along : Chain → ℕ → ℕ
along top q = 0
along (below c s k b rest) q = cond (eqb q k) 1 0 + along c q

pub count_chain : (q : ℕ) (c : Chain) (r : Row) → count q (whole c r) ≡ beside c q + along c q + count q r
count_chain q top r = omega arith
count_chain q (below c s k b rest) r = omega (arith, count_chain q c (fill s (rec k b r rest)), count_refill q s rest (rec k b r rest))

-- ── the helpers that show a position ──

-- How many records of a chain show what is put at a position of the last one: each whose proxy stands at the top of a helper's row, up to the aggregate.
abbrev pub hang : Chain → Position → ℕ
hang top s = 0
hang (below c s q b rest) (here left) = suc (hang c s)
hang (below c s q b rest) (inside left h right t) = 0

pub hang_past : (c : Chain) (s : Position) (more : Row) → hang c (past s more) ≡ hang c s
hang_past top s more = refl
hang_past (below c t q b rest) (here left) more = refl
hang_past (below c t q b rest) (inside left h right s) more = refl

pub hang_into : (c : Chain) (s : Position) (h : Head) (rest : Row) → hang c (into s h rest) ≡ 0
hang_into top s h rest = refl
hang_into (below c t q b r) (here left) h rest = refl
hang_into (below c t q b r) (inside left g right s) h rest = refl
