-- One split of a record suffices: what a split makes fits into pages, for every target and tolerance.
use Rattle.std.specs.Prelude.{◌≡◌, Bool, true, false, ◌||◌, ℕ, ◌+◌, ◌*◌, ◌≤◌, ◌<◌, max, ℤ, ltb}
use Rattle.std.proofs.Math.Path.{refl, subst}
use Rattle.std.proofs.Common.{sym, ap, true≢false, arith, mul-le-mul_right, ltb-true, ltb-false}
use Rattle.std.proofs.Math.Bool.{cond}
use Rattle.std.proofs.lemmas.Bool.{false≢true}
use Rattle.std.proofs.Math.IntN.{sub_ℕ}
use Rattle.model.specs.Limits.{capacity, most_node}
use Rattle.model.specs.Row.{Row, nil, agg, lit, rec, ◌⊹◌, size, is_nil, lone, lone_rec, node_count, base, record_size, Config}
use Rattle.theory_rows.specs.Fits.{Ranges, Fits, Shape, one, more}
use Rattle.model.specs.Growth.{Work, Out, Cut, at_d, through, separate, start_of, lean_of, cut_from, cut_of, grouped, group, split_point, separator}
use Rattle.model.specs.Claims.{root_row, InLean}
use Rattle.theory_rows.specs.Laws.{not_nil, size-⊹, cond_case, is_nil_nil}
use Rattle.theory_rows.specs.Cut.{cut_row, grouped_by, cut_row_lem, Follows, cut_follows, by_root, cut_through}
use Rattle.theory_rows.specs.Point.{point_nearest}
use Rattle.theory_rows.specs.Shows.{node_count_some, nodes_shown, separator_width}
use Rattle.model.specs.Tree.{width}

-- ── a row and its parts ──

pub Fits-⊹ : (a b : Row) → Fits a → Fits b → Fits (a ⊹ b)
Fits-⊹ nil b f g = g
Fits-⊹ (agg l cs rest) b f g = (f.0, f.1, Fits-⊹ rest b f.2 g)
Fits-⊹ (lit l c rest) b f g = (f.0, f.1, f.2, Fits-⊹ rest b f.3 g)
Fits-⊹ (rec p s r rest) b f g = (f.0, f.1, Fits-⊹ rest b f.2 g)

pub fits_parts : (a b : Row) → Fits (a ⊹ b) → Fits a × Fits b
fits_parts nil b f = (tt, f)
fits_parts (agg h cs rest) b f = let z = fits_parts rest b f.2 in ((f.0, f.1, z.0), z.1)
fits_parts (lit h c rest) b f = let z = fits_parts rest b f.3 in ((f.0, f.1, f.2, z.0), z.1)
fits_parts (rec p s r rest) b f = let z = fits_parts rest b f.2 in ((f.0, f.1, z.0), z.1)

-- ── where d starts ──

-- The levels of a row in its own record.
abbrev pub depth : Row → ℕ
depth nil = 0
depth (agg l cs rest) = max (1 + depth cs) (depth rest)
depth (lit l c rest) = max 1 (depth rest)
depth (rec p s r rest) = max 1 (depth rest)

depth-⊹ : (a b : Row) → depth b ≤ depth (a ⊹ b)
depth-⊹ nil b = omega arith
depth-⊹ (agg l cs rest) b = omega (arith, depth-⊹ rest b)
depth-⊹ (lit l c rest) b = omega (arith, depth-⊹ rest b)
depth-⊹ (rec p s r rest) b = omega (arith, depth-⊹ rest b)

depth_some : (r : Row) → is_nil r ≡ false → 1 ≤ depth r
depth_some nil e = absurd (true≢false e)
depth_some (agg l cs rest) e = omega arith
depth_some (lit l c rest) e = omega arith
depth_some (rec p s r rest) e = omega arith

module _ (p : ℕ) where
  start_low : (at : ℕ) (c : Cut) → Follows p at c → Fits (cut_row c) → p < at + size (cut_row c) → p < start_of at c + most_node
  start_low at (at_d left right) k f h = omega (arith, size-⊹ left right, k.2 (fits_parts left right f).1, k.3 (omega (arith, size-⊹ left right)))
  start_low at (through left hd inner right) k f h =
      let node : Row = agg hd (cut_row inner) right in
      start_low (at + size left + 6) inner k.2 (fits_parts left node f).1.1 (omega (arith, k.1 (omega (arith, size-⊹ left node))))

  start_high : (at : ℕ) (c : Cut) → Follows p at c → start_of at c + 6 ≤ max p at + 6 * depth (cut_row c)
  start_high at (at_d left right) k = omega (arith, k.0, depth-⊹ left right, depth_some right k.1)
  start_high at (through left h inner right) k =
      omega (arith, k.0, depth-⊹ left (agg h (cut_row inner) right), start_high (at + size left + 6) inner k.2)

  -- The separator, without the root's header, if so little is put for each group.
  separate_size : {S : Type 0} (f : Row → S → Row × S) → ((g : Row) (s : S) → size (f g s).0 ≤ 8) → (at : ℕ) (c : Cut) (s : S) → Follows p at c
      → size (separate f c s).0 + 6 ≤ 22 * depth (cut_row c)
  unfolding separate
  separate_size f small at (at_d left right) s k =
      rw size-⊹ (omega (arith, small left s, small right (f left s).1, depth-⊹ left right, depth_some right k.1))
  separate_size f small at (through left h inner right) s k =
      let a = f left s in
      let b = separate f inner a.1 in
      let n = depth-⊹ left (agg h (cut_row inner) right) in
      rw size-⊹ (omega (arith, small left s, small right b.1, separate_size f small (at + size left + 6) inner a.1 k.2))

-- ── the groups fit ──

pub base_le : (r : Row) → base r ≤ 6
base_le r = cond_case (λ n. n ≤ 6) (lone r) (λ e. omega arith) (λ e. omega arith)

group_shape : (g : Row) → is_nil g || lone_rec g ≡ false → Shape false g
group_shape g e = go (lone g) refl
  where
    many : (g : Row) → is_nil g || lone_rec g ≡ false → lone g ≡ false → 2 ≤ node_count g
    many nil e z = absurd (true≢false e)
    many (agg l cs rest) e z = omega (arith, node_count_some rest z)
    many (lit l c rest) e z = omega (arith, node_count_some rest z)
    many (rec p s r rest) e z = omega (arith, node_count_some rest e)

    go : (b : Bool) → lone g ≡ b → Shape false g
    go true z = one z
    go false z = more g (many g e z)

module _ (st : Config) (near : ℕ) where
  pub group_fits : (g : Row) (w : Work) → Fits g → size g + 6 ≤ capacity → Fits (group st near g w).0
  group_fits g w f h = grouped_by _ (λ (o : Out). Fits o.0) g w (λ _. f) (λ e. (record { fits = omega (arith, base_le g); shape = group_shape g e }, f, tt))

  lone_size : (g : Row) → is_nil g || lone_rec g ≡ true → size g ≤ 8
  lone_size nil e = omega arith
  lone_size (agg l cs rest) e = absurd (false≢true e)
  lone_size (lit l c rest) e = absurd (false≢true e)
  lone_size (rec p s r rest) e = omega (arith, ap size (is_nil_nil rest e))

  pub group_size : (g : Row) (w : Work) → size (group st near g w).0 ≤ 8
  group_size g w = grouped_by _ (λ (o : Out). size o.0 ≤ 8) g w (lone_size g) (λ _. omega arith)

pub is_nil-⊹ : (a b : Row) → is_nil b ≡ false → is_nil (a ⊹ b) ≡ false
is_nil-⊹ nil b e = e
is_nil-⊹ (agg l cs rest) b e = refl
is_nil-⊹ (lit l c rest) b e = refl
is_nil-⊹ (rec p s r rest) b e = refl

-- Every record that a split makes fits, if those of its groups do: `size_of` is the size of the record that is split.
module _ (p size_of : ℕ) (left-room : p + 6 ≤ capacity) (right-room : size_of + 531 ≤ p + capacity)
    {S : Type 0} (f : Row → S → Row × S) (fit : (g : Row) (s : S) → Fits g → size g + 6 ≤ capacity → Fits (f g s).0) where
  separate_fits : (at : ℕ) (c : Cut) (s : S) → Follows p at c → Fits (cut_row c) → p < at + size (cut_row c) → at + size (cut_row c) ≤ size_of
      → Fits (separate f c s).0
  unfolding separate
  separate_fits at (at_d left right) s k g h i =
      let (l, r) = fits_parts left right g in
      let z = size-⊹ left right in
      Fits-⊹ (f left s).0 (f right (f left s).1).0 (fit left s l (omega (arith, k.0))) (fit right (f left s).1 r (omega (arith, k.2 r, k.3 (omega arith))))
  separate_fits at (through left hd inner right) s k g h i =
      let (l, n) = fits_parts left (agg hd (cut_row inner) right) g in
      let z = size-⊹ left (agg hd (cut_row inner) right) in
      let past = k.1 (omega arith) in
      let s₁ = (f left s).1 in
      let sep = separate f inner s₁ in
      Fits-⊹ (f left s).0 (agg hd sep.0 (f right sep.1).0) (fit left s l (omega (arith, k.0))) (
        n.0,
        separate_fits (at + size left + 6) inner s₁ k.2 n.1 (omega arith) (omega arith),
        fit right sep.1 n.2 (omega arith),
      )

-- ── every target and tolerance ──

-- what an oversize record's size says of the split point
module _ (st : Config) (k : Ranges st) (S : ℕ) (over : capacity < S) (most : S ≤ (capacity + most_node)) where
  p_low : S ≤ 4 * split_point st S + 2
  p_low = let n = point_nearest st S in omega (arith, mul-le-mul_right S k.low)

  pub p_high : split_point st S ≤ 3455
  p_high = let n = point_nearest st S in omega (arith, mul-le-mul_right S k.high)

pub in_lean : (a p : ℕ) → a ≤ p + 132 → p ≤ a + 525 → InLean (sub_ℕ a p)
in_lean a p h k = cond_case InLean (ltb a p) (λ e. omega (arith, ltb-true a p e)) (λ e. omega (arith, ltb-false a p e))

-- What is claimed of a split, of its separator and of its lean.
pub record SplitGood (sep : Row) (lean : ℤ) : Type 0 where
  pub fits : Fits sep
  pub small : size sep ≤ 506
  pub some : is_nil sep ≡ false
  pub leans : InLean lean

module _ (st : Config) (k : Ranges st) (near : ℕ) where
  -- What is made of the children of a root, which start at byte 6: `size_of` is the record's.
  row_good : (row : Row) (w : Work) (size_of : ℕ) → 6 + size row ≡ size_of → Fits row → capacity < size_of → size_of ≤ capacity + most_node → depth row ≤ 23
      → let p = split_point st size_of in let c = cut_from st p 6 nil row in let sep = (separate (group st near) c w).0 in
      Fits sep × (size sep ≤ 500) × InLean (sub_ℕ (start_of 6 c) p)
  row_good row w size_of whole f over most deep =
      let p = split_point st size_of in
      let c = cut_from st p 6 nil row in
      let n = cut_follows st p k.tol 6 row (not_nil row (omega arith)) in
      let e = cut_row_lem st p row 6 nil in
      let g = subst Fits (sym e) f in
      let z = ap size e in
      let lo = p_low st k size_of over most in
      let hi = p_high st k size_of over most in (
        separate_fits p size_of (omega arith) (omega arith) (group st near) (group_fits st near) 6 c w n g (omega arith) (omega arith),
        omega (arith, ap depth e, separate_size p (group st near) (group_size st near) 6 c w n),
        in_lean (start_of 6 c) p (omega (arith, ap depth e, start_high p 6 c n)) (omega (arith, start_low p 6 c n g (omega arith))),
      )

  -- What a split makes; its size is with the root's header, also a helper's, which is dropped.
  split : (w : Work) (r : Row) → Fits r → capacity < record_size r → record_size r ≤ capacity + most_node → depth (root_row (lone r) r) ≤ 23
      → let sep = (separate (group st near) (cut_of st r) w).0 in Fits sep × (base r + size sep ≤ 506)
      × InLean (lean_of st r)
  unfolding separate grouped
  split w r f over =
      by_root (λ b r. Fits r → let S = cond b 0 6 + size r in capacity < S → S ≤ capacity + most_node → depth (root_row b r) ≤ 23
      → Good (cond b 0 6) (split_point st S) (cut_from st (split_point st S) (cond b 0 6) nil r))
      (λ r f over most deep. let z = row_good r w (6 + size r) refl f over most deep in (z.0, omega (arith, z.1), z.2))
      (λ h cs big f over most deep.
      let S = 0 + (6 + size cs + 0) in
      let z = row_good cs w S (omega arith) f.1 over most deep in
      subst (Good 0 (split_point st S)) (sym (cut_through st k.tol (split_point st S) h cs big)) ((f.0, z.0, tt), omega (arith, z.1), z.2)) r f over f over
    where
      Good : (start p : ℕ) → Cut → Type 0
      Good start p c = let sep = (separate (group st near) c w).0 in Fits sep × (start + size sep ≤ 506) × InLean (sub_ℕ (start_of start c) p)

  -- A separator is not empty, since it shows what its record did.
  separator_some : (r : Row) (w : Work) → Fits r → 0 < size r → is_nil (separator st near r w).0 ≡ false
  separator_some r w f h = go (is_nil sep) refl
    where
      sep : Row
      sep = (separator st near r w).0

      go : (b : Bool) → is_nil sep ≡ b → b ≡ false
      go true e =
          absurd (omega (arith, ap width (is_nil_nil sep e), separator_width st near r w, nodes_shown r f, node_count_some r (not_nil r h)))
      go false e = refl

  module _ (r : Row) (w : Work) (f : Fits r) (over : capacity < record_size r) (most : record_size r ≤ (capacity + most_node))
      (deep : depth (root_row (lone r) r) ≤ 23) where
    pub split_good : SplitGood (separator st near r w).0 (lean_of st r)
    unfolding separator
    split_good =
        let z = split w r f over most deep in
        record { fits = z.0; small = omega (arith, z.1); some = separator_some r w f (omega (arith, base_le r)); leans = z.2 }

    pub split_whole : base r + size (separator st near r w).0 ≤ 506
    unfolding separator
    split_whole = (split w r f over most deep).1
