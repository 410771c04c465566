-- The fixed table by its rows: the kind of a node of a row whose kinds are known is its kind by the holder.
use Rattle.std.specs.Prelude.{◌≡◌, Bool, true, false, cond, ◌&&◌, List, length, leb, eqb}
use Rattle.std.proofs.Math.Path.{refl}
use Rattle.std.proofs.Common.{sym, ap, ◌∙◌}
use Rattle.std.proofs.lemmas.Bool.{false≢true}
use Prim.Native.Nat.{ℕ, zero, suc, ◌≤◌, ◌<◌}
use native.Mathlib.Omega.{arith}
use borrow.Author.Tests.{ne_eqb, le-leb, lt-leb}
use Rattle.model.specs.Limits.{most_origin}
use Rattle.model.specs.Row.{may_stand, standing}
use Rattle.model.specs.Reading.{kind_at, head_at, size_at}
use Rattle.model.specs.WalkTests.{shape_of, passing_kind}
use Rattle.theory_check.specs.Steps.{passing}
use Rattle.base_node_kinds.specs.declared.Kinds.{Kinds}
use Rattle.base_node_kinds.specs.Holders.{kinds_in}
use Rattle.read_nodes.specs.Leaf.{aggregate_of, literal_of}

-- The kind, where the bytes are a well-formed node of it.
unfoldable pub formed_of : List ℕ → (kind : ℕ) → ℕ
formed_of s kind = cond (leb (head_at s 0).origin most_origin && eqb (size_at s 0) (length s) && shape_of s kind) kind 0

unfoldable pub stands_in : Kinds → (kind : ℕ) → Bool
stands_in may kind = cond (eqb kind 1) may.aggregate (cond (eqb kind 2) may.literal (cond (eqb kind 3) may.proxy false))

unfoldable pub kind_by : List ℕ → Kinds → ℕ
kind_by s may = cond (stands_in may (kind_at s 0)) (formed_of s (kind_at s 0)) 0

-- ── a row's tests, by what may stand in it ──

module _ (may : Kinds) (kind : ℕ) where
  pub in_agg : kind ≡ 1 → may.aggregate ≡ stands_in may kind
  unfolding stands_in
  in_agg e = rw e refl

  pub in_lit : kind ≡ 2 → may.literal ≡ stands_in may kind
  unfolding stands_in
  in_lit e = rw e refl

  pub in_proxy : kind ≡ 3 → may.proxy ≡ stands_in may kind
  unfolding stands_in
  in_proxy e = rw e refl

  pub in_none : (kind ≡ 1 → ⊥) → (kind ≡ 2 → ⊥) → (kind ≡ 3 → ⊥) → false ≡ stands_in may kind
  unfolding stands_in
  in_none a b c = simp (ne_eqb kind 1 a, ne_eqb kind 2 b, ne_eqb kind 3 c)

-- ── against the tests by a holder ──

-- the kind by a row of the table is the kind by the holder
by_table_lem : (s : List ℕ) (h : ℕ) (b : Bool) → 6 ≤ length s → (leb (kind_at s 0) 4 && may_stand h (kind_at s 0)) ≡ b
    → cond b (formed_of s (kind_at s 0)) 0 ≡ passing_kind s h
unfolding passing_kind formed_of
by_table_lem s h b long e = go b (leb (kind_at s 0) 4) (may_stand h (kind_at s 0)) e
  where
    go : (b x y : Bool) → (x && y) ≡ b
        → cond b (cond (leb (head_at s 0).origin most_origin && eqb (size_at s 0) (length s) && shape_of s (kind_at s 0)) (kind_at s 0) 0) 0
        ≡ cond (leb 6 (length s) && x && y && leb (head_at s 0).origin most_origin && eqb (size_at s 0) (length s) && shape_of s (kind_at s 0)) (kind_at s 0) 0
    go b true true e = simp (← e, le-leb _ _ long)
    go b true false e = simp (← e, le-leb _ _ long)
    go b false true e = simp (← e, le-leb _ _ long)
    go b false false e = simp (← e, le-leb _ _ long)

-- so are the tests by first bytes
module _ (s : List ℕ) (n h level : ℕ) (may : Kinds) (e : may ≡ kinds_in h) (r : Bool) where
  pub aggregate_by : r ≡ aggregate_of s n may.aggregate level → r ≡ aggregate_of s n (may_stand h 1) level
  aggregate_by f = f ∙ ap (λ (m : Kinds). aggregate_of s n m.aggregate level) e

  pub literal_by : r ≡ literal_of s n may.literal level → r ≡ literal_of s n (may_stand h 2) level
  literal_by f = f ∙ ap (λ (m : Kinds). literal_of s n m.literal level) e

-- and so is the kind where its byte is in hand
pub formed_is : (s : List ℕ) (h kind r : ℕ) → kind ≡ kind_at s 0 → 6 ≤ length s → kind ≤ 4 → may_stand h kind ≡ true → r ≡ formed_of s kind → r ≡ passing_kind s h
formed_is s h kind r e long small may f =
    f ∙ ap (formed_of s) e
    ∙ by_table_lem s h true long (rw (← e) (simp (le-leb _ _ small, may)))

-- The holders of a list's rows.
pub data Holds : ℕ → Type 0 where
  one : Holds 1
  four : Holds 4

-- a row takes the same kinds, below an aggregate and below a helper, and no other
module _ (h : ℕ) where
  Same : ℕ → Type 0
  Same kind = (leb kind 4 && may_stand h kind) ≡ stands_in (kinds_in h) kind

  same_kinds : may_stand h 0 ≡ false → may_stand h 4 ≡ false → (kind : ℕ) → Same kind
  unfolding Same stands_in
  same_kinds a b zero = a
  same_kinds a b (suc zero) = refl
  same_kinds a b (suc (suc zero)) = refl
  same_kinds a b (suc (suc (suc zero))) = refl
  same_kinds a b (suc (suc (suc (suc zero)))) = b
  same_kinds a b (suc (suc (suc (suc (suc k))))) =
      let n = suc (suc (suc (suc (suc k)))) in
      let g : 4 < n = omega arith in
      simp (lt-leb n 4 g, ne_eqb n 1 (λ q. omega arith), ne_eqb n 2 (λ q. omega arith), ne_eqb n 3 (λ q. omega arith))

pub kind_is : {h : ℕ} → Holds h → (s : List ℕ) → 6 ≤ length s → kind_by s (kinds_in h) ≡ passing_kind s h
unfolding kind_by may_stand standing Same
kind_is one s long = by_table_lem s 1 _ long (same_kinds 1 refl refl (kind_at s 0))
kind_is four s long = by_table_lem s 4 _ long (same_kinds 4 refl refl (kind_at s 0))

-- a node of a list's row is no helper
pub no_helper : {h : ℕ} → Holds h → (s : List ℕ) (kind : ℕ) → kind ≡ passing_kind s h → kind ≡ 4 → ⊥
unfolding may_stand standing
no_helper one s kind e f = let p = passing s 1 kind (sym e) (λ z. omega arith) in false≢true (ap (may_stand 1) (sym f) ∙ p.may)
no_helper four s kind e f = let p = passing s 4 kind (sym e) (λ z. omega arith) in false≢true (ap (may_stand 4) (sym f) ∙ p.may)

-- and a root is no proxy
pub root_low : (s : List ℕ) (kind : ℕ) → kind ≡ passing_kind s 0 → (kind ≡ 0 → ⊥) → (kind ≡ 4 → ⊥) → (1 ≤ kind) × (kind ≤ 2)
unfolding may_stand standing
root_low s kind e z f =
    let h = passing s 0 kind (sym e) z in
    let three : kind ≡ 3 → ⊥ = λ q. false≢true (ap (may_stand 0) (sym q) ∙ h.may) in
    (omega arith, omega (arith, h.small))
