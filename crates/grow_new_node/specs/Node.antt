-- The new node: its bytes, and whether the matrix sets it apart.
use Rattle.std.specs.Prelude.{◌≡◌, refl, Bool, true, false, not, ◌&&◌, ◌||◌, List, [], ◌++◌, ◌⊎◌, ℕ, ◌+◌, ◌*◌, ◌≤◌, ◌<◌, length, get_or, take, drop, eqb}
use Rattle.std.proofs.Common.{sym, ap, ◌∙◌, true≢false, append-nil, inl, inr, ⊎_elim, arith, eqb-true, drop_of_length-le, get_or-take, get_or-drop, drop-cons}
use Rattle.std.proofs.lemmas.Bool.{not-false}
use Rattle.model.specs.Limits.{most_content, most_origin}
use Rattle.model.specs.Row.{Head, Row, nil, size, two, bytes, Config}
use Rattle.model.specs.Reading.{Reads}
use Rattle.model.specs.Growth.{class, apart, as_row}
use Rattle.model.specs.Calls.Insert.{new_of, kind_bad}
use Rattle.theory_decoding.specs.Decode.{two_is, config_image}
use Rattle.theory_decoding.specs.Reading.{reads_valid}
use Rattle.base_numbers.specs.Over.{over, over_then}

-- ── the bytes ──

-- What the numbers of an insert say of its node.
pub record Sound (kind origin label : ℕ) (content : List ℕ) : Type 0 where
  pub kinds : kind_bad (new_of kind origin label content) ≡ false
  pub origin_fits : origin ≤ most_origin
  pub label_fits : label < 65536
  pub small : length content ≤ most_content

module _ {k o l : ℕ} {c : List ℕ} (f : Sound k o l c) where
  kinds_are : ((k ≡ 1) × (c ≡ [])) ⊎ (k ≡ 2)
  kinds_are = go (eqb k 1) (eqb k 2) refl refl f.kinds
    where
      go : (x y : Bool) → eqb k 1 ≡ x → eqb k 2 ≡ y → (not (x || y) || (x && not (eqb (length c) 0))) ≡ false → ((k ≡ 1) × (c ≡ [])) ⊎ (k ≡ 2)
      go true y e f h = inl (eqb-true k 1 e, drop_of_length-le c {i = 0} (omega (arith, eqb-true (length c) 0 (not-false _ h))))
      go false true e f h = inr (eqb-true k 2 f)
      go false false e f h = absurd (true≢false h)

  pub node_kind : k < 3
  node_kind = ⊎_elim (λ e. omega arith) (λ e. omega arith) kinds_are

  -- kind and origin as one number of two bytes
  pub first_number : k + 256 * o < 65536
  first_number = omega (arith, node_kind, f.origin_fits)

module _ (st : Config) {k o l : ℕ} {c : List ℕ} (f : Sound k o l c) where
  node_is : two (k + 256 * o) ++ two l ++ two (6 + length c) ++ c ≡ bytes (as_row st (new_of k o l c) nil)
  node_is =
      let first = two_is k o (omega (arith, node_kind f)) (omega (arith, f.origin_fits)) in
      ap (λ (z : List ℕ). z ++ two l ++ two (6 + length c) ++ c) first ∙ ⊎_elim (λ e. rw (e.0, e.1)) (λ e. rw e (simp append-nil)) (kinds_are f)

  pub node_size : 6 + length c ≡ size (as_row st (new_of k o l c) nil)
  node_size = ⊎_elim (λ e. rw (e.0, e.1)) (λ e. rw e (omega arith)) (kinds_are f)

  pub node_written : (out p q s t : List ℕ) → 6 + length c ≤ length out → p ≡ over 0 (two (k + 256 * o)) out → q ≡ over 2 (two l) p
      → s ≡ over 4 (two (6 + length c)) q → t ≡ over 6 c s → t ≡ over 0 (bytes (as_row st (new_of k o l c) nil)) out
  node_written out p q s t h pp pq ps pt =
      let first = two (k + 256 * o) in
      let w1 : q ≡ over 0 (first ++ two l) out = over_then 0 2 first (two l) out p q pp pq refl (omega arith) in
      let w2 : s ≡ over 0 (first ++ two l ++ two (6 + length c)) out = over_then 0 4 (first ++ two l) (two (6 + length c)) out q s w1 ps refl (omega arith) in
      let w3 : t ≡ over 0 (first ++ two l ++ two (6 + length c) ++ c) out =
      over_then 0 6 (first ++ two l ++ two (6 + length c)) c out s t w2 pt refl (omega arith) in
      w3 ∙ ap (λ (z : List ℕ). over 0 z out) node_is

-- ── the matrix ──

-- The entry of the matrix, which stands in the image from byte n on.
pub entry : (img : List ℕ) (st : Config) (root : Row) → Reads img st root → (n : ℕ) → 16 ≡ n → (h c : Head) (i j : ℕ)
    → i ≡ class st h.label → j ≡ class st c.label → i < 16 → j < 16 → eqb (get_or img (n + 16 * i + j) 0) 0 ≡ apart st h c
entry img st root r n s h c i j ei ej bi bj =
    let v = reads_valid img st root r in
    let k = 16 * i + j in
    let m : take 256 (drop 16 img) ≡ st.matrix =
    ap (λ (l : List ℕ). take 256 (drop 16 l)) r.same ∙ ap (λ (s : Config). s.matrix) (config_image st root v) in
    let z : n + 16 * i + j ≡ 16 + k = omega arith in
    let h : k < length st.matrix = omega (arith, v.ranges.entries) in
    let g : get_or img (n + 16 * i + j) 0 ≡ get_or st.matrix k 2 =
    ap (λ (n : ℕ). get_or img n 0) z
    ∙ sym (get_or-drop 16 img k 0)
    ∙ sym (get_or-take 256 (drop 16 img) k 0 (omega arith))
    ∙ ap (λ (l : List ℕ). get_or l k 0) m
    ∙ cc (drop-cons st.matrix k 0 h, drop-cons st.matrix k 2 h) in
    ap (λ (n : ℕ). eqb n 0) g ∙ rw (ei, ej)
