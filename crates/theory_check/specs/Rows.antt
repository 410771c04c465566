-- The row of a job that passes: its bytes are those of the job, it fits, and it is no higher than its level lets it be.
use Rattle.std.specs.Prelude.{◌≡◌, Bool, ℕ, ◌+◌, ◌-◌, ◌*◌, ◌≤◌, ◌<◌, get_or, eqb}
use Rattle.std.proofs.Math.Path.{refl, sym, ap, ap₂}
use Rattle.std.proofs.Common.{◌∙◌, arith, take-append-drop, get_or-take}
use mathlib.Core.List.{List, [], ◌∷◌, ◌++◌, append-nil}
use Rattle.std.proofs.Math.Bool.{true, false, not}
use Rattle.std.proofs.Math.ListN.{length, drop, length-drop}
use Rattle.std.proofs.Math.Seq.{length-take-le, get_or-drop}
use borrow.Author.Tests.{eqb-true, eqb-false, ltb-true, leb-true, not-true}
use Rattle.model.specs.Limits.{page_size, capacity, most_content, most_node, most_levels}
use Rattle.model.specs.Row.{Row, nil, agg, lit, rec, ◌⊹◌, size, node_count, two, header, bytes, record_bytes, standing, may_stand, is_agg, height}
use Rattle.model.specs.Row.{Head, no_head}
use Rattle.model.specs.Reading.{used_at, settled_at, head_at, name_at}
use Rattle.theory_rows.specs.Keeps.{node_count-⊹}
use Rattle.theory_rows.specs.Fits.{Fits, Shape, one, more, RecordFits}
use Rattle.theory_rows.specs.Laws.{two_nodes, length_bytes, bytes-⊹}
use Rattle.theory_rows.specs.Bound.{Fits-⊹}
use Rattle.theory_rows.specs.Image.{length_record}
use Rattle.theory_decoding.specs.Valid.{both as and_both}
use Rattle.theory_check.specs.Facts.{no}
use Rattle.model.specs.WalkTests.{whole_size, bare_head, shape_of, two_children, root_fits, record_of}
use Rattle.theory_check.specs.Walk.{State, Job, node, list}
use Rattle.theory_check.specs.Steps.{length_part}
use Rattle.theory_check.specs.Heads.{PassingNode, two_at_lem, two_low, is_byte_lem, all_drop, header_is}
use Rattle.theory_check.specs.Passes.{Passes, proxy, helper, literal, aggregate, empty, next}

-- ── rows ──

height-⊹ : (n : ℕ) (a b : Row) → height a ≤ n → height b ≤ n → height (a ⊹ b) ≤ n
height-⊹ n nil b h k = k
height-⊹ n (agg l cs rest) b h k = omega (arith, height-⊹ n rest b (omega arith) k)
height-⊹ n (lit l c rest) b h k = omega (arith, height-⊹ n rest b (omega arith) k)
height-⊹ n (rec p s r rest) b h k = omega (arith, height-⊹ n rest b (omega arith) k)

-- a row that has bytes has a node
some_node : (r : Row) → 1 ≤ length (bytes r) → 1 ≤ node_count r
some_node nil h = h
some_node (agg l cs rest) h = omega arith
some_node (lit l c rest) h = omega arith
some_node (rec p s r rest) h = omega arith

-- ── bytes ──

-- A node by what it stands in: a helper stands only as a record's root, a proxy only elsewhere.
pub record NodeIs (s : List ℕ) (holder : ℕ) (r : Row) : Type 0 where
  pub long : 6 ≤ length s
  pub plain : may_stand holder 4 ≡ false → s ≡ bytes r
  pub root : may_stand holder 3 ≡ false → s ≡ record_bytes r
  pub shape : may_stand holder 3 ≡ false → (settled : Bool) → (settled ≡ true → get_or s 0 0 ≡ 4 → ⊥) → Shape settled r
  pub top : get_or s 0 0 ≡ 1 → is_agg r ≡ true

-- A list of nodes: none of them is a helper, and `pair` is what a helper asks of its children.
record ListIs (s : List ℕ) (holder : ℕ) (r : Row) : Type 0 where
  plain : may_stand holder 4 ≡ false → s ≡ bytes r
  pair : may_stand holder 4 ≡ false → two_children s ≡ true → 2 ≤ node_count r

abbrev Is : Job → Row → Type 0
Is (node s page holder level w) r = NodeIs s holder r
Is (list s page holder level w) r = ListIs s holder r

none_left : (s : List ℕ) → length s ≡ 0 → s ≡ []
none_left [] h = refl
none_left (a ∷ r) h = absurd (omega arith)

two_left : (s : List ℕ) → length s ≡ 2 → s ≡ get_or s 0 0 ∷ get_or s 1 0 ∷ []
two_left [] h = absurd (omega arith)
two_left (a ∷ []) h = absurd (omega arith)
two_left (a ∷ b ∷ []) h = refl
two_left (a ∷ b ∷ c ∷ r) h = absurd (omega arith)

-- what may not stand there does not
never : {A : Type 0} (s : List ℕ) (holder kind : ℕ) → PassingNode s holder kind → may_stand holder kind ≡ false → A
never s holder kind h e = no (sym e ∙ h.node.may)

module _ (s : List ℕ) (holder : ℕ) where
  -- the header with what stands inside
  around : (kind : ℕ) → PassingNode s holder kind → (n : ℕ) (x : List ℕ) → length x ≡ n → drop 6 s ≡ x → s ≡ header kind (head_at s 0) (6 + n) ++ x
  around kind h n x l e =
      let m : length s ≡ 6 + n = omega (arith, h.node.long, length-drop 6 s, ap length e) in
      header_is s holder kind h ∙ ap₂ (λ (n : ℕ) (x : List ℕ). header kind (head_at s 0) n ++ x) m e

  -- a bare header says nothing besides kind and size
  bare_head_lem : bare_head s ≡ true → head_at s 0 ≡ no_head
  unfolding bare_head
  bare_head_lem e =
      let b = and_both (eqb (head_at s 0).origin 0) _ e in
      λ i. record { origin = eqb-true (head_at s 0).origin 0 b.0 i; label = eqb-true (head_at s 0).label 0 b.1 i }

  is_rec : PassingNode s holder 3 → length s ≡ 8 → s ≡ header 3 no_head 8 ++ two (name_at s 0)
  unfolding shape_of
  is_rec h n =
      let l = bare_head_lem h.node.shape in
      let x : drop 6 s ≡ two (name_at s 0) =
      two_left (drop 6 s) (omega (arith, length-drop 6 s)) ∙ rw (get_or-drop 6 s 0 0, get_or-drop 6 s 1 0) (sym (two_at_lem s 6 h.all)) in
      around 3 h 2 (two (name_at s 0)) refl x ∙ ap (λ (k : Head). header 3 k 8 ++ two (name_at s 0)) l

  is_lit : PassingNode s holder 2 → s ≡ bytes (lit (head_at s 0) (drop 6 s) nil)
  is_lit h = around 2 h (length (drop 6 s)) (drop 6 s) refl refl ∙ rw (append-nil (drop 6 s))

  is_agg_lem : PassingNode s holder 1 → (r : Row) → drop 6 s ≡ bytes r → s ≡ bytes (agg (head_at s 0) r nil)
  is_agg_lem h r e = around 1 h (size r) (bytes r) (length_bytes r) e ∙ rw (append-nil (bytes r))

  is_helper : PassingNode s holder 4 → (r : Row) → drop 6 s ≡ bytes r → 2 ≤ node_count r → s ≡ record_bytes r
  unfolding shape_of
  is_helper h r e n =
      let l = bare_head_lem (and_both (bare_head s) _ h.node.shape).0 in
      around 4 h (size r) (bytes r) (length_bytes r) e ∙ ap (λ (k : Head). header 4 k (6 + size r) ++ bytes r) l ∙ rw (two_nodes r n)

  helper_pair : PassingNode s holder 4 → two_children (drop 6 s) ≡ true
  unfolding shape_of
  helper_pair h = (and_both (bare_head s) _ h.node.shape).1

pair_long : (s : List ℕ) → two_children s ≡ true → whole_size s < length s
unfolding two_children
pair_long s e = ltb-true (whole_size s) (length s) (and_both (not (eqb (whole_size s) 0)) _ e).1

module _ {img : List ℕ} where
  is : {j : Job} {r : Row} {v : State} → Passes img j r v → Is j r
  unfolding may_stand standing
  is (proxy {s = s} {holder = holder} h n g p) = record {
    long = h.node.long;
    plain = λ _. is_rec s holder h n;
    root = never s holder 3 h;
    shape = never s holder 3 h;
    top = λ e. absurd (omega (arith, h.node.first));
  }
  is (helper {s = s} {holder = holder} {r = r} h p) =
      let i = is p in
      let n = i.pair refl (helper_pair s holder h) in
      record {
        long = h.node.long;
        plain = never s holder 4 h;
        root = λ _. is_helper s holder h r (i.plain refl) n;
        shape = λ _. elim [ true ↦ λ k. absurd (k refl h.node.first) | false ↦ λ _. more r n ];
        top = λ e. absurd (omega (arith, h.node.first));
      }
  is (literal {s = s} {holder = holder} h l) = record {
    long = h.node.long;
    plain = λ _. is_lit s holder h;
    root = λ _. is_lit s holder h;
    shape = λ _ _ _. one refl;
    top = λ e. absurd (omega (arith, h.node.first));
  }
  is (aggregate {s = s} {holder = holder} {r = r} h l p) =
      let same = is_agg_lem s holder h r ((is p).plain refl) in
      record { long = h.node.long; plain = λ _. same; root = λ _. same; shape = λ _ _ _. one refl; top = λ _. refl }
  is (empty {s = s} e) = record { plain = λ _. none_left s e; pair = λ _ t. absurd (omega (arith, pair_long s t)) }
  is (next {s = s} {a = a} {r = r} l h p q) =
      let i = is p in
      let k = is q in
      record {
        plain = λ e. sym (take-append-drop (whole_size s) s) ∙ ap₂ ◌++◌ (i.plain e) (k.plain e) ∙ sym (bytes-⊹ a r);
        pair = λ e t.
            let x = some_node a (omega (arith, ap length (i.plain e), length-take-le (whole_size s) s h)) in
            let y = some_node r (omega (arith, ap length (k.plain e), length-drop (whole_size s) s, pair_long s t)) in
            omega (arith, node_count-⊹ a r);
      }

  pub node_is : {s : List ℕ} {page holder level : ℕ} {w v : State} {r : Row} → Passes img (node s page holder level w) r v → NodeIs s holder r
  node_is p = is p

-- ── what fits ──

module _ (img : List ℕ) where
  pub first_byte : (p : ℕ) → 6 ≤ length (record_of img p) → get_or (record_of img p) 0 0 ≡ get_or img (page_size * p) 0
  first_byte p h =
      let n = used_at img (page_size * p) in
      let low : 0 < n = omega (arith, length_part img (page_size * p) n) in
      get_or-take n (drop (page_size * p) img) 0 0 low ∙ get_or-drop (page_size * p) img 0 0 ∙ ap (λ (i : ℕ). get_or img i 0) (omega arith)

  -- a record whose root, found on page p, passes
  pub record_fits_lem : (p : ℕ) (r : Row) → NodeIs (record_of img p) 0 r → used_at img (page_size * p) ≤ capacity
      → (settled : Bool) → (settled ≡ true → get_or img (page_size * p) 0 ≡ 4 → ⊥) → RecordFits settled r
  unfolding may_stand standing
  record_fits_lem p r i n b h = record {
    fits = omega (arith, length_record r, ap length (i.root refl), length_part img (page_size * p) (used_at img (page_size * p)));
    shape = i.shape refl b (λ e f. h e (sym (first_byte p i.long) ∙ f));
  }

  settled_root : (p : ℕ) → root_fits img p ≡ true → eqb (settled_at img (page_size * p)) 1 ≡ true → get_or img (page_size * p) 0 ≡ 4 → ⊥
  unfolding root_fits
  settled_root p e b f = let n : not (eqb (get_or img (page_size * p) 0) 4) ≡ true = rw b at e in eqb-false (get_or img (page_size * p) 0) 4 (not-true _ n) f

module _ {img : List ℕ} where
  pub fits : {j : Job} {r : Row} {v : State} → Passes img j r v → Fits r
  unfolding shape_of
  fits (proxy {s = s} {r = r} h n g p) =
      let used : used_at img (page_size * name_at s 0) ≤ capacity = g.names.used in
      (record_fits_lem img (name_at s 0) r (is p) used _ (settled_root img (name_at s 0) g.root), fits p, tt)
  fits (helper h p) = fits p
  fits (literal {s = s} h l) =
      let short : length (drop 6 s) ≤ most_content = omega (arith, length-drop 6 s, leb-true (length s) most_node h.node.shape) in
      (record { origin = h.node.origin; label = two_low s 2 h.all }, short, is_byte_lem (drop 6 s) (all_drop 6 s h.all), tt)
  fits (aggregate {s = s} h l p) = (record { origin = h.node.origin; label = two_low s 2 h.all }, fits p, tt)
  fits (empty e) = tt
  fits (next {a = a} {r = r} l h p q) = Fits-⊹ a r (fits p) (fits q)

-- ── levels ──

abbrev pub level_of : Job → ℕ
level_of (node s page holder level w) = level
level_of (list s page holder level w) = level

module _ {img : List ℕ} where
  pub levels : {j : Job} {r : Row} {v : State} → Passes img j r v → height r ≤ most_levels + 1 - level_of j
  levels (proxy h n g p) = omega (arith, levels p)
  levels (helper h p) = levels p
  levels (literal h l) = omega arith
  levels (aggregate h l p) = omega (arith, levels p)
  levels (empty e) = omega arith
  levels (next {level = level} {a = a} {r = r} l h p q) = height-⊹ (most_levels + 1 - level) a r (levels p) (levels q)
