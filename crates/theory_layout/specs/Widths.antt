-- A table of how many nodes the record on each page of an image shows.
use Rattle.std.specs.Prelude.{◌≡◌, refl, Bool, true, false, cond, List, ℕ, ◌+◌, ◌*◌, ◌≤◌, ◌<◌, length, get_or, eqb}
use Rattle.std.proofs.Common.{sym, ap, subst, ◌∙◌, arith, eqb-true}
use Rattle.model.specs.Limits.{page_size}
use Rattle.model.specs.Row.{Row, nil, agg, lit, rec, size, base, record_size, count, Config}
use Rattle.model.specs.Reading.{Reads}
use Rattle.model.specs.Tree.{width}
use Rattle.theory_decoding.specs.Reading.{reads_length, unique}
use Rattle.theory_places.specs.Pages.{pages_count}
use Rattle.theory_places.specs.Marks.{mark_times}
use Rattle.theory_places.specs.Widths.{Told, Table, either}
use Rattle.theory_row_bytes.specs.RowAt.{kind_of, size_of, rest_of, size_first}
use Rattle.theory_layout.specs.Here.{Here, OnPage, view, root_page_lem, root_here}

-- It has an entry for each page, is right for each record that a proxy in another record names, and is the table of the store that the image reads as.
pub record Widths (img c : List ℕ) : Type 0 where
  pub long : length img ≤ page_size * length c
  pub told : (p holder : ℕ) (r : Row) → 1 ≤ holder → OnPage img p holder r → get_or c p 0 ≡ width r
  pub store : (st : Config) (root : Row) → Reads img st root → Table st root c

-- ── what stands at one place shows as many nodes ──

-- Two records read on one page start at one byte with one size.
one_page : (img : List ℕ) (p holder holder₁ : ℕ) (a b : Row)
    → ((page page₁ pos : ℕ) → Here img page pos a → Here img page₁ pos b → size a ≡ size b → width a ≡ width b)
    → OnPage img p holder a → OnPage img p holder₁ b → width a ≡ width b
one_page img p holder holder₁ a b same x y =
    let e : base b ≡ base a = sym y.first ∙ x.first in
    let z : page_size * p + base b ≡ page_size * p + base a = ap (λ (n : ℕ). page_size * p + n) e in
    let s : record_size a ≡ record_size b = sym x.used ∙ y.used in
    same p p (page_size * p + base a) x.here (subst (λ (n : ℕ). Here img p n b) z y.here) (omega arith)

-- How many nodes the first of a row shows.
abbrev pub first_width : Row → ℕ
first_width nil = 0
first_width (agg h cs rest) = 1
first_width (lit h c rest) = 1
first_width (rec p s r rest) = width r

pub width_first : (r : Row) → width r ≡ first_width r + width (rest_of r)
width_first nil = refl
width_first (agg h cs rest) = omega arith
width_first (lit h c rest) = omega arith
width_first (rec p s r rest) = refl

-- A node shows itself.
pub plain_width : (r : Row) → 0 < size r → (kind_of r ≡ 3 → ⊥) → first_width r ≡ 1
plain_width nil h k = absurd (omega arith)
plain_width (agg l cs rest) h k = refl
plain_width (lit l c rest) h k = refl
plain_width (rec p s r rest) h k = absurd (k refl)

pub none_width : (r : Row) → 0 ≡ size r → 0 ≡ width r
none_width nil e = refl
none_width (agg h cs rest) e = absurd (omega arith)
none_width (lit h c rest) e = absurd (omega arith)
none_width (rec p s r rest) e = absurd (omega arith)

-- Two rows that stand at one byte with one size have first nodes of one kind and size,
module _ {img : List ℕ} {page page₁ pos : ℕ} {a b : Row} (x : Here img page pos a) (y : Here img page₁ pos b) (e : size a ≡ size b) (h : 0 < size a) where
  one_kind : kind_of b ≡ kind_of a
  one_kind = sym (view y (omega arith)).kind_is ∙ (view x h).kind_is

  one_size : size_of b ≡ size_of a
  one_size = sym (view y (omega arith)).size_is ∙ (view x h).size_is

  after_both : Here img page₁ (pos + size_of a) (rest_of b)
  after_both = subst (λ (n : ℕ). Here img page₁ (pos + n) (rest_of b)) one_size (view y (omega arith)).after

  sizes_after : size (rest_of a) ≡ size (rest_of b)
  sizes_after = omega (arith, one_size, size_first a, size_first b)

-- and show as many nodes.
same_width : (img : List ℕ) (page page₁ pos : ℕ) (a b : Row) → Here img page pos a → Here img page₁ pos b → size a ≡ size b → width a ≡ width b
same_width img page page₁ pos nil b x y e = none_width b e
same_width img page page₁ pos (agg h cs rest) b x y e =
    let k = one_kind x y e (omega arith) in
    let later = same_width img page page₁ _ rest (rest_of b) (view x (omega arith)).after (after_both x y e (omega arith)) (sizes_after x y e (omega arith))
    in
    omega (arith, width_first b, plain_width b (omega arith) (λ z. omega arith))
same_width img page page₁ pos (lit h c rest) b x y e =
    let k = one_kind x y e (omega arith) in
    let later = same_width img page page₁ _ rest (rest_of b) (view x (omega arith)).after (after_both x y e (omega arith)) (sizes_after x y e (omega arith))
    in
    omega (arith, width_first b, plain_width b (omega arith) (λ z. omega arith))
same_width img page page₁ pos (rec p s r rest) nil x y e = absurd (omega arith)
same_width img page page₁ pos (rec p s r rest) (agg h cs rest₁) x y e = absurd (omega (arith, one_kind x y e (omega arith)))
same_width img page page₁ pos (rec p s r rest) (lit h c rest₁) x y e = absurd (omega (arith, one_kind x y e (omega arith)))
same_width img page page₁ pos (rec p s r rest) (rec p₁ s₁ r₁ rest₁) x y e =
    let v = view x (omega arith) in
    let w = view y (omega arith) in
    let z : p₁ ≡ p = sym (w.name_is refl) ∙ v.name_is refl in
    let inner : width r ≡ width r₁ =
    one_page img p page page₁ r r₁ (λ g g₁ n. same_width img g g₁ n r r₁) v.under (subst (λ (n : ℕ). OnPage img n page₁ r₁) z w.under) in
    omega (arith, same_width img page page₁ (pos + 8) rest rest₁ v.after w.after (omega arith))

-- So a page's record shows as many nodes however it is read.
page_width : (img : List ℕ) (p holder holder₁ : ℕ) (a b : Row) → OnPage img p holder a → OnPage img p holder₁ b → width a ≡ width b
page_width img p holder holder₁ a b = one_page img p holder holder₁ a b (λ page page₁ pos. same_width img page page₁ pos a b)

-- ── the table of a root record ──

-- For each page named in a row that stands: the record there, with the table's entry.
told_at : (img c : List ℕ) (page pos : ℕ) (row : Row) → Here img page pos row → Told c row → (q : ℕ) → 1 ≤ count q row
    → (holder : ℕ) × (r : Row) × OnPage img q holder r × (get_or c q 0 ≡ width r)
told_at img c page pos nil x t q k = absurd (omega arith)
told_at img c page pos (agg h cs rest) x t q k =
    let v = view x (omega arith) in
    either (count q cs) (count q rest) k (told_at img c page (pos + 6) cs v.children t.0 q)
    (told_at img c page (pos + (6 + size cs)) rest v.after t.1 q)
told_at img c page pos (lit h b rest) x t q k = told_at img c page (pos + (6 + length b)) rest (view x (omega arith)).after t q k
told_at img c page pos (rec p s r rest) x t q k =
    let v = view x (omega arith) in
    go v.under (eqb q p) refl k
    (told_at img c p (page_size * p + base r) r v.under.here t.1 q)
    (told_at img c page (pos + 8) rest v.after t.2 q)
  where
    Entry : Type 0
    Entry = (holder : ℕ) × (r : Row) × OnPage img q holder r × (get_or c q 0 ≡ width r)

    go : OnPage img p page r → (b : Bool) → eqb q p ≡ b → 1 ≤ cond b 1 0 + count q r + count q rest → (1 ≤ count q r → Entry) → (1 ≤ count q rest → Entry)
        → Entry
    go u true e k inner after =
        let z : q ≡ p = eqb-true q p e in
        (page, r, subst (λ (n : ℕ). OnPage img n page r) (sym z) u, ap (λ (n : ℕ). get_or c n 0) z ∙ t.0)
    go u false e k inner after = either (count q r) (count q rest) (omega arith) inner after

-- The table of the store that an image reads as is right for the image: there is one such store.
pub widths : (img c : List ℕ) (st : Config) (root : Row) → Reads img st root → Table st root c → Widths img c
widths img c st root x t = record {
  long = omega (arith, reads_length img st root x, t.long);
  told = told;
  store = λ a b y. one a b (unique img (st, root) (a, b) x y);
}
  where
    one : (a : Config) (b : Row) → ◌≡◌ {A = Config × Row} (st, root) (a, b) → Table a b c
    one a b e = subst (λ (z : Config × Row). Table z.0 z.1 c) e t

    told : (p holder : ℕ) (r : Row) → 1 ≤ holder → OnPage img p holder r → get_or c p 0 ≡ width r
    told p holder r h o =
        let g = o.here.on in
        let inside : p < st.pages = omega (arith, g.inside, reads_length img st root x) in
        let named : 1 ≡ cond (eqb p 1) 1 0 + count p root + 0 = sym o.state ∙ mark_times img st root x p g.low inside ∙ pages_count root p in
        go (eqb p 1) refl named
      where
        go : (b : Bool) → eqb p 1 ≡ b → 1 ≡ cond b 1 0 + count p root + 0 → get_or c p 0 ≡ width r
        go true e n =
            let z : p ≡ 1 = eqb-true p 1 e in
            let w = subst (λ (n : ℕ). OnPage img n holder r) z o in
            absurd (omega (arith, w.back, (root_page_lem img st root x).back))
        go false e n =
            let f = told_at img c 1 page_size root (root_here img st root x) t.told p (omega arith) in
            f.3 ∙ page_width img p f.0 holder f.1 r f.2 o
