-- What is left of the record on a page without one of its nodes.
use Rattle.std.specs.Prelude.{◌≡◌, refl, Bool, true, false, List, [], ℕ, ◌+◌, ◌*◌, ◌-◌, ◌≤◌, ◌<◌, length, take, drop, None, Some}
use Rattle.std.proofs.Common.{sym, ap, subst, ◌∙◌, true≢false, arith}
use Rattle.model.specs.Limits.{page_size, capacity}
use Rattle.model.specs.Row.{Head, Row, nil, agg, lit, rec, ◌⊹◌, size, is_nil, node_count, lone, lone_rec, base, bytes, record_size, record_bytes, record_page}
use Rattle.model.specs.Row.{record_on, count}
use Rattle.model.specs.Reading.{page_of, used_at, kind_at, name_at}
use Rattle.model.specs.Spot.{Position, here, inside, fill}
use Rattle.base_numbers.specs.Over.{over}
use Rattle.theory_rows.specs.Laws.{nodes_some, size-⊹, nodes_nil, nodes_size}
use Rattle.theory_rows.specs.Bound.{is_nil-⊹}
use Rattle.theory_rows.specs.Pages.{count-⊹}
use Rattle.theory_rows.specs.Image.{length_record}
use Rattle.theory_decoding.specs.Valid.{names_own}
use Rattle.theory_layout.specs.Here.{PageIn}
use Rattle.theory_row_bytes.specs.RowAt.{FirstNode, first_node, RecordIs, kind_of, name_of, row_bytes}
use Rattle.theory_growth.specs.Chain.{size_fill, count_refill, offset_in}
use Rattle.theory_removal.specs.Keeps.{Proxy}
use Rattle.grow_splice.specs.Position.{is_inside}
use Rattle.grow_splice.specs.Splice.{KeepsRoot, Splicing, many_keeps, take_out}
use Rattle.grow_locate.specs.Parent.{holder_in, at_before}
use Rattle.grow_replace_proxy.specs.Lift.{page_used, page_part}
use Rattle.remove_record.specs.declared.Remnant.{Remnant}
use Rattle.remove_record.specs.declared.Remnant.TheVariants as remnant
use Rattle.remove_record.specs.declared.Sibling.{Sibling}
use Rattle.remove_record.specs.Sibling.{Losing, SiblingIs}

-- A record stands on `page`; `node`, one node of `gone` bytes, is to go from it: it stands at the byte pos of the record, in the node at par, and `rest` after
-- it. At the top of the record's row it has another beside it.
pub record Removing (img : List ℕ) (page pos par gone : ℕ) : Type 0 where
  pub position : Position
  pub node : Row
  pub rest : Row
  pub settled : Bool
  pub up : ℕ
  pub on : PageIn img page
  pub is : page_of img page ≡ record_page (record_on page settled up (fill position (node ⊹ rest)))
  pub small : record_size (fill position (node ⊹ rest)) ≤ capacity
  pub names : (q : ℕ) → 1 ≤ count q (fill position (node ⊹ rest)) → PageIn img q
  pub one : node_count node ≡ 1
  pub goes : size node ≡ gone
  pub offset : pos ≡ offset_in position (node ⊹ rest)
  pub holder : par ≡ holder_in position (node ⊹ rest)
  pub beside : is_inside position ≡ false → 2 ≤ node_count (fill position (node ⊹ rest))

-- The record's row without the node.
abbrev pub reduced : {img : List ℕ} {page pos par gone : ℕ} → Removing img page pos par gone → Row
reduced w = fill w.position w.rest

-- What is left: one proxy, and the buffer as it was; or a record, at the buffer's front.
pub record Reduced {img : List ℕ} {page pos par gone : ℕ} (w : Removing img page pos par gone) (r : Remnant) (was is : List ℕ) : Type 0 where
  pub proxy : (x : Proxy (reduced w)) → (r ≡ remnant.Proxy x.page) × PageIn img x.page × (is ≡ was)
  pub other : lone_rec (reduced w) ≡ false → (r ≡ remnant.Record (record_size (reduced w))) × (is ≡ over 0 (record_bytes (reduced w)) was)

-- ── one proxy or not ──

proxy_lone : (r : Row) → Proxy r → lone_rec r ≡ true
proxy_lone r x = ap lone_rec x.is

-- Two nodes or more are not one.
many_apart : (r : Row) → 2 ≤ node_count r → lone_rec r ≡ false
many_apart nil h = refl
many_apart (agg l cs rest) h = refl
many_apart (lit l c rest) h = refl
many_apart (rec p s r rest) h = nodes_some rest (omega arith)

-- Nor is a row with an aggregate.
agg_apart : (left : Row) (h : Head) (cs right : Row) → lone_rec (left ⊹ agg h cs right) ≡ false
agg_apart nil h cs right = refl
agg_apart (agg l x left) h cs right = refl
agg_apart (lit l c left) h cs right = refl
agg_apart (rec p s r left) h cs right = is_nil-⊹ left (agg h cs right) refl

keeps_apart : (s : Position) (x : Row) → (is_inside s ≡ false → 2 ≤ node_count (fill s x)) → lone_rec (fill s x) ≡ false
keeps_apart (here left) x k = many_apart (left ⊹ x) (k refl)
keeps_apart (inside left h right s) x k = agg_apart left h (fill s x) right

-- One node that is no proxy is a record's root.
root_alone : (r : Row) → node_count r ≡ 1 → (kind_of r ≡ 3 → ⊥) → (lone r ≡ true) × (lone_rec r ≡ false)
root_alone nil e k = absurd (omega arith)
root_alone (agg h cs rest) e k = (ap is_nil (nodes_nil rest (omega arith)), refl)
root_alone (lit h c rest) e k = (ap is_nil (nodes_nil rest (omega arith)), refl)
root_alone (rec p s x rest) e k = absurd (k refl)

-- One that is a proxy names its page.
proxy_alone : (r : Row) → node_count r ≡ 1 → kind_of r ≡ 3 → (lone_rec r ≡ true) × (1 ≤ count (name_of r) r)
proxy_alone nil e k = absurd (omega arith)
proxy_alone (agg h cs rest) e k = absurd (omega arith)
proxy_alone (lit h c rest) e k = absurd (omega arith)
proxy_alone (rec p s x rest) e k = (ap is_nil (nodes_nil rest (omega arith)), names_own p s x rest)

proxy_size : (r : Row) → kind_of r ≡ 3 → 8 ≤ size r
proxy_size nil k = absurd (omega arith)
proxy_size (agg h cs rest) k = absurd (omega arith)
proxy_size (lit h c rest) k = absurd (omega arith)
proxy_size (rec p s x rest) k = omega arith

-- ── the record ──

module _ {img : List ℕ} {page pos par gone : ℕ} (w : Removing img page pos par gone) where
  abbrev row : Row
  row = fill w.position (w.node ⊹ w.rest)

  pub used : used_at img (page_size * page) ≡ record_size row
  used = page_used img (record_on page w.settled w.up row) w.is w.small

  pub part : (n : ℕ) → n ≡ used_at img (page_size * page)
      → RecordIs (take (page_size * page + n - page_size * page) (drop (page_size * page) img)) row
  part n e = page_part img (record_on page w.settled w.up row) w.is w.small n e

  -- A page that is named by what is left is one of the image.
  named : (q : ℕ) → 1 ≤ count q (reduced w) → PageIn img q
  named q h =
      w.names q (omega (arith, count_refill q w.position (w.node ⊹ w.rest) w.rest, count-⊹ q w.node w.rest))

  module _ (l : List ℕ) (e : RecordIs l row) where
    pub long : length l ≤ capacity
    long = omega (arith, ap length e, length_record row, w.small)

    abbrev pub losing : Losing l pos par
    losing = record {
      position = w.position;
      node = w.node;
      rest = w.rest;
      is = e;
      small = w.small;
      one = w.one;
      offset = w.offset;
      holder = w.holder;
      beside = w.beside;
    }

    -- ── a record that keeps its root ──

    module _ (s : SiblingIs losing None) where
      pub keeps_root : KeepsRoot w.position (w.node ⊹ w.rest) w.rest
      keeps_root k = many_keeps w.position (w.node ⊹ w.rest) w.rest (w.beside k) (s k) k

      -- Where `splice` takes it out.
      abbrev pub out_place : (new : List ℕ) → new ≡ [] → Splicing l pos par gone new
      out_place new n =
          take_out w.position w.node w.rest l pos par gone new e w.goes (w.offset ∙ sym (at_before w.position (base row))) w.holder n
          keeps_root

      pub left_spliced : (n : ℕ) (was is : List ℕ) → n ≡ record_size (reduced w) → is ≡ over 0 (record_bytes (reduced w)) was
          → Reduced w (remnant.Record n) was is
      left_spliced n was is m k =
          let apart = keeps_apart w.position w.rest s in
          record { proxy = λ x. absurd (true≢false (sym (proxy_lone _ x) ∙ apart)); other = λ _. (ap (λ (n : ℕ). remnant.Record n) m, k) }

    -- ── one node ──

    module _ (r : Sibling) (alone : SiblingIs losing (Some r)) where
      small : size (reduced w) < 65536
      small = omega (arith, size_fill w.position (w.node ⊹ w.rest) w.rest, size-⊹ w.node w.rest, w.small)

      first : FirstNode l r.start (reduced w)
      first = first_node l r.start (reduced w) (omega (arith, nodes_size (reduced w) (omega (arith, alone.one)))) small alone.at

      pub alone_fits : (r.start + 6 ≤ r.end) × (r.end ≤ length l)
      alone_fits = (omega (arith, alone.ends, first.more, first.total), omega (arith, alone.ends, first.within))

      -- It is a proxy,
      module _ (k : kind_at l r.start ≡ 3) where
        proxy : kind_of (reduced w) ≡ 3
        proxy = sym first.kind_is ∙ k

        pub name_fits : r.start + 8 ≤ length l
        name_fits = omega (arith, proxy_size (reduced w) proxy, first.within)

        pub left_proxy : (q : ℕ) (was : List ℕ) → q ≡ name_at l r.start → Reduced w (remnant.Proxy q) was was
        left_proxy q was e =
            let v = proxy_alone (reduced w) alone.one proxy in
            let on = named (name_of (reduced w)) v.1 in
            let q-is : q ≡ name_of (reduced w) = e ∙ first.name_is proxy (omega (arith, on.high)) in
            record {
              proxy = λ x. let n : name_of (reduced w) ≡ x.page = ap name_of x.is in (ap (λ (n : ℕ). remnant.Proxy n) (q-is ∙ n), subst (PageIn img) n on, refl);
              other = λ f. absurd (true≢false (sym v.0 ∙ f));
            }

      -- or the record's root.
      pub left_root : (kind_at l r.start ≡ 3 → ⊥) → (n : ℕ) (was is : List ℕ) → n ≡ r.end - r.start
          → is ≡ over 0 (take (r.end - r.start) (drop r.start l)) was → Reduced w (remnant.Record n) was is
      left_root k n was is m e =
          let v = root_alone (reduced w) alone.one (λ z. k (first.kind_is ∙ z)) in
          let long : r.end - r.start ≡ size (reduced w) = omega (arith, alone.ends) in
          let size_is : record_size (reduced w) ≡ size (reduced w) = rw v.0 (omega arith) in
          let bytes-is : record_bytes (reduced w) ≡ bytes (reduced w) = rw v.0 in
          let content : take (r.end - r.start) (drop r.start l) ≡ record_bytes (reduced w) =
          rw long (row_bytes l r.start (reduced w) alone.at) ∙ sym bytes-is in
          record {
            proxy = λ x. absurd (true≢false (sym (proxy_lone _ x) ∙ v.1));
            other = λ _. (ap (λ (n : ℕ). remnant.Record n) (m ∙ long ∙ sym size_is), e ∙ ap (λ (z : List ℕ). over 0 z was) content);
          }
