-- The walk over the top nodes of a row that counts what they show by a table.
use Rattle.std.specs.Prelude.{◌≡◌, refl, Bool, true, false, cond, eqb, List, ℕ, ◌+◌, ◌<◌, ◌≤◌, length, get_or}
use Rattle.std.proofs.Common.{ap, arith, eqb-true}
use Rattle.std.proofs.lemmas.Bool.{eqb-false}
use Rattle.model.specs.Limits.{most_pages}
use Rattle.model.specs.Row.{Row, nil, agg, lit, rec, size}
use Rattle.model.specs.Reading.{size_at, name_at, kind_at}
use Rattle.theory_row_bytes.specs.RowAt.{RowAt, FirstNode, first_node, row_whole}
use Rattle.theory_rows.specs.Laws.{length_bytes}
use Rattle.read_find.specs.Shown.{shown_at, Counts}
use Rattle.grow_pages.specs.Links.{Below, Linked}
use Rattle.grow_widths.specs.Tally.{tallied}

-- At pos: what is left of the bytes is a row, which brings the sum n to the total.
pub record Tallying (l u : List ℕ) (pos n total : ℕ) : Type 0 where
  pub row : Row
  pub stands : RowAt l pos row
  pub ends : pos + size row ≡ length l
  pub small : size row < 65536
  pub below : Below most_pages row
  pub held : Below (length u) row
  pub sum : n + tallied u row ≡ total

module _ (l u : List ℕ) (pos n total : ℕ) where
  -- How it goes on from the header at pos: at a proxy, and at another node.
  abbrev AtProxy : Type 0
  AtProxy = kind_at l pos ≡ 3 → (size_at l pos ≡ 8) × ((name_at l pos < length u) × Tallying l u (pos + size_at l pos) (n + get_or u (name_at l pos) 0) total)

  abbrev AtNode : Type 0
  AtNode = (kind_at l pos ≡ 3 → ⊥) → Tallying l u (pos + size_at l pos) (n + 1) total

  pub record TallyStep : Type 0 where
    pub more : 6 ≤ size_at l pos
    pub within : pos + size_at l pos ≤ length l
    pub proxy : AtProxy
    pub past : AtNode

  goes : (r : Row) → FirstNode l pos r → pos + size r ≡ length l → size r < 65536 → Below most_pages r → Below (length u) r → n + tallied u r ≡ total → AtProxy × AtNode
  goes nil v z t b d e = absurd (omega (arith, v.more))
  goes (agg lb cs rest) v z t b d e = (
    λ k. absurd (omega (arith, v.kind_is)),
    λ k. rw v.size_is (record { row = rest; stands = v.rest; ends = omega arith; small = omega arith; below = b.1; held = d.1; sum = omega arith }),
  )
  goes (lit lb c rest) v z t b d e = (
    λ k. absurd (omega (arith, v.kind_is)),
    λ k. rw v.size_is (record { row = rest; stands = v.rest; ends = omega arith; small = omega arith; below = b; held = d; sum = omega arith }),
  )
  goes (rec p x y rest) v z t b d e =
      let name = v.name_is refl (omega (arith, b.0)) in
      let next : Tallying l u (pos + 8) (n + get_or u p 0) total =
      record { row = rest; stands = v.rest; ends = omega arith; small = omega arith; below = b.1; held = d.1; sum = omega arith } in
      (λ k. (v.size_is, (rw name d.0, rw (name, v.size_is) next)), λ k. absurd (k v.kind_is))

  pub tally_step : Tallying l u pos n total → pos < length l → TallyStep
  tally_step s h =
      let v = first_node l pos s.row (omega (arith, s.ends)) s.small s.stands in
      let (p, q) = goes s.row v s.ends s.small s.below s.held s.sum in
      record { more = omega (arith, v.size_is, v.more); within = omega (arith, v.size_is, v.total, s.ends); proxy = p; past = q }

  -- By what the table has for the node at pos.
  pub tally_counts : Tallying l u pos n total → pos < length l → Counts l u pos
  tally_counts s h =
      let v = tally_step s h in
      record { inside = h; named = λ k. let (a, b) = v.proxy k in (omega (arith, v.within), b.0) }

  pub tally_on : Tallying l u pos n total → pos < length l → Tallying l u (pos + size_at l pos) (n + shown_at l u pos) total
  tally_on s h = go (eqb (kind_at l pos) 3) refl
    where
      go : (b : Bool) → eqb (kind_at l pos) 3 ≡ b → Tallying l u (pos + size_at l pos) (n + cond b (get_or u (name_at l pos) 0) 1) total
      go true e = ((tally_step s h).proxy (eqb-true (kind_at l pos) 3 e)).1.1
      go false e = (tally_step s h).past (eqb-false (kind_at l pos) 3 e)

  pub tally_end : Tallying l u pos n total → length l ≤ pos → n ≡ total
  tally_end s h = omega (arith, none s.row (omega (arith, s.ends)), s.sum)
    where
      none : (r : Row) → size r ≡ 0 → tallied u r ≡ 0
      none nil e = refl
      none (agg lb cs rest) e = absurd (omega arith)
      none (lit lb c rest) e = absurd (omega arith)
      none (rec p t x rest) e = absurd (omega arith)

-- The bytes l are a row, and the table u has an entry for each page that it names.
pub record Counting (l u : List ℕ) : Type 0 where
  pub linked : Linked l most_pages
  pub held : Below (length u) linked.row

pub tally_start : (l u : List ℕ) (w : Counting l u) → Tallying l u 0 0 (tallied u w.linked.row)
tally_start l u w =
    let k = w.linked in
    record {
      row = k.row;
      stands = row_whole k.is;
      ends = omega (arith, ap length k.is, length_bytes k.row);
      small = k.small;
      below = k.below;
      held = w.held;
      sum = omega arith;
    }

-- Proxies that name pages of an image name pages of a longer table.
pub below_most : (n m : ℕ) → n ≤ m → (r : Row) → Below n r → Below m r
below_most n m h nil b = tt
below_most n m h (agg l cs rest) b = (below_most n m h cs b.0, below_most n m h rest b.1)
below_most n m h (lit l c rest) b = below_most n m h rest b
below_most n m h (rec p s r rest) b = (omega (arith, b.0), below_most n m h rest b.1)

abbrev pub counting : {l u : List ℕ} {n : ℕ} → n ≤ most_pages → n ≤ length u → Linked l n → Counting l u
counting {l} {u} {n} h k w = record {
  linked = record { row = w.row; is = w.is; below = below_most n most_pages h w.row w.below; small = w.small };
  held = below_most n (length u) k w.row w.below;
}
