-- Back links: each record whose proxy stands in a row names the row's page.
use Rattle.std.specs.Prelude.{◌≡◌, refl, List, ℕ, ◌+◌, ◌*◌, ◌<◌, ◌≤◌, length}
use Rattle.std.proofs.Common.{ap, ◌∙◌, arith}
use Rattle.model.specs.Limits.{most_pages, page_size, capacity}
use Rattle.model.specs.Row.{Row, nil, agg, lit, rec, ◌⊹◌, size, two, count}
use Rattle.model.specs.Reading.{size_at, name_at, kind_at}
use Rattle.theory_row_bytes.specs.RowAt.{RowAt, FirstNode, first_node, row_into, RowIs, row_whole}
use Rattle.theory_page_memory.specs.Links.{All, all_parted, self}
use Rattle.theory_rows.specs.Laws.{Parted, length_bytes, size-⊹}
use Rattle.base_numbers.specs.Over.{over}

-- What a step makes of some bytes for each page that the row names itself, one after another.
abbrev pub each : (step : ℕ → List ℕ → List ℕ) → Row → List ℕ → List ℕ
each f nil x = x
each f (agg h cs rest) x = each f rest (each f cs x)
each f (lit h c rest) x = each f rest x
each f (rec p s r rest) x = each f rest (f p x)

each-⊹ : (f : ℕ → List ℕ → List ℕ) (a b : Row) (x : List ℕ) → each f (a ⊹ b) x ≡ each f b (each f a x)
each-⊹ f nil b x = refl
each-⊹ f (agg h cs rest) b x = each-⊹ f rest b (each f cs x)
each-⊹ f (lit h c rest) b x = each-⊹ f rest b x
each-⊹ f (rec p s r rest) b x = each-⊹ f rest b (f p x)

-- The back link of a page's record set to page q; the image after that of each record that the row names is.
abbrev pub link : (q p : ℕ) → (image : List ℕ) → List ℕ
link q p img = over (page_size * p + (capacity + 4)) (two q) img

abbrev pub links : (q : ℕ) → Row → (image : List ℕ) → List ℕ
links q row img = each (link q) row img

-- Each proxy of the row names a page below n.
abbrev pub Below : (n : ℕ) → Row → Type 0
Below n = All (λ p s r. p < n)

pub below_count : (n : ℕ) (r : Row) → ((q : ℕ) → 1 ≤ count q r → q < n) → Below n r
below_count n nil f = tt
below_count n (agg h cs rest) f = (below_count n cs (λ q k. f q (omega arith)), below_count n rest (λ q k. f q (omega arith)))
below_count n (lit h c rest) f = below_count n rest f
below_count n (rec p s r rest) f = (f p (omega (arith, self p)), below_count n rest (λ q k. f q (omega arith)))

pub below_parted : (n : ℕ) → Parted (Below n)
below_parted n = all_parted (λ p s r. p < n)

-- The bytes are those of a row whose proxies name pages below n.
pub record Linked (l : List ℕ) (n : ℕ) : Type 0 where
  pub row : Row
  pub is : RowIs l row
  pub below : Below n row
  pub small : size row < 65536

-- ── the walk over the headers ──

-- At pos: what is left of the bytes is a row, whose steps lead from x to goal.
pub record Walking (l : List ℕ) (n : ℕ) (f : ℕ → List ℕ → List ℕ) (pos : ℕ) (x goal : List ℕ) : Type 0 where
  pub row : Row
  pub stands : RowAt l pos row
  pub ends : pos + size row ≡ length l
  pub small : size row < 65536
  pub below : Below n row
  pub same : each f row x ≡ goal

-- How it goes on from the header at pos.
pub record WalkStep (l : List ℕ) (n : ℕ) (f : ℕ → List ℕ → List ℕ) (pos : ℕ) (x goal : List ℕ) : Type 0 where
  pub more : 6 ≤ size_at l pos
  pub within : pos + size_at l pos ≤ length l
  pub into : kind_at l pos ≡ 1 → Walking l n f (pos + 6) x goal
  pub proxy : kind_at l pos ≡ 3
      → (size_at l pos ≡ 8) × ((name_at l pos < n) × Walking l n f (pos + 8) (f (name_at l pos) x) goal)
  pub past : (kind_at l pos ≡ 1 → ⊥) → (kind_at l pos ≡ 3 → ⊥) → Walking l n f (pos + size_at l pos) x goal

module _ (l : List ℕ) (n : ℕ) (f : ℕ → List ℕ → List ℕ) (pos : ℕ) (x goal : List ℕ) (few : n ≤ most_pages) where
  step_by : (r : Row) → RowAt l pos r → FirstNode l pos r → pos + size r ≡ length l → size r < 65536 → Below n r → each f r x ≡ goal
      → WalkStep l n f pos x goal
  step_by nil s v z t b e = absurd (omega (arith, v.more))
  step_by (agg lb cs rest) s v z t b e =
      let w = size-⊹ cs rest in
      record {
        more = omega (arith, v.size_is);
        within = omega (arith, v.size_is);
        into = λ k. record {
          row = cs ⊹ rest;
          stands = row_into l pos lb cs rest s;
          ends = omega arith;
          small = omega arith;
          below = (below_parted n).join cs rest b.0 b.1;
          same = each-⊹ f cs rest x ∙ e;
        };
        proxy = λ k. absurd (omega (arith, v.kind_is));
        past = λ k m. absurd (k v.kind_is);
      }
  step_by (lit lb c rest) s v z t b e = record {
    more = omega (arith, v.size_is);
    within = omega (arith, v.size_is);
    into = λ k. absurd (omega (arith, v.kind_is));
    proxy = λ k. absurd (omega (arith, v.kind_is));
    past = λ k m. rw v.size_is (record { row = rest; stands = v.rest; ends = omega arith; small = omega arith; below = b; same = e });
  }
  step_by (rec p u y rest) s v z t b e =
      let name = v.name_is refl (omega (arith, b.0)) in
      record {
        more = omega (arith, v.size_is);
        within = omega (arith, v.size_is);
        into = λ k. absurd (omega (arith, v.kind_is));
        proxy =
            λ k.
            (v.size_is, (rw name b.0, record { row = rest; stands = v.rest; ends = omega arith; small = omega arith; below = b.1; same = rw name e }));
        past = λ k m. absurd (m v.kind_is);
      }

  pub walk_step : Walking l n f pos x goal → pos < length l → WalkStep l n f pos x goal
  walk_step s h =
      step_by s.row s.stands (first_node l pos s.row (omega (arith, s.ends)) s.small s.stands) s.ends s.small s.below s.same

  pub walk_end_lem : Walking l n f pos x goal → length l ≤ pos → x ≡ goal
  walk_end_lem s h = none s.row (omega (arith, s.ends)) ∙ s.same
    where
      none : (r : Row) → size r ≡ 0 → x ≡ each f r x
      none nil e = refl
      none (agg lb cs rest) e = absurd (omega arith)
      none (lit lb c rest) e = absurd (omega arith)
      none (rec p t y rest) e = absurd (omega arith)

pub walk_start : (l x : List ℕ) (n : ℕ) (f : ℕ → List ℕ → List ℕ) (w : Linked l n) → Walking l n f 0 x (each f w.row x)
walk_start l x n f w = record {
  row = w.row;
  stands = row_whole w.is;
  ends = omega (arith, ap length w.is, length_bytes w.row);
  small = w.small;
  below = w.below;
  same = refl;
}
