-- The map of an image: a bit for each page, right for the store that the image reads as.
use Rattle.std.specs.Prelude.{◌≡◌, true, ◌||◌, List, ℕ, ◌+◌, ◌*◌, ◌/◌, ◌%◌, ◌^◌, ◌≤◌, ◌<◌, length, get_or, take, ltb, eqb}
use Rattle.std.proofs.Common.{ap, subst, ◌∙◌, arith, get_or-take, length-take-le}
use Rattle.model.specs.Limits.{most_pages, mark_bytes, page_size}
use Rattle.model.specs.Row.{Row, Config, count, outside}
use Rattle.model.specs.Reading.{Reads, length_ok}
use Rattle.model.specs.Growth.{at_rest}
use Rattle.theory_decoding.specs.Length.{length_says}
use Rattle.theory_decoding.specs.Reading.{reads_length, unique}
use Rattle.theory_check.specs.Tests.{is_marked}
use Rattle.grow_map.specs.Map.{most_map, used_by, Shut}

-- A map says of each page whether the store uses it; pages 0 and 1 and those past the end are used.
abbrev pub Right : Config → Row → (map : List ℕ) → Type 0
Right st root m = (q : ℕ) → q < 8 * length m → used_by m q ≡ (at_rest st root).used q

pub record Mapped (img m : List ℕ) : Type 0 where
  pub long : length img ≤ page_size * (8 * length m)
  pub small : length m ≤ most_map
  pub store : (st : Config) (root : Row) → Reads img st root → Right st root m

pub mapped : (img m : List ℕ) (st : Config) (root : Row) → Reads img st root → st.pages ≤ 8 * length m → length m ≤ most_map → Right st root m → Mapped img m
mapped img m st root r most small right = record {
  long = omega (arith, reads_length img st root r);
  small = small;
  store = λ a b y. subst (λ (z : Config × Row). Right z.0 z.1 m) (unique img (st, root) (a, b) r y) right;
}

-- ── from the check's marks ──

-- Marks of the pages that the walk reached, to the byte of the image's last page.
pub record Reached (img m : List ℕ) : Type 0 where
  pub some : 1 ≤ length m
  pub long : length img ≤ page_size * (8 * length m)
  pub small : length m ≤ most_map
  pub store : (st : Config) (root : Row) → Reads img st root → (q : ℕ) → q < 8 * length m → used_by m q ≡ ltb 0 (count q root)

-- With pages 0 and 1 and those past the end they are the map.
pub shut_mapped : (img m new : List ℕ) → Reached img m → Shut (length img / page_size) m new → Mapped img new
shut_mapped img m new r s = record {
  long = omega (arith, r.long, s.long);
  small = omega (arith, r.small, s.long);
  store = λ st root y q h.
      let low : q < 8 * length m = omega (arith, s.long) in
      let pages : length img / page_size ≡ st.pages = omega (arith, reads_length img st root y) in
      s.same q low ∙ (λ i. outside (pages i) q || r.store st root y q low i);
}

-- The bytes of a map for an image of so many bytes.
abbrev pub map_bytes : ℕ → ℕ
map_bytes n = (n / page_size + 7) / 8

-- The check's marks of so many bytes.
pub reached_part : (img marks : List ℕ) (k : ℕ) → k ≡ map_bytes (length img) → length marks ≡ mark_bytes → length_ok (length img) ≡ true
    → ((st : Config) (root : Row) → Reads img st root → (q : ℕ) → q < most_pages → used_by marks q ≡ ltb 0 (count q root)) → Reached img (take k marks)
unfolding is_marked
reached_part img marks k e l ok right =
    let n = length_says (length img) ok in
    let long : length (take k marks) ≡ k = length-take-le k marks (omega (arith, n.many)) in
    record {
      some = omega (arith, n.few);
      long = omega (arith, n.whole);
      small = omega (arith, n.many);
      store = λ st root y q h.
          let at : get_or (take k marks) (q / 8) 0 ≡ get_or marks (q / 8) 0 = get_or-take k marks (q / 8) 0 (omega arith) in
          ap (λ (i : ℕ). eqb (i / 2 ^ (q % 8) % 2) 1) at ∙ right st root y q (omega (arith, n.many));
    }
