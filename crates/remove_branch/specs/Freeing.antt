-- The records of a list are freed, one after another; those that a record names come to the list before it goes.
use Rattle.std.specs.Prelude.{◌≡◌, refl, List, [], ◌∷◌, ◌++◌, ℕ, ◌+◌, ◌*◌, ◌-◌, ◌≤◌, ◌<◌, get_or, take, eqb}
use Rattle.std.proofs.Math.Path.{sym, ap}
use Rattle.std.proofs.Common.{ap₂, subst, ◌∙◌, get_or-drop, drop-drop}
use Rattle.std.proofs.lemmas.List.{map-append, drop-append-le}
use native.Mathlib.Omega.{arith}
use Rattle.std.proofs.Math.ListN.{length, drop, length-append, length-map}
use Rattle.model.specs.Limits.{most_pages, page_size, capacity}
use Rattle.model.specs.Row.{Row, base, record_size, Held, record_page, count}
use Rattle.model.specs.Reading.{page_of, two_at, used_at}
use Rattle.theory_rows.specs.Image.{Stored}
use Rattle.theory_rows.specs.Pages.{bit}
use Rattle.theory_decoding.specs.Decode.{used_page}
use Rattle.theory_decoding.specs.Steps.{record_count}
use Rattle.theory_check.specs.Tests.{unmarked}
use Rattle.theory_row_bytes.specs.RowAt.{RowAt, RecordAt, record_row_lem, record_first, row_part, page_record, number_on}
use Rattle.theory_layout.specs.Here.{PageIn}
use Rattle.theory_page_memory.specs.Memory.{blank}
use Rattle.theory_page_memory.specs.Links.{self}
use Rattle.read_find.specs.Rowed.{start_on, end_on}
use Rattle.grow_pages.specs.Write.{set_page}
use Rattle.grow_pages.specs.Links.{below_count}
use Rattle.remove_branch.specs.Own.{names, own, pages, pages_own, total, total-++, has, has_own, weight, weight_own, length_weight}
use Rattle.remove_branch.specs.Own.{Stands, AllStand, stand-++, own_stand}
use Rattle.remove_branch.specs.Listed.{Listing, Listed}
use Rattle.remove_branch.specs.Cleared.{Cleared, cleared_none, cleared_same, cleared_page}

-- The list, of at most so many pages, has those of these records, which stand with all below them, each page named one time.
pub record Freeing (img m list : List ℕ) (most : ℕ) : Type 0 where
  pub records : List Held
  pub stand : AllStand (page_of img) records
  pub inside : (q : ℕ) → 1 ≤ total (has q) records → PageIn img q
  pub once : (q : ℕ) → total (has q) records ≤ 1
  pub few : total weight records ≤ most
  pub is : list ≡ pages records
  pub small : most ≤ most_pages
  pub map_long : length img ≤ page_size * (8 * length m)

-- Their pages are freed, and those of all records below them.
abbrev pub Emptied : {img m list : List ℕ} {most : ℕ} → Freeing img m list most → (after map : List ℕ) → Type 0
Emptied {img} {m} w after map = Cleared (λ q. total (has q) w.records) img m after map

-- The first k of the list are freed: `times` says which pages they are. The others are the pages of the records that are left.
pub record Turn {img m list : List ℕ} {most : ℕ} (w : Freeing img m list most) (after map now : List ℕ) (k : ℕ) : Type 0 where
  pub times : ℕ → ℕ
  pub left : List Held
  pub all : (q : ℕ) → times q + total (has q) left ≡ total (has q) w.records
  pub cleared : Cleared times img m after map
  pub stand : AllStand (page_of img) left
  pub few : k + total weight left ≤ most
  pub is : drop k now ≡ pages left
  pub listed : length now ≡ k + length left

pub record First (l : List Held) : Type 0 where
  pub head : Held
  pub tail : List Held
  pub is : l ≡ head ∷ tail

first_of_lem : (l : List Held) → 1 ≤ length l → First l
first_of_lem [] h = absurd (omega arith)
first_of_lem (x ∷ l) h = record { head = x; tail = l; is = refl }

module _ {img m list : List ℕ} {most : ℕ} (w : Freeing img m list most) where
  pub turn_start : Turn w img m list 0
  turn_start = record {
    times = λ q. 0;
    left = w.records;
    all = λ q. omega arith;
    cleared = cleared_none img m;
    stand = w.stand;
    few = omega (arith, w.few);
    is = w.is;
    listed = omega (arith, ap length w.is, length-map w.records (λ (h : Held). h.page));
  }

  module _ {after map now : List ℕ} {k : ℕ} (t : Turn w after map now k) where
    pub turn_few : length now ≤ most_pages
    turn_few = omega (arith, t.listed, t.few, length_weight t.left, w.small)

    pub turn_end : length now ≤ k → Emptied w after map
    turn_end h = cleared_same same t.cleared
      where
        none : (l : List Held) (q : ℕ) → length l ≡ 0 → total (has q) l ≡ 0
        none [] q e = refl
        none (x ∷ l) q e = absurd (omega arith)

        same : (q : ℕ) → t.times q ≡ total (has q) w.records
        same q = omega (arith, t.all q, none t.left q (omega (arith, t.listed)))

    -- The next page of the list.
    module _ (some : k < length now) (p : ℕ) (at : p ≡ get_or now k 0) where
      abbrev f : First t.left
      f = first_of_lem t.left (omega (arith, t.listed))

      abbrev row : Row
      row = f.head.row

      abbrev later : List Held
      later = f.tail ++ own p row

      first_page_lem : p ≡ f.head.page
      first_page_lem =
          let z : k + 0 ≡ k = omega arith in
          at ∙ sym (get_or-drop k now 0 0 ∙ ap (λ (n : ℕ). get_or now n 0) z)
          ∙ ap (λ (l : List ℕ). get_or l 0 0) (t.is ∙ ap pages f.is)

      stands : Stands (page_of img) f.head × AllStand (page_of img) f.tail
      stands = subst (AllStand (page_of img)) f.is t.stand

      -- How often the records that are left have a page.
      parts : (q : ℕ) → t.times q + (bit (eqb q p) + count q row) + total (has q) f.tail ≡ total (has q) w.records
      parts q = omega (arith, t.all q, ap (total (has q)) f.is, ap (λ (n : ℕ). bit (eqb q n)) first_page_lem)

      inside : (q : ℕ) → 1 ≤ bit (eqb q p) + count q row → PageIn img q
      inside q h = w.inside q (omega (arith, parts q))

      pub turn_page : PageIn after p
      turn_page =
          let i = inside p (omega (arith, self p)) in
          record { low = i.low; high = i.high; inside = omega (arith, i.inside, t.cleared.long) }

      -- The map has a bit for it.
      pub turn_bit : p < 8 * length map
      turn_bit = omega (arith, turn_page.inside, t.cleared.long, t.cleared.marks.long, w.map_long)

      -- It is as it was.
      page_is : page_of after f.head.page ≡ record_page f.head
      page_is =
          subst (λ (n : ℕ). page_of after n ≡ page_of img n) first_page_lem (t.cleared.other p (omega (arith, parts p, self p, w.once p)))
          ∙ stands.0.is

      stands_at : RecordAt after (page_size * f.head.page) row
      stands_at = page_record after f.head page_is

      used_is : used_at after (page_size * f.head.page) ≡ record_size row
      unfolding two_at
      used_is = number_on after f.head.page page_is (capacity + 2) (omega arith) ∙ used_page f.head stands.0.small

      module _ (start end : ℕ) (from : start ≡ start_on after p) (to : end ≡ end_on after p) where
        start_is : start ≡ page_size * f.head.page + base row
        start_is = from ∙ ap (start_on after) first_page_lem ∙ ap (λ (n : ℕ). page_size * f.head.page + n) (record_first stands_at)

        end_is : end ≡ page_size * f.head.page + record_size row
        end_is = to ∙ ap (end_on after) first_page_lem ∙ ap (λ (n : ℕ). page_size * f.head.page + n) used_is

        pub turn_room : (start ≤ end) × (end ≤ length after)
        turn_room = let o = turn_page in (omega (arith, start_is, end_is), omega (arith, end_is, first_page_lem, o.inside, stands.0.small))

        pub turn_listing : Listing (take (end - start) (drop start after)) now most
        turn_listing = record {
          linked =
              record {
                row = row;
                is = row_part (subst (λ (n : ℕ). RowAt after n row) (sym start_is) (record_row_lem stands_at)) (omega (arith, start_is, end_is));
                below = below_count most_pages row (λ q h. (inside q (omega arith)).high);
                small = omega (arith, stands.0.small);
              };
          room =
              omega (
                arith,
                t.listed,
                t.few,
                ap length f.is,
                ap (total weight) f.is,
                length_weight f.tail,
                names_few,
              );
          small = w.small;
        }
          where
            names_few : length (names row) ≤ record_count row
            names_few =
                omega (
                  arith,
                  ap length (pages_own p row),
                  length-map (own p row) (λ (h : Held). h.page),
                  length_weight (own p row),
                  weight_own p row,
                )

        pub turn_again : (next : List ℕ) → Listed turn_listing next → Turn w (set_page p blank after) (unmarked map p) next (k + 1)
        unfolding turn_listing
        turn_again next l =
            let o = turn_page in
            record {
              times = λ q. bit (eqb q p) + t.times q;
              left = later;
              all = λ q. omega (arith, parts q, total-++ (has q) f.tail (own p row), has_own q p row);
              cleared = cleared_page t.cleared p o.inside turn_bit;
              stand = stand-++ (page_of img) f.tail (own p row) stands.1
                  (own_stand (page_of img) p row stands.0.fits (subst (λ (n : ℕ). Stored (page_of img) n row) (sym first_page_lem) stands.0.stored));
              few = omega (arith, t.few, ap (total weight) f.is, total-++ weight f.tail (own p row), weight_own p row);
              is = is;
              listed =
                  omega (
                    arith,
                    ap length l,
                    length-append now (names row),
                    t.listed,
                    ap length f.is,
                    length-append f.tail (own p row),
                    ap length (pages_own p row),
                    length-map (own p row) (λ (h : Held). h.page),
                  );
            }
          where
            rest_is : drop (k + 1) now ≡ pages f.tail
            rest_is = sym (drop-drop 1 k now) ∙ ap (drop 1) (t.is ∙ ap pages f.is)

            is : drop (k + 1) next ≡ pages later
            is =
                ap (drop (k + 1)) l
                ∙ drop-append-le (k + 1) now (names row) (omega (arith, some))
                ∙ ap₂ (λ (a b : List ℕ). a ++ b) rest_is (sym (pages_own p row))
                ∙ sym (map-append (λ (h : Held). h.page) f.tail (own p row))
