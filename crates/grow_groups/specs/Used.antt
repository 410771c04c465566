-- The table of widths and the map of the pages in use, by which growth knows its pages.
use Rattle.std.specs.Prelude.{◌≡◌, refl, Bool, List, [], ℕ, ◌*◌, ◌<◌, ◌≤◌, length}
use Rattle.std.proofs.Common.{◌∙◌, arith}
use Rattle.model.specs.Limits.{most_pages, page_size}
use Rattle.model.specs.Row.{Config}
use Rattle.model.specs.Growth.{Work, free_from}
use Rattle.theory_check.specs.Tests.{marked, unmarked}
use Rattle.theory_check.specs.Marks.{length_mark, length_unmark}
use Rattle.base_layout.specs.declared.Growing.{Growing}
use Rattle.grow_map.specs.Map as map
use Rattle.grow_map.specs.Map.{most_map, marked_on, unmarked_other}
use Rattle.grow_map.specs.Search.{free_within}

pub record Tables : Type 0 where
  pub widths : List ℕ
  pub map : List ℕ

abbrev pub tables : (widths map : List ℕ) → Tables
tables w m = record { widths = w; map = m }

abbrev pub used_by : Tables → (page : ℕ) → Bool
used_by u = map.used_by u.map

-- The map says of each page what growth carries along.
pub record InUse (u : Tables) (w : Work) : Type 0 where
  pub same : (x : ℕ) → x < 8 * length u.map → used_by u x ≡ w.used x

-- Pages from n on are marked as used.
abbrev pub Past : (n : ℕ) → Tables → Type 0
Past n u = map.Past n u.map

-- As long as before.
pub record AsLong (u later : Tables) : Type 0 where
  pub widths : length later.widths ≡ length u.widths
  pub map : length later.map ≡ length u.map

-- There is an entry and a bit for each of n pages.
pub record Holds (n : ℕ) (u : Tables) : Type 0 where
  pub widths : n ≤ length u.widths
  pub map : n ≤ 8 * length u.map
  pub small : length u.map ≤ most_map

pub holds_still : {n : ℕ} {u later : Tables} → Holds n u → AsLong u later → Holds n later
holds_still h l = record {
  widths = omega (arith, h.widths, l.widths);
  map = omega (arith, h.map, l.map);
  small = omega (arith, h.small, l.map);
}

-- The numbers, the tables and the image that growth goes by.
pub record Env (g : Growing) (u : Tables) (img : List ℕ) : Type 0 where
  pub few : g.setup.pages ≤ most_pages
  pub image : page_size * g.setup.pages ≤ length img
  pub low : 1 ≤ g.near
  pub start : g.near < g.setup.pages
  pub holds : Holds g.setup.pages u
  pub past : Past g.setup.pages u

-- With other tables and another image of that length.
pub env_with : {g : Growing} {u later : Tables} {img img' : List ℕ} → Env g u img → length img' ≡ length img → AsLong u later → Past g.setup.pages later
    → Env g later img'
env_with env e l past = record {
  few = env.few;
  image = omega (arith, env.image);
  low = env.low;
  start = env.start;
  holds = holds_still env.holds l;
  past = past;
}

-- Some settings with so many pages: the search for a page reads no other.
abbrev pub some_config : ℕ → Config
some_config n = record { pages = n; target = 0; tolerance = 0; form = 0; matrix = [] }

-- The search of the code, where growth goes.
abbrev pub Searched : (g : Growing) → (m : List ℕ) → (q : ℕ) → Type 0
Searched g m q = (st : Config) → g.near < st.pages → st.pages ≤ 8 * length m → map.Past st.pages m → q ≡ free_from st st.pages (map.used_by m) g.near

module _ {g : Growing} {u : Tables} {img : List ℕ} (env : Env g u img) (q : ℕ) (found : Searched g u.map q) where
  -- The page that it found is the model's,
  pub found_is : (st : Config) → st.pages ≡ g.setup.pages → q ≡ free_from st st.pages (used_by u) g.near
  found_is st e =
      found st (omega (arith, env.start)) (omega (arith, env.holds.map)) (λ x a b. env.past x (omega arith) b)

  -- inside the image.
  pub found_inside : q < g.setup.pages
  found_inside =
      let n = g.setup.pages in
      omega (
        arith,
        found_is (some_config n) refl,
        free_within (some_config n) (8 * length u.map) env.holds.map (omega (arith, env.holds.map, env.start, env.low)) (used_by u) n g.near
            env.start env.past,
      )

-- ── a page is taken, or left ──

pub past_marked : (n q : ℕ) (m : List ℕ) → q < 8 * length m → map.Past n m → map.Past n (marked m q)
past_marked n q m h past x k l = marked_on m q h x (λ _. past x k (omega (arith, length_mark m q)))

pub past_unmarked : (n q : ℕ) (m : List ℕ) → q < n → q < 8 * length m → map.Past n m → map.Past n (unmarked m q)
past_unmarked n q m i h past x k l = unmarked_other m q h x (λ e. omega arith) ∙ past x k (omega (arith, length_unmark m q))
