-- Validity as statements: what the tests of `valid` say, in the form that proofs use.
use Rattle.std.specs.Prelude.{◌≡◌, Bool, true, false, cond, List, [], ◌∷◌, ℕ, ◌≤◌, ◌<◌, length}
use Rattle.model.specs.Limits.{most_pages, capacity, most_content, most_origin}
use Rattle.model.specs.Row.{Head, Row, nil, agg, lit, rec, store, lone, node_count, record_size, is_agg, height, count, outside, Config, every, is_entry}

abbrev pub IsByte : List ℕ → Type 0
IsByte [] = Unit {0}
IsByte (b ∷ bs) = (b < 256) × IsByte bs

pub record HeadFits (h : Head) : Type 0 where
  pub origin : h.origin ≤ most_origin
  pub label : h.label < 65536

-- The row of a record: one aggregate or literal, or, unless it is settled, two nodes or more under a helper.
pub data Shape : Bool → Row → Type 0 where
  one : {s : Bool} {r : Row} → lone r ≡ true → Shape s r
  more : (r : Row) → 2 ≤ node_count r → Shape false r

pub record RecordFits (settled : Bool) (r : Row) : Type 0 where
  pub fits : record_size r ≤ capacity
  pub shape : Shape settled r

abbrev pub Fits : Row → Type 0
Fits nil = Unit {0}
Fits (agg h cs rest) = HeadFits h × Fits cs × Fits rest
Fits (lit h c rest) = HeadFits h × (length c ≤ most_content) × IsByte c × Fits rest
Fits (rec p s r rest) = RecordFits s r × Fits r × Fits rest

pub record Ranges (st : Config) : Type 0 where
  pub few : 2 ≤ st.pages
  pub many : st.pages ≤ most_pages
  pub low : 64 ≤ st.target
  pub high : st.target ≤ 192
  pub tol : st.tolerance ≤ 512
  pub form : st.form ≡ 1
  pub entries : length st.matrix ≡ 256
  pub each : every is_entry st.matrix ≡ true

-- Each page is named at most one time, and those outside not at all.
abbrev pub Placed : (pages : ℕ) → Row → Type 0
Placed n root = (q : ℕ) → count q root ≤ cond (outside n q) 0 1

pub record Valid (st : Config) (root : Row) : Type 0 where
  pub ranges : Ranges st
  pub rows : Fits (store root)
  pub top : is_agg root ≡ true
  pub levels : height root ≤ 24
  pub placed : Placed st.pages root
