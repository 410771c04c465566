-- Pages and nodes: what the records of an image hold, as a row of nodes, and the bytes that stand for it.
use Rattle.std.specs.Prelude.{Bool, true, false, cond, not, ◌&&◌, ◌||◌, List, [], ◌∷◌, ◌++◌, ℕ, zero, suc, ◌+◌, ◌*◌, ◌-◌, ◌/◌, ◌%◌, max, length, get_or, replicate, leb, ltb, eqb}
use Rattle.model.specs.Limits.{page_size, capacity, most_pages, most_levels, most_content, most_origin, least_target, most_target, most_tolerance, the_form}
use Rattle.model.specs.Limits.{matrix_entries, settings_size}

-- ── the row ──

-- What the header of an aggregate or a literal says besides its kind and size.
pub record Head : Type 0 where
  pub origin : ℕ
  pub label : ℕ

-- Proxies and helpers have a zero byte and label 0.
abbrev pub no_head : Head
no_head = record { origin = 0; label = 0 }

-- A row of nodes as they stand one after another: an aggregate with its children, a literal with its content, or a proxy,
-- which carries the record that it stands for: its page, whether it is settled, and what it holds.
-- A record holds one aggregate or literal, its root; or two nodes or more, which are then the children of a helper.
-- So a helper has no constructor of its own, and the whole store is the one proxy `store root`.
pub data Row : Type 0 where
  nil : Row
  agg : (head : Head) → (children rest : Row) → Row
  lit : (head : Head) → (content : List ℕ) → (rest : Row) → Row
  rec : (page : ℕ) → (settled : Bool) → (inside rest : Row) → Row

abbrev pub store : Row → Row
store root = rec 1 true root nil

infixr 66 ◌⊹◌
abbrev pub ◌⊹◌ : Row → Row → Row
nil ⊹ b = b
agg h cs rest ⊹ b = agg h cs (rest ⊹ b)
lit h c rest ⊹ b = lit h c (rest ⊹ b)
rec p s r rest ⊹ b = rec p s r (rest ⊹ b)

-- The bytes that a row takes in its record: a header has 6, a proxy 8.
abbrev pub size : Row → ℕ
size nil = 0
size (agg h cs rest) = 6 + size cs + size rest
size (lit h c rest) = 6 + length c + size rest
size (rec p s r rest) = 8 + size rest

abbrev pub is_nil : Row → Bool
is_nil nil = true
is_nil (agg h cs rest) = false
is_nil (lit h c rest) = false
is_nil (rec p s r rest) = false

-- The number of nodes of a row, not counting those inside them.
abbrev pub node_count : Row → ℕ
node_count nil = 0
node_count (agg h cs rest) = suc (node_count rest)
node_count (lit h c rest) = suc (node_count rest)
node_count (rec p s r rest) = suc (node_count rest)

-- One aggregate or literal: it is its record's root, and there is no helper.
abbrev pub lone : Row → Bool
lone nil = false
lone (agg h cs rest) = is_nil rest
lone (lit h c rest) = is_nil rest
lone (rec p s r rest) = false

-- One proxy.
abbrev pub lone_rec : Row → Bool
lone_rec nil = false
lone_rec (agg h cs rest) = false
lone_rec (lit h c rest) = false
lone_rec (rec p s r rest) = is_nil rest

-- Where a record's row starts: past the helper's header, if there is a helper.
abbrev pub base : Row → ℕ
base r = cond (lone r) 0 6

abbrev pub record_size : Row → ℕ
record_size r = base r + size r

-- ── bytes ──

-- A two-byte number, low byte first.
abbrev pub two : ℕ → List ℕ
two n = n % 256 ∷ n / 256 % 256 ∷ []

-- A node's header: kind, origin, label, size with header and all inside it.
abbrev pub header : (kind : ℕ) → Head → (size : ℕ) → List ℕ
header k h n = k ∷ h.origin ∷ two h.label ++ two n

-- Kind 1 aggregate, 2 literal, 3 proxy.
abbrev pub bytes : Row → List ℕ
bytes nil = []
bytes (agg h cs rest) = header 1 h (6 + size cs) ++ bytes cs ++ bytes rest
bytes (lit h c rest) = header 2 h (6 + length c) ++ c ++ bytes rest
bytes (rec p s r rest) = header 3 no_head 8 ++ two p ++ bytes rest

-- Kind 4 helper.
abbrev pub record_bytes : Row → List ℕ
record_bytes r = cond (lone r) (bytes r) (header 4 no_head (6 + size r) ++ bytes r)

-- The fixed table of what may stand where: five entries a holder, one for each kind; holder 0 is a record's page.
unfoldable pub standing : List ℕ
standing =
    0 ∷ 1 ∷ 1 ∷ 0 ∷ 1
    ∷ 0 ∷ 1 ∷ 1 ∷ 1 ∷ 0
    ∷ 0 ∷ 0 ∷ 0 ∷ 0 ∷ 0
    ∷ 0 ∷ 0 ∷ 0 ∷ 0 ∷ 0
    ∷ 0 ∷ 1 ∷ 1 ∷ 1 ∷ 0 ∷ []

unfoldable pub may_stand : (holder kind : ℕ) → Bool
may_stand holder kind = eqb (get_or standing (holder * 5 + kind) 0) 1

-- Every node of a row, and of the records below it, stands where the table lets it: `holder` is the kind that the row stands in.
abbrev pub by_table : (holder : ℕ) → Row → Bool
by_table holder nil = true
by_table holder (agg h cs rest) = may_stand holder 1 && by_table 1 cs && by_table holder rest
by_table holder (lit h c rest) = may_stand holder 2 && by_table holder rest
by_table holder (rec p s r rest) = may_stand holder 3 && cond (lone r) (by_table 0 r) (may_stand 0 4 && by_table 4 r) && by_table holder rest

-- ── pages ──

-- A record on its page; the holder is the page whose record holds the proxy.
pub record Held : Type 0 where
  pub page : ℕ
  pub settled : Bool
  pub holder : ℕ
  pub row : Row

abbrev pub record_on : (page : ℕ) → (settled : Bool) → (holder : ℕ) → Row → Held
record_on p s q r = record { page = p; settled = s; holder = q; row = r }

-- The records that a row's proxies stand for, each before those that it holds; the row is in the record of page `holder`.
abbrev pub records : (holder : ℕ) → Row → List Held
records holder nil = []
records holder (agg h cs rest) = records holder cs ++ records holder rest
records holder (lit h c rest) = records holder rest
records holder (rec p s r rest) = record_on p s holder r ∷ records p r ++ records holder rest

-- The settings with their split matrix.
pub record Config : Type 0 where
  pub pages : ℕ
  pub target : ℕ
  pub tolerance : ℕ
  pub form : ℕ
  pub matrix : List ℕ

-- A page's last 16 bytes: 1 record or 2 settings; 1 if settled; the length used; the holder's page.
abbrev pub trailer : (kind settled used holder : ℕ) → List ℕ
trailer k s n h = k ∷ s ∷ two n ++ two h ++ replicate 10 0

abbrev pub record_page : Held → List ℕ
record_page h = record_bytes h.row ++ replicate (capacity - record_size h.row) 0
    ++ trailer 1 (cond h.settled 1 0) (record_size h.row) h.holder

abbrev pub settings_page : Config → List ℕ
settings_page st = two st.pages ++ (st.target ∷ 0 ∷ two st.tolerance) ++ two st.form ++ replicate 8 0 ++ st.matrix
    ++ replicate (capacity - settings_size) 0 ++ trailer 2 0 settings_size 0

-- Page q: its record, or free, all zero.
abbrev pub page_at : List Held → ℕ → List ℕ
page_at [] q = replicate page_size 0
page_at (h ∷ hs) q = cond (eqb q h.page) (record_page h) (page_at hs q)

abbrev pub pages_from : List Held → (count q : ℕ) → List ℕ
pages_from hs zero q = []
pages_from hs (suc k) q = page_at hs q ++ pages_from hs k (suc q)

-- Page 0 the settings, page 1 the root record, settled and with no holder, then the others.
unfoldable pub image : Config → Row → List ℕ
image st root = settings_page st ++ pages_from (records 0 (store root)) (st.pages - 1) 1

-- ── what passes the check ──

abbrev pub every : (ℕ → Bool) → List ℕ → Bool
every f [] = true
every f (x ∷ xs) = f x && every f xs

abbrev pub is_byte : ℕ → Bool
is_byte x = ltb x 256

-- A matrix entry: 0 (apart) or 2 (free choice).
abbrev pub is_entry : ℕ → Bool
is_entry x = eqb x 0 || eqb x 2

-- Target, tolerance, form, matrix and page count are in range.
unfoldable pub in_range : Config → Bool
in_range st = leb 2 st.pages && leb st.pages most_pages && leb least_target st.target && leb st.target most_target
    && leb st.tolerance most_tolerance && eqb st.form the_form && eqb (length st.matrix) matrix_entries && every is_entry st.matrix

abbrev pub head_fits : Head → Bool
head_fits h = leb h.origin most_origin && ltb h.label 65536

-- A record fits its page, and its root is one aggregate or literal, or, unless it is settled, a helper with two children or more.
abbrev pub record_fits : (settled : Bool) → Row → Bool
record_fits s r = leb (record_size r) capacity && (lone r || (not s && leb 2 (node_count r)))

abbrev pub fits : Row → Bool
fits nil = true
fits (agg h cs rest) = head_fits h && fits cs && fits rest
fits (lit h c rest) = head_fits h && leb (length c) most_content && every is_byte c && fits rest
fits (rec p s r rest) = record_fits s r && fits r && fits rest

abbrev pub is_agg : Row → Bool
is_agg nil = false
is_agg (agg h cs rest) = true
is_agg (lit h c rest) = false
is_agg (rec p s r rest) = false

-- The levels that a row shows: neither a proxy nor a helper is one.
abbrev pub height : Row → ℕ
height nil = 0
height (agg h cs rest) = max (1 + height cs) (height rest)
height (lit h c rest) = max 1 (height rest)
height (rec p s r rest) = max (height r) (height rest)

-- How often a page is named by a proxy.
abbrev pub count : ℕ → Row → ℕ
count q nil = 0
count q (agg h cs rest) = count q cs + count q rest
count q (lit h c rest) = count q rest
count q (rec p s r rest) = cond (eqb q p) 1 0 + count q r + count q rest

-- Pages that no proxy may name: 0, 1 and those past the image's end.
abbrev pub outside : (pages q : ℕ) → Bool
outside n q = leb q 1 || leb n q

-- Each proxy of the first row names a page that is not outside, and that the whole row names one time.
abbrev pub placed : (pages : ℕ) → (whole row : Row) → Bool
placed n whole nil = true
placed n whole (agg h cs rest) = placed n whole cs && placed n whole rest
placed n whole (lit h c rest) = placed n whole rest
placed n whole (rec p s r rest) = not (outside n p) && eqb (count p whole) 1 && placed n whole r && placed n whole rest

-- The settings and the root record are those of an image that passes.
unfoldable pub valid : Config → Row → Bool
valid st root = in_range st && fits (store root) && is_agg root && leb (height root) most_levels && placed st.pages root root
