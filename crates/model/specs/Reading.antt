-- Reading an image: the one store whose image some bytes are, if they are one.
use Rattle.std.specs.Prelude.{◌≡◌, Bool, true, false, cond, ◌&&◌, List, [], ◌∷◌, ℕ, zero, suc, ◌+◌, ◌*◌, ◌/◌, ◌%◌, length, get_or, take, drop, leb, eqb}
use Rattle.std.proofs.Math.Option.{Option, none, some}
use Rattle.model.specs.Limits.{page_size, capacity, most_pages, matrix_entries}
use Rattle.model.specs.Row.{Head, Row, nil, agg, lit, rec, Config, image, valid}

-- The bytes pass the check and read as the store with these settings and this root record. This is the meaning of an image;
-- `reading`, below, decides it (laws: Reading.one_reading), and how it does so concerns nobody above that theorem.
pub record Reads (img : List ℕ) (st : Config) (root : Row) : Type 0 where
  pub passes : valid st root ≡ true
  pub same : img ≡ image st root

-- An image's length: 2 to 1,024 pages.
unfoldable pub length_ok : ℕ → Bool
length_ok n = eqb (n % page_size) 0 && leb 2 (n / page_size) && leb (n / page_size) most_pages

-- ── decoding ──

unfoldable pub two_at : (bytes : List ℕ) → (at : ℕ) → ℕ
two_at s i = get_or s i 0 + 256 * get_or s (i + 1) 0

-- A node's header at a byte: its kind, what the header says besides, its size with all inside it; for a proxy the page that it names.
abbrev pub kind_at : (bytes : List ℕ) → (at : ℕ) → ℕ
kind_at s i = get_or s i 0

abbrev pub head_at : (bytes : List ℕ) → (at : ℕ) → Head
head_at s i = record { origin = get_or s (i + 1) 0; label = two_at s (i + 2) }

abbrev pub size_at : (bytes : List ℕ) → (at : ℕ) → ℕ
size_at s i = two_at s (i + 4)

abbrev pub name_at : (bytes : List ℕ) → (at : ℕ) → ℕ
name_at s i = two_at s (i + 6)

-- The trailer of the page that starts at a byte: what the page is, whether its record is settled, the length used, the page that its back link names.
abbrev pub state_at : (bytes : List ℕ) → (start : ℕ) → ℕ
state_at s i = get_or s (i + capacity) 0

abbrev pub settled_at : (bytes : List ℕ) → (start : ℕ) → ℕ
settled_at s i = get_or s (i + (capacity + 1)) 0

abbrev pub used_at : (bytes : List ℕ) → (start : ℕ) → ℕ
used_at s i = two_at s (i + (capacity + 2))

abbrev pub back_at : (bytes : List ℕ) → (start : ℕ) → ℕ
back_at s i = two_at s (i + (capacity + 4))

-- Page 0.
abbrev pub config_on : List ℕ → Config
config_on img = record { pages = two_at img 0; target = get_or img 2 0; tolerance = two_at img 4; form = two_at img 6; matrix = take matrix_entries (drop 16 img) }

abbrev pub page_of : List ℕ → ℕ → List ℕ
page_of img q = take page_size (drop (page_size * q) img)

-- The bytes of a page's record, as long as its trailer says, without a helper's header.
abbrev pub row_on : (page : List ℕ) → List ℕ
row_on page =
    let s = take (used_at page 0) page in
    cond (eqb (kind_at s 0) 4) (drop 6 s) s

-- The nodes that stand in some bytes of an image, each proxy with its record.
unfoldable pub nodes_in : (fuel : ℕ) → (img s : List ℕ) → Row
nodes_in zero img s = nil
nodes_in (suc k) img [] = nil
nodes_in (suc k) img (b ∷ t) =
    let s = b ∷ t in
    let n = size_at s 0 in
    let inside = drop 6 (take n s) in
    let page = page_of img (name_at s 0) in
    let rest = nodes_in k img (drop n s) in
    let one = agg (head_at s 0) (nodes_in k img inside) rest in
    let two = lit (head_at s 0) inside rest in
    let three = rec (name_at s 0) (eqb (settled_at page 0) 1) (nodes_in k img (row_on page)) rest in
    cond (eqb b 1) one (cond (eqb b 2) two (cond (eqb b 3) three nil))

unfoldable pub same_bytes : List ℕ → List ℕ → Bool
same_bytes [] [] = true
same_bytes [] (b ∷ t) = false
same_bytes (a ∷ s) [] = false
same_bytes (a ∷ s) (b ∷ t) = eqb a b && same_bytes s t

-- What is decoded is the reading if it is valid and its image is the bytes themselves.
unfoldable pub reading : (img : List ℕ) → Option (Config × Row)
reading img =
    let st = config_on img in
    let root = nodes_in (length img) img (row_on (page_of img 1)) in
    let found : Option (Config × Row) = some (st, root) in
    let whole = cond (same_bytes (image st root) img) found none in
    cond (valid st root) whole none
