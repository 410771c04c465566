-- Images from before E1, which have a zero byte in each header where the origin stands now: the base's definitions as far as E1 changed them, all else being
-- today's, and what is claimed of such images.
use Rattle.std.specs.Prelude.{◌≡◌, ◌↔◌, Bool, true, cond, ◌&&◌, List, [], ◌∷◌, ◌++◌, ℕ, zero, suc, ◌+◌, ◌-◌, ◌*◌, length, get_or, replicate, leb, ltb, eqb}
use Rattle.std.proofs.Math.Option.{some}
use Rattle.model.specs.Limits.{page_size, capacity, most_levels, most_content}
use Rattle.model.specs.Row.{Row, nil, agg, lit, rec, store, size, lone, record_size, two, trailer, Held, records, Config, settings_page, every, is_byte}
use Rattle.model.specs.Row.{in_range, record_fits, is_agg, height, placed}
use Rattle.model.specs.Tree.{Tree, shown, Node, named, place_of}
use Rattle.model.specs.Reading.{Reads}
use Rattle.model.specs.Common.{tree_on}
use Rattle.model.specs.Calls.Check.{check_of}
use Rattle.model.specs.declared.Place.{Place}

-- ── the base's rows, bytes and check ──

-- A row of the base, whose heads are a label alone: origin 0 in each head of today's.
abbrev pub zero_origins : Row → Bool
zero_origins nil = true
zero_origins (agg h cs rest) = eqb h.origin 0 && zero_origins cs && zero_origins rest
zero_origins (lit h c rest) = eqb h.origin 0 && zero_origins rest
zero_origins (rec p s r rest) = zero_origins r && zero_origins rest

-- A node's header: kind, a zero byte, label, size with header and all inside it.
abbrev pub old_header : (kind label size : ℕ) → List ℕ
old_header k l n = k ∷ 0 ∷ two l ++ two n

abbrev pub old_bytes : Row → List ℕ
old_bytes nil = []
old_bytes (agg h cs rest) = old_header 1 h.label (6 + size cs) ++ old_bytes cs ++ old_bytes rest
old_bytes (lit h c rest) = old_header 2 h.label (6 + length c) ++ c ++ old_bytes rest
old_bytes (rec p s r rest) = old_header 3 0 8 ++ two p ++ old_bytes rest

abbrev pub old_record_bytes : Row → List ℕ
old_record_bytes r = cond (lone r) (old_bytes r) (old_header 4 0 (6 + size r) ++ old_bytes r)

abbrev pub old_record_page : Held → List ℕ
old_record_page h = old_record_bytes h.row ++ replicate (capacity - record_size h.row) 0
    ++ trailer 1 (cond h.settled 1 0) (record_size h.row) h.holder

abbrev pub old_page_at : List Held → ℕ → List ℕ
old_page_at [] q = replicate page_size 0
old_page_at (h ∷ hs) q = cond (eqb q h.page) (old_record_page h) (old_page_at hs q)

abbrev pub old_pages_from : List Held → (count q : ℕ) → List ℕ
old_pages_from hs zero q = []
old_pages_from hs (suc k) q = old_page_at hs q ++ old_pages_from hs k (suc q)

abbrev pub old_image : Config → Row → List ℕ
old_image st root = settings_page st ++ old_pages_from (records 0 (store root)) (st.pages - 1) 1

abbrev pub old_fits : Row → Bool
old_fits nil = true
old_fits (agg h cs rest) = ltb h.label 65536 && old_fits cs && old_fits rest
old_fits (lit h c rest) = ltb h.label 65536 && leb (length c) most_content && every is_byte c && old_fits rest
old_fits (rec p s r rest) = record_fits s r && old_fits r && old_fits rest

abbrev pub old_valid : Config → Row → Bool
old_valid st root = in_range st && old_fits (store root) && is_agg root && leb (height root) most_levels && placed st.pages root root

-- The bytes pass the base's check and read as the store with these settings and this root record.
pub record OldReads (img : List ℕ) (st : Config) (root : Row) : Type 0 where
  pub origins : zero_origins root ≡ true
  pub passes : old_valid st root ≡ true
  pub same : img ≡ old_image st root

-- ── what is claimed ──

-- Every node has origin 0.
abbrev pub ShowsZero : Tree → Type 0
ShowsZero t = (path : List ℕ) (n : Node) → named t path ≡ some n → n.head.origin ≡ 0

-- What the base's check accepted passes still, and shows the same tree, with origin 0 at every node.
pub record OldHolds (img : List ℕ) (root : Row) : Type 0 where
  pub passes : check_of img ≡ 0
  pub shows : tree_on img ≡ some (shown root)
  pub origins : ShowsZero (shown root)

abbrev pub OldImages : Type 0
OldImages = (img : List ℕ) (st : Config) (root : Row) → OldReads img st root → OldHolds img root

-- And the other way round: of what passes now, the base's check accepted what has origin 0 at every node.
abbrev pub OldExactly : Type 0
OldExactly = (img : List ℕ) (st : Config) (root : Row) → OldReads img st root ↔ (Reads img st root × (zero_origins root ≡ true))

-- The second byte of the header of the node at a place.
abbrev pub second_byte : (img : List ℕ) → Place → ℕ
second_byte img x = get_or img (page_size * x.page + x.offset + 1) 0

-- In any image that passes, this is the node's origin. So where it is zero in all headers, every node has origin 0.
pub record OriginsRead (img : List ℕ) (root : Row) : Type 0 where
  pub each : (path : List ℕ) (n : Node) (x : Place) → named (shown root) path ≡ some n → place_of root path ≡ some x → n.head.origin ≡ second_byte img x
  pub all : ((path : List ℕ) (x : Place) → place_of root path ≡ some x → second_byte img x ≡ 0) → ShowsZero (shown root)

abbrev pub Origins : Type 0
Origins = (img : List ℕ) (st : Config) (root : Row) → Reads img st root → OriginsRead img root
