-- What stands in a record, header after header, and where each record stands in the document order.
use Rattle.std.specs.Prelude.{◌≡◌, List, [], ◌∷◌, ◌++◌, ℕ, suc, ◌+◌, ◌*◌, length}
use Rattle.model.specs.Limits.{page_size}
use Rattle.model.specs.Row.{Row, nil, agg, lit, rec, size, base}

-- A node, or a proxy with the record that it stands for, at a byte of the image.
pub data Item : Type 0 where
  node : (pos : ℕ) → Item
  proxy : (pos page : ℕ) → (row : Row) → Item

-- The items of a row that stands at pos, one header after the other, without those of the records below.
abbrev pub items : (pos : ℕ) → Row → List Item
items pos nil = []
items pos (agg h cs rest) = node pos ∷ items (pos + 6) cs ++ items (pos + (6 + size cs)) rest
items pos (lit h c rest) = node pos ∷ items (pos + (6 + length c)) rest
items pos (rec p s r rest) = proxy pos p r ∷ items (pos + 8) rest

-- Where the nodes that a row shows start, in document order.
abbrev pub spots : (pos : ℕ) → Row → List ℕ
spots pos nil = []
spots pos (agg h cs rest) = pos ∷ spots (pos + 6) cs ++ spots (pos + (6 + size cs)) rest
spots pos (lit h c rest) = pos ∷ spots (pos + (6 + length c)) rest
spots pos (rec p s r rest) = spots (page_size * p + base r) r ++ spots (pos + 8) rest

abbrev pub shows : Item → List ℕ
shows (node pos) = pos ∷ []
shows (proxy pos p r) = spots (page_size * p + base r) r

abbrev pub expand : List Item → List ℕ
expand [] = []
expand (i ∷ is) = shows i ++ expand is

-- A record of the store: its page and holder, its row, the nodes before it and after it in document order, and how deep it is nested.
pub data In (root : Row) : (page holder : ℕ) → (row : Row) → (before after : List ℕ) → (depth : ℕ) → Type 0 where
  top : In root 1 0 root [] [] 0
  sub : {page holder : ℕ} {row : Row} {before after : List ℕ} {depth : ℕ} → In root page holder row before after depth
      → (xs ys : List Item) (pos p : ℕ) (r : Row) → items (page_size * page + base row) row ≡ xs ++ proxy pos p r ∷ ys
      → In root p page r (before ++ expand xs) (expand ys ++ after) (suc depth)
