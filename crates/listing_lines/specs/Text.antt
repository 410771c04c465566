-- What the listing program prints, as bytes. Definitions only.
use Rattle.std.specs.Prelude.{cond, List, [], ◌∷◌, ◌++◌, ℕ, zero, suc, ◌+◌, ◌-◌, ◌/◌, ◌%◌, length, ltb, eqb}
use Rattle.model.specs.Row.{Row, Config}
use Rattle.model.specs.Tree.{shown, Node, nodes}
use Rattle.model.specs.Common.{opened, on_store, record_pages}

-- A digit below 16: 0 to 9, then a to f.
abbrev pub digit : ℕ → ℕ
digit d = cond (ltb d 10) (48 + d) (87 + d)

-- A number in decimal, without zeros in front. The fuel is any number above n.
unfoldable pub decimal_by : (fuel n : ℕ) → List ℕ
decimal_by zero n = []
decimal_by (suc k) n = let more = decimal_by k (n / 10) ++ (digit (n % 10) ∷ []) in cond (ltb n 10) (digit n ∷ []) more

unfoldable pub decimal_of : ℕ → List ℕ
decimal_of n = decimal_by (suc n) n

-- Bytes in lowercase hexadecimal, two digits each.
unfoldable pub hex_of : List ℕ → List ℕ
hex_of [] = []
hex_of (b ∷ bs) = digit (b / 16) ∷ digit (b % 16) ∷ hex_of bs

-- Content, or `-` when it is empty.
unfoldable pub content_of : List ℕ → List ℕ
content_of [] = 45 ∷ []
content_of (b ∷ bs) = hex_of (b ∷ bs)

-- The line of a node: level, A or L, label, content, origin; a space between them.
unfoldable pub line_of : (level letter label : ℕ) → (content : List ℕ) → (origin : ℕ) → List ℕ
line_of level letter label content origin =
    decimal_of level ++ (32 ∷ []) ++ (letter ∷ []) ++ (32 ∷ []) ++ decimal_of label ++ (32 ∷ []) ++ content_of content
    ++ (32 ∷ []) ++ decimal_of origin ++ (10 ∷ [])

-- The letters A and L.
abbrev pub letter_of : (kind : ℕ) → ℕ
letter_of kind = cond (eqb kind 1) 65 76

-- The lines of nodes in the order given; a node with an empty path has the level `top`.
unfoldable pub lines_of : (top : ℕ) → List Node → List ℕ
lines_of top [] = []
lines_of top (n ∷ ns) = line_of (top + length n.path) (letter_of n.kind) n.head.label n.content n.head.origin ++ lines_of top ns

-- `pages P free F records R`.
unfoldable pub head_line : (pages free records : ℕ) → List ℕ
head_line p f r =
    (112 ∷ 97 ∷ 103 ∷ 101 ∷ 115 ∷ 32 ∷ []) ++ decimal_of p ++ (32 ∷ 102 ∷ 114 ∷ 101 ∷ 101 ∷ 32 ∷ []) ++ decimal_of f
    ++ (32 ∷ 114 ∷ 101 ∷ 99 ∷ 111 ∷ 114 ∷ 100 ∷ 115 ∷ 32 ∷ []) ++ decimal_of r ++ (10 ∷ [])

-- `refused N`.
unfoldable pub refused_line : (number : ℕ) → List ℕ
refused_line n = (114 ∷ 101 ∷ 102 ∷ 117 ∷ 115 ∷ 101 ∷ 100 ∷ 32 ∷ []) ++ decimal_of n ++ (10 ∷ [])

-- `over 15 pages`.
abbrev pub over_line : List ℕ
over_line = 111 ∷ 118 ∷ 101 ∷ 114 ∷ 32 ∷ 49 ∷ 53 ∷ 32 ∷ 112 ∷ 97 ∷ 103 ∷ 101 ∷ 115 ∷ 10 ∷ []

-- The listing of a store: the head line, then one line a node in document order. Page 0 is neither free nor a record page.
unfoldable pub listing_of : Config → Row → List ℕ
listing_of st root =
    let n = length (record_pages root) in
    head_line st.pages (st.pages - 1 - n) n ++ lines_of 1 (nodes (shown root))

-- The same of an image, and the line of one that is refused.
unfoldable pub listing_on : (img : List ℕ) → List ℕ
listing_on img = on_store (opened img) refused_line listing_of

-- What is printed for an input: more than 15 pages are not looked at.
unfoldable pub printed : (input : List ℕ) → List ℕ
printed input = cond (ltb 61440 (length input)) over_line (listing_on input)
