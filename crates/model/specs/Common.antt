-- What the calls share: paths as bytes, acceptance, lent buffers, and an image as the store that it reads as.
use Rattle.std.specs.Prelude.{Bool, true, false, cond, List, [], ◌∷◌, ◌++◌, map, ℕ, ◌+◌, ◌*◌, ◌/◌, ◌%◌, length, drop, ltb, eqb}
use Rattle.std.proofs.Math.Option
use Rattle.std.proofs.Math.Option.{Option, none, some}
use Rattle.model.specs.Row.{Row, store, Held, records, Config}
use Rattle.model.specs.Tree.{Tree, shown, Node, named, place_of}
use Rattle.model.specs.Reading.{reading, length_ok}
use Rattle.model.specs.Answers.{wrong_length, not_passed, short_buffer, no_place, write_refused}
use Rattle.model.specs.declared.Place.{Place}
use Rattle.model.specs.Answers.{WriteAnswer}

-- ── paths as bytes ──

-- A path entry: four bytes, low byte first.
abbrev pub four : ℕ → List ℕ
four n = n % 256 ∷ n / 256 % 256 ∷ n / 65536 % 256 ∷ n / 16777216 % 256 ∷ []

abbrev pub path_bytes : List ℕ → List ℕ
path_bytes [] = []
path_bytes (n ∷ ns) = four n ++ path_bytes ns

-- The entries of a path, if it is whole entries.
abbrev pub entries : List ℕ → Option (List ℕ)
entries [] = some []
entries (a ∷ []) = none
entries (a ∷ b ∷ []) = none
entries (a ∷ b ∷ c ∷ []) = none
entries (a ∷ b ∷ c ∷ d ∷ s) = Option.map (λ ns. (a + 256 * b + 65536 * c + 16777216 * d) ∷ ns) (entries s)

-- The node that a path, as bytes, names.
abbrev pub named_if : Tree → Option (List ℕ) → Option Node
named_if t none = none
named_if t (some p) = named t p

abbrev pub named_by : Tree → List ℕ → Option Node
named_by t path = named_if t (entries path)

-- The entries of a path that is known to be whole.
abbrev pub or_empty : Option (List ℕ) → List ℕ
or_empty none = []
or_empty (some p) = p

abbrev pub path_of : List ℕ → List ℕ
path_of path = or_empty (entries path)

-- ── what the calls share ──

-- What is answered in place of the other where the number is not 0.
abbrev pub accept {ℓ} : {A : Type ℓ} → (number : ℕ) → (accepted refused : A) → A
accept n a r = cond (eqb n 0) a r

abbrev pub is_none {ℓ} : {A : Type ℓ} → Option A → Bool
is_none none = true
is_none (some a) = false

abbrev pub place_or : Option Place → Place
place_or none = no_place
place_or (some x) = x

-- A lent buffer after a call that writes these bytes to its front; the rest is unchanged.
abbrev pub write : (bytes buffer : List ℕ) → WriteAnswer × List ℕ
write b buffer =
    let refused : WriteAnswer × List ℕ = (write_refused short_buffer, buffer) in
    let written : WriteAnswer × List ℕ = (record { number = 0; written = length b }, b ++ drop (length b) buffer) in
    cond (ltb (length buffer) (length b)) refused written

-- ── an image ──

-- An image: refused by 1 or 3, or the store that it reads as.
pub data Opened : Type 0 where
  refused : (number : ℕ) → Opened
  holds : Config → Row → Opened

abbrev pub as_opened : Option (Config × Row) → Opened
as_opened none = refused not_passed
as_opened (some s) = holds s.0 s.1

unfoldable pub opened : (img : List ℕ) → Opened
opened img = let r = as_opened (reading img) in cond (length_ok (length img)) r (refused wrong_length)

abbrev pub on_store {ℓ} : {A : Type ℓ} → Opened → (refused : ℕ → A) → (Config → Row → A) → A
on_store (refused n) r f = r n
on_store (holds st root) r f = f st root

-- The record pages.
abbrev pub record_pages : Row → List ℕ
record_pages root = map (λ (h : Held). h.page) (records 0 (store root))

-- What an image shows: its tree, the place of a path, how many records it has.
abbrev pub tree_on : (img : List ℕ) → Option Tree
tree_on img = on_store (opened img) (λ n. none) (λ st root. some (shown root))

abbrev pub places_on : (img : List ℕ) → List ℕ → Option Place
places_on img = on_store (opened img) (λ n path. none) (λ st root. place_of root)

abbrev pub records_on : (img : List ℕ) → ℕ
records_on img = on_store (opened img) (λ n. 0) (λ st root. length (record_pages root))
