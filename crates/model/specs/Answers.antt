-- The answers of the calls as values, and what document 01 calls them: numbers, and zeros where a call is refused.
use Rattle.std.specs.Prelude.{List, [], ◌∷◌, Bool, cond, ℕ, ℤ, replicate, pos, Option, None, Some, Result, Ok, Err}
use Rattle.model.specs.Limits.{page_size, capacity, most_pages, most_levels, most_content, most_node, most_origin, least_target, most_target, most_tolerance}
use Rattle.model.specs.Limits.{the_form, matrix_entries, mark_bytes, longest_path, longest_parent}
use Rattle.model.specs.declared.Limits.{Limits}
use Rattle.model.specs.declared.Settings.{Settings}
use Rattle.model.specs.declared.Place.{Place}
use Rattle.model.specs.declared.Kind.{Kind}
use Rattle.model.specs.declared.Kind.TheVariants.{Aggregate, Literal}
use Rattle.model.specs.declared.Origin.{Origin}
use Rattle.model.specs.declared.Origin.TheVariants.{Wire, Stored, TypedIn, Derived}
use Rattle.model.specs.declared.Refusal.{Refusal}
use Rattle.model.specs.declared.Refusal.TheVariants.{WrongLength, WrongSettings, NotPassed, LongPath, WrongKind, LongContent, NoNode, LiteralParent, PastChildren}
use Rattle.model.specs.declared.Refusal.TheVariants.{NoPlaceThere, ShortBuffer, NoFreePage, WrongOrigin, EmptyPath}
use Rattle.model.specs.declared.Inserted.{Inserted}
use Rattle.model.specs.declared.Walked.{Walked}
use Rattle.model.specs.declared.Details.{Details}
use Rattle.model.specs.declared.Next.{Next}
use Rattle.model.specs.declared.Next.TheVariants.{Node, End}

abbrev pub usual_settings : (pages : ℕ) → Settings
usual_settings n = record { pages = n; target = 128; tolerance = 409; form = 1 }

abbrev pub usual_matrix : List ℕ
usual_matrix = replicate matrix_entries 2

-- The limits as the settings type names them.
abbrev pub the_limits : Limits
the_limits = record {
  page = page_size;
  capacity = capacity;
  levels = most_levels;
  pages = most_pages;
  marks = mark_bytes;
  content = most_content;
  node = most_node;
  origin = most_origin;
  least = least_target;
  most = most_target;
  tolerance = most_tolerance;
  form = the_form;
  path = longest_path;
  parent = longest_parent;
  entries = matrix_entries;
}

-- The number of a kind.
abbrev pub kind_number : Kind → ℕ
kind_number Aggregate = 1
kind_number Literal = 2

-- The number of an origin.
abbrev pub origin_number : Origin → ℕ
origin_number Wire = 0
origin_number Stored = 1
origin_number TypedIn = 2
origin_number Derived = 3

-- The numbers of each case of Next: 1 for a node or 0 for the end, then page, offset, kind and origin.
abbrev pub next_numbers : Next → List ℕ
next_numbers (Node n) = 1 ∷ n.place.page ∷ n.place.offset ∷ kind_number n.kind ∷ origin_number n.origin ∷ []
next_numbers End = 0 ∷ 0 ∷ 0 ∷ 0 ∷ 0 ∷ []

-- ── the refusal table ──

-- In document 01's words: misfit, settings, broken, level, kind, long, absent, closed, gap, stray, short, full; E1 adds 13, E3 14.
abbrev pub wrong_length : ℕ
wrong_length = 1

abbrev pub wrong_settings : ℕ
wrong_settings = 2

abbrev pub not_passed : ℕ
not_passed = 3

abbrev pub long_path : ℕ
long_path = 4

abbrev pub wrong_kind : ℕ
wrong_kind = 5

abbrev pub long_content : ℕ
long_content = 6

abbrev pub no_node : ℕ
no_node = 7

abbrev pub literal_parent : ℕ
literal_parent = 8

abbrev pub past_children : ℕ
past_children = 9

abbrev pub no_place_there : ℕ
no_place_there = 10

abbrev pub short_buffer : ℕ
short_buffer = 11

abbrev pub no_free_page : ℕ
no_free_page = 12

abbrev pub wrong_origin : ℕ
wrong_origin = 13

abbrev pub empty_path : ℕ
empty_path = 14

-- The number of the first test that applies; an accepted call has 0. The tests of a call are in the order of the table, 13 directly after 5, 14 after 4.
abbrev pub first_refusal : List (ℕ × Bool) → ℕ
first_refusal [] = 0
first_refusal (t ∷ ts) = let r = first_refusal ts in cond t.1 t.0 r

abbrev pub refusal_number : Refusal → ℕ
refusal_number WrongLength = wrong_length
refusal_number WrongSettings = wrong_settings
refusal_number NotPassed = not_passed
refusal_number LongPath = long_path
refusal_number WrongKind = wrong_kind
refusal_number LongContent = long_content
refusal_number NoNode = no_node
refusal_number LiteralParent = literal_parent
refusal_number PastChildren = past_children
refusal_number NoPlaceThere = no_place_there
refusal_number ShortBuffer = short_buffer
refusal_number NoFreePage = no_free_page
refusal_number WrongOrigin = wrong_origin
refusal_number EmptyPath = empty_path

-- ── the answers as numbers: `number` is 0, or the refusal's with zeros in the other fields ──

pub record InsertAnswer : Type 0 where
  pub number : ℕ
  pub place : Place
  pub splits : ℕ
  pub lean : ℤ

pub record FindAnswer : Type 0 where
  pub number : ℕ
  pub place : Place

-- Of climb and records: the bytes written to the front of the lent buffer.
pub record WriteAnswer : Type 0 where
  pub number : ℕ
  pub written : ℕ

-- The content is the part of the image that starts at `start` and has `len` bytes.
pub record ReadNode : Type 0 where
  pub number : ℕ
  pub kind : ℕ
  pub origin : ℕ
  pub label : ℕ
  pub children : ℕ
  pub start : ℕ
  pub len : ℕ

pub record NextAnswer : Type 0 where
  pub number : ℕ
  pub next : Next

-- How many entries were written, 1 if more nodes follow, else 0, and the place of the first that was not written.
pub record WalkAnswer : Type 0 where
  pub number : ℕ
  pub written : ℕ
  pub more : ℕ
  pub next : Place

-- ── refused ──

abbrev pub no_place : Place
no_place = record { page = 0; offset = 0 }

abbrev pub insert_refused : (number : ℕ) → InsertAnswer
insert_refused n = record { number = n; place = no_place; splits = 0; lean = pos 0 }

abbrev pub find_refused : (number : ℕ) → FindAnswer
find_refused n = record { number = n; place = no_place }

abbrev pub write_refused : (number : ℕ) → WriteAnswer
write_refused n = record { number = n; written = 0 }

abbrev pub read_refused : (number : ℕ) → ReadNode
read_refused n = record { number = n; kind = 0; origin = 0; label = 0; children = 0; start = 0; len = 0 }

abbrev pub next_refused : (number : ℕ) → NextAnswer
next_refused n = record { number = n; next = End }

abbrev pub walk_refused : (number : ℕ) → WalkAnswer
walk_refused n = record { number = n; written = 0; more = 0; next = no_place }

-- ── an answer's numbers ──

abbrev pub result_number : {A : Type 0} → Result A Refusal → ℕ
result_number (Ok a) = 0
result_number (Err r) = refusal_number r

abbrev pub insert_result : Result Inserted Refusal → InsertAnswer
insert_result (Ok a) = record { number = 0; place = a.place; splits = a.splits; lean = a.lean }
insert_result (Err r) = insert_refused (refusal_number r)

abbrev pub find_result : Result Place Refusal → FindAnswer
find_result (Ok x) = record { number = 0; place = x }
find_result (Err r) = find_refused (refusal_number r)

abbrev pub write_result : Result ℕ Refusal → WriteAnswer
write_result (Ok n) = record { number = 0; written = n }
write_result (Err r) = write_refused (refusal_number r)

abbrev pub read_result : Result Details Refusal → ReadNode
read_result (Ok d) = record { number = 0; kind = kind_number d.kind; origin = origin_number d.origin; label = d.label; children = d.children; start = d.start; len = d.len }
read_result (Err r) = read_refused (refusal_number r)

abbrev pub next_result : Result Next Refusal → NextAnswer
next_result (Ok n) = record { number = 0; next = n }
next_result (Err r) = next_refused (refusal_number r)

abbrev pub walked_to : (written : ℕ) → Option Place → WalkAnswer
walked_to k None = record { number = 0; written = k; more = 0; next = no_place }
walked_to k (Some x) = record { number = 0; written = k; more = 1; next = x }

abbrev pub walk_result : Result Walked Refusal → WalkAnswer
walk_result (Ok w) = walked_to w.written w.next
walk_result (Err r) = walk_refused (refusal_number r)
