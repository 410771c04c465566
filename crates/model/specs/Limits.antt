-- The numbers of document 01 that limit an image, a record or a call, each under one name.
use Rattle.std.specs.Prelude.{ℕ, ◌+◌, ◌*◌, ◌/◌}

-- The bytes of a page, and the most that a record may have: what the page's trailer of 16 bytes leaves.
abbrev pub page_size : ℕ
page_size = 4096

abbrev pub capacity : ℕ
capacity = 4080

-- The most pages of an image,
abbrev pub most_pages : ℕ
most_pages = 1024

-- so the most bytes of an image, and the bytes of the check's marks, one mark for each page.
abbrev pub most_bytes : ℕ
most_bytes = page_size * most_pages

abbrev pub mark_bytes : ℕ
mark_bytes = most_pages / 8

-- The most levels of the tree, content bytes of a literal, and bytes of a new node: its header has 6.
abbrev pub most_levels : ℕ
most_levels = 24

abbrev pub most_content : ℕ
most_content = 520

abbrev pub most_node : ℕ
most_node = 6 + most_content

-- Where a node came from, its origin: 0 seen on the wire, 1 read from a store, 2 typed in, 3 derived.
abbrev pub most_origin : ℕ
most_origin = 3

-- The settings: the range of the target, the largest tolerance, the form, the matrix entries, the length used.
abbrev pub least_target : ℕ
least_target = 64

abbrev pub most_target : ℕ
most_target = 192

abbrev pub most_tolerance : ℕ
most_tolerance = 512

abbrev pub the_form : ℕ
the_form = 1

abbrev pub matrix_entries : ℕ
matrix_entries = 256

abbrev pub settings_size : ℕ
settings_size = 16 + matrix_entries

-- The longest paths in bytes: 23 entries, and 22 for the parent of an insert.
abbrev pub longest_path : ℕ
longest_path = 92

abbrev pub longest_parent : ℕ
longest_parent = 88
