-- Arguments and answers as the numbers that C hands over and gets.
use Rattle.std.specs.Prelude.{List, [], ◌∷◌, ℕ}
use Rattle.model.specs.declared.Settings.{Settings}
use Rattle.model.specs.declared.Place.{Place}
use Rattle.model.specs.Answers.{ReadNode}
use Rattle.model.specs.Answers.{InsertAnswer}
use Rattle.model.specs.Answers.{WalkAnswer}
use Rattle.model.specs.Calls.Diagnose.{Diagnosis}

abbrev pub settings : (pages target tolerance form : ℕ) → Settings
settings p t o f = record { pages = p; target = t; tolerance = o; form = f }

abbrev pub place_numbers : Place → List ℕ
place_numbers x = x.page ∷ x.offset ∷ []

-- Kind, label, number of children, start of the content in the image, its length, origin.
abbrev pub read_numbers : ReadNode → List ℕ
read_numbers r = r.kind ∷ r.label ∷ r.children ∷ r.start ∷ r.len ∷ r.origin ∷ []

-- Page and offset of the new node, records split.
abbrev pub insert_numbers : InsertAnswer → List ℕ
insert_numbers a = a.place.page ∷ a.place.offset ∷ a.splits ∷ []

-- Entries written, 1 if more nodes follow, page and offset of the next.
abbrev pub walk_numbers : WalkAnswer → List ℕ
walk_numbers a = a.written ∷ a.more ∷ a.next.page ∷ a.next.offset ∷ []

-- The stage, the page at fault, the reason.
abbrev pub fault_numbers : Diagnosis → List ℕ
fault_numbers a = a.stage ∷ a.page ∷ a.reason ∷ []
