-- The calls that a list may have: a line a call, with its arguments; what it does is in its file.
pub mod Format
pub mod Check
pub mod Insert
pub mod Remove
pub mod Find
pub mod Climb
pub mod Read
pub mod Next
pub mod Records
pub mod Walk
pub mod Diagnose
use Rattle.std.specs.Prelude.{List, ℕ}
use Rattle.model.specs.Effect.{Effect}
use Format.{format_call}
use Check.{check_call}
use Insert.{insert_call}
use Remove.{remove_call}
use Find.{find_call}
use Climb.{climb_call}
use Read.{read_call}
use Next.{next_call}
use Records.{records_call}
use Walk.{walk_call}
use Diagnose.{diagnose_call}
use Rattle.model.specs.declared.Settings.{Settings}
use Rattle.model.specs.declared.Place.{Place}

-- `order` is the free part of Records: the order of the pages, which may depend on image and buffer.
pub data Call (order : (img buffer : List ℕ) → List ℕ) : Effect → Type 1 where
  format : (s : Settings) (matrix : List ℕ) (label : ℕ) → Call order (format_call s matrix label)
  check : Call order check_call
  insert : (path : List ℕ) (child kind origin label : ℕ) (content : List ℕ) → Call order (insert_call path child kind origin label content)
  remove : (path : List ℕ) → Call order (remove_call path)
  find : (path : List ℕ) → Call order (find_call path)
  climb : (x : Place) (buffer : List ℕ) → Call order (climb_call x buffer)
  read : (x : Place) → Call order (read_call x)
  next : (x : Place) → Call order (next_call x)
  records : (buffer : List ℕ) → Call order (records_call order buffer)
  walk : (x : Place) (buffer : List ℕ) → Call order (walk_call x buffer)
  diagnose : Call order diagnose_call
