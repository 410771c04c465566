-- Demand 3 for the calls as they are here: Records in the order that the code gives, ascending.
use Rattle.std.specs.Prelude.{◌≡◌, List, ℕ}
use Rattle.model.specs.Tree.{Tree}
use Rattle.model.specs.Calls.Check.{check_of}
use Rattle.model.specs.Claims.{Matches, Calls, Agrees}
use Rattle.theory_calls.specs.Demand.{demand3}
use Rattle.read_records.specs.Up.{up_pages}
use Rattle.read_records.specs.Order.{up_order}

abbrev pub ascending : (img buffer : List ℕ) → List ℕ
ascending img buffer = up_pages img

pub store_agrees : (img : List ℕ) → check_of img ≡ 0 → (calls : Calls ascending) → (t : Tree) × Matches img t × Agrees ascending img t calls
store_agrees = demand3 ascending (λ img buffer. up_order img)
