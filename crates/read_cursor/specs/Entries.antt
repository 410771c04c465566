-- An entry as the code has it, and its nine numbers.
use Rattle.std.specs.Prelude.{List, ℕ, ◌<◌}
use Rattle.model.specs.Answers.{kind_number}
use Rattle.read_cursor.specs.Meets.{entry_by}
use Rattle.read_cursor.specs.declared.Entry.{Entry}

abbrev pub numbers : Entry → List ℕ
numbers e = entry_by e.level e.i (kind_number e.kind) e.origin e.label e.start e.len

-- Each fits its place.
pub record Numbered (e : Entry) : Type 0 where
  pub level : e.level < 65536
  pub i : e.i < 4194304
  pub origin : e.origin < 65536
  pub label : e.label < 65536
  pub start : e.start < 4294967296
  pub len : e.len < 65536
