-- The records that a walk is in, as the code keeps them.
use Rattle.std.specs.Prelude.{◌≡◌, cond, List, ℕ, ◌+◌, ◌-◌, ◌/◌, ◌≤◌, ◌<◌, length, get_or, set, eqb}
use Rattle.model.specs.Limits.{most_levels, page_size}
use Rattle.theory_layout.specs.Here.{PageIn}
use Rattle.read_find.specs.Rowed.{end_on}
use Rattle.read_cursor.specs.Going.{cursor}
use Rattle.read_cursor.specs.declared.Cursor.{Cursor}
use Rattle.read_nest.specs.declared.Nest.{Nest}
use Rattle.read_nest.specs.declared.Held.{Held}

abbrev pub nest : (base depth since : ℕ) → Nest
nest b d s = record { base = b; depth = d; since = s }

-- In the record of a proxy at the cursor.
abbrev pub inner : Cursor → Nest → Nest
inner c w = nest c.level (w.depth + 1) (cond (eqb c.level w.base) w.since (w.depth + 1))

abbrev pub held_of : (end base since : ℕ) → Held
held_of e b s = record { end = e; base = b; since = s }

-- Nothing is kept.
abbrev pub no_held : Held
no_held = held_of 0 0 0

abbrev pub kept : Cursor → Nest → (held : List Held) → List Held
kept c w held = set held c.level (held_of c.end w.base w.since)

abbrev pub held_in : Cursor → Nest → (held : List Held) → List Held
held_in c w held = cond (eqb c.level w.base) held (kept c w held)

-- Out of a record at whose end the cursor is.
abbrev pub way_out : Cursor → (back : List ℕ) → ℕ
way_out c back = get_or back (c.i / page_size) 0

abbrev pub stop_of : (img : List ℕ) → (i level : ℕ) → Nest → (held : List Held) → ℕ
stop_of img i level w held = cond (eqb w.depth w.since) (get_or held level no_held).end (end_on img (i / page_size))

abbrev pub behind_of : (img : List ℕ) → Cursor → Nest → (back : List ℕ) → (held : List Held) → Cursor
behind_of img c w back held =
    let i = way_out c back in
    cursor i (stop_of img i c.level w held) c.level c.n c.at c.next

abbrev pub outer : Cursor → Nest → (held : List Held) → Nest
outer c w held =
    let inAggregate = eqb w.depth w.since in
    let there = get_or held c.level no_held in
    nest (cond inAggregate there.base w.base) (w.depth - 1) (cond inAggregate there.since w.since)

pub record Leaving (img : List ℕ) (c : Cursor) (w : Nest) (back : List ℕ) : Type 0 where
  pub low : c.i / page_size < length back
  pub level : c.level ≤ most_levels
  pub fits : way_out c back < 4294967296
  pub around : (w.depth ≡ w.since → ⊥) → PageIn img (way_out c back / page_size)
