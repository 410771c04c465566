-- `read_find::find_in`: the entries that are left lead from the node at pos to where the whole path leads from the root.
use Rattle.std.proofs.Common.{◌≡◌}
use Rattle.std.specs.Slice.Iter.{chunks_exact_rest, chunks_exact_size}
use Rattle.std.proofs.Math.Option.{Option}
use Rattle.model.specs.Limits.{page_size}
use Rattle.model.specs.declared.Place.{Place}
use Rattle.read_find.specs.Find.{Finds}
use Rattle.read_find.proofs.find_in.Given as goal

abbrev pub invariant-loop-entry : goal.invariant-loop-entry
invariant-loop-entry l =
    ((t : Option Place) → Finds l.image l.path page_size 0 t → Finds l.image (chunks_exact_rest l.entry-iterator) l.pos 0 t)
    × (chunks_exact_size l.entry-iterator ≡ 4)
