-- `grow_map::first_free`: up to the map's end, then from page 2 up to where it began.
use Rattle.grow_map.specs.Search.{found_up, found_again, found_none}
use Rattle.grow_map.proofs.first_free.Goals as goal

pub returns-then-q-map : goal.returns-then-q-map
returns-then-q-map c = λ st a b p. found_up st _ _ a b p _ c.free_up-q.ensures c.if-q-map.true

pub returns-then-first-from : goal.returns-then-first-from
returns-then-first-from c =
    λ st a b p. found_again st _ _ a b p c.requires.0 _ c.free_up-q.ensures c.if-q-map.false _ c.free_up-first.ensures c.if-first-from.true

pub returns-else-first-from : goal.returns-else-first-from
returns-else-first-from c =
    λ st a b p. found_none st _ _ a b p c.requires.0 _ c.free_up-q.ensures c.if-q-map.false _ c.free_up-first.ensures c.if-first-from.false
