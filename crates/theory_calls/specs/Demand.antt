-- Demand 3: the image's calls and the plain tree's agree over every list of calls.
use Rattle.std.specs.Prelude.{◌≡◌, List, [], ◌∷◌, ℕ}
use Rattle.std.proofs.Common.{subst}
use Rattle.std.proofs.Math.Option.{Option, some}
use Rattle.model.specs.Row.{Row, Config}
use Rattle.model.specs.Tree.{Tree, shown}
use Rattle.model.specs.Reading.{Reads}
use Rattle.model.specs.Common.{tree_on}
use Rattle.model.specs.Effect.{Effect, feed_of, handed_of}
use Rattle.model.specs.Calls.{Call, format, check, insert, remove, find, climb, read, next, records, walk, diagnose}
use Rattle.model.specs.Claims.{Matches, CallHolds, Calls, Agrees, Orders, Demand3}
use Rattle.theory_calls.specs.Open.{opens, passing}
use Rattle.theory_calls.specs.Matches.{image_matches}
use Rattle.theory_calls.specs.Format.{format_holds}
use Rattle.theory_calls.specs.Check.{check_holds}
use Rattle.theory_calls.specs.Insert.{insert_holds}
use Rattle.theory_calls.specs.Remove.{remove_holds}
use Rattle.theory_calls.specs.Find.{find_holds}
use Rattle.theory_calls.specs.Climb.{climb_holds}
use Rattle.theory_calls.specs.Read.{read_holds}
use Rattle.theory_calls.specs.Next.{next_holds}
use Rattle.theory_calls.specs.Records.{records_holds}
use Rattle.theory_calls.specs.Walk.{walk_holds}
use Rattle.theory_calls.specs.Diagnose.{diagnose_holds}

-- An image that matches a tree reads as a store that shows it.
pub record Reading (img : List ℕ) (t : Tree) : Type 0 where
  pub st : Config
  pub root : Row
  pub reads : Reads img st root
  pub shows : shown root ≡ t

reading : (img : List ℕ) (t : Tree) → Matches img t → Reading img t
reading img t s =
    let p = passing img s.passes in
    let e : some (shown p.0.1) ≡ some t = subst (λ (o : Option Tree). o ≡ some t) (shown_on img p.0.0 p.0.1 p.1) s.shows in
    record { st = p.0.0; root = p.0.1; reads = p.1; shows = cc }
  where
    shown_on : (img : List ℕ) (st : Config) (root : Row) → Reads img st root → tree_on img ≡ some (shown root)
    shown_on img st root r = rw (opens img st root r)

module _ (order : (img buffer : List ℕ) → List ℕ) (o : Orders order) where
  -- Each call, by its own file.
  one_call : (img : List ℕ) (st : Config) (root : Row) → Reads img st root → (c : Effect) → Call order c → c.Typed → CallHolds order img (shown root) c
  one_call img st root r c (format s m label) y = format_holds order img st root r s m label y
  one_call img st root r c check y = check_holds order img st root r
  one_call img st root r c (insert path child kind origin label content) y = insert_holds order img st root r path child kind origin label content y
  one_call img st root r c (remove path) y = remove_holds img st root r path order
  one_call img st root r c (find path) y = find_holds order img st root r path
  one_call img st root r c (climb x buffer) y = climb_holds order img st root r x buffer
  one_call img st root r c (read x) y = read_holds order img st root r x
  one_call img st root r c (next x) y = next_holds order img st root r x
  one_call img st root r c (records buffer) y = records_holds order o img st root r buffer
  one_call img st root r c (walk x buffer) y = walk_holds order img st root r x buffer
  one_call img st root r c diagnose y = diagnose_holds order img st root r

  pub call_holds : (img : List ℕ) (t : Tree) → Matches img t → (c : Effect) → Call order c → c.Typed → CallHolds order img t c
  call_holds img t s c k y =
      let x = reading img t s in
      subst (λ (u : Tree). CallHolds order img u c) x.shows (one_call img x.st x.root x.reads c k y)

  agrees : (calls : Calls order) (img : List ℕ) (t : Tree) → Matches img t → Agrees order img t calls
  agrees [] img t s = tt
  agrees (x ∷ xs) img t s =
      let c = x.0 in
      let a = call_holds img t s c x.1.0 x.1.1 in
      (a, agrees xs (c.on_image img).1 (c.on_tree (feed_of img c) (handed_of order img c) t).1 a.after)

pub demand3 : Demand3
demand3 order o img z calls =
    let p = passing img z in
    let s = image_matches img p.0.0 p.0.1 p.1 in
    (shown p.0.1, s, agrees order o calls img (shown p.0.1) s)
