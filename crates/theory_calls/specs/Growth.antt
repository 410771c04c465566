-- The claim of growth: what an accepted insert keeps, shows and answers.
use Rattle.std.specs.Prelude.{◌≡◌, refl, false, List, [], ◌∷◌, ◌++◌, ℕ, ◌≤◌, length}
use Rattle.std.proofs.Common.{true≢false, arith, ltb-false}
use Rattle.std.proofs.Math.Option.{Option, none, some}
use Rattle.model.specs.Tree.{Tree, shown, Node, named, New, insert_at}
use Rattle.model.specs.Common.{entries, named_if, named_by, or_empty, path_of, is_none}
use Rattle.model.specs.Calls.Insert.{is_literal, children_below, grown}
use Rattle.model.specs.Claims.{look, Growth}
use Rattle.theory_growth.specs.Store.{NewFits, grow_shows, grow_good, grow_valid}
use Rattle.theory_decoding.specs.Valid.{bytes_say, valid_says, valid_holds}
use Rattle.theory_places.specs.Named.{named_place}
use Rattle.theory_calls.specs.Paths.{path_length}
use Rattle.theory_calls.specs.Tests.{accepted}
use Rattle.theory_calls.specs.Spot.{spot_accepted}
use Rattle.theory_calls.specs.Added.{Names, Parent, Added, insert_named, one_more}

pub parent_says : (k : ℕ) (o : Option Node) → is_none o ≡ false → is_literal o ≡ false → children_below k o ≡ false → Names (Parent k) o
parent_says k none some_node aggregate within = absurd (true≢false some_node)
parent_says k (some p) some_node aggregate within = (aggregate, ltb-false p.children k within)

-- A path as bytes that names a node is whole entries.
pub by_entries : (P : Node → Type 0) (t : Tree) (path : Option (List ℕ)) → Names P (named_if t path) → Names P (named t (or_empty path))
by_entries P t none h = absurd h
by_entries P t (some p) h = h

the_added : (x : New) (o : Option Node) → Names (Added x) o → (n : Node) × (o ≡ some n) × (look n ≡ x) × (n.children ≡ 0)
the_added x none h = absurd h
the_added x (some n) h = (n, refl, h.0, h.1)

pub growth : Growth
growth st root path k x passes label byte z =
    let t = shown root in
    let entry = path_of path in
    let o = grown st root path k x in
    let a = accepted t path k x o.1.full z in
    let v = valid_says st root passes in
    let new : NewFits x = record { head = record { origin = a.origin; label = label }; long = a.small; byte = bytes_say x.content byte } in
    let short : length entry ≤ 22 = omega (arith, path_length path, a.short) in
    let parent = by_entries (Parent k) t (entries path) (parent_says k (named_by t path) a.named a.aggregate a.within) in
    let (spot, e) = spot_accepted root path k x o.1.full a in
    let shows = grow_shows st x root entry k spot e in
    let (n, at, looks, childless) = the_added x (named (insert_at x k 0 entry t) (entry ++ k ∷ [])) (insert_named x a.kind k 0 entry t parent) in
    let names : named (shown o.0) (entry ++ k ∷ []) ≡ some n = rw shows at in
    let lean = (grow_good st x root entry k spot e new v short).2 in
    record {
      keeps = valid_holds st o.0 (grow_valid st x root entry k spot e new v short a.room);
      shows = shows;
      named = (n, names, looks, childless);
      placed = named_place o.0 (entry ++ k ∷ []) n names;
      others = rw shows (one_more x a.kind k 0 entry t parent);
      lean = lean.0;
      unsplit = lean.1;
    }
