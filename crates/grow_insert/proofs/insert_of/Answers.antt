-- `grow_insert::insert_of`: the tests, whether a page is missing, the run, and the new node's place give the definition's answer and image; table and map are
-- the new image's.
use mathlib.Core.Path.{◌≡◌, refl, sym, ap, subst, ◌∙◌}
use mathlib.Core.Bool.{Bool, true, false, true≢false}
use mathlib.Core.List.{List}
use Prim.Native.Nat.{ℕ, ◌≤◌}
use native.Mathlib.Omega.{arith}
use lib.ListN.{length, take, replicate}
use lib.Seq.{length-take-le}
use mir.Syntax.{w32}
use mir.Facts.{to_z-of_z}
use Rattle.model.specs.Limits.{most_node}
use Rattle.model.specs.Row.{nil, size, bytes}
use Rattle.model.specs.Reading.{Reads}
use Rattle.model.specs.Growth.{as_row, at_rest}
use Rattle.model.specs.Calls.Find.{find_of}
use Rattle.model.specs.Answers.{FindAnswer, InsertAnswer, find_result}
use Rattle.model.specs.declared.Refusal.{Refusal}
use Rattle.model.specs.declared.Place.{Place}
use Rattle.theory_calls.specs.Refusals.{some_number}
use Rattle.std.specs.Prelude.{Result, Ok, Err, IsOk}
use Rattle.std.proofs.Common.{rules}
use Rattle.std.proofs.lemmas.Result.{err_from_is_err_and}
use Rattle.theory_rows.specs.Laws.{length_bytes}
use Rattle.theory_decoding.specs.Reading.{reads_valid, reads_length}
use Rattle.base_numbers.specs.Over.{take_over}
use Rattle.base_layout.specs.Setup.{setup_on}
use Rattle.theory_calls.specs.Open.{passing, passes}
use Rattle.theory_check.specs.Heads.{is_byte_lem}
use Rattle.theory_places.specs.Widths.{Table}
use Rattle.theory_layout.specs.Widths.{Widths, widths}
use Rattle.theory_growth.specs.Told.{Awaits}
use Rattle.grow_map.specs.Mapped.{Mapped, mapped}
use Rattle.grow_groups.specs.Used.{Tables, tables, InUse, Holds, holds_still}
use Rattle.grow_widths.specs.Raised.{Raising, changed_long}
use Rattle.grow_split_point.specs.Lean.{lean_signed}
use Rattle.grow_run.specs.Begin.{Begin, node_most, new_lean}
use Rattle.grow_insert.specs.Answer.{refused_early, Passed, X, made, refused_full, tests, sound, new_fits, spot, reads_as, begin, new_reads, new_tally, finds}
use Rattle.grow_insert.specs.Answer.{accepted_is}
use Rattle.grow_insert.specs.Table.{raising, awaits, left_table, left_map_lem}
use Rattle.grow_insert.proofs.insert_of.Goals as goal
use Rattle.grow_insert.proofs.insert_of.Goals.{After-is_full, After-once-made, After-one_more, After-put_node-n, In_ok-a}

pub admit-requires : goal.admit-requires
admit-requires c = (c.requires.0, c.requires.1)

pub returns-in_err-a : goal.returns-in_err-a
returns-in_err-a c =
    let v = c.args in
    let r = (passing v.image.now c.requires.0).1 in
    let n = c.in_err-a.ensures.number _ _ r v.label in
    let e = refused_early r v.path.now v.child v.kind v.origin v.label v.content.now _ n (some_number _) in
    let p = err_from_is_err_and c.from_residual.result c.from_residual.ensures.1 in
    record {
      answer = rw (p.1, p.2) (ap (λ (z : InsertAnswer × List ℕ). z.0) e);
      image = ap (λ (z : InsertAnswer × List ℕ). z.1) e;
      table = c.requires.1;
      map = c.requires.2;
    }

passed : (c : In_ok-a) → let v = c.args in
    Passed v.image.now v.path.now v.child v.kind v.origin v.label v.content.now c.in_ok-a.a
passed c =
    let v = c.args in
    let (z, r) = passing v.image.now c.requires.0 in
    let d = c.in_ok-a.ensures in
    record {
      st = z.0;
      root = z.1;
      reads = r;
      zero = d.number _ _ r v.label;
      small = omega arith;
      byte = is_byte_lem v.content.now (λ i. omega (arith, c.type_inv.content i));
      parent = d.parent;
      takes = d.receiver;
    }

-- the table and the map at the start
abbrev given : (c : In_ok-a) → Tables
given c =
    let v = c.args in tables v.widths.now v.map.now

table_of : (c : In_ok-a) → let p = passed c in Table p.st p.root (given c).widths
table_of c =
    c.requires.1.store _ _ (passed c).reads

holds_of : (c : In_ok-a) → Holds (passed c).st.pages (given c)
holds_of c =
    let m = c.requires.2 in
    record { widths = (table_of c).long; map = omega (arith, m.long, reads_length _ _ _ (passed c).reads); small = m.small }

in_use_lem : (c : In_ok-a) → (v : List ℕ) → let p = passed c in InUse (tables v (given c).map) (at_rest p.st p.root)
in_use_lem c v =
    record { same = c.requires.2.store _ _ (passed c).reads }

pub child_path-end-requires : goal.child_path-end-requires
child_path-end-requires c = ((tests (passed (goal.at.child_path-end-requires c).In_ok-a)).short, refl)

pub put_node-n-requires : goal.put_node-n-requires
put_node-n-requires c = let z = sound (passed (goal.at.put_node-n-requires c).In_ok-a) in (z, omega (arith, z.small))

pub setup_on-setup-requires : goal.setup_on-setup-requires
setup_on-setup-requires c =
    let r = (passed (goal.at.setup_on-setup-requires c).In_ok-a).reads in
    omega (arith, reads_length _ _ _ r, (reads_valid _ _ _ r).ranges.few)

node_is : (c : After-put_node-n) → let p = passed (goal.at.After-put_node-n c).In_ok-a in take c.put_node-n.result c.put_node-n.new.out ≡ bytes (as_row p.st (X p) nil)
node_is c =
    let p = passed (goal.at.After-put_node-n c).In_ok-a in
    let row = as_row p.st (X p) nil in
    let n = c.put_node-n.ensures.size in
    let b = c.put_node-n.ensures.bytes in
    (λ i. take (n p.st i) (b p.st i)) ∙ take_over (size row) (bytes row) (replicate most_node 0) (length_bytes row)

node_fits : (c : After-put_node-n) → c.put_node-n.result ≤ length c.put_node-n.new.out
node_fits c =
    let p = passed (goal.at.After-put_node-n c).In_ok-a in
    omega (arith, c.put_node-n.ensures.size p.st, node_most p.st _ (new_fits p), c.put_node-n.auto.out)

-- what a run requires, on the image i with the tables u
abbrev Given : (dry : Bool) (i : List ℕ) (u : Tables) → (c : After-put_node-n) → Type 0
Given dry i u c =
    let d = c.in_ok-a.a in
    Begin dry i u d.parent d.receiver c.args.label (take c.put_node-n.result c.put_node-n.new.out)

pub slice_bounds-node-end : goal.slice_bounds-node-end
slice_bounds-node-end c = node_fits (goal.at.slice_bounds-node-end c).After-put_node-n

pub slice_bounds-is_full-end : goal.slice_bounds-is_full-end
slice_bounds-is_full-end c = sym (length-take-le _ _ (node_fits (goal.at.slice_bounds-is_full-end c).After-put_node-n))

-- whether a page is missing
abbrev asked : (c : After-put_node-n) → Given true c.args.image.now (given (goal.at.After-put_node-n c).In_ok-a) c
asked c =
    begin (passed (goal.at.After-put_node-n c).In_ok-a) true refl (holds_of (goal.at.After-put_node-n c).In_ok-a) (in_use_lem (goal.at.After-put_node-n c).In_ok-a _) (λ e. absurd (true≢false e)) (node_is c) (λ e. absurd (true≢false e))

pub is_full-requires : goal.is_full-requires
is_full-requires c = (asked (goal.at.is_full-requires c).After-put_node-n, c.setup_on-setup.ensures)

still_is : (c : After-is_full) → c.is_full.new.image ≡ c.args.image.now
still_is c =
    c.is_full.ensures.image

kept_is : (c : After-is_full) → c.is_full.new.widths ≡ c.args.widths.now
kept_is c =
    c.is_full.ensures.widths

table_at : (c : After-is_full) → let p = passed (goal.at.After-is_full c).In_ok-a in Table p.st p.root c.is_full.new.widths
table_at c =
    let p = passed (goal.at.After-is_full c).In_ok-a in subst (Table p.st p.root) (sym (kept_is c)) (table_of (goal.at.After-is_full c).In_ok-a)

pub returns-then-is_full : goal.returns-then-is_full
returns-then-is_full c =
    let p = passed (goal.at.returns-then-is_full c).In_ok-a in
    let e = refused_full p (sym c.if-is_full.true ∙ c.is_full.ensures.full (asked (goal.at.returns-then-is_full c).After-put_node-n)) in
    let i = still_is (goal.at.returns-then-is_full c).After-is_full in
    let r = reads_as p i in
    let h = holds_of (goal.at.returns-then-is_full c).In_ok-a in
    record {
      answer = ap (λ (z : InsertAnswer × List ℕ). z.0) e;
      image = i ∙ ap (λ (z : InsertAnswer × List ℕ). z.1) e;
      table = widths _ _ _ _ r (table_at (goal.at.returns-then-is_full c).After-is_full);
      map =
          mapped _ _ _ _ r h.map h.small
          (in_use_lem (goal.at.returns-then-is_full c).In_ok-a (given (goal.at.returns-then-is_full c).In_ok-a).widths).same;
    }

-- one node more
abbrev ready : (c : After-is_full) → let r = c.in_ok-a.a.receiver in
    Raising c.is_full.new.image c.is_full.new.widths r.page r.deep
ready c =
    raising (passed (goal.at.After-is_full c).In_ok-a) (table_at c) (still_is c)

pub one_more-requires : goal.one_more-requires
one_more-requires c = ready (goal.at.one_more-requires c).After-is_full

room_is : (c : After-one_more) → (made (passed (goal.at.After-one_more c).In_ok-a)).1.full ≡ false
room_is c =
    sym (c.is_full.ensures.full (asked (goal.at.After-one_more c).After-put_node-n)) ∙ c.if-is_full.false

pub slice_bounds-node-end-2 : goal.slice_bounds-node-end-2
slice_bounds-node-end-2 c = node_fits (goal.at.slice_bounds-node-end-2 c).After-put_node-n

pub slice_bounds-once-end : goal.slice_bounds-once-end
slice_bounds-once-end c = sym (length-take-le _ _ (node_fits (goal.at.slice_bounds-once-end c).After-put_node-n))

-- the tables of the run
abbrev more_tables : (c : After-one_more) → Tables
more_tables c =
    tables c.one_more.new.widths (given (goal.at.After-one_more c).In_ok-a).map

more_holds : (c : After-one_more) → Holds (passed (goal.at.After-one_more c).In_ok-a).st.pages (more_tables c)
more_holds c =
    holds_still (holds_of (goal.at.After-one_more c).In_ok-a) (record {
      widths = ap length (c.one_more.ensures (ready (goal.at.After-one_more c).After-is_full)) ∙ changed_long _ _ _ _ ∙ ap length (kept_is (goal.at.After-one_more c).After-is_full);
      map = refl;
    })

-- the run, on the image as it was
abbrev told : (c : After-one_more) → Given false c.is_full.new.image (more_tables c) (goal.at.After-one_more c).After-put_node-n
told c =
    let p = passed (goal.at.After-one_more c).In_ok-a in
    let e = sym (c.one_more.ensures (ready (goal.at.After-one_more c).After-is_full)) in
    begin p false (still_is (goal.at.After-one_more c).After-is_full) (more_holds c) (in_use_lem (goal.at.After-one_more c).In_ok-a _) (λ _. subst (λ (u : List ℕ). Awaits u (spot p).0) e (awaits p (table_at (goal.at.After-one_more c).After-is_full)))
    (node_is (goal.at.After-one_more c).After-put_node-n) (λ _. room_is c)

pub once-made-requires : goal.once-made-requires
once-made-requires c =
    (told (goal.at.once-made-requires c).After-one_more, c.setup_on-setup.ensures ∙ ap setup_on (sym (still_is (goal.at.once-made-requires c).After-is_full)))

reads_new : (c : After-once-made) → let w = passed (goal.at.After-once-made c).In_ok-a in Reads c.once-made.new.image w.st (made w).0
reads_new c =
    new_reads (passed (goal.at.After-once-made c).In_ok-a) (room_is (goal.at.After-once-made c).After-one_more) ((c.once-made.ensures (told (goal.at.After-once-made c).After-one_more)).writes refl)

holds_new : (c : After-once-made) → Holds (passed (goal.at.After-once-made c).In_ok-a).st.pages (tables c.once-made.new.widths c.once-made.new.map)
holds_new c =
    holds_still (more_holds (goal.at.After-once-made c).After-one_more) (c.once-made.ensures (told (goal.at.After-once-made c).After-one_more)).as_long

-- its table, and its map
widths_new : (c : After-once-made) → Widths c.once-made.new.image c.once-made.new.widths
widths_new c =
    widths _ _ _ _ (reads_new c) (left_table _ _ (holds_new c) ((c.once-made.ensures (told (goal.at.After-once-made c).After-one_more)).table refl))

map_new : (c : After-once-made) → Mapped c.once-made.new.image c.once-made.new.map
map_new c =
    let n = new_tally (passed (goal.at.After-once-made c).In_ok-a) (room_is (goal.at.After-once-made c).After-one_more) in
    let h = holds_new c in
    mapped _ _ _ _ (reads_new c) h.map h.small (left_map_lem (passed (goal.at.After-once-made c).In_ok-a).st (made (passed (goal.at.After-once-made c).In_ok-a)) n ((c.once-made.ensures (told (goal.at.After-once-made c).After-one_more)).table refl))

path_fits : (c : After-once-made) → c.child_path-end.result ≤ length c.child_path-end.new.out
path_fits c =
    omega (arith, c.child_path-end.ensures.0, c.child_path-end.auto.out, (tests (passed (goal.at.After-once-made c).In_ok-a)).short)

pub slice_bounds-whole-end : goal.slice_bounds-whole-end
slice_bounds-whole-end c = path_fits (goal.at.slice_bounds-whole-end c).After-once-made

pub slice_bounds-find_in-end : goal.slice_bounds-find_in-end
slice_bounds-find_in-end c = sym (length-take-le _ _ (path_fits (goal.at.slice_bounds-find_in-end c).After-once-made))

pub find_in-requires : goal.find_in-requires
find_in-requires c = (passes _ _ _ (reads_new (goal.at.find_in-requires c).After-once-made), widths_new (goal.at.find_in-requires c).After-once-made)

-- the new node stands in its image, so it is found
some_place : (r : Result Place Refusal) → (find_result r).number ≡ 0 → IsOk r
some_place (Ok x) e = search rules
some_place (Err r) e = absurd (some_number r e)

pub unwrap-place-requires : goal.unwrap-place-requires
unwrap-place-requires c =
    let o = (goal.at.unwrap-place-requires c).After-one_more in
    let g = c.once-made.ensures (told o) in
    let f = finds (passed (goal.at.unwrap-place-requires c).In_ok-a) (room_is o) (omega arith) (g.writes refl) in
    some_place c.find_in.result (ap (λ (a : FindAnswer). a.number) (c.find_in.ensures ∙ ap (find_of c.once-made.new.image) c.child_path-end.ensures.1 ∙ f))

pub shape_of-image : goal.shape_of-image
shape_of-image c = c.once-made.auto.image ∙ c.is_full.auto.image

pub shape_of-widths : goal.shape_of-widths
shape_of-widths c =
    c.once-made.auto.widths ∙ c.one_more.auto.widths ∙ c.is_full.auto.widths

pub shape_of-map : goal.shape_of-map
shape_of-map c = c.once-made.auto.map

pub returns : goal.returns
returns c =
    let g = c.once-made.ensures (told (goal.at.returns c).After-one_more) in
    let lean = to_z-of_z {w = w32} (lean_signed c.once-made.result.lean (rw g.lean (new_lean (told (goal.at.returns c).After-one_more)))) ∙ g.lean in
    let place = ap (λ (r : FindAnswer). r.place) (sym (ap find_result c.unwrap-place.ensures) ∙ c.find_in.ensures ∙ ap (find_of c.once-made.new.image) c.child_path-end.ensures.1) in
    let e = accepted_is (passed (goal.at.returns c).In_ok-a) (room_is (goal.at.returns c).After-one_more) (omega arith) (g.writes refl) place g.splits lean in
    record {
      answer = ap (λ (z : InsertAnswer × List ℕ). z.0) e;
      image = ap (λ (z : InsertAnswer × List ℕ). z.1) e;
      table = widths_new (goal.at.returns c).After-once-made;
      map = map_new (goal.at.returns c).After-once-made;
    }
