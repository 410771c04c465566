-- An insert's answer and image: from its tests, whether a page is missing, and its run to the definition.
use Rattle.std.specs.Prelude.{◌≡◌, refl, Bool, true, false, List, [], ◌∷◌, ◌++◌, ℕ, ◌+◌, ◌<◌, ◌≤◌, length, ℤ}
use Rattle.std.proofs.Math.Path.{sym}
use Rattle.std.proofs.Common.{ap, subst, ◌∙◌, arith}
use Rattle.std.proofs.Math.Option.{some}
use borrow.Author.Tests.{ne_eqb}
use Rattle.model.specs.Row.{Row, nil, bytes, count, image, Config}
use Rattle.model.specs.Reading.{Reads}
use Rattle.model.specs.Tree.{shown, New, place_of}
use Rattle.model.specs.Growth.{Out, as_row, at_rest}
use Rattle.model.specs.Answers.{FindAnswer, insert_refused}
use Rattle.model.specs.Common.{four, entries, path_of, place_or}
use Rattle.model.specs.Calls.Insert.{insert_number, new_of, grown, insert_of}
use Rattle.model.specs.declared.Place.{Place}
use Rattle.theory_rows.specs.Fits.{IsByte}
use Rattle.theory_rows.specs.Pages.{bit, reserved}
use Rattle.theory_growth.specs.Store.{NewFits, grow_tally}
use Rattle.theory_decoding.specs.Reading.{reads_valid}
use Rattle.theory_decoding.specs.Valid.{bytes_hold}
use Rattle.theory_growth.specs.Told.{Awaits}
use Rattle.model.specs.Spot.{Spot, spot_of}
use Rattle.model.specs.Claims.{GrowthHolds}
use Rattle.model.specs.Calls.Find.{find_of}
use Rattle.theory_calls.specs.Growth.{growth}
use Rattle.theory_calls.specs.Spot.{spot_accepted}
use Rattle.grow_groups.specs.Used.{Tables, InUse, Holds}
use Rattle.grow_path.specs.Path.{find_all}
use Rattle.theory_calls.specs.Open.{opens}
use Rattle.theory_calls.specs.Paths.{path_length, whole_path}
use Rattle.theory_calls.specs.Tests.{Accepted, accepted, full_last, full_unasked}
use Rattle.grow_locate.specs.Aim.{Aimed, receiver_of}
use Rattle.grow_refusals.specs.declared.Admitted.{Admitted}
use Rattle.grow_refusals.specs.Admit.{found_at, aims}
use Rattle.grow_new_node.specs.Node.{Sound}
use Rattle.grow_run.specs.Begin.{Begin}

-- ── an insert that is refused ──

module _ {img : List ℕ} {st : Config} {root : Row} (r : Reads img st root) (path : List ℕ) (child kind origin label : ℕ) (content : List ℕ) where
  abbrev number : Bool → ℕ
  number full = insert_number (shown root) path child (new_of kind origin label content) full

  refused_is : (n : ℕ) → n ≡ number (grown st root path child (new_of kind origin label content)).1.full → (n ≡ 0 → ⊥)
      → (insert_refused n, img) ≡ insert_of img path child kind origin label content
  unfolding insert_of
  refused_is n e z = sym (rw (opens img st root r, ← e, ne_eqb n 0 z))

  -- By its tests.
  pub refused_early : (n : ℕ) → n ≡ number false → (n ≡ 0 → ⊥) → (insert_refused n, img) ≡ insert_of img path child kind origin label content
  refused_early n e z = refused_is n (e ∙ full_unasked (shown root) path child (new_of kind origin label content) _ (λ k. z (e ∙ k))) z

-- ── an insert that passes its tests ──

-- The store that the image reads as lets the insert pass, whose arguments are in range; d says where its node goes.
pub record Passed (img path : List ℕ) (child kind origin label : ℕ) (content : List ℕ) (d : Admitted) : Type 0 where
  pub st : Config
  pub root : Row
  pub reads : Reads img st root
  pub zero : 0 ≡ insert_number (shown root) path child (new_of kind origin label content) false
  pub small : label < 65536
  pub byte : IsByte content
  pub parent : d.parent ≡ found_at img path
  pub takes : (w : Aimed img d.parent child) → d.receiver ≡ receiver_of w.t

module _ {img path : List ℕ} {child kind origin label : ℕ} {content : List ℕ} {d : Admitted} (p : Passed img path child kind origin label content d) where
  abbrev pub X : New
  X = new_of kind origin label content

  abbrev pub made : Out
  made = grown p.st p.root path child X

  -- Refused since no page was left.
  pub refused_full : true ≡ made.1.full → (insert_refused 12, img) ≡ insert_of img path child kind origin label content
  refused_full f =
      refused_is p.reads path child kind origin label content 12
      (sym ((full_last (shown p.root) path child X made.1.full).1 (sym p.zero, sym f))) (λ e. omega arith)

  abbrev pub tests : Accepted (shown p.root) path child X false
  tests = accepted (shown p.root) path child X false (sym p.zero)

  -- What the code of the new node's bytes requires.
  pub sound : Sound kind origin label content
  sound = record { kinds = tests.kind; origin_fits = tests.origin; label_fits = p.small; small = tests.small }

  pub new_fits : NewFits X
  new_fits = record { head = record { origin = tests.origin; label = p.small }; long = tests.small; byte = p.byte }

  pub short : length (path_of path) ≤ 22
  short = omega (arith, path_length path, tests.short)

  -- Where the node goes.
  abbrev pub spot : (t : Spot) × (spot_of p.root (path_of path) child ≡ some t)
  spot = spot_accepted p.root path child X false tests

  -- The image stays the same in a dry run.
  pub reads_as : {i : List ℕ} → i ≡ img → Reads i p.st p.root
  reads_as e = subst (λ (l : List ℕ). Reads l p.st p.root) (sym e) p.reads

  abbrev aim : {i : List ℕ} → i ≡ img → Aimed i d.parent child
  aim {i} e =
      aims i p.st p.root (reads_as e) path child kind origin label d.parent content (sym p.zero)
      (p.parent ∙ ap (λ (l : List ℕ). found_at l path) (sym e))

  pub receiver_is : d.receiver ≡ receiver_of spot.0
  receiver_is = p.takes (aim refl)

  -- What a run of the insert requires; the map has the pages in use.
  abbrev pub begin : (dry : Bool) → {i : List ℕ} {u : Tables} → i ≡ img → Holds p.st.pages u → InUse u (at_rest p.st p.root)
      → (dry ≡ false → Awaits u.widths spot.0)
      → {node : List ℕ} → node ≡ bytes (as_row p.st X nil) → (dry ≡ false → made.1.full ≡ false) → Begin dry i u d.parent d.receiver label node
  begin dry e l m t b room = record {
    k = child;
    aim = aim e;
    receiver = receiver_is;
    x = X;
    fits = new_fits;
    named = refl;
    is = b;
    short = short;
    holds = l;
    marked = m;
    room = room;
    told = t;
  }

  module _ (room : made.1.full ≡ false) where
    -- What holds of growth: the new store is valid, and the new node's path names it.
    grows : GrowthHolds p.st p.root path child X
    grows =
        growth p.st p.root path child X p.reads.passes p.small (bytes_hold content p.byte)
        (ap (insert_number (shown p.root) path child X) room ∙ sym p.zero)

    pub new_reads : {i : List ℕ} → i ≡ image p.st made.0 → Reads i p.st made.0
    new_reads e = record { passes = grows.keeps; same = e }

    pub new_tally : (q : ℕ) → reserved p.st q + count q made.0 ≡ bit (made.1.used q)
    new_tally =
        grow_tally p.st X p.root (path_of path) child spot.0 spot.1 new_fits (reads_valid img p.st p.root p.reads) short room

    -- Find gives the new node's place.
    pub finds : {i : List ℕ} → child < 4294967296 → i ≡ image p.st made.0
        → find_of i (path ++ four child) ≡ record { number = 0; place = place_or (place_of made.0 (path_of path ++ child ∷ [])) }
    finds {i} k e =
        find_all i p.st made.0 (new_reads e) path child tests.short k (whole_path (shown p.root) (entries path) tests.named) grows.named.0 grows.named.1

    pub accepted_is : {i : List ℕ} {at : Place} {splits : ℕ} {lean : ℤ} → child < 4294967296 → i ≡ image p.st made.0
        → at ≡ (find_of i (path ++ four child)).place → splits ≡ made.1.splits → lean ≡ made.1.lean
        → (record { number = 0; place = at; splits = splits; lean = lean }, i) ≡ insert_of img path child kind origin label content
    unfolding insert_of
    accepted_is {i} k e f q l =
        let new = f ∙ ap (λ (a : FindAnswer). a.place) (finds k e) in
        (λ j. (record { number = 0; place = new j; splits = q j; lean = l j }, e j))
        ∙ sym (rw (opens img p.st p.root p.reads, room, ← p.zero))
