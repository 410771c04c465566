-- Insert in a list of calls.
use Rattle.std.specs.Prelude.{◌≡◌, ◌↔◌, Bool, ℕ}
use Rattle.std.proofs.Math.Path.{refl, sym, ap, subst}
use Rattle.std.proofs.Common.{◌∙◌, arith, eqb-true}
use Rattle.std.proofs.Math.Bool.{true, false, cond}
use mathlib.Core.List.{List, [], ◌∷◌, ◌++◌}
use Rattle.std.proofs.Math.Dec.{eqb}
use Rattle.model.specs.Row.{Row, Config, image}
use Rattle.model.specs.Tree.{shown, New, insert_at, place_of}
use Rattle.model.specs.Growth.{Work, Out}
use Rattle.model.specs.Reading.{Reads}
use Rattle.model.specs.Answers.{insert_refused}
use Rattle.model.specs.Common.{accept, path_of, place_or, places_on}
use Rattle.model.specs.Claims.{Matches, CallHolds}
use Rattle.model.specs.Calls.Insert.{insert_number, new_of, grown, insert_of, insert_work, insert_call}
use Rattle.model.specs.Answers.{InsertAnswer}
use Rattle.theory_growth.specs.Store.{NewFits, grow_shows, grow_valid}
use Rattle.theory_decoding.specs.Valid.{bytes_say, valid_holds}
use Rattle.theory_decoding.specs.Reading.{reads_valid}
use Rattle.theory_calls.specs.Open.{opens}
use Rattle.theory_calls.specs.Paths.{path_length}
use Rattle.theory_calls.specs.FirstRefusal.{accept_number}
use Rattle.theory_calls.specs.Tests.{full_last, accepted}
use Rattle.theory_calls.specs.Spot.{spot_accepted}
use Rattle.theory_calls.specs.Matches.{image_matches}

-- ── an insert ──

module _ (order : (img buffer : List ℕ) → List ℕ) (img : List ℕ) (st : Config) (root : Row) (r : Reads img st root)
    (path : List ℕ) (child kind origin label : ℕ) (content : List ℕ) (typed : (insert_call path child kind origin label content).Typed) where
  x : New
  x = new_of kind origin label content

  o : Out
  o = grown st root path child x

  n : ℕ
  n = insert_number (shown root) path child x o.1.full

  -- An accepted insert leaves an image that reads as what growth made.
  new_reads : n ≡ 0 → Reads (image st o.0) st o.0
  unfolding n o x
  new_reads z =
      let a = accepted (shown root) path child x o.1.full z in
      let fit : NewFits x = record { head = record { origin = a.origin; label = typed.0 }; long = a.small; byte = bytes_say content typed.1 } in
      let (t, e) = spot_accepted root path child x o.1.full a in
      let v = grow_valid st x root (path_of path) child t e fit (reads_valid img st root r) (omega (arith, path_length path, a.short)) a.room in
      record { passes = valid_holds st o.0 v; same = refl }

  new_answer : InsertAnswer
  new_answer = record { number = 0; place = place_or (place_of o.0 (path_of path ++ child ∷ [])); splits = o.1.splits; lean = o.1.lean }

  outcome : Bool → InsertAnswer × List ℕ
  outcome b = cond b (new_answer, image st o.0) (insert_refused n, img)

  insert_is : insert_of img path child kind origin label content ≡ outcome (eqb n 0)
  unfolding insert_of outcome new_answer n o x
  insert_is = rw (opens img st root r)

  growth_is : insert_work img path child x ≡ o.1
  unfolding o x
  growth_is = rw (opens img st root r)

  number_is : (insert_of img path child kind origin label content).0.number ≡ n
  unfolding outcome new_answer
  number_is = ap (λ (z : InsertAnswer × List ℕ). z.0.number) insert_is ∙ go (eqb n 0) refl
    where
      go : (b : Bool) → eqb n 0 ≡ b → (outcome b).0.number ≡ n
      go true e = sym (eqb-true n 0 e)
      go false e = refl

  -- The plain tree's answer and tree, where growth ended with `w` and left the image `after`.
  plain : (after : List ℕ) → Work → InsertAnswer
  plain after w =
      let k = insert_number (shown root) path child x w.full in
      accept k (record { number = 0; place = place_or (places_on after (path_of path ++ child ∷ [])); splits = w.splits; lean = w.lean }) (insert_refused k)

  -- With pages enough its number is that of the tests before the last.
  roomy_number : (k : ℕ) (a : InsertAnswer) → a.number ≡ 0 → (accept k a (insert_refused k)).number ≡ k
  roomy_number k a e = accept_number (λ (a : InsertAnswer). a.number) k a (insert_refused k) e refl

  full_exactly : ((insert_of img path child kind origin label content).0.number ≡ 12)
      ↔ ((insert_number (shown root) path child x false ≡ 0) × ((insert_work img path child x).full ≡ true))
  unfolding n
  full_exactly =
      let t = full_last (shown root) path child x o.1.full in
      let f = ap (λ (w : Work). w.full) growth_is in
      (λ z. ((t.0 (sym number_is ∙ z)).0, f ∙ (t.0 (sym number_is ∙ z)).1), λ z. number_is ∙ t.1 (z.0, sym f ∙ z.1))

  same_answer : (insert_of img path child kind origin label content).0
      ≡ plain (insert_of img path child kind origin label content).1 (insert_work img path child x)
  unfolding outcome new_answer plain n
  same_answer = rw (insert_is, growth_is) (go (eqb n 0) refl)
    where
      go : (b : Bool) → eqb n 0 ≡ b → (outcome b).0
          ≡ cond b (record { number = 0; place = place_or (places_on (outcome b).1 (path_of path ++ child ∷ [])); splits = o.1.splits; lean = o.1.lean })
          (insert_refused n)
      go true e = rw (opens (image st o.0) st o.0 (new_reads (eqb-true n 0 e)))
      go false e = refl

  same_tree : Matches (insert_of img path child kind origin label content).1
      (accept (insert_number (shown root) path child x (insert_work img path child x).full) (insert_at x child 0 (path_of path) (shown root)) (shown root))
  unfolding outcome n o
  same_tree = rw (insert_is, growth_is) (go (eqb n 0) refl)
    where
      go : (b : Bool) → eqb n 0 ≡ b → Matches (outcome b).1 (cond b (insert_at x child 0 (path_of path) (shown root)) (shown root))
      go true e =
          let (t, s) = spot_accepted root path child x o.1.full (accepted (shown root) path child x o.1.full (eqb-true n 0 e)) in
          subst (Matches (image st o.0)) (grow_shows st x root (path_of path) child t s)
          (image_matches (image st o.0) st o.0 (new_reads (eqb-true n 0 e)))
      go false e = image_matches img st root r

  pub insert_holds : CallHolds order img (shown root) (insert_call path child kind origin label content)
  unfolding plain x
  insert_holds = record {
    answer = same_answer;
    full = (λ z. let f = full_exactly.0 z in (roomy_number _ _ refl ∙ f.0, f.1), λ z. full_exactly.1 (sym (roomy_number _ _ refl) ∙ z.0, z.1));
    after = same_tree;
  }
