-- Each call on an image that does not pass gives the check's number, and nothing else.
use Rattle.std.specs.Prelude.{◌≡◌, List, ℕ}
use Rattle.std.proofs.Common.{sym}
use Rattle.model.specs.Answers.{insert_refused, find_refused, write_refused, read_refused, next_refused, walk_refused}
use Rattle.model.specs.Calls.Check.{check_of}
use Rattle.model.specs.Calls.Insert.{insert_of}
use Rattle.model.specs.Calls.Remove.{remove_of}
use Rattle.model.specs.Calls.Find.{find_of}
use Rattle.model.specs.Calls.Climb.{climb_of}
use Rattle.model.specs.Calls.Read.{read_of}
use Rattle.model.specs.Calls.Next.{next_of}
use Rattle.model.specs.Calls.Records.{records_of}
use Rattle.model.specs.Calls.Walk.{walk_of}
use Rattle.model.specs.declared.Place.{Place}
use Rattle.theory_calls.specs.Open.{refuses}

module _ (img : List ℕ) (n : ℕ) (e : n ≡ check_of img) (z : n ≡ 0 → ⊥) where
  pub insert_refused_lem : (path : List ℕ) (child kind origin label : ℕ) (content : List ℕ)
      → (insert_refused n, img) ≡ insert_of img path child kind origin label content
  unfolding insert_of
  insert_refused_lem path child kind origin label content = rw (refuses img n (sym e) z)

  pub remove_refused : (path : List ℕ) → (n, img) ≡ remove_of img path
  unfolding remove_of
  remove_refused path = rw (refuses img n (sym e) z)

  pub find_refused_lem : (path : List ℕ) → find_refused n ≡ find_of img path
  unfolding find_of
  find_refused_lem path = rw (refuses img n (sym e) z)

  pub climb_refused : (x : Place) (buffer : List ℕ) → climb_of img x buffer ≡ (write_refused n, buffer)
  unfolding climb_of
  climb_refused x buffer = rw (refuses img n (sym e) z)

  pub read_refused_lem : (x : Place) → read_refused n ≡ read_of img x
  unfolding read_of
  read_refused_lem x = rw (refuses img n (sym e) z)

  pub next_refused_lem : (x : Place) → next_refused n ≡ next_of img x
  unfolding next_of
  next_refused_lem x = rw (refuses img n (sym e) z)

  pub records_refused : (order buffer : List ℕ) → records_of order img buffer ≡ (write_refused n, buffer)
  unfolding records_of
  records_refused order buffer = rw (refuses img n (sym e) z)

  pub walk_refused_lem : (x : Place) (buffer : List ℕ) → walk_of img x buffer ≡ (walk_refused n, buffer)
  unfolding walk_of
  walk_refused_lem x buffer = rw (refuses img n (sym e) z)
