-- What holds of any image that reads: it passes, shows its tree, no record is too large, and find then climb gives each path back.
use Rattle.std.specs.Prelude.{◌≡◌, refl, true, List, [], ◌∷◌, ◌++◌, ℕ, ◌≤◌, length, drop}
use Rattle.std.proofs.Math.Path.{ap}
use Rattle.std.proofs.Common.{◌∙◌, arith}
use Rattle.std.proofs.Math.Option.{Option, none, some}
use borrow.Author.Tests.{le-ltb}
use Rattle.model.specs.Limits.{capacity, longest_path}
use Rattle.model.specs.Row.{Row, store, Held, records, Config, every, is_byte}
use Rattle.model.specs.Tree.{shown, Node, named, place_of}
use Rattle.model.specs.Reading.{Reads}
use Rattle.model.specs.Common.{entries, named_if, place_or, path_bytes}
use Rattle.model.specs.Calls.Find.{find_in, find_of}
use Rattle.model.specs.Calls.Climb.{climb_in, climb_of}
use Rattle.model.specs.Claims.{largest, ClimbsBack, Matches}
use Rattle.model.specs.declared.Place.{Place}
use Rattle.theory_rows.specs.Image.{AllFit, fits_records}
use Rattle.theory_rows.specs.Keeps.{levels, height_shown}
use Rattle.theory_decoding.specs.Reading.{reads_valid}
use Rattle.theory_places.specs.Named.{named_in_lem, named_place}
use Rattle.theory_places.specs.From.{from_found}
use Rattle.theory_calls.specs.Open.{opens, passes}
use Rattle.theory_calls.specs.Paths.{Spelled, spelled, path_levels}

pub largest_fits : (hs : List Held) → AllFit hs → largest hs ≤ capacity
largest_fits [] f = omega arith
largest_fits (h ∷ hs) f = omega (arith, f.0, largest_fits hs f.1)

module _ (img : List ℕ) (st : Config) (root : Row) (r : Reads img st root) where
  -- A path whose entries name a node.
  module _ (path buffer p : List ℕ) (n : Node) (e : entries path ≡ some p) (s : Spelled path p) (m : named (shown root) p ≡ some n)
      (room : length path ≤ length buffer) where
    short : length path ≤ longest_path
    short = omega (arith, s.long, path_levels 0 p (shown root) n m, height_shown root, (reads_valid img st root r).levels)

    pub finds : find_of img path ≡ record { number = 0; place = place_or (place_of root p) }
    unfolding find_of find_in
    finds = rw (opens img st root r, e, m, le-ltb longest_path (length path) short)

    climbs : (x : Place) → place_of root p ≡ some x → climb_of img x buffer ≡ (record { number = 0; written = length path }, path ++ drop (length path) buffer)
    unfolding climb_of climb_in
    climbs x f =
        let v = reads_valid img st root r in
        let i = named_in_lem (shown root) p n m in
        let g = from_found st root v x n i.0 (ap (place_of root) i.1 ∙ f) in
        let b : path_bytes n.path ≡ path = ap path_bytes i.1 ∙ s.back in
        rw (opens img st root r, g.1, b, le-ltb (length buffer) (length path) room)

    climbs_back : ClimbsBack img path buffer
    climbs_back =
        let x = named_place root p n m in
        let y : (find_of img path).place ≡ x.0 = ap (λ z. z.place) finds ∙ ap place_or x.1 in
        record { found = ap (λ z. z.number) finds; back = rw y (climbs x.0 x.1) }

  pub image_matches : Matches img (shown root)
  image_matches = record {
    passes = passes img st root r;
    shows = rw (opens img st root r);
    fits = rw (opens img st root r) (largest_fits (records 0 (store root)) (fits_records 0 (store root) (reads_valid img st root r).rows));
    climbs = λ path buffer n b e room. back path buffer n b room (entries path) refl e;
  }
    where
      back : (path buffer : List ℕ) (n : Node) → every is_byte path ≡ true → length path ≤ length buffer → (o : Option (List ℕ)) → entries path ≡ o
          → named_if (shown root) o ≡ some n → ClimbsBack img path buffer
      back path buffer n b room none e m = let z : ◌≡◌ {A = ℕ} 0 1 = cc in absurd (omega arith)
      back path buffer n b room (some p) e m = climbs_back path buffer p n e (spelled path p b e) m room
