-- A call that changes nothing, in a list of calls.
use Rattle.std.specs.Prelude.{◌≡◌, List, ℕ}
use Rattle.std.proofs.lemmas.Bool.{false≢true}
use Rattle.model.specs.Row.{Row, Config}
use Rattle.model.specs.Tree.{Tree, shown}
use Rattle.model.specs.Reading.{Reads}
use Rattle.model.specs.Answers.{no_free_page}
use Rattle.model.specs.Effect.{Feed, Handed, asking, feed_of, handed_of}
use Rattle.model.specs.Claims.{CallHolds}
use Rattle.theory_calls.specs.Matches.{image_matches}

-- Its answer is the plain tree's and never 12; the image stays, and so does the tree.
pub asked : (order : (img buffer : List ℕ) → List ℕ) (img : List ℕ) (st : Config) (root : Row) → Reads img st root
    → (A : Type 0) (number : A → ℕ) (f : List ℕ → A) (g : Feed → Handed → Tree → A)
    → f img ≡ g (feed_of img (asking A number f g)) (handed_of order img (asking A number f g)) (shown root) → (number (f img) ≡ no_free_page → ⊥)
    → CallHolds order img (shown root) (asking A number f g)
asked order img st root r A number f g same never =
    record { answer = same; full = (λ z. absurd (never z), λ z. absurd (false≢true z.1)); after = image_matches img st root r }
