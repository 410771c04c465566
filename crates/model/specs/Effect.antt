-- A call with its arguments as what it does: to an image, and to the plain tree, a machine that answers from a tree alone and is fed what document 01 lets it
-- be fed with. Each call has a file of its own in Calls/.
use Rattle.std.specs.Prelude.{Bool, false, List, ℕ, length, ℤ}
use Rattle.std.proofs.Math.Option.{Option}
use Rattle.model.specs.Tree.{Tree}
use Rattle.model.specs.Growth.{Work, no_work}
use Rattle.model.specs.Common.{places_on, records_on}
use Rattle.model.specs.declared.Place.{Place}

-- The image's length; each node's place, before the call and after it; whether growth for the insert at hand takes a page and none
-- is free; the number of record pages.
pub record Feed : Type 0 where
  pub image_length : ℕ
  pub place : List ℕ → Option Place
  pub place_after : List ℕ → Option Place
  pub full : Bool
  pub record_count : ℕ

-- The same with pages enough.
abbrev pub roomy : Feed → Feed
roomy f = record { image_length = f.image_length; place = f.place; place_after = f.place_after; full = false; record_count = f.record_count }

-- What the machine only hands through: split count and lean, which are the growth rules', and the order of Records, which is open.
pub record Handed : Type 0 where
  pub splits : ℕ
  pub lean : ℤ
  pub order : (buffer : List ℕ) → List ℕ

-- `Typed`: the arguments are of their types. `growth`: what growth carries along for the insert at hand. `number`: the refusal number of an answer.
pub record Effect : Type 1 where
  pub Typed : Type 0
  pub Answer : Type 0
  pub number : Answer → ℕ
  pub growth : (img : List ℕ) → Work
  pub on_image : (img : List ℕ) → Answer × List ℕ
  pub on_tree : Feed → Handed → Tree → Answer × Tree

-- A call that changes nothing, and asks nothing of its arguments.
abbrev pub asking : (A : Type 0) → (number : A → ℕ) → (on_image : List ℕ → A) → (on_tree : Feed → Handed → Tree → A) → Effect
asking A n f g = record {
  Typed = Unit {0};
  Answer = A;
  number = n;
  growth = λ img. no_work;
  on_image = λ img. (f img, img);
  on_tree = λ d h t. (g d h t, t);
}

abbrev pub feed_of : (img : List ℕ) → Effect → Feed
feed_of img e = record {
  image_length = length img;
  place = places_on img;
  place_after = places_on (e.on_image img).1;
  full = (e.growth img).full;
  record_count = records_on img;
}

abbrev pub handed_of : (order : (img buffer : List ℕ) → List ℕ) → (img : List ℕ) → Effect → Handed
handed_of order img e = record { splits = (e.growth img).splits; lean = (e.growth img).lean; order = order img }
