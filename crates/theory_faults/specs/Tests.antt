-- What the single tests of the walk say: a node takes all of its bytes, a page has a record.
use Rattle.std.specs.Prelude.{◌≡◌, refl, Bool, true, false, ◌&&◌, List, ℕ, ◌+◌, ◌*◌, ◌≤◌, ◌<◌, length, get_or, drop, leb, eqb}
use Rattle.std.proofs.Common.{◌∙◌, arith, length-drop, length-take-le, eqb-true, leb-true, le-leb}
use Rattle.std.proofs.lemmas.Bool.{eqb-false}
use Rattle.model.specs.Limits.{page_size, capacity}
use Rattle.model.specs.Reading.{two_at, page_of, size_at, used_at}
use Rattle.model.specs.BeforeWalk.{trailer_of, is_free, settled_fits, record_trailer, trailer_fits, page_count, before_walk}
use Rattle.model.specs.WalkTests.{whole_size, passing_kind, record_of}
use Rattle.theory_decoding.specs.Valid.{both as and_both}
use Rattle.theory_check.specs.Before.{before_says}
use Rattle.theory_check.specs.Trailers.{trailer_two}
use Rattle.theory_check.specs.Parts.{page_two}
use Rattle.theory_check.specs.Walk.{State, stop, node_step, node_of}
use Rattle.theory_check.specs.Steps.{passing, node_eq}

-- ── nodes ──

-- A node that does not take all of its bytes does not pass.
pub not_whole : (s : List ℕ) (holder : ℕ) → (whole_size s ≡ length s → ⊥) → passing_kind s holder ≡ 0
unfolding whole_size
not_whole s holder z = go (eqb (passing_kind s holder) 0) refl
  where
    go : (c : Bool) → eqb (passing_kind s holder) 0 ≡ c → passing_kind s holder ≡ 0
    go true e = eqb-true _ 0 e
    go false e =
        let k = passing s holder _ refl (eqb-false _ 0 e) in
        absurd (z (rw (le-leb 6 (length s) k.long, le-leb 6 (size_at s 0) (omega arith), le-leb (size_at s 0) (length s) (omega arith)) k.size))

pub refused : (img s : List ℕ) (page holder level : ℕ) (w : State) → passing_kind s holder ≡ 0 → node_of img s page holder level w ≡ stop w
unfolding node_step
refused img s page holder level w e = node_eq img s page holder level w ∙ rw e

-- ── pages ──

-- A record is as long as its trailer says.
pub record_long : (img : List ℕ) (p : ℕ) → page_size * p + page_size ≤ length img → used_at img (page_size * p) ≤ capacity
    → length (record_of img p) ≡ used_at img (page_size * p)
record_long img p h u = length-take-le (used_at img (page_size * p)) (drop (page_size * p) img) (omega (arith, length-drop (page_size * p) img))

used_some : (pages p : ℕ) (t : List ℕ) → record_trailer pages p t ≡ true → 6 ≤ two_at t 2
unfolding record_trailer
used_some pages p t e =
    let last = and_both _ _ e in
    let back = and_both _ _ last.0 in
    let used = and_both (eqb (get_or t 0 0) 1 && settled_fits p (get_or t 1 0)) _ back.0 in
    leb-true _ _ (and_both (leb 6 (two_at t 2)) _ used.1).0

-- A record has at least a header, where the part before the walk passes.
pub record_some : (img : List ℕ) (p : ℕ) → before_walk img ≡ true → 1 ≤ p → p < page_count img → is_free (trailer_of (page_of img p)) ≡ false
    → 6 ≤ used_at img (page_size * p)
unfolding trailer_fits
record_some img p e low high f =
    let t = trailer_of (page_of img p) in
    let r : record_trailer (page_count img) p t ≡ true = rw f at ((before_says img e).trailers p low high) in
    omega (arith, used_some (page_count img) p t r, trailer_two (page_of img p) 2, page_two img p (capacity + 2) (omega arith))
