-- Which of its siblings a new node goes to, by what the code finds and reads.
use Rattle.std.specs.Prelude.{◌≡◌, refl, Bool, cond, List, ℕ, zero, suc, ◌*◌, ◌/◌, ◌%◌, Option, None, Some, is_some, IfSome, leb, ltb}
use Rattle.std.proofs.Common.{sym, subst, ◌∙◌}
use Rattle.std.proofs.Math.Dec.{leb-zero}
use Rattle.model.specs.Limits.{page_size}
use Rattle.model.specs.Row.{Row}
use Rattle.model.specs.Tree.{width}
use Rattle.model.specs.Reading.{used_at}
use Rattle.read_find.specs.Rowed.{Rowed}
use Rattle.grow_locate.specs.declared.Located.{Located}
use Rattle.grow_locate.specs.declared.Span.{Span}
use Rattle.grow_locate.specs.declared.Receiver.{Receiver}
use Rattle.grow_locate.specs.Seek.{seek_span, seek_found, seek_on, PageAround}

-- The length used by the record in which a byte of the image is.
abbrev pub used_around : (img : List ℕ) → (pos : ℕ) → ℕ
used_around img pos = used_at img (page_size * (pos / page_size))

-- Fewer bytes are used around the right sibling than around the left one, so more are unused.
abbrev pub right_wins : (img : List ℕ) → (left right : Located) → Bool
right_wins img l r = ltb (used_around img r.at) (used_around img l.at)

-- The spot at a byte of the image; behind what was found, and before it.
abbrev pub sight_at : (pos par deep : ℕ) → Receiver
sight_at pos par n = record { page = pos / page_size; at = pos % page_size; par = par; deep = n }

abbrev pub sight_after : Located → Receiver
sight_after l = sight_at l.past l.par l.deep

abbrev pub sight_before : Located → Receiver
sight_before l = sight_at l.at l.par l.deep

-- Without a left sibling there is none.
abbrev pub sight_beside : (img : List ℕ) → (left right : Option Located) → Option Receiver
sight_beside img None r = None
sight_beside img (Some l) None = Some (sight_after l)
sight_beside img (Some l) (Some r) = Some (cond (right_wins img l r) (sight_before r) (sight_after l))

abbrev pub sight_first : Span → (right : Option Located) → Receiver
sight_first span None = sight_at span.pos span.par span.deep
sight_first span (Some r) = sight_before r

-- Where the new node goes as node k of those that the span shows.
abbrev pub sight_child : (img : List ℕ) → Span → Row → (k : ℕ) → Option Receiver
sight_child img span row zero = Some (sight_first span (seek_span span row 0))
sight_child img span row (suc i) = sight_beside img (seek_span span row i) (seek_span span row (suc i))

beside_found : (img : List ℕ) (l r : Option Located) → is_some (sight_beside img l r) ≡ is_some l
beside_found img None r = refl
beside_found img (Some l) None = refl
beside_found img (Some l) (Some r) = refl

pub sight_found : (img : List ℕ) (span : Span) (row : Row) (k : ℕ) → is_some (sight_child img span row k) ≡ leb k (width row)
sight_found img span row zero = sym (leb-zero (width row))
sight_found img span row (suc i) = beside_found img (seek_span span row i) (seek_span span row (suc i)) ∙ seek_found _ _ _ row i

-- The pages around both siblings are in the image.
pub both_on : {img : List ℕ} {most : ℕ} (span : Span) (w : Rowed img span.pos span.end most) (i : ℕ) (l r : Located) → Some l ≡ seek_span span w.row i
    → Some r ≡ seek_span span w.row (suc i) → PageAround img l.at × PageAround img r.at
both_on {img} span w i l r a b =
    let P : Option Located → Type 0 = λ o. IfSome o (λ l. PageAround img l.at) in
    (subst P (sym a) (seek_on _ _ _ w.row i w.here), subst P (sym b) (seek_on _ _ _ w.row (suc i) w.here))
