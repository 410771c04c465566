-- A refusal's number is never that of an accepted call.
use Rattle.std.specs.Prelude.{◌≡◌, ℕ, Result, Ok, Err, IsOk}
use Rattle.std.proofs.Common.{arith, rules}
use Rattle.model.specs.Answers.{refusal_number, result_number}
use Rattle.model.specs.declared.Refusal.{Refusal}
use Rattle.model.specs.declared.Refusal.TheVariants.{WrongLength, WrongSettings, NotPassed, LongPath, WrongKind, LongContent, NoNode, LiteralParent, PastChildren}
use Rattle.model.specs.declared.Refusal.TheVariants.{NoPlaceThere, ShortBuffer, NoFreePage, WrongOrigin, EmptyPath}

pub some_number : (r : Refusal) → refusal_number r ≡ 0 → ⊥
some_number WrongLength e = omega arith
some_number WrongSettings e = omega arith
some_number NotPassed e = omega arith
some_number LongPath e = omega arith
some_number WrongKind e = omega arith
some_number LongContent e = omega arith
some_number NoNode e = omega arith
some_number LiteralParent e = omega arith
some_number PastChildren e = omega arith
some_number NoPlaceThere e = omega arith
some_number ShortBuffer e = omega arith
some_number NoFreePage e = omega arith
some_number WrongOrigin e = omega arith
some_number EmptyPath e = omega arith

-- Where the number is 0 the call is accepted.
pub is_accepted : {A : Type 0} (r : Result A Refusal) → result_number r ≡ 0 → IsOk r
is_accepted (Ok a) e = search rules
is_accepted (Err r) e = absurd (some_number r e)
