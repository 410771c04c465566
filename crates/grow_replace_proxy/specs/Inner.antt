-- The walk down to the node that holds a byte of a record.
use Rattle.std.specs.Prelude.{◌≡◌, refl, Bool, List, ℕ, ◌+◌, ◌<◌, ◌≤◌, length}
use Rattle.std.proofs.Common.{sym, ap, ◌∙◌, arith}
use Rattle.theory_row_bytes.specs.RowAt.{RecordIs, size_of}
use Rattle.model.specs.Limits.{capacity}
use Rattle.model.specs.Row.{Head, Row, nil, agg, lit, rec, size, base, record_size, ◌⊹◌}
use Rattle.model.specs.Reading.{size_at}
use Rattle.model.specs.Spot.{Position, here, inside, fill}
use Rattle.grow_splice.specs.Position.{at, parent, push, size_around, parent_push, at_push, at_in, position_case}
use Rattle.grow_replace_proxy.specs.Left.{opened, Left, left_first, push_first, left_start, left_past, left_into}

-- A record with a proxy at the byte target.
pub record Filled (l : List ℕ) (target : ℕ) : Type 0 where
  pub position : Position
  pub page : ℕ
  pub settled : Bool
  pub old : Row
  pub rest : Row
  pub is : RecordIs l (fill position (rec page settled old rest))
  pub small : record_size (fill position (rec page settled old rest)) ≤ capacity
  pub stands : target ≡ at (base (fill position (rec page settled old rest))) position

-- Where the node starts that holds it.
abbrev pub filled_in : (l : List ℕ) (target : ℕ) → Filled l target → ℕ
filled_in l target w = parent 0 (base (fill w.position (rec w.page w.settled w.old w.rest))) w.position

-- The row at pos stands in the node at par; the node at goal holds the target.
pub record Inner (l : List ℕ) (target pos par goal : ℕ) : Type 0 where
  pub position : Position
  pub filling : Row
  pub some : 1 ≤ size filling
  pub left : Left l pos position filling
  pub target_is : target ≡ at pos position
  pub goal_is : goal ≡ parent par pos position

-- What stands at pos.
pub record InnerStep (l : List ℕ) (target pos par goal : ℕ) : Type 0 where
  pub more : 6 ≤ size_at l pos
  pub within : pos + size_at l pos ≤ length l
  pub enter : target < pos + size_at l pos → Inner l target (pos + 6) pos goal
  pub skip : pos + size_at l pos ≤ target → Inner l target (pos + size_at l pos) par goal

module _ (l : List ℕ) (target pos par goal : ℕ) (x : Row) (some : 1 ≤ size x) (low : pos < target) where
  abbrev InnerSteps : Position → Type 0
  InnerSteps s = Left l pos s x → target ≡ at pos s → goal ≡ parent par pos s → InnerStep l target pos par goal

  step_inside : (h : Head) (right : Row) (s : Position) → InnerSteps (inside nil h right s)
  step_inside h right s v t g =
      let d = left_first v (omega arith) in
      let z : pos + 0 ≡ pos = omega arith in
      let t' : target ≡ at (pos + 6) s = t ∙ ap (λ (m : ℕ). at (m + 6) s) z in
      record {
        more = omega (arith, d.size_is);
        within = omega (arith, d.size_is, d.within);
        enter = λ k. record {
          position = s;
          filling = x;
          some = some;
          left = left_into x h right s v;
          target_is = t';
          goal_is = g ∙ ap (λ (m : ℕ). parent m (m + 6) s) z;
        };
        skip = λ k. absurd (omega (arith, d.size_is, at_in s (pos + 6), size_around s x));
      }

  step_past : (a : Row) (t : Position) → 0 < size a → size_of (a ⊹ fill t x) ≡ size a → InnerSteps (push a t)
  step_past a t h one v e g =
      let d = push_first x a t v h in
      let e' : target ≡ at (pos + size a) t = e ∙ at_push a t pos in
      let n : size_at l pos ≡ size a = d.size_is ∙ one in
      record {
        more = omega (arith, d.more);
        within = omega (arith, d.within, d.total);
        enter = λ k. absurd (omega (arith, at_in t (pos + size a)));
        skip = λ k. rw n (record { position = t; filling = x; some = some; left = left_past x a t v; target_is = e'; goal_is = g ∙ parent_push a t par pos });
      }

  steps : (s : Position) → InnerSteps s
  steps s =
      position_case InnerSteps (λ v t g. absurd (omega arith)) step_inside
      (λ h cs t. step_past (agg h cs nil) t (omega arith) (omega arith))
      (λ h c t. step_past (lit h c nil) t (omega arith) (omega arith))
      (λ p b r t. step_past (rec p b r nil) t (omega arith) refl)
      s

pub inner_step : (l : List ℕ) (target pos par goal : ℕ) → Inner l target pos par goal → pos < target → InnerStep l target pos par goal
inner_step l target pos par goal v h = steps l target pos par goal v.filling v.some h v.position v.left v.target_is v.goal_is

-- At the target the walk stands in the node that holds it.
pub inner_end : (l : List ℕ) (target pos par goal : ℕ) → Inner l target pos par goal → target ≤ pos → par ≡ goal
inner_end l target pos par goal v h = go v.position v.target_is v.goal_is
  where
    go : (s : Position) → target ≡ at pos s → goal ≡ parent par pos s → par ≡ goal
    go (here left) t g = sym g
    go (inside left k right s) t g = absurd (omega (arith, at_in s (pos + size left + 6)))

pub inner_start : (l : List ℕ) (target : ℕ) (w : Filled l target) → Inner l target 6 0 (filled_in l target w)
inner_start l target w =
    let v = opened w.position w.page w.settled w.old w.rest in
    record {
      position = v.position;
      filling = rec w.page w.settled w.old w.rest;
      some = omega arith;
      left = left_start l w.position w.page w.settled w.old w.rest w.is w.small;
      target_is = w.stands ∙ v.at_is;
      goal_is = v.par_is;
    }
