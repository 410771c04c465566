-- The walk over a record's headers to its proxy to a page.
use Rattle.std.specs.Prelude.{◌≡◌, refl, Bool, List, ℕ, ◌+◌, ◌<◌, ◌≤◌, length}
use Rattle.std.proofs.Common.{subst, sym, ap, ◌∙◌, arith}
use Rattle.theory_row_bytes.specs.RowAt.{RecordIs}
use Rattle.model.specs.Limits.{capacity}
use Rattle.model.specs.Row.{Head, Row, nil, agg, lit, rec, size, base, record_size, count}
use Rattle.model.specs.Reading.{size_at, name_at, kind_at}
use Rattle.theory_rows.specs.Pages.{count-⊹}
use Rattle.theory_decoding.specs.Valid.{names_own}
use Rattle.model.specs.Spot.{Position, here, inside, fill}
use Rattle.grow_splice.specs.Position.{at, push, size_around, at_push, position_case}
use Rattle.grow_replace_proxy.specs.Left.{count_push, opened, Left, left_first, push_first, left_start, left_past, left_through, left_into}

-- A record that names the page one time, by a proxy at the position. No page that it names is cut off in two bytes.
pub record NamesOnce (l : List ℕ) (page : ℕ) : Type 0 where
  pub position : Position
  pub settled : Bool
  pub old : Row
  pub rest : Row
  pub is : RecordIs l (fill position (rec page settled old rest))
  pub small : record_size (fill position (rec page settled old rest)) ≤ capacity
  pub once : count page (fill position (rec page settled old rest)) ≡ 1
  pub names : (q : ℕ) → 1 ≤ count q (fill position (rec page settled old rest)) → q < 65536

-- Where the proxy starts.
abbrev pub proxy_position : (l : List ℕ) (page : ℕ) → NamesOnce l page → ℕ
proxy_position l page w = at (base (fill w.position (rec page w.settled w.old w.rest))) w.position

-- From pos on, the proxy at goal is the only one to the page.
pub record Seek (l : List ℕ) (page pos goal : ℕ) : Type 0 where
  pub position : Position
  pub settled : Bool
  pub old : Row
  pub rest : Row
  pub left : Left l pos position (rec page settled old rest)
  pub goes : goal ≡ at pos position
  pub once : count page (fill position (rec page settled old rest)) ≤ 1
  pub names : (q : ℕ) → 1 ≤ count q (fill position (rec page settled old rest)) → q < 65536

-- What stands at pos.
pub record SeekStep (l : List ℕ) (page pos goal : ℕ) : Type 0 where
  pub within : pos + 8 ≤ length l
  pub into : kind_at l pos ≡ 1 → Seek l page (pos + 6) goal
  pub proxy : kind_at l pos ≡ 3 → name_at l pos ≡ page → pos ≡ goal
  pub other : kind_at l pos ≡ 3 → (name_at l pos ≡ page → ⊥) → Seek l page (pos + 8) goal
  pub past : (kind_at l pos ≡ 1 → ⊥) → (kind_at l pos ≡ 3 → ⊥) → (6 ≤ size_at l pos) × Seek l page (pos + size_at l pos) goal

-- The proxy names its page.
pub count_position : (s : Position) (q : ℕ) (b : Bool) (r rest : Row) → 1 ≤ count q (fill s (rec q b r rest))
count_position (here left) q b r rest = omega (arith, count-⊹ q left (rec q b r rest), names_own q b r rest)
count_position (inside left h right s) q b r rest = omega (arith, count-⊹ q left (agg h (fill s (rec q b r rest)) right), count_position s q b r rest)

module _ (l : List ℕ) (page pos goal : ℕ) (b : Bool) (old rest : Row) where
  -- What follows where the walk is at `from`, and the proxy at a position from there on.
  abbrev SeekOn : (from : ℕ) → Position → Type 0 → Type 0
  SeekOn from s P = Left l from s (rec page b old rest) → goal ≡ at from s → count page (fill s (rec page b old rest)) ≤ 1
      → ((q : ℕ) → 1 ≤ count q (fill s (rec page b old rest)) → q < 65536) → P

  abbrev SeekSteps : Position → Type 0
  SeekSteps s = SeekOn pos s (SeekStep l page pos goal)

  abbrev seek_on : (to : ℕ) (s : Position) → SeekOn to s (Seek l page to goal)
  seek_on to s v g o n = record { position = s; settled = b; old = old; rest = rest; left = v; goes = g; once = o; names = n }

  room : (s : Position) → Left l pos s (rec page b old rest) → pos + 8 ≤ length l
  room s v = let n = size_around s (rec page b old rest) in omega (arith, (left_first v (omega arith)).within)

  finds_here : SeekSteps (here nil)
  finds_here v g o n =
      let d = left_first v (omega arith) in
      record {
        within = room (here nil) v;
        into = λ k. absurd (omega (arith, d.kind_is));
        proxy = λ k f. omega arith;
        other = λ k f. absurd (f (d.name_is refl (n page (names_own page b old rest))));
        past = λ k f. absurd (f d.kind_is);
      }

  finds_inside : (h : Head) (right : Row) (s : Position) → SeekSteps (inside nil h right s)
  finds_inside h right s v g o n =
      let d = left_first v (omega arith) in
      let z : pos + 0 + 6 ≡ pos + 6 = omega arith in
      record {
        within = room (inside nil h right s) v;
        into = λ k. seek_on (pos + 6) s (left_into (rec page b old rest) h right s v) (g ∙ ap (λ (m : ℕ). at m s) z) (omega arith) (λ q f. n q (omega arith));
        proxy = λ k f. absurd (omega (arith, d.kind_is));
        other = λ k f. absurd (omega (arith, d.kind_is));
        past = λ k f. absurd (k d.kind_is);
      }

  finds_agg : (h : Head) (cs : Row) (t : Position) → SeekSteps (push (agg h cs nil) t)
  finds_agg h cs t v g o n =
      let x = rec page b old rest in
      let d = push_first x (agg h cs nil) t v (omega arith) in
      let z : pos + size (agg h cs nil) ≡ pos + 6 + size cs = omega arith in
      let c : (q : ℕ) → count q (fill (push (agg h cs nil) t) x) ≡ count q (fill (push cs t) x) =
      λ q. omega (arith, count_push q (agg h cs nil) t x, count_push q cs t x) in
      record {
        within = room (push (agg h cs nil) t) v;
        into = λ k. seek_on (pos + 6) (push cs t) (left_through x h cs t v)
            (g ∙ at_push (agg h cs nil) t pos ∙ ap (λ (m : ℕ). at m t) z ∙ sym (at_push cs t (pos + 6))) (omega (arith, c page))
            (λ q f. n q (omega (arith, c q)));
        proxy = λ k f. absurd (omega (arith, d.kind_is));
        other = λ k f. absurd (omega (arith, d.kind_is));
        past = λ k f. absurd (k d.kind_is);
      }

  -- past a node
  seek_past : (a : Row) (t : Position) → SeekOn pos (push a t) (Seek l page (pos + size a) goal)
  seek_past a t v g o n =
      let x = rec page b old rest in
      seek_on (pos + size a) t (left_past x a t v) (g ∙ at_push a t pos) (omega (arith, count_push page a t x))
      (λ q f. n q (omega (arith, count_push q a t x)))

  finds_lit : (h : Head) (c : List ℕ) (t : Position) → SeekSteps (push (lit h c nil) t)
  finds_lit h c t v g o n =
      let d = push_first (rec page b old rest) (lit h c nil) t v (omega arith) in
      let z : size_at l pos ≡ size (lit h c nil) = omega (arith, d.size_is) in
      record {
        within = room (push (lit h c nil) t) v;
        into = λ k. absurd (omega (arith, d.kind_is));
        proxy = λ k f. absurd (omega (arith, d.kind_is));
        other = λ k f. absurd (omega (arith, d.kind_is));
        past = λ k f. (omega arith, rw z (seek_past (lit h c nil) t v g o n));
      }

  finds_rec : (p : ℕ) (s : Bool) (r : Row) (t : Position) → SeekSteps (push (rec p s r nil) t)
  finds_rec p s r t v g o n =
      let x = rec page b old rest in
      let d = push_first x (rec p s r nil) t v (omega arith) in
      let own = names_own p s r nil in
      let apart : page ≡ p → ⊥ = λ f.
      let k : 1 ≤ count page (rec p s r nil) = subst (λ (q : ℕ). 1 ≤ count q (rec p s r nil)) (sym f) own in
      omega (arith, o, count_push page (rec p s r nil) t x, count_position t page b old rest) in
      record {
        within = room (push (rec p s r nil) t) v;
        into = λ k. absurd (omega (arith, d.kind_is));
        proxy = λ k f. absurd (apart (sym f ∙ d.name_is refl (n p (omega (arith, count_push p (rec p s r nil) t x)))));
        other = λ k f. seek_past (rec p s r nil) t v g o n;
        past = λ k f. absurd (f d.kind_is);
      }

  finds : (s : Position) → SeekSteps s
  finds s = position_case SeekSteps finds_here finds_inside finds_agg finds_lit finds_rec s

pub seek_step : (l : List ℕ) (page pos goal : ℕ) → Seek l page pos goal → SeekStep l page pos goal
seek_step l page pos goal s = finds l page pos goal s.settled s.old s.rest s.position s.left s.goes s.once s.names

pub seek_start : (l : List ℕ) (page : ℕ) (w : NamesOnce l page) → Seek l page 6 (proxy_position l page w)
seek_start l page w =
    let v = opened w.position page w.settled w.old w.rest in
    seek_on l page 6 (proxy_position l page w) w.settled w.old w.rest 6 v.position
    (left_start l w.position page w.settled w.old w.rest w.is w.small) v.at_is (omega (arith, v.names page, w.once))
    (λ q f. w.names q (omega (arith, v.names q)))
