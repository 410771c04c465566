-- The walk that makes the size of each node that holds a filling `less` smaller and `more` larger.
use Rattle.std.specs.Prelude.{◌≡◌, refl, List, [], ◌++◌, ℕ, ◌+◌, ◌-◌, ◌<◌, ◌≤◌, length}
use Rattle.std.proofs.Common.{sym, ap, ◌∙◌, append_assoc, ⊎_elim, arith, length-append}
use Rattle.model.specs.Row.{Head, Row, nil, agg, lit, rec, size, two, header, bytes}
use Rattle.model.specs.Reading.{size_at}
use Rattle.base_numbers.specs.Over.{over}
use Rattle.theory_rows.specs.Laws.{length_bytes}
use Rattle.model.specs.Spot.{Position, inside}
use Rattle.theory_row_bytes.specs.RowAt.{HeaderAt, header_after, header_size, header_inside, header_resized, kind_of, head_of, body_of, rest_of, one_bytes}
use Rattle.grow_splice.specs.Position.{position_case, parent, around, before, push, before_push, around_push, parent_push, parent_in, before_plain}

-- cur is goal, but that the nodes from pos on have their old sizes
pub record Mid (cur goal : List ℕ) (pos par less more : ℕ) : Type 0 where
  pub position : Position
  pub filled : ℕ
  pub pre : List ℕ
  pub outer : ℕ
  pub now : cur ≡ pre ++ before position filled
  pub then : goal ≡ pre ++ before position (filled - less + more)
  pub len : length pre ≡ pos
  pub low : outer < pos
  pub at : par ≡ parent outer pos position
  pub least : less ≤ filled
  pub small : around position + filled + more < 65536

pub mid_end : (cur goal : List ℕ) (pos par less more : ℕ) → Mid cur goal pos par less more → par < pos → cur ≡ goal
mid_end cur goal pos par less more m h =
    m.now
    ∙ ap (λ (z : List ℕ). m.pre ++ z) (before_plain m.position m.outer pos m.filled (m.filled - less + more) m.low (omega (arith, m.at)))
    ∙ sym m.then

-- what stands at pos
pub record Look (cur goal : List ℕ) (pos par less more : ℕ) : Type 0 where
  pub fits : pos + 6 ≤ length cur
  pub long : 6 ≤ size_at cur pos
  pub small : size_at cur pos + more < 65536
  pub skip : pos + size_at cur pos ≤ par → Mid cur goal (pos + size_at cur pos) par less more
  pub least : par < pos + size_at cur pos → less ≤ size_at cur pos
  pub enter : par < pos + size_at cur pos → Mid (over (pos + 4) (two (size_at cur pos - less + more)) cur) goal (pos + 6) par less more

-- a node that is passed by
look_past : (a : Row) (t : Position) (cur goal : List ℕ) (pos par less more : ℕ) (m : Mid cur goal pos par less more) → pos ≤ par → 0 < size a
    → rest_of a ≡ nil → m.position ≡ push a t → Look cur goal pos par less more
look_past a t cur goal pos par less more m h some alone s =
    let f = m.filled in
    let f' : ℕ = f - less + more in
    let b = one_bytes a some alone in
    let size_is : size a ≡ 6 + length (body_of a) = omega (arith, length_bytes a, simp length-append at (ap length b)) in
    let low : (x : ℕ) → before m.position x ≡ bytes a ++ before t x = λ x. ap (λ (z : Position). before z x) s ∙ before_push a t x in
    let bound : size a + around t + f + more < 65536 = omega (arith, m.small, ap around s, around_push a t) in
    let par_is : par ≡ parent m.outer (pos + size a) t = m.at ∙ ap (λ (z : Position). parent m.outer pos z) s ∙ parent_push a t m.outer pos in
    let outside : par < pos + size a → ⊥ =
    λ g. ⊎_elim (λ w. omega (arith, m.low)) (λ w. omega (arith, m.low)) (parent_in t m.outer (pos + size a) (omega (arith, m.low))) in
    let shape : cur ≡ m.pre ++ (header (kind_of a) (head_of a) (size a) ++ (body_of a ++ before t f)) =
    m.now ∙ ap (λ (z : List ℕ). m.pre ++ z) (low f ∙ ap (λ (z : List ℕ). z ++ before t f) b) in
    let v = header_after cur m.pre (body_of a ++ before t f) pos (kind_of a) (head_of a) (size a) shape m.len in
    let is = header_size v (omega arith) in
    record {
      fits = header_inside v;
      long = omega arith;
      small = omega arith;
      skip = λ g. rw is (record {
        position = t;
        filled = f;
        pre = m.pre ++ bytes a;
        outer = m.outer;
        now = m.now ∙ ap (λ (z : List ℕ). m.pre ++ z) (low f) ∙ sym (append_assoc m.pre (bytes a) (before t f));
        then = m.then ∙ ap (λ (z : List ℕ). m.pre ++ z) (low f') ∙ sym (append_assoc m.pre (bytes a) (before t f'));
        len = simp (length-append, length_bytes) (omega (arith, m.len));
        low = omega (arith, m.low);
        at = par_is;
        least = m.least;
        small = omega arith;
      });
      least = λ g. absurd (outside (omega (arith, is)));
      enter = λ g. absurd (outside (omega (arith, is)));
    }

-- the node that holds the filling
look_into : (h : Head) (rest : Row) (t : Position) (cur goal : List ℕ) (pos par less more : ℕ) (m : Mid cur goal pos par less more)
    → m.position ≡ inside nil h rest t → pos ≤ par → Look cur goal pos par less more
look_into h rest t cur goal pos par less more m s g =
    let f = m.filled in
    let f' : ℕ = f - less + more in
    let sz : ℕ = 6 + (around t + f) in
    let bound : 6 + around t + f + more < 65536 = omega (arith, m.small, ap around s) in
    let zero_is : pos + 0 ≡ pos = omega arith in
    let par_is : par ≡ parent pos (pos + 6) t = m.at ∙ ap (λ (z : Position). parent m.outer pos z) s ∙ ap (λ (z : ℕ). parent z (z + 6) t) zero_is in
    let shape : cur ≡ m.pre ++ (header 1 h sz ++ before t f) = m.now ∙ ap (λ (z : Position). m.pre ++ before z f) s in
    let resizes : sz - less + more ≡ 6 + (around t + f') = omega (arith, m.least) in
    let v = header_after cur m.pre (before t f) pos 1 h sz shape m.len in
    let is = header_size v (omega arith) in
    record {
      fits = header_inside v;
      long = omega arith;
      small = omega arith;
      skip = λ g. absurd (⊎_elim (λ w. omega arith) (λ w. omega arith) (parent_in t pos (pos + 6) (omega arith)));
      least = λ g. omega (arith, is, m.least);
      enter = λ g. rw is (record {
        position = t;
        filled = f;
        pre = m.pre ++ header 1 h (sz - less + more);
        outer = pos;
        now = ap (over (pos + 4) (two (sz - less + more))) shape ∙ header_resized m.pre (before t f) pos 1 h sz (sz - less + more) m.len
            ∙ sym (append_assoc m.pre (header 1 h (sz - less + more)) (before t f));
        then = m.then ∙ ap (λ (z : Position). m.pre ++ before z f') s ∙ ap (λ (z : ℕ). m.pre ++ (header 1 h z ++ before t f')) (sym resizes)
            ∙ sym (append_assoc m.pre (header 1 h (sz - less + more)) (before t f'));
        len = simp length-append (omega (arith, m.len));
        low = omega arith;
        at = par_is;
        least = m.least;
        small = omega arith;
      });
    }

pub look : (cur goal : List ℕ) (pos par less more : ℕ) → Mid cur goal pos par less more → pos ≤ par → Look cur goal pos par less more
look cur goal pos par less more m h =
    position_case (λ s. m.position ≡ s → Look cur goal pos par less more) (λ s. absurd (omega (arith, m.low, m.at, ap (parent m.outer pos) s)))
    (λ k rest u s. look_into k rest u cur goal pos par less more m s h)
    (λ k cs t. look_past (agg k cs nil) t cur goal pos par less more m h (omega arith) refl)
    (λ k c t. look_past (lit k c nil) t cur goal pos par less more m h (omega arith) refl)
    (λ p b r t. look_past (rec p b r nil) t cur goal pos par less more m h (omega arith) refl)
    m.position refl

-- what the walk is called with: the bytes of a record before a filling; the node that holds the filling starts at par; `less` bytes of it go, `more` come
pub record Cut (l : List ℕ) (par less more : ℕ) : Type 0 where
  pub kind : ℕ
  pub head : Head
  pub position : Position
  pub filled : ℕ
  pub is : l ≡ header kind head (6 + (around position + filled)) ++ before position filled
  pub at : par ≡ parent 0 6 position
  pub least : less ≤ filled
  pub small : 6 + around position + filled + more < 65536

-- what it leaves
abbrev pub resized : (l : List ℕ) (par less more : ℕ) → Cut l par less more → List ℕ
resized l par less more w =
    let f : ℕ = w.filled - less + more in header w.kind w.head (6 + (around w.position + f)) ++ before w.position f

module _ (l : List ℕ) (par less more : ℕ) (w : Cut l par less more) where
  at_root : HeaderAt l 0 w.kind w.head (6 + (around w.position + w.filled))
  at_root = header_after l [] (before w.position w.filled) 0 w.kind w.head (6 + (around w.position + w.filled)) w.is refl

  pub cut_root : size_at l 0 ≡ 6 + (around w.position + w.filled)
  cut_root = header_size at_root (omega (arith, w.small))

  pub cut_least : less ≤ size_at l 0
  cut_least = omega (arith, cut_root, w.least)

  pub cut_small : size_at l 0 + more < 65536
  cut_small = omega (arith, cut_root, w.small)

  pub cut_length : 6 ≤ length l
  cut_length = header_inside at_root

  pub cut_start : Mid (over 4 (two (size_at l 0 - less + more)) l) (resized l par less more w) 6 par less more
  cut_start =
      let n : ℕ = 6 + (around w.position + (w.filled - less + more)) in
      let z : size_at l 0 - less + more ≡ n = omega (arith, cut_root, w.least) in
      record {
        position = w.position;
        filled = w.filled;
        pre = header w.kind w.head n;
        outer = 0;
        now = ap (λ (k : ℕ). over 4 (two k) l) z ∙ ap (over 4 (two n)) w.is
            ∙ header_resized [] (before w.position w.filled) 0 w.kind w.head (6 + (around w.position + w.filled)) n refl;
        then = refl;
        len = refl;
        low = omega arith;
        at = w.at;
        least = w.least;
        small = omega (arith, w.small);
      }
