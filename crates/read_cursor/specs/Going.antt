-- A walk over a record in an image: the aggregates that it is in, and what it comes to.
use Rattle.std.specs.Prelude.{◌≡◌, Bool, cond, not, ◌&&◌, ℕ, ◌+◌, ◌-◌, ◌≤◌, ◌<◌, set, eqb, ltb, leb}
use Rattle.std.proofs.Math.Path.{refl, sym, ap, subst}
use Rattle.std.proofs.Common.{◌∙◌, true≢false, arith, get_or-set_same, get_or-set_other, eqb-true, ltb-true, ltb-false, lt-ltb, leb-true}
use Rattle.std.proofs.Math.Bool.{true, false}
use mathlib.Core.List.{List, [], ◌∷◌}
use Rattle.std.proofs.Math.ListN.{length, get_or, length-set}
use Rattle.std.proofs.lemmas.List.Edits.{sets}
use Rattle.std.proofs.lemmas.Bool.{eqb-false, not-true}
use Rattle.model.specs.Limits.{most_levels, most_bytes}
use Rattle.model.specs.Row.{Row, nil, agg, lit, rec, size, base, height, count}
use Rattle.model.specs.Reading.{kind_at, head_at, size_at}
use Rattle.model.specs.Tree.{width}
use Rattle.theory_decoding.specs.Steps.{steps}
use Rattle.theory_decoding.specs.Valid.{both}
use Rattle.theory_row_bytes.specs.RowAt.{kind_of, head_of, size_of, kids_of, rest_of}
use Rattle.theory_layout.specs.Here.{parts_less, view}
use Rattle.theory_layout.specs.Widths.{width_first, plain_width, none_width}
use Rattle.read_find.specs.Rowed.{Rowed, past_first, children_of}
use Rattle.read_cursor.specs.Way.{Way, met, way, begin, begin_case, begin_on, told, told_case, told_sought, told_stopped, told_written, told_full, Keeps, Fair, kept_fair, visit_keeps, visits, patch}
use Rattle.read_cursor.specs.Meets.{entry_at, meets, meets_none, first, visits_leaf, visits_past, visits_open}
use Rattle.read_cursor.specs.declared.Cursor.{Cursor}
use Rattle.read_cursor.specs.declared.Level.{Level}

abbrev pub cursor : (i end level n at next : ℕ) → Cursor
cursor i e l n k x = record { i = i; end = e; level = l; n = n; at = k; next = x }

-- Its part of a walk's state.
abbrev pub reached : Cursor → (out : List ℕ) → Way
reached c out = way c.at c.next out

-- ── the aggregates that a walk is in ──

-- Behind an aggregate that was entered: the rest of its row, whose nodes have the level, n of them passed; `here` is where its entry was written, 0: nowhere.
pub record Frame (img : List ℕ) (depth : ℕ) : Type 0 where
  pub level : ℕ
  pub pos : ℕ
  pub end : ℕ
  pub rest : Rowed img pos end depth
  pub n : ℕ
  pub here : ℕ

-- As the code has it.
abbrev pub level_of : (end n here : ℕ) → Level
level_of e n h = record { end = e; n = n; here = h }

-- No aggregate.
abbrev pub no_level : Level
no_level = level_of 0 0 0

-- What a walk comes to: the row that is left, then what is behind the aggregates that it is in.
unfoldable pub resume : {img : List ℕ} {depth : ℕ} (t : ℕ) → Way → (level i : ℕ) → Row → (n : ℕ) → List (Frame img depth) → Way × ℕ
resume t w l i row n [] = (visits t w (meets l i row), n + width row)
resume t w l i row n (f ∷ fs) = resume t (patch f.here (n + width row) (visits t w (meets l i row))) f.level f.pos f.rest.row f.n fs

-- What is met and counted first does not matter.
pub resume_same : {img : List ℕ} {depth : ℕ} (t : ℕ) (w v : Way) (l m i k : ℕ) (row rest : Row) (n o : ℕ) (fs : List (Frame img depth))
    → visits t w (meets l i row) ≡ visits t v (meets m k rest) → n + width row ≡ o + width rest → resume t w l i row n fs ≡ resume t v m k rest o fs
unfolding resume
resume_same t w v l m i k row rest n o [] e d = λ j. (e j, d j)
resume_same t w v l m i k row rest n o (f ∷ fs) e d =
    λ j. resume t (patch f.here (d j) (e j)) f.level f.pos f.rest.row f.n fs

-- An aggregate that a walk is in, as `stack` has it; the row inside has the level and ends at `end`. There are so many numbers in the buffer.
pub record Framed {img : List ℕ} {depth : ℕ} (stack : List Level) (room level end : ℕ) (f : Frame img depth) : Type 0 where
  pub up : f.level + 1 ≡ level
  pub starts : f.pos ≡ end
  pub tall : f.level + height f.rest.row ≤ most_levels + 1
  pub few : f.n + steps f.rest.row ≤ most_bytes
  pub is : get_or stack f.level no_level ≡ level_of f.end f.n f.here
  pub written : 1 ≤ f.here → f.here + 8 ≤ room

-- All of them, from the innermost on, up to the row of the record.
unfoldable pub Stacked : {img : List ℕ} {depth : ℕ} (stack : List Level) (room base stop level end : ℕ) → List (Frame img depth) → Type 0
Stacked stack room base stop level end [] = (level ≡ base) × (end ≡ stop)
Stacked stack room base stop level end (f ∷ fs) = Framed stack room level end f × Stacked stack room base stop f.level f.end fs

-- What stands in `stack` below a level is all that counts.
pub stacked_kept : {img : List ℕ} {depth : ℕ} (stack after : List Level) (room base stop level end : ℕ) (fs : List (Frame img depth))
    → ((j : ℕ) → j < level → get_or after j no_level ≡ get_or stack j no_level) → Stacked stack room base stop level end fs → Stacked after room base stop level end fs
unfolding Stacked
stacked_kept stack after room base stop level end [] k s = s
stacked_kept stack after room base stop level end (f ∷ fs) k s =
    let a = s.0 in (
      record {
        up = a.up;
        starts = a.starts;
        tall = a.tall;
        few = a.few;
        is = k _ (omega (arith, a.up)) ∙ a.is;
        written = a.written;
      },
      stacked_kept stack after room base stop f.level f.end fs (λ j h. k j (omega (arith, a.up))) s.1,
    )

pub stacked_room : {img : List ℕ} {depth : ℕ} (stack : List Level) (room other base stop level end : ℕ) (fs : List (Frame img depth)) → room ≡ other
    → Stacked stack room base stop level end fs → Stacked stack other base stop level end fs
stacked_room stack room other base stop level end fs e s = subst (λ (n : ℕ). Stacked stack n base stop level end fs) e s

-- A row ends no later than the record's, and its level is not above the record's.
pub stacked_within : {img : List ℕ} {depth : ℕ} (stack : List Level) (room base stop level end : ℕ) (fs : List (Frame img depth))
    → Stacked stack room base stop level end fs → (end ≤ stop) × (base ≤ level)
unfolding Stacked
stacked_within stack room base stop level end [] s = (omega arith, omega arith)
stacked_within stack room base stop level end (f ∷ fs) s =
    let a = s.0 in
    let b = stacked_within stack room base stop f.level f.end fs s.1 in
    (omega (arith, a.starts, f.rest.ends), omega (arith, a.up))

-- How often a page is named in what is behind them.
unfoldable pub named_in : {img : List ℕ} {depth : ℕ} (q : ℕ) → List (Frame img depth) → ℕ
named_in q [] = 0
named_in q (f ∷ fs) = count q f.rest.row + named_in q fs

-- ── the walk ──

-- What a walk over a record is to come to: its nodes have the level `base` and its row ends at `stop`; records are nested at most so deep below it; `stack` is as at
-- its start, and the buffer takes `room` numbers. What is left to walk names each page at most so often.
pub record Goal : Type 0 where
  pub depth : ℕ
  pub base : ℕ
  pub stop : ℕ
  pub stack : List Level
  pub room : ℕ
  pub names : (page : ℕ) → ℕ
  pub result : Way × ℕ

pub record Going (img : List ℕ) (t : ℕ) (g : Goal) (c : Cursor) (stack : List Level) (out : List ℕ) : Type 0 where
  pub rest : Rowed img c.i c.end g.depth
  pub tall : c.level + height rest.row ≤ most_levels + 1
  pub fair : Fair (reached c out)
  pub few : c.n + steps rest.row ≤ most_bytes
  pub sized : length stack ≡ 25
  pub long : length out ≡ g.room
  pub frames : List (Frame img g.depth)
  pub stacked : Stacked stack (length out) g.base g.stop c.level c.end frames
  pub left : (q : ℕ) → count q rest.row + named_in q frames ≤ g.names q
  pub whole : resume t (reached c out) c.level c.i rest.row c.n frames ≡ g.result
  pub kept : (j : ℕ) → j < g.base → get_or stack j no_level ≡ get_or g.stack j no_level

-- The same of what is said by equations.
pub going_as : {img : List ℕ} {t : ℕ} {g : Goal} {c d : Cursor} {stack held : List Level} {out : List ℕ} → d ≡ c → held ≡ stack → Going img t g c stack out → Going img t g d held out
going_as {img} {t} {g} {c} {d} {stack} {held} {out} e q w =
    subst (λ (s : List Level). Going img t g d s out) (sym q) (subst (λ (x : Cursor). Going img t g x stack out) (sym e) w)

pub record AtNode (img : List ℕ) (t : ℕ) (g : Goal) (c : Cursor) (stack : List Level) (out : List ℕ) : Type 0 where
  pub going : Going img t g c stack out
  pub some : c.i < c.end
  pub plain : kind_at img c.i ≡ 3 → ⊥

pub record AtEnd (img : List ℕ) (t : ℕ) (g : Goal) (c : Cursor) (stack : List Level) (out : List ℕ) : Type 0 where
  pub going : Going img t g c stack out
  pub none : c.i ≡ c.end
  pub inner : g.base < c.level

-- ── a node ──

-- What is read at a node.
pub record NodeHere (img : List ℕ) (i size level : ℕ) : Type 0 where
  pub inside : i + 6 ≤ length img
  pub some : 1 ≤ i
  pub low : i < most_bytes
  pub high : level ≤ most_levels
  pub more : 6 ≤ size
  pub small : size < 65536
  pub kind : (kind_at img i ≡ 1 → ⊥) → kind_at img i ≡ 2

-- A node's entry is dealt with: begun where it begins, of the size that is read, told or not.
pub record Dealt (img : List ℕ) (t : ℕ) (c : Cursor) (m here at next : ℕ) (out after : List ℕ) : Type 0 where
  pub begins : here ≡ begin t c.at c.i
  pub long : m ≡ size_at img c.i
  pub tells : way at next after ≡ told here c.i (entry_at c.level c.i (kind_at img c.i) (head_at img c.i) m 0) c.next out

-- An entry is to be written, and there is room for it.
pub record Roomy (c : Cursor) (room : ℕ) : Type 0 where
  pub begun : 1 ≤ c.at
  pub calm : c.next ≡ 0
  pub fits : c.at + 8 ≤ room

abbrev pub writes : Cursor → (room : ℕ) → Bool
writes c room = not (eqb c.at 0) && eqb c.next 0 && leb 9 (room - (c.at - 1))

pub writes_roomy : (c : Cursor) (room : ℕ) → c.at ≤ room + 1 → writes c room ≡ true → Roomy c room
writes_roomy c room low e =
    let fits = both _ _ e in
    let calm = both _ _ fits.0 in
    let z = eqb-false c.at 0 (not-true _ calm.0) in
    record { begun = omega arith; calm = eqb-true c.next 0 calm.1; fits = omega (arith, leb-true 9 (room - (c.at - 1)) fits.1) }

pub written_dealt : {img : List ℕ} {t : ℕ} {c : Cursor} {out : List ℕ} (m at : ℕ) (after : List ℕ) → Roomy c (length out) → m ≡ size_at img c.i → at ≡ c.at + 9
    → after ≡ sets out (c.at - 1) (entry_at c.level c.i (kind_at img c.i) (head_at img c.i) m 0) → Dealt img t c m c.at at 0 out after
written_dealt {img} {t} {c} {out} m at after r e k q = record {
  begins = sym (begin_on t c.at c.i r.begun);
  long = e;
  tells =
      (λ j. way (k j) (sym r.calm j) (q j))
      ∙ sym (told_written c.at c.i (entry_at c.level c.i (kind_at img c.i) (head_at img c.i) m 0) c.next out r.begun r.calm r.fits);
}

-- What the stack has once an aggregate is entered: what is behind it.
abbrev pub saved : (stack : List Level) → Cursor → (here : ℕ) → List Level
saved stack c here = set stack c.level (level_of c.end (c.n + 1) here)

-- An aggregate with children is entered unless the walk has stopped.
abbrev pub enters : (kind size next : ℕ) → Bool
enters k m x = eqb k 1 && ltb 6 m && eqb x 0

-- A literal is not, nor is an aggregate of a header alone.
pub enters_literal : (kind size next : ℕ) → kind ≡ 2 → enters kind size next ≡ false
enters_literal k m x e = ap (λ (j : ℕ). enters j m x) e

pub enters_none : (kind size next : ℕ) → size ≤ 6 → enters kind size next ≡ false
enters_none k m x h = go (eqb k 1) (ltb 6 m) refl
  where
    go : (a b : Bool) → ltb 6 m ≡ b → a && b && eqb x 0 ≡ false
    go false b e = refl
    go true false e = refl
    go true true e = absurd (omega (arith, ltb-true 6 m e))

pub enters_some : (kind size : ℕ) → kind ≡ 1 → 6 < size → enters kind size 0 ≡ true
enters_some k m e h = λ j. eqb (e j) 1 && lt-ltb 6 m h j && true

heights : (row : Row) → 0 < size row → (kind_of row ≡ 1 → 1 + height (kids_of row) ≤ height row) × (height (rest_of row) ≤ height row)
heights nil h = absurd (omega arith)
heights (agg l cs rest) h = (λ k. omega arith, omega arith)
heights (lit l c rest) h = (λ k. absurd (omega arith), omega arith)
heights (rec p s r rest) h = (λ k. absurd (omega arith), omega arith)

-- What a row names, its first node's children and the nodes behind it name.
counts : (q : ℕ) (row : Row) → count q (kids_of row) + count q (rest_of row) ≤ count q row
counts q nil = omega arith
counts q (agg l cs rest) = omega arith
counts q (lit l c rest) = omega arith
counts q (rec p s r rest) = omega arith

-- A node takes a level.
own_height : (row : Row) → 0 < size row → (kind_of row ≡ 3 → ⊥) → 1 ≤ height row
own_height nil h k = absurd (omega arith)
own_height (agg l cs rest) h k = omega arith
own_height (lit l c rest) h k = omega arith
own_height (rec p s r rest) h k = absurd (k refl)

-- Its kind is 1 or 2; only an aggregate of more than its header holds nodes.
own_kind : (row : Row) → 0 < size row → (kind_of row ≡ 3 → ⊥) → (kind_of row ≡ 1 → ⊥) → kind_of row ≡ 2
own_kind nil h k m = absurd (omega arith)
own_kind (agg l cs rest) h k m = absurd (m refl)
own_kind (lit l c rest) h k m = refl
own_kind (rec p s r rest) h k m = absurd (k refl)

holds_none : (row : Row) → 0 < size row → (kind_of row ≡ 1 → 6 < size_of row → ⊥) → size (kids_of row) ≡ 0
holds_none nil h k = refl
holds_none (agg l cs rest) h k = go (ltb 6 (6 + size cs)) refl
  where
    go : (b : Bool) → ltb 6 (6 + size cs) ≡ b → size cs ≡ 0
    go true e = absurd (k refl (ltb-true 6 (6 + size cs) e))
    go false e = omega (arith, ltb-false 6 (6 + size cs) e)
holds_none (lit l c rest) h k = refl
holds_none (rec p s r rest) h k = refl

module _ {img : List ℕ} {t : ℕ} {g : Goal} {c : Cursor} {stack : List Level} {out : List ℕ} (a : AtNode img t g c stack out) where
  abbrev row : Row
  row = a.going.rest.row

  some : 0 < size row
  some = omega (arith, a.some, a.going.rest.ends)

  abbrev plain : kind_of row ≡ 3 → ⊥
  plain k = a.plain ((view a.going.rest.here some).kind_is ∙ k)

  pub node_here : (m : ℕ) → m ≡ size_at img c.i → NodeHere img c.i m c.level
  node_here m e =
      let v = view a.going.rest.here some in
      let h = a.going.rest.here in
      record {
        inside = omega (arith, h.room, h.on.inside, v.total, v.more);
        some = omega (arith, h.start, h.on.low);
        low = omega (arith, h.room, h.on.high, v.total, v.more);
        high = omega (arith, own_height row some plain, a.going.tall);
        more = omega (arith, e, v.size_is, v.more);
        small = omega (arith, e, v.size_is, v.total, h.room, h.start);
        kind = λ k. v.kind_is ∙ own_kind row some plain (λ z. k (v.kind_is ∙ z));
      }

  pub node_few : c.n < most_bytes
  node_few = omega (arith, parts_less row some, a.going.few)

  pub begin_low : (here : ℕ) → here ≡ begin t c.at c.i → here ≤ length out + 1
  begin_low here e = subst (λ (k : ℕ). k ≤ length out + 1) (sym e)
      (begin_case (λ (k : ℕ). k ≤ length out + 1) t c.at c.i (λ _. omega arith) (λ _. omega arith) (λ _. a.going.fair.low))

  -- What tell leaves.
  module _ (here m at next : ℕ) (after : List ℕ) (d : Dealt img t c m here at next out after) where
    begins : here ≡ begin t c.at c.i
    begins = d.begins

    long : m ≡ size_at img c.i
    long = d.long

    abbrev entry : (n : ℕ) → List ℕ
    entry n = entry_at c.level c.i (kind_of row) (head_of row) (size_of row) n

    size_is : m ≡ size_of row
    size_is = long ∙ (view a.going.rest.here some).size_is

    same : way at next after ≡ told here c.i (entry 0) c.next out
    same =
        let v = view a.going.rest.here some in
        d.tells ∙ (λ j. told here c.i (entry_at c.level c.i (v.kind_is j) (v.head_is j) (size_is j) 0) c.next out)

    abbrev left : Way
    left = way at next after

    -- No more numbers than there is room for.
    keeps : Keeps (reached c out) left
    keeps =
        let b : told here c.i (entry 0) c.next out ≡ first t (reached c out) c.level c.i row 0 =
        ap (λ (k : ℕ). told k c.i (entry 0) c.next out) begins in
        subst (Keeps (reached c out)) (sym (same ∙ b)) (visit_keeps t (reached c out) (met c.i (entry 0)) a.going.fair)

    wide : width row ≡ 1 + width (rest_of row)
    wide = omega (arith, width_first row, plain_width row some plain)

    -- The row behind the node.
    abbrev behind : Rowed img (c.i + m) c.end g.depth
    behind = past_first a.going.rest m (sym size_is) some

    -- Past it: it holds nothing, or the walk has stopped.
    first_is : (n : ℕ) → told here c.i (entry n) c.next out ≡ first t (reached c out) c.level c.i row n
    first_is n = ap (λ (k : ℕ). told k c.i (entry n) c.next out) begins

    on_size : (w : Way) → visits t w (meets c.level (c.i + size_of row) (rest_of row)) ≡ visits t w (meets c.level (c.i + m) (rest_of row))
    on_size w = λ j. visits t w (meets c.level (c.i + sym size_is j) (rest_of row))

    passed_leaf : (kind_of row ≡ 1 → 6 < size_of row → ⊥)
        → visits t (reached c out) (meets c.level c.i row) ≡ visits t left (meets c.level (c.i + m) (rest_of row))
    passed_leaf k =
        visits_leaf t (reached c out) c.level c.i row some plain (holds_none row some k)
        ∙ ap (λ (w : Way). visits t w (meets c.level (c.i + size_of row) (rest_of row))) (sym (same ∙ first_is 0))
        ∙ on_size left

    -- What is left where it stops does not hang on the entry.
    stops_alike : (next ≡ 0 → ⊥) → (n : ℕ) → told here c.i (entry n) c.next out ≡ left
    stops_alike z n = sym (same ∙ go)
      where
        go : told here c.i (entry 0) c.next out ≡ told here c.i (entry n) c.next out
        go =
            told_case here c.i (entry 0) c.next out (λ (w : Way). left ≡ w → w ≡ told here c.i (entry n) c.next out)
            (λ y q. sym (told_sought here c.i (entry n) c.next out y))
            (λ x y q. sym (told_stopped here c.i (entry n) c.next out x y))
            (λ x y r q. absurd (z (ap (λ (w : Way). w.next) q ∙ y)))
            (λ x y r q. sym (told_full here c.i (entry n) c.next out x y r))
            same

    passed_stopped : (next ≡ 0 → ⊥)
        → visits t (reached c out) (meets c.level c.i row) ≡ visits t left (meets c.level (c.i + m) (rest_of row))
    passed_stopped z =
        visits_past t (reached c out) c.level c.i row some plain left (λ n. sym (first_is n) ∙ stops_alike z n) (keeps.begun z) z
        ∙ on_size left

    passed : enters (kind_at img c.i) m next ≡ false
        → visits t (reached c out) (meets c.level c.i row) ≡ visits t left (meets c.level (c.i + m) (rest_of row))
    passed e = go (eqb (kind_at img c.i) 1) (ltb 6 m) (eqb next 0) refl refl refl e
      where
        go : (b d z : Bool) → eqb (kind_at img c.i) 1 ≡ b → ltb 6 m ≡ d → eqb next 0 ≡ z → b && d && z ≡ false
            → visits t (reached c out) (meets c.level c.i row) ≡ visits t left (meets c.level (c.i + m) (rest_of row))
        go false d z p q r e =
            passed_leaf (λ k _. eqb-false (kind_at img c.i) 1 p ((view a.going.rest.here some).kind_is ∙ k))
        go true false z p q r e = passed_leaf (λ _ h. omega (arith, ltb-false 6 m q, size_is))
        go true true true p q r e = absurd (true≢false e)
        go true true false p q r e = passed_stopped (eqb-false next 0 r)

    pub node_passed : enters (kind_at img c.i) m next ≡ false → Going img t g (cursor (c.i + m) c.end c.level (c.n + 1) at next) stack after
    node_passed e =
        let less = parts_less row some in
        let w = a.going in
        record {
          rest = behind;
          tall = omega (arith, (heights row some).1, w.tall);
          fair = kept_fair keeps;
          few = omega (arith, w.few);
          sized = w.sized;
          long = keeps.long ∙ w.long;
          frames = w.frames;
          stacked = stacked_room stack _ _ _ _ _ _ w.frames (sym keeps.long) w.stacked;
          left = λ q. omega (arith, counts q row, w.left q);
          whole =
              sym (resume_same t (reached c out) left c.level c.level c.i (c.i + m) row (rest_of row) c.n (c.n + 1) w.frames
              (passed e) (omega (arith, wide)))
              ∙ w.whole;
          kept = w.kept;
        }

    -- Into it.
    record Entering : Type 0 where
      kind : kind_of row ≡ 1
      calm : c.next ≡ 0
      room : 1 ≤ here → here + 8 ≤ length out

    entering : enters (kind_at img c.i) m next ≡ true → Entering
    entering e =
        let calm = both _ _ e in
        let kind = (both (eqb (kind_at img c.i) 1) _ calm.0).0 in
        let y = roomy (eqb-true next 0 calm.1) in
        record { kind = sym (view a.going.rest.here some).kind_is ∙ eqb-true (kind_at img c.i) 1 kind; calm = y.0; room = y.1 }
      where
        Roomy : Way → Type 0
        Roomy w = w.next ≡ 0 → (c.next ≡ 0) × (1 ≤ here → here + 8 ≤ length out)

        roomy : Roomy left
        roomy =
            let there = (node_here m long).some in
            subst Roomy (sym same)
            (told_case here c.i (entry 0) c.next out Roomy (λ y z. (z, λ l. absurd (omega arith))) (λ x y z. absurd (y z)) (λ x y r z. (y, λ l. r))
            (λ x y r z. absurd (omega arith)))

    saved_below : (j : ℕ) → j < c.level → get_or (saved stack c here) j no_level ≡ get_or stack j no_level
    saved_below j h = get_or-set_other stack c.level j (level_of c.end (c.n + 1) here) no_level (λ z. omega arith)

    -- What is behind the node, once it is entered.
    abbrev frame : Frame img g.depth
    frame = record { level = c.level; pos = c.i + m; end = c.end; rest = behind; n = c.n + 1; here = here }

    framed : (1 ≤ here → here + 8 ≤ length out) → Framed (saved stack c here) (length after) (c.level + 1) (c.i + m) frame
    framed room =
        let l = a.going.sized in
        let low = (node_here m long).high in
        let less = parts_less row some in
        record {
          up = refl;
          starts = refl;
          tall = omega (arith, (heights row some).1, a.going.tall);
          few = omega (arith, a.going.few);
          is = get_or-set_same stack c.level (level_of c.end (c.n + 1) here) no_level (omega arith);
          written = λ h. omega (arith, room h, keeps.long);
        }

    entered_way : (u : Entering) → visits t (reached c out) (meets c.level c.i row)
        ≡ visits t (patch here (0 + width (kids_of row)) (visits t left (meets (c.level + 1) (c.i + 6) (kids_of row)))) (meets c.level (c.i + m) (rest_of row))
    entered_way u =
        let z : width (kids_of row) ≡ 0 + width (kids_of row) = omega arith in
        let ms = meets (c.level + 1) (c.i + 6) (kids_of row) in
        visits_open t (reached c out) c.level c.i row some plain (omega (arith, begins, begin_low here begins)) u.calm
        (λ h. omega (arith, begins, u.room (omega (arith, begins))))
        ∙ (λ j. visits t (patch (sym begins j) (z j) (visits t (sym (same ∙ first_is 0) j) ms)) (meets c.level (c.i + sym size_is j) (rest_of row)))

    pub node_entered : enters (kind_at img c.i) m next ≡ true
        → Going img t g (cursor (c.i + 6) (c.i + m) (c.level + 1) 0 at next) (saved stack c here) after
    unfolding Stacked named_in resume
    node_entered e =
        let u = entering e in
        let w = a.going in
        let less = parts_less row some in
        let base-low = stacked_within stack (length out) g.base g.stop c.level c.end w.frames w.stacked in
        record {
          rest = children_of w.rest.here u.kind w.rest.deep w.rest.few m long;
          tall = omega (arith, (heights row some).0 u.kind, w.tall);
          fair = kept_fair keeps;
          few = omega (arith, w.few);
          sized = length-set stack c.level (level_of c.end (c.n + 1) here) ∙ w.sized;
          long = keeps.long ∙ w.long;
          frames = frame ∷ w.frames;
          stacked = (
            framed u.room,
            stacked_room (saved stack c here) _ _ _ _ _ _ w.frames (sym keeps.long) (stacked_kept stack (saved stack c here) _ _ _ _ _ w.frames saved_below w.stacked),
          );
          left = λ q. omega (arith, counts q row, w.left q);
          whole =
              sym (resume_same t (reached c out) _ c.level c.level c.i (c.i + m) row (rest_of row) c.n (c.n + 1) w.frames
              (entered_way u) (omega (arith, wide)))
              ∙ w.whole;
          kept = λ j h. saved_below j (omega (arith, base-low)) ∙ w.kept j h;
        }

-- ── the end of a row ──

-- A row of no bytes shows no node.
pub row_none : (row : Row) → size row ≡ 0 → width row ≡ 0
row_none row e = sym (none_width row (sym e))

module _ {img : List ℕ} {t : ℕ} {g : Goal} {c : Cursor} {stack : List Level} {out : List ℕ} where
  -- The aggregate that ends.
  record Closing (w : Going img t g c stack out) : Type 0 where
    frame : Frame img g.depth
    frames : List (Frame img g.depth)
    framed : Framed stack (length out) c.level c.end frame
    stacked : Stacked stack (length out) g.base g.stop frame.level frame.end frames
    left : (q : ℕ) → count q frame.rest.row + named_in q frames ≤ g.names q
    whole : resume t (reached c out) c.level c.i w.rest.row c.n (frame ∷ frames) ≡ g.result

  closing : (w : Going img t g c stack out) → g.base < c.level → Closing w
  unfolding Stacked named_in
  closing w h = go w.frames w.stacked w.left w.whole
    where
      go : (fs : List (Frame img g.depth)) → Stacked stack (length out) g.base g.stop c.level c.end fs
          → ((q : ℕ) → count q w.rest.row + named_in q fs ≤ g.names q)
          → resume t (reached c out) c.level c.i w.rest.row c.n fs ≡ g.result → Closing w
      go [] s l q = absurd (omega (arith, s.0))
      go (f ∷ fs) s l q = record { frame = f; frames = fs; framed = s.0; stacked = s.1; left = λ p. omega (arith, l p); whole = q }

module _ {img : List ℕ} {t : ℕ} {g : Goal} {c : Cursor} {stack : List Level} {out : List ℕ} (a : AtEnd img t g c stack out) where
  abbrev last : Closing a.going
  last = closing a.going a.inner

  -- What the stack has of what is behind it.
  abbrev saved_there : Level
  saved_there = get_or stack (c.level - 1) no_level

  is_there : saved_there ≡ level_of last.frame.end last.frame.n last.frame.here
  is_there =
      let e : c.level - 1 ≡ last.frame.level = omega (arith, last.framed.up) in
      ap (λ (k : ℕ). get_or stack k no_level) e ∙ last.framed.is

  closed_here : saved_there.here ≡ last.frame.here
  closed_here = ap (λ (l : Level). l.here) is_there

  pub closed_room : (saved_there.here ≡ 0 → ⊥) → saved_there.here + 8 ≤ length out
  closed_room z = omega (arith, closed_here, last.framed.written (omega (arith, closed_here)))

  -- The number of children is written, if there is an entry.
  counted_way : (after : List ℕ) → after ≡ cond (eqb (saved_there.here) 0) out (set out (saved_there.here + 5) c.n)
      → reached c after ≡ patch (saved_there.here) c.n (reached c out)
  counted_way after e = ap (reached c) e ∙ go (eqb (saved_there.here) 0)
    where
      go : (b : Bool) → reached c (cond b out (set out (saved_there.here + 5) c.n))
          ≡ cond b (reached c out) (reached c (set out (saved_there.here + 5) c.n))
      go true = refl
      go false = refl

  pub closed : (after : List ℕ) → after ≡ cond (eqb (saved_there.here) 0) out (set out (saved_there.here + 5) c.n)
      → Going img t g (cursor c.i (saved_there.end) (c.level - 1) (saved_there.n) c.at c.next) stack after
  unfolding resume visits
  closed after q =
      let e = counted_way after q in
      let u = last in
      let f = u.frame in
      let w = a.going in
      let z : size w.rest.row ≡ 0 = omega (arith, w.rest.ends, a.none) in
      let i-is : c.i ≡ f.pos = a.none ∙ sym u.framed.starts in
      let end_is : saved_there.end ≡ f.end = ap (λ (l : Level). l.end) is_there in
      let level_is : c.level - 1 ≡ f.level = omega (arith, u.framed.up) in
      let n_is : saved_there.n ≡ f.n = ap (λ (l : Level). l.n) is_there in
      let long : length after ≡ length out = ap (λ (v : Way). length v.out) e ∙ patch_long in
      let there : Going img t g (cursor f.pos f.end f.level f.n c.at c.next) stack after = record {
        rest = f.rest;
        tall = u.framed.tall;
        fair = record { low = omega (arith, w.fair.low, long); begun = w.fair.begun };
        few = u.framed.few;
        sized = w.sized;
        long = long ∙ w.long;
        frames = u.frames;
        stacked = stacked_room stack _ _ _ _ _ _ u.frames (sym long) u.stacked;
        left = u.left;
        whole =
            ap (λ (v : Way). resume t v f.level f.pos f.rest.row f.n u.frames)
            (e ∙ (λ j. patch (closed_here j) (counted z j) (met_none z j)))
            ∙ u.whole;
        kept = w.kept;
      } in
      subst (λ (d : Cursor). Going img t g d stack after) (λ j. cursor (sym i-is j) (sym end_is j) (sym level_is j) (sym n_is j) c.at c.next) there
    where
      patch_long : length (patch (saved_there.here) c.n (reached c out)).out ≡ length out
      patch_long = go (eqb (saved_there.here) 0)
        where
          go : (b : Bool) → length (cond b (reached c out) (way c.at c.next (set out (saved_there.here + 5) c.n))).out ≡ length out
          go true = refl
          go false = length-set out (saved_there.here + 5) c.n

      counted : size a.going.rest.row ≡ 0 → c.n ≡ c.n + width a.going.rest.row
      counted z = omega (arith, row_none a.going.rest.row z)

      met_none : size a.going.rest.row ≡ 0 → reached c out ≡ visits t (reached c out) (meets c.level c.i a.going.rest.row)
      met_none z = sym (ap (visits t (reached c out)) (meets_none c.level c.i a.going.rest.row z))
