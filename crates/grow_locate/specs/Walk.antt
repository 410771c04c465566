-- The walk of the code along a row that stands in an image: to a node, and to what follows it.
use Rattle.std.specs.Prelude.{◌≡◌, refl, Bool, true, false, cond, List, ℕ, suc, ◌+◌, ◌-◌, ◌≤◌, ◌<◌, ltb, Option, None, Some}
use Rattle.std.proofs.Common.{sym, ap, subst, ◌∙◌, arith, lt-ltb, le-ltb, ltb-true, ltb-false}
use Rattle.std.proofs.lemmas.Bool.{not-true, not-false}
use Rattle.model.specs.Limits.{most_pages}
use Rattle.model.specs.Row.{Row, nil, agg, lit, rec, size, lone}
use Rattle.model.specs.Tree.{width}
use Rattle.model.specs.Reading.{size_at, name_at}
use Rattle.theory_rows.specs.Laws.{cond_case, ⊹-nil, lone_width}
use Rattle.theory_places.specs.Widths.{some_shown}
use Rattle.theory_row_bytes.specs.RowAt.{size_of, rest_of}
use Rattle.theory_layout.specs.Here.{Here, view}
use Rattle.theory_layout.specs.Widths.{first_width, width_first, none_width}
use Rattle.theory_growth.specs.Chain.{both}
use Rattle.theory_insert_point.specs.Bytes.{here-⊹}
use Rattle.read_find.specs.Rowed.{Rowed, Entered, past_first}
use Rattle.grow_locate.specs.declared.Located.{Located}
use Rattle.grow_locate.specs.declared.Span.{Span}
use Rattle.grow_locate.specs.declared.Sought.{Sought}
use Rattle.grow_locate.specs.Seek.{located_at, seek_of, seek_span, past_span, inside_span, empty_span, closer_of, moved, seek_beyond}
use Rattle.grow_locate.specs.Seek.{helper_first, seek_further, seek_first, seek_under, SomeRow, full, helper_first_lem, proxy_first}

-- The node after the one sought is the first that the span shows.
pub record Follows (img : List ℕ) (span : Span) (t : Option Located) : Type 0 where
  pub rowed : Rowed img span.pos span.end most_pages
  pub first : seek_span span rowed.row 0 ≡ t

-- What a search for node k of a span finds.
abbrev pub Finds : (img : List ℕ) → Span → (k : ℕ) → Sought → Type 0
Finds img span k s =
    (w : Rowed img span.pos span.end most_pages)
    → (s.node ≡ seek_span span w.row k) × Follows img s.after (seek_span span w.row (suc k)) × (s.after.deep ≤ span.deep + most_pages)

-- In the row that is left the node sought is node `left`; the next one is there too, or else the first of what follows.
pub record Seeking (img : List ℕ) (span after : Span) (depth left : ℕ) (t u : Option Located) : Type 0 where
  pub rest : Rowed img span.pos span.end depth
  pub same : seek_span span rest.row left ≡ t
  pub next : Rowed img after.pos after.end most_pages
  pub then : cond (ltb (suc left) (width rest.row)) (seek_span span rest.row (suc left)) (seek_span after next.row 0) ≡ u

abbrev no_row : {img : List ℕ} {pos end depth : ℕ} → Rowed img pos end depth → Rowed img end end depth
no_row {img} {pos} w = record {
  page = w.page;
  row = nil;
  here =
      subst (λ (n : ℕ). Here img w.page n nil) (sym w.ends)
      (here-⊹ img w.page pos w.row nil (subst (Here img w.page pos) (sym (⊹-nil w.row)) w.here));
  ends = omega arith;
  deep = omega arith;
  few = omega arith;
}

pub seeking : {img : List ℕ} {span : Span} {k : ℕ} (w : Rowed img span.pos span.end most_pages)
    → Seeking img span (empty_span span) most_pages k (seek_span span w.row k) (seek_span span w.row (suc k))
unfolding seek_of
seeking {span = span} {k = k} w = record {
  rest = w;
  same = refl;
  next = no_row w;
  then =
      cond_case (λ (l : Option Located). l ≡ seek_span span w.row (suc k)) (ltb (suc k) (width w.row)) (λ _. refl)
      (λ e. sym (seek_beyond span.pos span.par span.deep w.row (suc k) (ltb-false (suc k) (width w.row) e)));
}

abbrev deeper : {img : List ℕ} {pos end depth most : ℕ} → depth ≤ most → Rowed img pos end depth → Rowed img pos end most
deeper h w = record { page = w.page; row = w.row; here = w.here; ends = w.ends; deep = omega (arith, w.deep); few = w.few }

pub seek_deep : {img : List ℕ} {span after : Span} {depth deep left : ℕ} {t u : Option Located} → depth ≡ deep → Seeking img span after depth left t u
    → Seeking img span after deep left t u
seek_deep e s = rw (← e) s

-- A node that is no helper's proxy shows one.
one_shown : (row : Row) → 0 < size row → helper_first row ≡ false → first_width row ≡ 1
one_shown nil h f = absurd (omega arith)
one_shown (agg l cs rest) h f = refl
one_shown (lit l c rest) h f = refl
one_shown (rec p s r rest) h f = lone_width r (not-false (lone r) f)

module _ {img : List ℕ} {span after : Span} {depth left : ℕ} {t u : Option Located} (s : Seeking img span after depth left t u) where
  abbrev row_left : Row
  row_left = s.rest.row

  abbrev after_it : Option Located
  after_it = seek_span after s.next.row 0

  pub seek_end : span.end ≤ span.pos → (None ≡ t) × Follows img after u
  seek_end h =
      let e : 0 ≡ size row_left = omega (arith, s.rest.ends) in
      let none = none_width row_left e in
      let z : ltb (suc left) (width row_left) ≡ false = le-ltb (suc left) (width row_left) (omega arith) in
      (sym (seek_beyond span.pos span.par span.deep row_left left (omega arith)) ∙ s.same, record { rowed = s.next; first = rw z at s.then })

  module _ (some : span.pos < span.end) {m : ℕ} (shows : m ≡ first_width s.rest.row) where
    abbrev some_left : SomeRow img span.pos
    some_left = record { end = span.end; depth = depth; rowed = s.rest; some = some }

    abbrev next_span : Span
    next_span = past_span span (size_at img span.pos)

    len_is : size_of row_left ≡ size_at img span.pos
    len_is = sym (view s.rest.here (full some_left)).size_is

    -- The nodes behind the first.
    abbrev behind : Rowed img next_span.pos next_span.end depth
    behind = past_first s.rest (size_at img span.pos) len_is (full some_left)

    further : (k : ℕ) → first_width row_left ≤ k → seek_span next_span (rest_of row_left) (k - first_width row_left) ≡ seek_span span row_left k
    further k h = rw (← len_is) (seek_further span.pos span.par span.deep k row_left (full some_left) h)

    -- The first node does not show it, and is passed,
    pub seek_past : m ≤ left → Seeking img next_span after depth (left - m) t u
    seek_past h =
        let w = first_width row_left in
        let low : w ≤ left = omega (arith, shows) in
        let e : suc (left - m) ≡ suc left - w = omega (arith, shows) in
        let a : left - m ≡ left - w = ap (λ (n : ℕ). left - n) shows in
        let q : ltb (suc (left - m)) (width (rest_of row_left)) ≡ ltb (suc left) (width row_left) =
        ap (λ (n : ℕ). ltb n (width (rest_of row_left))) e ∙ moved (suc left) w (width (rest_of row_left)) (omega arith)
        ∙ ap (ltb (suc left)) (sym (width_first row_left)) in
        let f : seek_span next_span (rest_of row_left) (suc (left - m)) ≡ seek_span span row_left (suc left) =
        ap (seek_span next_span (rest_of row_left)) e ∙ further (suc left) (omega arith) in
        record {
          rest = behind;
          same = ap (seek_span next_span (rest_of row_left)) a ∙ further left low ∙ s.same;
          next = s.next;
          then = (λ i. cond (q i) (f i) after_it) ∙ s.then;
        }

    module _ (most : depth ≤ most_pages) (within : left < m) where
      abbrev closer_span : Span
      closer_span = closer_of next_span after

      abbrev next_one : Option Located
      next_one = seek_span span row_left (suc left)

      -- The first node shows it. The next one is shown there too, or else it is the first of what follows.
      turn : (n : Rowed img closer_span.pos closer_span.end most_pages)
          × (cond (ltb (suc left) (first_width row_left)) next_one (seek_span closer_span n.row 0) ≡ u)
      turn =
          cond_case P (ltb next_span.pos next_span.end) (λ e. (deeper most behind, there (ltb-true next_span.pos next_span.end e) ∙ s.then))
          (λ e. (s.next, nowhere_else (ltb-false next_span.pos next_span.end e) ∙ s.then))
        where
          w : ℕ
          w = first_width row_left

          P : Span → Type 0
          P r = (n : Rowed img r.pos r.end most_pages) × (cond (ltb (suc left) w) next_one (seek_span r n.row 0) ≡ u)

          there : next_span.pos < next_span.end
              → cond (ltb (suc left) w) next_one (seek_span next_span (rest_of row_left) 0) ≡ cond (ltb (suc left) (width row_left)) next_one after_it
          there h =
              let more = some_shown (rest_of row_left) behind.here.fits (omega (arith, behind.ends)) in
              let z : next_one ≡ cond (ltb (suc left) (width row_left)) next_one after_it =
              sym (ap (λ (b : Bool). cond b next_one after_it) (lt-ltb (suc left) (width row_left) (omega (arith, width_first row_left, shows)))) in
              cond_case (λ (l : Option Located). l ≡ cond (ltb (suc left) (width row_left)) next_one after_it) (ltb (suc left) w) (λ _. z)
              (λ f.
              let low : w ≤ suc left = ltb-false (suc left) w f in
              let e : 0 ≡ suc left - w = omega (arith, shows) in
              ap (seek_span next_span (rest_of row_left)) e ∙ further (suc left) low ∙ z)

          nowhere_else : next_span.end ≤ next_span.pos → cond (ltb (suc left) w) next_one after_it ≡ cond (ltb (suc left) (width row_left)) next_one after_it
          nowhere_else h =
              let e : w ≡ width row_left = omega (arith, width_first row_left, none_width (rest_of row_left) (omega (arith, behind.ends))) in
              ap (λ (n : ℕ). cond (ltb (suc left) n) next_one after_it) e

      -- It is what stands there,
      pub seek_here : helper_first row_left ≡ false → (Some (located_at span.pos next_span.pos span.par span.deep) ≡ t) × Follows img closer_span u
      seek_here f =
          let z : ltb (suc left) (first_width row_left) ≡ false =
          le-ltb (suc left) (first_width row_left) (omega (arith, one_shown row_left (full some_left) f)) in (
            rw (← len_is) (seek_first span.pos span.par span.deep left row_left (omega (arith, shows)) f) ∙ s.same,
            record { rowed = turn.0; first = ap (λ (b : Bool). cond b next_one (seek_span closer_span turn.0.row 0)) (sym z) ∙ turn.1 },
          )

      -- or is the proxy of a record whose helper shows it.
      pub seek_inside : helper_first row_left ≡ true → Seeking img (inside_span img span) closer_span (depth - 1) left t u
      seek_inside f =
          let p = name_at img span.pos in
          let a : Entered img span.pos span.end depth p row_left = proxy_first some_left (helper_first_lem some_left f) refl in
          let r = a.inside.row in
          let wide : first_width row_left ≡ width r = ap first_width a.is in
          let many : lone r ≡ false = not-true (lone r) (ap helper_first (sym a.is) ∙ f) in
          let under : (k : ℕ) → k < width r → seek_span (inside_span img span) r k ≡ seek_span span row_left k =
          λ k h. rw a.starts (seek_under span.pos span.par span.deep k p a.settled r a.after.row h many)
          ∙ ap (λ (x : Row). seek_span span x k) (sym a.is) in
          record {
            rest = a.inside;
            same = under left (omega (arith, shows)) ∙ s.same;
            next = turn.0;
            then =
                both (λ (a b : Option Located). a ≡ b) (ltb (suc left) (width r)) (λ e. under (suc left) (ltb-true (suc left) (width r) e)) (λ _. refl)
                ∙ ap (λ (n : ℕ). cond (ltb (suc left) n) next_one (seek_span closer_span turn.0.row 0)) (sym wide) ∙ turn.1;
          }
