-- Find: a path's entries lead from the root down to the node that the path names.
use Rattle.std.specs.Prelude.{◌≡◌, Bool, false, cond, List, [], ◌∷◌, ℕ, zero, suc, ◌+◌, ◌*◌, ◌-◌, ◌/◌, ◌%◌, ◌≤◌, ◌<◌, length, get_or, drop, ltb, ◌++◌, Ok, Err}
use Rattle.std.proofs.Math.Path.{refl, sym, ap, subst}
use Rattle.std.proofs.Common.{◌∙◌, arith, drop_of_length-le, drop_at, length-append}
use Rattle.std.proofs.Math.ListN.{get_or-append}
use Rattle.std.proofs.Math.Bool.{true}
use Rattle.std.proofs.lemmas.Bool.{false≢true}
use Rattle.std.proofs.Math.Option.{Option, none, some}
use borrow.Author.Tests.{ltb-true, ltb-false, lt-ltb, le-ltb}
use Rattle.model.specs.Limits.{most_pages, page_size, most_bytes, longest_path}
use Rattle.model.specs.Row.{Row, nil, agg, lit, rec, size, base, is_agg, Config}
use Rattle.model.specs.Tree.{shown, width, Node, named, place_at, place_of}
use Rattle.model.specs.Reading.{Reads, size_at, kind_at, two_at}
use Rattle.model.specs.Answers.{find_refused}
use Rattle.model.specs.Common.{entries, named_if, or_empty, is_none}
use Rattle.model.specs.Calls.Check.{check_of}
use Rattle.model.specs.Calls.Find.{find_in, find_of}
use Rattle.model.specs.declared.Place.{Place}
use Rattle.model.specs.Answers.{FindAnswer}
use Rattle.theory_decoding.specs.Steps.{steps, few_steps}
use Rattle.theory_decoding.specs.Reading.{reads_valid}
use Rattle.theory_places.specs.Named.{named_place, unnamed_place}
use Rattle.theory_calls.specs.Open.{opens, passing}
use Rattle.theory_layout.specs.Here.{nesting, Here, view, root_here, root_nesting}
use Rattle.read_find.specs.Nth.{nth_of, nth_none, nth_inside, nth_after, place_past}
use Rattle.read_find.specs.Rowed.{Rowed, children_of}
use Rattle.read_find.specs.Entries.{four_at, never, whole, broken, NextEntry, next_entry}

-- The place of byte pos of the image, and the answer that names it.
abbrev pub place_on : (pos : ℕ) → Place
place_on pos = record { page = pos / page_size; offset = pos % page_size }

abbrev pub found_on : (pos : ℕ) → FindAnswer
found_on pos = record { number = 0; place = place_on pos }

abbrev is_node : Row → Bool
is_node nil = false
is_node (agg h cs rest) = true
is_node (lit h c rest) = true
is_node (rec p s r rest) = false

-- A node stands at pos, and from it the path leads to t.
pub record Leads (img : List ℕ) (pos : ℕ) (path : List ℕ) (t : Option Place) : Type 0 where
  pub page : ℕ
  pub off : ℕ
  pub row : Row
  pub here : Here img page pos row
  pub at : pos ≡ page_size * page + off
  pub node : is_node row ≡ true
  pub deep : nesting row ≤ most_pages
  pub few : steps row ≤ most_bytes
  pub to : place_at page off 0 path row ≡ t

-- ── one entry ──

-- From a row, the node that the entry names leads on.
pub reach : (img : List ℕ) (page pos off k at : ℕ) (path : List ℕ) (row : Row) → Here img page pos row → pos ≡ page_size * page + off
    → nesting row ≤ most_pages → steps row ≤ most_bytes → nth_of pos row k ≡ Ok at → Leads img at path (place_at page off k path row)
unfolding nth_of place_at
reach img page pos off k at path nil h e d f y = absurd (cc)
reach img page pos off zero at path (agg l cs rest) h e d f y =
    let z : pos ≡ at = cc in
    subst (λ (n : ℕ). Leads img n path (place_at page off 0 path (agg l cs rest))) z
    (record { page = page; off = off; row = agg l cs rest; here = h; at = e; node = refl; deep = d; few = f; to = refl })
reach img page pos off (suc k) at path (agg l cs rest) h e d f y =
    reach img page (pos + (6 + size cs)) (off + 6 + size cs) k at path rest (view h (omega arith)).after (omega arith) (omega arith) (omega arith) y
reach img page pos off zero at path (lit l c rest) h e d f y =
    let z : pos ≡ at = cc in
    subst (λ (n : ℕ). Leads img n path (place_at page off 0 path (lit l c rest))) z
    (record { page = page; off = off; row = lit l c rest; here = h; at = e; node = refl; deep = d; few = f; to = refl })
reach img page pos off (suc k) at path (lit l c rest) h e d f y =
    reach img page (pos + (6 + length c)) (off + 6 + length c) k at path rest (view h (omega arith)).after (omega arith) d (omega arith) y
reach img page pos off k at path (rec p s r rest) h e d f y =
    let v = view h (omega arith) in
    go (ltb k (width r)) refl
    (reach img p (page_size * p + base r) (base r) k at path r v.under.here refl (omega arith) (omega arith))
    (reach img page (pos + 8) (off + 8) (k - width r) at path rest v.after (omega arith) (omega arith) (omega arith))
  where
    go : (b : Bool) → ltb k (width r) ≡ b
        → (nth_of (page_size * p + base r) r k ≡ Ok at → Leads img at path (place_at p (base r) k path r))
        → (nth_of (pos + 8) rest (k - width r) ≡ Ok at → Leads img at path (place_at page (off + 8) (k - width r) path rest))
        → Leads img at path (cond b (place_at p (base r) k path r) (place_at page (off + 8) (k - width r) path rest))
    go true b within beyond = within (sym (nth_inside pos p s r rest k (ltb-true k (width r) b)) ∙ y)
    go false b within beyond = beyond (sym (nth_after pos p s r rest k (ltb-false k (width r) b)) ∙ y)

-- ── the whole path ──

-- The entries from byte i of the path on lead from the node at pos to t.
pub record Finds (img bytes : List ℕ) (pos i : ℕ) (t : Option Place) : Type 0 where
  pub path : List ℕ
  pub spelled : entries (drop i bytes) ≡ some path
  pub leads : Leads img pos path t

-- What the node at pos holds, if it is an aggregate, and where the entry at i leads.
pub record Down (img bytes : List ℕ) (pos i len k : ℕ) (t : Option Place) : Type 0 where
  pub kids : Rowed img (pos + 6) (pos + len) most_pages
  pub found : (at : ℕ) → Ok at ≡ nth_of (pos + 6) kids.row k → Finds img bytes at (i + 4) t
  pub missing : (left : ℕ) → Err left ≡ nth_of (pos + 6) kids.row k → t ≡ none

-- A path without entries leads to the node itself, and no entry leads on from a literal.
pub no_entry : (page off : ℕ) (row : Row) → is_node row ≡ true → place_at page off 0 [] row ≡ some (record { page = page; offset = off })
unfolding place_at
no_entry page off nil n = absurd (false≢true n)
no_entry page off (agg l cs rest) n = refl
no_entry page off (lit l c rest) n = refl
no_entry page off (rec p s r rest) n = absurd (false≢true n)

literal : (img : List ℕ) (page pos off j : ℕ) (path : List ℕ) (row : Row) → Here img page pos row → is_node row ≡ true → (kind_at img pos ≡ 1 → ⊥)
    → place_at page off 0 (j ∷ path) row ≡ none
unfolding place_at
literal img page pos off j path nil h n k = absurd (false≢true n)
literal img page pos off j path (agg l cs rest) h n k = absurd (k (view h (omega arith)).kind_is)
literal img page pos off j path (lit l c rest) h n k = refl
literal img page pos off j path (rec p s r rest) h n k = absurd (false≢true n)

module _ (img bytes : List ℕ) (page pos off i len k : ℕ) (path : List ℕ) (t : Option Place) (a : pos ≡ page_size * page + off)
    (kind : kind_at img pos ≡ 1) (long : len ≡ size_at img pos) (spelled : entries (drop (i + 4) bytes) ≡ some path) where
  into : (row : Row) → Here img page pos row → is_node row ≡ true → nesting row ≤ most_pages → steps row ≤ most_bytes
      → place_at page off 0 (k ∷ path) row ≡ t → Down img bytes pos i len k t
  unfolding place_at
  into nil h n d f y = absurd (false≢true n)
  into (agg l cs rest) h n d f y =
      let v = view h (omega arith) in
      record {
        kids = children_of h refl d f len long;
        found = λ at e. record {
          path = path;
          spelled = spelled;
          leads =
              subst (Leads img at path) y
              (reach img page (pos + 6) (off + 6) k at path cs v.children (omega arith) (omega arith) (omega arith) (sym e));
        };
        missing = λ left e. sym y ∙ place_past page (off + 6) k path cs (nth_none (pos + 6) cs k left (sym e));
      }
  into (lit l c rest) h n d f y = absurd (omega (arith, (view h (omega arith)).kind_is))
  into (rec p s r rest) h n d f y = absurd (false≢true n)

module _ (img bytes : List ℕ) (pos i : ℕ) (t : Option Place) (w : Finds img bytes pos i t) where
  pub place_room : (pos + 16 ≤ length img) × (pos < most_bytes)
  place_room =
      let h = w.leads.here in
      let p = h.on in
      omega (arith, h.room)

  -- At the end of the path.
  pub arrived : length bytes ≤ i → t ≡ some (place_on pos)
  arrived h =
      let g = w.leads in
      let e : entries (drop i bytes) ≡ some [] = ap entries (drop_of_length-le bytes {i = i} h) in
      let s = w.spelled in
      let z : w.path ≡ [] = cc in
      let p : g.page ≡ pos / page_size = omega (arith, g.at, g.here.room) in
      let q : g.off ≡ pos % page_size = omega (arith, g.at, g.here.room) in
      sym g.to ∙ ap (λ (x : List ℕ). place_at g.page g.off 0 x g.row) z ∙ no_entry g.page g.off g.row g.node
      ∙ (λ j. some (record { page = p j; offset = q j }))

  module _ (h : i < length bytes) where
    pub entry : NextEntry bytes i w.path
    entry = next_entry bytes i w.path h w.spelled

    onward : place_at w.leads.page w.leads.off 0 (four_at bytes i ∷ entry.rest) w.leads.row ≡ t
    onward = ap (λ (x : List ℕ). place_at w.leads.page w.leads.off 0 x w.leads.row) (sym entry.is) ∙ w.leads.to

    -- A literal has no children.
    pub ends_here : (kind_at img pos ≡ 1 → ⊥) → t ≡ none
    ends_here k = let g = w.leads in sym onward ∙ literal img g.page pos g.off (four_at bytes i) entry.rest g.row g.here g.node k

    pub down : (len k : ℕ) → kind_at img pos ≡ 1 → len ≡ size_at img pos → k ≡ four_at bytes i → Down img bytes pos i len k t
    down len k kind long e =
        let g = w.leads in
        into img bytes g.page pos g.off i len k entry.rest t g.at kind long entry.more g.row g.here g.node g.deep g.few
        (ap (λ (j : ℕ). place_at g.page g.off 0 (j ∷ entry.rest) g.row) e ∙ onward)

-- The path as an entry and what is behind it.
module _ (img bytes entry more : List ℕ) (split : bytes ≡ entry ++ more) (long : length entry ≡ 4) where
  pub some_bytes : 0 < length bytes
  some_bytes = omega (arith, ap length split, length-append entry more)

  pub first_entry : four_at entry 0 ≡ four_at bytes 0
  unfolding four_at two_at
  first_entry =
      let b : (j : ℕ) → j < 4 → get_or bytes j 0 ≡ get_or entry j 0 =
      λ j h. ap (λ (l : List ℕ). get_or l j 0) split ∙ get_or-append entry more 0 j (omega arith) in
      omega (arith, b 0 (omega arith), b 1 (omega arith), b 2 (omega arith), b 3 (omega arith))

  pub behind : (pos : ℕ) (t : Option Place) → Finds img bytes pos 4 t → Finds img more pos 0 t
  behind pos t w =
      let e : drop 4 bytes ≡ more = ap (drop 4) split ∙ drop_at entry more 4 long in
      record { path = w.path; spelled = ap entries (sym e) ∙ w.spelled; leads = w.leads }

-- Where fewer bytes are left than an entry has, the path ends.
pub ended : (img bytes : List ℕ) (pos : ℕ) (t : Option Place) → Finds img bytes pos 0 t → length bytes < 4 → t ≡ some (place_on pos)
ended img [] pos t w h = arrived img [] pos 0 t w (omega arith)
ended img (a ∷ []) pos t w h = never w.spelled
ended img (a ∷ b ∷ []) pos t w h = never w.spelled
ended img (a ∷ b ∷ c ∷ []) pos t w h = never w.spelled
ended img (a ∷ b ∷ c ∷ d ∷ l) pos t w h = absurd (omega arith)

-- ── the answer ──

abbrev place_if : Row → Option (List ℕ) → Option Place
place_if root none = none
place_if root (some p) = place_of root p

unnamed : (root : Row) (o : Option (List ℕ)) → place_if root o ≡ none → is_none (named_if (shown root) o) ≡ true
unnamed root none e = refl
unnamed root (some p) e = go (named (shown root) p) refl
  where
    go : (n : Option Node) → named (shown root) p ≡ n → is_none n ≡ true
    go none f = refl
    go (some n) f = never (sym e ∙ (named_place root p n f).1)

is_named : (root : Row) (o : Option (List ℕ)) (x : Place) → place_if root o ≡ some x
    → (is_none (named_if (shown root) o) ≡ false) × (place_of root (or_empty o) ≡ some x)
is_named root none x e = never e
is_named root (some p) x e = go (named (shown root) p) refl
  where
    go : (n : Option Node) → named (shown root) p ≡ n → (is_none n ≡ false) × (place_of root p ≡ some x)
    go none f = never (sym (unnamed_place root p f) ∙ e)
    go (some n) f = (refl, e)

module _ (img bytes : List ℕ) (ok : check_of img ≡ 0) where
  root : Row
  root = (passing img ok).0.1

  st : Config
  st = (passing img ok).0.0

  reads : Reads img st root
  unfolding root st
  reads = (passing img ok).1

  -- Where the path leads.
  pub goal : Option Place
  goal = place_if root (entries bytes)

  -- It leads there from the root.
  pub starting : length bytes % 4 ≡ 0 → Finds img bytes page_size 0 goal
  unfolding goal
  starting h =
      let (p, e) = whole bytes h in
      let v = reads_valid img st root reads in
      record {
        path = p;
        spelled = e;
        leads = record {
          page = 1;
          off = 0;
          row = root;
          here = root_here img st root reads;
          at = refl;
          node = top root v.top;
          deep = root_nesting img st root reads;
          few = omega (arith, few_steps st root v, v.ranges.many);
          to = ap (place_if root) (sym e);
        };
      }
    where
      top : (r : Row) → is_agg r ≡ true → is_node r ≡ true
      top nil e = absurd (false≢true e)
      top (agg l cs rest) e = refl
      top (lit l c rest) e = absurd (false≢true e)
      top (rec p s r rest) e = absurd (false≢true e)

  pub too_long : longest_path < length bytes → find_refused 4 ≡ find_of img bytes
  unfolding find_of find_in
  too_long h = rw (opens img st root reads, lt-ltb longest_path (length bytes) h)

  pub nowhere : length bytes ≤ longest_path → goal ≡ none → find_refused 7 ≡ find_of img bytes
  unfolding find_of find_in goal
  nowhere h e = rw (opens img st root reads, le-ltb longest_path (length bytes) h, unnamed root (entries bytes) e)

  pub not_whole : length bytes ≤ longest_path → (length bytes % 4 ≡ 0 → ⊥) → find_refused 7 ≡ find_of img bytes
  unfolding goal
  not_whole h e = nowhere h (ap (place_if root) (broken bytes e))

  pub there : length bytes ≤ longest_path → (pos : ℕ) → goal ≡ some (place_on pos) → found_on pos ≡ find_of img bytes
  unfolding find_of find_in goal
  there h pos e =
      let n = is_named root (entries bytes) (place_on pos) e in
      rw (opens img st root reads, le-ltb longest_path (length bytes) h, n.0, n.1)
