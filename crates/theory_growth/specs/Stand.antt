-- Where a node stands: the root record around it, and the tree that is shown with an edit at it.
use Rattle.std.specs.Prelude.{◌≡◌, Bool, true, false, cond, ◌&&◌, ltb}
use Rattle.std.proofs.Math.Path.{refl, ap}
use Rattle.std.proofs.Common.{sym, subst, ◌∙◌, arith, ltb-true, ltb-false}
use Rattle.std.proofs.Math.Bool.{and-false}
use Rattle.std.proofs.lemmas.Bool.{false≢true}
use mathlib.Core.List.{List, [], ◌∷◌, ◌++◌}
use Rattle.std.proofs.Math.Option.{Option, some, some-injective, none-ne-some}
use Prim.Native.Nat.{ℕ, zero, suc, ◌+◌, ◌-◌, ◌≤◌, ◌<◌}
use Rattle.std.proofs.Math.Nat.{sub-zero, suc-sub-suc}
use Rattle.model.specs.Row.{Head, Row, nil, agg, lit, rec, ◌⊹◌, node_count, lone}
use Rattle.model.specs.Tree.{Tree, end, branch, leaf, ◌⊞◌, shown, width, breadth}
use Rattle.model.specs.Spot.{Position, here, inside, fill, past, into, Chain, below, whole, Stand, is_empty, stand_at, stand_in}
use Rattle.theory_rows.specs.Laws.{cond_case, ⊹-assoc, ⊞-end, breadth_shown, within, beyond, is_nil_nil, lone_width}
use Rattle.theory_growth.specs.Chain.{fill_past, fill_into}
use Rattle.theory_growth.specs.Shown.{around, above, around_past, around_record, around_into}

-- ── an edit at a node of the plain tree ──

-- What stands in place of a node, alone in its row, and of what follows it; what follows further on stays.
pub record Edit : Type 0 where
  pub makes : (one rest : Tree) → Tree
  pub local : (one rest more : Tree) → makes one rest ⊞ more ≡ makes one (rest ⊞ more)

-- At the node that the path names from node i of the row.
abbrev pub edit_at : Edit → (i : ℕ) → (path : List ℕ) → Tree → Tree
edit_at e i path end = end
edit_at e zero [] (branch h cs rest) = e.makes (branch h cs end) rest
edit_at e zero (j ∷ path) (branch h cs rest) = branch h (edit_at e j path cs) rest
edit_at e (suc i) path (branch h cs rest) = branch h cs (edit_at e i path rest)
edit_at e zero [] (leaf h c rest) = e.makes (leaf h c end) rest
edit_at e zero (j ∷ path) (leaf h c rest) = leaf h c rest
edit_at e (suc i) path (leaf h c rest) = leaf h c (edit_at e i path rest)

module _ (e : Edit) where
  -- in a row that is two rows joined
  edit_at_left : (i : ℕ) (path : List ℕ) (a b : Tree) → i < breadth a → edit_at e i path (a ⊞ b) ≡ edit_at e i path a ⊞ b
  edit_at_left i path end b h = absurd (omega arith)
  edit_at_left zero [] (branch l cs rest) b h = sym (e.local (branch l cs end) rest b)
  edit_at_left zero (j ∷ path) (branch l cs rest) b h = refl
  edit_at_left (suc i) path (branch l cs rest) b h = ap (branch l cs) (edit_at_left i path rest b (omega arith))
  edit_at_left zero [] (leaf l c rest) b h = sym (e.local (leaf l c end) rest b)
  edit_at_left zero (j ∷ path) (leaf l c rest) b h = refl
  edit_at_left (suc i) path (leaf l c rest) b h = ap (leaf l c) (edit_at_left i path rest b (omega arith))

  edit_at_right : (i : ℕ) (path : List ℕ) (a b : Tree) → breadth a ≤ i → edit_at e i path (a ⊞ b) ≡ a ⊞ edit_at e (i - breadth a) path b
  edit_at_right i path end b h = rw sub-zero
  edit_at_right zero path (branch l cs rest) b h = absurd (omega arith)
  edit_at_right (suc i) path (branch l cs rest) b h = rw suc-sub-suc (ap (branch l cs) (edit_at_right i path rest b (omega arith)))
  edit_at_right zero path (leaf l c rest) b h = absurd (omega arith)
  edit_at_right (suc i) path (leaf l c rest) b h = rw suc-sub-suc (ap (leaf l c) (edit_at_right i path rest b (omega arith)))

  -- The root of a record is all that the record shows.
  edit_at_lone : (i : ℕ) (r : Row) (t : Tree) → lone r ≡ true → i < width r → edit_at e i [] (shown r ⊞ t) ≡ e.makes (shown r) t
  edit_at_lone i nil t l h = absurd (false≢true l)
  edit_at_lone zero (agg h cs rest) t l _ = rw (is_nil_nil rest l)
  edit_at_lone (suc i) (agg h cs rest) t l k = absurd (omega (arith, ap width (is_nil_nil rest l)))
  edit_at_lone zero (lit h c rest) t l _ = rw (is_nil_nil rest l)
  edit_at_lone (suc i) (lit h c rest) t l k = absurd (omega (arith, ap width (is_nil_nil rest l)))
  edit_at_lone i (rec p s r rest) t l h = absurd (false≢true l)

-- ── a stand ──

-- The row that goes on at the position is no record's only node: it is in an aggregate or in a record with a helper.
abbrev pub NotAlone : Position → Row → Type 0
NotAlone (here left) row = lone (left ⊹ row) ≡ false
NotAlone (inside left h rest s) row = Unit {0}

pub not_alone_into : (s : Position) (h : Head) (rest row : Row) → NotAlone (into s h rest) row
not_alone_into (here left) h rest row = tt
not_alone_into (inside left g right s) h rest row = tt

-- The root record of a stand.
abbrev pub root_of : Stand → Row
root_of t = whole t.chain (fill t.position (t.node ⊹ t.rest))

-- The stand is one of the root record, of one node, which is no record's only one, and with an edit at it that shows what `new` says.
pub record Stood (root : Row) (new : Edit → Tree) (t : Stand) : Type 0 where
  pub held : root_of t ≡ root
  pub shows : (e : Edit) → above t.chain (around t.position (e.makes (shown t.node) (shown t.rest))) ≡ new e
  pub one : node_count t.node ≡ 1
  pub wide : width t.node ≡ 1
  pub not_alone : NotAlone t.position (t.node ⊹ t.rest)

-- the same said of the root record in other words
stood_same : {root root' : Row} {new new' : Edit → Tree} (t : Stand) → root ≡ root' → ((e : Edit) → new e ≡ new' e) → Stood root new t → Stood root' new' t
stood_same t a b f = record { held = f.held ∙ a; shows = λ e. f.shows e ∙ b e; one = f.one; wide = f.wide; not_alone = f.not_alone }

-- ── the stand of a path ──

-- Where the path ends at this row, the row is no record's only node.
abbrev pub Ends : List ℕ → Position → Row → Type 0
Ends [] s row = NotAlone s row
Ends (j ∷ path) s row = Unit {0}

ends_past : (path : List ℕ) (s : Position) (one rest : Row) → Ends path s (one ⊹ rest) → Ends path (past s one) rest
ends_past [] (here left) one rest o = ap lone (⊹-assoc left one rest) ∙ o
ends_past [] (inside left h right s) one rest o = tt
ends_past (j ∷ path) s one rest o = tt

ends_into : (path : List ℕ) (s : Position) (h : Head) (rest row : Row) → Ends path (into s h rest) row
ends_into [] s h rest row = not_alone_into s h rest row
ends_into (j ∷ path) s h rest row = tt

module _ (t : Stand) where
  -- The stand is one of a row that goes on at a position, and with an edit at it the row shows what `new` says.
  abbrev From : Chain → Position → (row : Row) → (new : Edit → Tree) → Type 0
  From c s row new = Stood (whole c (fill s row)) (λ e. above c (around s (new e))) t

  same_tree : (c : Chain) (s : Position) (row : Row) (old new : Edit → Tree) → ((e : Edit) → old e ≡ new e) → From c s row old → From c s row new
  same_tree c s row old new a f = stood_same t refl (λ e. ap (λ (u : Tree). above c (around s u)) (a e)) f

  -- a node is passed
  past_from : (c : Chain) (s : Position) (one rest : Row) (new : Edit → Tree) → From c (past s one) rest new → From c s (one ⊹ rest) (λ e. shown one ⊞ new e)
  past_from c s one rest new f = stood_same t (ap (whole c) (fill_past s one rest)) (λ e. ap (above c) (around_past s one (new e))) f

  -- the node is here
  at_from : (c : Chain) (s : Position) (node rest : Row) → stand_at c s node rest ≡ some t → node_count node ≡ 1 → width node ≡ 1 → NotAlone s (node ⊹ rest)
      → From c s (node ⊹ rest) (λ e. e.makes (shown node) (shown rest))
  at_from c s node rest a n w o =
      subst (Stood (whole c (fill s (node ⊹ rest))) (λ e. above c (around s (e.makes (shown node) (shown rest))))) (some-injective _ t a)
      (record { held = refl; shows = λ e. refl; one = n; wide = w; not_alone = o })

  -- With an edit at the stand of a path, the row shows the plain tree's edit at the node that the path names.
  pub stood_in : (c : Chain) (s : Position) (i : ℕ) (path : List ℕ) (row : Row) → stand_in c s i path row ≡ some t → Ends path s row
      → Stood (whole c (fill s row)) (λ e. above c (around s (edit_at e i path (shown row)))) t
  unfolding stand_in
  stood_in c s i path nil a o = absurd (none-ne-some t a)
  stood_in c s zero [] (agg h cs rest) a o = at_from c s (agg h cs nil) rest a refl refl o
  stood_in c s zero (j ∷ path) (agg h cs rest) a o =
      stood_same t (ap (whole c) (fill_into s h rest cs)) (λ e. ap (above c) (around_into s h rest (edit_at e j path (shown cs))))
      (stood_in c (into s h rest) j path cs a (ends_into path s h rest cs))
  stood_in c s (suc i) path (agg h cs rest) a o =
      past_from c s (agg h cs nil) rest _ (stood_in c (past s (agg h cs nil)) i path rest a (ends_past path s (agg h cs nil) rest o))
  stood_in c s zero [] (lit h x rest) a o = at_from c s (lit h x nil) rest a refl refl o
  stood_in c s zero (j ∷ path) (lit h x rest) a o = absurd (none-ne-some t a)
  stood_in c s (suc i) path (lit h x rest) a o =
      past_from c s (lit h x nil) rest _ (stood_in c (past s (lit h x nil)) i path rest a (ends_past path s (lit h x nil) rest o))
  stood_in c s i path (rec q b r rest) a o =
      let one : Row = rec q b r nil in
      let P : Option Stand → Type 0 = λ p. p ≡ some t → From c s (rec q b r rest) (λ e. edit_at e i path (shown r ⊞ shown rest)) in
      cond_case P (ltb i (width r)) (λ m. in_record m (lone r) refl path o (stood_in (below c s q b rest) (here nil) i path r))
      (λ m a. stood_same t (ap (whole c) (fill_past s one rest))
      (λ e. ap (above c) (around_record s q b r (edit_at e (i - width r) path (shown rest))
      ∙ ap (around s) (sym (rw (← breadth_shown r) (edit_at_right e i path (shown r) (shown rest) (beyond r i m))))))
      (stood_in c (past s one) (i - width r) path rest a (ends_past path s one rest o))) a
    where
      Q : List ℕ → Type 0
      Q p = From c s (rec q b r rest) (λ e. edit_at e i p (shown r ⊞ shown rest))

      Within : List ℕ → Type 0
      Within p = stand_in (below c s q b rest) (here nil) i p r ≡ some t → Ends p (here nil) r
          → From (below c s q b rest) (here nil) r (λ e. edit_at e i p (shown r))

      enter : ltb i (width r) ≡ true → (p : List ℕ) → Within p → stand_in (below c s q b rest) (here nil) i p r ≡ some t → Ends p (here nil) r → Q p
      enter m p f a o = same_tree c s (rec q b r rest) _ _ (λ e. sym (edit_at_left e i p (shown r) (shown rest) (within r i m))) (f a o)

      in_record : ltb i (width r) ≡ true → (l : Bool) → lone r ≡ l → (p : List ℕ) → Ends p s (rec q b r rest) → Within p
          → cond (l && is_empty p) (stand_at c s (rec q b r nil) rest) (stand_in (below c s q b rest) (here nil) i p r) ≡ some t → Q p
      in_record m true z [] o f a =
          same_tree c s (rec q b r rest) _ _
          (λ e. ap (λ (u : Tree). e.makes u (shown rest)) (⊞-end (shown r)) ∙ sym (edit_at_lone e i r (shown rest) z (ltb-true i (width r) m)))
          (at_from c s (rec q b r nil) rest a refl (omega (arith, lone_width r z)) o)
      in_record m true z (j ∷ p) o f a = enter m (j ∷ p) f a tt
      in_record m false z [] o f a = enter m [] f a z
      in_record m false z (j ∷ p) o f a = enter m (j ∷ p) f a tt

-- ── which nodes have one ──

-- A row shows the node whose stand it has.
pub stand_within : (c : Chain) (s : Position) (i : ℕ) (path : List ℕ) (row : Row) (t : Stand) → stand_in c s i path row ≡ some t → i < width row
unfolding stand_in
stand_within c s i path nil t a = absurd (none-ne-some t a)
stand_within c s zero path (agg h cs rest) t a = omega arith
stand_within c s (suc i) path (agg h cs rest) t a = omega (arith, stand_within c (past s (agg h cs nil)) i path rest t a)
stand_within c s zero path (lit h x rest) t a = omega arith
stand_within c s (suc i) path (lit h x rest) t a = omega (arith, stand_within c (past s (lit h x nil)) i path rest t a)
stand_within c s i path (rec q b r rest) t a =
    cond_case (λ (p : Option Stand). p ≡ some t → i < width r + width rest) (ltb i (width r)) (λ m _. omega (arith, ltb-true i (width r) m))
    (λ m a. omega (arith, ltb-false i (width r) m, stand_within c (past s (rec q b r nil)) (i - width r) path rest t a)) a

-- The search for a child of a node goes into a record or past it.
pub stand_below_lem : (c : Chain) (s : Position) (i : ℕ) (path : List ℕ) (j q : ℕ) (b : Bool) (r rest : Row)
    → let p = path ++ j ∷ [] in
    stand_in c s i p (rec q b r rest)
    ≡ cond (ltb i (width r)) (stand_in (below c s q b rest) (here nil) i p r) (stand_in c (past s (rec q b r nil)) (i - width r) p rest)
unfolding stand_in
stand_below_lem c s i path j q b r rest = rw (some_path path, and-false (lone r))
  where
    some_path : (path : List ℕ) → is_empty (path ++ j ∷ []) ≡ false
    some_path [] = refl
    some_path (k ∷ path) = refl
