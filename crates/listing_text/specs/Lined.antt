-- The lines of a row that stands in an image: a node's own line, the row that it holds, and the row behind it.
use Rattle.std.specs.Prelude.{◌≡◌, cond, ℕ, suc, ◌+◌, ◌*◌, ◌-◌, ◌≤◌, ◌<◌, max, take, eqb}
use Rattle.std.proofs.Math.Path.{refl, ap}
use Rattle.std.proofs.Common.{sym, subst, ◌∙◌, arith, length-append, eq-eqb, ne_eqb}
use mathlib.Core.List.{List, [], ◌∷◌, ◌++◌, append_assoc, append-nil, map}
use Rattle.std.proofs.Math.ListN.{length, drop}
use Rattle.model.specs.Limits.{page_size, most_bytes}
use Rattle.model.specs.Row.{Head, Row, nil, agg, lit, rec, size, base}
use Rattle.model.specs.Tree.{Tree, end, branch, leaf, ◌⊞◌, shown, Node, nodes, below, further}
use Rattle.model.specs.Reading.{size_at, name_at, kind_at, head_at}
use Rattle.theory_row_bytes.specs.RowAt.{RowAt, size_of, rest_of}
use Rattle.theory_layout.specs.Here.{PageIn, Here, view}
use Rattle.read_find.specs.Rowed.{start_on, end_on}
use Rattle.listing_lines.specs.Text.{line_of, letter_of, lines_of}
use Rattle.listing_lines.specs.Wrote.{Room, Wrote, nothing, then, same_text}
use Rattle.listing_text.specs.declared.Extent.{Extent}

-- ── the lines of a row ──

-- The lines of what a row shows; its nodes have this level.
unfoldable pub row_text : (level : ℕ) → Row → List ℕ
row_text l nil = []
row_text l (agg h cs rest) = line_of l 65 h.label [] h.origin ++ row_text (l + 1) cs ++ row_text l rest
row_text l (lit h c rest) = line_of l 76 h.label c h.origin ++ row_text l rest
row_text l (rec p s r rest) = row_text l r ++ row_text l rest

lines_append : (l : ℕ) (a b : List Node) → lines_of l (a ++ b) ≡ lines_of l a ++ lines_of l b
unfolding lines_of
lines_append l [] b = refl
lines_append l (n ∷ a) b =
    let line = line_of (l + length n.path) (letter_of n.kind) n.head.label n.content n.head.origin in
    rw (lines_append l a b) (sym (append_assoc line (lines_of l a) (lines_of l b)))

-- A node's level does not depend on its number in its row, and is one more from the row above.
lines_further : (l k : ℕ) (a : List Node) → lines_of l (map (further k) a) ≡ lines_of l a
unfolding lines_of
lines_further l k [] = refl
lines_further l k (n ∷ a) = rw (lines_further l k a)

lines_below : (l : ℕ) (a : List Node) → lines_of l (map below a) ≡ lines_of (l + 1) a
unfolding lines_of
lines_below l [] = refl
lines_below l (n ∷ a) =
    let e : l + suc (length n.path) ≡ l + 1 + length n.path = omega arith in
    rw (e, lines_below l a)

-- The lines of a branch: its own, those of its children, those of the nodes after it.
lines_branch : (l : ℕ) (h : Head) (cs rest : Tree)
    → lines_of l (nodes (branch h cs rest)) ≡ line_of l 65 h.label [] h.origin ++ lines_of (l + 1) (nodes cs) ++ lines_of l (nodes rest)
unfolding lines_of
lines_branch l h cs rest =
    let e : l + 0 ≡ l = omega arith in
    rw (e, lines_append l (map below (nodes cs)) (map (further 1) (nodes rest)), lines_below l (nodes cs), lines_further l 1 (nodes rest))
    (sym (append_assoc (line_of l 65 h.label [] h.origin) (lines_of (l + 1) (nodes cs)) (lines_of l (nodes rest))))

lines_leaf : (l : ℕ) (h : Head) (c : List ℕ) (rest : Tree) → lines_of l (nodes (leaf h c rest)) ≡ line_of l 76 h.label c h.origin ++ lines_of l (nodes rest)
unfolding lines_of
lines_leaf l h c rest =
    let e : l + 0 ≡ l = omega arith in
    rw (e, lines_further l 1 (nodes rest))

lines_join : (l : ℕ) (a b : Tree) → lines_of l (nodes (a ⊞ b)) ≡ lines_of l (nodes a) ++ lines_of l (nodes b)
unfolding lines_of
lines_join l end b = refl
lines_join l (branch h cs rest) b =
    lines_branch l h cs (rest ⊞ b) ∙ ap (λ (t : List ℕ). line_of l 65 h.label [] h.origin ++ lines_of (l + 1) (nodes cs) ++ t) (lines_join l rest b)
    ∙ sym (ap (λ (t : List ℕ). t ++ lines_of l (nodes b)) (lines_branch l h cs rest) ∙ simp append_assoc)
lines_join l (leaf h c rest) b =
    lines_leaf l h c (rest ⊞ b) ∙ ap (λ (t : List ℕ). line_of l 76 h.label c h.origin ++ t) (lines_join l rest b)
    ∙ sym (ap (λ (t : List ℕ). t ++ lines_of l (nodes b)) (lines_leaf l h c rest) ∙ simp append_assoc)

-- They are the lines of the tree shown, in document order.
pub row_text_lem : (l : ℕ) (r : Row) → row_text l r ≡ lines_of l (nodes (shown r))
unfolding row_text lines_of
row_text_lem l nil = refl
row_text_lem l (agg h cs rest) = rw (row_text_lem (l + 1) cs, row_text_lem l rest) (sym (lines_branch l h (shown cs) (shown rest)))
row_text_lem l (lit h c rest) = rw (row_text_lem l rest) (sym (lines_leaf l h c (shown rest)))
row_text_lem l (rec p s r rest) = rw (row_text_lem l r, row_text_lem l rest) (sym (lines_join l (shown r) (shown rest)))

-- ── a row in an image ──

-- How far nodes and records are nested in a row.
abbrev pub span : Row → ℕ
span nil = 0
span (agg h cs rest) = max (suc (span cs)) (span rest)
span (lit h c rest) = max 1 (span rest)
span (rec p s r rest) = max (suc (span r)) (span rest)

-- A row stands from pos to end, its nodes nested at most `depth` deep.
pub record Lined (img : List ℕ) (pos end level depth : ℕ) : Type 0 where
  pub page : ℕ
  pub row : Row
  pub here : Here img page pos row
  pub ends : end ≡ pos + size row
  pub deep : span row ≤ depth
  pub low : level + depth ≤ 4294967296

-- A node of such a row stands from i to next.
pub record LinedNode (img : List ℕ) (i next end level depth : ℕ) : Type 0 where
  pub lined : Lined img i end level depth
  pub some : i < end
  pub long : next ≡ i + size_at img i

-- A node of some such row.
pub record ListedNode (img : List ℕ) (i next level : ℕ) : Type 0 where
  pub stop : ℕ
  pub depth : ℕ
  pub node : LinedNode img i next stop level depth

-- What a node at i that ends at next prints by itself, and the row that it holds.
abbrev pub own_of : (img : List ℕ) → (i next level : ℕ) → List ℕ
own_of img i next level =
    let aggregate = line_of level 65 (head_at img i).label [] (head_at img i).origin in
    let literal = line_of level 76 (head_at img i).label (take (next - (i + 6)) (drop (i + 6) img)) (head_at img i).origin in
    cond (eqb (kind_at img i) 1) aggregate (cond (eqb (kind_at img i) 2) literal [])

abbrev pub inside_of : (img : List ℕ) → (i next level : ℕ) → Extent
inside_of img i next level =
    let p = name_at img i in
    let children : Extent = record { start = i + 6; stop = next; level = level + 1 } in
    let under : Extent = record { start = start_on img p; stop = end_on img p; level = level } in
    let none : Extent = record { start = next; stop = next; level = level } in
    cond (eqb (kind_at img i) 1) children (cond (eqb (kind_at img i) 3) under none)

-- Its bytes are in the image.
pub node_fits : {img : List ℕ} {i next end level depth : ℕ} → LinedNode img i next end level depth
    → (i + 6 ≤ next) × ((next ≤ end) × ((end + 16 ≤ length img) × (end < most_bytes)))
node_fits a =
    let w = a.lined in
    let v = view w.here (omega (arith, w.ends, a.some)) in
    omega (arith, a.long, v.size_is, v.more, v.total, w.ends, w.here.room, w.here.on.inside, w.here.on.high)

-- The node's line, the row inside it and the row behind it are the whole.
pub record NodeLines (img : List ℕ) (i next end level depth : ℕ) (x : Extent) (own : List ℕ) (row : Row) : Type 0 where
  pub below : 1 ≤ depth
  pub names : kind_at img i ≡ 3 → PageIn img (name_at img i) × (i + 8 ≤ next)
  pub inside : Lined img x.start x.stop x.level (depth - 1)
  pub after : Lined img next end level depth
  pub text : row_text level row ≡ own ++ row_text x.level inside.row ++ row_text level after.row

span_first : (r : Row) → 0 < size r → (1 ≤ span r) × (span (rest_of r) ≤ span r)
span_first nil h = absurd (omega arith)
span_first (agg k cs rest) h = (omega arith, omega arith)
span_first (lit k c rest) h = (omega arith, omega arith)
span_first (rec p s r rest) h = (omega arith, omega arith)

module _ {img : List ℕ} {i next end level depth : ℕ} (a : LinedNode img i next end level depth) where
  page : ℕ
  page = a.lined.page

  low : level + depth ≤ 4294967296
  low = a.lined.low

  -- the row behind it
  abbrev behind : (row : Row) → Here img page i row → end ≡ i + size row → span row ≤ depth → Lined img next end level depth
  behind row h e d =
      let some : 0 < size row = omega (arith, a.some) in
      let v = view h some in
      let n = span_first row some in
      let z : i + size_of row ≡ next = omega (arith, a.long, v.size_is) in
      record {
        page = page;
        row = rest_of row;
        here = subst (λ (n : ℕ). Here img page n (rest_of row)) z v.after;
        ends = omega (arith, v.total);
        deep = omega arith;
        low = low;
      }

  lines_by : (row : Row) → Here img page i row → end ≡ i + size row → span row ≤ depth
      → NodeLines img i next end level depth (inside_of img i next level) (own_of img i next level) row
  unfolding row_text
  lines_by nil h e d = absurd (omega (arith, a.some))
  lines_by (agg k cs rest) h e d =
      let v = view h (omega arith) in
      let label : (head_at img i).label ≡ k.label = ap (λ (h : Head). h.label) v.head_is in
      let origin : (head_at img i).origin ≡ k.origin = ap (λ (h : Head). h.origin) v.head_is in
      rw v.kind_is record {
        below = omega arith;
        names = λ y. absurd (omega (arith, v.kind_is));
        inside = record {
          page = page;
          row = cs;
          here = v.children;
          ends = omega (arith, a.long, v.size_is);
          deep = omega arith;
          low =
              omega (arith, low);
        };
        after = behind (agg k cs rest) h e d;
        text = rw (label, origin);
      }
  lines_by (lit k c rest) h e d =
      let v = view h (omega arith) in
      let label : (head_at img i).label ≡ k.label = ap (λ (h : Head). h.label) v.head_is in
      let origin : (head_at img i).origin ≡ k.origin = ap (λ (h : Head). h.origin) v.head_is in
      let n : next - (i + 6) ≡ length c = omega (arith, a.long, v.size_is) in
      rw v.kind_is record {
        below = omega arith;
        names = λ y. absurd (omega (arith, v.kind_is));
        inside = record { page = page; row = nil; here = none; ends = omega arith; deep = omega arith; low = omega (arith, low) };
        after = behind (lit k c rest) h e d;
        text = rw (label, origin, n, v.content, append-nil);
      }
    where
      none : Here img page next nil
      none =
          let n = node_fits a in
          let at : RowAt img next nil = record { post = drop next img; is = refl } in
          record
          { at = at; on = h.on; start = omega (arith, h.start); room = omega (arith, h.room); fits = tt; stored = tt; names = λ q y. absurd (omega arith) }
  lines_by (rec p s r rest) h e d =
      let v = view h (omega arith) in
      let u = v.under in
      let name = v.name_is refl in
      let x : start_on img (name_at img i) ≡ page_size * p + base r = ap (start_on img) name ∙ ap (λ (n : ℕ). page_size * p + n) u.first in
      let y : end_on img (name_at img i) ≡ page_size * p + (base r + size r) = ap (end_on img) name ∙ ap (λ (n : ℕ). page_size * p + n) u.used in
      rw v.kind_is record {
        below = omega arith;
        names = λ _. (subst (PageIn img) (sym name) u.here.on, omega (arith, a.long, v.size_is));
        inside =
            record { page = p; row = r; here = rw x u.here; ends = omega (arith, x, y); deep = omega arith; low = omega (arith, low) };
        after = behind (rec p s r rest) h e d;
        text = refl;
      }

  pub node_lines : NodeLines img i next end level depth (inside_of img i next level) (own_of img i next level) a.lined.row
  unfolding page
  node_lines = lines_by a.lined.row a.lined.here a.lined.ends a.lined.deep

-- ── a walk ──

-- The row's lines fit the buffer.
pub record Fitting (img : List ℕ) (pos end level depth at : ℕ) (out : List ℕ) : Type 0 where
  pub lined : Lined img pos end level depth
  pub room : Room (row_text level lined.row) at out

-- They are written.
pub record Texted {img : List ℕ} {pos end level depth at : ℕ} {out : List ℕ} (w : Fitting img pos end level depth at out) (after : List ℕ)
    (n : ℕ) : Type 0 where
  pub wrote : Wrote (row_text level w.lined.row) at out after n

-- Of the whole text t, what stands before node i is written, and the row from i on is left.
pub record Underway (img : List ℕ) (i end level depth at n : ℕ) (before now : List ℕ) (t : List ℕ) : Type 0 where
  pub done : List ℕ
  pub rest : Lined img i end level depth
  pub wrote : Wrote done at before now n
  pub whole : t ≡ done ++ row_text level rest.row
  pub room : Room t at before

pub underway_start : {img : List ℕ} {pos end level depth at : ℕ} {out : List ℕ} → (w : Fitting img pos end level depth at out)
    → Underway img pos end level depth at at out out (row_text level w.lined.row)
underway_start {img} {pos} {end} {level} {depth} {at} {out} w =
    record { done = []; rest = w.lined; wrote = nothing at out (omega (arith, w.room.fits)); whole = refl; room = w.room }

abbrev pub at_node : {img : List ℕ} {i end level depth : ℕ} (len : ℕ) → Lined img i end level depth → i < end → len ≡ size_at img i
    → LinedNode img i (i + len) end level depth
at_node {img} {i} len w h e = record { lined = w; some = h; long = ap (λ (n : ℕ). i + n) e }

pub lines_at : {img : List ℕ} {i next end level depth : ℕ} → (a : LinedNode img i next end level depth) → (x : Extent) → x ≡ inside_of img i next level
    → NodeLines img i next end level depth x (own_of img i next level) a.lined.row
lines_at {img} {i} {next} {end} {level} {depth} a x e =
    subst (λ (y : Extent). NodeLines img i next end level depth y (own_of img i next level) a.lined.row) (sym e) (node_lines a)

module _ {img : List ℕ} {i next end level depth at n : ℕ} {before now t own : List ℕ} {x : Extent} (g : Underway img i end level depth at n before now t)
    (s : NodeLines img i next end level depth x own g.rest.row) where
  total : length t ≡ length g.done + (length own + length (row_text x.level s.inside.row) + length (row_text level s.after.row))
  total = ap length (g.whole ∙ ap (λ (l : List ℕ). g.done ++ l) s.text) ∙ simp length-append

  pub own_room : Room own n now
  own_room = record { fits = omega (arith, total, g.room.fits, g.wrote.ends, g.wrote.same) }

  pub inside_fitting : {m : ℕ} {mid : List ℕ} → Wrote own n now mid m → Fitting img x.start x.stop x.level (depth - 1) m mid
  inside_fitting w =
      record { lined = s.inside; room = record { fits = omega (arith, total, g.room.fits, g.wrote.ends, g.wrote.same, w.ends, w.same) } }

  pub underway_on : {m k : ℕ} {mid after : List ℕ} → (w : Wrote own n now mid m) → Texted (inside_fitting w) after k
      → Underway img next end level depth at k before after t
  unfolding inside_fitting
  underway_on w v = record {
    done = g.done ++ own ++ row_text x.level s.inside.row;
    rest = s.after;
    wrote = then (then g.wrote w) v.wrote;
    whole = g.whole ∙ ap (λ (l : List ℕ). g.done ++ l) s.text ∙ simp append_assoc;
    room = g.room;
  }

pub underway_end : {img : List ℕ} {i end level depth at n : ℕ} {before now t : List ℕ} → Underway img i end level depth at n before now t → end ≤ i
    → Wrote t at before now n
unfolding row_text
underway_end {img} {i} {end} {level} {depth} {at} {n} {before} {now} {t} g h = go g.rest.row g.rest.ends g.whole
  where
    go : (row : Row) → end ≡ i + size row → t ≡ g.done ++ row_text level row → Wrote t at before now n
    go nil e w = same_text (sym (w ∙ append-nil g.done)) g.wrote
    go (agg l cs rest) e w = absurd (omega arith)
    go (lit l c rest) e w = absurd (omega arith)
    go (rec p b r rest) e w = absurd (omega arith)

-- ── a node by its kind ──

module _ (img : List ℕ) (i next level : ℕ) where
  pub inside_aggregate : kind_at img i ≡ 1 → record { start = i + 6; stop = next; level = level + 1 } ≡ inside_of img i next level
  inside_aggregate k = rw (eq-eqb (kind_at img i) 1 k)

  pub inside_proxy : (p a b : ℕ) → (kind_at img i ≡ 1 → ⊥) → kind_at img i ≡ 3 → p ≡ name_at img i → a ≡ start_on img p → b ≡ end_on img p
      → record { start = a; stop = b; level = level } ≡ inside_of img i next level
  inside_proxy p a b k m e f g = rw (ne_eqb (kind_at img i) 1 k, eq-eqb (kind_at img i) 3 m, f, g, e)

  pub inside_none : (kind_at img i ≡ 1 → ⊥) → (kind_at img i ≡ 3 → ⊥) → record { start = next; stop = next; level = level } ≡ inside_of img i next level
  inside_none k m = rw (ne_eqb (kind_at img i) 1 k, ne_eqb (kind_at img i) 3 m)

  pub own_aggregate : (label origin : ℕ) → kind_at img i ≡ 1 → label ≡ (head_at img i).label → origin ≡ (head_at img i).origin
      → own_of img i next level ≡ line_of level 65 label [] origin
  own_aggregate label origin k e o = rw (eq-eqb (kind_at img i) 1 k, e, o)

  pub own_literal : (label origin : ℕ) → (kind_at img i ≡ 1 → ⊥) → kind_at img i ≡ 2 → label ≡ (head_at img i).label → origin ≡ (head_at img i).origin
      → own_of img i next level ≡ line_of level 76 label (take (next - (i + 6)) (drop (i + 6) img)) origin
  own_literal label origin k m e o = rw (ne_eqb (kind_at img i) 1 k, eq-eqb (kind_at img i) 2 m, e, o)

  pub own_none : (kind_at img i ≡ 1 → ⊥) → (kind_at img i ≡ 2 → ⊥) → own_of img i next level ≡ []
  own_none k m = rw (ne_eqb (kind_at img i) 1 k, ne_eqb (kind_at img i) 2 m)

pub named_page : {img : List ℕ} {i next end level depth : ℕ} (p : ℕ) → LinedNode img i next end level depth → kind_at img i ≡ 3 → p ≡ name_at img i
    → PageIn img p
named_page {img} p a k e = subst (PageIn img) (sym e) ((node_lines a).names k).0
