-- A split shows what was there, and a new node shows itself.
use Rattle.std.specs.Prelude.{◌≡◌, refl, Bool, cond, ℕ, ◌≤◌, leb, eqb}
use Rattle.std.proofs.Math.Path.{sym, ap, ap₂}
use Rattle.std.proofs.Common.{◌∙◌, true≢false, arith}
use Rattle.std.proofs.Math.Bool.{true, false}
use Rattle.std.proofs.lemmas.Bool.{false≢true}
use Rattle.model.specs.Limits.{capacity}
use Rattle.model.specs.Row.{Head, Row, nil, agg, lit, rec, is_nil, lone, node_count, record_size, Config}
use Rattle.model.specs.Tree.{width, breadth, Tree, end, branch, leaf, ◌⊞◌, shown, New, new_node}
use Rattle.model.specs.Growth.{Work, Out, group, separator, kept, close, counted, freed, as_row, place, apart}
use Rattle.theory_rows.specs.Fits.{Fits, Shape, one, more}
use Rattle.theory_rows.specs.Laws.{cond_case, ⊞-end, shown-⊹, breadth_shown, new_node-⊞}
use Rattle.theory_rows.specs.Cut.{split_keeps, grouped_by}

-- ── how many nodes ──

lone_node_count : (r : Row) → lone r ≡ true → 1 ≤ node_count r
lone_node_count nil e = absurd (false≢true e)
lone_node_count (agg l cs rest) e = omega arith
lone_node_count (lit l c rest) e = omega arith
lone_node_count (rec p s r rest) e = omega arith

pub shape_node_count : {s : Bool} {r : Row} → Shape s r → 1 ≤ node_count r
shape_node_count {r = r} (one e) = lone_node_count r e
shape_node_count (more r h) = omega arith

pub node_count_some : (r : Row) → is_nil r ≡ false → 1 ≤ node_count r
node_count_some nil e = absurd (true≢false e)
node_count_some (agg l cs rest) e = omega arith
node_count_some (lit l c rest) e = omega arith
node_count_some (rec p s r rest) e = omega arith

-- Each node of a row shows one node or more.
pub nodes_shown : (r : Row) → Fits r → node_count r ≤ width r
nodes_shown nil f = omega arith
nodes_shown (agg h cs rest) f = omega (arith, nodes_shown rest f.2)
nodes_shown (lit h c rest) f = omega (arith, nodes_shown rest f.3)
nodes_shown (rec p s r rest) f = omega (arith, shape_node_count f.0.shape, nodes_shown r f.1, nodes_shown rest f.2)

-- ── a split ──

abbrev pub Shows : Tree → Out → Type 0
Shows t o = shown o.0 ≡ t

module _ (st : Config) where
  pub shown_separator : (near : ℕ) (r : Row) (w : Work) → Shows (shown r) (separator st near r w)
  unfolding separator
  shown_separator near =
      split_keeps st (group st near) (λ r w o. Shows (shown r) o)
      (λ a b w x y i j. shown-⊹ x.0 y.0 ∙ ap₂ ◌⊞◌ i j ∙ sym (shown-⊹ a b)) (λ h r w x i. ap (λ t. branch h t end) i)
      (λ r w. grouped_by _ (Shows (shown r)) r w (λ _. refl) (λ _. ⊞-end (shown r)))

  -- So it shows as many nodes as the record did.
  pub separator_width : (near : ℕ) (r : Row) (w : Work) → width r ≡ width (separator st near r w).0
  separator_width near r w =
      sym (breadth_shown r) ∙ ap breadth (sym (shown_separator near r w)) ∙ breadth_shown (separator st near r w).0

  pub shown_kept : (q : ℕ) (o : Out) → Shows (shown o.0) (kept st q o)
  unfolding kept
  shown_kept q o =
      cond_case (Shows (shown o.0)) (leb (record_size o.0) capacity) (λ e. refl) (λ e. shown_separator q o.0 (counted st o.0 o.1))

  pub shown_close : (q : ℕ) (s : Bool) (rest : Row) (o : Out) → Shows (shown o.0 ⊞ shown rest) (close st q s rest o)
  unfolding close
  shown_close q true rest o = ap (λ t. t ⊞ shown rest) (shown_kept q o)
  shown_close q false rest o =
      cond_case (Shows (shown o.0 ⊞ shown rest)) (leb (record_size o.0) capacity)
      (λ e. refl)
      (λ e.
      let w = freed st q (counted st o.0 o.1) in
      shown-⊹ (separator st q o.0 w).0 rest ∙ ap (λ t. t ⊞ shown rest) (shown_separator q o.0 w))

module _ (st : Config) (x : New) where
  shown_as_row : (rest : Row) → shown (as_row st x rest) ≡ new_node x (shown rest)
  shown_as_row rest = go (eqb x.kind 1)
    where
      go : (t : Bool) → shown (cond t (agg x.head nil rest) (lit x.head x.content rest)) ≡ cond t (branch x.head end (shown rest))
          (leaf x.head x.content (shown rest))
      go true = refl
      go false = refl

  pub shown_place : (l : Head) (page : ℕ) (rest : Row) (w : Work) → Shows (new_node x (shown rest)) (place st x l page rest w)
  shown_place l page rest w =
      cond_case (Shows (new_node x (shown rest))) (apart st l x.head)
      (λ e. ap (λ t. t ⊞ shown rest) (shown_as_row nil) ∙ sym (new_node-⊞ x end (shown rest)))
      (λ e. shown_as_row rest)
