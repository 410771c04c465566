-- Where a literal stands in the image of a valid store, its content stands 6 bytes further on.
use Rattle.std.specs.Prelude.{◌≡◌, take, drop}
use Rattle.std.proofs.Math.Path.{refl, subst}
use Rattle.std.proofs.Common.{sym, subst₂, ◌∙◌, arith, ltb-true, ltb-false}
use Rattle.std.proofs.Math.Bool.{true, false}
use mathlib.Core.List.{List, [], ◌∷◌}
use Rattle.std.proofs.Math.Option.{Option, none, some, map}
use Prim.Native.Nat.{ℕ, zero, suc, ◌+◌, ◌*◌, ◌-◌, ◌<◌, ◌≤◌}
use Rattle.std.proofs.Math.ListN.{length}
use Rattle.std.proofs.Math.Dec.{ltb}
use Rattle.model.specs.Limits.{page_size, capacity}
use Rattle.model.specs.Row.{Row, nil, agg, lit, rec, size, base, image, Config, record_on}
use Rattle.model.specs.Tree.{Tree, ◌⊞◌, shown, breadth, width, Node, below, further, node_at, named, place_at, place_of}
use Rattle.model.specs.declared.Place.{Place}
use Rattle.model.specs.Reading.{page_of}
use Rattle.theory_row_bytes.specs.RowAt.{RowAt, FirstNode, first_node, record_row_lem, page_record}
use Rattle.theory_rows.specs.Fits.{Fits, Valid}
use Rattle.theory_rows.specs.Laws.{cond_case, breadth_shown}
use Rattle.theory_rows.specs.Image.{Stored}
use Rattle.theory_decoding.specs.Decode.{stored_image}
use Rattle.theory_places.specs.Order.{node_at_left, node_at_right, lone_root}

-- Some bytes stand 6 bytes past a position, and end in the image.
record ContentAt (img : List ℕ) (pos : ℕ) (c : List ℕ) : Type 0 where
  same : take (length c) (drop (pos + 6) img) ≡ c
  inside : pos + 6 + length c ≤ length img

-- ── what a place says of a node ──

module _ (img : List ℕ) where
  -- A literal at the place of a node has its content behind it.
  abbrev At : Option Node → Option Place → Type 0
  At none y = Unit {0}
  At (some n) none = Unit {0}
  At (some n) (some x) = n.kind ≡ 2 → ContentAt img (page_size * x.page + x.offset) n.content

  at_map : (f : Node → Node) → ((n : Node) → (f n).kind ≡ n.kind) → ((n : Node) → (f n).content ≡ n.content)
      → (o : Option Node) (y : Option Place) → At o y → At (map f o) y
  at_map f k c none y a = tt
  at_map f k c (some n) none a = tt
  at_map f k c (some n) (some x) a = λ e. rw (c n) (a (sym (k n) ∙ e))

  -- a node of two rows joined that is one of the second
  at_right : (i : ℕ) (path : List ℕ) (a b : Tree) (y : Option Place) → breadth a ≤ i → At (node_at (i - breadth a) path b) y
      → At (node_at i path (a ⊞ b)) y
  at_right i path a b y h t =
      rw (node_at_right i path a b h) (at_map (further (breadth a)) (λ _. refl) (λ _. refl) (node_at (i - breadth a) path b) y t)

  -- ── rows ──

  read : (row : Row) (pos : ℕ) → 0 < size row → size row ≤ capacity → RowAt img pos row → FirstNode img pos row
  read row pos h z s = first_node img pos row h (omega arith) s

  row_at_lem : (page at i : ℕ) (path : List ℕ) (row : Row) (pos : ℕ) → pos ≡ page_size * page + at → RowAt img pos row → size row ≤ capacity → Fits row
      → Stored (page_of img) page row → At (node_at i path (shown row)) (place_at page at i path row)
  unfolding place_at
  row_at_lem page at i path nil pos p s z f m = tt
  row_at_lem page at zero [] (agg l cs rest) pos p s z f m = λ k. absurd (omega arith)
  row_at_lem page at zero (j ∷ path) (agg l cs rest) pos p s z f m =
      at_map below (λ _. refl) (λ _. refl) (node_at j path (shown cs)) (place_at page (at + 6) j path cs)
      (row_at_lem page (at + 6) j path cs (pos + 6) (omega arith) (read (agg l cs rest) pos (omega arith) z s).kids (omega arith) f.1 m.0)
  row_at_lem page at (suc i) path (agg l cs rest) pos p s z f m =
      at_map (further 1) (λ _. refl) (λ _. refl) (node_at i path (shown rest)) (place_at page (at + 6 + size cs) i path rest)
      (row_at_lem page (at + 6 + size cs) i path rest (pos + (6 + size cs)) (omega arith) (read (agg l cs rest) pos (omega arith) z s).rest (omega arith) f.2
      m.1)
  row_at_lem page at zero [] (lit l c rest) pos p s z f m = λ k.
      let v = read (lit l c rest) pos (omega arith) z s in
      subst (λ (x : ℕ). ContentAt img x c) p (record { same = v.body_is; inside = omega (arith, v.within) })
  row_at_lem page at zero (j ∷ path) (lit l c rest) pos p s z f m = tt
  row_at_lem page at (suc i) path (lit l c rest) pos p s z f m =
      at_map (further 1) (λ _. refl) (λ _. refl) (node_at i path (shown rest)) (place_at page (at + 6 + length c) i path rest)
      (row_at_lem page (at + 6 + length c) i path rest (pos + (6 + length c)) (omega arith) (read (lit l c rest) pos (omega arith) z s).rest (omega arith)
      f.3 m)
  row_at_lem page at i path (rec q b r rest) pos p s z f m =
      let o = node_at i path (shown r ⊞ shown rest) in
      let under = record_row_lem (page_record img (record_on q b page r) m.0) in
      let within : ltb i (width r) ≡ true → At o (place_at q (base r) i path r) =
      λ h. rw (node_at_left i path (shown r) (shown rest) (rw (breadth_shown r) (ltb-true i (width r) h)))
      (row_at_lem q (base r) i path r (page_size * q + base r) refl under (omega (arith, f.0.fits)) f.1 m.1) in
      let beyond : ltb i (width r) ≡ false → At o (place_at page (at + 8) (i - width r) path rest) =
      λ h. at_right i path (shown r) (shown rest) (place_at page (at + 8) (i - width r) path rest) (rw (breadth_shown r) (ltb-false i (width r) h))
      (rw (breadth_shown r)
      (row_at_lem page (at + 8) (i - width r) path rest (pos + 8) (omega arith) (read (rec q b r rest) pos (omega arith) z s).rest (omega arith) f.2 m.2))
      in
      cond_case (At o) (ltb i (width r)) within beyond

module _ (st : Config) (root : Row) (v : Valid st root) (path : List ℕ) (n : Node) (x : Place)
    (e : named (shown root) path ≡ some n) (f : place_of root path ≡ some x) (k : n.kind ≡ 2) where
  content_behind : ContentAt (image st root) (page_size * x.page + x.offset) n.content
  content_behind =
      let img = image st root in
      let m = stored_image st root v in
      let under = record_row_lem (page_record img (record_on 1 true 0 root) m.0) in
      let start : base root ≡ 0 = rw (lone_root st root v) in
      subst₂ (At img) e f (row_at_lem img 1 0 0 path root (page_size + base root) (omega arith) under (omega (arith, v.rows.0.fits)) v.rows.1 m.1) k

  pub content_at : take (length n.content) (drop (page_size * x.page + x.offset + 6) (image st root)) ≡ n.content
  content_at = content_behind.same

  pub content_inside : page_size * x.page + x.offset + 6 + length n.content ≤ length (image st root)
  content_inside = content_behind.inside
