-- A proxy that names another page: two bytes of the record that holds it.
use Rattle.std.specs.Prelude.{◌≡◌, Bool, take, drop}
use Rattle.std.proofs.Math.Path.{refl, ap}
use Rattle.std.proofs.Common.{sym, ap₂, ◌∙◌, arith}
use Rattle.std.proofs.Math.Bool.{true, false, cond}
use mathlib.Core.List.{List, [], ◌++◌, append_assoc}
use Prim.Native.Nat.{ℕ, ◌+◌, ◌-◌, ◌*◌, ◌≤◌, ◌<◌}
use Rattle.std.proofs.Math.ListN.{length, replicate, length-append}
use Rattle.model.specs.Limits.{page_size, capacity}
use Rattle.model.specs.Row.{Row, rec, size, lone, base, record_size, two, header, bytes, trailer, record_page, record_on, count, no_head}
use Rattle.model.specs.Reading.{page_of, used_at}
use Rattle.model.specs.Spot.{Position, fill}
use Rattle.theory_layout.specs.Here.{PageIn}
use Rattle.theory_page_memory.specs.Around.{proxy_lone, proxy_long}
use Rattle.base_numbers.specs.Over.{over, over_right, over_left, over_all}
use Rattle.grow_splice.specs.Position.{at, before, beyond, at_in, size_around, bytes_fill, length_before}
use Rattle.grow_replace_proxy.specs.Seek.{NamesOnce}
use Rattle.grow_replace_proxy.specs.Lift.{page_used, page_part}

-- The record on page `holder` names `page` one time, by a proxy at the position.
pub record Renaming (img : List ℕ) (holder page : ℕ) : Type 0 where
  pub position : Position
  pub settled : Bool
  pub old : Row
  pub rest : Row
  pub above : Bool
  pub up : ℕ
  pub on : PageIn img holder
  pub is : page_of img holder ≡ record_page (record_on holder above up (fill position (rec page settled old rest)))
  pub small : record_size (fill position (rec page settled old rest)) ≤ capacity
  pub once : count page (fill position (rec page settled old rest)) ≡ 1
  pub names : (q : ℕ) → 1 ≤ count q (fill position (rec page settled old rest)) → q < 65536

-- Where the proxy starts in the record.
abbrev pub proxy_offset : {img : List ℕ} {holder page : ℕ} → Renaming img holder page → ℕ
proxy_offset {img} {holder} {page} w = at (base (fill w.position (rec page w.settled w.old w.rest))) w.position

module _ {img : List ℕ} {holder page : ℕ} (w : Renaming img holder page) where
  abbrev row : Row
  row = fill w.position (rec page w.settled w.old w.rest)

  pub used : used_at img (page_size * holder) ≡ record_size row
  used = page_used img (record_on holder w.above w.up row) w.is w.small

  -- The proxy stands within the record.
  pub proxy_within : proxy_offset w + 8 ≤ capacity
  proxy_within = omega (arith, w.small, at_in w.position (base row), size_around w.position (rec page w.settled w.old w.rest))

  -- What `proxy_in` requires.
  abbrev pub names_once : (n : ℕ) → n ≡ used_at img (page_size * holder)
      → NamesOnce (take (page_size * holder + n - page_size * holder) (drop (page_size * holder) img)) page
  names_once n e = record {
    position = w.position;
    settled = w.settled;
    old = w.old;
    rest = w.rest;
    is = page_part img (record_on holder w.above w.up row) w.is w.small n e;
    small = w.small;
    once = w.once;
    names = w.names;
  }

-- ── its bytes ──

over_two : (a b : List ℕ) (q k n : ℕ) → n ≡ length a → over n (two k) (a ++ (two q ++ b)) ≡ a ++ (two k ++ b)
over_two a b q k n e =
    over_right n 0 (two k) a (two q ++ b) (omega arith)
    ∙ ap (λ (z : List ℕ). a ++ z) (over_left 0 (two k) (two q) b (omega arith) ∙ ap (λ (z : List ℕ). z ++ b) (over_all (two k) (two q) refl))

module _ (p u : ℕ) (t : Bool) (s : Position) (rest : Row) where
  -- A record's page around the two bytes of a proxy: `l` and `n` tell whether the record has one node, and its row's size.
  front : (l : Bool) (n : ℕ) → List ℕ
  front l n = cond l [] (header 4 no_head (6 + n)) ++ (before s (8 + size rest) ++ header 3 no_head 8)

  back : (l : Bool) (n : ℕ) → List ℕ
  back l n = bytes rest ++ (beyond s ++ (replicate (capacity - (cond l 0 6 + n)) 0 ++ trailer 1 (cond t 1 0) (cond l 0 6 + n) u))

  root_first : (l : Bool) (n : ℕ) (x : List ℕ) → cond l x (header 4 no_head (6 + n) ++ x) ≡ cond l [] (header 4 no_head (6 + n)) ++ x
  root_first true n x = refl
  root_first false n x = refl

  page_shape : (q : ℕ) (b : Bool) (x : Row) → let r = fill s (rec q b x rest) in
      record_page (record_on p t u r) ≡ front (lone r) (size r) ++ (two q ++ back (lone r) (size r))
  unfolding front back
  page_shape q b x =
      let r = fill s (rec q b x rest) in
      let z : List ℕ = replicate (capacity - record_size r) 0 in
      let e : List ℕ = trailer 1 (cond t 1 0) (record_size r) u in
      ap (λ (y : List ℕ). y ++ z ++ e) (root_first (lone r) (size r) (bytes r))
      ∙ ap (λ (y : List ℕ). (cond (lone r) [] (header 4 no_head (6 + size r)) ++ y) ++ z ++ e) (bytes_fill s (rec q b x rest))
      ∙ simp append_assoc

  front_length : (l : Bool) (n : ℕ) → length (front l n) ≡ at (cond l 0 6) s + 6
  unfolding front
  front_length l n = simp length-append (omega (arith, root_length l, length_before (cond l 0 6) (8 + size rest) s))
    where
      root_length : (l : Bool) → length (cond l [] (header 4 no_head (6 + n))) ≡ cond l 0 6
      root_length true = refl
      root_length false = refl

  -- The record with the proxy's name replaced.
  pub renamed : (q k : ℕ) (b c : Bool) (x y : Row) → let r = fill s (rec q b x rest) in
      over (at (base r) s + 6) (two k) (record_page (record_on p t u r)) ≡ record_page (record_on p t u (fill s (rec k c y rest)))
  renamed q k b c x y =
      let r = fill s (rec q b x rest) in
      let l = lone r in
      let n = size r in
      ap (over (at (base r) s + 6) (two k)) (page_shape q b x)
      ∙ over_two (front l n) (back l n) q k (at (base r) s + 6) (sym (front_length l n))
      ∙ ap₂ (λ (l : Bool) (n : ℕ). front l n ++ (two k ++ back l n)) (proxy_lone q k b c x y rest s) (proxy_long q k b c x y rest s)
      ∙ sym (page_shape k c y)
