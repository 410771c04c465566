-- A node as bytes of the image, one that stands in the records and a new one, and the node that holds it.
use Rattle.std.specs.Prelude.{Option as Found, Some, None}
use Rattle.std.specs.Prelude.{◌≡◌, refl, [], ℕ, zero, suc, ◌+◌, ◌*◌, ◌-◌, length, ltb}
use Rattle.std.proofs.Common.{sym, ap, ◌∙◌, arith}
use Rattle.std.proofs.Math.Bool.{and-true}
use Rattle.std.proofs.Math.Option.{Option, none, some}
use Rattle.model.specs.Limits.{page_size}
use Rattle.model.specs.Row.{Head, Row, nil, agg, lit, rec, ◌⊹◌, size, lone, base}
use Rattle.model.specs.Tree.{width}
use Rattle.model.specs.Spot.{Position, here, inside, fill, past, into, Chain, below, last_page, Stand, stand_in, Spot, spot_after, spot_before}
use Rattle.theory_growth.specs.Chain.{both, before, fill_past, fill_into, offset_in, offset_past, hang, hang_past}
use Rattle.grow_splice.specs.Position.{at, parent}
use Rattle.grow_locate.specs.declared.Located.{Located}
use Rattle.grow_locate.specs.declared.Receiver.{Receiver}
use Rattle.grow_locate.specs.Seek.{seek_of}
use Rattle.grow_locate.specs.Choose.{sight_at, sight_after, sight_before}

-- ── offsets in a record ──

parent_past : (s : Position) (more : Row) (outer pos : ℕ) → parent outer pos (past s more) ≡ parent outer pos s
parent_past (here left) more outer pos = refl
parent_past (inside left h rest s) more outer pos = parent_past s more (pos + size left) (pos + size left + 6)

parent_into : (s : Position) (h : Head) (rest : Row) (outer pos : ℕ) → parent outer pos (into s h rest) ≡ pos + before s
parent_into (here left) h rest outer pos = refl
parent_into (inside left g right s) h rest outer pos = omega (arith, parent_into s h rest (pos + size left) (pos + size left + 6))

-- The two ways to count the bytes before a position.
pub at_before : (s : Position) (pos : ℕ) → at pos s ≡ pos + before s
at_before (here left) pos = refl
at_before (inside left h rest s) pos = omega (arith, at_before s (pos + size left + 6))

-- Of what fills a position of a record: the offset in the page of the node that holds it, 0 if the record does not.
abbrev pub holder_in : Position → (x : Row) → ℕ
holder_in s x = parent 0 (base (fill s x)) s

pub holder_into : (s : Position) (h : Head) (rest x : Row) → holder_in (into s h rest) x ≡ offset_in s (agg h x rest)
holder_into s h rest x = parent_into s h rest 0 _ ∙ ap (λ (r : Row). base r + before s) (fill_into s h rest x)

-- A row that goes on at position s of the last record of c is at the byte pos, and the node that holds it at the offset par; `deep` records
-- show it.
pub record Goes (c : Chain) (s : Position) (row : Row) (pos par deep : ℕ) : Type 0 where
  pub at : pos ≡ page_size * last_page c + offset_in s row
  pub holder : par ≡ holder_in s row
  pub hangs : deep ≡ hang c s

go_past : (c : Chain) (s : Position) (one rest : Row) (n : ℕ) {pos par deep : ℕ} → size one ≡ n → Goes c s (one ⊹ rest) pos par deep
    → Goes c (past s one) rest (pos + n) par deep
go_past c s one rest n e g = record {
  hangs = g.hangs ∙ sym (hang_past c s one);
  at = omega (arith, g.at, offset_past s one rest n e);
  holder = g.holder ∙ sym (parent_past s one 0 _ ∙ ap (λ (r : Row). parent 0 (base r) s) (fill_past s one rest));
}

-- ── a node that stands there ──

-- What the code finds for it.
pub record Stands (l : Located) (t : Stand) : Type 0 where
  pub goes : Goes t.chain t.position (t.node ⊹ t.rest) l.at l.par l.deep
  pub ends : l.past ≡ l.at + size t.node

abbrev pub IsStand : Found Located → Option Stand → Type 0
IsStand None none = Unit {0}
IsStand None (some t) = ⊥
IsStand (Some l) none = ⊥
IsStand (Some l) (some t) = Stands l t

-- Node i of a row stands where the code finds it.
pub stand_hits : (c : Chain) (s : Position) (i : ℕ) (row : Row) {pos par deep : ℕ} → Goes c s row pos par deep
    → IsStand (seek_of pos par deep row i) (stand_in c s i [] row)
unfolding seek_of stand_in
stand_hits c s i nil g = tt
stand_hits c s zero (agg h cs rest) g = record { goes = g; ends = omega arith }
stand_hits c s (suc i) (agg h cs rest) g = stand_hits c _ i rest (go_past c s (agg h cs nil) rest (6 + size cs) (omega arith) g)
stand_hits c s zero (lit h x rest) g = record { goes = g; ends = omega arith }
stand_hits c s (suc i) (lit h x rest) g = stand_hits c _ i rest (go_past c s (lit h x nil) rest (6 + length x) (omega arith) g)
stand_hits c s i (rec q b r rest) g =
    both IsStand (ltb i (width r))
    (λ _. rw (and-true (lone r))
    (both IsStand (lone r) (λ _. record { goes = g; ends = omega arith })
    (λ _. stand_hits (below c s q b rest) (here nil) i r (record { at = omega arith; holder = refl; hangs = omega (arith, g.hangs) }))))
    (λ _. stand_hits c _ (i - width r) rest (go_past c s (rec q b r nil) rest 8 (omega arith) g))

-- ── a new node ──

-- The code aims at the spot.
pub record Sights (h : Head) (s : Found Receiver) (t : Spot) : Type 0 where
  pub pos : ℕ
  pub par : ℕ
  pub deep : ℕ
  pub is : s ≡ Some (sight_at pos par deep)
  pub goes : Goes t.chain t.position t.rest pos par deep
  pub parent : t.parent ≡ h

-- After a node that stands there, and before it.
pub after_sights : (h : Head) (l : Located) (n : Stand) → Stands l n → Sights h (Some (sight_after l)) (spot_after h n)
after_sights h l n s = record {
  pos = l.past;
  par = l.par;
  deep = l.deep;
  is = refl;
  goes = rw s.ends (go_past n.chain n.position n.node n.rest (size n.node) refl s.goes);
  parent = refl;
}

pub before_sights : (h : Head) (l : Located) (n : Stand) → Stands l n → Sights h (Some (sight_before l)) (spot_before h n)
before_sights h l n s = record { pos = l.at; par = l.par; deep = l.deep; is = refl; goes = s.goes; parent = refl }
