-- The spot that the code chooses is step 1's.
use Rattle.std.specs.Prelude.{Option as Found, Some, None, ◌≡◌, refl, Bool, true, false, List, [], ℕ, zero, suc, ◌*◌, ◌-◌, ◌/◌, ◌≤◌, ltb}
use Rattle.std.proofs.Common.{sym, ap, subst, ◌∙◌, arith, lt-ltb, le-ltb, ltb-true, ltb-false}
use Rattle.std.proofs.Math.Option.{Option, none, some, some-injective, none-ne-some}
use Rattle.model.specs.Limits.{page_size, capacity}
use Rattle.model.specs.Row.{Head, Row, ◌⊹◌, record_size, Config}
use Rattle.model.specs.Reading.{Reads, used_at}
use Rattle.model.specs.Spot.{Position, fill, into, Chain, last_page, Spot, whole, Stand, stand_in}
use Rattle.model.specs.Spot.{spot_after, spot_before, unused, spot_beside, spot_first, spot_child}
use Rattle.theory_growth.specs.Chain.{both, fill_past}
use Rattle.theory_growth.specs.Stand.{not_alone_into, root_of, stood_in}
use Rattle.theory_insert_point.specs.Bytes.{chain_page, chain_fill}
use Rattle.grow_locate.specs.declared.Located.{Located}
use Rattle.grow_locate.specs.declared.Receiver.{Receiver}
use Rattle.grow_locate.specs.declared.Span.{Span}
use Rattle.grow_locate.specs.Seek.{seek_span}
use Rattle.grow_locate.specs.Choose.{used_around, right_wins, sight_at, sight_after, sight_before, sight_beside, sight_first, sight_child}
use Rattle.grow_locate.specs.Parent.{Goes, Stands, IsStand, stand_hits, Sights, after_sights, before_sights}

-- Fewer bytes used are more unused.
fewer_used : (a b n : ℕ) → a ≤ n → b ≤ n → ltb b a ≡ ltb (n - a) (n - b)
fewer_used a b n h k = go (ltb b a) refl
  where
    go : (u : Bool) → ltb b a ≡ u → u ≡ ltb (n - a) (n - b)
    go true e = sym (lt-ltb (n - a) (n - b) (omega (arith, ltb-true b a e)))
    go false e = sym (le-ltb (n - a) (n - b) (omega (arith, ltb-false b a e)))

module _ {img : List ℕ} {st : Config} {root : Row} (reads : Reads img st root) where
  -- The record in which a node stands, and the length that it uses.
  abbrev around_it : Stand → Row
  around_it n = fill n.position (n.node ⊹ n.rest)

  used_there : (l : Located) (n : Stand) → Stands l n → root_of n ≡ root
      → (used_around img l.at ≡ record_size (around_it n)) × (record_size (around_it n) ≤ capacity)
  used_there l n s e =
      let v = chain_page img st root reads n.chain (around_it n) e in
      let h = chain_fill img st root reads n.chain n.position (n.node ⊹ n.rest) e in
      let p : l.at / page_size ≡ last_page n.chain = omega (arith, s.goes.at, h.room) in
      (ap (λ (q : ℕ). used_at img (page_size * q)) p ∙ v.used, v.fits)

  -- The code's comparison is that of the unused bytes.
  wins_more : (h : Head) (x y : Located) (l r : Stand) → Stands x l → Stands y r → root_of l ≡ root → root_of r ≡ root
      → right_wins img x y ≡ ltb (unused (spot_after h l)) (unused (spot_before h r))
  wins_more h x y l r a b c d =
      let u = used_there x l a c in
      let v = used_there y r b d in
      rw (u.0, v.0, fill_past l.position l.node l.rest)
      (fewer_used (record_size (around_it l)) (record_size (around_it r)) capacity u.1 v.1)

  beside_sights : (h : Head) (x y : Found Located) (lo ro : Option Stand) (t : Spot) → IsStand x lo → IsStand y ro
      → ((n : Stand) → lo ≡ some n → root_of n ≡ root) → ((n : Stand) → ro ≡ some n → root_of n ≡ root) → spot_beside h lo ro ≡ some t
      → Sights h (sight_beside img x y) t
  beside_sights h x y none ro t a b c d e = absurd (none-ne-some t e)
  beside_sights h None y (some l) ro t a b c d e = absurd a
  beside_sights h (Some x) None (some l) none t a b c d e =
      subst (Sights h (Some (sight_after x))) (some-injective (spot_after h l) t e) (after_sights h x l a)
  beside_sights h (Some x) (Some y) (some l) none t a b c d e = absurd b
  beside_sights h (Some x) None (some l) (some r) t a b c d e = absurd b
  beside_sights h (Some x) (Some y) (some l) (some r) t a b c d e =
      let z = wins_more h x y l r a b (c l refl) (d r refl) in
      subst (Sights h (sight_beside img (Some x) (Some y))) (some-injective _ t e)
      (rw z (both (λ (s : Receiver) (t : Spot). Sights h (Some s) t) (ltb (unused (spot_after h l)) (unused (spot_before h r))) (λ _. before_sights h y r b)
      (λ _. after_sights h x l a)))

  first_sights : (own : Spot) (span : Span) (y : Found Located) (ro : Option Stand) (t : Spot) → IsStand y ro
      → Goes own.chain own.position own.rest span.pos span.par span.deep → spot_first own ro ≡ t → Sights own.parent (Some (sight_first span y)) t
  first_sights own span None none t b g e =
      subst (Sights own.parent (Some (sight_at span.pos span.par span.deep))) e
      (record { pos = span.pos; par = span.par; deep = span.deep; is = refl; goes = g; parent = refl })
  first_sights own span (Some y) none t b g e = absurd b
  first_sights own span None (some r) t b g e = absurd b
  first_sights own span (Some y) (some r) t b g e = subst (Sights own.parent (Some (sight_before y))) e (before_sights own.parent y r b)

  -- Of a child of the aggregate whose children are the span.
  pub child_sights : (h : Head) (c : Chain) (s : Position) (rest : Row) (k : ℕ) (row : Row) (t : Spot) (span : Span) → whole c (fill (into s h rest) row) ≡ root
      → Goes c (into s h rest) row span.pos span.par span.deep → spot_child h c (into s h rest) k row ≡ some t → Sights h (sight_child img span row k) t
  child_sights h c s rest zero row t span w g e =
      first_sights (record { chain = c; position = into s h rest; rest = row; parent = h }) span (seek_span span row 0) (stand_in c (into s h rest) 0 [] row) t
      (stand_hits c (into s h rest) 0 row g) g (some-injective _ t e)
  child_sights h c s rest (suc i) row t span w g e =
      let held : (j : ℕ) (n : Stand) → stand_in c (into s h rest) j [] row ≡ some n → root_of n ≡ root =
      λ j n f. (stood_in n c (into s h rest) j [] row f (not_alone_into s h rest row)).held ∙ w in
      beside_sights h (seek_span span row i) (seek_span span row (suc i)) (stand_in c (into s h rest) i [] row) (stand_in c (into s h rest) (suc i) [] row) t
      (stand_hits c (into s h rest) i row g) (stand_hits c (into s h rest) (suc i) row g) (held i) (held (suc i)) e
