-- Growth from any spot names each page at most one time: what it carries along as used is what the rows name.
use Rattle.std.specs.Prelude.{◌≡◌, false, ℕ, ◌+◌, ◌≤◌}
use Rattle.std.proofs.Common.{ap, arith}
use Rattle.model.specs.Row.{Row, nil, rec, count, outside, Config}
use Rattle.model.specs.Tree.{New}
use Rattle.model.specs.Spot.{fill, Chain, top, below, last_page, Spot, whole}
use Rattle.model.specs.Growth.{Out, on_row, close, place, rise, received, risen, at_rest}
use Rattle.theory_rows.specs.Pages.{bit, Tally, Tallies, tally_kept, tally_close, tally_place, reserved, tally_rest, names}
use Rattle.theory_rows.specs.Fits.{Placed}
use Rattle.theory_rows.specs.Laws.{cond_case}
use Rattle.theory_growth.specs.Chain.{both, whole_of, count_refill, beside, along, count_chain}

module _ (st : Config) where
  tally_rise : (e : ℕ → ℕ) (c : Chain) (o : Out) → Tally e (names (whole c o.0)) o.1 → Tallies st e (rise st c o)
  unfolding rise
  tally_rise e top o t = tally_kept st e 1 o t
  tally_rise e (below c s k b rest) o t =
      let u = close st k b rest o in
      let old : Row = rec k b o.0 rest in
      let v = tally_close st (λ q. e q + (beside c q + along c q) + count q (fill s nil)) k b rest o
      (λ full q. omega (arith, t full q, count_chain q c (fill s old), count_refill q s nil old)) in
      tally_rise e c (on_row (fill s) u) (λ full q. omega (arith, v full q, count_chain q c (fill s u.0), count_refill q s nil u.0))

  module _ (x : New) (t : Spot) (root : Row) (e : whole_of t ≡ root) (h : Placed st.pages root) where
    pub tally_risen : Tallies st (reserved st) (risen st x t (at_rest st root))
    tally_risen =
        let c = t.chain in
        let s = t.position in
        let w = at_rest st root in
        let others : ℕ → ℕ = λ q. reserved st q + beside c q + along c q + count q (fill s nil) in
        let start : Tally others (names t.rest) w =
        λ full q. omega (arith, tally_rest st root h full q, ap (count q) e, count_chain q c (fill s t.rest), count_refill q s nil t.rest) in
        let v = tally_place st x others t.parent (last_page c) t.rest w start in
        let o = place st x t.parent (last_page c) t.rest w in
        tally_rise (reserved st) c (received st x t w)
        (λ full q. omega (arith, v full q, count_chain q c (fill s o.0), count_refill q s nil o.0))

    -- Growth names each page at most one time, and none outside.
    pub placed_risen : (risen st x t (at_rest st root)).1.full ≡ false → Placed st.pages (risen st x t (at_rest st root)).0
    placed_risen full q =
        let o = risen st x t (at_rest st root) in
        let n = count q o.0 in
        let once : bit (o.1.used q) ≤ 1 = cond_case (λ (m : ℕ). m ≤ 1) (o.1.used q) (λ _. omega arith) (λ _. omega arith) in
        both (λ (m k : ℕ). m + n ≤ 1 → n ≤ k) (outside st.pages q) {x = 1} {y = 0} {a = 0} {b = 1} (λ _ e. omega arith) (λ _ e. omega arith)
        (omega (arith, tally_risen full q))
