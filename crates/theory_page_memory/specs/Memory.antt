-- What the page writes of an insert make of a memory, which has the bytes of each page.
use Rattle.std.specs.Prelude.{Bool, true, false, cond, ◌||◌, List, ◌++◌, ℕ, take, drop, replicate, leb, eqb}
use Rattle.model.specs.Limits.{page_size, capacity}
use Rattle.model.specs.Tree.{New}
use Rattle.model.specs.Row.{Head, Row, nil, agg, lit, rec, ◌⊹◌, record_size, two, record_page, Config, record_on}
use Rattle.model.specs.Growth.{Work, separate, cut_of, free_from, taken, grouped, separator, counted, freed, apart, as_row}
use Rattle.model.specs.Spot.{fill, Chain, top, below, last_page}

abbrev pub Mem : Type 0
Mem = ℕ → List ℕ

-- What growth carries along, with the pages, and a row beside it.
abbrev pub WorkMem : Type 0
WorkMem = Work × Mem

abbrev pub OutMem : Type 0
OutMem = Row × WorkMem

-- A free page.
abbrev pub blank : List ℕ
blank = replicate page_size 0

-- ── one write ──

-- Page q replaced.
abbrev pub set_mem : (q : ℕ) → (page : List ℕ) → Mem → Mem
set_mem q s m = λ p. cond (eqb p q) s (m p)

-- A page with another holder.
abbrev pub relink : (q : ℕ) → (page : List ℕ) → List ℕ
relink q s = take 4084 s ++ (two q ++ drop 4086 s)

-- Each record whose proxy stands in the row itself gets the holder q.
unfoldable pub link_mem : (q : ℕ) → Row → Mem → Mem
link_mem q nil m = m
link_mem q (agg h cs rest) m = link_mem q rest (link_mem q cs m)
link_mem q (lit h c rest) m = link_mem q rest m
link_mem q (rec p s r rest) m = link_mem q rest (set_mem p (relink q (m p)) m)

-- A record written on page q, and the back links of the records that it holds.
abbrev pub put_mem : (q : ℕ) → (settled : Bool) → (holder : ℕ) → Row → Mem → Mem
put_mem q s h r m = link_mem q r (set_mem q (record_page (record_on q s h r)) m)

-- ── the split ──

module _ (st : Config) where
  -- The model's group with its page writes: its record has holder 0, since its holder is known when the record above is written.
  abbrev pub own_mem : (near : ℕ) → Row → WorkMem → OutMem
  own_mem near g s =
      let q = free_from st st.pages s.0.used near in
      (rec q false g nil, (taken st q s.0, put_mem q false 0 g s.1))

  abbrev pub group_m : (near : ℕ) → Row → WorkMem → OutMem
  group_m near = grouped (own_mem near)

  unfoldable pub separator_mem : (near : ℕ) → Row → Work → Mem → Mem
  separator_mem near r w m = (separate (group_m near) (cut_of st r) (w, m)).1.1

  -- The model's separator with its page writes.
  abbrev pub separator_m : (near : ℕ) → Row → WorkMem → OutMem
  separator_m near r s = let o = separator st near r s.0 in (o.0, (o.1, separator_mem near r s.0 s.1))

  -- ── from the last record of a chain upwards ──

  -- A record that stays on its page q, with holder h: its row, or the separator of its row, is written there, and growth stops.
  unfoldable pub kept_mem : (q : ℕ) → (settled : Bool) → (h : ℕ) → Row → Work → Mem → Mem
  kept_mem q s h r w m =
      let split = put_mem q s h (separator st q r (counted st r w)).0 (separator_mem q r (counted st r w) m) in
      cond (leb (record_size r) capacity) (put_mem q s h r m) split

  -- The last record of the chain has a new row. An unsettled record that is too large leaves its page, before the groups are placed,
  -- and the record above goes on, with the separator in place of the proxy.
  unfoldable pub rise_mem : Chain → Row → Work → Mem → Mem
  rise_mem top r w m = kept_mem 1 true 0 r w m
  rise_mem (below c s q b rest) r w m =
      let stay = kept_mem q b (last_page c) r w m in
      let sep = separator st q r (freed st q (counted st r w)) in
      let up = rise_mem c (fill s (sep.0 ⊹ rest)) sep.1 (separator_mem q r (freed st q (counted st r w)) (set_mem q blank m)) in
      cond (b || leb (record_size r) capacity) stay up

  -- ── the new node ──

  -- The new node's own record, if it stands apart, in the record of `page`.
  abbrev pub place_mem : New → (parent : Head) → (page : ℕ) → Work → Mem → Mem
  place_mem x parent page w m =
      let own = put_mem (free_from st st.pages w.used page) true page (as_row st x nil) m in
      cond (apart st parent x.head) own m
