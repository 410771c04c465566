-- Growth: what an insert makes of a store.
use Rattle.std.specs.Prelude.{Bool, true, false, cond, not, ◌&&◌, ◌||◌, List, ℕ, zero, suc, ◌+◌, ◌*◌, ◌/◌, ◌%◌, length, get_or, leb, ltb, eqb, ℤ, pos}
use Rattle.std.proofs.Math.Option.{Option, none, some}
use Rattle.std.proofs.Math.IntN.{sub_ℕ}
use Rattle.model.specs.Limits.{capacity}
use Rattle.model.specs.Row.{Head, Row, nil, agg, lit, rec, ◌⊹◌, size, is_nil, lone_rec, base, record_size, count, outside, Config}
use Rattle.model.specs.Tree.{New}
use Rattle.model.specs.Spot.{fill, Chain, top, below, last_page, Spot, spot_of}

-- What growth carries along: the pages that are not free, how many records were split, the lean of the first split,
-- and whether a page was taken where none was free.
pub record Work : Type 0 where
  pub used : ℕ → Bool
  pub splits : ℕ
  pub lean : ℤ
  pub full : Bool

-- Nothing used, nothing split.
abbrev pub no_work : Work
no_work = record { used = λ q. false; splits = 0; lean = pos 0; full = false }

abbrev pub Out : Type 0
Out = Row × Work

abbrev pub on_row : (Row → Row) → Out → Out
on_row f o = (f o.0, o.1)

abbrev pub mark : Bool → ℕ → (ℕ → Bool) → (ℕ → Bool)
mark b q used = λ x. cond (eqb x q) b (used x)

-- ── a cut and its separator (step 4) ──

-- A row, the children of a separator node or a record's own, cut along the path down to d. `through`: the nodes left of the path, the next node on the path
-- with the cut of its own children, and those right of it. `at_d`: those left of the path, and d with those right of it.
pub data Cut : Type 0 where
  at_d : (left right : Row) → Cut
  through : (left : Row) → (node : Head) → (inner : Cut) → (right : Row) → Cut

-- Where d starts, if the row starts at `at`.
abbrev pub start_of : (at : ℕ) → Cut → ℕ
start_of at (at_d left right) = at + size left
start_of at (through left h inner right) = start_of (at + size left + 6) inner

-- The separator: the nodes on the path stay. At each of them the children left of the path form one group, those right of it another, in document order;
-- what is put in a group's place, and what is carried along, is given.
unfoldable pub separate : {S : Type 0} → (group : Row → S → Row × S) → Cut → S → Row × S
separate group (at_d left right) s =
    let a = group left s in
    let b = group right a.1 in
    (a.0 ⊹ b.0, b.1)
separate group (through left h inner right) s =
    let a = group left s in
    let b = separate group inner a.1 in
    let c = group right b.1 in
    (a.0 ⊹ agg h b.0 c.0, c.1)

-- What stands for a group: one proxy, or no node, stays; a single other node becomes a record, two or more a record under a helper, which `own` makes.
unfoldable pub grouped : {S : Type 0} → (own : Row → S → Row × S) → Row → S → Row × S
grouped own g s =
    let new = own g s in
    cond (is_nil g || lone_rec g) (g, s) new

-- ── the choice of a child (step 3) ──

-- A later child starts at or before the split point p too: a node of n bytes starts at `at`, and `rest` follows it.
abbrev pub go_on : (p at n : ℕ) → (rest : Row) → Bool
go_on p at n rest = not (is_nil rest) && leb (at + n) p

module _ (st : Config) where
  -- ── pages (step 6) ──

  -- The first free page counting up from q, page 2 following the last; 0 if none of so many tries is free.
  unfoldable pub free_from : (tries : ℕ) → (ℕ → Bool) → (q : ℕ) → ℕ
  free_from zero used q = 0
  free_from (suc k) used q =
      let r = free_from k used (cond (ltb (suc q) st.pages) (suc q) 2) in
      cond (used q) r q

  abbrev pub taken : (q : ℕ) → Work → Work
  taken q w = record { used = mark true q w.used; splits = w.splits; lean = w.lean; full = w.full || eqb q 0 }

  abbrev pub freed : (q : ℕ) → Work → Work
  freed q w = record { used = mark false q w.used; splits = w.splits; lean = w.lean; full = w.full }

  -- A row as a record of its own, on the first free page counting up from `near`; its proxy stands in front of `rest`.
  abbrev pub own_record : (near : ℕ) → (settled : Bool) → (row rest : Row) → Work → Out
  own_record near s r rest w =
      let q = free_from st.pages w.used near in
      (rec q s r rest, taken q w)

  -- ── the split (steps 3 and 4) ──

  -- p: the nearest whole number to target × S / 256, and at an exact half the even one.
  unfoldable pub split_point : (S : ℕ) → ℕ
  split_point S =
      let n = st.target * S in
      let down = n / 256 in
      cond (ltb (n % 256) 128) down (cond (eqb (n % 256) 128) (down + down % 2) (down + 1))

  -- The chosen child, an aggregate with these children, is d: it has none in the record, or its size is below the tolerance.
  abbrev pub stops : (children : Row) → Bool
  stops cs = is_nil cs || ltb (6 + size cs) st.tolerance

  -- The cut of a row from the child at `at` on, those before it being `left`. The path goes through the last child that starts at or before p, or the first,
  -- unless that is d.
  unfoldable pub cut_from : (p at : ℕ) → (left row : Row) → Cut
  cut_from p at left nil = at_d left nil
  cut_from p at left (agg h cs rest) =
      let on = cut_from p (at + (6 + size cs)) (left ⊹ agg h cs nil) rest in
      let down = through left h (cut_from p (at + 6) nil cs) rest in
      cond (go_on p at (6 + size cs) rest) on (cond (stops cs) (at_d left (agg h cs rest)) down)
  cut_from p at left (lit h c rest) =
      let on = cut_from p (at + (6 + length c)) (left ⊹ lit h c nil) rest in
      cond (go_on p at (6 + length c) rest) on (at_d left (lit h c rest))
  cut_from p at left (rec q s r rest) =
      let on = cut_from p (at + 8) (left ⊹ rec q s r nil) rest in
      cond (go_on p at 8 rest) on (at_d left (rec q s r rest))

  -- The cut of a record that is too large. With a helper as root the row is its children, which start at byte 6. An aggregate as root is the row's one node;
  -- it is larger than every tolerance, so the path begins with it.
  abbrev pub cut_of : Row → Cut
  cut_of r = cut_from (split_point (record_size r)) (base r) nil r

  abbrev pub start_of_d : Row → ℕ
  start_of_d r = start_of (base r) (cut_of r)

  -- A group's record takes the first free page counting up from `near`.
  abbrev pub group : (near : ℕ) → Row → Work → Out
  group near = grouped (λ g. own_record near false g nil)

  -- The separator of a record that is too large, with the proxies of its groups; a helper root is dropped.
  unfoldable pub separator : (near : ℕ) → Row → Work → Out
  separator near r w = separate (group near) (cut_of r) w

  -- The lean of a split: the start of d minus p.
  abbrev pub lean_of : Row → ℤ
  lean_of r = sub_ℕ (start_of_d r) (split_point (record_size r))

  -- One split more; the lean is that of the first.
  abbrev pub counted : Row → Work → Work
  counted r w = record {
    used = w.used;
    splits = suc w.splits;
    lean = cond (eqb w.splits 0) (lean_of r) w.lean;
    full = w.full;
  }

  -- ── where the separator goes (step 5) ──

  -- The content of a settled record on page q: if it is too large, the separator replaces it.
  unfoldable pub kept : (q : ℕ) → Out → Out
  kept q o =
      let split = separator q o.0 (counted o.0 o.1) in
      cond (leb (record_size o.0) capacity) o split

  -- What stands where the proxy of a record on page q stood, now that the record has a new row; `rest` follows the proxy.
  -- The separator of an unsettled record takes the proxy's place, and its page is free before the groups are placed.
  unfoldable pub close : (q : ℕ) → (settled : Bool) → (rest : Row) → Out → Out
  close q true rest o = on_row (λ r. rec q true r rest) (kept q o)
  close q false rest o =
      let split = on_row (λ r. r ⊹ rest) (separator q o.0 (freed q (counted o.0 o.1))) in
      cond (leb (record_size o.0) capacity) (on_row (λ r. rec q false r rest) o) split

  -- ── the new node (step 2) ──

  abbrev pub class : (label : ℕ) → ℕ
  class l = cond (ltb l 15) l 15

  abbrev pub apart : (parent child : Head) → Bool
  apart parent child = eqb (get_or st.matrix (16 * class parent.label + class child.label) 2) 0

  abbrev pub as_row : New → (rest : Row) → Row
  as_row x rest = cond (eqb x.kind 1) (agg x.head nil rest) (lit x.head x.content rest)

  module _ (x : New) where
    -- The new node in front of `rest`, in the record of `page`, under the logical parent; apart, it gets a settled record first.
    abbrev pub place : (parent : Head) → (page : ℕ) → (rest : Row) → Work → Out
    place parent page rest w =
        let own = own_record page true (as_row x nil) rest w in
        cond (apart parent x.head) own (as_row x rest, w)

  -- ── from the record that takes it upwards (steps 3 to 6) ──

  -- The last record of a chain has a new row: it is closed into the row of the record above, and so on up to the root record, which is settled, on page 1.
  unfoldable pub rise : Chain → Out → Out
  rise top o = kept 1 o
  rise (below c s q b rest) o = rise c (on_row (fill s) (close q b rest o))

  -- ── an insert ──

  module _ (x : New) where
    -- Step 2 at a spot: the row of the record that takes the new node, with it.
    abbrev pub received : Spot → Work → Out
    received t w = on_row (fill t.position) (place x t.parent (last_page t.chain) t.rest w)

    -- Steps 2 to 6 from a spot.
    abbrev pub risen : Spot → Work → Out
    risen t w = rise t.chain (received t w)

  abbrev pub at_rest : (root : Row) → Work
  at_rest root = record { used = λ q. outside st.pages q || ltb 0 (count q root); splits = 0; lean = pos 0; full = false }

  abbrev pub from_spot : New → (root : Row) → Option Spot → Out
  from_spot x root none = (root, at_rest root)
  from_spot x root (some t) = risen x t (at_rest root)

  -- An insert: step 1 gives the spot, steps 2 to 6 go up from it. The new root record, and what growth carried along.
  unfoldable pub grow : (root : Row) → (path : List ℕ) → (k : ℕ) → New → Out
  grow root path k x = from_spot x root (spot_of root path k)
