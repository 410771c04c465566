-- The search along a row of an image for the node that holds an item, and down to the item.
use Rattle.std.specs.Prelude.{◌≡◌, refl, Bool, true, false, eqb, ℕ, suc, ◌+◌, ◌*◌, ◌-◌, ◌≤◌, ◌<◌, get_or, take}
use Rattle.std.proofs.Common.{sym, subst, ◌∙◌, eqb-true, drop_at, length-take-le}
use Rattle.std.proofs.lemmas.Bool.{eqb-false}
use Rattle.std.proofs.Math.Path.{ap}
use mathlib.Core.List.{List, [], ◌∷◌, ◌++◌}
use native.Mathlib.Omega.{arith}
use Rattle.std.proofs.Math.ListN.{length, drop}
use Rattle.model.specs.Limits.{most_bytes, longest_path}
use Rattle.model.specs.Row.{Row, nil, agg, lit, rec, size}
use Rattle.model.specs.Tree.{width}
use Rattle.model.specs.Reading.{size_at, name_at, kind_at}
use Rattle.model.specs.Common.{four, path_bytes}
use Rattle.theory_decoding.specs.Steps.{steps}
use Rattle.base_numbers.specs.Over.{over, over_is, length_over}
use Rattle.theory_row_bytes.specs.RowAt.{size_of, rest_of}
use Rattle.theory_layout.specs.Here.{parts_less, PageIn, Here, View, view}
use Rattle.theory_layout.specs.Widths.{Widths, first_width, plain_width}
use Rattle.theory_layout.specs.Items.{Item}
use Rattle.theory_layout.specs.Order as order
use Rattle.read_find.specs.Rowed.{width_steps}
use Rattle.read_find.specs.Shown.{shown_at, Counts, shown_proxy, shown_plain}
use Rattle.read_climb.specs.Route.{Has, agg_here, agg_in, agg_past, lit_here, lit_past, rec_here, rec_past, spot, before, number, way, has_low}
use Rattle.read_climb.specs.Route.{spot_low, has_past, has_first}

-- ── a node of the row ──

-- A row that is not empty stands at byte i.
pub record SomeRowAt (img : List ℕ) (i : ℕ) : Type 0 where
  pub page : ℕ
  pub row : Row
  pub here : Here img page i row
  pub some : 6 ≤ size row
  pub few : steps row ≤ most_bytes

pub header_inside : (img : List ℕ) (i : ℕ) → SomeRowAt img i → (i + 6 ≤ length img) × (i < most_bytes)
header_inside img i w =
    let h = w.here in
    let p = h.on in
    omega (arith, w.some, h.room)

pub header_long : (img : List ℕ) (i : ℕ) → SomeRowAt img i → 6 ≤ size_at img i
header_long img i w = let v = view w.here (omega (arith, w.some)) in omega (arith, v.size_is, v.more)

pub plain : (img : List ℕ) (i : ℕ) (w : SomeRowAt img i) → (kind_at img i ≡ 3 → ⊥) → 1 ≡ first_width w.row
plain img i w k =
    let h : 0 < size w.row = omega (arith, w.some) in
    sym (plain_width w.row h (λ e. k ((view w.here h).kind_is ∙ e)))

-- A proxy: the page that it names, and how many nodes the table has for it.
pub record RecordTold (img : List ℕ) (p n : ℕ) : Type 0 where
  pub on : PageIn img p
  pub few : n ≤ most_bytes
  pub told : (c : List ℕ) → Widths img c → get_or c p 0 ≡ n

pub record_told : (img : List ℕ) (i p : ℕ) (w : SomeRowAt img i) → p ≡ name_at img i → kind_at img i ≡ 3 → RecordTold img p (first_width w.row)
record_told img i p w named k = go w.row w.here w.some w.few
  where
    go : (row : Row) → Here img w.page i row → 6 ≤ size row → steps row ≤ most_bytes → RecordTold img p (first_width row)
    go nil h n f = absurd (omega arith)
    go (agg l cs rest) h n f = absurd (omega (arith, (view h (omega arith)).kind_is))
    go (lit l c rest) h n f = absurd (omega (arith, (view h (omega arith)).kind_is))
    go (rec q s r rest) h n f =
        let v = view h (omega arith) in
        let same : p ≡ q = named ∙ v.name_is refl in
        record {
          on = subst (PageIn img) (sym same) v.under.here.on;
          few = omega (arith, width_steps r);
          told = λ c t. ap (λ (m : ℕ). get_or c m 0) same ∙ t.told q w.page r h.on.low v.under;
        }

module _ (img : List ℕ) (i : ℕ) (w : SomeRowAt img i) (c : List ℕ) (table : Widths img c) where
  -- The table counts what the first node shows.
  pub counts : Counts img c i
  counts =
      let h = w.here in
      let p = h.on in
      record {
        inside = omega (arith, w.some, h.room);
        named = λ k.
            let t = record_told img i (name_at img i) w refl k in
            (omega (arith, w.some, h.room), omega (arith, t.on.inside, table.long));
      }

  pub shows : shown_at img c i ≡ first_width w.row
  shows = go (eqb (kind_at img i) 3) refl
    where
      go : (b : Bool) → eqb (kind_at img i) 3 ≡ b → shown_at img c i ≡ first_width w.row
      go true e =
          let k = eqb-true (kind_at img i) 3 e in
          shown_proxy img c i (name_at img i) k refl ∙ (record_told img i (name_at img i) w refl k).told c table
      go false e = let k = eqb-false (kind_at img i) 3 e in shown_plain img c i k ∙ plain img i w k

-- ── along the row ──

-- A row stands at pos, and an item of its record that starts at byte target is in it.
pub record Search (img : List ℕ) (pos target : ℕ) : Type 0 where
  pub page : ℕ
  pub row : Row
  pub here : Here img page pos row
  pub item : Item
  pub starts : order.at item ≡ target
  pub has : Has item pos row
  pub few : steps row ≤ most_bytes

pub has_some : {item : Item} (pos : ℕ) (row : Row) → Has item pos row → 6 ≤ size row
has_some {item = item} pos nil h = elim h [ ]
has_some pos (agg l cs rest) h = omega arith
has_some pos (lit l c rest) h = omega arith
has_some pos (rec p s r rest) h = omega arith

abbrev pub standing : (img : List ℕ) (pos target : ℕ) → Search img pos target → SomeRowAt img pos
standing img pos target w = record { page = w.page; row = w.row; here = w.here; some = has_some pos w.row w.has; few = w.few }

-- The search goes on past the first node, to byte i + n,
pub record Turned (img : List ℕ) (i n target : ℕ) (at passed fst : ℕ) : Type 0 where
  pub more : 6 ≤ n
  pub after : Search img (i + n) target
  pub same : spot after.has ≡ at
  pub counts : fst + before after.has ≡ passed

module _ (img : List ℕ) (i n target : ℕ) (long : n ≡ size_at img i) (w : Search img i target) where
  seen : View img w.page i w.row
  seen = view w.here (omega (arith, has_some i w.row w.has))

  n_is : n ≡ size_of w.row
  unfolding seen
  n_is = long ∙ seen.size_is

  pub turn : i + n ≤ target → Turned img i n target (spot w.has) (before w.has) (first_width w.row)
  turn on =
      let (b, e, f) = has_past i w.row w.has (omega (arith, n_is, w.starts)) in
      let l = parts_less w.row (omega (arith, has_some i w.row w.has)) in
      rw n_is (record {
        more = seen.more;
        after = record {
          page = w.page;
          row = rest_of w.row;
          here = seen.after;
          item = w.item;
          starts = w.starts;
          has = b;
          few =
              omega (arith, w.few);
        };
        same = e;
        counts = f;
      })

  -- or ends at it.
  pub stop : target < i + n → (spot w.has ≡ i) × (before w.has ≡ 0)
  stop off = has_first i w.row w.has (omega (arith, n_is, w.starts))

-- What the search has found after some turns: it goes on at i, with n nodes passed.
pub record Searching (img : List ℕ) (target i n at passed : ℕ) : Type 0 where
  pub now : Search img i target
  pub same : spot now.has ≡ at
  pub counts : n + before now.has ≡ passed

pub go_on_lem : (img : List ℕ) (target i n at passed len k : ℕ) → (g : Searching img target i n at passed) → len ≡ size_at img i → i + len ≤ target
    → k ≡ first_width g.now.row
    → Searching img target (i + len) (n + k) at passed
go_on_lem img target i n at passed len k g long on e =
    let t = turn img i len target long g.now on in
    record { now = t.after; same = t.same ∙ g.same; counts = omega (arith, t.counts, g.counts) }

pub go_end : (img : List ℕ) (target i n at passed len : ℕ) → (g : Searching img target i n at passed) → len ≡ size_at img i → target < i + len
    → (i ≡ at) × (n ≡ passed)
go_end img target i n at passed len g long off =
    let s = stop img i len target long g.now off in
    (sym s.0 ∙ g.same, omega (arith, s.1, g.counts))

before_steps : {item : Item} (pos : ℕ) (row : Row) (b : Has item pos row) → before b ≤ steps row
before_steps {item = item} pos nil b = elim b [ ]
before_steps pos (agg l cs rest) (agg_here e) = omega arith
before_steps pos (agg l cs rest) (agg_in b) = omega arith
before_steps pos (agg l cs rest) (agg_past b) = omega (arith, before_steps (pos + (6 + size cs)) rest b)
before_steps pos (lit l c rest) (lit_here e) = omega arith
before_steps pos (lit l c rest) (lit_past b) = omega (arith, before_steps (pos + (6 + length c)) rest b)
before_steps pos (rec p s r rest) (rec_here e) = omega arith
before_steps pos (rec p s r rest) (rec_past b) = omega (arith, before_steps (pos + 8) rest b, width_steps r)

pub few_before : (img : List ℕ) (pos target : ℕ) (w : Search img pos target) → before w.has ≤ most_bytes
few_before img pos target w = omega (arith, before_steps pos w.row w.has, w.few)

-- ── down ──

-- The item is not where its node starts: it is a child of that node, or further down.
pub record FurtherDown (img : List ℕ) (target carry at : ℕ) (n passed : ℕ) (path : List ℕ) : Type 0 where
  pub under : Search img (at + 6) target
  pub lower : at + 6 ≤ target
  pub same : n ≡ passed
  pub leads : path ≡ number carry under.has ∷ way carry under.has

module _ (img : List ℕ) (target carry : ℕ) (item : Item) (starts : order.at item ≡ target) where
  below_row : (page pos : ℕ) (row : Row) → Here img page pos row → (b : Has item pos row) → steps row ≤ most_bytes → (spot b ≡ target → ⊥)
      → FurtherDown img target carry (spot b) (number carry b) (before b) (way carry b)
  below_row page pos nil h b f k = elim b [ ]
  below_row page pos (agg l cs rest) h (agg_here e) f k = absurd (k (ap order.at (sym e) ∙ starts))
  below_row page pos (agg l cs rest) h (agg_in b) f k =
      let v = view h (omega arith) in
      record {
        under = record { page = page; row = cs; here = v.children; item = item; starts = starts; has = b; few = omega arith };
        lower = omega (arith, has_low (pos + 6) cs b);
        same = refl;
        leads = refl;
      }
  below_row page pos (agg l cs rest) h (agg_past b) f k =
      let v = view h (omega arith) in
      let u = below_row page (pos + (6 + size cs)) rest v.after b (omega arith) k in
      record { under = u.under; lower = u.lower; same = ap suc u.same; leads = u.leads }
  below_row page pos (lit l c rest) h (lit_here e) f k = absurd (k (ap order.at (sym e) ∙ starts))
  below_row page pos (lit l c rest) h (lit_past b) f k =
      let v = view h (omega arith) in
      let u = below_row page (pos + (6 + length c)) rest v.after b (omega arith) k in
      record { under = u.under; lower = u.lower; same = ap suc u.same; leads = u.leads }
  below_row page pos (rec p s r rest) h (rec_here e) f k = absurd (k (ap order.at (sym e) ∙ starts))
  below_row page pos (rec p s r rest) h (rec_past b) f k =
      let v = view h (omega arith) in
      let u = below_row page (pos + 8) rest v.after b (omega arith) k in
      record { under = u.under; lower = u.lower; same = ap (λ (n : ℕ). width r + n) u.same; leads = u.leads }

  at_row : (pos : ℕ) (row : Row) (b : Has item pos row) → spot b ≡ target → (before b + carry ≡ number carry b) × (way carry b ≡ [])
  at_row pos nil b k = elim b [ ]
  at_row pos (agg l cs rest) (agg_here e) k = (omega arith, refl)
  at_row pos (agg l cs rest) (agg_in b) k = absurd (omega (arith, has_low (pos + 6) cs b))
  at_row pos (agg l cs rest) (agg_past b) k = let u = at_row (pos + (6 + size cs)) rest b k in (omega (arith, u.0), u.1)
  at_row pos (lit l c rest) (lit_here e) k = (omega arith, refl)
  at_row pos (lit l c rest) (lit_past b) k = let u = at_row (pos + (6 + length c)) rest b k in (omega (arith, u.0), u.1)
  at_row pos (rec p s r rest) (rec_here e) k = (omega arith, refl)
  at_row pos (rec p s r rest) (rec_past b) k = let u = at_row (pos + 8) rest b k in (omega (arith, u.0), u.1)

-- ── what a trace writes ──

-- A trace to the item is asked for, with room for its entries before byte `at` of the path.
pub record Tracing (img : List ℕ) (pos target carry at : ℕ) : Type 0 where
  pub search : Search img pos target
  pub room : 4 * length (way carry search.has) ≤ at
  pub high : at ≤ longest_path
  pub small : carry ≤ most_bytes

-- The number i is handed back, and the path's entries are written before byte `at`, from byte `to` on.
pub record Wrote (i : ℕ) (path : List ℕ) (at index to : ℕ) (new old : List ℕ) : Type 0 where
  pub is : index ≡ i
  pub ends : to + 4 * length path ≡ at
  pub bytes : drop to new ≡ path_bytes path ++ drop at old
  pub long : length new ≡ longest_path

-- the way of a tracing, and its number
abbrev pub way_of : {img : List ℕ} {pos target carry at : ℕ} → Tracing img pos target carry at → List ℕ
way_of {carry = carry} w = way carry w.search.has

abbrev pub number_of : {img : List ℕ} {pos target carry at : ℕ} → Tracing img pos target carry at → ℕ
number_of {carry = carry} w = number carry w.search.has

drop_over : (at : ℕ) (xs l : List ℕ) → at ≤ length l → drop at (over at xs l) ≡ xs ++ drop (at + length xs) l
drop_over at xs l h = ap (drop at) (over_is at xs l) ∙ drop_at (take at l) (xs ++ drop (at + length xs) l) at (length-take-le at l h)

module _ (img : List ℕ) (pos target carry at : ℕ) (w : Tracing img pos target carry at) (c : ℕ) (found : c ≡ spot w.search.has) where
  -- The item is at its node's start,
  pub wrote_here : (passed : ℕ) (path : List ℕ) → passed ≡ before w.search.has → c ≡ target → length path ≡ longest_path
      → Wrote (number_of w) (way_of w) at (passed + carry) at path path
  wrote_here passed path e k n =
      let s = w.search in
      let r = at_row img target carry s.item s.starts pos s.row s.has (sym found ∙ k) in
      record { is = omega (arith, r.0); ends = omega (arith, ap length r.1); bytes = rw r.1; long = n }

  -- or below it.
  pub below : (c ≡ target → ⊥) → FurtherDown img target carry c (number_of w) (before w.search.has) (way_of w)
  below k =
      let s = w.search in
      subst (λ (z : ℕ). FurtherDown img target carry z (number_of w) (before s.has) (way_of w)) (sym found)
      (below_row img target carry s.item s.starts s.page pos s.row s.here s.has s.few (λ e. k (found ∙ e)))

  pub lower : (c ≡ target → ⊥) → (pos ≤ c) × (c + 6 ≤ target)
  lower k = let s = w.search in (omega (arith, spot_low pos s.row s.has), (below k).lower)

  unfoldable pub trace_below : (c ≡ target → ⊥) → Tracing img (c + 6) target carry at
  trace_below k =
      let b = below k in
      record { search = b.under; room = omega (arith, w.room, ap length b.leads); high = w.high; small = w.small }

  module _ (k : c ≡ target → ⊥) (index to : ℕ) (old new : List ℕ) (t : Wrote (number_of (trace_below k)) (way_of (trace_below k)) at index to new old) where
    pub room_below : (4 ≤ to) × (to ≤ longest_path)
    unfolding trace_below
    room_below =
        let b = below k in
        omega (arith, w.room, w.high, ap length b.leads, t.ends)

    pub wrote_below : (passed : ℕ) (last : List ℕ) → passed ≡ before w.search.has → last ≡ over (to - 4) (four index) new
        → Wrote (number_of w) (way_of w) at passed (to - 4) last old
    unfolding trace_below
    wrote_below passed last e o =
        let b = below k in
        let room = room_below in
        let z : to - 4 + 4 ≡ to = omega arith in
        record {
          is = omega (arith, b.same);
          ends = omega (arith, ap length b.leads, t.ends);
          bytes = ap (drop (to - 4)) o ∙ drop_over (to - 4) (four index) new (omega (arith, t.long)) ∙ ap (λ (m : ℕ). four index ++ drop m new) z
              ∙ ap (λ (m : List ℕ). four index ++ m) t.bytes ∙ ap (λ (m : ℕ). four m ++ (path_bytes (way_of (trace_below k)) ++ drop at old)) t.is
              ∙ ap (λ (m : List ℕ). path_bytes m ++ drop at old) (sym b.leads);
          long = ap length o ∙ length_over (to - 4) (four index) new (omega (arith, t.long)) ∙ t.long;
        }
