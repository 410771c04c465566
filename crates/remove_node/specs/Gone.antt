-- What a removal leaves: the image, the table and the map of the store without the node.
use Rattle.std.specs.Prelude.{◌≡◌, refl, Bool, true, false, List, ℕ, ◌+◌, ◌*◌, ◌≤◌, ◌<◌, take, eqb}
use Rattle.std.proofs.Common.{sym, ◌∙◌, true≢false, arith, ne_eqb}
use Rattle.std.proofs.Math.Path.{ap, subst}
use Rattle.std.proofs.Math.ListN.{length}
use Rattle.model.specs.Limits.{page_size, capacity}
use Rattle.model.specs.Row as rows
use Rattle.model.specs.Row.{Row, rec, store, lone_rec, record_size, record_bytes, record_page, record_on, count}
use Rattle.model.specs.Reading.{page_of, settled_at, back_at}
use Rattle.model.specs.Spot.{Position, fill, Chain, top, below, last_page, whole, last_holder, Stand}
use Rattle.model.specs.Removal.{without}
use Rattle.theory_rows.specs.Fits.{Fits}
use Rattle.theory_rows.specs.Image.{length_record, length_record_page}
use Rattle.theory_rows.specs.Laws.{width-⊹}
use Rattle.theory_rows.specs.Pages.{bit}
use Rattle.theory_decoding.specs.Steps.{named_inside}
use Rattle.theory_places.specs.Widths.{Told, Table}
use Rattle.theory_layout.specs.Here.{PageIn, OnPage}
use Rattle.theory_growth.specs.Chain.{last_settled, along, chain_fits}
use Rattle.theory_growth.specs.Told.{ToldAlong, told_along}
use Rattle.theory_insert_point.specs.Bytes.{chain_page, chain_bytes}
use Rattle.theory_removal.specs.Keeps.{Proxy, proxy_of_lem, root_stays}
use Rattle.theory_removal.specs.Keeps as keeps
use Rattle.theory_removal.specs.Table.{Fewer, table_stays, table_goes}
use Rattle.theory_removal.specs.Used.{used_less, names_stays, names_goes}
use Rattle.theory_check.specs.Tests.{unmarked}
use Rattle.theory_page_memory.specs.Memory.{Mem}
use Rattle.theory_page_memory.specs.Links.{self}
use Rattle.theory_page_memory.specs.Around.{beyond_own}
use Rattle.theory_page_memory.specs.Removing.{Wiped, Rewritten, Lifted, own_apart, stands, stays, goes, rewritten_by, rewritten_image, lifted_by, lifted_image}
use Rattle.base_numbers.specs.Over.{take_over}
use Rattle.grow_map.specs.Map.{used_by}
use Rattle.grow_map.specs.Mapped.{Right}
use Rattle.grow_pages.specs.Write.{set_page, page_bytes_of, record_page_is}
use Rattle.grow_pages.specs.Paged.{length_set_page}
use Rattle.grow_pages.specs.Relinked.{mem_set}
use Rattle.grow_widths.specs.Raised.{lowered, entry_anew, changed_long, changed_other, lowered_along}
use Rattle.grow_replace_proxy.specs.Above.{above_once}
use Rattle.remove_branch.specs.Cleared.{Unmarked, unmarked_page}
use Rattle.remove_branch.specs.Branch.{Freed}
use Rattle.remove_lift.specs.Rename.{Renaming}
use Rattle.remove_lift.specs.Lifting.{Lifting, lifted, lifted_long, lifted_pages}
use Rattle.remove_locate.specs.declared.Standing.{Standing}
use Rattle.remove_record.specs.declared.Remnant.TheVariants as remnant
use Rattle.remove_record.specs.Reduced.{Reduced}
use Rattle.remove_node.specs.Going.{Going, c, row, old, v, page_is, on_page, settled_is, holder_is, apart, removing, less, named, one_time}
use Rattle.remove_node.specs.Going.{room, branch}

pub record Gone {img u m : List ℕ} {s : Standing} (w : Going img u m s) (after entries map : List ℕ) : Type 0 where
  pub image : after ≡ rows.image w.st (without w.t)
  pub table : Table w.st (without w.t) entries
  pub map_long : length map ≡ length m
  pub right : Right w.st (without w.t) map

module _ {img u m : List ℕ} {s : Standing} (w : Going img u m s) where
  abbrev t : Stand
  t = w.t

  abbrev left : Row
  left = fill t.position t.rest

  -- ── the table and the branch's pages ──

  inside : (q : ℕ) → 1 ≤ along (c w) q → q < length u
  inside q h =
      omega (arith, (named_inside w.st w.root (v w) q (omega (arith, named w q))).1, w.table.long)

  less_shows : ToldAlong (less w) (c w) left
  less_shows =
      subst (λ (n : ℕ). ToldAlong (lowered n (c w) u) (c w) left) (sym (ap (λ (s : Standing). s.deep) w.found))
      (lowered_along (c w) t.position (row w) t.rest u (omega (arith, width-⊹ t.node t.rest, w.leaves.wide))
      (λ q. omega (arith, one_time w q)) inside
      (told_along u (c w) (old w) (subst (Told u) (sym w.leaves.held) w.table.told)))

  none_first : count 0 t.node ≡ 0
  none_first = omega (arith, named w 0, (v w).placed 0)

  own_low : 1 ≤ last_page (c w)
  own_low = (on_page w).here.on.low

  far : (q : ℕ) → 1 ≤ q → bit (eqb 0 q) ≡ 0
  far q h = ap bit (ne_eqb 0 q (λ e. omega arith))

  -- What is left fits its page.
  left_record_fits : lone_rec left ≡ false → record_size left ≤ capacity
  left_record_fits z =
      let g = (chain_fits (c w) (old w) (subst (λ (r : Row). Fits (store r)) (sym w.leaves.held) (v w).rows)).0 in
      (keeps.record_left t.position t.node t.rest w.leaves.not_alone w.leaves.one (last_settled (c w)) g z).fits

  -- A record is left, not one proxy.
  record_left : (n : ℕ) (was is : List ℕ) → Reduced (removing w) (remnant.Record n) was is → lone_rec left ≡ false
  record_left n was is f = go (lone_rec left) refl
    where
      go : (b : Bool) → lone_rec left ≡ b → lone_rec left ≡ false
      go true e = let x = (f.proxy (proxy_of_lem left e)).0 in absurd (cc)
      go false e = e

  record_long : (n : ℕ) (was is : List ℕ) → Reduced (removing w) (remnant.Record n) was is → n ≡ record_size left
  record_long n was is f = let x = (f.other (record_left n was is f)).0 in cc

  pub left_small : (n : ℕ) (was is : List ℕ) → Reduced (removing w) (remnant.Record n) was is → n ≤ capacity
  left_small n was is f = omega (arith, record_long n was is f, left_record_fits (record_left n was is f))

  -- Or one proxy, which takes the record's place.
  pub record Lifts (child : ℕ) : Type 0 where
    pub upper : Chain
    pub position : Position
    pub page : ℕ
    pub settled : Bool
    pub rest : Row
    pub proxy : Proxy left
    pub is : t.chain ≡ below upper position page settled rest
    pub names : child ≡ proxy.page
    pub kid : PageIn img proxy.page

  pub proxy_left : (child : ℕ) (was is : List ℕ) → Reduced (removing w) (remnant.Proxy child) was is → Lifts child
  proxy_left child was is f = go (lone_rec left) refl t.chain refl
    where
      go : (b : Bool) → lone_rec left ≡ b → (c : Chain) → t.chain ≡ c → Lifts child
      go false e c k = let x = (f.other e).0 in absurd (cc)
      go true e top k = absurd (true≢false (sym e ∙ root_stays w.root w.new t w.leaves (v w).rows k))
      go true e (below c p q b rest) k =
          let x = proxy_of_lem left e in
          let o = f.proxy x in
          let same = o.0 in
          record { upper = c; position = p; page = q; settled = b; rest = rest; proxy = x; is = k; names = cc; kid = o.1 }

  -- A map is right that has the pages free that are named no more.
  right_by : (gone : ℕ → ℕ) → ((q : ℕ) → count q (without t) + gone q ≡ count q w.root) → (next : List ℕ) → Unmarked gone m next
      → Right w.st (without t) next
  right_by gone sum next k q h =
      used_less w.st w.root (without t) (v w) gone sum (8 * length m) (used_by m) (used_by next) (w.map.store w.st w.root w.reads)
      (λ q h. k.gone q) (λ q h. k.other q) q (omega (arith, k.long))

  -- The record's own page has a bit in the map.
  pub own_bit : {mid map : List ℕ} → Freed (branch w) mid map → s.page < 8 * length map
  own_bit f = omega (arith, room w, w.map.long, f.marks.long)

  -- The branch's pages are freed.
  module _ {entries : List ℕ} (is-less : entries ≡ less w) {mid map : List ℕ} (free : Freed (branch w) mid map) where
    fewer : Fewer t u entries
    fewer = subst (Fewer t u) (sym is-less) (record {
      long = changed_long (entry_anew false) s.deep (c w) u;
      shows = less_shows;
      other = λ q h. changed_other (entry_anew false) s.deep (c w) u q h;
    })

    is_wiped : Wiped t (page_of img) (page_of mid)
    is_wiped = record { named = free.gone; other = free.other }

    -- ── the record stays ──

    module _ (n : ℕ) (was is : List ℕ) (f : Reduced (removing w) (remnant.Record n) was is) where
      alone : lone_rec left ≡ false
      alone = record_left n was is f

      -- Its bytes are at the buffer's front.
      content_is : take n is ≡ record_bytes left
      content_is =
          let o = f.other alone in
          let long = record_long n was is f in
          (λ i. take (long i) (o.1 i)) ∙ take_over (record_size left) (record_bytes left) was (length_record left)

      abbrev page : List ℕ
      page = record_page (record_on (last_page (c w)) (last_settled (c w)) (last_holder (c w)) left)

      pub gone_stays : (content after : List ℕ) (settled holder : ℕ) → content ≡ take n is → settled ≡ settled_at img (page_size * s.page)
          → holder ≡ back_at img (page_size * s.page) → after ≡ set_page s.page (page_bytes_of content settled holder) mid → Gone w after entries map
      gone_stays content after settled holder a b h e =
          let long : length page ≡ page_size =
          length_record_page (record_on (last_page (c w)) (last_settled (c w)) (last_holder (c w)) left) (left_record_fits alone) in
          let room : page_size * last_page (c w) + page_size ≤ length mid = omega (arith, (on_page w).here.on.inside, free.long) in
          let bytes : page_bytes_of content settled holder ≡ page =
          (λ i. page_bytes_of ((a ∙ content_is) i) ((b ∙ settled_is w) i) ((h ∙ holder_is w) i))
          ∙ sym (record_page_is (record_on (last_page (c w)) (last_settled (c w)) (last_holder (c w)) left)) in
          let is : after ≡ set_page (last_page (c w)) page mid = e ∙ (λ i. set_page (page_is w i) (bytes i) mid) in
          let pages = ap page_of is ∙ mem_set (last_page (c w)) page mid long room in
          let all = stands img w.st w.root w.reads w.new t w.leaves in
          let is_whole = stays img w.st w.root w.reads w.new t w.leaves alone (c w) in
          let x : Rewritten t (page_of img) (page_of after) =
          subst (Rewritten t (page_of img)) (sym pages)
          (rewritten_by w.st w.root (v w) w.new t w.leaves (page_of img) (page_of img) all (page_of mid) is_wiped) in
          record {
            image = rewritten_image img w.st w.root w.reads w.new t w.leaves after
                (ap length is ∙ length_set_page (last_page (c w)) page mid long room ∙ free.long) (x.others 0 none_first (far _ own_low)) alone x;
            table = table_stays w.st w.root (v w) w.new t w.leaves u entries w.table fewer
                is_whole;
            map_long = free.marks.long;
            right = right_by (λ q. count q t.node) (names_stays w.root w.new t w.leaves is_whole) map free.marks;
          }

    -- ── one proxy takes its place ──

    module _ {child : ℕ} (y : Lifts child) where
      abbrev d : Chain
      d = y.upper

      abbrev q : ℕ
      q = y.page

      abbrev up : Row
      up = fill y.position (rec q y.settled (old w) y.rest)

      pub own_page : s.page ≡ q
      own_page = page_is w ∙ ap last_page y.is

      is_root : whole (below d y.position q y.settled y.rest) (old w) ≡ w.root
      is_root = ap (λ (c : Chain). whole c (old w)) (sym y.is) ∙ w.leaves.held

      above : OnPage img (last_page d) (last_holder d) up
      above = chain_page img w.st w.root w.reads d up is_root

      in_wiped : (k : ℕ) → PageIn img k → PageIn mid k
      in_wiped k p = record { low = p.low; high = p.high; inside = omega (arith, p.inside, free.long) }

      -- Neither the record above nor the helper's is one of the branch's.
      above_kept : page_of mid (last_page d) ≡ page_of img (last_page d)
      above_kept =
          is_wiped.other (last_page d) (omega (
            arith,
            self (last_page d),
            beyond_own w.st d (last_page d),
            own_apart w.st w.root (v w) w.new t w.leaves (below d y.position q y.settled y.rest) y.is (last_page d),
          ))

      own_kept : page_of mid q ≡ record_page (record_on q y.settled (last_page d) (old w))
      own_kept =
          let z = chain_bytes img w.st w.root w.reads (below d y.position q y.settled y.rest) (old w) is_root in
          is_wiped.other q (omega (arith, apart w q, self q, ap (λ (c : Chain). bit (eqb q (last_page c))) y.is)) ∙ z

      renaming : Renaming mid (last_page d) q
      renaming = record {
        position = y.position;
        settled = y.settled;
        old = old w;
        rest = y.rest;
        above = last_settled d;
        up = last_holder d;
        on = in_wiped (last_page d) above.here.on;
        is = above_kept ∙ chain_bytes img w.st w.root w.reads d up is_root;
        small = above.fits;
        once = above_once img w.st w.root w.reads d y.position q y.settled y.rest (old w) is_root;
        names = λ k h. omega (arith, (above.here.names k h).high);
      }

      own_lifting : Lifting mid q y.proxy.page
      unfolding renaming
      own_lifting = record {
        holder = last_page d;
        renaming = renaming;
        on = in_wiped q (subst (PageIn img) (ap last_page y.is) (on_page w).here.on);
        kid = in_wiped y.proxy.page y.kid;
        own = own_kept;
        small = (on_page w).fits;
      }

      -- What `lift_child` requires.
      pub lifting : Lifting mid s.page child
      lifting = subst (λ (n : ℕ). Lifting mid n child) (sym own_page) (subst (Lifting mid q) (sym y.names) own_lifting)

      lift_is : (after : List ℕ) → ((l : Lifting mid s.page child) → after ≡ lifted l mid) → after ≡ lifted own_lifting mid
      lift_is after f =
          subst (λ (n : ℕ). ((l : Lifting mid q n) → after ≡ lifted l mid) → after ≡ lifted own_lifting mid) (sym y.names)
          (λ g. g own_lifting)
          (subst (λ (n : ℕ). (l : Lifting mid n child) → after ≡ lifted l mid) own_page f)

      pub gone_goes : (after next : List ℕ) → ((l : Lifting mid s.page child) → after ≡ lifted l mid) → next ≡ unmarked map s.page
          → Gone w after entries next
      unfolding own_lifting renaming
      gone_goes after next f k =
          let x = y.proxy in
          let is = lift_is after f in
          let all = stands img w.st w.root w.reads w.new t w.leaves in
          let pages = ap page_of is ∙ lifted_pages own_lifting x.settled x.inside in
          let l : Lifted t (page_of img) (page_of after) d y.position q y.settled y.rest x =
          subst (λ (m : Mem). Lifted t (page_of img) m d y.position q y.settled y.rest x) (sym pages)
          (lifted_by w.st w.root (v w) w.new t w.leaves (page_of img) (page_of img) all d y.position q y.settled y.rest x y.is
          (page_of mid) is_wiped) in
          let low : 1 ≤ q = omega (arith, own_low, ap last_page y.is) in
          let marks : Unmarked (λ n. bit (eqb n q) + count n t.node) m next =
          subst (Unmarked (λ n. bit (eqb n q) + count n t.node) m) (sym (k ∙ ap (unmarked map) own_page))
          (unmarked_page free.marks q (omega (arith, own_bit free, own_page))) in
          let is_whole = goes img w.st w.root w.reads w.new t w.leaves d y.position q y.settled y.rest x y.is in
          record {
            image = lifted_image img w.st w.root w.reads w.new t w.leaves after (ap length is ∙ lifted_long own_lifting ∙ free.long)
                (l.others 0 none_first (far q low) (far x.page y.kid.low) (far (last_page d) above.here.on.low))
                d y.position q y.settled y.rest x y.is l;
            table = table_goes w.st w.root (v w) w.new t w.leaves u entries w.table fewer d y.position q y.settled y.rest x y.is
                is_whole;
            map_long = marks.long;
            right = right_by (λ n. bit (eqb n q) + count n t.node)
                (names_goes w.root w.new t w.leaves d y.position q y.settled y.rest x y.is is_whole) next marks;
          }
