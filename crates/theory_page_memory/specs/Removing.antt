-- Removals on a memory of pages: once the branch's pages are blank and the record that lost the node is written, or replaced by its one proxy, the memory is
-- that of the store without the node.
use Rattle.std.specs.Prelude.{◌≡◌, Bool, true, false, ◌&&◌, List, ℕ, ◌+◌, ◌≤◌, ◌<◌, length, eqb, leb}
use Rattle.std.proofs.Math.Path.{refl, ap}
use Rattle.std.proofs.Common.{sym, subst, ◌∙◌, arith, eq-eqb, eqb-true, leb-true, leb-false}
use Rattle.model.specs.Row.{Row, nil, rec, store, ◌⊹◌, lone_rec, record_page, record_on, count, image, Config}
use Rattle.model.specs.Reading.{Reads, page_of}
use Rattle.model.specs.Tree.{Tree}
use Rattle.model.specs.Growth.{at_rest}
use Rattle.model.specs.Spot.{Position, fill, Chain, top, below, last_page, whole, last_holder, Stand}
use Rattle.model.specs.Removal.{replaced, lost, without}
use Rattle.theory_rows.specs.Fits.{Valid, Fits}
use Rattle.theory_rows.specs.Bound.{fits_parts}
use Rattle.theory_rows.specs.Image.{Stored}
use Rattle.theory_rows.specs.Pages.{bit, tally_rest}
use Rattle.theory_decoding.specs.Decode.{stored_same, stored_image}
use Rattle.theory_decoding.specs.Reading.{reads_valid, reads_length}
use Rattle.theory_check.specs.Images.{image_is}
use Rattle.theory_growth.specs.Chain.{last_settled, fill_more, fill_less, fits_fill, fits_refill, chain_fits, count_refill, count_chain}
use Rattle.theory_removal.specs.Stand.{Leaves, stand_parts}
use Rattle.theory_removal.specs.Keeps.{Proxy, helper_freed, without_names}
use Rattle.theory_page_memory.specs.Memory.{Mem, blank, set_mem, relink}
use Rattle.theory_page_memory.specs.Links.{self, not_bit, stored_parted, set_same, set_other, relink_page}
use Rattle.theory_page_memory.specs.Steps.{bit_le}
use Rattle.theory_page_memory.specs.Around.{Around, assemble, disassemble, elsewhere, beyond, beyond_own, around_agree}
use Rattle.theory_page_memory.specs.Images.{before_free, before_settings, inside_free}

-- The branch's pages are blank, and all else is as it was.
pub record Wiped (t : Stand) (m m₁ : Mem) : Type 0 where
  pub named : (p : ℕ) → 1 ≤ count p t.node → m₁ p ≡ blank
  pub other : (p : ℕ) → count p t.node ≡ 0 → m₁ p ≡ m p

module _ (t : Stand) (m m' : Mem) where
  -- The row of the record that lost the node.
  abbrev pub left_row : Row
  left_row = fill t.position t.rest

  -- The branch's pages are blank, the record that lost the node is written with what is left of it, and all else is as it was.
  pub record Rewritten : Type 0 where
    pub branch : (p : ℕ) → 1 ≤ count p t.node → m' p ≡ blank
    pub own : m' (last_page t.chain) ≡ record_page (record_on (last_page t.chain) (last_settled t.chain) (last_holder t.chain) left_row)
    pub others : (p : ℕ) → count p t.node ≡ 0 → bit (eqb p (last_page t.chain)) ≡ 0 → m' p ≡ m p

  -- The same where one proxy is left, which takes the place of the helper's proxy in the record above: its page is blank, the child has another holder.
  pub record Lifted (c : Chain) (s : Position) (q : ℕ) (b : Bool) (rest : Row) (x : Proxy left_row) : Type 0 where
    pub branch : (p : ℕ) → 1 ≤ count p t.node → m' p ≡ blank
    pub own : m' q ≡ blank
    pub child : m' x.page ≡ record_page (record_on x.page x.settled (last_page c) x.inside)
    pub above : m' (last_page c) ≡ record_page (record_on (last_page c) (last_settled c) (last_holder c) (fill s (rec x.page x.settled x.inside rest)))
    pub others : (p : ℕ) → count p t.node ≡ 0 → bit (eqb p q) ≡ 0 → bit (eqb p x.page) ≡ 0 → bit (eqb p (last_page c)) ≡ 0 → m' p ≡ m p

module _ (st : Config) (root : Row) (v : Valid st root) (new : Tree) (t : Stand) (l : Leaves root new t) (c : Chain) (e : t.chain ≡ c) where
  holds : whole c (fill t.position (t.node ⊹ t.rest)) ≡ root
  holds = ap (λ (z : Chain). whole z (fill t.position (t.node ⊹ t.rest))) (sym e) ∙ l.held

  -- Each page is named at most one time: around the record, in what is left of it, and in the branch.
  pub around_once : (k : ℕ) → elsewhere st c k + count k (fill t.position t.rest) + count k t.node ≤ 1
  around_once k =
      let old = fill t.position (t.node ⊹ t.rest) in
      omega (arith, tally_rest st root v.placed refl k, bit_le ((at_rest st root).used k), count_chain k c old, ap (count k) holds, stand_parts t k)

  -- Its page is not among those that it names, and of those that it names none is named elsewhere.
  pub own_apart : (k : ℕ) → bit (eqb k (last_page c)) + beyond st c k + count k (fill t.position t.rest) + count k t.node ≤ 1
  own_apart k = omega (arith, around_once k, beyond_own st c k)

module _ (st : Config) (root : Row) (v : Valid st root) (new : Tree) (t : Stand) (l : Leaves root new t) (m m' : Mem) (stored : Stored m 0 (store root)) where
  abbrev old : Row
  old = fill t.position (t.node ⊹ t.rest)

  abbrev left : Row
  left = fill t.position t.rest

  pub left_fits : Fits left
  left_fits =
      let g = (chain_fits t.chain old (subst (λ (r : Row). Fits (store r)) (sym l.held) v.rows)).1 in
      fits_refill t.position (t.node ⊹ t.rest) t.rest g (fits_parts t.node t.rest (fits_fill t.position (t.node ⊹ t.rest) g)).1

  module _ (c : Chain) (e : t.chain ≡ c) where
    apart : Around m c old × (m (last_page c) ≡ record_page (record_on (last_page c) (last_settled c) (last_holder c) old)) × Stored m (last_page c) old
    apart = disassemble m c old (subst (λ (r : Row). Stored m 0 (store r)) (sym (holds st root v new t l c e)) stored)

    pub stored_left : Stored m (last_page c) left
    stored_left = (fill_less (stored_parted m (last_page c)) t.position t.node t.rest apart.2).0

  -- ── the writes ──

  -- The record that lost the node, written.
  abbrev pub rewritten_mem : Mem → Mem
  rewritten_mem m₁ = let q = last_page t.chain in set_mem q (record_page (record_on q (last_settled t.chain) (last_holder t.chain) left)) m₁

  pub rewritten_by : (m₁ : Mem) → Wiped t m m₁ → Rewritten t m (rewritten_mem m₁)
  rewritten_by m₁ w =
      let q = last_page t.chain in
      let page = record_page (record_on q (last_settled t.chain) (last_holder t.chain) left) in
      let apart = own_apart st root v new t l t.chain refl in
      record {
        branch = λ p h. set_other q p page m₁ (omega (arith, apart p)) ∙ w.named p h;
        own = set_same q page m₁;
        others = λ p h e. set_other q p page m₁ e ∙ w.other p h;
      }

  -- One proxy in the place of the helper's, the child's back link, and the helper's page.
  module _ (c : Chain) (s : Position) (q : ℕ) (b : Bool) (rest : Row) (x : Proxy left) (e : t.chain ≡ below c s q b rest) where
    -- The record above, with the child's proxy.
    abbrev pub lifted_page : List ℕ
    lifted_page = record_page (record_on (last_page c) (last_settled c) (last_holder c) (fill s (rec x.page x.settled x.inside rest)))

    abbrev pub lifted_mem : Mem → Mem
    lifted_mem m₁ =
        let m₂ = set_mem (last_page c) lifted_page m₁ in
        set_mem q blank (set_mem x.page (relink (last_page c) (m₂ x.page)) m₂)

    pub lifted_by : (m₁ : Mem) → Wiped t m m₁ → Lifted t m (lifted_mem m₁) c s q b rest x
    lifted_by m₁ w =
        let p = x.page in
        let h = last_page c in
        let m₂ : Mem = set_mem h lifted_page m₁ in
        let page = relink h (m₂ p) in
        let m₃ : Mem = set_mem p page m₂ in
        let apart = own_apart st root v new t l (below c s q b rest) e in
        let named : (k : ℕ) → count k left ≡ bit (eqb k p) + count k x.inside + 0 = λ k. ap (count k) x.is in
        let up = beyond_own st c in
        let was = (subst (Stored m q) x.is (stored_left (below c s q b rest) e)).0 in
        let child : page ≡ record_page (record_on p x.settled h x.inside) =
        ap (relink h) (set_other h p lifted_page m₁ (omega (arith, apart p, up p, named p, self p)) ∙ w.other p (omega (arith, apart p, named p, self p)) ∙ was)
        ∙ relink_page p x.settled q h x.inside (subst Fits x.is left_fits).0.fits in
        record {
          branch = λ k y. set_other q k blank m₃ (omega (arith, apart k)) ∙ set_other p k page m₂ (omega (arith, apart k, named k))
              ∙ set_other h k lifted_page m₁ (omega (arith, apart k, up k)) ∙ w.named k y;
          own = set_same q blank m₃;
          child = set_other q p blank m₃ (omega (arith, apart p, named p, self p)) ∙ set_same p page m₂ ∙ child;
          above = set_other q h blank m₃ (omega (arith, apart h, up h, self h)) ∙ set_other p h page m₂ (omega (arith, apart h, up h, named h, self h))
              ∙ set_same h lifted_page m₁;
          others = λ k y i j n. set_other q k blank m₃ i ∙ set_other p k page m₂ j ∙ set_other h k lifted_page m₁ n ∙ w.other k y;
        }

  -- ── every record that is left stands on its page ──

  -- The record stays on its page.
  pub rewritten_stored : Rewritten t m m' → Stored m' 0 (store (whole t.chain left))
  rewritten_stored w =
      let c = t.chain in
      let n = around_once st root v new t l c refl in
      assemble m' c old left
      (around_agree st m m' c old (λ k h. w.others k (omega (arith, n k, beyond_own st c k)) (omega (arith, n k, beyond_own st c k)))
      (apart c refl).0)
      w.own
      (stored_same m m' (last_page c) left (λ k h. w.others k (omega (arith, n k)) (omega (arith, n k, beyond_own st c k)))
      (stored_left c refl))

  -- Its one proxy takes its place.
  pub lifted_stored : (c : Chain) (s : Position) (q : ℕ) (b : Bool) (rest : Row) (x : Proxy left) → t.chain ≡ below c s q b rest → Lifted t m m' c s q b rest x
      → Stored m' 0 (store (whole c (fill s (rec x.page x.settled x.inside rest))))
  lifted_stored c s q b rest x e w =
      let n = around_once st root v new t l (below c s q b rest) e in
      let z = (apart (below c s q b rest) e).0 in
      let y = subst (Stored m q) x.is (stored_left (below c s q b rest) e) in
      let named : (k : ℕ) → count k left ≡ bit (eqb k x.page) + count k x.inside + 0 = λ k. ap (count k) x.is in
      let other : (k : ℕ) → 0 < beyond st c k + count k (fill s rest) + count k x.inside → m' k ≡ m k =
      λ k h. w.others k (omega (arith, n k, named k, beyond_own st c k)) (omega (arith, n k, named k, beyond_own st c k))
      (omega (arith, n k, named k, beyond_own st c k)) (omega (arith, n k, named k, beyond_own st c k)) in
      assemble m' c (fill s (rec q b old rest)) (fill s (rec x.page x.settled x.inside rest))
      (around_agree st m m' c (fill s (rec q b old rest)) (λ k h. other k (omega arith)) z.2) w.above
      (fill_more (stored_parted m' (last_page c)) s (rec x.page x.settled x.inside nil) rest
      (stored_same m m' (last_page c) (fill s rest) (λ k h. other k (omega arith)) z.0)
      (w.child, stored_same m m' x.page x.inside (λ k h. other k (omega arith)) y.1, tt))

  -- ── the pages that are free ──

  module _ (free : (k : ℕ) → 1 ≤ k → k < st.pages → count k (store root) ≡ 0 → m k ≡ blank) where
    -- The last record of a chain is named, and so is the root record.
    own_named : (c : Chain) (r : Row) (k : ℕ) → bit (eqb k (last_page c)) ≤ count k (store (whole c r))
    own_named top r k = omega arith
    own_named (below c s q b rest) r k = omega (arith, count_chain k c (fill s (rec q b r rest)), count_refill k s rest (rec q b r rest))

    freed_own : (c : Chain) (r : Row) (k : ℕ) → bit (eqb k (last_page c)) ≡ 0 → bit (helper_freed c r k) ≡ 0
    freed_own top r k h = refl
    freed_own (below c s q b rest) r k h = rw (not_bit (eqb k q) h) (go (lone_rec r))
      where
        go : (u : Bool) → bit (u && false) ≡ 0
        go true = refl
        go false = refl

    was_free : (k : ℕ) → 1 ≤ k → k < st.pages → count k (store (without t)) ≡ 0 → count k t.node ≡ 0 → bit (eqb k (last_page t.chain)) ≡ 0 → m k ≡ blank
    was_free k a b z n h =
        free k a b (omega (arith, z, without_names root new t l k, freed_own t.chain left k h))

    -- A page is one of the branch's, or not.
    by_branch : {P : Type 0} (k : ℕ) → (1 ≤ count k t.node → P) → (count k t.node ≡ 0 → P) → P
    by_branch {P = P} k f g = go (leb 1 (count k t.node)) refl
      where
        go : (u : Bool) → leb 1 (count k t.node) ≡ u → P
        go true e = f (leb-true 1 (count k t.node) e)
        go false e = g (omega (arith, leb-false 1 (count k t.node) e))

    pub rewritten_free : Rewritten t m m' → without t ≡ whole t.chain left → (k : ℕ) → 1 ≤ k → k < st.pages → count k (store (without t)) ≡ 0 → m' k ≡ blank
    rewritten_free w e k a b z =
        by_branch k (w.branch k) (λ n.
        let h : bit (eqb k (last_page t.chain)) ≡ 0 = omega (arith, own_named t.chain left k, ap (λ (r : Row). count k (store r)) e, z) in
        w.others k n h ∙ was_free k a b z n h)

    pub lifted_free : (c : Chain) (s : Position) (q : ℕ) (b : Bool) (rest : Row) (x : Proxy left) → t.chain ≡ below c s q b rest → Lifted t m m' c s q b rest x
        → without t ≡ whole c (fill s (rec x.page x.settled x.inside rest))
        → (k : ℕ) → 1 ≤ k → k < st.pages → count k (store (without t)) ≡ 0 → m' k ≡ blank
    lifted_free c s q b rest x e w is k a d z =
        let up = fill s (rec x.page x.settled x.inside rest) in
        let n : count k (store (whole c up)) ≡ 0 = ap (λ (r : Row). count k (store r)) (sym is) ∙ z in
        let above : bit (eqb k (last_page c)) ≡ 0 = omega (arith, own_named c up k, n) in
        let child : bit (eqb k x.page) ≡ 0 =
        omega (arith, n, count_chain k c up, count_refill k s rest (rec x.page x.settled x.inside rest)) in
        by_branch k (w.branch k) (λ y. go (eqb k q) refl y child above)
      where
        go : (u : Bool) → eqb k q ≡ u → count k t.node ≡ 0 → bit (eqb k x.page) ≡ 0 → bit (eqb k (last_page c)) ≡ 0 → m' k ≡ blank
        go true f y child above = ap m' (eqb-true k q f) ∙ w.own
        go false f y child above =
            w.others k y (ap bit f) child above
            ∙ was_free k a d z y (ap (λ (c : Chain). bit (eqb k (last_page c))) e ∙ ap bit f)

-- ── the image ──

module _ (img : List ℕ) (st : Config) (root : Row) (r : Reads img st root) (new : Tree) (t : Stand) (l : Leaves root new t) where
  v : Valid st root
  v = reads_valid img st root r

  same_pages : page_of img ≡ page_of (image st root)
  same_pages = ap page_of r.same

  pub stands : Stored (page_of img) 0 (store root)
  stands = subst (λ (i : List ℕ). Stored (page_of i) 0 (store root)) (sym r.same) (stored_image st root v)

  pub free : (k : ℕ) → 1 ≤ k → k < st.pages → count k (store root) ≡ 0 → page_of img k ≡ blank
  unfolding v
  free k a b z =
      let far : k ≡ 1 → ⊥ = λ e. let y : bit (eqb k 1) ≡ 1 = rw (eq-eqb k 1 e) in omega (arith, z) in
      let none : bit ((at_rest st root).used k) ≡ 0 =
      omega (arith, z, tally_rest st root v.placed refl k, inside_free st.pages k (omega (arith, far)) b) in
      ap (λ (f : Mem). f k) same_pages ∙ before_free st root v k (not_bit ((at_rest st root).used k) none)

  abbrev left₁ : Row
  left₁ = fill t.position t.rest

  -- What the store without the node is: the record stays, or its one proxy takes its place.
  pub stays : lone_rec left₁ ≡ false → (c : Chain) → lost c left₁ ≡ whole c left₁
  unfolding replaced
  stays z top = refl
  stays z (below c s q b rest) = rw z

  pub goes : (c : Chain) (s : Position) (q : ℕ) (b : Bool) (rest : Row) (x : Proxy left₁) → t.chain ≡ below c s q b rest
      → without t ≡ whole c (fill s (rec x.page x.settled x.inside rest))
  unfolding replaced
  goes c s q b rest x e = ap (λ (c : Chain). lost c left₁) e ∙ ap (λ (r : Row). lost (below c s q b rest) r) x.is

  module _ (after : List ℕ) (long : length after ≡ length img) (first : page_of after 0 ≡ page_of img 0) where
    same_image : Stored (page_of after) 0 (store (without t))
        → ((k : ℕ) → 1 ≤ k → k < st.pages → count k (store (without t)) ≡ 0 → page_of after k ≡ blank) → after ≡ image st (without t)
    unfolding v
    same_image =
        image_is after st (without t) (omega (arith, v.ranges.few)) (long ∙ reads_length img st root r)
        (first ∙ ap (λ (f : Mem). f 0) same_pages ∙ before_settings st root v)

    -- The bytes once the record that lost the node is written are the image without the node,
    pub rewritten_image : lone_rec left₁ ≡ false → Rewritten t (page_of img) (page_of after) → after ≡ image st (without t)
    unfolding v
    rewritten_image z w =
        let is : without t ≡ whole t.chain left₁ = stays z t.chain in
        same_image
        (subst (λ (r : Row). Stored (page_of after) 0 (store r)) (sym is) (rewritten_stored st root v new t l (page_of img) (page_of after) stands w))
        (rewritten_free st root v new t l (page_of img) (page_of after) stands free w is)

    -- and so are those once one proxy took the place of the helper.
    pub lifted_image : (c : Chain) (s : Position) (q : ℕ) (b : Bool) (rest : Row) (x : Proxy left₁) → t.chain ≡ below c s q b rest
        → Lifted t (page_of img) (page_of after) c s q b rest x → after ≡ image st (without t)
    unfolding v
    lifted_image c s q b rest x e w =
        let is = goes c s q b rest x e in
        same_image
        (subst (λ (r : Row). Stored (page_of after) 0 (store r)) (sym is)
        (lifted_stored st root v new t l (page_of img) (page_of after) stands c s q b rest x e w))
        (lifted_free st root v new t l (page_of img) (page_of after) stands free c s q b rest x e w is)
