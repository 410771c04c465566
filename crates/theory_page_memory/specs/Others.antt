-- A removal changes no record but those that it must, except back links.
use Rattle.std.specs.Prelude.{◌≡◌, Bool, cond, ◌&&◌, ◌||◌, length, take, drop}
use Rattle.std.proofs.Math.Path.{refl, sym, ap}
use Rattle.std.proofs.Common.{subst, ◌∙◌, true≢false, arith, length-append, length-take, take_at, drop_at}
use Rattle.std.proofs.Math.Bool.{true, false}
use mathlib.Core.List.{List, ◌++◌, append_assoc}
use Rattle.std.proofs.Math.Option.{some}
use Prim.Native.Nat.{ℕ, zero, suc, ◌+◌, ◌≤◌, ◌<◌}
use borrow.Author.Tests.{eqb-true, lt-ltb, le-ltb, ltb-false}
use Rattle.std.proofs.Math.Dec.{eqb, ltb}
use Rattle.model.specs.Limits.{capacity, page_size}
use Rattle.model.specs.Row.{Row, nil, rec, store, lone_rec, two, record_page, record_on, count, image, Config}
use Rattle.model.specs.Reading.{Reads, page_of}
use Rattle.model.specs.Tree.{Tree}
use Rattle.model.specs.Spot.{Position, fill, Chain, top, below, last_page, last_holder, Stand, stand_of}
use Rattle.model.specs.Removal.{without, removed}
use Rattle.model.specs.Claims.{SameButLink, OthersStay, touched}
use Rattle.model.specs.Calls.Remove.{remove_of}
use Rattle.theory_rows.specs.Fits.{Valid, Fits}
use Rattle.theory_rows.specs.Image.{Stored, image_page, length_record_page}
use Rattle.theory_rows.specs.Pages.{bit, or_left, or_right}
use Rattle.theory_decoding.specs.Reading.{reads_valid}
use Rattle.theory_check.specs.Images.{page_is}
use Rattle.theory_removal.specs.Stand.{Leaves, stand_leaves}
use Rattle.theory_removal.specs.Keeps.{Proxy, proxy_of_lem, root_stays, removed_is, removed_valid}
use Rattle.theory_calls.specs.Remove.{removable, remove_accepted}
use Rattle.theory_page_memory.specs.Memory.{Mem, blank, relink}
use Rattle.theory_page_memory.specs.Links.{relink_page}
use Rattle.theory_page_memory.specs.Images.{before_settings}
use Rattle.theory_page_memory.specs.Removing.{Wiped, Lifted, left_fits, stored_left, rewritten_mem, rewritten_by, lifted_mem, lifted_by}
use Rattle.theory_page_memory.specs.Removing.{rewritten_stored, rewritten_free, lifted_stored, lifted_free}
use Rattle.theory_page_memory.specs.Removing.{stands, free, stays, goes}

same_page : {a b : List ℕ} → a ≡ b → SameButLink a b
same_page e = record { front = ap (take (capacity + 4)) e; back = ap (drop (capacity + 6)) e }

-- A page with another holder.
relink_same : (q : ℕ) (s : List ℕ) → length s ≡ page_size → SameButLink (relink q s) s
relink_same q s e =
    let n : length (take (capacity + 4) s) ≡ capacity + 4 = simp length-take (omega arith) in
    record {
      front = take_at (take (capacity + 4) s) (two q ++ drop (capacity + 6) s) (capacity + 4) n;
      back = ap (drop (capacity + 6)) (sym (append_assoc (take (capacity + 4) s) (two q) (drop (capacity + 6) s)))
          ∙ drop_at (take (capacity + 4) s ++ two q) (drop (capacity + 6) s) (capacity + 6) (simp (length-append, n) refl);
    }

module _ (img : List ℕ) (st : Config) (root : Row) (r : Reads img st root) (new : Tree) (t : Stand) (l : Leaves root new t) (after : Valid st (without t)) where
  abbrev m : Mem
  m = page_of img

  abbrev left : Row
  left = fill t.position t.rest

  v : Valid st root
  v = reads_valid img st root r

  held : Stored m 0 (store root)
  held = stands img st root r new t l

  were : (k : ℕ) → 1 ≤ k → k < st.pages → count k (store root) ≡ 0 → m k ≡ blank
  were = free img st root r new t l

  -- The branch's pages blank.
  wiped : Mem
  wiped p = cond (ltb 0 (count p t.node)) blank (m p)

  is_wiped : Wiped t m wiped
  unfolding wiped
  is_wiped = record {
    named = λ p h. rw (lt-ltb 0 (count p t.node) h);
    other = λ p h. rw (le-ltb 0 (count p t.node) (omega arith));
  }

  -- The pages of the image without the node are those of a memory in which its records stand.
  page_after : (m' : Mem) → Stored m' 0 (store (without t)) → ((k : ℕ) → 1 ≤ k → k < st.pages → count k (store (without t)) ≡ 0 → m' k ≡ blank)
      → (k : ℕ) → 1 ≤ k → k < st.pages → page_of (image st (without t)) k ≡ m' k
  page_after m' s f k a b = image_page st (without t) after k a b ∙ sym (page_is m' (without t) s k (f k a b))

  module _ (k : ℕ) (a : 1 ≤ k) (b : k < st.pages) (away : count k t.node ≡ 0) (own : bit (eqb k (last_page t.chain)) ≡ 0) where
    stay_others : lone_rec left ≡ false → SameButLink (page_of (image st (without t)) k) (m k)
    unfolding v held
    stay_others z =
        let m' = rewritten_mem st root v new t l m m held wiped in
        let w = rewritten_by st root v new t l m m held wiped is_wiped in
        let is = stays img st root r new t l z t.chain in
        same_page (page_after m' (subst (λ (r : Row). Stored m' 0 (store r)) (sym is) (rewritten_stored st root v new t l m m' held w))
        (rewritten_free st root v new t l m m' held were w is) k a b ∙ w.others k away own)

    go_others : (c : Chain) (s : Position) (q : ℕ) (u : Bool) (rest : Row) (x : Proxy left) → t.chain ≡ below c s q u rest → bit (eqb k (last_page c)) ≡ 0
        → SameButLink (page_of (image st (without t)) k) (m k)
    unfolding v held
    go_others c s q u rest x e up =
        let m' = lifted_mem st root v new t l m m held c s q u rest x e wiped in
        let w = lifted_by st root v new t l m m held c s q u rest x e wiped is_wiped in
        let is = goes img st root r new t l c s q u rest x e in
        let same = page_after m' (subst (λ (r : Row). Stored m' 0 (store r)) (sym is) (lifted_stored st root v new t l m m' held c s q u rest x e w))
        (lifted_free st root v new t l m m' held were c s q u rest x e w is) k a b in
        by_child m' w same (eqb k x.page) refl
      where
        own_page : List ℕ
        own_page = record_page (record_on x.page x.settled q x.inside)

        inside_fits : Fits (rec x.page x.settled x.inside nil)
        inside_fits = subst Fits x.is (left_fits st root v new t l m m held)

        by_child : (m' : Mem) → Lifted t m m' c s q u rest x → page_of (image st (without t)) k ≡ m' k → (z : Bool) → eqb k x.page ≡ z
            → SameButLink (page_of (image st (without t)) k) (m k)
        by_child m' w same true z =
            let i : k ≡ x.page = eqb-true k x.page z in
            let was : m k ≡ own_page = ap m i ∙ (subst (Stored m q) x.is (stored_left st root v new t l m m held (below c s q u rest) e)).0 in
            let now : page_of (image st (without t)) k ≡ relink (last_page c) own_page =
            same ∙ ap m' i ∙ w.child ∙ sym (relink_page x.page x.settled q (last_page c) x.inside inside_fits.0.fits) in
            rw (now, was) (relink_same (last_page c) own_page (length_record_page (record_on x.page x.settled q x.inside) inside_fits.0.fits))
        by_child m' w same false z = same_page (same ∙ w.others k away (ap (λ (c : Chain). bit (eqb k (last_page c))) (sym e) ∙ own) (ap bit z) up)

  -- Page 0 stays.
  first_page_lem : SameButLink (page_of (image st (without t)) 0) (m 0)
  unfolding v
  first_page_lem = same_page (before_settings st (without t) after ∙ sym (before_settings st root v) ∙ ap (λ (i : List ℕ). page_of i 0) (sym r.same))

  others : (k : ℕ) → k < st.pages → touched t k ≡ false → SameButLink (page_of (image st (without t)) k) (m k)
  unfolding v
  others zero b z = first_page_lem
  others (suc k) b z =
      let n = suc k in
      let x = ltb 0 (count n t.node) in
      let y = eqb n (last_page t.chain) in
      let u = lone_rec left && eqb n (last_holder t.chain) in
      let some = or_left (x || y) u z in
      by_left n (omega arith) b (omega (arith, ltb-false 0 (count n t.node) (or_left x y some))) (ap bit (or_right x y some)) (lone_rec left) refl
      t.chain refl (or_right (x || y) u z)
    where
      by_left : (n : ℕ) → 1 ≤ n → n < st.pages → count n t.node ≡ 0 → bit (eqb n (last_page t.chain)) ≡ 0 → (u : Bool) → lone_rec left ≡ u
          → (c : Chain) → t.chain ≡ c
          → u && eqb n (last_holder t.chain) ≡ false → SameButLink (page_of (image st (without t)) n) (m n)
      by_left n a b away own false y c e z = stay_others n a b away own y
      by_left n a b away own true y top e z = absurd (true≢false (sym y ∙ root_stays root new t l v.rows e))
      by_left n a b away own true y (below c s q u rest) e z =
          go_others n a b away own c s q u rest (proxy_of_lem left y) e (ap bit (sym (ap (λ (c : Chain). eqb n (last_holder c)) e) ∙ z))

-- No other record changes except back links.
pub others_stay : OthersStay
others_stay img st root path t r z e k b n =
    let p = removable root path z in
    let s = ap (stand_of root) (sym p.is) ∙ e in
    let v = subst (Valid st) (removed_is st root p.first p.more t s) (removed_valid st root p.first p.more t s (reads_valid img st root r)) in
    let out : (remove_of img path).1 ≡ image st (without t) =
    ap (λ (o : ℕ × List ℕ). o.1) (remove_accepted img st root r path z)
    ∙ ap (image st) (ap (removed root) p.is ∙ removed_is st root p.first p.more t s) in
    subst (λ (i : List ℕ). SameButLink (page_of i k) (page_of img k)) (sym out)
    (others img st root r _ t (stand_leaves root p.first p.more t s) v k b n)
