-- A logical list that goes through records of helpers: what is left of it, done from where the walk stands, comes to the same as `decode` of the whole list.
use Rattle.std.specs.Prelude.{◌≡◌, ◌≢◌, Bool, cond, ℕ, zero, suc, ◌+◌, ◌-◌, ◌*◌, ◌≤◌, ◌<◌, set}
use Rattle.std.proofs.Math.Path.{refl, ap}
use Rattle.std.proofs.Common.{sym, ◌∙◌, length-take, length-drop, set-set, take-take, drop-drop}
use Rattle.std.proofs.Math.Bool.{true, false}
use mathlib.Core.List.{List, [], ◌∷◌}
use native.Mathlib.Omega.{arith}
use Rattle.std.proofs.Math.ListN.{length, take, drop}
use Rattle.std.proofs.lemmas.List.{set_comm}
use Rattle.std.proofs.Math.Seq.{take-nil, drop-nil, length-take-le}
use Rattle.std.proofs.Math.Dec.{eqb}
use borrow.Author.Tests.{eqb-true, eqb-false, eq-eqb, ne_eqb}
use Rattle.model.specs.Limits.{page_size}
use Rattle.model.specs.Row.{Row, nil, agg, lit, rec}
use Rattle.model.specs.Tree.{width}
use Rattle.model.specs.Reading.{used_at, settled_at, name_at}
use Rattle.model.specs.WalkTests.{whole_size, passing_kind, record_of}
use Rattle.theory_rows.specs.Laws.{width-⊹}
use Rattle.theory_check.specs.Walk.{State, with_mark, enters_of, Decoded, as_rec, before, proxy_step, node_step, list_step, decode, node_of, list_of, proxy_of}
use Rattle.theory_check.specs.Widths.{widths_after, widths-⊹}
use Rattle.theory_check.specs.Steps.{node_eq, list_eq, size_long, list_none, list_more}

-- ── the outcome of a walk ──

-- Marks and widths are said only of a walk that is not refused.
pub data Outcome : Type 0 where
  refused : Outcome
  reached : (w : State) → (table : List ℕ) → Outcome

abbrev pub outcome : State → (table : List ℕ) → Outcome
outcome w c = cond (eqb w.left 0) refused (reached w c)

-- Of a row, from a table of widths.
abbrev pub outcome_of : Decoded → (table : List ℕ) → Outcome
outcome_of d c = outcome d.walk (widths_after d.row c)

-- ── tables that differ on one page ──

-- They are the same once the page is written.
abbrev Off : ℕ → List ℕ → List ℕ → Type 0
Off p a b = (y : ℕ) → set a p y ≡ set b p y

off_set : (p q z : ℕ) (a b : List ℕ) → Off p a b → Off p (set a q z) (set b q z)
off_set p q z a b h y = go (eqb q p) refl
  where
    go : (x : Bool) → eqb q p ≡ x → set (set a q z) p y ≡ set (set b q z) p y
    go true e =
        let f = eqb-true q p e in
        ap (λ (i : ℕ). set (set a i z) p y) f ∙ set-set a p z y ∙ h y ∙ sym (set-set b p z y) ∙ ap (λ (i : ℕ). set (set b i z) p y) (sym f)
    go false e =
        let f : q ≢ p = eqb-false q p e in
        set_comm a q p z y f ∙ ap (λ (s : List ℕ). set s q z) (h y) ∙ sym (set_comm b q p z y f)

off_widths : (row : Row) (p : ℕ) (a b : List ℕ) → Off p a b → Off p (widths_after row a) (widths_after row b)
unfolding widths_after
off_widths nil p a b h = h
off_widths (agg l cs rest) p a b h = off_widths rest p (widths_after cs a) (widths_after cs b) (off_widths cs p a b h)
off_widths (lit l s rest) p a b h = off_widths rest p a b h
off_widths (rec q s r rest) p a b h =
    off_widths rest p (set (widths_after r a) q (width r)) (set (widths_after r b) q (width r))
    (off_set p q (width r) (widths_after r a) (widths_after r b) (off_widths r p a b h))

-- what a page's entry held before its record was walked does not matter
pub set_after : (row : Row) (c : List ℕ) (p x y : ℕ) → set (widths_after row (set c p x)) p y ≡ set (widths_after row c) p y
set_after row c p x y = off_widths row p (set c p x) c (λ z. set-set c p x z) y

-- ── parts of an image ──

-- The bytes from one place up to another: what `&image[at..end]` holds.
abbrev pub bytes : List ℕ → (at end : ℕ) → List ℕ
bytes img at end = take (end - at) (drop at img)

drop_take : (k n : ℕ) (l : List ℕ) → drop k (take n l) ≡ take (n - k) (drop k l)
drop_take zero n l = let z : n ≡ n - zero = omega arith in ap (λ (i : ℕ). take i l) z
drop_take (suc k) zero l =
    let z : zero - suc k ≡ 0 = omega arith in
    drop-nil (suc k) ∙ sym (ap (λ (i : ℕ). take i (drop (suc k) l)) z)
drop_take (suc k) (suc n) [] = sym (take-nil (suc n - suc k))
drop_take (suc k) (suc n) (x ∷ l) =
    let z : n - k ≡ suc n - suc k = omega arith in
    drop_take k n l ∙ ap (λ (i : ℕ). take i (drop k l)) z

module _ (img : List ℕ) (at end k : ℕ) where
  pub bytes_drop : drop k (bytes img at end) ≡ bytes img (at + k) end
  bytes_drop =
      let z : end - at - k ≡ end - (at + k) = omega arith in
      drop_take k (end - at) (drop at img) ∙ ap (take (end - at - k)) (drop-drop k at img) ∙ ap (λ (i : ℕ). take i (drop (at + k) img)) z

  pub bytes_take : at + k ≤ end → take k (bytes img at end) ≡ bytes img at (at + k)
  bytes_take h =
      let z : k ≡ at + k - at = omega arith in
      take-take k (end - at) (drop at img) (omega arith) ∙ ap (λ (i : ℕ). take i (drop at img)) z

-- ── nodes that are proxies and helpers ──

module _ (img s : List ℕ) (page holder level : ℕ) (w : State) where
  pub node_proxy : passing_kind s holder ≡ 3 → length s ≡ 8 → node_of img s page holder level w ≡ proxy_of img (name_at s 0) page level w
  unfolding node_step
  node_proxy e n = node_eq img s page holder level w ∙ simp (e, eq-eqb _ _ n)

  pub node_helper : passing_kind s holder ≡ 4 → node_of img s page holder level w ≡ list_of img (drop 6 s) page 4 level w
  unfolding node_step
  node_helper e = node_eq img s page holder level w ∙ simp e

  -- a list that starts with no whole node is refused, and so is what follows a refusal
  pub list_stops : (length s ≡ 0 → ⊥) → whole_size s ≡ 0 → (list_of img s page holder level w).walk.left ≡ 0
  unfolding list_step
  list_stops e z = ap (λ (d : Decoded). d.walk.left) (list_eq img s page holder level w) ∙ go (eqb w.left 0) refl
    where
      go : (x : Bool) → eqb w.left 0 ≡ x → (list_step img (decode img) s page holder level w).walk.left ≡ 0
      go true q = simp (ne_eqb _ _ e, q) (eqb-true _ _ q)
      go false q = simp (ne_eqb _ _ e, q, eq-eqb _ _ z)

  pub list_refused : w.left ≡ 0 → list_of img s page holder level w ≡ record { row = nil; walk = w }
  unfolding list_step
  list_refused z = list_eq img s page holder level w ∙ go (eqb (length s) 0) refl
    where
      go : (x : Bool) → eqb (length s) 0 ≡ x → list_step img (decode img) s page holder level w ≡ record { row = nil; walk = w }
      go true q = simp q
      go false q = simp (q, eq-eqb _ _ z)

module _ (img : List ℕ) (p page level : ℕ) (w : State) where
  pub proxy_in : enters_of img p page w ≡ true
      → proxy_of img p page level w ≡ as_rec p (eqb (settled_at img (page_size * p)) 1) (node_of img (record_of img p) p 0 level (with_mark w p))
  unfolding proxy_step
  proxy_in e = simp e

-- ── where a walk over a list stands ──

-- Where the record on a page ends.
abbrev pub record_end : (img : List ℕ) → (page : ℕ) → ℕ
record_end img p = page_size * p + used_at img (page_size * p)

-- A helper's record that is open: its page, the byte of the image at which the list goes on behind its proxy, and how many nodes were passed before it.
pub record Frame : Type 0 where
  pub page : ℕ
  pub to : ℕ
  pub passed : ℕ

abbrev pub frame : (page to passed : ℕ) → Frame
frame p t n = record { page = p; to = t; passed = n }

-- The list's own row stands on `page`, ends at the byte `last` of the image, and its nodes have the level. Of the row that the walk is in, given the records
-- that are open, the innermost first: its page, its holder, where it ends.
module _ (img : List ℕ) (page level last : ℕ) where
  abbrev pub page_in : List Frame → ℕ
  page_in [] = page
  page_in (f ∷ fs) = f.page

  abbrev pub holder_in : List Frame → ℕ
  holder_in [] = 1
  holder_in (f ∷ fs) = 4

  abbrev pub end_in : List Frame → ℕ
  end_in [] = last
  end_in (f ∷ fs) = record_end img f.page

  -- The rest of that row.
  abbrev pub rest_of : (at : ℕ) → State → List Frame → Decoded
  rest_of at w fs = list_of img (bytes img at (end_in fs)) (page_in fs) (holder_in fs) level w

  -- All that is left: the rest of the row, then, out of the record, the rest of its holder's row, and so on. Where a record ends, its page gets how many
  -- nodes were passed since it began.
  unfoldable pub resume : (at n : ℕ) → State → (table : List ℕ) → List Frame → Outcome
  resume at n w c [] = outcome_of (rest_of at w []) c
  resume at n w c (f ∷ fs) =
      let d = rest_of at w (f ∷ fs) in
      let m = n + width d.row in
      resume f.to m d.walk (set (widths_after d.row c) f.page (m - f.passed)) fs

  -- at the list's start all that is left is the list
  pub resume_whole : (at n : ℕ) (w : State) (c : List ℕ) → resume at n w c [] ≡ outcome_of (list_of img (bytes img at last) page 1 level w) c
  unfolding resume
  resume_whole at n w c = refl

  -- two places in one row with the same left of it, the nodes passed counted
  resume_as : (at to n m : ℕ) (w v : State) (c t : List ℕ) (fs : List Frame) → (rest_of at w fs).walk ≡ (rest_of to v fs).walk
      → widths_after (rest_of at w fs).row c ≡ widths_after (rest_of to v fs).row t → n + width (rest_of at w fs).row ≡ m + width (rest_of to v fs).row
      → resume at n w c fs ≡ resume to m v t fs
  unfolding resume
  resume_as at to n m w v c t [] a b k = λ i. outcome (a i) (b i)
  resume_as at to n m w v c t (f ∷ fs) a b k = λ i. resume f.to (k i) (a i) (set (b i) f.page (k i - f.passed)) fs

  -- a walk that is refused stays so
  pub resume_refused : (at n : ℕ) (w : State) (c : List ℕ) (fs : List Frame) → (rest_of at w fs).walk.left ≡ 0 → resume at n w c fs ≡ refused
  unfolding resume
  resume_refused at n w c [] z = simp (eq-eqb _ _ z)
  resume_refused at n w c (f ∷ fs) z =
      let v = (rest_of at w (f ∷ fs)).walk in
      resume_refused f.to _ v _ fs
      (ap (λ (d : Decoded). d.walk.left) (list_refused img (bytes img f.to (end_in fs)) (page_in fs) (holder_in fs) level v z) ∙ z)

  pub resume_over : (at n : ℕ) (w : State) (c : List ℕ) (fs : List Frame) → w.left ≡ 0 → resume at n w c fs ≡ refused
  resume_over at n w c fs z =
      resume_refused at n w c fs
      (ap (λ (d : Decoded). d.walk.left) (list_refused img (bytes img at (end_in fs)) (page_in fs) (holder_in fs) level w z) ∙ z)

  -- no whole node stands there
  pub resume_stop : (at n : ℕ) (w : State) (c : List ℕ) (fs : List Frame) → at < end_in fs → end_in fs ≤ length img → whole_size (bytes img at (end_in fs)) ≡ 0
      → resume at n w c fs ≡ refused
  resume_stop at n w c fs h l z =
      resume_refused at n w c fs (list_stops img (bytes img at (end_in fs)) (page_in fs) (holder_in fs) level w
      (λ e. omega (arith, length-take (end_in fs - at) (drop at img), length-drop at img)) z)

  -- the row is at its end
  row_end : (at : ℕ) (w : State) (fs : List Frame) → end_in fs ≤ at → rest_of at w fs ≡ record { row = nil; walk = w }
  row_end at w fs h = list_none img (bytes img at (end_in fs)) (page_in fs) (holder_in fs) level w (omega (arith, length-take (end_in fs - at) (drop at img)))

  -- and with it the list,
  pub resume_end : (at n : ℕ) (w : State) (c : List ℕ) → last ≤ at → resume at n w c [] ≡ outcome w c
  unfolding resume widths_after
  resume_end at n w c h = ap (λ (d : Decoded). outcome_of d c) (row_end at w [] h)

  -- or the walk comes out of a helper's record, whose width is known now.
  pub resume_out : (at n : ℕ) (w : State) (c : List ℕ) (f : Frame) (fs : List Frame) → end_in (f ∷ fs) ≤ at
      → resume at n w c (f ∷ fs) ≡ resume f.to n w (set c f.page (n - f.passed)) fs
  unfolding resume widths_after
  resume_out at n w c f fs h =
      let e = row_end at w (f ∷ fs) h in
      let k : n + 0 ≡ n = omega arith in
      ap (λ (d : Decoded). resume f.to (n + width d.row) d.walk (set (widths_after d.row c) f.page (n + width d.row - f.passed)) fs) e
      ∙ ap (λ (m : ℕ). resume f.to m w (set c f.page (m - f.passed)) fs) k

  module _ (at n : ℕ) (w : State) (c : List ℕ) (fs : List Frame) (ok : w.left ≡ 0 → ⊥) (size : ℕ) (is : size ≡ whole_size (bytes img at (end_in fs)))
      (some : size ≡ 0 → ⊥) where
    -- the bytes that are left, and the node that they start with
    abbrev left : List ℕ
    left = bytes img at (end_in fs)

    abbrev first : Decoded
    first = node_of img (take size left) (page_in fs) (holder_in fs) level w

    sized : (6 ≤ size) × (size ≤ length left)
    sized = let h = size_long left (ne_eqb _ _ (λ z. some (is ∙ z))) in (omega (arith, h.0), omega (arith, h.1))

    -- past a node
    pub resume_turn : resume at n w c fs ≡ resume (at + size) (n + width first.row) first.walk (widths_after first.row c) fs
    resume_turn =
        let d = rest_of (at + size) first.walk fs in
        let q : list_of img (drop size left) (page_in fs) (holder_in fs) level first.walk ≡ d =
        ap (λ (s : List ℕ). list_of img s (page_in fs) (holder_in fs) level first.walk) (bytes_drop img at (end_in fs) size) in
        let more : rest_of at w fs ≡ before first d =
        list_more img left (page_in fs) (holder_in fs) level w (λ z. omega (arith, sized)) ok (λ z. some (is ∙ z))
        ∙ ap (λ (k : ℕ). let a = node_of img (take k left) (page_in fs) (holder_in fs) level w in
        before a (list_of img (drop k left) (page_in fs) (holder_in fs) level a.walk)) (sym is)
        ∙ ap (before first) q in
        resume_as at (at + size) n (n + width first.row) w first.walk c (widths_after first.row c) fs
        (ap (λ (x : Decoded). x.walk) more)
        (ap (λ (x : Decoded). widths_after x.row c) more ∙ widths-⊹ first.row d.row c)
        (ap (λ (x : Decoded). n + width x.row) more ∙ omega (arith, width-⊹ first.row d.row))

    -- a node that is refused
    pub resume_bad : first.walk.left ≡ 0 → resume at n w c fs ≡ refused
    resume_bad z = resume_turn ∙ resume_over (at + size) _ first.walk _ fs z

    -- into a helper's record: the way back and the count are kept, and the page's entry may hold anything meanwhile
    pub resume_in : (p x : ℕ) → size ≡ 8 → p ≡ name_at (take size left) 0 → passing_kind (take size left) (holder_in fs) ≡ 3
        → enters_of img p (page_in fs) w ≡ true → passing_kind (record_of img p) 0 ≡ 4
        → resume at n w c fs ≡ resume (page_size * p + 6) n (with_mark w p) (set c p x) (frame p (at + size) n ∷ fs)
    unfolding resume widths_after
    resume_in p x eight name proxy enters helper =
        let s = take size left in
        let long : length s ≡ 8 = length-take-le size left sized.1 ∙ eight in
        let b = eqb (settled_at img (page_size * p)) 1 in
        let f = frame p (at + size) n in
        let d = rest_of (page_size * p + 6) (with_mark w p) (f ∷ fs) in
        let used = used_at img (page_size * p) in
        let z : used ≡ page_size * p + used - page_size * p = omega arith in
        let row : list_of img (drop 6 (record_of img p)) p 4 level (with_mark w p) ≡ d =
        ap (λ (k : List ℕ). list_of img k p 4 level (with_mark w p))
        (ap (λ (k : ℕ). drop 6 (take k (drop (page_size * p) img))) z ∙ bytes_drop img (page_size * p) (page_size * p + used) 6) in
        let a : first ≡ as_rec p b d =
        node_proxy img s (page_in fs) (holder_in fs) level w proxy long
        ∙ ap (λ (k : ℕ). proxy_of img k (page_in fs) level w) (sym name)
        ∙ proxy_in img p (page_in fs) level w enters
        ∙ ap (as_rec p b) (node_helper img (record_of img p) p 0 level (with_mark w p) helper ∙ row) in
        let m : n + (width d.row + 0) ≡ n + width d.row = omega arith in
        let k : width d.row ≡ n + width d.row - n = omega arith in
        resume_turn
        ∙ ap (λ (y : Decoded). resume (at + size) (n + width y.row) y.walk (widths_after y.row c) fs) a
        ∙ (λ i. resume (at + size) (m i) d.walk (set (widths_after d.row c) p (k i)) fs)
        ∙ ap (λ (t : List ℕ). resume (at + size) (n + width d.row) d.walk t fs) (sym (set_after d.row c p x (n + width d.row - n)))
