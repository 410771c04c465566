-- What a node leads into, by its kind.
use Rattle.std.specs.Prelude.{Result, Ok, Err, OnOk}
use Rattle.std.proofs.lemmas.Result.{IfOk-weaker}
use Rattle.std.specs.Prelude.{◌≡◌, refl, Bool, true, ◌&&◌, List, [], ◌∷◌, ℕ, zero, suc, ◌+◌, ◌-◌, ◌*◌, ◌/◌, ◌≤◌, ◌<◌, length, take, drop}
use Rattle.std.proofs.Math.Path.{sym}
use Rattle.std.proofs.Common.{ap, subst, ◌∙◌, length-drop, take-take, drop-drop, length-take-le}
use Rattle.std.proofs.Math.Bool.{false, and-false}
use Rattle.std.proofs.lemmas.Bool.{false≢true}
use native.Mathlib.Omega.{arith}
use Rattle.std.proofs.Math.Nat.{add-sub_cancel_left}
use Rattle.std.proofs.Math.Seq.{take-nil}
use Rattle.std.proofs.Math.Dec.{leb}
use borrow.Author.Tests.{eq-eqb, ne_eqb, lt-ltb, le-ltb, lt-leb, le-leb}
use Rattle.model.specs.Limits.{page_size, most_levels}
use Rattle.model.specs.Row.{may_stand, standing}
use Rattle.model.specs.Reading.{used_at, name_at}
use Rattle.model.specs.WalkTests.{whole_size, passing_kind, names_of, root_fits, tail_zero}
use Rattle.model.specs.Reasons.{reason_number}
use Rattle.model.specs.declared.Reason.{Reason}
use Rattle.model.specs.Calls.Diagnose.{been, contains, Inside, row, stops, bad_node, past_length, too_deep, bad_proxy, inside}
use Rattle.theory_check.specs.Levels.{record_end}
use Rattle.theory_check.specs.Tests.{is_marked, marked}
use Rattle.theory_check.specs.Steps.{named, passing, size_long}
use Rattle.theory_faults.specs.Reached.{Matches, matches_more}
use Rattle.read_fault_nodes.specs.declared.Holder.TheVariants.{Record, Helper}
use Rattle.read_fault_nodes.specs.declared.Inner.{Inner}
use Rattle.read_fault_nodes.specs.declared.Stop.{Stop}
use Rattle.read_fault_nodes.specs.Rows.{part, Within, Holds, row_at, stop_at, inner_of, Rooted, Opened, Into, proxy, helper, Leads, LeadsTo, record_on}
use Rattle.read_fault_nodes.specs.Rows.{proxy_to, inside_of, next_of, Sized, first_of}

-- ── parts ──

drop_take : (n m : ℕ) (l : List ℕ) → drop n (take m l) ≡ take (m - n) (drop n l)
drop_take zero m l = let e : m ≡ m - 0 = omega arith in ap (λ (k : ℕ). take k l) e
drop_take (suc n) zero l = let e : 0 - suc n ≡ 0 = omega arith in rw e
drop_take (suc n) (suc m) [] = sym (take-nil (suc m - suc n))
drop_take (suc n) (suc m) (x ∷ l) = let e : m - n ≡ suc m - suc n = omega arith in drop_take n m l ∙ ap (λ (k : ℕ). take k (drop n l)) e

module _ (img : List ℕ) (i e n : ℕ) where
  pub drop_part : drop n (part img i e) ≡ part img (i + n) e
  drop_part =
      let k : e - i - n ≡ e - (i + n) = omega arith in
      drop_take n (e - i) (drop i img) ∙ ap (take (e - i - n)) (drop-drop n i img) ∙ ap (λ (m : ℕ). take m (drop (i + n) img)) k

  pub take_part : i + n ≤ e → take n (part img i e) ≡ part img i (i + n)
  take_part h = take-take n (e - i) (drop i img) (omega arith) ∙ ap (λ (m : ℕ). take m (drop i img)) (sym (add-sub_cancel_left i n))

pub length_part : (img : List ℕ) (i e : ℕ) → e ≤ length img → length (part img i e) ≡ e - i
length_part img i e h = length-take-le (e - i) (drop i img) (omega (arith, length-drop i img))

pub no_part : (img : List ℕ) (i e : ℕ) → e ≤ i → length (part img i e) ≡ 0
no_part img i e h = let z : e - i ≡ 0 = omega arith in rw z

-- A later byte of a row is on the same page, and the row from there on is one.
module _ {img : List ℕ} {i e holder level : ℕ} (w : Within img i e holder level) {j : ℕ} (low : i ≤ j) (high : j ≤ e) where
  pub same_page : j / page_size ≡ i / page_size
  same_page = omega (arith, w.fits)

  pub within_rest : (h l : ℕ) → h < 5 → l ≤ most_levels + 1 → Within img j e h l
  within_rest h l k m = record { fits = omega (arith, w.fits); on = omega (arith, w.fits, w.on); held = k; low = m }

pub within_front : {img : List ℕ} {i e holder level : ℕ} → Within img i e holder level → {j : ℕ} → j ≤ e → Within img i j holder level
within_front w h = record { fits = omega (arith, w.fits); on = w.on; held = w.held; low = w.low }

pub within_long : {img : List ℕ} {i e holder level : ℕ} → Within img i e holder level → e ≤ length img
within_long w = omega (arith, w.fits, w.on)

-- ── stops and rows ──

-- What is so whatever came of it.
on_ok : {E P : Type 0} (r : Result Inner E) → P → OnOk r P
on_ok (Ok x) k = k
on_ok (Err e) k = tt

module _ {img : List ℕ} where
  pub to_stop : {w : List ℕ → Inside} {P : Inner → Type 0} {s : Stop} (p : ℕ) (c : Reason) → s ≡ stop_at p c
      → ((reached : List ℕ) → w reached ≡ stops p (reason_number c)) → LeadsTo img w P (Err s)
  to_stop p c e f = record { says = tt; same = λ ps. rw e (f ps) }

  pub leads_stop : {w : List ℕ → Inside} {P : Inner → Type 0} {m n : List ℕ} {s : Stop} (p : ℕ) (c : Reason) → s ≡ stop_at p c
      → ((reached : List ℕ) → Matches m reached → w reached ≡ stops p (reason_number c)) → Leads img w P m n (Err s)
  leads_stop p c e f = record { says = tt; led = λ ps k. record { reached = ps; matches = tt; same = rw e (f ps k) } }

  pub leads_row : {w : List ℕ → Inside} {P : Inner → Type 0} {m : List ℕ} {x : Inner} → P x
      → ((reached : List ℕ) → w reached ≡ inner_of img (Ok x) reached) → Leads img w P m m (Ok x)
  leads_row k f = record { says = k; led = λ ps b. record { reached = ps; matches = b; same = f ps } }

  pub leads_same : {r : Result Inner Stop} {w v : List ℕ → Inside} {P Q : Inner → Type 0} {m n : List ℕ} → ((reached : List ℕ) → v reached ≡ w reached)
      → ((x : Inner) → P x → Q x) → Leads img w P m n r → Leads img v Q m n r
  leads_same {r} e g l = record {
    says = IfOk-weaker r _ _ g l.says;
    led = λ ps k. let d = l.led ps k in record { reached = d.reached; matches = d.matches; same = e ps ∙ d.same };
  }

-- ── a record ──

module _ (img : List ℕ) (rootOk : Bool) (p level left : ℕ) where
  pub record_root : rootOk ≡ false → (reached : List ℕ) → record_on img rootOk p level left reached ≡ stops p bad_node
  unfolding record_on
  record_root e ps = rw e

  pub record_tail : rootOk ≡ true → tail_zero img p ≡ false → (reached : List ℕ) → record_on img rootOk p level left reached ≡ stops p past_length
  unfolding record_on
  record_tail e t ps = rw (e, t)

  module _ (h : Holds img p) (e : rootOk ≡ true) (t : tail_zero img p ≡ true) (u n : ℕ) (used : u ≡ used_at img (page_size * p))
      (size : n ≡ whole_size (part img (page_size * p) (page_size * p + u))) where
    same_record : part img (page_size * p) (page_size * p + u) ≡ take (used_at img (page_size * p)) (drop (page_size * p) img)
    same_record = ap (λ (k : ℕ). take k (drop (page_size * p) img)) (add-sub_cancel_left (page_size * p) u ∙ used)

    long : length (part img (page_size * p) (page_size * p + u)) ≡ u
    long = length_part img (page_size * p) (page_size * p + u) (omega (arith, h.on, h.used)) ∙ add-sub_cancel_left (page_size * p) u

    pub record_part : (n ≡ u → ⊥) → (reached : List ℕ) → record_on img rootOk p level left reached ≡ stops p bad_node
    unfolding record_on
    record_part d ps = rw (e, t, ← same_record, long, ← size, ne_eqb n u d)

    record_is : n ≡ u → (reached : List ℕ)
        → record_on img rootOk p level left reached
        ≡ row (part img (page_size * p) (page_size * p + u)) (page_size * p / page_size) 0 level (been left reached)
    unfolding record_on
    record_is d ps =
        let on : p ≡ page_size * p / page_size = omega arith in
        rw (e, t, ← same_record, long, ← size, eq-eqb n u d) (ap (λ (k : ℕ). row (part img (page_size * p) (page_size * p + u)) k 0 level (been left ps)) on)

    pub record_leads : n ≡ u
        → LeadsTo img (record_on img rootOk p level left) (Rooted img p level left) (Ok (row_at (page_size * p) (page_size * p + u) Record level left))
    record_leads d = record {
      says = record {
        is = ap (λ (k : ℕ). row_at (page_size * p) (page_size * p + k) Record level left) used;
        whole = ap (λ (k : ℕ). whole_size (part img (page_size * p) (page_size * p + k))) (sym used) ∙ sym size ∙ d ∙ used;
      };
      same = record_is d;
    }

pub record_within : {img : List ℕ} {p level : ℕ} → Holds img p → level ≤ most_levels + 1 → Within img (page_size * p) (record_end img p) 0 level
record_within h low = record { fits = omega (arith, h.used); on = omega (arith, h.on); held = omega arith; low = low }

-- ── a proxy ──

pub holds : (img : List ℕ) (p page : ℕ) → names_of img p page ≡ true → Holds img p
holds img p page e = let n = named img p page e in record { few = n.low; on = n.inside; used = n.used }

module _ (img : List ℕ) (p page level left : ℕ) where
  pub proxy_names : names_of img p page ≡ false → (reached : List ℕ) → proxy_to img p page level left reached ≡ stops page bad_proxy
  unfolding proxy_to
  proxy_names e ps = rw e

  pub proxy_left : left < 2 → (reached : List ℕ) → proxy_to img p page level left reached ≡ stops page bad_proxy
  unfolding proxy_to
  proxy_left h ps = rw (lt-leb 2 left h, and-false (names_of img p page))

  module _ (m : List ℕ) where
    pub proxy_again : names_of img p page ≡ true → is_marked m p ≡ true → (reached : List ℕ) → Matches m reached
        → proxy_to img p page level left reached ≡ stops page bad_proxy
    unfolding proxy_to
    proxy_again e t ps k =
        rw (sym (k.same p (named img p page e).low) ∙ t, and-false (names_of img p page && leb 2 left))

    pub proxy_leads : {n : List ℕ} {r : Result Inner Stop} {root : Bool} → names_of img p page ≡ true → 2 ≤ left → is_marked m p ≡ false → n ≡ marked m p
        → root ≡ root_fits img p → LeadsTo img (record_on img root p level (left - 1)) (Rooted img p level (left - 1)) r
        → Leads img (proxy_to img p page level left) (Opened img p level left m n) m n r
    unfolding proxy_to record_on
    proxy_leads {n} {r} {root} e h t d q l = record {
      says = IfOk-weaker r _ _ (λ x z. record { holds = holds img p page e; fresh = t; marks = d; room = h; root = z }) l.says;
      led = λ ps k.
          let few = (named img p page e).low in
          let new : contains ps p ≡ false = sym (k.same p few) ∙ t in
          record {
            reached = p ∷ ps;
            matches = on_ok r (rw d (matches_more k p few));
            same = rw (e, le-leb 2 left h, new, ← q) (l.same (p ∷ ps));
          };
    }

-- ── the table ──

-- A proxy is no record's root, and a helper nothing else.
not_root : (s : List ℕ) → passing_kind s 0 ≡ 3 → ⊥
unfolding may_stand standing
not_root s e = false≢true (passing s 0 3 e (λ z. omega arith)).may

only_root : (s : List ℕ) (holder : ℕ) → holder < 5 → passing_kind s holder ≡ 4 → holder ≡ 0
unfolding may_stand standing
only_root s holder h e = go holder h (passing s holder 4 e (λ z. omega arith)).may
  where
    go : (k : ℕ) → k < 5 → may_stand k 4 ≡ true → k ≡ 0
    go zero h m = refl
    go (suc zero) h m = absurd (false≢true m)
    go (suc (suc zero)) h m = absurd (false≢true m)
    go (suc (suc (suc zero))) h m = absurd (false≢true m)
    go (suc (suc (suc (suc zero)))) h m = absurd (false≢true m)
    go (suc (suc (suc (suc (suc k))))) h m = absurd (omega arith)

-- ── a node ──

module _ (img : List ℕ) (i next holder level left kind : ℕ) (is : kind ≡ passing_kind (part img i next) holder) where
  abbrev To : Inside → List ℕ → Type 0
  To w ps = inside_of img i next holder level left ps ≡ w

  pub inside_none : kind ≡ 0 → (reached : List ℕ) → To (stops (i / page_size) bad_node) reached
  unfolding inside_of inside
  inside_none z ps = rw (← is, z)

  pub inside_size : kind ≡ 3 → (length (part img i next) ≡ 8 → ⊥) → (reached : List ℕ) → To (stops (i / page_size) bad_node) reached
  unfolding inside_of inside
  inside_size z d ps = rw (← is, z, ne_eqb (length (part img i next)) 8 d)

  pub inside_proxy : kind ≡ 3 → length (part img i next) ≡ 8 → (p : ℕ) → p ≡ name_at (part img i next) 0 → (reached : List ℕ)
      → To (proxy_to img p (i / page_size) level left reached) reached
  unfolding inside_of inside proxy_to
  inside_proxy z d p e ps = rw (← is, z, eq-eqb (length (part img i next)) 8 d, e)

  module _ (w : Within img i next holder level) (long : i + 6 ≤ next) where
    pub into_proxy : {m n : List ℕ} {x : Inner} (p : ℕ) → kind ≡ 3 → length (part img i next) ≡ 8 → Opened img p level left m n x
        → Into img i next holder level left m n x
    into_proxy p z d o =
        proxy p (λ h. not_root (part img i next) (ap (passing_kind (part img i next)) (sym h) ∙ sym is ∙ z))
        (omega (arith, length_part img i next (within_long w))) o

    pub into_helper : {m : List ℕ} {x : Inner} → kind ≡ 4 → x ≡ row_at (i + 6) next Helper level left → Into img i next holder level left m m x
    into_helper z q = helper (only_root (part img i next) holder w.held (sym is ∙ z)) refl q

    below : {h l : ℕ} (ps : List ℕ)
        → row (drop 6 (part img i next)) (i / page_size) h l (been left ps) ≡ row (part img (i + 6) next) ((i + 6) / page_size) h l (been left ps)
    below ps = rw (drop_part img i next 6, same_page w {j = i + 6} (omega arith) long)

    pub inside_helper : kind ≡ 4 → (reached : List ℕ) → To (row (part img (i + 6) next) ((i + 6) / page_size) 4 level (been left reached)) reached
    unfolding inside_of inside
    inside_helper z ps = rw (← is, z) (below ps)

    module _ (none : kind ≡ 0 → ⊥) (three : kind ≡ 3 → ⊥) (four : kind ≡ 4 → ⊥) where
      pub inside_deep : most_levels < level → (reached : List ℕ) → To (stops (i / page_size) too_deep) reached
      unfolding inside_of inside
      inside_deep d ps = rw (← is, ne_eqb kind 0 none, ne_eqb kind 3 three, ne_eqb kind 4 four, lt-ltb most_levels level d)

      pub inside_literal : level ≤ most_levels → kind ≡ 2 → (reached : List ℕ)
          → To (row (part img next next) (next / page_size) 2 level (been left reached)) reached
      unfolding inside_of inside
      inside_literal d z ps =
          let none : next - next ≡ 0 = omega arith in
          rw (← is, z, le-ltb most_levels level d, none, same_page w {j = next} (omega arith) (omega arith))

      pub inside_aggregate : level ≤ most_levels → (kind ≡ 2 → ⊥) → (reached : List ℕ)
          → To (row (part img (i + 6) next) ((i + 6) / page_size) 1 (level + 1) (been left reached)) reached
      unfolding inside_of inside
      inside_aggregate d z ps =
          rw (← is, ne_eqb kind 0 none, ne_eqb kind 3 three, ne_eqb kind 4 four, le-ltb most_levels level d, ne_eqb kind 2 z) (below ps)

-- ── a row's first node ──

module _ (img : List ℕ) (i stop holder level left n : ℕ) (is : n ≡ whole_size (part img i stop)) where
  pub first_none : n ≡ 0 → (reached : List ℕ) → first_of img i stop holder level left reached ≡ stops (i / page_size) bad_node
  unfolding first_of
  first_none z ps = rw (eq-eqb (whole_size (part img i stop)) 0 (sym is ∙ z))

  pub first_some : (n ≡ 0 → ⊥) → (reached : List ℕ) → first_of img i stop holder level left reached ≡ inside_of img i (i + n) holder level left reached
  unfolding first_of
  first_some z ps =
      rw (ne_eqb (whole_size (part img i stop)) 0 (λ e. z (is ∙ e)))
      (ap (λ (k : ℕ). inside_of img i (i + k) holder level left ps) (sym is))

  -- A node that has a size ends in its row.
  pub first_sized : Within img i stop holder level → (n ≡ 0 → ⊥) → (i + 6 ≤ i + n) × (i + n ≤ stop)
  first_sized w z =
      let h = size_long (part img i stop) (ne_eqb _ 0 (λ e. z (is ∙ e))) in
      (omega (arith, h.0), omega (arith, h.0, h.1, length_part img i stop (within_long w)))

  pub first_says : {m v : List ℕ} {x : Inner} → Within img i stop holder level → (n ≡ 0 → ⊥) → Into img i (i + n) holder level left m v x
      → Into img i (next_of img i stop) holder level left m v x × Sized img i stop
  first_says {m} {v} {x} w z k =
      let s = first_sized w z in
      (subst (λ (k : ℕ). Into img i (i + k) holder level left m v x) is k, (omega (arith, s.0), omega (arith, s.1)))
