-- One node more in a record, or one less, and in the helpers that show it through their proxies.
use Rattle.std.specs.Prelude.{◌≡◌, refl, Bool, false, List, length, get_or, set}
use Rattle.std.proofs.Math.Path.{ap}
use Rattle.std.proofs.Common.{◌∙◌, arith, eq-eqb}
use Rattle.std.proofs.Math.Bool.{true, cond}
use Prim.Native.Nat.{ℕ, zero, suc, ◌+◌, ◌*◌, ◌-◌, ◌<◌, ◌≤◌}
use Rattle.std.proofs.Math.ListN.{length-set}
use Rattle.std.proofs.Math.Seq.{get_or-set_same, get_or-set_other}
use Rattle.model.specs.Limits.{page_size}
use Rattle.model.specs.Row.{Row, agg, rec, ◌⊹◌, Config}
use Rattle.model.specs.Reading.{Reads, back_at}
use Rattle.model.specs.Tree.{width}
use Rattle.model.specs.Spot.{Position, here, inside, fill, Chain, top, below, last_page, whole, last_holder}
use Rattle.theory_rows.specs.Laws.{width-⊹}
use Rattle.theory_rows.specs.Population.{population, width_population}
use Rattle.theory_growth.specs.Chain.{along, hang}
use Rattle.theory_growth.specs.Told.{ToldAlong, along_own, along_same, along_width, population_whole}
use Rattle.theory_layout.specs.Here.{OnPage}
use Rattle.theory_insert_point.specs.Bytes.{chain_page}
use Rattle.theory_insert_point.specs.Nesting.{chain_length}
use Rattle.grow_widths.specs.Tally.{most_entry, entry_of, entry_is}

-- An entry for one node more, and for one less: it stays in range.
abbrev pub entry_anew : (more : Bool) → (entry : ℕ) → ℕ
entry_anew true n = entry_of (n + 1)
entry_anew false n = n - 1

-- A step's results are those of one function of the entry.
pub record Makes (results : ℕ → ℕ → Type 0) : Type 0 where
  pub of : ℕ → ℕ
  pub is : (x y : ℕ) → results x y → y ≡ of x

-- The table with the entries of so many records changed, the last first.
unfoldable pub changed : (f : ℕ → ℕ) → (n : ℕ) → Chain → (table : List ℕ) → List ℕ
changed f zero c u = u
changed f (suc n) top u = u
changed f (suc n) (below c s q b rest) u = changed f n c (set u q (f (get_or u q 0)))

-- With one node more in each, and with one less.
abbrev pub raised : (n : ℕ) → Chain → (table : List ℕ) → List ℕ
raised = changed (entry_anew true)

abbrev pub lowered : (n : ℕ) → Chain → (table : List ℕ) → List ℕ
lowered = changed (entry_anew false)

module _ (f : ℕ → ℕ) where
  -- What each entry that is set keeps, all of them keep.
  changed_keeps : (P : List ℕ → Type 0) (n : ℕ) (c : Chain) (u : List ℕ)
      → ((q : ℕ) (w : List ℕ) → 1 ≤ along c q → P w → P (set w q (f (get_or w q 0)))) → P u → P (changed f n c u)
  unfolding changed
  changed_keeps P zero c u k p = p
  changed_keeps P (suc n) top u k p = p
  changed_keeps P (suc n) (below c s q b rest) u k p = changed_keeps P n c _ (λ x w h. k x w (omega arith)) (k q u (along_own c s q b rest) p)

  pub changed_long : (n : ℕ) (c : Chain) (u : List ℕ) → length (changed f n c u) ≡ length u
  changed_long n c u = changed_keeps (λ w. length w ≡ length u) n c u (λ q w h e. length-set w q _ ∙ e) refl

  -- Only the chain's pages change.
  pub changed_other : (n : ℕ) (c : Chain) (u : List ℕ) (p : ℕ) → along c p ≡ 0 → get_or (changed f n c u) p 0 ≡ get_or u p 0
  changed_other n c u p e =
      changed_keeps (λ w. get_or w p 0 ≡ get_or u p 0) n c u (λ q w h k. get_or-set_other w q p _ 0 (λ z. omega (arith, ap (along c) z)) ∙ k) refl

  -- What the change makes of the number of nodes that a record shows, for each record that shows the position, if a new row takes the old one's place there.
  abbrev Recounted : Chain → Position → (old new : Row) → Type 0
  Recounted top s old new = Unit {0}
  Recounted (below c s q b rest) (inside left h right i) old new = Unit {0}
  Recounted (below c s q b rest) (here left) old new =
      (f (width (left ⊹ old)) ≡ width (left ⊹ new)) × Recounted c s (rec q b (left ⊹ old) rest) (rec q b (left ⊹ new) rest)

  -- A table that is right on the chain's pages is right on them with the new row at the position.
  changed_along : (c : Chain) (s : Position) (old new : Row) (u : List ℕ) → Recounted c s old new → ((q : ℕ) → along c q ≤ 1)
      → ((q : ℕ) → 1 ≤ along c q → q < length u) → ToldAlong u c (fill s old) → ToldAlong (changed f (hang c s) c u) c (fill s new)
  unfolding changed
  changed_along top s old new u e once low t = tt
  changed_along (below c s q b rest) (inside left h right i) old new u e once low t =
      along_width u (below c s q b rest) (fill (inside left h right i) old) (fill (inside left h right i) new)
      (omega (arith, width-⊹ left (agg h (fill i old) right), width-⊹ left (agg h (fill i new) right))) t
  changed_along (below c s q b rest) (here left) old new u e once low t =
      let x = left ⊹ old in
      let y = left ⊹ new in
      let v = f (get_or u q 0) in
      let own = along_own c s q b rest in
      let alone : cond true 1 0 + along c q ≤ 1 = rw (eq-eqb q q refl) at (once q) in
      let apart : along c q ≡ 0 = omega (arith, alone) in (
        changed_other (hang c s) c (set u q v) q apart ∙ get_or-set_same u q v 0 (low q own) ∙ ap f t.0 ∙ e.0,
        changed_along c s (rec q b x rest) (rec q b y rest) (set u q v) e.1 (λ p. omega (arith, once p))
            (λ p h. omega (arith, length-set u q v, low p (omega arith)))
            (along_same u (set u q v) c (fill s (rec q b x rest))
            (λ p h. get_or-set_other u q p v 0 (λ k. omega (arith, ap (along c) k))) t.1),
      )

-- ── one node more ──

raised_recounted : (c : Chain) (s : Position) (old new : Row) → width new ≡ width old + 1 → population (whole c (fill s old)) < most_entry
    → Recounted (entry_anew true) c s old new
raised_recounted top s old new e few = tt
raised_recounted (below c s q b rest) (inside left h right i) old new e few = tt
raised_recounted (below c s q b rest) (here left) old new e few =
    let x = left ⊹ old in
    let w = width-⊹ left old in
    let z = width-⊹ left new in (
      entry_is (width x + 1) (omega (arith, width_population x, population_whole (below c s q b rest) x)) ∙ omega arith,
      raised_recounted c s (rec q b x rest) (rec q b (left ⊹ new) rest) (omega arith) few,
    )

-- A table that is right on the chain's pages is right on them with one node more at the position.
pub raised_along : (c : Chain) (s : Position) (old new : Row) (u : List ℕ) → width new ≡ width old + 1 → population (whole c (fill s old)) < most_entry
    → ((q : ℕ) → along c q ≤ 1) → ((q : ℕ) → 1 ≤ along c q → q < length u) → ToldAlong u c (fill s old) → ToldAlong (raised (hang c s) c u) c (fill s new)
raised_along c s old new u e few = changed_along (entry_anew true) c s old new u (raised_recounted c s old new e few)

-- ── one node less ──

lowered_recounted : (c : Chain) (s : Position) (old new : Row) → width old ≡ width new + 1 → Recounted (entry_anew false) c s old new
lowered_recounted top s old new e = tt
lowered_recounted (below c s q b rest) (inside left h right i) old new e = tt
lowered_recounted (below c s q b rest) (here left) old new e =
    let x = left ⊹ old in
    let w = width-⊹ left old in
    let z = width-⊹ left new in
    (omega arith, lowered_recounted c s (rec q b x rest) (rec q b (left ⊹ new) rest) (omega arith))

-- A table that is right on the chain's pages is right on them with one node less at the position.
pub lowered_along : (c : Chain) (s : Position) (old new : Row) (u : List ℕ) → width old ≡ width new + 1
    → ((q : ℕ) → along c q ≤ 1) → ((q : ℕ) → 1 ≤ along c q → q < length u) → ToldAlong u c (fill s old) → ToldAlong (lowered (hang c s) c u) c (fill s new)
lowered_along c s old new u e = changed_along (entry_anew false) c s old new u (lowered_recounted c s old new e)

-- ── the way up ──

-- The image reads as a store, with a chain of at least `deep` records below the root record that ends on the page.
pub record Raising (img u : List ℕ) (page deep : ℕ) : Type 0 where
  pub st : Config
  pub root : Row
  pub reads : Reads img st root
  pub chain : Chain
  pub row : Row
  pub is : whole chain row ≡ root
  pub last : page ≡ last_page chain
  pub enough : deep ≤ chain_length chain
  pub long : length img ≤ page_size * length u

pub page_of_lem : {img u : List ℕ} {page deep : ℕ} (w : Raising img u page deep) → OnPage img (last_page w.chain) (last_holder w.chain) w.row
page_of_lem {img} w = chain_page img w.st w.root w.reads w.chain w.row w.is

-- The rest of the way leads to the same table.
pub record Rest (f : ℕ → ℕ) (img u goal : List ℕ) (page deep : ℕ) : Type 0 where
  pub now : Raising img u page deep
  pub goes : changed f deep now.chain u ≡ goal

-- One record up.
pub change_step : {f : ℕ → ℕ} {img u goal : List ℕ} {page : ℕ} (deep : ℕ) → Rest f img u goal page deep → 0 < deep → (h v : ℕ)
    → h ≡ back_at img (page_size * page)
    → v ≡ f (get_or u page 0)
    → Rest f img (set u page v) goal h (deep - 1)
unfolding changed
change_step zero r some h v e n = absurd (omega arith)
change_step {f} {img} {u} {goal} {page} (suc deep) r some h v e n = go r.now.chain r.now.is r.now.last r.now.enough r.goes
  where
    go : (c : Chain) → whole c r.now.row ≡ r.now.root → page ≡ last_page c → suc deep ≤ chain_length c → changed f (suc deep) c u ≡ goal
        → Rest f img (set u page v) goal h (suc deep - 1)
    go top is last enough goes = absurd (omega arith)
    go (below c s q b rest) is last enough goes =
        let d : suc deep - 1 ≡ deep = omega arith in
        let k : Rest f img (set u q (f (get_or u q 0))) goal h deep = record {
          now = record {
            st = r.now.st;
            root = r.now.root;
            reads = r.now.reads;
            chain = c;
            row = fill s (rec q b r.now.row rest);
            is = is;
            last = e ∙ ap (λ (n : ℕ). back_at img (page_size * n)) last
                ∙ (chain_page img r.now.st r.now.root r.now.reads (below c s q b rest) r.now.row is).back;
            enough = omega arith;
            long = omega (arith, length-set u q (f (get_or u q 0)), r.now.long);
          };
          goes = goes;
        } in
        rw (d, n, last) k

-- At its end.
pub change_end : {f : ℕ → ℕ} {img u goal : List ℕ} {page : ℕ} (deep : ℕ) → Rest f img u goal page deep → deep ≤ 0 → u ≡ goal
unfolding changed
change_end zero r e = r.goes
change_end (suc deep) r e = absurd (omega arith)

-- A chain has the records that show a position of the last one.
pub hang_length : (c : Chain) (s : Position) → hang c s ≤ chain_length c
hang_length top s = omega arith
hang_length (below c s q b rest) (here left) = omega (arith, hang_length c s)
hang_length (below c s q b rest) (inside left h right t) = omega arith
