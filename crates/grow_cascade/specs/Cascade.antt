-- What the loop goes by: growth from the record it is at gives what it gave from the first one.
use Rattle.std.specs.Prelude.{◌≡◌, refl, Bool, true, false, ◌||◌, List, ℕ, ◌+◌, ◌<◌, length, take, ℤ}
use Rattle.std.proofs.Common.{sym, ap, subst, ◌∙◌, true≢false}
use Rattle.model.specs.Limits.{capacity}
use Rattle.model.specs.Row.{Row, record_size, record_bytes, Config}
use Rattle.model.specs.Reading.{page_of}
use Rattle.model.specs.Growth.{lean_of, Work, Out, rise}
use Rattle.base_numbers.specs.Over.{over}
use Rattle.model.specs.Spot.{Chain, top, below, last_holder}
use Rattle.theory_growth.specs.Chain.{last_settled}
use Rattle.theory_page_memory.specs.Memory.{Mem, rise_mem}
use Rattle.base_layout.specs.declared.Growing.{Growing}
use Rattle.base_layout.specs.Growing.{near_to}
use Rattle.grow_replace_proxy.specs.Lift.{Lift, lifted}
use Rattle.grow_groups.specs.Used.{Tables, AsLong}
use Rattle.grow_write_back.specs.Off.{SplitOff}
use Rattle.grow_cascade.specs.declared.Grown.{Grown}
use Rattle.grow_cascade.specs.Rising.{Rising, LeftTables, Risen}
use Rattle.grow_split_point.specs.Lean.{lean_now}
use Rattle.grow_cascade.specs.Up.{up_lift, up_rising, next_goal, next_mem, split_after, split_long}

-- A record of a store has a new row, in the buffer l, and is to be written, or split.
pub record Cascade (g : Growing) (len : ℕ) (filled : Bool) (counts : ℕ) (leans : ℤ) (l : List ℕ) (u : Tables) (img : List ℕ) : Type 0 where
  pub st : Config
  pub was : List ℕ
  pub root : Row
  pub chain : Chain
  pub old : Row
  pub row : Row
  pub work : Work
  pub rising : Rising st was root chain old row work g len filled counts leans l u img

module _ {g : Growing} {len : ℕ} {filled : Bool} {counts : ℕ} {leans : ℤ} {l : List ℕ} {u : Tables} {img : List ℕ} (w : Cascade g len filled counts leans l u img) where
  -- What growth gives from here upwards,
  abbrev pub goal_of : Out
  goal_of = rise w.st w.chain (w.row, w.work)

  -- and the pages that it leaves.
  abbrev pub mem_of : Mem
  mem_of = rise_mem w.st w.chain w.row w.work (page_of img)

-- The loop is at another record, with the same goal.
pub record Onward (goal : Out) (mem : Mem) (img₀ : List ℕ) (u₀ : Tables) (g : Growing) (len : ℕ) (filled : Bool) (counts : ℕ) (leans : ℤ)
    (l : List ℕ) (u : Tables) (img : List ℕ) : Type 0 where
  pub now : Cascade g len filled counts leans l u img
  pub goes : goal_of now ≡ goal
  pub writes : g.dry ≡ false → mem_of now ≡ mem
  pub same : length img ≡ length img₀
  pub still : g.dry ≡ true → img ≡ img₀
  pub as_long : AsLong u₀ u
  pub rests : g.dry ≡ true → u.widths ≡ u₀.widths

pub onward_start : {g : Growing} {len : ℕ} {filled : Bool} {counts : ℕ} {leans : ℤ} {l : List ℕ} {u : Tables} {img : List ℕ} (w : Cascade g len filled counts leans l u img)
    → Onward (goal_of w) (mem_of w) img u g len filled counts leans l u img
onward_start w = record {
  now = w;
  goes = refl;
  writes = λ _. refl;
  same = refl;
  still = λ _. refl;
  as_long = record { widths = refl; map = refl };
  rests = λ _. refl;
}

-- Growth stops here.
pub onward_end : {goal : Out} {mem : Mem} {img₀ : List ℕ} {u₀ : Tables} {g : Growing} {len : ℕ} {filled : Bool} {counts : ℕ} {leans : ℤ} {l : List ℕ}
    {u : Tables} {img : List ℕ} (o : Onward goal mem img₀ u₀ g len filled counts leans l u img) → {r : Grown} {new : List ℕ} {u' : Tables}
    → Risen (goal_of o.now) (mem_of o.now) g.dry r img new u u' → Risen goal mem g.dry r img₀ new u₀ u'
onward_end o {u' = u'} r = record {
  full = r.full ∙ ap (λ (x : Out). x.1.full) o.goes;
  splits = r.splits ∙ ap (λ (x : Out). x.1.splits) o.goes;
  lean = r.lean ∙ ap (λ (x : Out). x.1.lean) o.goes;
  same = r.same ∙ o.same;
  still = λ z. r.still z ∙ o.still z;
  pages = λ z. r.pages z ∙ o.writes z;
  table = λ z. subst (λ (x : Out). LeftTables x u') o.goes (r.table z);
  as_long = record { widths = r.as_long.widths ∙ o.as_long.widths; map = r.as_long.map ∙ o.as_long.map };
  rests = λ z. r.rests z ∙ o.rests z;
}

-- ── after the split ──

-- The record above can take the separator, and the loop goes on with it.
pub record Upward (goal : Out) (mem : Mem) (img₀ : List ℕ) (u₀ : Tables) (g : Growing) (holder end : ℕ) (filled : Bool) (counts : ℕ) (leans : ℤ)
    (l : List ℕ) (u : Tables) (img out : List ℕ) : Type 0 where
  pub lift : Lift img holder g.near (take end out)
  pub next : (len : ℕ) (new : List ℕ) → let above = lifted img holder g.near (take end out) lift in len ≡ record_size above
      → new ≡ over 0 (record_bytes above) l
      → Onward goal mem img₀ u₀ (near_to g holder) len filled counts leans new u img

module _ {goal : Out} {mem : Mem} {img₀ : List ℕ} {u₀ : Tables} {g : Growing} {len : ℕ} {filled : Bool} {counts : ℕ} {leans : ℤ} {l : List ℕ}
    {u : Tables} {img : List ℕ} (o : Onward goal mem img₀ u₀ g len filled counts leans l u img) where
  abbrev k : Cascade g len filled counts leans l u img
  k = o.now

  pub upward : {holder end : ℕ} {full : Bool} {leans' : ℤ} {u' : Tables} {img₁ out₀ out₁ : List ℕ} → capacity < record_size k.row → last_settled k.chain ≡ false
      → holder ≡ last_holder k.chain → SplitOff k.st g k.row k.work (last_settled k.chain) end full u u' img img₁ out₀ out₁
      → leans' ≡ lean_now counts leans (lean_of k.st k.row)
      → Upward goal mem img₀ u₀ g holder end (filled || full) (counts + 1) leans' l u' img₁ out₁
  upward {holder} {end} {full} {leans'} {u'} {img₁} {out₀} {out₁} big un at sev le = go k.chain k.rising o.goes o.writes un at sev
    where
      go : (c : Chain) → Rising k.st k.was k.root c k.old k.row k.work g len filled counts leans l u img
          → rise k.st c (k.row, k.work) ≡ goal → (g.dry ≡ false → rise_mem k.st c k.row k.work (page_of img) ≡ mem)
          → last_settled c ≡ false → holder ≡ last_holder c → SplitOff k.st g k.row k.work (last_settled c) end full u u' img img₁ out₀ out₁
          → Upward goal mem img₀ u₀ g holder end (filled || full) (counts + 1) leans' l u' img₁ out₁
      go top w y m un at sev = absurd (true≢false un)
      go (below c s q true rest) w y m un at sev = absurd (true≢false un)
      go (below c s q false rest) w y m un at sev =
          let at-q = w.at in
          let w = subst (λ (p : ℕ). Rising k.st k.was k.root (below c s q false rest) k.old k.row k.work (near_to g p) len filled counts leans l u img) at-q w in
          let cut = subst (λ (p : ℕ). SplitOff k.st (near_to g p) k.row k.work false end full u u' img img₁ out₀ out₁) at-q sev in
          subst (λ (p : ℕ × ℕ). Upward goal mem img₀ u₀ (near_to g p.0) p.1 end (filled || full) (counts + 1) leans' l u' img₁ out₁)
          (λ i. (sym at-q i, sym at i)) (record {
            lift = up_lift g w big cut;
            next = λ len' new e z. record {
              now = record {
                st = k.st;
                was = k.was;
                root = k.root;
                chain = c;
                old = _;
                row = _;
                work = _;
                rising = up_rising g w big cut le e z;
              };
              goes = next_goal g w big cut ∙ y;
              writes = λ d. next_mem g w big cut d ∙ m d;
              same = (split_after g w big cut).long ∙ o.same;
              still = λ d. (split_after g w big cut).same d ∙ o.still d;
              as_long = let l = split_long g w big cut in record { widths = l.widths ∙ o.as_long.widths; map = l.map ∙ o.as_long.map };
              rests = λ d. cut.rests d ∙ o.rests d;
            };
          })
