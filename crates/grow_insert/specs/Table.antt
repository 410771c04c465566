-- The table of an insert, with one node more before growth, and the new store's table and map after it.
use Rattle.std.specs.Prelude.{◌≡◌, refl, Bool, true, false, ◌||◌, List, ℕ, ◌+◌, ◌<◌, ◌≤◌, ltb, length, get_or}
use Rattle.std.proofs.Common.{sym, ap, subst, ◌∙◌, arith, lt-ltb, le-ltb}
use Rattle.model.specs.Row.{Row, count, outside, Config}
use Rattle.model.specs.Spot.{fill, Spot}
use Rattle.model.specs.Growth.{Out}
use Rattle.theory_rows.specs.Fits.{Valid}
use Rattle.theory_rows.specs.Image.{once}
use Rattle.theory_rows.specs.Population.{population}
use Rattle.theory_rows.specs.Pages.{bit, reserved}
use Rattle.theory_decoding.specs.Steps.{named_inside, few_nodes}
use Rattle.theory_places.specs.Widths.{Told, Table, told_same}
use Rattle.theory_growth.specs.Chain.{whole_of, beside, along, count_chain, hang}
use Rattle.theory_growth.specs.Told.{Awaits, ToldAlong, told_chain, told_along, around_same}
use Rattle.grow_widths.specs.Raised.{entry_anew, raised, changed_other, raised_along, Raising, hang_length}
use Rattle.grow_map.specs.Mapped.{Right}
use Rattle.grow_groups.specs.Used.{Tables, Holds}
use Rattle.grow_locate.specs.declared.Receiver.{Receiver}
use Rattle.grow_refusals.specs.declared.Admitted.{Admitted}
use Rattle.grow_cascade.specs.Rising.{LeftTables}
use Rattle.theory_decoding.specs.Reading.{reads_valid, reads_length}
use Rattle.theory_growth.specs.Gap.{spot_whole}
use Rattle.model.specs.Common.{path_of}
use Rattle.grow_insert.specs.Answer.{Passed, spot, reads_as, receiver_is}

-- ── one node more at the spot ──

module _ {img path : List ℕ} {child kind origin label : ℕ} {content : List ℕ} {d : Admitted} (p : Passed img path child kind origin label content d)
    {u : List ℕ} (b : Table p.st p.root u) where
  abbrev t : Spot
  t = (spot p).0

  abbrev row : Row
  row = fill t.position t.rest

  -- The table with it.
  abbrev pub more : List ℕ
  more = raised d.receiver.deep t.chain u

  valid : Valid p.st p.root
  valid = reads_valid img p.st p.root p.reads

  pub held : whole_of t ≡ p.root
  held = spot_whole p.root (path_of path) child t (spot p).1

  named : (q : ℕ) → beside t.chain q + along t.chain q + count q row ≡ count q p.root
  named q = sym (count_chain q t.chain row) ∙ ap (count q) held

  alone : (q : ℕ) → beside t.chain q + along t.chain q + count q row ≤ 1
  alone q = omega (arith, named q, once p.st p.root valid q)

  inside : (q : ℕ) → 1 ≤ along t.chain q → q < length u
  inside q h = omega (arith, named q, (named_inside p.st p.root valid q (omega (arith, named q))).1, valid.ranges.many, b.long)

  pub deep : d.receiver.deep ≡ hang t.chain t.position
  deep = ap (λ (r : Receiver). r.deep) (receiver_is p)

  abbrev pub raising : {i : List ℕ} → i ≡ img → Raising i u d.receiver.page d.receiver.deep
  raising e = record {
    st = p.st;
    root = p.root;
    reads = reads_as p e;
    chain = t.chain;
    row = row;
    is = held;
    last = ap (λ (r : Receiver). r.page) (receiver_is p);
    enough = omega (arith, deep, hang_length t.chain t.position);
    long = omega (arith, ap length e, reads_length img p.st p.root p.reads, b.long);
  }

  other : (q : ℕ) → 1 ≤ beside t.chain q + count q row → get_or more q 0 ≡ get_or u q 0
  other q h = changed_other (entry_anew true) d.receiver.deep t.chain u q (omega (arith, alone q))

  pub awaits : Awaits more t
  awaits =
      let told : Told u (whole_of t) = subst (Told u) (sym held) b.told in
      let k = told_chain u t.chain row told in
      record {
        told = told_same u more row (λ q h. other q (omega arith)) k.1;
        around = around_same u more t.chain (λ q h. other q (omega arith)) k.0;
        along = λ new e. subst (λ (n : ℕ). ToldAlong (raised n t.chain u) t.chain (fill t.position new)) (sym deep)
            (raised_along t.chain t.position t.rest new u e (omega (arith, ap population held, few_nodes _ _ valid, valid.ranges.many))
            (λ q. omega (arith, alone q)) inside (told_along u t.chain row told));
      }

-- ── after growth ──

-- What growth leaves are the new store's table and map.
pub left_table : (st : Config) (new : Out) {u : Tables} → Holds st.pages u → LeftTables new u → Table st new.0 u.widths
left_table st new h t = record { long = h.widths; told = t.told }

pub left_map_lem : (st : Config) (new : Out) → ((q : ℕ) → reserved st q + count q new.0 ≡ bit (new.1.used q)) → {u : Tables}
    → LeftTables new u → Right st new.0 u.map
left_map_lem st new tally {u} t q h = t.marked.same q h ∙ go (new.1.used q) (outside st.pages q) (count q new.0) (tally q)
  where
    go : (b o : Bool) (n : ℕ) → bit o + n ≡ bit b → b ≡ (o || ltb 0 n)
    go true true n e = refl
    go true false n e = sym (lt-ltb 0 n (omega arith))
    go false true n e = absurd (omega arith)
    go false false n e = sym (le-ltb 0 n (omega arith))
