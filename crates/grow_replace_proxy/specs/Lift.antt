-- A separator in the place of the proxy to the record that was split, in the record that holds the proxy.
use Rattle.std.specs.Prelude.{◌≡◌, Bool, List, ℕ, ◌+◌, ◌*◌, ◌-◌, ◌<◌, ◌≤◌, length, take, drop}
use Rattle.std.proofs.Common.{ap, ◌∙◌, arith}
use Rattle.theory_row_bytes.specs.RowAt.{RecordIs, record_bytes_lem, page_record, number_on, RowIs}
use Rattle.model.specs.Limits.{page_size, capacity}
use Rattle.model.specs.Row.{Row, rec, ◌⊹◌, size, base, record_size, record_bytes, Held, record_page, count, record_on}
use Rattle.model.specs.Reading.{page_of, used_at}
use Rattle.theory_rows.specs.Laws.{length_bytes}
use Rattle.theory_rows.specs.Image.{length_record}
use Rattle.theory_decoding.specs.Decode.{used_page}
use Rattle.theory_layout.specs.Here.{PageIn}
use Rattle.model.specs.Spot.{Position, fill}
use Rattle.grow_splice.specs.Position.{at, parent}
use Rattle.grow_splice.specs.Splice.{KeepsRoot, Splicing, put_for}
use Rattle.grow_replace_proxy.specs.Seek.{NamesOnce}
use Rattle.grow_replace_proxy.specs.Inner.{Filled}

-- A record that stands on its page: its length, as the page says it,
module _ (img : List ℕ) (h : Held) (is : page_of img h.page ≡ record_page h) (small : record_size h.row ≤ capacity) where
  pub page_used : used_at img (page_size * h.page) ≡ record_size h.row
  page_used = number_on img h.page is (capacity + 2) (omega arith) ∙ used_page h small

  -- and its bytes.
  pub page_part : (n : ℕ) → n ≡ used_at img (page_size * h.page)
      → take (page_size * h.page + n - page_size * h.page) (drop (page_size * h.page) img) ≡ record_bytes h.row
  page_part n e =
      let z : page_size * h.page + n - page_size * h.page ≡ record_size h.row = omega (arith, page_used) in
      rw z (record_bytes_lem (page_record img h is))

-- The record on page `holder` names `page` one time, by a proxy at the position; the bytes of `put` are to take the proxy's place.
pub record Lift (img : List ℕ) (holder page : ℕ) (sep : List ℕ) : Type 0 where
  pub position : Position
  pub settled : Bool
  pub old : Row
  pub rest : Row
  pub put : Row
  pub above : Bool
  pub up : ℕ
  pub on : PageIn img holder
  pub is : page_of img holder ≡ record_page (record_on holder above up (fill position (rec page settled old rest)))
  pub small : record_size (fill position (rec page settled old rest)) ≤ capacity
  pub once : count page (fill position (rec page settled old rest)) ≡ 1
  pub names : (q : ℕ) → 1 ≤ count q (fill position (rec page settled old rest)) → q < 65536
  pub comes : RowIs sep put
  pub most : size put ≤ 512
  pub root : KeepsRoot position (rec page settled old rest) (put ⊹ rest)

-- The record's row with `put` in the proxy's place.
abbrev pub lifted : (img : List ℕ) (holder page : ℕ) (sep : List ℕ) → Lift img holder page sep → Row
lifted img holder page sep w = fill w.position (w.put ⊹ w.rest)

module _ (img : List ℕ) (holder page : ℕ) (sep : List ℕ) (w : Lift img holder page sep) where
  -- The record's row before.
  abbrev pub before : Row
  before = fill w.position (rec page w.settled w.old w.rest)

  abbrev held : Held
  held = record_on holder w.above w.up before

  pub used : used_at img (page_size * holder) ≡ record_size before
  used = page_used img held w.is w.small

  pub part : (n : ℕ) → n ≡ used_at img (page_size * holder)
      → take (page_size * holder + n - page_size * holder) (drop (page_size * holder) img) ≡ record_bytes before
  part n e = page_part img held w.is w.small n e

  pub sep_most : length sep ≤ 512
  sep_most = omega (arith, w.most, length_bytes w.put, ap length w.comes)

  module _ (l : List ℕ) (e : RecordIs l before) where
    pub long : length l ≡ record_size before
    long = ap length e ∙ length_record before

    -- the witnesses of the three calls
    abbrev pub names_once : NamesOnce l page
    names_once = record {
      position = w.position;
      settled = w.settled;
      old = w.old;
      rest = w.rest;
      is = e;
      small = w.small;
      once = w.once;
      names = w.names;
    }

    abbrev pub filled : (pos : ℕ) → pos ≡ at (base before) w.position → Filled l pos
    filled pos k = record { position = w.position; page = page; settled = w.settled; old = w.old; rest = w.rest; is = e; small = w.small; stands = k }

    abbrev pub place : (pos par : ℕ) → pos ≡ at (base before) w.position → par ≡ parent 0 (base before) w.position → Splicing l pos par 8 sep
    place pos par p q = put_for w.position page w.settled w.old w.put w.rest l pos par sep e p q w.comes w.root
