-- The first byte of a page's trailer tells the pages of the records.
use Rattle.std.specs.Prelude.{◌≡◌, refl, Bool, true, false, cond, List, [], ◌∷◌, map, ℕ, ◌+◌, ◌*◌, ◌≤◌, ◌<◌, get_or, drop, eqb}
use Rattle.std.proofs.Common.{sym, ap, ◌∙◌, arith, get_or-take, get_or-drop}
use Rattle.model.specs.Limits.{page_size, capacity}
use Rattle.model.specs.Row.{Row, store, Config, Held, records, page_at, record_page}
use Rattle.model.specs.Reading.{Reads, page_of, state_at}
use Rattle.model.specs.Common.{record_pages}
use Rattle.model.specs.Calls.Records.{times}
use Rattle.theory_rows.specs.Fits.{Valid}
use Rattle.theory_rows.specs.Image.{AllFit, all_fit, image_page}
use Rattle.theory_decoding.specs.Decode.{in_trailer}
use Rattle.theory_decoding.specs.Reading.{reads_valid}
use Rattle.theory_places.specs.Pages.{pages_once}

-- The first byte of page q's trailer.
abbrev pub mark : (img : List ℕ) → (q : ℕ) → ℕ
mark img q = state_at img (page_size * q)

-- It is 1 on a record's page, and a free page is zero.
page_mark : (hs : List Held) → AllFit hs → (q : ℕ) → times q (map (λ (h : Held). h.page) hs) ≤ 1
    → state_at (page_at hs q) 0 ≡ times q (map (λ (h : Held). h.page) hs)
page_mark [] f q l = refl
page_mark (h ∷ hs) f q l = go (eqb q h.page) l (page_mark hs f.1 q)
  where
    t : ℕ
    t = times q (map (λ (h : Held). h.page) hs)

    go : (b : Bool) → cond b 1 0 + t ≤ 1 → (t ≤ 1 → state_at (page_at hs q) 0 ≡ t) → get_or (cond b (record_page h) (page_at hs q)) capacity 0 ≡ cond b 1 0 + t
    go true l ih = in_trailer h f.0 0 ∙ omega arith
    go false l ih = ih (omega arith) ∙ omega arith

mark_page : (img : List ℕ) (q : ℕ) → state_at (page_of img q) 0 ≡ mark img q
mark_page img q = get_or-take page_size (drop (page_size * q) img) capacity 0 (omega arith) ∙ get_or-drop (page_size * q) img capacity 0

-- So it is how often the page is a record's.
pub mark_times : (img : List ℕ) (st : Config) (root : Row) → Reads img st root → (q : ℕ) → 1 ≤ q → q < st.pages → mark img q ≡ times q (record_pages root)
mark_times img st root r q low high =
    let v : Valid st root = reads_valid img st root r in
    sym (mark_page img q)
    ∙ ap (λ (l : List ℕ). state_at (page_of l q) 0) r.same
    ∙ ap (λ (l : List ℕ). state_at l 0) (image_page st root v q low high)
    ∙ page_mark (records 0 (store root)) (all_fit st root v) q (pages_once st root v q)
