-- Bytes whose pages are the settings, the records of a store, and zeros elsewhere, are the store's image.
use Rattle.std.specs.Prelude.{◌≡◌, refl, List, [], ◌∷◌, ◌++◌, map, Bool, true, false, cond, ℕ, zero, suc, ◌+◌, ◌-◌, ◌*◌, ◌≤◌, ◌<◌, length, drop, replicate, eqb}
use Rattle.std.proofs.Common.{sym, ap, ap₂, ◌∙◌, arith, take-append-drop, drop_of_length-le, drop-drop, eqb-true}
use Rattle.model.specs.Limits.{page_size}
use Rattle.model.specs.Row.{Row, nil, agg, lit, rec, store, Held, records, record_page, settings_page, page_at, pages_from, image, Config, count}
use Rattle.model.specs.Reading.{page_of}
use Rattle.model.specs.Calls.Records.{times}
use Rattle.theory_rows.specs.Image.{Stored}
use Rattle.theory_places.specs.Pages.{pages_count}

-- What holds of each record of a list.
abbrev pub Each : (Held → Type 0) → List Held → Type 0
Each P [] = Unit {0}
Each P (h ∷ hs) = P h × Each P hs

pub each-++ : (P : Held → Type 0) (a b : List Held) → Each P a → Each P b → Each P (a ++ b)
each-++ P [] b m n = n
each-++ P (h ∷ a) b m n = (m.0, each-++ P a b m.1 n)

-- It stands on its page of a memory.
abbrev OnPage : (ℕ → List ℕ) → Held → Type 0
OnPage mem h = mem h.page ≡ record_page h

on_records : (mem : ℕ → List ℕ) (h : ℕ) (r : Row) → Stored mem h r → Each (OnPage mem) (records h r)
on_records mem h nil m = tt
on_records mem h (agg l cs rest) m = each-++ (OnPage mem) (records h cs) (records h rest) (on_records mem h cs m.0) (on_records mem h rest m.1)
on_records mem h (lit l c rest) m = on_records mem h rest m
on_records mem h (rec p s r rest) m = (m.0, each-++ (OnPage mem) (records p r) (records h rest) (on_records mem p r m.1) (on_records mem h rest m.2))

page_found : (mem : ℕ → List ℕ) (hs : List Held) → Each (OnPage mem) hs → (q : ℕ)
    → (times q (map (λ (h : Held). h.page) hs) ≡ 0 → mem q ≡ replicate page_size 0) → mem q ≡ page_at hs q
page_found mem [] m q z = z refl
page_found mem (h ∷ hs) m q z = go (eqb q h.page) refl z (page_found mem hs m.1 q)
  where
    n : ℕ
    n = times q (map (λ (h : Held). h.page) hs)

    go : (b : Bool) → eqb q h.page ≡ b → (cond b 1 0 + n ≡ 0 → mem q ≡ replicate page_size 0)
        → ((n ≡ 0 → mem q ≡ replicate page_size 0) → mem q ≡ page_at hs q)
        → mem q ≡ cond b (record_page h) (page_at hs q)
    go true e z ih = ap mem (eqb-true q h.page e) ∙ m.0
    go false e z ih = ih (λ d. z (omega arith))

-- the pages of some bytes from page q on
pages_are : (img : List ℕ) (hs : List Held) (k q : ℕ) → length img ≡ page_size * (q + k) → ((p : ℕ) → q ≤ p → p < q + k → page_of img p ≡ page_at hs p)
    → drop (page_size * q) img ≡ pages_from hs k q
pages_are img hs zero q l h = drop_of_length-le img {i = page_size * q} (omega arith)
pages_are img hs (suc k) q l h =
    let next : page_size * q + page_size ≡ page_size * suc q = omega arith in
    sym (take-append-drop page_size (drop (page_size * q) img))
    ∙ ap₂ ◌++◌ (h q (omega arith) (omega arith))
    (drop-drop page_size (page_size * q) img ∙ ap (λ (n : ℕ). drop n img) next
    ∙ pages_are img hs k (suc q) (omega arith) (λ p a b. h p (omega arith) (omega arith)))

-- A memory in which every record of a store stands and the free pages are blank has the pages of the store's image.
pub page_is : (mem : ℕ → List ℕ) (root : Row) → Stored mem 0 (store root) → (q : ℕ) → (count q (store root) ≡ 0 → mem q ≡ replicate page_size 0)
    → mem q ≡ page_at (records 0 (store root)) q
page_is mem root m q free = page_found mem (records 0 (store root)) (on_records mem 0 (store root) m) q (λ z. free (sym (pages_count root q) ∙ z))

pub image_is : (img : List ℕ) (st : Config) (root : Row) → 1 ≤ st.pages → length img ≡ page_size * st.pages → page_of img 0 ≡ settings_page st
    → Stored (page_of img) 0 (store root) → ((q : ℕ) → 1 ≤ q → q < st.pages → count q (store root) ≡ 0 → page_of img q ≡ replicate page_size 0)
    → img ≡ image st root
unfolding image
image_is img st root few long settings m free =
    let hs = records 0 (store root) in
    let n = st.pages - 1 in
    let each : (q : ℕ) → 1 ≤ q → q < 1 + n → page_of img q ≡ page_at hs q = λ q a b. page_is (page_of img) root m q (free q a (omega arith)) in
    sym (take-append-drop page_size img) ∙ ap₂ ◌++◌ settings (pages_are img hs n 1 (omega arith) each)
