-- The page writes of an image are the writes of its pages as a memory.
use Rattle.std.specs.Prelude.{◌≡◌, refl, Bool, true, false, cond, List, ℕ, ◌+◌, ◌*◌, ◌<◌, ◌≤◌, length}
use Rattle.std.proofs.Common.{sym, ap, ◌∙◌, arith}
use Rattle.std.proofs.lemmas.List.{length-replicate}
use Rattle.model.specs.Limits.{page_size, capacity}
use Rattle.model.specs.Row.{Row, nil, agg, lit, rec, two, record_size, record_bytes, record_on}
use Rattle.model.specs.Reading.{page_of}
use Rattle.theory_rows.specs.Image.{length_record}
use Rattle.theory_rows.specs.Laws.{cond_case}
use Rattle.base_numbers.specs.Over.{over, over_is, length_over}
use Rattle.theory_page_memory.specs.Memory.{Mem, blank, set_mem, relink, link_mem, put_mem}
use Rattle.grow_pages.specs.Write.{set_page, page_bytes_of, record_page_is, length_page_bytes_of}
use Rattle.grow_pages.specs.Links.{links, Below}
use Rattle.grow_pages.specs.Paged.{page_over, page_set, length_set_page, length_links}

pub mem_set : (q : ℕ) (s img : List ℕ) → length s ≡ page_size → page_size * q + page_size ≤ length img → page_of (set_page q s img) ≡ set_mem q s (page_of img)
mem_set q s img long room = λ i p. page_set q s img long room p i

pub mem_cleared : (q : ℕ) (img : List ℕ) → page_size * q + page_size ≤ length img → page_of (set_page q blank img) ≡ set_mem q blank (page_of img)
mem_cleared q img room = mem_set q blank img (length-replicate {A = ℕ} page_size 0) room

pub mem_link : (p q : ℕ) (img : List ℕ) → page_size * p + page_size ≤ length img
    → page_of (over (page_size * p + (capacity + 4)) (two q) img) ≡ set_mem p (relink q (page_of img p)) (page_of img)
mem_link p q img room =
    (λ i x. page_over p (capacity + 4) (two q) img (omega arith) room x i)
    ∙ ap (λ (s : List ℕ). set_mem p s (page_of img)) (over_is (capacity + 4) (two q) (page_of img p))

pub mem_links : (n q : ℕ) (row : Row) (img : List ℕ) → Below n row → page_size * n ≤ length img → page_of (links q row img) ≡ link_mem q row (page_of img)
unfolding link_mem
mem_links n q nil img b h = refl
mem_links n q (agg l cs rest) img b h =
    mem_links n q rest (links q cs img) b.1 (omega (arith, length_links n q cs img b.0 h)) ∙ ap (link_mem q rest) (mem_links n q cs img b.0 h)
mem_links n q (lit l c rest) img b h = mem_links n q rest img b h
mem_links n q (rec p s r rest) img b h =
    mem_links n q rest (over (page_size * p + (capacity + 4)) (two q) img) b.1
    (omega (arith, length_over (page_size * p + (capacity + 4)) (two q) img (omega (arith, b.0))))
    ∙ ap (link_mem q rest) (mem_link p q img (omega (arith, b.0)))

-- ── an image after a step ──

-- It is as long as before. A dry step leaves it as it was, another gives it these pages.
pub record After (dry : Bool) (new old : List ℕ) (m : Mem) : Type 0 where
  pub long : length new ≡ length old
  pub same : dry ≡ true → new ≡ old
  pub pages : dry ≡ false → page_of new ≡ m

pub after_cond : (dry : Bool) (new img : List ℕ) (m : Mem) → length new ≡ length img → page_of new ≡ m → After dry (cond dry img new) img m
after_cond dry new img m l e = record {
  long = cond_case (λ (i : List ℕ). length i ≡ length img) dry (λ _. refl) (λ _. l);
  same = λ z. ap (λ (d : Bool). cond d img new) z;
  pages = λ z. ap (λ (d : Bool). page_of (cond d img new)) z ∙ e;
}

-- One step after another.
pub after_then : {dry : Bool} {new mid old : List ℕ} (f : Mem → Mem) {m : Mem} → After dry mid old m
    → After dry new mid (f (page_of mid)) → After dry new old (f m)
after_then f a b = record {
  long = b.long ∙ a.long;
  same = λ z. b.same z ∙ a.same z;
  pages = λ z. b.pages z ∙ ap f (a.pages z);
}

-- ── a record is written, and its links are set ──

abbrev pub written : (page : ℕ) → (settled : Bool) → (holder : ℕ) → Row → (image : List ℕ) → List ℕ
written q s h row img = links q row (set_page q (page_bytes_of (record_bytes row) (cond s 1 0) h) img)

module _ (n q h : ℕ) (s : Bool) (row : Row) (img : List ℕ) (below : Below n row) (small : record_size row ≤ capacity) (room : page_size * n ≤ length img)
    (inside : q < n) where
  abbrev page : List ℕ
  page = page_bytes_of (record_bytes row) (cond s 1 0) h

  long : length page ≡ page_size
  long = length_page_bytes_of (record_bytes row) (cond s 1 0) h (omega (arith, length_record row))

  fit : page_size * q + page_size ≤ length img
  fit = omega arith

  room_set : page_size * n ≤ length (set_page q page img)
  room_set = omega (arith, length_set_page q page img long fit)

  pub length_written : length (written q s h row img) ≡ length img
  length_written = length_links n q row (set_page q page img) below room_set ∙ length_set_page q page img long fit

  pub mem_written : page_of (written q s h row img) ≡ put_mem q s h row (page_of img)
  mem_written =
      mem_links n q row (set_page q page img) below room_set
      ∙ ap (link_mem q row) (mem_set q page img long fit ∙ ap (λ (z : List ℕ). set_mem q z (page_of img)) (sym (record_page_is (record_on q s h row))))

  pub after_written : (dry : Bool) → After dry (cond dry img (written q s h row img)) img (put_mem q s h row (page_of img))
  after_written dry = after_cond dry (written q s h row img) img (put_mem q s h row (page_of img)) length_written mem_written
