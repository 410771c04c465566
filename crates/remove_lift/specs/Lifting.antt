-- One proxy in the place of its helper's: the pages that are left.
use Rattle.std.specs.Prelude.{◌≡◌, Bool, List, ℕ, ◌+◌, ◌*◌, ◌≤◌, length}
use Rattle.std.proofs.Common.{sym, ap, subst, ◌∙◌, arith}
use Rattle.std.proofs.lemmas.List.{length-replicate}
use Rattle.model.specs.Limits.{page_size, capacity}
use Rattle.model.specs.Row.{Row, rec, record_size, two, record_page, record_on}
use Rattle.model.specs.Reading.{back_at, page_of}
use Rattle.model.specs.Spot.{fill}
use Rattle.theory_row_bytes.specs.RowAt.{back_on}
use Rattle.theory_layout.specs.Here.{PageIn}
use Rattle.theory_page_memory.specs.Memory.{Mem, blank, set_mem, relink}
use Rattle.base_numbers.specs.Over.{over, length_over}
use Rattle.grow_pages.specs.Write.{set_page}
use Rattle.grow_pages.specs.Paged.{page_over, length_set_page}
use Rattle.grow_pages.specs.Relinked.{mem_link, mem_cleared}
use Rattle.remove_lift.specs.Rename.{Renaming, proxy_offset, proxy_within, renamed}

-- The helper's record stands on its page, its proxy in the record that its back link names, and the one proxy left names `child`.
pub record Lifting (img : List ℕ) (page child : ℕ) : Type 0 where
  pub holder : ℕ
  pub renaming : Renaming img holder page
  pub on : PageIn img page
  pub kid : PageIn img child
  pub own : page_of img page ≡ record_page (record_on page renaming.settled holder renaming.old)
  pub small : record_size renaming.old ≤ capacity

-- The image after the three writes: the name in the proxy, the child's back link, and zeros.
abbrev pub lifted : {img : List ℕ} {page child : ℕ} → Lifting img page child → (image : List ℕ) → List ℕ
lifted {page = page} {child = child} w image =
    set_page page blank (over (page_size * child + (capacity + 4)) (two w.holder)
    (over (page_size * w.holder + (proxy_offset w.renaming + 6)) (two child) image))

module _ {img : List ℕ} {page child : ℕ} (w : Lifting img page child) where
  abbrev r : Renaming img w.holder page
  r = w.renaming

  -- The proxy stands within its page.
  pub within : proxy_offset r + 6 + 2 ≤ page_size
  within = omega (arith, proxy_within r)

  abbrev first : List ℕ
  first = over (page_size * w.holder + (proxy_offset r + 6)) (two child) img

  abbrev second : List ℕ
  second = over (page_size * child + (capacity + 4)) (two w.holder) first

  pub first_long : length first ≡ length img
  first_long = length_over (page_size * w.holder + (proxy_offset r + 6)) (two child) img (omega (arith, within, r.on.inside))

  pub second_long : length second ≡ length img
  second_long = length_over (page_size * child + (capacity + 4)) (two w.holder) first (omega (arith, first_long, w.kid.inside)) ∙ first_long

  pub lifted_long : length (lifted w img) ≡ length img
  lifted_long = length_set_page page blank second (length-replicate {A = ℕ} page_size 0) (omega (arith, second_long, w.on.inside)) ∙ second_long

  -- Its pages: the helper's is blank, the child has the helper's holder, and that holds the child's proxy, whatever the child's record is.
  pub lifted_pages : (c : Bool) (y : Row) → page_of (lifted w img)
      ≡ set_mem page blank (set_mem child (relink w.holder
      (set_mem w.holder (record_page (record_on w.holder r.above r.up (fill r.position (rec child c y r.rest)))) (page_of img) child))
      (set_mem w.holder (record_page (record_on w.holder r.above r.up (fill r.position (rec child c y r.rest)))) (page_of img)))
  lifted_pages c y =
      let above = record_page (record_on w.holder r.above r.up (fill r.position (rec child c y r.rest))) in
      let one : page_of first ≡ set_mem w.holder above (page_of img) =
      (λ i x. page_over w.holder (proxy_offset r + 6) (two child) img within r.on.inside x i)
      ∙ ap (λ (s : List ℕ). set_mem w.holder s (page_of img))
      (ap (over (proxy_offset r + 6) (two child)) r.is ∙ renamed w.holder r.up r.above r.position r.rest page child r.settled c
      r.old y) in
      mem_cleared page second (omega (arith, second_long, w.on.inside))
      ∙ ap (set_mem page blank) (mem_link child w.holder first (omega (arith, first_long, w.kid.inside))
      ∙ ap (λ (m : Mem). set_mem child (relink w.holder (m child)) m) one)

  -- ── the code ──

  -- The back link names the holder.
  pub back_is : back_at img (page_size * page) ≡ w.holder
  back_is = back_on img (record_on page r.settled w.holder r.old) w.own w.small (omega (arith, r.on.high))

  pub holder_renames : (h : ℕ) → h ≡ back_at img (page_size * page) → Renaming img h page
  holder_renames h e = subst (λ (n : ℕ). Renaming img n page) (sym (e ∙ back_is)) r

  -- The three writes.
  pub lifted_is : (h : ℕ) → h ≡ back_at img (page_size * page) → (a b d : List ℕ)
      → ((v : Renaming img h page) → a ≡ over (page_size * h + (proxy_offset v + 6)) (two child) img)
      → b ≡ over (page_size * child + (capacity + 4)) (two h) a → d ≡ set_page page blank b → d ≡ lifted w img
  lifted_is h e =
      subst (λ (h : ℕ). (a b d : List ℕ) → ((v : Renaming img h page) → a ≡ over (page_size * h + (proxy_offset v + 6)) (two child) img)
      → b ≡ over (page_size * child + (capacity + 4)) (two h) a → d ≡ set_page page blank b → d ≡ lifted w img) (sym (e ∙ back_is))
      (λ a b d f g k. k ∙ ap (set_page page blank) (g ∙ ap (over (page_size * child + (capacity + 4)) (two w.holder)) (f r)))
