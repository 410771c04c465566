-- The check passes whatever reads.
use Rattle.std.specs.Prelude.{◌≡◌, refl, cond, ◌&&◌, List, get_or, replicate}
use Rattle.std.proofs.Math.Path.{ap}
use Rattle.std.proofs.Common.{◌∙◌, arith}
use Rattle.std.proofs.Math.Bool.{true}
use Prim.Native.Nat.{ℕ, suc, ◌-◌}
use Rattle.std.proofs.Math.Seq.{take_at}
use Rattle.model.specs.Limits.{page_size, mark_bytes}
use Rattle.model.specs.Row.{Row, store, Held, records, settings_page, pages_from, image, lone, by_table, may_stand, standing, Config, record_on, in_range, valid}
use Rattle.model.specs.Reading.{Reads, page_of}
use Rattle.model.specs.BeforeWalk.{page_count, before_walk}
use Rattle.theory_rows.specs.Fits.{Valid}
use Rattle.theory_growth.specs.Store.{settled_lone}
use Rattle.theory_rows.specs.Image.{length_settings, once}
use Rattle.theory_decoding.specs.Valid.{both, by_table_lem, valid_holds}
use Rattle.theory_decoding.specs.Steps.{record_count}
use Rattle.theory_decoding.specs.Length.{length_image, image_length_ok}
use Rattle.theory_decoding.specs.Decode.{stored_image}
use Rattle.theory_decoding.specs.Reading.{reads_valid}
use Rattle.model.specs.WalkTests.{record_of}
use Rattle.theory_check.specs.Walk.{state, Decoded, node_of}
use Rattle.theory_check.specs.Check.{trailers_of, walk_of, walk_ok, check_by}
use Rattle.theory_check.specs.Before.{before_each}
use Rattle.theory_check.specs.Marks.{marks_none, none_marked}
use Rattle.theory_check.specs.Nodes.{record_node}
use Rattle.theory_check.specs.Pages.{settings_ok_lem, tail_of, root_kind, record_of_lem, on_page}
use Rattle.theory_check.specs.StorePages.{named_range, image_fits, image_used}
use Rattle.theory_check.specs.Fresh.{Unreached}
use Rattle.theory_check.specs.Walked.{done, walked}

module _ (st : Config) (root : Row) (v : Valid st root) where
  abbrev img : List ℕ
  img = image st root

  abbrev first : Held
  first = record_on 1 true 0 root

  zero_page : page_of img 0 ≡ settings_page st
  unfolding image
  zero_page = take_at (settings_page st) (pages_from (records 0 (store root)) (st.pages - 1) 1) page_size (length_settings st v.ranges.entries)

  in_range_lem : in_range st ≡ true
  unfolding valid
  in_range_lem =
      let placed = both _ _ (valid_holds st root v) in
      let levels = both _ _ placed.0 in
      let top = both _ _ levels.0 in
      (both _ _ top.0).0

  page_count_lem : page_count img ≡ st.pages
  page_count_lem = omega (arith, length_image st root v)

  before_image : before_walk img ≡ true
  before_image =
      before_each img (rw (page_count_lem, zero_page) (settings_ok_lem st in_range_lem)) (λ p a b. rw page_count_lem (image_fits st root v p a (omega (arith, page_count_lem))))

  trailers_image : trailers_of img ≡ suc (record_count root)
  unfolding trailers_of
  trailers_image =
      rw (before_image, page_count_lem) (image_used st root v)

  fresh_image : Unreached st.pages (replicate mark_bytes 0) root
  fresh_image = record { marks = marks_none; range = named_range st root v; once = λ q. omega (arith, once st root v q); new = λ q h. none_marked q }

  root_stands : cond (lone root) (by_table 0 root) (may_stand 0 4 && by_table 4 root) ≡ true
  unfolding may_stand standing
  root_stands = (both (cond (lone root) (by_table 0 root) (by_table 4 root)) true (by_table_lem (store root) v.rows)).0

  walk_image : (m : List ℕ) → Unreached st.pages m root → node_of img (record_of img 1) 1 0 1 (state (suc (record_count root)) m) ≡ done root 1 m
  walk_image m u =
      let stored = stored_image st root v in
      let fit = v.rows.0 in
      rw (record_of_lem img 1 first fit stored.0) (
      record_node img 1 1 (state (suc (record_count root)) m) (omega arith) true root (done root 1 m) fit root_stands
      (λ x y. walked img st.pages v.ranges.many (length_image st root v) root 1 x 1 (suc (record_count root)) 1 m v.rows.1
      (omega (arith, fit.fits)) y stored.1
      (omega arith) (omega (arith, v.levels)) u (omega arith) (omega arith))
      )

  root_first : get_or img page_size 0 ≡ 1
  root_first =
      on_page img 1 first v.rows.0 (stored_image st root v).0 0 page_size refl (omega arith)
      ∙ root_kind root _ _ (settled_lone root v.rows.0.shape) ∙ rw v.top

  check_image : check_by img ≡ 0
  unfolding check_by walk_ok walk_of
  check_image =
      let n = suc (record_count root) in
      let left : (walk_of img n).walk.left ≡ 1 = ap (λ (d : Decoded). d.walk.left) (walk_image (replicate mark_bytes 0) fresh_image) in
      let tail = tail_of img 1 first v.rows.0 (stored_image st root v).0 in
      rw (image_length_ok st root v, before_image, trailers_image, root_first, tail, left)

-- What reads passes the check.
pub complete : (img : List ℕ) (st : Config) (root : Row) → Reads img st root → check_by img ≡ 0
complete img st root r = ap check_by r.same ∙ check_image st root (reads_valid img st root r)

-- It passes the part before the walk.
pub before_reads : (img : List ℕ) (st : Config) (root : Row) → Reads img st root → before_walk img ≡ true
before_reads img st root r = ap before_walk r.same ∙ before_image st root (reads_valid img st root r)
