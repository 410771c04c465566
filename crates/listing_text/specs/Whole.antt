-- The whole listing of an image of up to 15 pages.
use Rattle.std.specs.Prelude.{◌≡◌, Bool, true, false, cond, List, ◌++◌, ℕ, ◌+◌, ◌*◌, ◌-◌, ◌/◌, ◌≤◌, ◌<◌}
use Rattle.std.proofs.Math.Path.{sym, ap, subst}
use Rattle.std.proofs.Common.{◌∙◌, lt-ltb, le-ltb}
use native.Mathlib.Omega.{arith}
use Rattle.std.proofs.Math.ListN.{length}
use Rattle.model.specs.Limits.{page_size, most_bytes}
use Rattle.model.specs.Row.{Row, size, base, Config}
use Rattle.model.specs.Reading.{Reads, length_ok}
use Rattle.model.specs.Common.{record_pages}
use Rattle.model.specs.Calls.Check.{check_of}
use Rattle.theory_decoding.specs.Steps.{few_records, few_steps}
use Rattle.theory_decoding.specs.Reading.{reads_valid, reads_length}
use Rattle.theory_places.specs.Pages.{pages_few}
use Rattle.theory_calls.specs.Open.{opens, passing, refuses, not_passing}
use Rattle.theory_calls.specs.Pieces.{same_length}
use Rattle.theory_layout.specs.Here.{PageIn, Here, root_page_lem}
use Rattle.read_records.specs.Up.{up_from, up_pages}
use Rattle.read_records.specs.Order.{up_order}
use Rattle.read_find.specs.Rowed.{start_on, end_on}
use Rattle.listing_lines.specs.Text.{over_line, refused_line, head_line, listing_of, listing_on, printed}
use Rattle.listing_lines.specs.Digits.{two_digits, refused_long}
use Rattle.listing_lines.specs.Wrote.{Room, Wrote, then, same_text}
use Rattle.listing_text.specs.Lined.{row_text, row_text_lem, Lined, Fitting, Texted}
use Rattle.listing_text.specs.Bound.{listing_room, row_bound, head_bound, span_steps}

-- The head line of an image with n record pages.
abbrev pub head_of : (img : List ℕ) → (n : ℕ) → List ℕ
head_of img n = head_line (length img / page_size) (length img / page_size - 1 - n) n

-- What a listing of an image with n record pages needs to know.
pub record Plan (img : List ℕ) (n : ℕ) : Type 0 where
  pub on : PageIn img 1
  pub few : n < length img / page_size
  pub lined : Lined img (start_on img 1) (end_on img 1) 1 most_bytes
  pub text : head_of img n ++ row_text 1 lined.row ≡ listing_on img
  pub most : length (head_of img n) + length (row_text 1 lined.row) ≤ listing_room

module _ (img : List ℕ) (st : Config) (root : Row) (r : Reads img st root) (short : length img ≤ 61440) (n : ℕ) (e : n ≡ length (record_pages root)) where
  planned : Plan img n
  unfolding listing_on listing_of
  planned =
      let v = reads_valid img st root r in
      let o = root_page_lem img st root r in
      let pages : st.pages ≡ length img / page_size = omega (arith, reads_length img st root r) in
      let few : n < length img / page_size = omega (arith, pages_few st root v) in
      let a : page_size * 1 + base root ≡ start_on img 1 = sym (ap (λ (k : ℕ). page_size * 1 + k) o.first) in
      let b : end_on img 1 ≡ page_size * 1 + (base root + size root) = ap (λ (k : ℕ). page_size * 1 + k) o.used in
      record {
        on = o.here.on;
        few = few;
        lined = record {
          page = 1;
          row = root;
          here = subst (λ (k : ℕ). Here img 1 k root) a o.here;
          ends = omega arith;
          deep = omega (arith, span_steps root, few_steps st root v);
          low = omega arith;
        };
        text = rw (opens img st root r, pages, ← e, row_text_lem 1 root);
        most = omega (
          arith,
          head_bound (length img / page_size) (length img / page_size - 1 - n) n (omega arith) (omega arith) (omega arith),
          row_bound 1 root v.rows.1 (omega (arith, v.levels)),
          v.rows.0.fits,
          few_records st root v,
        );
      }

pub plan : (img : List ℕ) (n : ℕ) → check_of img ≡ 0 → length img ≤ 61440 → n ≡ length (up_from img (length img / page_size - 1) 1) → Plan img n
unfolding up_pages
plan img n z short e =
    let p = passing img z in
    planned img p.0.0 p.0.1 p.1 short n (e ∙ same_length (up_pages img) (record_pages p.0.1) (up_order img p.0.0 p.0.1 p.1))

-- ── the cases of an input ──

pub over_printed : (input : List ℕ) → 61440 < length input → over_line ≡ printed input
unfolding printed
over_printed input h = rw (lt-ltb 61440 (length input) h)

pub listing_printed : (input : List ℕ) → length input ≤ 61440 → listing_on input ≡ printed input
unfolding printed
listing_printed input h = rw (le-ltb 61440 (length input) h)

pub refused_printed : (input : List ℕ) (n : ℕ) → length input ≤ 61440 → n ≡ check_of input → (n ≡ 0 → ⊥) → refused_line n ≡ printed input
unfolding printed listing_on
refused_printed input n h e z = rw (le-ltb 61440 (length input) h, refuses input n (sym e) z)

pub refused_room : (input out : List ℕ) (at n : ℕ) → n ≡ check_of input → (n ≡ 0 → ⊥) → at + listing_room ≤ length out → Room (refused_line n) at out
refused_room input out at n e z h =
    let small : (b : Bool) → n ≡ cond {A = ℕ} b 3 1 → n < 100 = λ b w. go b w in
    let s = small (length_ok (length input)) (e ∙ not_passing input (λ y. z (e ∙ y))) in
    record { fits = omega (arith, refused_long n, two_digits n s) }
  where
    go : (b : Bool) → n ≡ cond {A = ℕ} b 3 1 → n < 100
    go true w = omega arith
    go false w = omega arith

-- ── the walk of the whole ──

module _ {img : List ℕ} {n : ℕ} (p : Plan img n) {a b : ℕ} (first : a ≡ start_on img 1) (last : b ≡ end_on img 1) {out mid : List ℕ} {at k : ℕ}
    (w : Wrote (head_of img n) at out mid k) (long : at + listing_room ≤ length out) where
  pub whole_fitting : Fitting img a b 1 most_bytes k mid
  whole_fitting =
      let l = p.lined in
      record {
        lined = record {
          page = l.page;
          row = l.row;
          here = subst (λ (m : ℕ). Here img l.page m l.row) (sym first) l.here;
          ends =
              omega (arith, l.ends);
          deep = l.deep;
          low = l.low;
        };
        room = record { fits = omega (arith, p.most, w.ends, w.same) };
      }

  pub whole_wrote : {after : List ℕ} {m : ℕ} → Texted whole_fitting after m → Wrote (listing_on img) at out after m
  unfolding whole_fitting
  whole_wrote t = same_text p.text (then w t.wrote)
