-- The loops over the pages: what is left of them leads to what the whole leads to.
use Rattle.std.specs.Prelude.{◌≡◌, refl, List, ℕ, suc, ◌+◌, ◌*◌, ◌≤◌, ◌<◌, length}
use Rattle.std.proofs.Common.{sym, ap, ◌∙◌, arith}
use Rattle.model.specs.Row.{two}
use Rattle.model.specs.Calls.Records.{page_bytes}
use Rattle.base_numbers.specs.Over.{over, over_next, over_nil, length_over}
use Rattle.theory_calls.specs.Records.{length_page_bytes}
use Rattle.theory_places.specs.Marks.{mark}
use Rattle.read_records.specs.Up.{left, is_up, not_up, none_left}

-- ── counting ──

-- c of the pages below p hold a record.
pub record Counted (img : List ℕ) (n p c : ℕ) : Type 0 where
  pub most : c < p
  pub all : c + length (left img n p) ≡ length (left img n 1)

pub count_start : (img : List ℕ) (n : ℕ) → Counted img n 1 0
count_start img n = record { most = omega arith; all = omega arith }

module _ (img : List ℕ) (n p c : ℕ) (k : Counted img n p c) where
  pub count_up : p < n → mark img p ≡ 1 → Counted img n (p + 1) (c + 1)
  count_up h e = record { most = omega (arith, k.most); all = omega (arith, k.all, ap length (is_up img n p h e)) }

  pub count_skip : p < n → (mark img p ≡ 1 → ⊥) → Counted img n (p + 1) c
  count_skip h e = record { most = omega (arith, k.most); all = omega (arith, k.all, ap length (not_up img n p h e)) }

  pub count_end : n ≤ p → c ≡ length (left img n 1)
  count_end h = omega (arith, k.all, ap length (none_left img n p h))

-- ── writing ──

-- The pages below p are written: `at` bytes of the buffer, which was b₀.
pub record Put (img b₀ : List ℕ) (n p at : ℕ) (b : List ℕ) : Type 0 where
  pub same : length b ≡ length b₀
  pub room : at + 2 * length (left img n p) ≤ length b
  pub all : over at (page_bytes (left img n p)) b ≡ over 0 (page_bytes (left img n 1)) b₀

pub put_start : (img b : List ℕ) (n : ℕ) → 2 * length (left img n 1) ≤ length b → Put img b n 1 0 b
put_start img b n h = record { same = refl; room = omega arith; all = refl }

module _ (img b₀ : List ℕ) (n p at : ℕ) (b : List ℕ) (k : Put img b₀ n p at b) where
  module _ (h : p < n) (e : mark img p ≡ 1) where
    more : at + 2 * suc (length (left img n (p + 1))) ≤ length b
    more = omega (arith, k.room, ap length (is_up img n p h e))

    pub put_room : at + 1 < length b
    put_room = omega (arith, more)

    pub put_up : (d : List ℕ) → d ≡ over at (two p) b → Put img b₀ n (p + 1) (at + 2) d
    put_up d q =
        let rest = left img n (p + 1) in
        let l : length d ≡ length b = ap length q ∙ length_over at (two p) b (omega (arith, put_room)) in
        record {
          same = l ∙ k.same;
          room = omega (arith, more);
          all =
              ap (over (at + 2) (page_bytes rest)) q
              ∙ over_next at (at + 2) (two p) (page_bytes rest) b refl (omega (arith, more, length_page_bytes rest))
              ∙ sym (ap (λ (ps : List ℕ). over at (page_bytes ps) b) (is_up img n p h e))
              ∙ k.all;
        }

  pub put_skip : p < n → (mark img p ≡ 1 → ⊥) → Put img b₀ n (p + 1) at b
  put_skip h e = record {
    same = k.same;
    room = omega (arith, k.room, ap length (not_up img n p h e));
    all = sym (ap (λ (ps : List ℕ). over at (page_bytes ps) b) (not_up img n p h e)) ∙ k.all;
  }

  pub put_end : n ≤ p → b ≡ over 0 (page_bytes (left img n 1)) b₀
  put_end h = sym (ap (λ (ps : List ℕ). over at (page_bytes ps) b) (none_left img n p h) ∙ over_nil at b) ∙ k.all
