-- The page that a diagnosis names is below 1,024.
use Rattle.std.specs.Prelude.{◌≡◌, refl, Bool, true, false, cond, not, ◌&&◌, ◌||◌, List, [], ◌∷◌, ℕ, zero, suc, ◌+◌, ◌-◌, ◌*◌, ◌≤◌, ◌<◌, length, take, drop, ltb, leb, eqb}
use Rattle.std.proofs.Common.{arith, eqb-true}
use Rattle.std.proofs.lemmas.Bool.{not-false}
use Rattle.model.specs.Limits.{page_size, most_pages, most_levels}
use Rattle.model.specs.Reading.{page_of, name_at, kind_at}
use Rattle.model.specs.BeforeWalk.{settings_ok, trailer_of, is_free, page_fits, page_count}
use Rattle.model.specs.WalkTests.{whole_size, passing_kind, names_of, root_fits, tail_zero, record_of}
use Rattle.model.specs.Answers.{not_passed}
use Rattle.model.specs.Calls.Check.{check_of}
use Rattle.model.specs.Calls.Diagnose.{Fault, no_fault, Been, been, Walk, on, stopped, contains, Inside, row, stops, record_row, proxy_row, inside, onward, into}
use Rattle.model.specs.Calls.Diagnose.{row_walk, unreached, walk_end, walk_fault, pages_fault, fault_of, diagnose_of, record_count}
use Rattle.theory_rows.specs.Laws.{cond_case}
use Rattle.theory_decoding.specs.Valid.{both}
use Rattle.theory_decoding.specs.Length.{length_says}
use Rattle.theory_calls.specs.Open.{check_exact}
use Rattle.theory_check.specs.Steps.{named}

-- A walk that has stopped has stopped in a page below it; a row that is entered stands in one.
abbrev SmallWalk : Walk → Type 0
SmallWalk (on b) = Unit {0}
SmallWalk (stopped p r) = p < most_pages

abbrev SmallInside : Inside → Type 0
SmallInside (row s page holder level b) = page < most_pages
SmallInside (stops p r) = p < most_pages

abbrev SmallFault : Fault → Type 0
SmallFault f = f.page < most_pages

record_small : (img : List ℕ) (ok : Bool) (p level : ℕ) (b : Been) → p < most_pages → SmallInside (record_row img ok p level b)
record_small img ok p level b h =
    cond_case SmallInside (not ok) (λ _. h)
    (λ _. cond_case SmallInside (not (tail_zero img p)) (λ _. h)
    (λ _. cond_case SmallInside (eqb (whole_size (record_of img p)) (length (record_of img p))) (λ _. h) (λ _. h)))

proxy_small : (img s : List ℕ) (page level : ℕ) (b : Been) → page < most_pages → SmallInside (proxy_row img s page level b)
proxy_small img s page level b h =
    let p = name_at s 0 in
    let fresh = names_of img p page && leb 2 b.left && not (contains b.reached p) in
    let next = been (b.left - 1) (p ∷ b.reached) in
    cond_case SmallInside (not (eqb (length s) 8)) (λ _. h)
    (λ _. cond_case SmallInside (not fresh) (λ _. h)
    (λ e. record_small img (root_fits img p) p level next (named img p page (both _ _ (both _ _ (not-false fresh e)).0).0).low))

inside_small : (img s : List ℕ) (page holder level : ℕ) (b : Been) → page < most_pages → SmallInside (inside img s page holder level b)
unfolding inside
inside_small img s page holder level b h =
    let kind = passing_kind s holder in
    cond_case SmallInside (eqb kind 0) (λ _. h)
    (λ _. cond_case SmallInside (eqb kind 3) (λ _. proxy_small img s page level b h)
    (λ _. cond_case SmallInside (eqb kind 4) (λ _. h)
    (λ _. cond_case SmallInside (ltb most_levels level) (λ _. h) (λ _. cond_case SmallInside (eqb kind 2) (λ _. h) (λ _. h)))))

into_small : (x : Inside) (f : List ℕ → (page holder level : ℕ) → Been → Walk) → SmallInside x
    → ((s : List ℕ) (page holder level : ℕ) (b : Been) → page < most_pages → SmallWalk (f s page holder level b)) → SmallWalk (into x f)
into_small (row s page holder level b) f h g = g s page holder level b h
into_small (stops p r) f h g = h

onward_small : (w : Walk) (f : Been → Walk) → SmallWalk w → ((b : Been) → SmallWalk (f b)) → SmallWalk (onward w f)
onward_small (on b) f h g = g b
onward_small (stopped p r) f h g = h

walk_small : (fuel : ℕ) (img s : List ℕ) (page holder level : ℕ) (b : Been) → page < most_pages → SmallWalk (row_walk fuel img s page holder level b)
unfolding row_walk
walk_small zero img s page holder level b h = cond_case SmallWalk (eqb (length s) 0) (λ _. tt) (λ _. h)
walk_small (suc k) img s page holder level b h =
    let n = whole_size s in
    cond_case SmallWalk (eqb (length s) 0) (λ _. tt)
    (λ _. cond_case SmallWalk (eqb n 0) (λ _. h)
    (λ _. onward_small (into (inside img (take n s) page holder level b) (row_walk k img)) (row_walk k img (drop n s) page holder level)
    (into_small (inside img (take n s) page holder level b) (row_walk k img) (inside_small img (take n s) page holder level b h) (walk_small k img))
    (λ c. walk_small k img (drop n s) page holder level c h)))

unreached_small : (img reached : List ℕ) (k p : ℕ) → p + k ≤ most_pages → unreached img reached k p < most_pages
unfolding unreached
unreached_small img reached zero p h = omega arith
unreached_small img reached (suc k) p h =
    cond_case (λ (n : ℕ). n < most_pages) (is_free (trailer_of (page_of img p)) || contains reached p) (λ _. unreached_small img reached k (suc p) (omega arith))
    (λ _. omega arith)

pages_small : (img : List ℕ) (pages k p : ℕ) → p + k ≤ most_pages → SmallFault (pages_fault img pages k p)
unfolding pages_fault
pages_small img pages zero p h = omega arith
pages_small img pages (suc k) p h =
    cond_case SmallFault (page_fits pages p (page_of img p)) (λ _. pages_small img pages k (suc p) (omega arith)) (λ _. omega arith)

end_small : (img : List ℕ) (w : Walk) → 1 ≤ page_count img → page_count img ≤ most_pages → SmallWalk w → SmallFault (walk_end img w)
end_small img (stopped p r) l m h = h
end_small img (on b) l m h =
    cond_case SmallFault (eqb b.left 1) (λ _. omega arith) (λ _. unreached_small img b.reached (page_count img - 2) 2 (omega arith))

module _ (img : List ℕ) (l : 1 ≤ page_count img) (m : page_count img ≤ most_pages) where
  fault_small : SmallFault (fault_of img)
  unfolding fault_of walk_fault
  fault_small =
      let n = page_count img in
      let root = record_row img (eqb (kind_at img page_size) 1) 1 1 (been (record_count img (n - 1) 1) []) in
      let walk = row_walk (16384 * (1 + n)) img in
      cond_case SmallFault (not (settings_ok (page_of img 0) n)) (λ _. omega arith)
      (λ _. cond_case SmallFault (eqb (pages_fault img n (n - 1) 1).stage 0)
      (λ _. end_small img (into root walk) l m
      (into_small root walk (record_small img (eqb (kind_at img page_size) 1) 1 1 (been (record_count img (n - 1) 1) []) (omega arith)) (walk_small (16384 * (1 + n)) img)))
      (λ _. pages_small img n (n - 1) 1 (omega arith)))

pub diagnose_small : (img : List ℕ) → (diagnose_of img).page < most_pages
unfolding diagnose_of
diagnose_small img = go (eqb (check_of img) not_passed) refl
  where
    go : (b : Bool) → eqb (check_of img) not_passed ≡ b → (cond b (fault_of img) no_fault).page < most_pages
    go true e =
        let r = length_says (length img) ((check_exact img).broken.0 (eqb-true (check_of img) not_passed e)).0 in
        fault_small img (omega (arith, r.few)) r.many
    go false e = omega arith
