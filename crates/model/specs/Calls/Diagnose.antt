-- Diagnose: why an image does not pass the check: the stage that finds it, the page at fault, and a reason.
use Rattle.std.specs.Prelude.{Bool, false, cond, not, ◌&&◌, ◌||◌, List, [], ◌∷◌, ℕ, zero, suc, ◌+◌, ◌-◌, ◌*◌, length, take, drop, ltb, leb, eqb}
use Rattle.model.specs.Limits.{page_size, most_levels}
use Rattle.model.specs.Row.{every}
use Rattle.model.specs.Reading.{page_of, kind_at, name_at}
use Rattle.model.specs.BeforeWalk.{all_zero, settings_ok, trailer_of, is_free, trailer_fits, page_fits, page_count}
use Rattle.model.specs.WalkTests.{whole_size, passing_kind, names_of, root_fits, tail_zero, record_of}
use Rattle.model.specs.Answers.{not_passed}
use Rattle.model.specs.Calls.Check.{check_of}
use Rattle.model.specs.Effect.{Effect, asking}

-- ── reasons ──

abbrev pub never_formatted : ℕ
never_formatted = 1

abbrev pub bad_settings : ℕ
bad_settings = 2

abbrev pub bad_trailer : ℕ
bad_trailer = 3

abbrev pub free_not_zero : ℕ
free_not_zero = 4

abbrev pub past_length : ℕ
past_length = 5

abbrev pub bad_node : ℕ
bad_node = 6

abbrev pub too_deep : ℕ
too_deep = 7

abbrev pub bad_proxy : ℕ
bad_proxy = 8

abbrev pub not_reached : ℕ
not_reached = 9

-- Stage 0: no fault.
pub record Fault : Type 0 where
  pub stage : ℕ
  pub page : ℕ
  pub reason : ℕ

abbrev pub fault : (stage page reason : ℕ) → Fault
fault s p r = record { stage = s; page = p; reason = r }

abbrev pub no_fault : Fault
no_fault = fault 0 0 0

-- ── stage 1: page 0; stage 2: trailers and free pages, in the order of the pages ──

-- Page 0 is all zero or all 255: nothing was ever written there, or all was erased.
abbrev pub blank : (page : List ℕ) → Bool
blank s = all_zero s || every (λ x. eqb x 255) s

abbrev pub settings_reason : (page : List ℕ) → ℕ
settings_reason s = cond (blank s) never_formatted bad_settings

-- The first of the k pages from p on that is against the rules by itself.
unfoldable pub pages_fault : (img : List ℕ) → (pages k p : ℕ) → Fault
pages_fault img pages zero p = no_fault
pages_fault img pages (suc k) p =
    let s = page_of img p in
    let later = pages_fault img pages k (suc p) in
    cond (page_fits pages p s) later (fault 2 p (cond (trailer_fits pages p (trailer_of s)) free_not_zero bad_trailer))

-- ── stage 3: the walk ──

-- The walk so far: one more than the record pages still to be reached, and the pages reached by proxies.
pub record Been : Type 0 where
  pub left : ℕ
  pub reached : List ℕ

abbrev pub been : (left : ℕ) → (reached : List ℕ) → Been
been n ps = record { left = n; reached = ps }

-- A walk goes on, or has stopped in the record of a page.
pub data Walk : Type 0 where
  on : Been → Walk
  stopped : (page reason : ℕ) → Walk

abbrev pub contains : List ℕ → ℕ → Bool
contains [] p = false
contains (q ∷ qs) p = eqb q p || contains qs p

-- What a node leads into: a row of nodes, that is, its bytes, the page of their record, the kind of what holds them, and their level. A literal leads into an
-- empty row.
pub data Inside : Type 0 where
  row : (s : List ℕ) → (page holder level : ℕ) → Been → Inside
  stops : (page reason : ℕ) → Inside

-- The record of page p, if its root may be one: a row of one node, which takes all of the length used.
abbrev pub record_row : (img : List ℕ) → (rootOk : Bool) → (p level : ℕ) → Been → Inside
record_row img rootOk p level b =
    let s = record_of img p in
    let whole = eqb (whole_size s) (length s) in
    cond (not rootOk) (stops p bad_node)
    (cond (not (tail_zero img p)) (stops p past_length)
    (cond whole (row s p 0 level b) (stops p bad_node)))

-- A proxy in the record of `page`: the page that it names is a record's, has its back link here, and is reached for the first time (so one is left to be
-- reached, which is asked for too, and makes plain that the walk ends).
abbrev pub proxy_row : (img s : List ℕ) → (page level : ℕ) → Been → Inside
proxy_row img s page level b =
    let p = name_at s 0 in
    let fresh = names_of img p page && leb 2 b.left && not (contains b.reached p) in
    cond (not (eqb (length s) 8)) (stops page bad_node)
    (cond (not fresh) (stops page bad_proxy)
    (record_row img (root_fits img p) p level (been (b.left - 1) (p ∷ b.reached))))

-- A node in the record of `page`, inside a node of the kind `holder`.
unfoldable pub inside : (img s : List ℕ) → (page holder level : ℕ) → Been → Inside
inside img s page holder level b =
    let kind = passing_kind s holder in
    cond (eqb kind 0) (stops page bad_node)
    (cond (eqb kind 3) (proxy_row img s page level b)
    (cond (eqb kind 4) (row (drop 6 s) page 4 level b)
    (cond (ltb most_levels level) (stops page too_deep)
    (cond (eqb kind 2) (row [] page 2 level b)
    (row (drop 6 s) page 1 (level + 1) b)))))

-- On with what a walk has left, unless it has stopped.
abbrev pub onward : Walk → (Been → Walk) → Walk
onward (on b) f = f b
onward (stopped p r) f = stopped p r

abbrev pub into : Inside → (List ℕ → (page holder level : ℕ) → Been → Walk) → Walk
into (row s page holder level b) f = f s page holder level b
into (stops p r) f = stopped p r

-- The nodes of a row, each followed by the row that it leads into. The fuel is more than any image can use.
unfoldable pub row_walk : (fuel : ℕ) → (img s : List ℕ) → (page holder level : ℕ) → Been → Walk
row_walk zero img s page holder level b = cond (eqb (length s) 0) (on b) (stopped page bad_node)
row_walk (suc k) img s page holder level b =
    let n = whole_size s in
    let first = into (inside img (take n s) page holder level b) (row_walk k img) in
    let more = onward first (row_walk k img (drop n s) page holder level) in
    cond (eqb (length s) 0) (on b) (cond (eqb n 0) (stopped page bad_node) more)

-- The first of the k pages from p on that has a record and was not reached, 0 if there is none.
unfoldable pub unreached : (img reached : List ℕ) → (k p : ℕ) → ℕ
unreached img reached zero p = 0
unreached img reached (suc k) p =
    let later = unreached img reached k (suc p) in
    cond (is_free (trailer_of (page_of img p)) || contains reached p) later p

-- The walk is at its end: every record page is reached, or one is not.
abbrev pub walk_end : (img : List ℕ) → Walk → Fault
walk_end img (stopped p r) = fault 3 p r
walk_end img (on b) = cond (eqb b.left 1) no_fault (fault 3 (unreached img b.reached (page_count img - 2) 2) not_reached)

-- How many of the k pages from p on have a record.
unfoldable pub record_count : (img : List ℕ) → (k p : ℕ) → ℕ
record_count img zero p = 0
record_count img (suc k) p = cond (is_free (trailer_of (page_of img p))) 0 1 + record_count img k (suc p)

-- From page 1, whose root is an aggregate.
unfoldable pub walk_fault : (img : List ℕ) → Fault
walk_fault img =
    let start = been (record_count img (page_count img - 1) 1) [] in
    let root = record_row img (eqb (kind_at img page_size) 1) 1 1 start in
    walk_end img (into root (row_walk (16384 * (1 + page_count img)) img))

-- ── the whole ──

-- The first stage that finds a fault.
unfoldable pub fault_of : (img : List ℕ) → Fault
fault_of img =
    let n = page_count img in
    let pages = pages_fault img n (n - 1) 1 in
    let walk = walk_fault img in
    cond (not (settings_ok (page_of img 0) n)) (fault 1 0 (settings_reason (page_of img 0)))
    (cond (eqb pages.stage 0) walk pages)

-- The answer as numbers.
pub record Diagnosis : Type 0 where
  pub number : ℕ
  pub stage : ℕ
  pub page : ℕ
  pub reason : ℕ

abbrev pub diagnosis : (number : ℕ) → Fault → Diagnosis
diagnosis n f = record { number = n; stage = f.stage; page = f.page; reason = f.reason }

-- The check's number; zeros where that is 0 or 1.
unfoldable pub diagnose_of : (img : List ℕ) → Diagnosis
diagnose_of img = let n = check_of img in diagnosis n (cond (eqb n not_passed) (fault_of img) no_fault)

abbrev pub diagnose_call : Effect
diagnose_call = asking Diagnosis (λ a. a.number) diagnose_of (λ f h t. diagnosis 0 no_fault)
