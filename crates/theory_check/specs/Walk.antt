-- The walk: what stands in an image from a node on, as a row, with the state of the walk.
use Rattle.std.specs.Prelude.{Bool, cond, not, ◌&&◌, List, ℕ, ◌+◌, ◌-◌, ◌*◌, length, take, drop, ltb, leb, eqb}
use Rattle.model.specs.Limits.{page_size, most_levels}
use Rattle.model.specs.Row.{Head, Row, nil, agg, lit, rec, ◌⊹◌}
use Rattle.model.specs.Reading.{head_at, name_at, settled_at}
use Rattle.theory_check.specs.Rec.{run}
use Rattle.model.specs.WalkTests.{whole_size, passing_kind, names_of, root_fits, tail_zero, record_of}
use Rattle.theory_check.specs.Tests.{is_marked, marked}

-- The state of the walk: 0 where it is refused, else one more than the record pages still to be reached; and a mark for each page.
pub record State : Type 0 where
  pub left : ℕ
  pub marks : List ℕ

abbrev pub state : (left : ℕ) → (marks : List ℕ) → State
state n m = record { left = n; marks = m }

abbrev pub refused_of : State → State
refused_of w = state 0 w.marks

abbrev pub with_mark : State → (page : ℕ) → State
with_mark w p = state (w.left - 1) (marked w.marks p)

-- The walk can go on in page p, whose proxy stands in the record of `page`.
unfoldable pub enters_of : List ℕ → (p page : ℕ) → State → Bool
enters_of img p page w = names_of img p page && root_fits img p && leb 2 w.left && not (is_marked w.marks p) && tail_zero img p

pub record Decoded : Type 0 where
  pub row : Row
  pub walk : State

-- What is to be decoded: one node, or a list of them; the bytes s stand in the record of `page`, inside a node of the kind `holder`.
pub data Job : Type 0 where
  node : (s : List ℕ) → (page holder level : ℕ) → (w : State) → Job
  list : (s : List ℕ) → (page holder level : ℕ) → (w : State) → Job

-- Falls with every call: pages first, then bytes.
abbrev pub measure : Job → ℕ
measure (node s page holder level w) = 16384 * w.left + 2 * length s
measure (list s page holder level w) = 16384 * w.left + 2 * length s + 1

abbrev pub stop : State → Decoded
stop w = record { row = nil; walk = refused_of w }

abbrev pub none : Job → Decoded
none (node s page holder level w) = stop w
none (list s page holder level w) = stop w

abbrev pub as_agg : Head → Decoded → Decoded
as_agg h d = record { row = agg h d.row nil; walk = d.walk }

abbrev pub as_rec : (page : ℕ) → (settled : Bool) → Decoded → Decoded
as_rec p b d = record { row = rec p b d.row nil; walk = d.walk }

abbrev pub before : Decoded → Decoded → Decoded
before a d = record { row = a.row ⊹ d.row; walk = d.walk }

module _ (img : List ℕ) (call : Job → Decoded) where
  unfoldable pub proxy_step : (p page level : ℕ) → State → Decoded
  proxy_step p page level w =
      cond (enters_of img p page w)
      (as_rec p (eqb (settled_at img (page_size * p)) 1) (call (node (record_of img p) p 0 level (with_mark w p))))
      (stop w)

  unfoldable pub node_step : List ℕ → (page holder level : ℕ) → State → (kind : ℕ) → Decoded
  node_step s page holder level w kind =
      cond (eqb kind 0) (stop w)
      (cond (eqb kind 3)
      (cond (eqb (length s) 8) (proxy_step (name_at s 0) page level w) (stop w))
      (cond (eqb kind 4) (call (list (drop 6 s) page 4 level w))
      (cond (ltb most_levels level) (stop w)
      (cond (eqb kind 2) (record { row = lit (head_at s 0) (drop 6 s) nil; walk = w })
      (as_agg (head_at s 0) (call (list (drop 6 s) page 1 (level + 1) w)))))))

  unfoldable pub more_step : List ℕ → (page holder level : ℕ) → State → (n : ℕ) → Decoded
  more_step s page holder level w n =
      let a : Decoded = call (node (take n s) page holder level w) in
      before a (call (list (drop n s) page holder level a.walk))

  unfoldable pub list_step : List ℕ → (page holder level : ℕ) → State → Decoded
  list_step s page holder level w =
      cond (eqb (length s) 0) (record { row = nil; walk = w })
      (cond (eqb w.left 0) (record { row = nil; walk = w })
      (cond (eqb (whole_size s) 0) (stop w) (more_step s page holder level w (whole_size s))))

  abbrev pub step : Job → Decoded
  step (node s page holder level w) = node_step s page holder level w (passing_kind s holder)
  step (list s page holder level w) = list_step s page holder level w

-- A job's outcome in an image.
unfoldable pub decode : List ℕ → Job → Decoded
decode img = run measure none (step img)

abbrev pub node_of : (img s : List ℕ) → (page holder level : ℕ) → State → Decoded
node_of img s page holder level w = decode img (node s page holder level w)

abbrev pub list_of : (img s : List ℕ) → (page holder level : ℕ) → State → Decoded
list_of img s page holder level w = decode img (list s page holder level w)

abbrev pub proxy_of : (img : List ℕ) → (p page level : ℕ) → State → Decoded
proxy_of img p page level w = proxy_step img (decode img) p page level w
