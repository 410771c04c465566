-- What the walk's functions hand on, and the walk of the definition that it stands for.
use Rattle.std.specs.Prelude.{◌≡◌, Bool, true, false, cond, not, ◌&&◌, List, ◌∷◌, ℕ, ◌+◌, ◌-◌, ◌*◌, ◌/◌, ◌≤◌, ◌<◌, length, get_or, take, drop, leb, eqb}
use Rattle.std.specs.Prelude.{Result, Ok, Err, IfOk, OnOk}
use Rattle.model.specs.Limits.{most_pages, page_size, capacity, most_levels}
use Rattle.model.specs.Reading.{kind_at, used_at}
use Rattle.model.specs.BeforeWalk.{page_count}
use Rattle.model.specs.WalkTests.{whole_size, names_of, root_fits}
use Rattle.model.specs.Reasons.{reason_number}
use Rattle.model.specs.declared.Reason.{Reason}
use Rattle.model.specs.Calls.Diagnose.{been, Walk, on, stopped, contains, Inside, row, stops, bad_node, bad_proxy, record_row, inside, into}
use Rattle.theory_check.specs.Tests.{is_marked, marked}
use Rattle.theory_check.specs.Marks.{IsMarks}
use Rattle.theory_check.specs.Levels.{record_end}
use Rattle.theory_faults.specs.Fuel.{walk}
use Rattle.theory_faults.specs.Reached.{Matches}
use Rattle.read_fault_nodes.specs.declared.Holder.{Holder}
use Rattle.read_fault_nodes.specs.declared.Holder.TheVariants.{Record, Aggregate, Literal, Helper}
use Rattle.read_fault_nodes.specs.declared.Inner.{Inner}
use Rattle.read_fault_nodes.specs.declared.Stop.{Stop}

abbrev pub part : (img : List ℕ) → (start stop : ℕ) → List ℕ
part img a e = take (e - a) (drop a img)

-- A row that ends before the trailer of the page in which it starts.
pub record Within (img : List ℕ) (start stop holder level : ℕ) : Type 0 where
  pub fits : stop ≤ page_size * (start / page_size) + capacity
  pub on : start / page_size < page_count img
  pub held : holder < 5
  pub low : level ≤ most_levels + 1

-- A page with a record that ends before its trailer.
pub record Holds (img : List ℕ) (p : ℕ) : Type 0 where
  pub few : p < most_pages
  pub on : page_size * p + page_size ≤ length img
  pub used : used_at img (page_size * p) ≤ capacity

-- ── what a node leads into ──

-- As a kind, 0 for a record's page.
abbrev pub holder_number : Holder → ℕ
holder_number Record = 0
holder_number Aggregate = 1
holder_number Literal = 2
holder_number Helper = 4

abbrev pub row_at : (start stop : ℕ) → Holder → (level left : ℕ) → Inner
row_at a e h l n = record { start = a; stop = e; holder = h; level = l; left = n }

abbrev pub stop_at : (page : ℕ) → Reason → Stop
stop_at p c = record { page = p; reason = c }

-- Where those pages were reached.
abbrev pub inner_of : (img : List ℕ) → Result Inner Stop → (reached : List ℕ) → Inside
inner_of img (Ok x) ps = row (part img x.start x.stop) (x.start / page_size) (holder_number x.holder) x.level (been x.left ps)
inner_of img (Err s) ps = stops s.page (reason_number s.reason)

-- The row of the record of page p, which is one node.
pub record Rooted (img : List ℕ) (p level left : ℕ) (x : Inner) : Type 0 where
  pub is : x ≡ row_at (page_size * p) (record_end img p) Record level left
  pub whole : whole_size (part img (page_size * p) (record_end img p)) ≡ used_at img (page_size * p)

-- The same of a page that is reached for the first time.
pub record Opened (img : List ℕ) (p level left : ℕ) (before after : List ℕ) (x : Inner) : Type 0 where
  pub holds : Holds img p
  pub fresh : is_marked before p ≡ false
  pub marks : after ≡ marked before p
  pub room : 2 ≤ left
  pub root : Rooted img p level (left - 1) x

-- The row of the node from i to next, by its kind. In a record's own row stands no proxy, and elsewhere no helper.
pub data Into (img : List ℕ) (i next holder level left : ℕ) (before after : List ℕ) (x : Inner) : Type 0 where
  proxy : (p : ℕ) → (holder ≡ 0 → ⊥) → next ≡ i + 8 → Opened img p level left before after x → Into img i next holder level left before after x
  helper : holder ≡ 0 → after ≡ before → x ≡ row_at (i + 6) next Helper level left → Into img i next holder level left before after x
  literal : after ≡ before → x ≡ row_at next next Literal level left → Into img i next holder level left before after x
  aggregate : after ≡ before → level ≤ most_levels → x ≡ row_at (i + 6) next Aggregate (level + 1) left → Into img i next holder level left before after x

-- The marks are then those of the pages reached then.
pub record Led (img : List ℕ) (w : Inside) (r : Result Inner Stop) (marks : List ℕ) : Type 0 where
  pub reached : List ℕ
  pub matches : OnOk r (Matches marks reached)
  pub same : w ≡ inner_of img r reached

-- Whatever pages were reached before, if the marks were theirs; and what is said of a row.
pub record Leads (img : List ℕ) (w : (reached : List ℕ) → Inside) (Says : Inner → Type 0) (before after : List ℕ) (r : Result Inner Stop) : Type 0 where
  pub says : IfOk r Says
  pub led : (reached : List ℕ) → Matches before reached → Led img (w reached) r after

-- The same where no page is entered: the marks stay.
pub record LeadsTo (img : List ℕ) (w : (reached : List ℕ) → Inside) (Says : Inner → Type 0) (r : Result Inner Stop) : Type 0 where
  pub says : IfOk r Says
  pub same : (reached : List ℕ) → w reached ≡ inner_of img r reached

unfoldable pub record_on : (img : List ℕ) → (rootOk : Bool) → (p level left : ℕ) → (reached : List ℕ) → Inside
record_on img rootOk p level left ps = record_row img rootOk p level (been left ps)

-- A proxy of the right size that names page p.
unfoldable pub proxy_to : (img : List ℕ) → (p page level left : ℕ) → (reached : List ℕ) → Inside
proxy_to img p page level left ps =
    let fresh = names_of img p page && leb 2 left && not (contains ps p) in
    cond (not fresh) (stops page bad_proxy) (record_row img (root_fits img p) p level (been (left - 1) (p ∷ ps)))

unfoldable pub inside_of : (img : List ℕ) → (i next holder level left : ℕ) → (reached : List ℕ) → Inside
inside_of img i next holder level left ps = inside img (part img i next) (i / page_size) holder level (been left ps)

-- Where the first node of the row from i to stop ends, and what it leads into.
abbrev pub next_of : (img : List ℕ) → (i stop : ℕ) → ℕ
next_of img i stop = i + whole_size (part img i stop)

-- The node stands in the row.
abbrev pub Sized : (img : List ℕ) → (i stop : ℕ) → Type 0
Sized img i stop = (i + 6 ≤ next_of img i stop) × (next_of img i stop ≤ stop)

unfoldable pub first_of : (img : List ℕ) → (i stop holder level left : ℕ) → (reached : List ℕ) → Inside
first_of img i stop holder level left ps =
    cond (eqb (whole_size (part img i stop)) 0) (stops (i / page_size) bad_node) (inside_of img i (next_of img i stop) holder level left ps)

-- ── the walk ──

-- What is left to be reached, or where the walk has stopped.
abbrev pub walked_of : Result ℕ Stop → (reached : List ℕ) → Walk
walked_of (Ok left) ps = on (been left ps)
walked_of (Err s) ps = stopped s.page (reason_number s.reason)

pub record Ended (w : Walk) (r : Result ℕ Stop) (marks : List ℕ) : Type 0 where
  pub reached : List ℕ
  pub matches : OnOk r (Matches marks reached)
  pub same : w ≡ walked_of r reached

abbrev pub walk_of : (img : List ℕ) → (start stop holder level left : ℕ) → (reached : List ℕ) → Walk
walk_of img start stop holder level left ps = walk img (part img start stop) (start / page_size) holder level (been left ps)

-- From page 1, whose root is an aggregate.
abbrev pub record_walk : (img : List ℕ) → (left : ℕ) → (reached : List ℕ) → Walk
record_walk img left ps = into (record_on img (eqb (kind_at img page_size) 1) 1 1 left ps) (walk img)

abbrev pub Ends : (w : (reached : List ℕ) → Walk) → (before after : List ℕ) → Result ℕ Stop → Type 0
Ends w m n r = (reached : List ℕ) → Matches m reached → Ended (w reached) r n

-- Pages that were marked stay so, and keep their ways back.
pub record Keeps (marks back after now : List ℕ) : Type 0 where
  pub page : (q : ℕ) → q < most_pages → is_marked marks q ≡ true → (is_marked after q ≡ true) × (get_or now q 0 ≡ get_or back q 0)

-- So they do in a walk that goes on and leaves n pages; no more are left than there were, and the tables are tables as long as before.
pub record Stays (left : ℕ) (marks back after now : List ℕ) (n : ℕ) : Type 0 where
  pub less : n ≤ left
  pub kept : Keeps marks back after now
  pub are : IsMarks after
  pub long : length now ≡ length back
