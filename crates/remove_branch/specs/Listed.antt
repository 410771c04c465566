-- The pages that a row names itself are put behind those that are listed.
use Rattle.std.specs.Prelude.{◌≡◌, List, [], ◌∷◌, ◌++◌, ℕ, ◌+◌, ◌≤◌, ◌<◌, length}
use Rattle.std.proofs.Common.{sym, ap, ◌∙◌, append_assoc, append-nil, arith, length-append}
use Rattle.model.specs.Limits.{most_pages}
use Rattle.model.specs.Row.{Row, nil, agg, lit, rec}
use Rattle.grow_pages.specs.Links.{Linked, Walking, WalkStep, walk_start, walk_step, walk_end_lem, each}
use Rattle.remove_branch.specs.Own.{names}

-- The bytes are those of a row, and the list, of at most so many pages, has room for what the row names.
pub record Listing (part list : List ℕ) (most : ℕ) : Type 0 where
  pub linked : Linked part most_pages
  pub room : length list + length (names linked.row) ≤ most
  pub small : most ≤ most_pages

abbrev pub Listed : {part list : List ℕ} {most : ℕ} → Listing part list most → (after : List ℕ) → Type 0
Listed {part} {list} w after = after ≡ list ++ names w.linked.row

-- A page comes to the list.
abbrev pub add : (page : ℕ) → (list : List ℕ) → List ℕ
add p l = l ++ (p ∷ [])

each_add : (row : Row) (x : List ℕ) → each add row x ≡ x ++ names row
each_add nil x = sym (append-nil x)
each_add (agg h cs rest) x = each_add rest (each add cs x) ∙ ap (λ (l : List ℕ). l ++ names rest) (each_add cs x) ∙ append_assoc x (names cs) (names rest)
each_add (lit h c rest) x = each_add rest x
each_add (rec p s r rest) x = each_add rest (add p x) ∙ append_assoc x (p ∷ []) (names rest)

-- The list as it is at byte pos of the row: what is left of the row leads to what is wanted.
pub record Along {part list : List ℕ} {most : ℕ} (w : Listing part list most) (pos : ℕ) (now : List ℕ) : Type 0 where
  pub walk : Walking part most_pages add pos now (each add w.linked.row list)
  pub few : length now ≤ most

module _ {part list : List ℕ} {most : ℕ} (w : Listing part list most) where
  pub along_start : Along w 0 list
  along_start = record { walk = walk_start part list most_pages add w.linked; few = omega (arith, w.room) }

  goal_long : length (each add w.linked.row list) ≡ length list + length (names w.linked.row)
  goal_long = ap length (each_add w.linked.row list) ∙ length-append list (names w.linked.row)

  module _ {pos : ℕ} {now : List ℕ} (a : Along w pos now) where
    pub along_step : pos < length part → WalkStep part most_pages add pos now (each add w.linked.row list)
    along_step h = walk_step part most_pages add pos now (each add w.linked.row list) (omega arith) a.walk h

    -- As long as a page is named, there is room for it.
    pub along_room : (next p : ℕ) → Walking part most_pages add next (add p now) (each add w.linked.row list) → length now < most
    along_room next p s =
        omega (
          arith,
          goal_long,
          w.room,
          ap length (sym (each_add s.row (add p now)) ∙ s.same),
          length-append (add p now) (names s.row),
          length-append now (p ∷ []),
        )

    pub along_on : (next : ℕ) → Walking part most_pages add next now (each add w.linked.row list) → Along w next now
    along_on next s = record { walk = s; few = a.few }

    pub along_more : (next p : ℕ) → Walking part most_pages add next (add p now) (each add w.linked.row list) → Along w next (add p now)
    along_more next p s = record { walk = s; few = omega (arith, along_room next p s, length-append now (p ∷ [])) }

    pub along_end : length part ≤ pos → Listed w now
    along_end h = walk_end_lem part most_pages add pos now (each add w.linked.row list) (omega arith) a.walk h ∙ each_add w.linked.row list
