-- Where a removal's node stands: from what find says of its parent, and what is found among the parent's children.
use Rattle.std.specs.Option.{option_map}
use Rattle.std.specs.Prelude.{Option as Found, Some, None, is_some, ◌≡◌, refl, Bool, true, false, not, List, [], ◌∷◌, ◌++◌, ℕ, ◌+◌, ◌*◌, ◌-◌, ◌%◌, ◌≤◌, length, take, ltb}
use Rattle.std.proofs.Common.{sym, ap, subst, ◌∙◌, true≢false, arith, eq-eqb, length-take}
use Rattle.std.proofs.Math.Bool.{not-eq-not}
use Rattle.std.proofs.Math.Option.{Option, some}
use Rattle.model.specs.Limits.{most_pages, page_size, longest_path, longest_parent}
use Rattle.model.specs.Row.{Row, Config}
use Rattle.model.specs.Tree.{Node, shown, named, place_of}
use Rattle.model.specs.Reading.{Reads, kind_at, size_at}
use Rattle.model.specs.Spot.{Stand, stand_of}
use Rattle.model.specs.Common.{named_if, named_by, or_empty, path_of, is_none}
use Rattle.model.specs.Calls.Find.{find_of}
use Rattle.model.specs.declared.Place.{Place}
use Rattle.model.specs.Answers.{FindAnswer}
use Rattle.theory_layout.specs.Here.{view}
use Rattle.theory_layout.specs.Nodes.{ReadAt}
use Rattle.read_find.specs.Rowed.{Rowed}
use Rattle.read_find.specs.Entries.{four_at, broken}
use Rattle.grow_locate.specs.Seek.{seek_span, children_span}
use Rattle.grow_refusals.specs.Admit.{found_at, FoundNode, find_number, found, not_literal, searched}
use Rattle.remove_locate.specs.declared.Standing.{Standing}
use Rattle.remove_locate.specs.Leave.{standing_at, standing_of, standing_found, standing_is}
use Rattle.remove_path.specs.Child.{has_child, child_named, no_child, LastEntry, last_entry}

-- The node is found exactly if the path names one, and then where it stands in the records.
pub record Locates (root : Row) (path : List ℕ) (r : Found Standing) : Type 0 where
  pub found : is_some r ≡ not (is_none (named_by (shown root) path))
  pub stands : is_some r ≡ true → (t : Stand) → stand_of root (path_of path) ≡ some t → r ≡ Some (standing_of t)

none_located : (root : Row) (path : List ℕ) → is_none (named_by (shown root) path) ≡ true → Locates root path None
none_located root path z = record { found = ap not (sym z); stands = λ y. absurd (true≢false (sym y)) }

-- A path that is not whole entries names none.
pub broken_located : (root : Row) (path : List ℕ) → (length path % 4 ≡ 0 → ⊥) → Locates root path None
broken_located root path h = none_located root path (ap (λ (o : Option (List ℕ)). is_none (named_if (shown root) o)) (broken path h))

-- ── by the parent ──

module _ (img : List ℕ) (st : Config) (root : Row) (reads : Reads img st root) (path : List ℕ) (entire : length path % 4 ≡ 0) (some_bytes : 1 ≤ length path)
    (short : length path ≤ longest_path) where
  abbrev up : ℕ
  up = length path - 4

  last : LastEntry path
  last = last_entry path entire some_bytes

  abbrev k : ℕ
  k = four_at path up

  -- The parent's path.
  parent_short : length (take up path) ≤ longest_parent
  parent_short = simp length-take (omega arith)

  parent_is : named_by (shown root) (take up path) ≡ named (shown root) last.front
  parent_is = ap (named_if (shown root)) last.whole

  node_is : named_by (shown root) path ≡ named (shown root) (last.front ++ k ∷ [])
  node_is = ap (named_if (shown root)) last.is

  module _ (f : FindAnswer) (is : f ≡ find_of img (take up path)) where
    pub no_parent : (f.number ≡ 0 → ⊥) → Locates root path None
    no_parent z =
        let n = (not-eq-not {b = true}).0 (λ e. z (ap (λ (f : FindAnswer). f.number) is ∙ find_number img st root reads (take up path) parent_short false e)) in
        none_located root path
        (ap is_none node_is ∙ no_child 0 last.front (k ∷ []) (shown root) (ap is_none (sym parent_is) ∙ n))

    module _ (there : f.number ≡ 0) where
      parent : FoundNode img root (take up path)
      parent =
          found img st root reads (take up path) parent_short
          ((not-eq-not {b = false}).0 (λ e. omega (
            arith,
            find_number img st root reads (take up path) parent_short true e,
            ap (λ (f : FindAnswer). f.number) is,
          )))

      has_child_lem : is_none (named_by (shown root) path) ≡ not (has_child k parent.node)
      has_child_lem = ap is_none node_is ∙ child_named 0 last.front k (shown root) parent.node (sym parent_is ∙ parent.names)

      module _ (pos : ℕ) (at : pos ≡ page_size * f.place.page + f.place.offset) where
        byte : pos ≡ found_at img (take up path)
        byte = at ∙ ap (λ (f : FindAnswer). page_size * f.place.page + f.place.offset) is

        own_read : ReadAt img parent.node pos
        own_read = subst (ReadAt img parent.node) (sym byte) parent.read

        pub node_read : (n : Node) × ReadAt img n pos
        node_read = (parent.node, own_read)

        -- A literal has no children.
        pub literal_located : kind_at img pos ≡ 2 → Locates root path None
        literal_located e =
            let v = own_read in
            let two : parent.node.kind ≡ 2 = v.kind_is ∙ sym (view v.here v.some).kind_is ∙ e in
            none_located root path (has_child_lem ∙ rw (eq-eqb parent.node.kind 2 two))

        -- Its children as the search takes them, and what it finds.
        pub kids : (kind_at img pos ≡ 2 → ⊥) → Rowed img (pos + 6) (pos + size_at img pos) most_pages
        kids z = searched own_read z

        pub child_located : (r : Found Standing) (n : ℕ) → n ≡ k → (kind_at img pos ≡ 2 → ⊥)
            → ((w : Rowed img (pos + 6) (pos + size_at img pos) most_pages) → r ≡ option_map standing_at (seek_span (children_span img pos) w.row n))
            → Locates root path r
        child_located r n i z sought =
            let v = own_read in
            let e : (w : Rowed img (pos + 6) (pos + size_at img pos) most_pages) → r ≡ option_map standing_at (seek_span (children_span img pos) w.row k) =
            λ w. sought w ∙ ap (λ (n : ℕ). option_map standing_at (seek_span (children_span img pos) w.row n)) i in
            let many : is_some r ≡ ltb k parent.node.children =
            standing_found r (children_span img pos) k (searched v z).row (e (searched v z)) ∙ ap (ltb k) (sym v.children_is) in
            record {
              found = many ∙ sym (ap not has_child_lem ∙ rw (not_literal v z) (twice (ltb k parent.node.children)));
              stands = λ y t s. standing_is (record {
                st = st;
                root = root;
                reads = reads;
                path = last.front;
                t = t;
                stands = ap (λ (o : Option (List ℕ)). stand_of root (or_empty o)) (sym last.is) ∙ s;
                y = parent.y;
                names = ap (λ (o : Option (List ℕ)). place_of root (or_empty o)) (sym last.whole) ∙ parent.place;
                at = byte ∙ ap (λ (y : Place). page_size * y.page + y.offset) parent.finds;
              }) r e;
            }
          where
            twice : (b : Bool) → not (not b) ≡ b
            twice true = refl
            twice false = refl
