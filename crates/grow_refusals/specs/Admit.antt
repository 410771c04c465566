-- The tests of an insert on an image: what find and read say of the parent, and which number each test gives.
use Rattle.std.specs.Prelude.{Option as Found, is_some, ◌≡◌, refl, Bool, cond, not, ◌&&◌, ◌||◌, List, [], ◌∷◌, ℕ, ◌+◌, ◌*◌, ◌≤◌, ◌<◌, length, leb, ltb, eqb}
use Rattle.std.proofs.Common.{sym, ap, subst, ◌∙◌, true≢false, arith}
use Rattle.std.proofs.Math.Bool.{true, false, not-eq-not}
use Rattle.std.proofs.Math.Option.{Option, none, some}
use borrow.Author.Tests.{le-ltb, lt-ltb, leb-true, leb-false, eq-eqb, ne_eqb}
use Rattle.model.specs.Limits.{most_pages, page_size, most_bytes, most_content, most_origin, longest_path, longest_parent}
use Rattle.model.specs.Row.{Head, Row, nil, agg, lit, rec, size, Config}
use Rattle.model.specs.Tree.{Node, shown, named, place_of}
use Rattle.model.specs.Reading.{Reads, size_at, kind_at}
use Rattle.model.specs.Answers.{first_refusal}
use Rattle.model.specs.Common.{entries, named_if, named_by, or_empty, path_of, is_none}
use Rattle.model.specs.Calls.Insert.{is_literal, children_below, new_of, insert_number}
use Rattle.model.specs.Calls.Find.{find_in, find_of}
use Rattle.model.specs.declared.Place.{Place}
use Rattle.model.specs.Answers.{FindAnswer}
use Rattle.theory_places.specs.Named.{named_in_lem, named_place}
use Rattle.theory_calls.specs.Open.{opens}
use Rattle.theory_calls.specs.Tests.{accepted}
use Rattle.theory_calls.specs.Spot.{spot_accepted}
use Rattle.grow_locate.specs.declared.Receiver.{Receiver}
use Rattle.grow_locate.specs.Seek.{children_span}
use Rattle.grow_locate.specs.Choose.{sight_child, sight_found}
use Rattle.grow_locate.specs.Aim.{Aimed}
use Rattle.theory_row_bytes.specs.RowAt.{kind_of}
use Rattle.theory_layout.specs.Here.{view}
use Rattle.theory_layout.specs.Nodes.{NodeRead, ReadAt, node_read}
use Rattle.read_find.specs.Rowed.{Rowed, children_of}

-- `kind_bad` of a new node, by its content's length.
abbrev pub bad_kind : (kind len : ℕ) → Bool
bad_kind kind len = not (eqb kind 1 || eqb kind 2) || (eqb kind 1 && not (eqb len 0))

-- The byte of the image at which the node that find gives stands.
abbrev pub found_at : (img path : List ℕ) → ℕ
found_at img path = page_size * (find_of img path).place.page + (find_of img path).place.offset

-- ── the parent, by its byte ──

-- The tests of the parent in their order.
abbrev pub parent_number : (kind children child : ℕ) → ℕ
parent_number kind children k = first_refusal ((8, eqb kind 2) ∷ (9, ltb children k) ∷ (12, false) ∷ [])

module _ {img : List ℕ} {kind : ℕ} {head : Head} {content : List ℕ} {children parent : ℕ} (r : NodeRead img kind head content children parent) where
  pub read_room : (parent + 16 ≤ length img) × (parent < most_bytes)
  read_room = omega (arith, r.here.room, r.here.on.inside, r.here.on.high)

  pub is_agg_lem : (kind_at img parent ≡ 2 → ⊥) → kind_of r.row ≡ 1
  is_agg_lem z = go r.row r.some r.plain (λ e. z ((view r.here r.some).kind_is ∙ e))
    where
      go : (row : Row) → 0 < size row → (kind_of row ≡ 3 → ⊥) → (kind_of row ≡ 2 → ⊥) → kind_of row ≡ 1
      go nil h a b = absurd (omega arith)
      go (agg l cs rest) h a b = refl
      go (lit l c rest) h a b = absurd (b refl)
      go (rec p s x rest) h a b = absurd (a refl)

  pub is_literal_lem : (k : ℕ) → kind_at img parent ≡ 2 → 8 ≡ parent_number kind children k
  is_literal_lem k e = sym (rw (eq-eqb kind 2 (r.kind_is ∙ sym (view r.here r.some).kind_is ∙ e)))

  module _ (z : kind_at img parent ≡ 2 → ⊥) where
    pub not_literal : eqb kind 2 ≡ false
    not_literal = ne_eqb kind 2 (λ e. z ((view r.here r.some).kind_is ∙ sym r.kind_is ∙ e))

    -- The children as the search takes them.
    abbrev pub searched : Rowed img (parent + 6) (parent + size_at img parent) most_pages
    searched = children_of r.here (is_agg_lem z) r.deep r.few (size_at img parent) refl

    -- The search's number of the child.
    module _ (k : ℕ) (x : Found Receiver) (q : x ≡ sight_child img (children_span img parent) searched.row k) where
      sees : (b : Bool) → is_some x ≡ b → leb k children ≡ b
      sees b f = ap (leb k) r.children_is ∙ sym (ap (λ (x : Found Receiver). is_some x) q ∙ sight_found img (children_span img parent) searched.row k) ∙ f

      pub is_past : is_some x ≡ false → 9 ≡ parent_number kind children k
      is_past f = sym (rw (not_literal, lt-ltb children k (leb-false k children (sees false f))))

      pub is_within : is_some x ≡ true → 0 ≡ parent_number kind children k
      is_within f = sym (rw (not_literal, le-ltb children k (leb-true k children (sees true f))))

-- ── the parent, by find ──

-- The node that a path names, its place, which find gives, and what is read there.
pub record FoundNode (img : List ℕ) (root : Row) (path : List ℕ) : Type 0 where
  pub node : Node
  pub names : named_by (shown root) path ≡ some node
  pub y : Place
  pub place : place_of root (path_of path) ≡ some y
  pub finds : (find_of img path).place ≡ y
  pub read : ReadAt img node (found_at img path)

module _ (img : List ℕ) (st : Config) (root : Row) (reads : Reads img st root) (path : List ℕ) (short : length path ≤ longest_parent) where
  -- Find refuses a path of this length only if it names no node.
  pub find_number : (b : Bool) → is_none (named_by (shown root) path) ≡ b → (find_of img path).number ≡ cond b 7 0
  unfolding find_of find_in
  find_number true e = rw (opens img st root reads, le-ltb longest_path (length path) (omega arith), e)
  find_number false e = rw (opens img st root reads, le-ltb longest_path (length path) (omega arith), e)

  find_place : (n : Node) (y : Place) → named_by (shown root) path ≡ some n → place_of root (path_of path) ≡ some y → (find_of img path).place ≡ y
  unfolding find_of find_in
  find_place n y e f = rw (opens img st root reads, le-ltb longest_path (length path) (omega arith), e, f)

  pub found : is_none (named_by (shown root) path) ≡ false → FoundNode img root path
  found z = go (entries path) refl z
    where
      at : (p : List ℕ) → entries path ≡ some p → (o : Option Node) → named (shown root) p ≡ o → is_none o ≡ false → FoundNode img root path
      at p e none f z = absurd (true≢false z)
      at p e (some n) f z =
          let (y, g) = named_place root p n f in
          let m = named_in_lem (shown root) p n f in
          let i : named_by (shown root) path ≡ some n = ap (named_if (shown root)) e ∙ f in
          let j : place_of root (path_of path) ≡ some y = ap (λ (o : Option (List ℕ)). place_of root (or_empty o)) e ∙ g in
          let k = find_place n y i j in
          record {
            node = n;
            names = i;
            y = y;
            place = j;
            finds = k;
            read =
                subst (λ (y : Place). ReadAt img n (page_size * y.page + y.offset)) (sym k)
                (node_read img st root reads n m.0 y (ap (place_of root) m.1 ∙ g));
          }

      go : (o : Option (List ℕ)) → entries path ≡ o → is_none (named_if (shown root) o) ≡ false → FoundNode img root path
      go none e z = absurd (true≢false z)
      go (some p) e z = at p e (named (shown root) p) refl z

-- An insert that is accepted aims at the node that find gives for the parent's path.
abbrev pub aims : (img : List ℕ) (st : Config) (root : Row) (reads : Reads img st root) (path : List ℕ) (child kind origin label parent : ℕ) (content : List ℕ)
    → insert_number (shown root) path child (new_of kind origin label content) false ≡ 0 → parent ≡ found_at img path → Aimed img parent child
aims img st root reads path child kind origin label parent content z e =
    let a = accepted (shown root) path child (new_of kind origin label content) false z in
    let (t, f) = spot_accepted root path child (new_of kind origin label content) false a in
    let u = found img st root reads path a.short a.named in
    record {
      st = st;
      root = root;
      reads = reads;
      path = path_of path;
      t = t;
      taken = f;
      y = u.y;
      names = u.place;
      at = e ∙ ap (λ (y : Place). page_size * y.page + y.offset) u.finds;
    }

-- ── the numbers ──

-- No test of the arguments alone applies.
pub record Formed (path : List ℕ) (kind origin : ℕ) (content : List ℕ) : Type 0 where
  pub short : length path ≤ longest_parent
  pub good : bad_kind kind (length content) ≡ false
  pub known : origin ≤ most_origin
  pub small : length content ≤ most_content

module _ (img path : List ℕ) (child kind origin : ℕ) (content : List ℕ) where
  -- The insert's number, whatever the store and the label.
  abbrev pub Number : ℕ → Type 0
  Number n = (st : Config) (root : Row) → Reads img st root → (label : ℕ) → n ≡ insert_number (shown root) path child (new_of kind origin label content) false

  -- ── by the arguments alone ──

  pub too_long : longest_parent < length path → Number 4
  unfolding insert_number
  too_long a = λ st root reads label. rw (lt-ltb longest_parent (length path) a)

  pub wrong_kind_lem : length path ≤ longest_parent → bad_kind kind (length content) ≡ true → Number 5
  unfolding insert_number
  wrong_kind_lem a b = λ st root reads label. rw (le-ltb longest_parent (length path) a, b)

  pub wrong_origin_lem : length path ≤ longest_parent → bad_kind kind (length content) ≡ false → most_origin < origin → Number 13
  unfolding insert_number
  wrong_origin_lem a b o = λ st root reads label. rw (le-ltb longest_parent (length path) a, b, lt-ltb most_origin origin o)

  pub long_content_lem : length path ≤ longest_parent → bad_kind kind (length content) ≡ false → origin ≤ most_origin → most_content < length content → Number 6
  unfolding insert_number
  long_content_lem a b o c = λ st root reads label. rw (le-ltb longest_parent (length path) a, b, le-ltb most_origin origin o, lt-ltb most_content (length content) c)

  -- ── by the parent ──

  module _ (w : Formed path kind origin content) where
    -- The tests of the parent are left.
    formed : (st : Config) (root : Row) (label : ℕ) → let parent = named_by (shown root) path in
        first_refusal ((7, is_none parent) ∷ (8, is_literal parent) ∷ (9, children_below child parent) ∷ (12, false) ∷ []) ≡ insert_number (shown root) path child
        (new_of kind origin label content) false
    unfolding insert_number
    formed st root label =
        rw (le-ltb longest_parent (length path) w.short, w.good, le-ltb most_origin origin w.known, le-ltb most_content (length content) w.small)

    module _ (f : FindAnswer) (is : f ≡ find_of img path) where
      pub no_node_lem : (f.number ≡ 0 → ⊥) → Number 7
      no_node_lem z = λ st root reads label.
          let e = (not-eq-not {b = true}).0 (λ e. z (ap (λ (f : FindAnswer). f.number) is ∙ find_number img st root reads path w.short false e)) in
          sym (rw e) ∙ formed st root label

      -- What find refuses names no node.
      pub not_found : (n : ℕ) → n ≡ f.number → (n ≡ 0 → ⊥) → Number n
      not_found n e z = λ st root reads label.
          let number = find_number img st root reads path w.short in
          let seven : (b : Bool) → is_none (named_by (shown root) path) ≡ b → n ≡ cond b 7 0 = λ b h. e ∙ ap (λ (f : FindAnswer). f.number) is ∙ number b h in
          go (is_none (named_by (shown root) path)) (seven _ refl) ∙ no_node_lem (λ y. z (e ∙ y)) st root reads label
        where
          go : (b : Bool) → n ≡ cond b 7 0 → n ≡ 7
          go true h = h
          go false h = absurd (z h)

      module _ (there : f.number ≡ 0) where
        parent_found : (st : Config) (root : Row) → Reads img st root → FoundNode img root path
        parent_found st root reads =
            found img st root reads path w.short
            ((not-eq-not {b = false}).0 (λ e. omega (arith, find_number img st root reads path w.short true e, ap (λ (f : FindAnswer). f.number) is)))

        -- The parent's byte,
        pub parent_is : {parent : ℕ} → parent ≡ page_size * f.place.page + f.place.offset → parent ≡ found_at img path
        parent_is e = e ∙ ap (λ (f : FindAnswer). page_size * f.place.page + f.place.offset) is

        -- the node there in any store that the image reads as,
        pub parent_read : (st : Config) (root : Row) → Reads img st root → {parent : ℕ} → parent ≡ found_at img path → (n : Node) × ReadAt img n parent
        parent_read st root reads e = let u = parent_found st root reads in (u.node, subst (ReadAt img u.node) (sym e) u.read)

        -- and the number that it gives.
        pub by_parent : {parent : ℕ} (number : ℕ) → parent ≡ found_at img path
            → ((n : Node) → ReadAt img n parent → number ≡ parent_number n.kind n.children child) → Number number
        by_parent number e t = λ st root reads label.
            let u = parent_found st root reads in
            t u.node (subst (ReadAt img u.node) (sym e) u.read) ∙ sym (rw u.names) ∙ formed st root label
