-- A level of the separator: what the code needs of it, and what it leaves.
use Rattle.std.specs.Prelude.{◌≡◌, Bool, ◌||◌, List, ℕ, ◌+◌, ◌-◌, ◌≤◌, length, take, drop}
use Rattle.std.proofs.Math.Path.{refl, ap}
use Rattle.std.proofs.Common.{sym, subst, ◌∙◌, arith}
use Rattle.std.proofs.Math.Bool.{true, false, cond, or_assoc}
use Rattle.model.specs.Row.{Row, nil, agg, ◌⊹◌, size, two, header, Config}
use Rattle.model.specs.Reading.{size_at}
use Rattle.model.specs.Growth.{Cut, at_d, through, start_of, separate, cut_from, grouped}
use Rattle.theory_rows.specs.Bound.{fits_parts}
use Rattle.theory_rows.specs.Cut.{goes_into, into_agg, cut_at, choose_here}
use Rattle.theory_rows.specs.Laws.{size-⊹}
use Rattle.theory_rows.specs.Fits.{Fits}
use Rattle.theory_row_bytes.specs.RowAt.{RowIs}
use Rattle.theory_page_memory.specs.Memory.{WorkMem, OutMem, group_m}
use Rattle.base_numbers.specs.Over.{over, length_over}
use Rattle.grow_pages.specs.Links.{Below, below_parted}
use Rattle.grow_split_point.specs.Kids.{Kids, head_of, kids_of, rest_of}
use Rattle.grow_split_point.specs.Chosen.{Chosen}
use Rattle.grow_split_point.specs.Level.{kids_bytes, chosen, left_bytes, inner, head_bytes, after_bytes}
use Rattle.base_layout.specs.declared.Growing.{Growing}
use Rattle.base_layout.specs.Setup.{setup_of}
use Rattle.grow_groups.specs.declared.Output.{Output}
use Rattle.grow_groups.specs.Used.{Tables, Env, env_with}
use Rattle.grow_groups.specs.Step.{InStep, Step, in_step, both_steps, under_step}
use Rattle.grow_groups.specs.Group.{Grouping}
use Rattle.grow_split.specs.declared.Children.{Children}
use Rattle.grow_split.specs.declared.Split.{Split}

-- A row to split, that stands in l from pos to end; the groups' records fit, and for the separator's row there is room.
pub record Sep (g : Growing) (ch : Children) (l : List ℕ) (u : Tables) (img : List ℕ) (room : ℕ) : Type 0 where
  pub st : Config
  pub setup : setup_of st ≡ g.setup
  pub kids : Kids l ch.pos ch.end
  pub below : Below g.setup.pages kids.row
  pub state : WorkMem
  pub same : InStep g u img state
  pub fits : Fits (separate (group_m st g.near) (cut_from st ch.p ch.pos nil kids.row) state).0
  pub within : size (separate (group_m st g.near) (cut_from st ch.p ch.pos nil kids.row) state).0 ≤ room

module _ {g : Growing} {ch : Children} {l : List ℕ} {u : Tables} {img : List ℕ} {room : ℕ} (w : Sep g ch l u img room) where
  -- Its cut, and what the model makes of it.
  abbrev pub level_cut : Cut
  level_cut = cut_from w.st ch.p ch.pos nil w.kids.row

  abbrev pub put : Row → WorkMem → OutMem
  put = group_m w.st g.near

  -- What the code leaves of the level, and where d starts.
  abbrev pub Separated : (at : ℕ) → Split → (out : List ℕ) → (u' : Tables) → (img' out' : List ℕ) → Type 0
  Separated at r out u' img' out' =
      Step g w.kids.row w.state (separate put level_cut w.state) at r.end r.full u img out u' img' out' × (r.d ≡ start_of ch.pos level_cut)

  -- A group of it, whose bytes are a part of l.
  abbrev pub grouping : {u' : Tables} {img' part : List ℕ} {room' : ℕ} (s : WorkMem) (row : Row) → InStep g u' img' s → RowIs part row → Below g.setup.pages row
      → Fits (put row s).0 × (size (put row s).0 ≤ room') → Grouping g part u' img' room'
  grouping s row same is below k =
      record { st = w.st; setup = w.setup; row = row; is = is; below = below; state = s; same = same; fits = k.0; within = k.1 }

module _ {g : Growing} {ch : Children} {l : List ℕ} {u : Tables} {img : List ℕ} {room x : ℕ} (w : Sep g ch l u img room) (c : Chosen w.st ch.p ch.pos w.kids.row x) where
  -- What the model makes of the group before the chosen child, and of that child and those after it.
  abbrev pub A : OutMem
  A = put w c.left w.state

  abbrev pub T : OutMem
  T = separate (put w) (cut_at w.st ch.p x nil c.from) A.1

  cut_is : level_cut w ≡ cut_at w.st ch.p x c.left c.from
  cut_is = choose_here w.st ch.p c.way c.last

  level_is : separate (put w) (level_cut w) w.state ≡ (A.0 ⊹ T.0, T.1)
  unfolding separate grouped
  level_is = ap (λ (k : Cut). separate (put w) k w.state) cut_is ∙ go (goes_into w.st c.from)
    where
      go : (b : Bool) → let k : Row → Cut = λ left. cond b (through left (head_of c.from) (cut_from w.st ch.p (x + 6) nil (kids_of c.from))
          (rest_of c.from)) (at_d left c.from) in
          let t = separate (put w) (k nil) A.1 in separate (put w) (k c.left) w.state ≡ (A.0 ⊹ t.0, t.1)
      go true = refl
      go false = refl

  pub rooms : Fits A.0 × Fits T.0 × (size A.0 + size T.0 ≤ room)
  rooms =
      let f = fits_parts A.0 T.0 (subst (λ (o : OutMem). Fits o.0) level_is w.fits) in
      (f.0, f.1, omega (arith, w.within, ap (λ (o : OutMem). size o.0) level_is, size-⊹ A.0 T.0))

  pub belows : Below g.setup.pages c.left × Below g.setup.pages c.from
  belows = (below_parted g.setup.pages).parts c.left c.from (subst (Below g.setup.pages) c.way.parts w.below)

  abbrev pub at_x : Kids l x ch.end
  at_x = chosen w.kids c

  abbrev pub left_group : Grouping g (take (x - ch.pos) (drop ch.pos l)) u img room
  left_group = grouping w w.state c.left w.same (left_bytes w.kids c) belows.0 (rooms.0, omega (arith, rooms.2))

-- After the left group, in an out of the same length.
pub record Left {g : Growing} {ch : Children} {l : List ℕ} {u : Tables} {img : List ℕ} {room : ℕ} (w : Sep g ch l u img room) (at x : ℕ) (r : Output)
    (u₁ : Tables) (i₁ o₁ o₀ : List ℕ) : Type 0 where
  pub is : Chosen w.st ch.p ch.pos w.kids.row x
  pub enough : at + room ≤ length o₀
  pub done : Step g is.left w.state (A w is) at r.end r.full u img o₀ u₁ i₁ o₁
  pub same : length o₁ ≡ length o₀

module _ {g : Growing} {ch : Children} {l : List ℕ} {u u₁ : Tables} {img : List ℕ} {room at x : ℕ} {r : Output} {i₁ o₁ o₀ : List ℕ} {w : Sep g ch l u img room}
    (v : Left w at x r u₁ i₁ o₁ o₀) where
  -- The child that is chosen and those after it.
  abbrev pub F : Row
  F = v.is.from

  abbrev pub s₁ : WorkMem
  s₁ = (A w v.is).1

  pub left_end : r.end ≤ length o₁
  left_end = omega (arith, v.enough, v.same, (rooms w v.is).2, v.done.next)

  pub env_left : Env g u img → Env g u₁ i₁
  env_left env = env_with env v.done.after.long v.done.as_long v.done.past

  -- What comes of them, and the level that is then done.
  pub from_room : Fits (T w v.is).0 × (size (T w v.is).0 ≤ length o₁ - r.end)
  from_room = ((rooms w v.is).1, omega (arith, v.enough, v.same, (rooms w v.is).2, v.done.next))

  done_from : (row : Row) (o : OutMem) {e : ℕ} {f : Bool} {u₂ : Tables} {i₂ o₂ : List ℕ} → F ≡ row → T w v.is ≡ o
      → Step g row s₁ o r.end e f u₁ i₁ o₁ u₂ i₂ o₂
      → Step g w.kids.row w.state (separate (put w) (level_cut w) w.state) at e (r.full || f) u img o₀ u₂ i₂ o₂
  done_from row o {e} {f} {u₂} {i₂} {o₂} k t rt =
      let a = (A w v.is).0 in
      let z : size (T w v.is).0 ≡ size o.0 = ap (λ (o : OutMem). size o.0) t in
      subst (λ (y : Row × OutMem). Step g y.0 w.state y.1 at e (r.full || f) u img o₀ u₂ i₂ o₂)
      (λ i. ((sym (v.is.way.parts ∙ ap (λ (y : Row). v.is.left ⊹ y) k)) i, sym (level_is w v.is ∙ (λ j. (a ⊹ (t j).0, (t j).1))) i))
      (both_steps v.is.left row v.done rt (omega (arith, v.enough, (rooms w v.is).2, size-⊹ a o.0)))

  -- ── the chosen child is d ──

  module _ (e : goes_into w.st F ≡ false) where
    pub apart_is : T w v.is ≡ put w F s₁
    unfolding separate grouped
    apart_is = rw e refl

    abbrev pub right_group : Grouping g (take (ch.end - x) (drop x l)) u₁ i₁ (length o₁ - r.end)
    right_group =
        grouping w s₁ F (in_step v.done) (kids_bytes (at_x w v.is)) (belows w v.is).1
        (subst (λ (o : OutMem). Fits o.0 × (size o.0 ≤ length o₁ - r.end)) apart_is from_room)

    pub done_apart : {s : Output} {u₂ : Tables} {i₂ o₂ : List ℕ} → Step g F s₁ (put w F s₁) r.end s.end s.full u₁ i₁ o₁ u₂ i₂ o₂
        → Separated w at (record { end = s.end; full = r.full || s.full; d = x }) o₀ u₂ i₂ o₂
    done_apart rt =
        let start : start_of ch.pos (cut_at w.st ch.p x v.is.left F) ≡ ch.pos + size v.is.left = rw e refl in
        (done_from F (put w F s₁) refl apart_is rt, v.is.way.here ∙ sym start ∙ sym (ap (start_of ch.pos) (cut_is w v.is)))

  -- ── the split goes on in the chosen child ──

  abbrev pub inner_cut : Cut
  inner_cut = cut_from w.st ch.p (x + 6) nil (kids_of F)

  abbrev pub B : OutMem
  B = separate (put w) inner_cut s₁

  abbrev pub C : OutMem
  C = put w (rest_of F) B.1

  module _ (e : goes_into w.st F ≡ true) where
    pub into_is : T w v.is ≡ (agg (head_of F) B.0 C.0, C.1)
    unfolding separate grouped
    into_is = rw e refl

    pub into_room : Fits B.0 × Fits C.0 × (r.end + (6 + size B.0 + size C.0) ≤ length o₁)
    into_room =
        let z = subst (λ (o : OutMem). Fits o.0 × (size o.0 ≤ length o₁ - r.end)) into_is from_room in
        (z.0.1, z.0.2, omega (arith, z.1, left_end))

    pub header_room : r.end + 6 ≤ length o₁
    header_room = omega (arith, into_room.2)

    -- Its header is written; k is its size.
    module _ {k : ℕ} (is : k ≡ size_at l x) {o₂ : List ℕ} (head : o₂ ≡ over r.end (take (x + 6 - x) (drop x l)) o₁) where
      pub header_is : o₂ ≡ over r.end (header 1 (head_of F) k) o₁
      header_is = head ∙ ap (λ (y : List ℕ). over r.end y o₁) (head_bytes (at_x w v.is) w.st e k is)

      -- The level inside it.
      abbrev pub inner_sep : Sep g (record { pos = x + 6; end = x + k; p = ch.p }) l u₁ i₁ (length o₂ - (r.end + 6))
      inner_sep = record {
        st = w.st;
        setup = w.setup;
        kids = inner (at_x w v.is) w.st e k is;
        below = (subst (Below g.setup.pages) (into_agg w.st F e) (belows w v.is).1).0;
        state = s₁;
        same = in_step v.done;
        fits = into_room.0;
        within = omega (arith, into_room.2, ap length header_is, length_over r.end (header 1 (head_of F) k) o₁ header_room);
      }

  -- After the level inside it, which leaves b.
  pub record Inside (k : ℕ) (b : Split) (o₂ : List ℕ) (u₂ : Tables) (i₂ o₃ : List ℕ) : Type 0 where
    pub into : goes_into w.st F ≡ true
    pub is : k ≡ size_at l x
    pub head : o₂ ≡ over r.end (take (x + 6 - x) (drop x l)) o₁
    pub done : Separated (inner_sep into is head) (r.end + 6) b o₂ u₂ i₂ o₃
    pub same : length o₃ ≡ length o₁

  module _ {k : ℕ} {b : Split} {u₂ : Tables} {o₂ i₂ o₃ : List ℕ} (i : Inside k b o₂ u₂ i₂ o₃) where
    pub inner_room : (r.end + 6 ≤ b.end) × (b.end ≤ length o₁)
    inner_room = omega (arith, i.done.0.next, (into_room i.into).2)

    pub env_inner : Env g u img → Env g u₂ i₂
    env_inner env = env_with (env_left env) i.done.0.after.long i.done.0.as_long i.done.0.past

    -- The group after it.
    abbrev pub rest_group : {m : ℕ} → m ≡ length o₃ → Grouping g (take (ch.end - (x + k)) (drop (x + k) l)) u₂ i₂ (m - b.end)
    rest_group y =
        grouping w B.1 (rest_of F) (in_step i.done.0) (after_bytes (at_x w v.is) w.st i.into k i.is)
        (subst (Below g.setup.pages) (into_agg w.st F i.into) (belows w v.is).1).1
        ((into_room i.into).1, omega (arith, (into_room i.into).2, i.done.0.next, i.same))

    -- The node, once its size is put right, and the group after it.
    pub done_inside : {f : Output} {u₃ : Tables} {o₄ i₃ o₅ : List ℕ} → o₄ ≡ over (r.end + 4) (two (b.end - r.end)) o₃
        → Step g (rest_of F) B.1 C b.end f.end f.full u₂ i₂ o₄ u₃ i₃ o₅
        → Separated w at (record { end = f.end; full = (r.full || b.full) || f.full; d = b.d }) o₀ u₃ i₃ o₅
    done_inside {f} p4 rl =
        let e = i.into in
        let start : start_of ch.pos (cut_at w.st ch.p x v.is.left F) ≡ start_of (ch.pos + size v.is.left + 6) inner_cut = rw e refl in
        let node = under_step (head_of F) (kids_of F) k (b.end - r.end) (header_is e i.is i.head) i.done.0 (omega (arith, inner_room)) p4
        (omega (arith, (into_room e).2)) in (
          rw (or_assoc r.full b.full f.full)
              (done_from (agg (head_of F) (kids_of F) (rest_of F)) (agg (head_of F) B.0 C.0, C.1) (into_agg w.st F e) (into_is e)
              (both_steps (agg (head_of F) (kids_of F) nil) (rest_of F) node rl (omega (arith, (into_room e).2)))),
          i.done.1 ∙ ap (λ (n : ℕ). start_of (n + 6) inner_cut) v.is.way.here ∙ sym start ∙ sym (ap (start_of ch.pos) (cut_is w v.is)),
        )
